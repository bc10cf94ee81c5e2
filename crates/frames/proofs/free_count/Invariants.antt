use Rattle.std.proofs.Common.{◌≡◌, ◌≤◌, nat_eq, take}
use Rattle.std.specs.List.{count_by}
use Rattle.frames.proofs.free_count.Given as goal

abbrev pub invariant-loop-flag : goal.invariant-loop-flag
invariant-loop-flag l = (l.free ≤ l.flag-index) × (l.free ≡ count_by (λ flag. nat_eq flag 0) (take l.flag-index l.flags))
