use mathlib.Core.Path.{◌≡◌}
use Prim.Native.Nat.{◌-◌, ◌+◌}
use Rattle.logic.specs.Below.{copied}
use Rattle.mappings.proofs.close_up.Given as goal

abbrev pub invariant-loop-k : goal.invariant-loop-k
invariant-loop-k l = l.mappings ≡ copied l.initial.mappings l.a l.initial.mappings (l.a + 4) (l.k - l.a)
