use Rattle.std.proofs.Common.{◌≡◌}
use Rattle.logic.specs.Below.{copied}
use Rattle.tables.proofs.put_all.Given as goal

abbrev pub invariant-loop-k : goal.invariant-loop-k
invariant-loop-k l = l.s ≡ copied l.initial.s l.i l.words 0 l.k
