use Rattle.std.proofs.Common.{◌≡◌}
use Rattle.logic.specs.Below.{copied}
use Rattle.frames.proofs.copy_frame.Given as goal

abbrev pub invariant-loop-k : goal.invariant-loop-k
invariant-loop-k l = l.memory ≡ copied l.initial.memory l.a l.initial.memory l.b l.k
