use Rattle.std.proofs.Common.{◌≡◌, ◌++◌, take, drop}
use Rattle.frames.proofs.put_over.Given as goal

abbrev pub invariant-loop-k : goal.invariant-loop-k
invariant-loop-k l = l.dst ≡ take l.k l.src ++ drop l.k l.initial.dst
