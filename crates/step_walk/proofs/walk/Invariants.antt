use Rattle.lookup.proofs.Turns.{Climbed}
use Rattle.step_walk.proofs.walk.Given as goal

abbrev pub invariant-loop-levels : goal.invariant-loop-levels
invariant-loop-levels l = Climbed l.nodes l.pages l.initial.top l.levels l.top l.hidden
