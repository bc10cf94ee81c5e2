use Rattle.lookup.proofs.Turns.{climbed_start, climbed_next, climbed_ends}
use Rattle.step_walk.proofs.walk.Goals as goal

pub loop-levels-init : goal.loop-levels-init
loop-levels-init c = climbed_start _ _ _ c.requires

pub returns-in-Ends-clause-value : goal.returns-in-Ends-clause-value
returns-in-Ends-clause-value c = λ M. climbed_ends c.loop-levels.invariant c.take_turn.ensures.value c.in-Ends.is M

pub loop-levels-preserved : goal.loop-levels-preserved
loop-levels-preserved c =
    climbed_next c.loop-levels.invariant c.loop-levels-test.true c.take_turn.ensures.value c.in-Climbs.is
    (c.take_turn.ensures.near _ c.in-Climbs.is) c.is_hidden-hidden.ensures
