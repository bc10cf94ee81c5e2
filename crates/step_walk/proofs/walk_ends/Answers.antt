use mathlib.Core.Path.{sym, ◌∙◌}
use Rattle.lookup.proofs.Turns.{walk_stops, walk_ended}
use Rattle.step_walk.proofs.walk_ends.Goals as goal

pub returns-in-Ends : goal.returns-in-Ends
returns-in-Ends c = λ M. sym (walk_ended _ _ _ 0 _ (sym (c.take_turn.ensures.value M) ∙ c.in-Ends.is))

pub returns-in-Climbs : goal.returns-in-Climbs
returns-in-Climbs c = λ M. walk_stops _ _ _ _ (sym (c.take_turn.ensures.value M) ∙ c.in-Climbs.is)
