use Rattle.std.proofs.Common.{rules, tests}
use Rattle.logic.proofs.Ranges.{found_in}
use Rattle.mappings.specs.Mappings.{free_place, is_free_at}
use Rattle.mappings.proofs.free_place.Goals as goal

pub returns : goal.returns
unfolding free_place is_free_at
returns c = let found = found_in (is_free_at c.args.mappings.now) _ _ _ _ c.find.ensures.ran (λ x b q k. search (rules, tests)) in cc
