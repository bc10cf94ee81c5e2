use Rattle.std.proofs.Common.{rules, tests}
use Rattle.logic.proofs.Ranges.{found_in}
use Rattle.mappings.specs.Mappings.{place_of, is_at}
use Rattle.mappings.proofs.place_of.Goals as goal

pub returns-clause-value : goal.returns-clause-value
unfolding place_of
returns-clause-value c = let found = found_in (is_at c.args.mappings.now c.args.object c.args.number) _ _ _ _ c.find.ensures.ran (λ x b q k. search (rules, tests)) in cc
