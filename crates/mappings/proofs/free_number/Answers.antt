use Rattle.std.proofs.Common.{rules, tests}
use Rattle.logic.proofs.Ranges.{found_in}
use Rattle.mappings.specs.Mappings.{free_number, unused}
use Rattle.mappings.proofs.free_number.Goals as goal

pub returns-clause-value : goal.returns-clause-value
unfolding free_number
returns-clause-value c = let found = found_in (unused c.args.mappings.now) _ _ _ _ c.find.ensures.ran (λ x b q k. search (rules, tests)) in cc
