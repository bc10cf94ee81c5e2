use Rattle.std.proofs.Common.{refl, rules, tests}
use Rattle.logic.proofs.Ranges.{all_in}
use Rattle.mappings.specs.Mappings.{unused, not_at}
use Rattle.mappings.proofs.is_unused.Goals as goal

pub returns : goal.returns
unfolding unused not_at
returns c = let all = all_in (not_at c.args.mappings.now c.args.number) _ _ _ _ refl c.all.ensures.ran (λ x b q k. search (rules, tests)) in cc
