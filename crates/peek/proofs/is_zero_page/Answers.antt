use Rattle.std.proofs.Common.{rules, tests, true, ◌&&◌, eqb}
use Rattle.std.proofs.lemmas.Iterator.{YieldsList-from_slice}
use Rattle.std.proofs.lemmas.Iterator.Consumers.{fold_from_yields_List}
use Rattle.peek.proofs.Laws.{zeros_all}
use Rattle.peek.proofs.is_zero_page.Goals as goal

pub returns-then-zero-eq4096 : goal.returns-then-zero-eq4096
returns-then-zero-eq4096 c =
    zeros_all _ c.if-zero-eq4096.true
    (fold_from_yields_List _ (λ a x. a && eqb x 0) true _ c.fold.ensures.ran (YieldsList-from_slice c.args.zero.now (cc))
    (λ a x b q k. search (rules, tests)))
