use Rattle.std.proofs.Common.{rules, tests, true, ◌&&◌, ◌==◌}
use Rattle.std.proofs.lemmas.Iterator.{YieldsList-from_slice}
use Rattle.std.proofs.lemmas.Iterator.Consumers.{fold_from_yields_List}
use mathlib.Core.Path.{◌∙◌}
use Rattle.logic.proofs.Lists.{fold_all}
use Rattle.tables.proofs.live.is_blank.Goals as goal

pub returns : goal.returns
returns c =
    let words = c.args.words.now in
    fold_from_yields_List _ (λ a x. a && x == 0) true _ c.fold.ensures.ran (YieldsList-from_slice words (cc)) (λ a x b q k. search (rules, tests))
    ∙ fold_all (λ x. x == 0) true words
