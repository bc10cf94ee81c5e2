use Rattle.std.proofs.Common.{rules, tests, true, not, ◌&&◌, ◌==◌}
use Rattle.std.proofs.lemmas.Iterator.{YieldsList-from_slice}
use Rattle.std.proofs.lemmas.Iterator.Consumers.{fold_from_yields_List}
use mathlib.Core.Path.{◌∙◌}
use Rattle.logic.proofs.Lists.{fold_all}
use Rattle.frames.proofs.all_used.Goals as goal

pub returns : goal.returns
returns c =
    let flags = c.args.flags.now in
    fold_from_yields_List _ (λ a x. a && not (x == 0)) true _ c.fold.ensures.ran (YieldsList-from_slice flags (cc)) (λ a x b q k. search (rules, tests))
    ∙ fold_all (λ x. not (x == 0)) true flags
