use mathlib.Core.Path.{◌∙◌}
use mathlib.Core.Bool.{◌&&◌, true}
use borrow.Author.Rules.{rules}
use borrow.Author.Tests.{tests}
use Rattle.std.specs.List.{range_with_len}
use Rattle.std.proofs.lemmas.Iterator.{YieldsList-from_range}
use Rattle.std.proofs.lemmas.Iterator.Consumers.{fold_from_yields_List}
use Rattle.logic.proofs.Lists.{all_ranged, fold_all}
use Rattle.sound.specs.Tree.{node_ok, nodes_ok}
use Rattle.sound.proofs.tree.nodes_ok.Goals as goal

pub returns : goal.returns
unfolding nodes_ok
returns c =
    let P = node_ok c.args.whole.nodes.now c.args.next in
    fold_from_yields_List _ (λ ok node. ok && P node) true c.fold.result c.fold.ensures.ran (YieldsList-from_range 0 64 64 (cc) (cc)) (λ a x b q k. search (rules, tests))
    ∙ fold_all P true (range_with_len 0 64) ∙ all_ranged P 64
