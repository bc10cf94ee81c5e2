use mathlib.Core.Path.{◌∙◌}
use native.Mathlib.Omega.{arith}
use borrow.Author.Rules.{rules}
use borrow.Author.Tests.{tests}
use Rattle.std.proofs.lemmas.Iterator.{YieldsList-from_range}
use Rattle.std.proofs.lemmas.Iterator.Search.{all_from_yields_List}
use Rattle.logic.proofs.Lists.{all_ranged}
use Rattle.sound.specs.Maps.{place_ok}
use Rattle.sound.proofs.maps.places_ok.Goals as goal

pub returns : goal.returns
returns c =
    let P = place_ok c.args.nodes.now c.args.mappings.now in
    let n = c.args.places in
    all_from_yields_List P _ _ _ c.all.ensures.ran (YieldsList-from_range 0 n n (cc) (omega arith)) (λ x b q k. search (rules, tests)) ∙ all_ranged P n
