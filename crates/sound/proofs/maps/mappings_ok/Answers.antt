use mathlib.Core.Path.{◌∙◌}
use lib.Dec.{leb}
use borrow.Author.Rules.{rules}
use borrow.Author.Tests.{tests}
use Rattle.std.proofs.lemmas.Iterator.{YieldsList-from_slice}
use Rattle.std.proofs.lemmas.Iterator.Search.{all_from_yields_List}
use Rattle.logic.proofs.Lists.{all_listed}
use Rattle.sound.proofs.MapLaws.{mappings_by}
use Rattle.sound.proofs.maps.mappings_ok.Goals as goal

pub returns : goal.returns
returns c =
    let live = c.live_places-places.ensures in
    let marks = c.mark_numbers.new.marks in
    let once = all_from_yields_List (λ m. leb m 1) _ _ _ c.all.ensures.ran (YieldsList-from_slice marks (cc)) (λ x b q k. search (rules, tests)) in
    mappings_by _ _ c.requires live.0 live.1 _ c.mark_numbers.ensures c.places_ok.ensures (once ∙ all_listed (λ m. leb m 1) marks 0 (search rules))
