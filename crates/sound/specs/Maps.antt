-- The test of the mappings, as the code runs it. What it means is in Facts.
use Rattle.std.specs.Prelude.{ℕ, ◌+◌, Bool, ◌&&◌, List, eqb, leb, get_or, replicate}
use Rattle.logic.specs.Pick.{pick}
use Rattle.logic.specs.Below.{all_below}
use Rattle.node.specs.Node.{leaf_of}
use Rattle.tables.specs.declared.Mapping.{Mapping}
use Rattle.tables.specs.Tables.{node_of, mapping_of, number_of}
use Rattle.sound.specs.Rows.{mark_run}

unfoldable pub mapping_ok : List ℕ → Mapping → Bool
mapping_ok nodes m =
    leb 1 m.number && leb m.number 64 && leaf_of (node_of nodes m.object) && leb 1 m.pages
    && leb (m.first + m.pages) 64

abbrev pub blank_of : Mapping → Bool
blank_of m = eqb m.number 0 && eqb m.object 0 && eqb m.first 0 && eqb m.pages 0

-- a free place has no mapping after it
unfoldable pub place_ok : List ℕ → List ℕ → ℕ → Bool
place_ok nodes mappings i =
    pick (blank_of (mapping_of mappings i)) (eqb (number_of mappings (i + 1)) 0) (mapping_ok nodes (mapping_of mappings i))

unfoldable pub places_ok : List ℕ → List ℕ → Bool
places_ok nodes mappings = all_below (place_ok nodes mappings) 64

abbrev pub once_at : List ℕ → ℕ → Bool
once_at marks i = leb (get_or marks i 0) 1

unfoldable pub mappings_ok : List ℕ → List ℕ → Bool
mappings_ok nodes mappings =
    places_ok nodes mappings && all_below (once_at (mark_run (number_of mappings) 64 (replicate 65 0))) 65
