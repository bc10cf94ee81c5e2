-- The test of the lent pool, as the code runs it, for pages of L bytes. What it means is in Facts.
use Rattle.std.specs.Prelude.{ℕ, ◌*◌, Bool, false, ◌&&◌, List, eqb, leb, length, get_or, replicate}
use Rattle.logic.specs.Pick.{pick}
use Rattle.tables.specs.Pool.{Pool}
use Rattle.sound.specs.Tree.{nodes_ok, chains_end, starts_ok}
use Rattle.sound.specs.Rows.{rows_ok, mark_rows, frames_ok}
use Rattle.sound.specs.Maps.{mappings_ok}

unfoldable pub lengths_ok : ℕ → Pool → Bool
lengths_ok L p =
    pick (leb (length p.used) 1024)
    (eqb (length p.nodes) 1024 && eqb (length p.pages) 4096 && eqb (length p.mappings) 256
    && eqb (length p.head) 4 && leb 1 (length p.used) && eqb (length p.memory) (length p.used * L))
    false

abbrev pub head_ok : ℕ → Bool
head_ok next = leb 1 next && leb next 16777216

unfoldable pub tables_ok : List ℕ → List ℕ → List ℕ → List ℕ → ℕ → Bool
tables_ok nodes pages used mappings next =
    head_ok next && nodes_ok nodes next && chains_end nodes && starts_ok nodes next && rows_ok nodes pages (length used)
    && frames_ok used (mark_rows pages 64 (replicate 1025 0)) && mappings_ok nodes mappings

unfoldable pub sound : ℕ → Pool → Bool
sound L p =
    pick (lengths_ok L p) (tables_ok p.nodes p.pages p.used p.mappings (get_or p.head 0 0)) false
