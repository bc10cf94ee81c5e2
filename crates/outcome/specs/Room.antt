-- The room that a call asks of the lent list of notices.
use Rattle.std.specs.Prelude.{ℕ, ◌*◌, ◌/◌, Bool, List, eqb, leb, length}
use Rattle.logic.specs.Pick.{pick}
use Rattle.logic.specs.Below.{sum_below}
use Rattle.tables.specs.Tables.{number_of}

unfoldable pub live_one : List ℕ → ℕ → ℕ
live_one M i = pick (eqb (number_of M i) 0) 0 1

-- how many mappings are live
unfoldable pub live_count : List ℕ → ℕ
live_count M = sum_below (live_one M) 64

-- the list is no shorter than the pages touched times the live mappings
unfoldable pub room_of : List ℕ → List ℕ → ℕ → Bool
room_of M list pages = leb (pages * live_count M) (length list / 4)
