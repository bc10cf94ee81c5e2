-- The test of the page entries, as the code runs it. What it means is in Facts.
use Rattle.std.specs.Prelude.{ℕ, zero, suc, ◌+◌, ◌/◌, ◌%◌, Bool, ◌&&◌, ◌||◌, not, List, eqb, leb, ltb, length, get_or, set}
use Rattle.logic.specs.Pick.{pick}
use Rattle.logic.specs.Below.{all_below, sum_below}
use Rattle.entry.specs.Entry.{low_of}
use Rattle.node.specs.Node.{hidden_of}
use Rattle.tables.specs.Tables.{node_of, entry_of}
use Rattle.sound.specs.declared.rows.Row.{Row}

-- an entry of page i in a node of that size: absent; or a frame below F, with a tag and no pins in a hidden node, pins and no tag in a leaf
unfoldable pub entry_ok : Bool → ℕ → ℕ → ℕ → ℕ → Bool
entry_ok hidden size F i e =
    eqb e 0
    || (leb 1 (low_of e) && leb (low_of e) F && ltb i size
    && (hidden && ltb e 12288 || not hidden && ltb e 524288 && eqb (e / 4096 % 4) 0))

unfoldable pub entry_ok_at : Bool → ℕ → ℕ → List ℕ → ℕ → ℕ → Bool
entry_ok_at hidden size F pages n i = entry_ok hidden size F i (entry_of pages n i)

unfoldable pub row_ok : Bool → ℕ → ℕ → List ℕ → ℕ → Bool
row_ok hidden size F pages n = all_below (entry_ok_at hidden size F pages n) 64

unfoldable pub pins_at : List ℕ → ℕ → ℕ → ℕ
pins_at pages n i = entry_of pages n i / 16384

unfoldable pub row_pins : List ℕ → ℕ → ℕ
row_pins pages n = sum_below (pins_at pages n) 64

abbrev pub one_if : ℕ → ℕ
one_if e = pick (eqb e 0) 0 1

unfoldable pub present_at : List ℕ → ℕ → ℕ → ℕ
present_at pages n i = one_if (entry_of pages n i)

unfoldable pub row_count : List ℕ → ℕ → ℕ
row_count pages n = sum_below (present_at pages n) 64

-- a row so far, with one entry more; and after i entries
abbrev pub row_of : Bool → ℕ → ℕ → Row
row_of b p s = record { ok = b; pins = p; seen = s }

unfoldable pub row_next : Bool → ℕ → ℕ → ℕ → ℕ → Row → Row
row_next hidden size F i e row =
    row_of (row.ok && entry_ok hidden size F i e) (row.pins + e / 16384) (row.seen + one_if e)

unfoldable pub walked : Bool → ℕ → ℕ → List ℕ → ℕ → ℕ → Row
walked hidden size F pages n i =
    row_of (all_below (entry_ok_at hidden size F pages n) i) (sum_below (pins_at pages n) i) (sum_below (present_at pages n) i)

-- the row's entries, and no more pins than the node's count
unfoldable pub row_test : List ℕ → List ℕ → ℕ → ℕ → Bool
row_test nodes pages F n =
    row_ok (hidden_of (node_of nodes n)) (node_of nodes n).size F pages n && leb (row_pins pages n) (node_of nodes n).pin_count

unfoldable pub rows_ok : List ℕ → List ℕ → ℕ → Bool
rows_ok nodes pages F = all_below (row_test nodes pages F) 64

-- a mark counts how often a number stands: 0, 1, or 2 for more than once
abbrev pub more_of : ℕ → ℕ
more_of mark = pick (eqb mark 0) 1 2

unfoldable pub mark_entry : List ℕ → ℕ → List ℕ
mark_entry marks e = pick (eqb e 0) marks (set marks (low_of e) (more_of (get_or marks (low_of e) 0)))

-- the entries g 0, .., g (k - 1) marked; and the first n rows
unfoldable pub mark_run : (ℕ → ℕ) → ℕ → List ℕ → List ℕ
mark_run g zero marks = marks
mark_run g (suc k) marks = mark_entry (mark_run g k marks) (g k)

unfoldable pub mark_rows : List ℕ → ℕ → List ℕ → List ℕ
mark_rows pages zero marks = marks
mark_rows pages (suc n) marks = mark_run (entry_of pages n) 64 (mark_rows pages n marks)

-- in use exactly if it stands, and at most once
unfoldable pub frame_ok : List ℕ → List ℕ → ℕ → Bool
frame_ok used marks f = eqb (get_or used f 0) (get_or marks (f + 1) 0) && leb (get_or used f 0) 1

unfoldable pub frames_ok : List ℕ → List ℕ → Bool
frames_ok used marks = all_below (frame_ok used marks) (length used)
