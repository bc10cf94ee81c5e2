-- Turns of the walk along the page entries. Assumes nothing.
use mathlib.Core.Path.{◌≡◌, refl, sym, ap, ◌∙◌}
use mathlib.Core.Bool.{Bool, true, false, ◌&&◌, ◌||◌, not, and-true}
use mathlib.Core.List.{List}
use Prim.Native.Nat.{ℕ, zero, suc, ◌+◌, ◌-◌, ◌*◌, ◌/◌, ◌%◌, ◌≤◌, ◌<◌}
use native.Mathlib.Omega.{arith}
use native.Mathlib.Numerals.{add-one}
use lib.Dec.{eqb, leb, ltb}
use lib.ListN.{length, get_or, set, take, drop}
use lib.Seq.{set_out}
use Rattle.std.specs.List.{sum_by, fold, zip}
use Rattle.std.proofs.lemmas.Slice.Zip.{length-zip, get_or-zip}
use Rattle.std.proofs.lemmas.List.{get_or-take, get_or-drop, length-take, length-drop}
use borrow.Author.Tests.{eq-eqb, ne_eqb, eqb-true, eqb-false, le-leb, lt-ltb}
use Rattle.logic.specs.Pick.{pick}
use Rattle.logic.specs.Below.{all_below, sum_below}
use Rattle.logic.proofs.Laws.{run_rest}
use Rattle.entry.specs.Entry.{low_of}
use Rattle.node.specs.declared.Node.{Node}
use Rattle.node.specs.Node.{hidden_of}
use Rattle.tables.specs.Tables.{node_of, entry_of}
use Rattle.sound.specs.declared.rows.Row.{Row}
use Rattle.logic.proofs.Lists.{sum_listed, sum_same, all_listed, all_same, fold_both}
use Rattle.sound.specs.Rows.{one_if, entry_ok, entry_ok_at, row_ok, pins_at, row_pins, present_at, row_count, row_of, row_next, walked, row_test, more_of, mark_entry, mark_run, mark_rows, frame_ok, frames_ok}

entry_in : (pages : List ℕ) (n i : ℕ) → i < 64 → get_or pages (n * 64 + i) 0 ≡ entry_of pages n i
unfolding entry_of
entry_in pages n i h = rw (lt-ltb _ _ h)

-- a row as a part of the table

abbrev pub row_at : List ℕ → ℕ → List ℕ
row_at pages n = take (n * 64 + 64 - n * 64) (drop (n * 64) pages)

pub row_length : (pages : List ℕ) (n : ℕ) → length pages ≡ 4096 → n < 64 → length (row_at pages n) ≡ 64
row_length pages n e l = simp (length-take, length-drop) (omega arith)

pub row_reads : (pages : List ℕ) (n i : ℕ) → i < 64 → get_or (row_at pages n) i 0 ≡ get_or pages (n * 64 + i) 0
row_reads pages n i h = let w : n * 64 + 64 - n * 64 ≡ 64 = omega arith in rw (w, get_or-take, get_or-drop)

pub entry_at : (pages : List ℕ) (n i : ℕ) → i < 64 → get_or (row_at pages n) i 0 ≡ entry_of pages n i
entry_at pages n i h = row_reads pages n i h ∙ entry_in pages n i h

pub counted : (pages : List ℕ) (n : ℕ) → length pages ≡ 4096 → n < 64 → sum_by one_if (row_at pages n) ≡ row_count pages n
unfolding row_count present_at
counted pages n e l =
    sum_listed one_if (row_at pages n) (row_length pages n e l)
    ∙ sum_same (λ i. one_if (get_or (row_at pages n) i 0)) (present_at pages n) 64 (λ i h. ap one_if (entry_at pages n i h))

pub run_next : (g : ℕ → ℕ) (k : ℕ) (marks : List ℕ) {s t : List ℕ} {e : ℕ} → s ≡ mark_run g k marks → e ≡ g k → t ≡ mark_entry s e → t ≡ mark_run g (k + 1) marks
unfolding mark_run
run_next g k marks p q h = h ∙ rw (add-one, p, q)

pub rows_next : (pages : List ℕ) (n : ℕ) (marks : List ℕ) {s t : List ℕ} → s ≡ mark_rows pages n marks → t ≡ mark_run (entry_of pages n) 64 s → t ≡ mark_rows pages (n + 1) marks
unfolding mark_rows
rows_next pages n marks p h = h ∙ rw (add-one, p)

pub mark_here : (marks : List ℕ) (e : ℕ) {m : ℕ} → (e ≡ 0 → ⊥) → m ≡ more_of (get_or marks (low_of e) 0) → set marks (low_of e) m ≡ mark_entry marks e
unfolding mark_entry
mark_here marks e h p = rw (ne_eqb _ _ h, p)

pub mark_past : (marks : List ℕ) (e : ℕ) → (e ≡ 0 → ⊥) → length marks ≤ low_of e → marks ≡ mark_entry marks e
unfolding mark_entry
mark_past marks e h l = rw (ne_eqb _ _ h) (sym (set_out marks (low_of e) (more_of (get_or marks (low_of e) 0)) l))

pub mark-none : (marks : List ℕ) (e : ℕ) → e ≡ 0 → marks ≡ mark_entry marks e
unfolding mark_entry
mark-none marks e h = rw (eq-eqb _ _ h)

pub row_same : (hidden : Bool) (size F i e : ℕ) (row : Row) → e ≡ 0 → row ≡ row_next hidden size F i e row
unfolding row_next entry_ok
row_same hidden size F i e row h =
    let p : row.pins + 0 ≡ row.pins = omega arith in
    let s : row.seen + 0 ≡ row.seen = omega arith in
    rw (h, p, s) (rw (and-true row.ok))

pub row_more : (hidden : Bool) (size F i e : ℕ) (row : Row) {b : Bool} → (e ≡ 0 → ⊥) → b ≡ entry_ok hidden size F i e → row_of (row.ok && b) (row.pins + e / 16384) (row.seen + 1) ≡ row_next hidden size F i e row
unfolding row_next
row_more hidden size F i e row h p = rw (p, ne_eqb _ _ h)

-- a plain entry: its frame alone

module _ (e : ℕ) (most : e < 4096) where
  plain_low : low_of e ≡ e
  plain_low = omega arith

  pub mark_plain : (marks : List ℕ) {m : ℕ} → 1 ≤ e → m ≡ more_of (get_or marks e 0) → set marks e m ≡ mark_entry marks e
  unfolding mark_entry
  mark_plain marks l p = rw (ne_eqb e 0 (omega arith), plain_low, p)

pub row_plain : (hidden : Bool) (size F i e : ℕ) (row : Row) {r : Row} → (e ≡ 0 → ⊥) → e ≤ F → F ≤ 1024 → r ≡ row_of (row.ok && ltb i size) row.pins (row.seen + 1) → r ≡ row_next hidden size F i e row
unfolding row_next entry_ok
row_plain hidden size F i e row h l m p =
    let low : low_of e ≡ e = omega arith in
    let pins : row.pins + e / 16384 ≡ row.pins = omega arith in
    let tag : e / 4096 % 4 ≡ 0 = omega arith in
    p ∙ rw (ne_eqb e 0 h, low, pins, tag, le-leb 1 e (omega arith), le-leb e F l, lt-ltb e 12288 (omega arith), lt-ltb e 524288 (omega arith)) (by hidden (ltb i size))
  where
    by : (a b : Bool) → row_of (row.ok && b) row.pins (row.seen + 1) ≡ row_of (row.ok && (true && true && b && (a && true || not a && true && true))) row.pins (row.seen + 1)
    by true true = refl
    by true false = refl
    by false true = refl
    by false false = refl

pub next_pins : (hidden : Bool) (size F i e : ℕ) (row : Row) {r : Row} → r ≡ row_next hidden size F i e row → r.pins ≡ row.pins + e / 16384
unfolding row_next
next_pins hidden size F i e row h = ap (λ (t : Row). t.pins) h

-- turns of the walk along a row, and its end

one_most : (b : Bool) → pick b 0 1 ≤ 1
one_most true = omega arith
one_most false = omega arith

count_most : (pages : List ℕ) (n i : ℕ) → sum_below (present_at pages n) i ≤ i
unfolding sum_below present_at
count_most pages n zero = omega arith
count_most pages n (suc i) = let h = count_most pages n i in let k = one_most (eqb (entry_of pages n i) 0) in omega arith

-- a sum that has not grown had nothing to add
grows : (f : ℕ → ℕ) (i k : ℕ) → sum_below f i ≤ sum_below f (k + i)
unfolding sum_below
grows f i zero = let e : 0 + i ≡ i = omega arith in rw e (omega arith)
grows f i (suc k) = let e : suc k + i ≡ suc (k + i) = omega arith in let h = grows f i k in rw e (omega arith)

nothing_more : (f : ℕ → ℕ) (i j n : ℕ) → i ≤ j → j < n → sum_below f n ≤ sum_below f i → f j ≡ 0
unfolding sum_below
nothing_more f i j n l m h =
    let a = grows f i (j - i) in
    let p : j - i + i ≡ j = omega arith in
    let b = grows f (suc j) (n - suc j) in
    let q : n - suc j + suc j ≡ n = omega arith in
    let a' = rw p at a in
    let b' = rw q at b in
    omega arith

absent_by : (e : ℕ) (b : Bool) → eqb e 0 ≡ b → ◌≡◌ {A = ℕ} (pick b 0 1) 0 → e ≡ 0
absent_by e true t h = eqb-true e 0 t
absent_by e false t h = absurd (omega arith)

module _ (hidden : Bool) (size F : ℕ) (pages : List ℕ) (n : ℕ) where
  pub walk-next : (i : ℕ) {row r : Row} {e : ℕ} → row ≡ walked hidden size F pages n i → e ≡ entry_of pages n i → r ≡ row_next hidden size F i e row → r ≡ walked hidden size F pages n (i + 1)
  unfolding row_next walked entry_ok_at pins_at present_at all_below sum_below
  walk-next i p q h = h ∙ rw (add-one, p, q)

  pub seen_most : (i : ℕ) {row : Row} → row ≡ walked hidden size F pages n i → row.seen ≤ i
  unfolding walked
  seen_most i p = rw p (count_most pages n i)

  -- while an entry is left the walk is inside the row
  pub walk_inside : (i : ℕ) {row : Row} {c : ℕ} → row ≡ walked hidden size F pages n i → c ≡ row_count pages n → i ≤ 64 → row.seen < c → i < 64
  unfolding row_count walked
  walk_inside i {row} p q l m = by (eqb i 64) refl (ap (λ (t : Row). t.seen) p)
    where
      by : (b : Bool) → eqb i 64 ≡ b → row.seen ≡ sum_below (present_at pages n) i → i < 64
      by true t s = let e = eqb-true i 64 t in let z = rw e at s in absurd (omega arith)
      by false t s = let e = eqb-false i 64 t in omega arith

  module _ (i : ℕ) (l : i ≤ 64) (m : sum_below (present_at pages n) 64 ≤ sum_below (present_at pages n) i) where
    rest : (j : ℕ) → i ≤ j → j < 64 → entry_of pages n j ≡ 0
    unfolding present_at
    rest j a b = absent_by (entry_of pages n j) (eqb (entry_of pages n j) 0) refl (nothing_more (present_at pages n) i j 64 a (omega arith) m)

    walked_same : (j : ℕ) → i ≤ j → j < 64 → walked hidden size F pages n (suc j) ≡ walked hidden size F pages n j
    unfolding walked all_below sum_below entry_ok_at pins_at present_at row_next
    walked_same j a b =
        rw (rest j a b) (sym (row_same hidden size F j 0 (walked hidden size F pages n j) refl))

    marks_same : (marks : List ℕ) (j : ℕ) → i ≤ j → j < 64 → mark_run (entry_of pages n) (suc j) marks ≡ mark_run (entry_of pages n) j marks
    unfolding mark_run
    marks_same marks j a b = sym (mark-none (mark_run (entry_of pages n) j marks) (entry_of pages n j) (rest j a b))

    pub walk_end : {row : Row} → row ≡ walked hidden size F pages n i → row ≡ walked hidden size F pages n 64
    walk_end p = p ∙ run_rest (walked hidden size F pages n) i 64 l walked_same

    pub marks_end : (marks : List ℕ) {t : List ℕ} → t ≡ mark_run (entry_of pages n) i marks → t ≡ mark_run (entry_of pages n) 64 marks
    marks_end marks p = p ∙ run_rest (λ k. mark_run (entry_of pages n) k marks) i 64 l (marks_same marks)

-- frames with their marks: a frame's is the one after its place

frame_at : (used marks : List ℕ) (i : ℕ) → i < length used → length used < length marks → (eqb (get_or (zip used (drop 1 marks)) i (0, 0)).0 (get_or (zip used (drop 1 marks)) i (0, 0)).1 && leb (get_or (zip used (drop 1 marks)) i (0, 0)).0 1) ≡ frame_ok used marks i
unfolding frame_ok
frame_at used marks i h l =
    let r : length (drop 1 marks) ≡ length marks - 1 = length-drop 1 marks in
    let k : i < length (drop 1 marks) = omega arith in
    let s : i + 1 ≡ 1 + i = omega arith in
    rw (get_or-zip used (drop 1 marks) i (0, 0) h k, get_or-drop 1 marks i 0, s)

pub frames_by : (used marks : List ℕ) → length used < length marks → fold (λ ok (p : ℕ × ℕ). ok && eqb p.0 p.1 && leb p.0 1) true (zip used (drop 1 marks)) ≡ frames_ok used marks
unfolding frames_ok frame_ok
frames_by used marks l =
    let n = length used in
    let rest = drop 1 marks in
    let r : length rest ≡ length marks - 1 = length-drop 1 marks in
    let z : length (zip used rest) ≡ n = omega (arith, length-zip used rest) in
    fold_both (λ (p : ℕ × ℕ). eqb p.0 p.1) (λ (p : ℕ × ℕ). leb p.0 1) true (zip used rest)
    ∙ all_listed (λ (p : ℕ × ℕ). eqb p.0 p.1 && leb p.0 1) (zip used rest) (0, 0) z
    ∙ all_same (λ i. let p = get_or (zip used rest) i (0, 0) in eqb p.0 p.1 && leb p.0 1) (frame_ok used marks) n (λ i h. frame_at used marks i h l)

pub row_by : (nodes pages : List ℕ) (F n : ℕ) {r : Node} {h : Bool} {row : Row} → r ≡ node_of nodes n → h ≡ hidden_of r → row ≡ walked h r.size F pages n 64 → (row.ok && leb row.pins r.pin_count) ≡ row_test nodes pages F n
unfolding row_test row_ok row_pins walked
row_by nodes pages F n e h w = rw (w, h, e)
