-- A read of one whole page is one step, and it gives what the walk shows. Assumes nothing.
use Rattle.std.specs.Prelude.{Ok, Some}
use mathlib.Core.Path.{◌≡◌, refl, sym, ap, ◌∙◌}
use mathlib.Core.Bool.{true, false}
use mathlib.Core.List.{List, []}
use Prim.Native.Nat.{ℕ, ◌+◌, ◌-◌, ◌*◌, ◌/◌, ◌≤◌}
use native.Mathlib.Omega.{arith}
use lib.Arith.{digits_div}
use lib.ListN.{length}
use lib.Seq.{ext_get_or}
use Rattle.logic.proofs.Means.{less, split}
use Rattle.blocks.specs.declared.BlockIter.{BlockIter}
use Rattle.blocks.specs.declared.BlockRange.{BlockRange}
use Rattle.blocks.specs.Blocks.{iter_of, next_of, count_of}
use Rattle.tables.specs.Pool.{Pool}
use Rattle.outcome.specs.Told.{told_of}
use Rattle.lookup.specs.Work.{work_of}
use Rattle.lookup.specs.Commit.{Committing, commit_leaf, Committed}
use Rattle.sound.specs.Facts.{Leaf, Sound}
use Rattle.lookup.specs.declared.End.{End}
use Rattle.lookup.specs.declared.End.TheVariants.{Has, Bare, Tired}
use Rattle.lookup.specs.Mode.{today, place_of}
use Rattle.lookup.specs.Descent.{walk}
use Rattle.page.specs.Each.{Part, part_of, onward, each}
use Rattle.page.specs.Pages.{against_read, Read, read_of, look_read, read_through, read_by, read_page}
use Rattle.ranges.specs.Ranges.{filled, read_range}
use Rattle.arrays.proofs.Blocks.{cut, count_none}
use Rattle.peek.specs.Peek.{zero_page_of, shown_by, shown_at}
use Rattle.shows.specs.Shows.{ReadAs, Sees, Peeked}
use Rattle.shows.specs.Shows.Peeked.{bytes}
use Rattle.shows.proofs.Walk.{walk-reads}
use Rattle.shows.proofs.Bytes.{shown-length, shown-filled}

-- the range of one page is one block

record Whole (L page : ℕ) : Type 0 where
  block : BlockRange
  rest : BlockIter
  next : next_of L (iter_of (page * L) (page * L + L)) ≡ Some (block, rest)
  number : block.block ≡ page
  begin : block.begin ≡ 0
  end : block.end ≡ L
  count : count_of L (iter_of (page * L) (page * L + L)) ≡ 1

whole_page : (L page : ℕ) → 1 ≤ L → Whole L page
whole_page L page one =
    let it = iter_of (page * L) (page * L + L) in
    let c = cut L one it (omega arith) in
    let b = c.block in
    let f = c.first in
    let z : page * L ≡ page * L + 0 = omega arith in
    let n : b.block ≡ page = f.block ∙ ap (λ (x : ℕ). x / L) z ∙ digits_div page one in
    let m : b.block * L ≡ page * L = ap (λ (x : ℕ). x * L) n in
    let s = f.starts in
    let g = f.goes_on in
    let i = f.inside in
    let e : b.end ≡ L = split (less c.rest.begin (page * L + L)) (λ l. f.whole l) (λ past. omega arith) in
    let t = f.to_end in
    let k = f.count in
    let o = count_none L c.rest.begin c.rest.end (omega arith) in
    record { block = b; rest = c.rest; next = c.next; number = n; begin = omega arith; end = e; count = omega arith }

-- a run of one step that isn't refused

each-one : {C S : Type 0} (step : C → S → Part C S) (c : C) (s : S) → (step c s).why ≡ Ok tt → each step 1 c s ≡ part_of (Ok tt) (step c s).rest (step c s).state
unfolding each onward
each-one step c s h = rw h

fine : (F : ℕ) (x : End) (z : Committed) → ReadAs F x z → against_read z ≡ Ok tt
fine F (Has s) z a = rw a.0
fine F Bare z a = rw a
fine F Tired z a = absurd a

module _ (L : ℕ) (one : 1 ≤ L) (p : Pool) (sound : Sound L p) (n page : ℕ) (leaf : Leaf p.nodes n) (zero : List ℕ) (good : zero_page_of L zero ≡ true) (buf : List ℕ) (whole : length buf ≡ L) where
  abbrev looked : Committing
  looked = commit_leaf L p.nodes p.mappings (work_of p.pages p.used p.memory (told_of [] 0)) n page false

  sees : Sees (length p.used) (walk (today L p.nodes p.mappings) 64 p.pages (place_of n page n)).end (work_of p.pages p.used p.memory (told_of [] 0)) looked
  sees = walk-reads L p sound p.mappings p.used p.memory (told_of [] 0) n page leaf

  w : Whole L page
  w = whole_page L page one

  step_is : read_page L p.nodes p.mappings n (page * L) (iter_of (page * L) (page * L + L)) (read_of p.pages p.used p.memory buf)
      ≡ read_through L 0 w.block (iter_of (page * L) (page * L + L)) w.rest buf (look_read L p.nodes p.mappings p.pages p.used p.memory n page)
  unfolding read_page read_by
  step_is = let z : page * L - page * L ≡ 0 = omega arith in rw (w.next, w.number, z)

  abbrev gone : Part BlockIter Read
  gone = read_through L 0 w.block (iter_of (page * L) (page * L + L)) w.rest buf (look_read L p.nodes p.mappings p.pages p.used p.memory n page)

  gone_fine : gone.why ≡ Ok tt
  unfolding read_through look_read
  gone_fine = fine (length p.used) (walk (today L p.nodes p.mappings) 64 p.pages (place_of n page n)).end looked.answer sees.answer

  range_is : read_range L p.nodes p.mappings n (page * L) (read_of p.pages p.used p.memory buf) ≡ part_of (Ok tt) gone.rest gone.state
  unfolding read_range
  range_is =
      rw (whole, w.count)
      (each-one (read_page L p.nodes p.mappings n (page * L)) (iter_of (page * L) (page * L + L)) (read_of p.pages p.used p.memory buf) (ap (λ (q : Part BlockIter Read). q.why) step_is ∙ gone_fine)
      ∙ ap (λ (q : Part BlockIter Read). part_of (Ok tt) q.rest q.state) step_is)

  gone_bytes : shown_at L p.memory zero (shown_by (walk (today L p.nodes p.mappings) 64 p.pages (place_of n page n)).end) ≡ gone.state.buf
  unfolding read_through look_read
  gone_bytes =
      rw sees.memory
      (shown-filled L (length p.used) p.memory sound.lengths.memory zero good buf whole w.block w.begin w.end (walk (today L p.nodes p.mappings) 64 p.pages (place_of n page n)).end looked.answer sees.answer)

  some_read : Peeked L (shown_at L p.memory zero (shown_by (walk (today L p.nodes p.mappings) 64 p.pages (place_of n page n)).end)) (filled p (read_range L p.nodes p.mappings n (page * L) (read_of p.pages p.used p.memory buf)))
  unfolding filled
  some_read =
      rw range_is
      (bytes refl gone_bytes
      (shown-length L (length p.used) p.memory sound.lengths.memory zero good (walk (today L p.nodes p.mappings) 64 p.pages (place_of n page n)).end looked.answer sees.answer))

-- with pages of no bytes there is no step, and nothing to show

no_bytes : (a b : List ℕ) → length a ≡ 0 → length b ≡ 0 → a ≡ b
no_bytes a b x y = ext_get_or 0 a b (x ∙ sym y) (λ i l. absurd (omega arith))

module _ (L : ℕ) (p : Pool) (sound : Sound L p) (n page : ℕ) (leaf : Leaf p.nodes n) (zero : List ℕ) (good : zero_page_of L zero ≡ true) (buf : List ℕ) (whole : length buf ≡ L) where
  abbrev Same : Type 0
  Same = Peeked L (shown_at L p.memory zero (shown_by (walk (today L p.nodes p.mappings) 64 p.pages (place_of n page n)).end)) (filled p (read_range L p.nodes p.mappings n (page * L) (read_of p.pages p.used p.memory buf)))

  none_read : L ≡ 0 → Same
  unfolding filled read_range each
  none_read z =
      let s = walk-reads L p sound p.mappings p.used p.memory (told_of [] 0) n page leaf in
      let l = shown-length L (length p.used) p.memory sound.lengths.memory zero good (walk (today L p.nodes p.mappings) 64 p.pages (place_of n page n)).end _ s.answer in
      rw (count_none L (page * L) (page * L + length buf) (omega arith)) (bytes refl (no_bytes _ buf (l ∙ z) (whole ∙ z)) l)

  pub page-read : Same
  page-read = split (less 0 L) (λ l. some_read L (omega arith) p sound n page leaf zero good buf whole) (λ no. none_read (omega arith))
