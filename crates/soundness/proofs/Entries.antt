-- What the test of a row of page entries means. Assumes nothing.
use Rattle.std.specs.Prelude.{None, Some}
use mathlib.Core.Path.{◌≡◌, refl, ap, ◌∙◌}
use mathlib.Core.Bool.{true}
use mathlib.Core.List.{List}
use Prim.Native.Nat.{ℕ, ◌/◌, ◌%◌, ◌≤◌, ◌<◌}
use native.Mathlib.Omega.{arith}
use lib.ListN.{length}
use Rattle.logic.specs.Below.{sum_below}
use Rattle.entry.specs.declared.PageState.{PageState}
use Rattle.entry.specs.declared.PageStateTag.TheVariants.{Owned}
use Rattle.entry.specs.Entry.{tag_number, tag_of, state_of, slot_of, entry_word}
use Rattle.node.specs.declared.Node.{Node}
use Rattle.node.specs.Node.{hidden_of}
use Rattle.tables.specs.Tables.{node_of, entry_of, slot_at}
use Rattle.sound.specs.Rows.{entry_ok, entry_ok_at, row_ok, pins_at, row_pins, row_test, rows_ok}
use Rattle.sound.specs.Facts.{pins_of}
use Rattle.logic.proofs.Means.{Means, says, equal, most, less, then, both, split, nay, either, unless, choose, both_two, every}
use Rattle.soundness.proofs.Records.{entry_past, entry_out}
use Rattle.soundness.proofs.Sums.{sum_same, sum_most}
use Rattle.soundness.proofs.Slots.{parts, holds, no_frame, absent, tag_there, tag_most}

-- the facts of entry e of page i in a node of record r, in a pool of F frames

pub record Fits (r : Node) (F i e : ℕ) : Type 0 where
  pub empty : slot_of e ≡ None → e ≡ 0
  pub held : (s : PageState) → slot_of e ≡ Some s → e ≡ entry_word s
  pub frames : (s : PageState) → slot_of e ≡ Some s → s.frame < F
  pub below : (s : PageState) → slot_of e ≡ Some s → i < r.size
  pub leaves : (s : PageState) → (r.kind ≡ 3 → ⊥) → slot_of e ≡ Some s → s.tag ≡ Owned
  pub hidden_pins : (s : PageState) → r.kind ≡ 3 → slot_of e ≡ Some s → s.pin_count ≡ 0

-- the same of the word

abbrev Words : Node → ℕ → ℕ → ℕ → Type 0
Words r F i e =
    (e ≡ 0 → ⊥)
    → (((1 ≤ e % 4096) × (e % 4096 ≤ F)) × (i < r.size))
    × ((r.kind ≡ 3 → e < 12288) × ((r.kind ≡ 3 → ⊥) → (e < 524288) × (e / 4096 % 4 ≡ 0)))

module _ (r : Node) (F i e : ℕ) where
  words_mean : Means (entry_ok (hidden_of r) r.size F i e) (Words r F i e)
  unfolding entry_ok
  words_mean =
      unless (equal _ _)
      (both (both (both (most _ _) (most _ _)) (less _ _))
      (choose (equal _ _) (either (both (equal _ _) (less _ _)) (both_two _ _ (nay (equal _ _)) (both (less _ _) (equal _ _))))))

  module _ (w : Words r F i e) (s : PageState) (x : slot_of e ≡ Some s) where
    there : e ≡ 0 → ⊥
    there z = let p = parts e x in omega arith

    owned : (r.kind ≡ 3 → ⊥) → s.tag ≡ Owned
    unfolding tag_of
    owned leaf = let p = parts e x in let q = (w there).1.1 leaf in p.tag ∙ rw q.1

    no_pins : r.kind ≡ 3 → s.pin_count ≡ 0
    no_pins h = let p = parts e x in let q = (w there).1.0 h in omega arith

    tag_low : e / 4096 % 4 ≤ 2
    tag_low = split (equal r.kind 3) (λ h. let q = (w there).1.0 h in omega arith) (λ leaf. let q = (w there).1.1 leaf in omega arith)

    word_low : e < 524288
    word_low = split (equal r.kind 3) (λ h. let q = (w there).1.0 h in omega arith) (λ leaf. ((w there).1.1 leaf).0)

    word_is : e ≡ entry_word s
    unfolding entry_word
    word_is =
        let p = parts e x in
        let l = word_low in
        let t : tag_number s.tag ≡ e / 4096 % 4 = rw p.tag (tag_there (e / 4096 % 4) tag_low) in
        let a : s.frame % 4095 ≡ s.frame = omega arith in
        let b : s.pin_count % 32 ≡ e / 16384 = omega arith in
        let c : e / 4096 / 4 ≡ e / 16384 = omega arith in
        omega arith

    frame_low : s.frame < F
    frame_low = let p = parts e x in let q = (w there).0 in omega arith

  fits : Words r F i e → Fits r F i e
  fits w =
      record {
        empty = λ x. let z = no_frame e x in split (equal e 0) (λ h. h) (λ ne. let q = (w ne).0 in absurd (omega arith));
        held = word_is w;
        frames = frame_low w;
        below = λ s x. (w (there w s x)).0.1;
        leaves = λ s leaf x. owned w s x leaf;
        hidden_pins = λ s h x. no_pins w s x h;
      }

  words : Fits r F i e → Words r F i e
  unfolding entry_word
  words f ne =
      let low : e % 4096 ≡ 0 → ⊥ = λ z. ne (f.empty (absent e z)) in
      let s = state_of e in
      let x = holds e low in
      let p = parts e x in
      let w = f.held s x in
      let t = tag_most s.tag in
      let l = f.frames s x in (
        ((omega arith, omega arith), f.below s x),
        (
          λ h. let q = f.hidden_pins s h x in omega arith,
          λ leaf. let q = ap tag_number (f.leaves s leaf x) in (omega arith, omega arith),
        ),
      )

  entry_means : Means (entry_ok (hidden_of r) r.size F i e) (Fits r F i e)
  entry_means = says words_mean fits words

  -- and its pins are those of the word
  pins_are : Fits r F i e → pins_of (slot_of e) ≡ e / 16384
  unfolding entry_word
  pins_are f =
      split (equal (e % 4096) 0)
      (λ z. let y = f.empty (absent e z) in rw (absent e z) (omega arith))
      (λ low.
      let x = holds e low in
      let p = parts e x in
      let w = f.held (state_of e) x in
      let t = tag_most (state_of e).tag in
      rw x (omega arith))

-- the facts of a row, and of all rows

abbrev pub Row : List ℕ → List ℕ → ℕ → ℕ → Type 0
Row N P F n = ((i : ℕ) → Fits (node_of N n) F i (entry_of P n i)) × (sum_below (λ i. pins_of (slot_at P n i)) 64 ≤ (node_of N n).pin_count)

none_ok : (r : Node) (F i e : ℕ) → e ≡ 0 → entry_ok (hidden_of r) r.size F i e ≡ true
unfolding entry_ok
none_ok r F i e z = rw z

module _ (N P : List ℕ) (F : ℕ) where
  row_means : (n : ℕ) → Means (row_test N P F n) (Row N P F n)
  unfolding row_test row_ok entry_ok_at row_pins pins_at slot_at
  row_means n =
      then (every (entry_ok_at (hidden_of (node_of N n)) (node_of N n).size F P n) 64
      (λ i l. none_ok (node_of N n) F i (entry_of P n i) (entry_past P n i l))
      (λ i. entry_means (node_of N n) F i (entry_of P n i)))
      (λ f.
      let e = sum_same (λ i. pins_of (slot_at P n i)) (pins_at P n) 64 (λ i. pins_are (node_of N n) F i (entry_of P n i) (f i)) in
      says (most (row_pins P n) (node_of N n).pin_count) (λ h. omega arith) (λ h. omega arith))

  pub rows_mean : length P ≡ 4096 → Means (rows_ok N P F) ((n : ℕ) → Row N P F n)
  unfolding rows_ok slot_at
  rows_mean len = every (row_test N P F) 64 (λ n l. (row_means n).test (blank n l)) row_means
    where
      blank : (n : ℕ) → 64 ≤ n → Row N P F n
      blank n l = (
        λ i. (entry_means (node_of N n) F i (entry_of P n i)).fact (none_ok (node_of N n) F i (entry_of P n i) (entry_out P len n i l)),
        let q = sum_most (λ i. pins_of (slot_at P n i)) 0 64 (λ i. rw (entry_out P len n i l, absent 0 refl) (omega arith)) in omega arith,
      )
