-- The bytes of a buffer after a block of it was filled. Assumes nothing.
use mathlib.Core.Path.{◌≡◌, refl, sym, ap, ◌∙◌}
use mathlib.Core.List.{List}
use Prim.Native.Nat.{ℕ, zero, suc, ◌+◌, ◌-◌, ◌*◌, ◌/◌, ◌%◌, ◌≤◌, ◌<◌}
use native.Mathlib.Omega.{arith}
use lib.Arith.{digits_div, digits_mod}
use lib.ListN.{length, get_or}
use lib.Seq.{get_or-set_same, get_or-set_other}
use borrow.Author.Tests.{le-leb}
use Rattle.logic.specs.Below.{zeroed}
use Rattle.logic.proofs.Means.{equal, less, split}
use Rattle.logic.proofs.Laws.{zeroed-length}
use Rattle.frames.specs.Frames.{pasted_at, blank_at}
use Rattle.lookups.proofs.Bytes.{pasted_inside, pasted_outside}

-- zeros

zeroed_outside : (d : List ℕ) (a n i : ℕ) → ((k : ℕ) → k < n → i ≡ a + k → ⊥) → get_or (zeroed d a n) i 0 ≡ get_or d i 0
unfolding zeroed
zeroed_outside d a zero i h = refl
zeroed_outside d a (suc n) i h = get_or-set_other (zeroed d a n) (a + n) i 0 0 (h n (omega arith)) ∙ zeroed_outside d a n i (λ k l. h k (omega arith))

zeroed_inside : (d : List ℕ) (a n j : ℕ) → j < n → a + n ≤ length d → get_or (zeroed d a n) (a + j) 0 ≡ 0
unfolding zeroed
zeroed_inside d a zero j h l = absurd (omega arith)
zeroed_inside d a (suc n) j h l =
    split (equal j n)
    (λ e. let s = zeroed-length d a n in rw e (get_or-set_same (zeroed d a n) (a + n) 0 0 (omega arith)))
    (λ ne. get_or-set_other (zeroed d a n) (a + n) (a + j) 0 0 (λ e. ne (omega arith)) ∙ zeroed_inside d a n j (omega arith) (omega arith))

-- byte j of the buffer is the array's byte offset + j
abbrev pub Filling : ℕ → ℕ → (ℕ → ℕ → ℕ) → List ℕ → ℕ → Type 0
Filling L offset a buf upto = (j : ℕ) → j < upto → get_or buf j 0 ≡ a ((offset + j) / L) ((offset + j) % L)

module _ (L offset : ℕ) (a : ℕ → ℕ → ℕ) (buf : List ℕ) (to c i at : ℕ) (room : to + c ≤ length buf) (here : offset + to ≡ i * L + at) (fits : at + c ≤ L) (old : Filling L offset a buf to) where
  -- a byte of the block lies in page i
  place : (j : ℕ) → j < c → ((offset + (to + j)) / L ≡ i) × ((offset + (to + j)) % L ≡ at + j)
  place j l =
      let e : offset + (to + j) ≡ i * L + (at + j) = omega arith in
      (ap (λ (z : ℕ). z / L) e ∙ digits_div i {m = L} {r = at + j} (omega arith), ap (λ (z : ℕ). z % L) e ∙ digits_mod i {m = L} {r = at + j} (omega arith))

  -- the block's bytes, and those before it
  grown : (new : List ℕ) → ((j : ℕ) → j < c → get_or new (to + j) 0 ≡ a i (at + j)) → ((j : ℕ) → j < to → get_or new j 0 ≡ get_or buf j 0) → Filling L offset a new (to + c)
  grown new inner outer j l =
      split (less j to)
      (λ lo. outer j lo ∙ old j lo)
      (λ hi.
      let e : to + (j - to) ≡ j = omega arith in
      let q = place (j - to) (omega arith) in
      let x : (offset + j) / L ≡ i = rw e at q.0 in
      let y : (offset + j) % L ≡ at + (j - to) = rw e at q.1 in
      rw (x, y) (rw e at (inner (j - to) (omega arith))))

  pub pasted_fills : (m : List ℕ) (b : ℕ) → b + c ≤ length m → ((j : ℕ) → j < c → get_or m (b + j) 0 ≡ a i (at + j)) → Filling L offset a (pasted_at buf to m b c) (to + c)
  pasted_fills m b enough same =
      grown (pasted_at buf to m b c) (λ j l. pasted_inside buf to m b c room enough j l ∙ same j l)
      (λ j l. pasted_outside buf to m b c room enough j (λ k h e. omega arith))

  pub blank_fills : ((j : ℕ) → j < c → a i (at + j) ≡ 0) → Filling L offset a (blank_at buf to c) (to + c)
  unfolding blank_at
  blank_fills same =
      rw (le-leb (to + c) (length buf) room)
      (grown (zeroed buf to c) (λ j l. zeroed_inside buf to c j l room ∙ sym (same j l)) (λ j l. zeroed_outside buf to c j (λ k h e. omega arith)))

  pub blank-length : length (blank_at buf to c) ≡ length buf
  unfolding blank_at
  blank-length = rw (le-leb (to + c) (length buf) room) (zeroed-length buf to c)
