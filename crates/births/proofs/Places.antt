-- What is read of the list of mappings after one was written, or taken out. Assumes nothing.
use mathlib.Core.Path.{◌≡◌, sym, ap, ◌∙◌}
use mathlib.Core.List.{List}
use Prim.Native.Nat.{ℕ, ◌+◌, ◌-◌, ◌*◌, ◌≤◌, ◌<◌}
use native.Mathlib.Omega.{arith}
use native.Mathlib.Nat.{add-zero}
use lib.Dec.{ltb}
use lib.ListN.{length, get_or, set, length-set}
use lib.Seq.{get_or-set_same, get_or-set_other}
use borrow.Author.Tests.{le-leb, lt-ltb, le-ltb}
use Rattle.logic.specs.Pick.{pick}
use Rattle.logic.specs.Below.{copied}
use Rattle.logic.proofs.Laws.{copied-length, copied_outside}
use Rattle.logic.proofs.Means.{equal, less, split}
use Rattle.tables.specs.declared.Mapping.{Mapping}
use Rattle.tables.specs.Tables.{mapping_of, mapping_by}
use Rattle.mappings.specs.Mappings.{with_mapping, closed_up}
use Rattle.sound.proofs.MapLaws.{mapping_out}
use Rattle.lookups.proofs.Bytes.{copied_inside}

-- four equal words make equal mappings
same_words : (M M' : List ℕ) (j k : ℕ) → length M ≡ 256 → length M' ≡ 256 → j < 64 → k < 64 → ((w : ℕ) → w < 4 → get_or M' (j * 4 + w) 0 ≡ get_or M (k * 4 + w) 0) → mapping_of M' j ≡ mapping_of M k
unfolding mapping_of
same_words M M' j k len len' a b h =
    let z = rw (add-zero (j * 4), add-zero (k * 4)) at (h 0 (omega arith)) in
    rw (le-leb (j * 4 + 4) (length M') (omega arith), le-leb (k * 4 + 4) (length M) (omega arith), z, h 1 (omega arith), h 2 (omega arith), h 3 (omega arith))

pub place-length : (M : List ℕ) (i : ℕ) (m : Mapping) → length (with_mapping M i m) ≡ length M
unfolding with_mapping
place-length M i m = simp length-set

module _ (M : List ℕ) (i a b c d : ℕ) (len : length M ≡ 256) where
  abbrev M₁ : List ℕ
  M₁ = set M (i * 4) a

  abbrev M₂ : List ℕ
  M₂ = set M₁ (i * 4 + 1) b

  abbrev M₃ : List ℕ
  M₃ = set M₂ (i * 4 + 2) c

  abbrev M₄ : List ℕ
  M₄ = set M₃ (i * 4 + 3) d

  len₁ : length M₁ ≡ 256
  len₁ = length-set M (i * 4) a ∙ len

  len₂ : length M₂ ≡ 256
  len₂ = length-set M₁ (i * 4 + 1) b ∙ len₁

  len₃ : length M₃ ≡ 256
  len₃ = length-set M₂ (i * 4 + 2) c ∙ len₂

  len₄ : length M₄ ≡ 256
  len₄ = length-set M₃ (i * 4 + 3) d ∙ len₃

  words_away : (j : ℕ) → (j ≡ i → ⊥) → (w : ℕ) → w < 4 → get_or M₄ (j * 4 + w) 0 ≡ get_or M (j * 4 + w) 0
  words_away j ne w h =
      get_or-set_other M₃ (i * 4 + 3) (j * 4 + w) d 0 (λ e. ne (omega arith)) ∙ get_or-set_other M₂ (i * 4 + 2) (j * 4 + w) c 0 (λ e. ne (omega arith))
      ∙ get_or-set_other M₁ (i * 4 + 1) (j * 4 + w) b 0 (λ e. ne (omega arith)) ∙ get_or-set_other M (i * 4) (j * 4 + w) a 0 (λ e. ne (omega arith))

  word_0 : i < 64 → get_or M₄ (i * 4) 0 ≡ a
  word_0 low =
      let l = len in
      get_or-set_other M₃ (i * 4 + 3) (i * 4) d 0 (λ e. omega arith) ∙ get_or-set_other M₂ (i * 4 + 2) (i * 4) c 0 (λ e. omega arith)
      ∙ get_or-set_other M₁ (i * 4 + 1) (i * 4) b 0 (λ e. omega arith) ∙ get_or-set_same M (i * 4) a 0 (omega arith)

  word_1 : i < 64 → get_or M₄ (i * 4 + 1) 0 ≡ b
  word_1 low =
      let l = len₁ in
      get_or-set_other M₃ (i * 4 + 3) (i * 4 + 1) d 0 (λ e. omega arith) ∙ get_or-set_other M₂ (i * 4 + 2) (i * 4 + 1) c 0 (λ e. omega arith)
      ∙ get_or-set_same M₁ (i * 4 + 1) b 0 (omega arith)

  word_2 : i < 64 → get_or M₄ (i * 4 + 2) 0 ≡ c
  word_2 low = let l = len₂ in get_or-set_other M₃ (i * 4 + 3) (i * 4 + 2) d 0 (λ e. omega arith) ∙ get_or-set_same M₂ (i * 4 + 2) c 0 (omega arith)

  word_3 : i < 64 → get_or M₄ (i * 4 + 3) 0 ≡ d
  word_3 low = let l = len₃ in get_or-set_same M₃ (i * 4 + 3) d 0 (omega arith)

  four_same : i < 64 → mapping_of M₄ i ≡ mapping_by a b c d
  unfolding mapping_of
  four_same low = let l = len₄ in rw (le-leb (i * 4 + 4) (length M₄) (omega arith), word_0 low, word_1 low, word_2 low, word_3 low)

pub place_same : (M : List ℕ) (i : ℕ) (m : Mapping) → length M ≡ 256 → i < 64 → mapping_of (with_mapping M i m) i ≡ m
unfolding with_mapping
place_same M i m len low = four_same M i m.number m.object m.first m.pages len low

pub place_away : (M : List ℕ) (i j : ℕ) (m : Mapping) → length M ≡ 256 → (j ≡ i → ⊥) → mapping_of (with_mapping M i m) j ≡ mapping_of M j
unfolding with_mapping
place_away M i j m len ne =
    let l' = place-length M i m ∙ len in
    split (less j 64)
    (λ l. same_words M (with_mapping M i m) j j len l' l l (words_away M i m.number m.object m.first m.pages len j ne))
    (λ out. mapping_out (with_mapping M i m) l' j (omega arith) ∙ sym (mapping_out M len j (omega arith)))

-- the places from i on move up
pub skip : ℕ → ℕ → ℕ
skip i j = pick (ltb j i) j (j + 1)

pub skip_low : (i j : ℕ) → j < i → skip i j ≡ j
unfolding skip
skip_low i j l = rw (lt-ltb j i l)

pub skip_high : (i j : ℕ) → i ≤ j → skip i j ≡ j + 1
unfolding skip
skip_high i j l = rw (le-ltb j i l)

module _ (M : List ℕ) (i : ℕ) (len : length M ≡ 256) (low : i < 64) where
  abbrev moved : List ℕ
  moved = copied M (i * 4) M (i * 4 + 4) (252 - i * 4)

  moved_length : length moved ≡ 256
  moved_length = copied-length M (i * 4) M (i * 4 + 4) (252 - i * 4) ∙ len

  pub closed_length : length (closed_up M i) ≡ 256
  unfolding closed_up
  closed_length = place-length moved 63 (mapping_by 0 0 0 0) ∙ moved_length

  moved_low : (j : ℕ) → j < i → mapping_of moved j ≡ mapping_of M j
  moved_low j l =
      same_words M moved j j len moved_length (omega arith) (omega arith)
      (λ w h. copied_outside M (i * 4) M (i * 4 + 4) (252 - i * 4) (j * 4 + w) (λ k g e. omega arith))

  moved_high : (j : ℕ) → i ≤ j → j < 63 → mapping_of moved j ≡ mapping_of M (j + 1)
  moved_high j l h =
      same_words M moved j (j + 1) len moved_length (omega arith) (omega arith)
      (λ w g.
      let x : i * 4 + (j * 4 + w - i * 4) ≡ j * 4 + w = omega arith in
      let y : i * 4 + 4 + (j * 4 + w - i * 4) ≡ (j + 1) * 4 + w = omega arith in
      rw (x, y) at (copied_inside M (i * 4) M (i * 4 + 4) (252 - i * 4) (j * 4 + w - i * 4) (omega arith) (omega arith)))

  pub closed_reads : (j : ℕ) → mapping_of (closed_up M i) j ≡ mapping_of M (skip i j)
  unfolding closed_up
  closed_reads j =
      split (less j i)
      (λ l. place_away moved 63 j (mapping_by 0 0 0 0) moved_length (λ e. omega arith) ∙ moved_low j l ∙ ap (mapping_of M) (sym (skip_low i j l)))
      (λ ge.
      high ge ∙ ap (mapping_of M) (sym (skip_high i j (omega arith))))
    where
      high : (j < i → ⊥) → mapping_of (with_mapping moved 63 (mapping_by 0 0 0 0)) j ≡ mapping_of M (j + 1)
      high ge =
          split (less j 63)
          (λ h. place_away moved 63 j (mapping_by 0 0 0 0) moved_length (λ e. omega arith) ∙ moved_high j (omega arith) h)
          (λ out.
          split (equal j 63)
          (λ e. rw e (place_same moved 63 (mapping_by 0 0 0 0) moved_length (omega arith)) ∙ sym (mapping_out M len (j + 1) (omega arith)))
          (λ ne. mapping_out (with_mapping moved 63 (mapping_by 0 0 0 0)) closed_length j (omega arith) ∙ sym (mapping_out M len (j + 1) (omega arith))))
