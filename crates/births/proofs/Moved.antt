-- The page table as create_child writes it: the object's row goes to the hidden node. Assumes nothing.
use mathlib.Core.Path.{◌≡◌, ◌∙◌}
use mathlib.Core.List.{List}
use Prim.Native.Nat.{ℕ, ◌+◌, ◌*◌, ◌<◌}
use native.Mathlib.Omega.{arith}
use lib.ListN.{length, get_or}
use Rattle.logic.specs.Below.{copied, zeroed}
use Rattle.logic.proofs.Laws.{copied-length, copied_outside, zeroed-length}
use Rattle.logic.proofs.Means.{less, split}
use Rattle.tables.specs.Tables.{entry_of, row_moved}
use Rattle.soundness.proofs.Records.{entry_is, entry_past}
use Rattle.births.proofs.Handed.{RowMoved}
use Rattle.lookups.proofs.Bytes.{zeroed_outside, zeroed_inside, copied_inside}

module _ (P : List ℕ) (n x : ℕ) (len : length P ≡ 4096) (n_low : n < 64) (x_low : x < 64) (ne : x ≡ n → ⊥) where
  abbrev P₁ : List ℕ
  P₁ = copied P (x * 64) P (n * 64) 64

  abbrev P₂ : List ℕ
  P₂ = zeroed P₁ (n * 64) 64

  len₁ : length P₁ ≡ 4096
  len₁ = copied-length P (x * 64) P (n * 64) 64 ∙ len

  cell : (a b i j : ℕ) → (a ≡ b → ⊥) → i < 64 → j < 64 → a * 64 + i ≡ b * 64 + j → ⊥
  cell a b i j d h k e = d (omega arith)

  -- entries by their words
  by_words : (a b : ℕ) → ((j : ℕ) → j < 64 → get_or P₂ (a * 64 + j) 0 ≡ get_or P (b * 64 + j) 0) → (j : ℕ) → entry_of P₂ a j ≡ entry_of P b j
  by_words a b f j =
      split (less j 64)
      (λ l. entry_is P₂ a j l ∙ f j l ∙ rw (entry_is P b j l))
      (λ out. entry_past P₂ a j (omega arith) ∙ rw (entry_past P b j (omega arith)))

  moved_x : (j : ℕ) → entry_of P₂ x j ≡ entry_of P n j
  moved_x =
      by_words x n
      (λ j l. zeroed_outside P₁ (n * 64) 64 (x * 64 + j) (λ k h e. cell x n j k ne l h e) ∙ copied_inside P (x * 64) P (n * 64) 64 j l (omega arith))

  moved_n : (j : ℕ) → entry_of P₂ n j ≡ 0
  moved_n j =
      split (less j 64)
      (λ l. let q = len₁ in entry_is P₂ n j l ∙ zeroed_inside P₁ (n * 64) 64 j l (omega arith))
      (λ out. entry_past P₂ n j (omega arith))

  moved_rest : (m j : ℕ) → (m ≡ n → ⊥) → (m ≡ x → ⊥) → entry_of P₂ m j ≡ entry_of P m j
  moved_rest m j a b =
      by_words m m
      (λ j l.
      zeroed_outside P₁ (n * 64) 64 (m * 64 + j) (λ k h e. cell m n j k a l h e)
      ∙ copied_outside P (x * 64) P (n * 64) 64 (m * 64 + j) (λ k h e. cell m x j k b l h e)) j

  pub row_moved_lem : RowMoved P (row_moved P n x) n x
  unfolding row_moved
  row_moved_lem = record { at_x = moved_x; at_n = moved_n; rest = moved_rest }

  pub row_length : length (row_moved P n x) ≡ 4096
  unfolding row_moved
  row_length = zeroed-length P₁ (n * 64) 64 ∙ len₁
