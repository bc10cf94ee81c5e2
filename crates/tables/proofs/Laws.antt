-- Turns of the loops over a row of entries, and blank places of the mappings. Assumes nothing.
use mathlib.Core.Path.{◌≡◌, sym, ◌∙◌}
use mathlib.Core.Bool.{Bool, true}
use mathlib.Core.List.{List}
use Prim.Native.Nat.{ℕ, ◌+◌, ◌-◌, ◌*◌, ◌≤◌, ◌<◌}
use native.Mathlib.Omega.{arith}
use lib.Dec.{eqb}
use lib.ListN.{length, get_or}
use borrow.Author.Tests.{eqb-true, le-leb}
use Rattle.std.specs.List.{list_all, between}
use Rattle.logic.proofs.Parts.{all_between}
use Rattle.logic.proofs.Means.{less, split}
use Rattle.tables.specs.Tables.{mapping_of, mapping_by}

-- a block of 64 words that are 0 is 16 places that are blank

block_zero : (M : List ℕ) (a j : ℕ) → a + 64 ≤ length M → list_all (λ x. eqb x 0) (between a (a + 64) M) ≡ true → a ≤ j → j < a + 64 → get_or M j 0 ≡ 0
block_zero M a j n h l m = eqb-true (get_or M j 0) 0 (all_between (λ x. eqb x 0) M a (a + 64) j n h l m)

block_blank : (M : List ℕ) (b i : ℕ) → 256 ≤ length M → b < 4 → list_all (λ x. eqb x 0) (between (b * 64) (b * 64 + 64) M) ≡ true → b * 16 ≤ i → i < b * 16 + 16 → mapping_of M i ≡ mapping_by 0 0 0 0
unfolding mapping_of
block_blank M b i n s h l m =
    let z : (j : ℕ) → j < 4 → get_or M (i * 4 + j) 0 ≡ 0 = λ j k. block_zero M (b * 64) (i * 4 + j) (omega arith) h (omega arith) (omega arith) in
    let z₀ : get_or M (i * 4) 0 ≡ 0 = block_zero M (b * 64) (i * 4) (omega arith) h (omega arith) (omega arith) in
    rw (le-leb (i * 4 + 4) (length M) (omega arith), z₀, z 1 (omega arith), z 2 (omega arith), z 3 (omega arith))

pub blank_turn : (M : List ℕ) (b : ℕ) {r : Bool} → 256 ≤ length M → b ≤ 4 → 0 < b → r ≡ list_all (λ x. eqb x 0) (between ((b - 1) * 64) ((b - 1) * 64 + 64) M) → r ≡ true →
    ((i : ℕ) → b * 16 ≤ i → i < 64 → mapping_of M i ≡ mapping_by 0 0 0 0) → (i : ℕ) → (b - 1) * 16 ≤ i → i < 64 → mapping_of M i ≡ mapping_by 0 0 0 0
blank_turn M b n u p e t h i l m =
    split (less i (b * 16)) (λ k. block_blank M (b - 1) i n (omega arith) (sym e ∙ t) l (omega arith)) (λ k. h i (omega arith) m)
