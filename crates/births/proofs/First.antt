-- What a search found. Assumes nothing.
use Rattle.std.specs.Prelude.{Some}
use mathlib.Core.Path.{◌≡◌, refl}
use mathlib.Core.Bool.{Bool, true, false}
use mathlib.Core.List.{List}
use Prim.Native.Nat.{ℕ, zero, suc, ◌+◌, ◌-◌, ◌*◌, ◌≤◌, ◌<◌}
use native.Mathlib.Omega.{arith}
use lib.ListN.{length}
use borrow.Author.Tests.{eqb-true, le-leb}
use Rattle.logic.specs.Pick.{pick}
use Rattle.logic.specs.Below.{first_from}
use Rattle.logic.proofs.Means.{equal, split}
use Rattle.tables.specs.Tables.{word_of, record_of, node_of, is_free, free_node_in, free_node_from}

pub record First (f : ℕ → Bool) (k n i : ℕ) : Type 0 where
  pub holds : f i ≡ true
  pub from : k ≤ i
  pub below : i < k + n
  pub before : (j : ℕ) → k ≤ j → j < i → f j ≡ false

first_by : (f : ℕ → Bool) (k n i : ℕ) (b : Bool) → f k ≡ b → (first_from f (k + 1) n ≡ Some i → First f (k + 1) n i) → pick b (Some k) (first_from f (k + 1) n) ≡ Some i → First f k (suc n) i
first_by f k n i true t ih e =
    let h : k ≡ i = cc in
    record { holds = rw (← h) t; from = omega arith; below = omega arith; before = λ j a b. absurd (omega arith) }
first_by f k n i false t ih e =
    let r = ih e in
    let a = r.from in
    let b = r.below in
    record {
      holds = r.holds;
      from = omega arith;
      below = omega arith;
      before = λ j c d. split (equal j k) (λ q. rw q t) (λ ne. r.before j (omega arith) d);
    }

pub first_is : (f : ℕ → Bool) (k n i : ℕ) → first_from f k n ≡ Some i → First f k n i
unfolding first_from
first_is f k zero i e = let z : ◌≡◌ {A = ℕ} 0 1 = cc in absurd (omega arith)
first_is f k (suc n) i e = first_by f k n i (f k) refl (first_is f (k + 1) n i) e

-- a free node that was found

pub record Free (N : List ℕ) (k i : ℕ) : Type 0 where
  pub kind : (node_of N i).kind ≡ 0
  pub from : k ≤ i
  pub low : i < 64

module _ (N : List ℕ) (len : length N ≡ 1024) where
  free_kind : (i : ℕ) → i < 64 → is_free N i ≡ true → (node_of N i).kind ≡ 0
  unfolding node_of record_of is_free
  free_kind i l h = rw (le-leb (i * 16 + 16) (length N) (omega arith)) (eqb-true (word_of N i 0) 0 h)

  free_by : (k m i : ℕ) → k + m ≤ 64 → First (is_free N) k m i → Free N k i
  free_by k m i l f = let b = f.below in record { kind = free_kind i (omega arith) f.holds; from = f.from; low = omega arith }

  pub found_free : (i : ℕ) → free_node_in N ≡ Some i → Free N 0 i
  unfolding free_node_in
  found_free i e = free_by 0 64 i (omega arith) (first_is (is_free N) 0 64 i e)

  pub found_from : (k i : ℕ) → k ≤ 64 → free_node_from N k ≡ Some i → Free N k i
  unfolding free_node_from
  found_from k i l e = free_by k (64 - k) i (omega arith) (first_is (is_free N) k (64 - k) i e)
