-- Notices counted by the places of the mappings list: at most one for each live mapping. Assumes nothing.
use mathlib.Core.Path.{◌≡◌, refl, sym}
use mathlib.Core.Bool.{Bool, true, false}
use mathlib.Core.List.{List}
use Prim.Native.Nat.{ℕ, zero, suc, ◌+◌, ◌≤◌}
use native.Mathlib.Omega.{arith}
use lib.Dec.{eqb}
use Rattle.logic.specs.Pick.{pick}
use Rattle.logic.specs.Below.{sum_below}
use Rattle.tables.specs.Tables.{mapping_of, number_of}
use Rattle.outcome.specs.Room.{live_one, live_count}
use Rattle.logic.proofs.Means.{less, split}
use Rattle.soundness.proofs.Sums.{sum_le}

sum_both : (f g : ℕ → ℕ) (m : ℕ) → sum_below (λ i. f i + g i) m ≡ sum_below f m + sum_below g m
unfolding sum_below
sum_both f g zero = refl
sum_both f g (suc m) = let q = sum_both f g m in omega arith

sum-none : (m : ℕ) → sum_below (λ i. 0) m ≡ 0
unfolding sum_below
sum-none zero = refl
sum-none (suc m) = let q = sum-none m in omega arith

pub live_most : (M : List ℕ) (i : ℕ) → live_one M i ≤ 1
unfolding live_one
live_most M i = by (eqb (number_of M i) 0)
  where
    by : (b : Bool) → pick b 0 1 ≤ 1
    by true = omega arith
    by false = omega arith

-- so many notices, each for a live mapping of its own, of an object that P holds of
pub record Once (M : List ℕ) (P : ℕ → Type 0) (count : ℕ) : Type 0 where
  pub to : ℕ → ℕ
  pub live : (i : ℕ) → to i ≤ live_one M i
  pub only : (i : ℕ) → 1 ≤ to i → P (mapping_of M i).object
  pub sum : count ≡ sum_below to 64

module _ {M : List ℕ} where
  pub once_none : {P : ℕ → Type 0} → Once M P 0
  once_none = record { to = λ i. 0; live = λ i. omega arith; only = λ i h. absurd (omega arith); sum = sym (sum-none 64) }

  pub once_in : {P Q : ℕ → Type 0} {c : ℕ} → ((o : ℕ) → P o → Q o) → Once M P c → Once M Q c
  once_in f s = record { to = s.to; live = s.live; only = λ i h. f _ (s.only i h); sum = s.sum }

  -- of two disjoint kinds of objects
  pub once_both : {P Q : ℕ → Type 0} {c d : ℕ} → ((o : ℕ) → P o → Q o → ⊥) → Once M P c → Once M Q d → {R : ℕ → Type 0} → ((o : ℕ) → P o → R o) → ((o : ℕ) → Q o → R o) → Once M R (c + d)
  once_both apart s u f g =
      record {
        to = λ i. s.to i + u.to i;
        live = λ i. let l = live_most M i in let a = s.live i in let b = u.live i in
            split (less 0 (s.to i))
            (λ x. split (less 0 (u.to i)) (λ y. absurd (apart _ (s.only i (omega arith)) (u.only i (omega arith)))) (λ y. omega arith))
            (λ x. omega arith);
        only = λ i h. split (less 0 (s.to i)) (λ x. f _ (s.only i (omega arith))) (λ x. g _ (u.only i (omega arith)));
        sum = let a = s.sum in let b = u.sum in let q = sum_both s.to u.to 64 in omega arith;
      }

  pub once_few : {P : ℕ → Type 0} {c : ℕ} → Once M P c → c ≤ live_count M
  unfolding live_count
  once_few s = let q = sum_le s.to (live_one M) 64 s.live in let e = s.sum in omega arith
