-- Chains over a range or a list, in the words of the definitions. Assumes nothing.
use mathlib.Core.Path.{◌≡◌, refl, sym, ap, subst, ◌∙◌}
use mathlib.Core.Bool.{Bool, true, false, ◌&&◌, and_assoc, and-true}
use mathlib.Core.List.{List, [], ◌∷◌}
use Prim.Native.Nat.{ℕ, zero, suc, ◌+◌, ◌*◌, ◌≤◌, ◌<◌}
use native.Mathlib.Omega.{arith}
use native.Mathlib.Numerals.{add-one}
use denote.Param.Members.{Mut, Called}
use lib.Dec.{eqb}
use lib.ListN.{length, get_or, take}
use borrow.Author.Tests.{eqb-true, eqb-false}
use Rattle.std.specs.Array.{IsFromFnResultFrom, IsFromFnResult}
use Rattle.std.proofs.lemmas.List.FromFn.{length-range_with_len, get_or-range_with_len}
use Rattle.std.specs.List.{list_all, range_with_len, sum_by, fold}
use Rattle.std.proofs.lemmas.List.{take_all}
use Rattle.std.proofs.lemmas.List.Folds.{list_all_more}
use Rattle.std.proofs.lemmas.List.Sums.{sum_by_more}
use Rattle.logic.specs.Below.{all_below, sum_below}

module _ {X : Type 0} (p : X → Bool) (xs : List X) (d : X) where
  all_taken : (n : ℕ) → n ≤ length xs → list_all p (take n xs) ≡ all_below (λ i. p (get_or xs i d)) n
  unfolding all_below
  all_taken zero l = refl
  all_taken (suc n) l = rw (← add-one, list_all_more p xs n d (omega arith), all_taken n (omega arith)) refl

  pub all_listed : {n : ℕ} → length xs ≡ n → list_all p xs ≡ all_below (λ i. p (get_or xs i d)) n
  all_listed {n} e = let t = all_taken n (omega arith) in rw (take_all n xs (omega arith)) at t

pub all_same : (f g : ℕ → Bool) (n : ℕ) → ((i : ℕ) → i < n → f i ≡ g i) → all_below f n ≡ all_below g n
unfolding all_below
all_same f g zero h = refl
all_same f g (suc n) h = rw (all_same f g n (λ i l. h i (omega arith)), h n (omega arith))

ranged_at : (n i : ℕ) → i < n → get_or (range_with_len 0 n) i 0 ≡ i
ranged_at n i l = get_or-range_with_len 0 n i 0 l ∙ omega arith

pub all_ranged : (f : ℕ → Bool) (n : ℕ) → list_all f (range_with_len 0 n) ≡ all_below f n
all_ranged f n =
    all_listed f (range_with_len 0 n) 0 (length-range_with_len 0 n)
    ∙ all_same (λ i. f (get_or (range_with_len 0 n) i 0)) f n (λ i l. ap f (ranged_at n i l))

-- a fold that tests all, with no early exit

pub fold_all : {X : Type 0} (p : X → Bool) (b : Bool) (xs : List X) → fold (λ ok x. ok && p x) b xs ≡ (b && list_all p xs)
fold_all p b [] = sym (and-true b)
fold_all p b (x ∷ xs) = fold_all p (b && p x) xs ∙ and_assoc b (p x) (list_all p xs)

pub fold_both : {X : Type 0} (t u : X → Bool) (b : Bool) (xs : List X) → fold (λ ok x. ok && t x && u x) b xs ≡ (b && list_all (λ x. t x && u x) xs)
fold_both t u b [] = sym (and-true b)
fold_both t u b (x ∷ xs) =
    fold_both t u (b && t x && u x) xs
    ∙ rw (and_assoc b (t x) (u x)) (and_assoc b (t x && u x) (list_all (λ x. t x && u x) xs))

sum_taken : (g : ℕ → ℕ) (xs : List ℕ) (n : ℕ) → n ≤ length xs → sum_by g (take n xs) ≡ sum_below (λ i. g (get_or xs i 0)) n
unfolding sum_below
sum_taken g xs zero l = refl
sum_taken g xs (suc n) l = rw (← add-one, sum_by_more g xs n 0 (omega arith), sum_taken g xs n (omega arith)) refl

pub sum_listed : (g : ℕ → ℕ) (xs : List ℕ) {n : ℕ} → length xs ≡ n → sum_by g xs ≡ sum_below (λ i. g (get_or xs i 0)) n
sum_listed g xs {n} e = let t = sum_taken g xs n (omega arith) in rw (take_all n xs (omega arith)) at t

pub sum_same : (f g : ℕ → ℕ) (n : ℕ) → ((i : ℕ) → i < n → f i ≡ g i) → sum_below f n ≡ sum_below g n
unfolding sum_below
sum_same f g zero h = refl
sum_same f g (suc n) h = rw (sum_same f g n (λ i l. h i (omega arith)), h n (omega arith))

pub sum_ranged : (f : ℕ → ℕ) (n : ℕ) → sum_by f (range_with_len 0 n) ≡ sum_below f n
sum_ranged f n =
    sum_listed f (range_with_len 0 n) (length-range_with_len 0 n)
    ∙ sum_same (λ i. f (get_or (range_with_len 0 n) i 0)) f n (λ i l. ap f (ranged_at n i l))

pub sum_most : (f : ℕ → ℕ) (m n : ℕ) → ((i : ℕ) → f i ≤ m) → sum_below f n ≤ n * m
unfolding sum_below
sum_most f m zero h = omega arith
sum_most f m (suc n) h = omega (arith, sum_most f m n h, h n)

-- an array made place by place, by a closure that gives h of each place

module _ {F : Type 0} (g : Mut F (ℕ × Unit {0}) ℕ) (h : ℕ → ℕ) (f : F) (n : ℕ) (call : (i y : ℕ) (q : F) → i < n → Called g f (i, tt) y q → (q ≡ f) × (y ≡ h i)) (ys : List ℕ) where
  made_from : (m i k : ℕ) (p : F) → p ≡ f → m + i ≤ n → IsFromFnResultFrom g p ys i m → i ≤ k → k < m + i → get_or ys k 0 ≡ h k
  made_from zero i k p e l made a b = absurd (omega arith)
  made_from (suc m) i k p e l (q, y, here, step, rest) a b =
      let w = call i y q (omega arith) (subst (λ x. Called g x (i, tt) y q) e step) in
      by (eqb k i) refl w (λ c. made_from m (i + 1) k q w.0 (omega arith) rest c (omega arith))
    where
      by : (t : Bool) → eqb k i ≡ t → (q ≡ f) × (y ≡ h i) → (i + 1 ≤ k → get_or ys k 0 ≡ h k) → get_or ys k 0 ≡ h k
      by true t w next = let s = eqb-true k i t in rw s (here.1 0 ∙ w.1)
      by false t w next = let s = eqb-false k i t in next (omega arith)

  pub made : IsFromFnResult g f ys n → (k : ℕ) → k < n → get_or ys k 0 ≡ h k
  made r k l = made_from n 0 k f refl (omega arith) r.each (omega arith) (omega arith)
