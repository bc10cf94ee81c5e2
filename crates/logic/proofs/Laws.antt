-- Laws of the definitions of this crate. Assumes nothing.
use Rattle.std.specs.Prelude.{Some, None}
use mathlib.Core.Path.{◌≡◌, refl, sym, ◌∙◌}
use mathlib.Core.Bool.{Bool, true, false, ◌&&◌}
use mathlib.Core.List.{List}
use Prim.Native.Nat.{ℕ, zero, suc, ◌+◌, ◌-◌, ◌≤◌, ◌<◌}
use native.Mathlib.Omega.{arith}
use native.Mathlib.Numerals.{add-one}
use lib.Dec.{eqb}
use borrow.Author.Tests.{eqb-true, eqb-false}
use lib.ListN.{length, get_or, set, length-set}
use lib.Seq.{get_or-set_other}
use Rattle.logic.specs.Pick.{pick}
use Rattle.logic.specs.Below.{all_below, first_from, copied, zeroed}

-- both of two tests, and each

pub and_left : (a b : Bool) → (a && b) ≡ true → a ≡ true
and_left true b h = refl
and_left false b h = h

pub and_right : (a b : Bool) → (a && b) ≡ true → b ≡ true
and_right true b h = h
and_right false b h = let z : ◌≡◌ {A = ℕ} 0 1 = cc in absurd (omega arith)

pub and_both : {a b : Bool} → a ≡ true → b ≡ true → (a && b) ≡ true
and_both p q = rw (p, q)

-- a test can't come out both ways

pub true_not : {A : Type 0} {b : Bool} → b ≡ true → b ≡ false → A
true_not t f = let z : ◌≡◌ {A = ℕ} 0 1 = cc in absurd (omega arith)

-- a choice, by both outcomes of its test

pub by_pick : {A : Type 0} (Q : A → Type 0) (b : Bool) {x y : A} → (b ≡ true → Q x) → (b ≡ false → Q y) → Q (pick b x y)
by_pick Q true f g = f refl
by_pick Q false f g = g refl

-- a choice that came out: the test held, and so did the first

pub pick_true : (a b : Bool) → pick a b false ≡ true → (a ≡ true) × (b ≡ true)
pick_true true b h = (refl, h)
pick_true false b h = let z : ◌≡◌ {A = ℕ} 0 1 = cc in absurd (omega arith)

-- all below

all_by : (f : ℕ → Bool) (n i : ℕ) (b : Bool) → eqb i n ≡ b → (i < n → f i ≡ true) → f n ≡ true → i < suc n → f i ≡ true
all_by f n i true t ih h l = rw (eqb-true i n t) h
all_by f n i false t ih h l = let e = eqb-false i n t in ih (omega arith)

pub all_below_lem : (f : ℕ → Bool) (n : ℕ) → all_below f n ≡ true → (i : ℕ) → i < n → f i ≡ true
unfolding all_below
all_below_lem f zero h i l = absurd (omega arith)
all_below_lem f (suc n) h i l = all_by f n i (eqb i n) refl (all_below_lem f n (and_left (all_below f n) (f n) h) i) (and_right (all_below f n) (f n) h) l

pub below_all : (f : ℕ → Bool) (n : ℕ) → ((i : ℕ) → i < n → f i ≡ true) → all_below f n ≡ true
unfolding all_below
below_all f zero h = refl
below_all f (suc n) h = and_both (below_all f n (λ i l. h i (omega arith))) (h n (omega arith))

-- a turn of a loop that adds up, or that tests all

pub all_next : (f : ℕ → Bool) (n : ℕ) {b t : Bool} → b ≡ all_below f n → t ≡ f n → (b && t) ≡ all_below f (n + 1)
unfolding all_below
all_next f n p q = rw (add-one, p, q)

-- turns of a search among the numbers below m

pub first_found : (f : ℕ → Bool) (i m : ℕ) → i < m → f i ≡ true → first_from f i (m - i) ≡ Some i
unfolding first_from
first_found f i m l h = let e : m - i ≡ suc (m - (i + 1)) = omega arith in rw (e, h)

pub first_next : (f : ℕ → Bool) (i m : ℕ) → i < m → f i ≡ false → first_from f i (m - i) ≡ first_from f (i + 1) (m - (i + 1))
unfolding first_from
first_next f i m l h = let e : m - i ≡ suc (m - (i + 1)) = omega arith in rw (e, h)

pub first-none : (f : ℕ → Bool) (i m : ℕ) → m ≤ i → first_from f i (m - i) ≡ None
unfolding first_from
first-none f i m l = let e : m - i ≡ 0 = omega arith in rw e

-- what is found lies in the range

found_by : (f : ℕ → Bool) (k n i : ℕ) (b : Bool) → ((k i : ℕ) → first_from f k n ≡ Some i → i < k + n) → pick b (Some k) (first_from f (k + 1) n) ≡ Some i → i < k + suc n
found_by f k n i true ih e = let h : k ≡ i = cc in omega arith
found_by f k n i false ih e = let h = ih (k + 1) i e in omega arith

pub first_below : (f : ℕ → Bool) (k n i : ℕ) → first_from f k n ≡ Some i → i < k + n
unfolding first_from
first_below f k zero i e = let z : ◌≡◌ {A = ℕ} 0 1 = cc in absurd (omega arith)
first_below f k (suc n) i e = found_by f k n i (f k) (λ k i h. first_below f k n i h) e

-- lists that are written keep their length

pub copied-length : (d : List ℕ) (a : ℕ) (s : List ℕ) (b n : ℕ) → length (copied d a s b n) ≡ length d
unfolding copied
copied-length d a s b zero = refl
copied-length d a s b (suc n) = length-set (copied d a s b n) (a + n) (get_or s (b + n) 0) ∙ copied-length d a s b n

pub zeroed-length : (d : List ℕ) (a n : ℕ) → length (zeroed d a n) ≡ length d
unfolding zeroed
zeroed-length d a zero = refl
zeroed-length d a (suc n) = length-set (zeroed d a n) (a + n) 0 ∙ zeroed-length d a n

-- and stay as they were outside the part

pub copied_outside : (d : List ℕ) (a : ℕ) (s : List ℕ) (b n i : ℕ) → ((k : ℕ) → k < n → i ≡ a + k → ⊥) → get_or (copied d a s b n) i 0 ≡ get_or d i 0
unfolding copied
copied_outside d a s b zero i h = refl
copied_outside d a s b (suc n) i h = get_or-set_other (copied d a s b n) (a + n) i (get_or s (b + n) 0) 0 (h n (omega arith)) ∙ copied_outside d a s b n i (λ k l. h k (omega arith))

-- a turn of a loop that copies inside one list, where what is read next was not written so far
pub copy_next : (m : List ℕ) (a b k : ℕ) {t : List ℕ} → ((j : ℕ) → j < k → b + k ≡ a + j → ⊥) → t ≡ copied m a m b k → set t (a + k) (get_or t (b + k) 0) ≡ copied m a m b (k + 1)
unfolding copied
copy_next m a b k apart e = rw (add-one, e, copied_outside m a m b k (b + k) apart)

-- a run that changes no more from k on is the same at k and at n

stays : {A : Type 0} (P : ℕ → A) (k d : ℕ) → ((j : ℕ) → k ≤ j → j < d + k → P (suc j) ≡ P j) → P k ≡ P (d + k)
stays P k zero h = let e : 0 + k ≡ k = omega arith in rw e
stays P k (suc d) h =
    let e : suc d + k ≡ suc (d + k) = omega arith in
    rw e (stays P k d (λ j l m. h j l (omega arith)) ∙ sym (h (d + k) (omega arith) (omega arith)))

pub run_rest : {A : Type 0} (P : ℕ → A) (k n : ℕ) → k ≤ n → ((j : ℕ) → k ≤ j → j < n → P (suc j) ≡ P j) → P k ≡ P n
run_rest P k n l h = let e : n - k + k ≡ n = omega arith in rw e at (stays P k (n - k) (λ j a b. h j a (omega arith)))
