-- Searches and tests over a range of numbers. Assumes nothing.
use Rattle.std.specs.Prelude.{Option, Some, None, MatchOption}
use Rattle.std.specs.Bool.{⊤}
use Rattle.std.specs.Fn.{Called, CalledAt}
use Rattle.std.specs.Iterator.{YieldsThen}
use Rattle.std.specs.List.{FoldsTo}
use Rattle.std.specs.declared.ops.Range.{Range}
use Rattle.std.proofs.iter.Yields.{nat_range_steps}
use Rattle.std.proofs.lemmas.Iterator.{first_from_Range, YieldsList-from_range}
use Rattle.std.proofs.lemmas.Iterator.Search.{all_from_yields_List}
use denote.Param.Members.{Mut}
use denote.Ref.{Bor}
use mathlib.Core.Path.{◌≡◌, refl, sym, ◌∙◌}
use mathlib.Core.Bool.{Bool, true, false}
use mathlib.Core.List.{List}
use Prim.Native.Nat.{ℕ, ◌-◌, ◌≤◌, ◌<◌}
use native.Mathlib.Omega.{arith}
use native.Mathlib.Numerals.{add-one}
use lib.Dec.{leb}
use borrow.Author.Tests.{leb-true, leb-false}
use Rattle.logic.specs.Below.{all_below, first_from}
use Rattle.logic.proofs.Lists.{all_ranged}
use Rattle.logic.proofs.Laws.{first_found, first_next, first-none, run_rest}

-- what a search over a range answers

none_by : (f : ℕ → Bool) (k m : ℕ) (b : Bool) → leb k m ≡ b → ((j : ℕ) → k ≤ j → j < m → f j ≡ false) → first_from f k (m - k) ≡ None
none_by f k m true t h =
    let p = leb-true k m t in
    run_rest (λ j. first_from f j (m - j)) k m p (λ j l n. rw (← add-one) (sym (first_next f j m n (h j l n)))) ∙ first-none f m m (omega arith)
none_by f k m false t h = let p = leb-false k m t in first-none f k m (omega arith)

pub first_is : (f : ℕ → Bool) (k m : ℕ) (r : Option ℕ) → MatchOption r ((j : ℕ) → k ≤ j → j < m → f j ≡ false) (λ i. (k ≤ i) × (i < m) × (f i ≡ true) × ((j : ℕ) → k ≤ j → j < i → f j ≡ false)) → r ≡ first_from f k (m - k)
first_is f k m None h = sym (none_by f k m (leb k m) refl h)
first_is f k m (Some i) (l, b, t, h) =
    sym (run_rest (λ j. first_from f j (m - j)) k i l (λ j p n. rw (← add-one) (sym (first_next f j m (omega arith) (h j p n)))) ∙ first_found f i m b t)

-- `find` over a range, with a closure that computes a test
pub found_in : {F : Type 0} {g : Mut F (Bor ℕ × Unit {0}) Bool} (holds : ℕ → Bool) (s u : Range ℕ) (f : F) (r : Option ℕ) → (xs : List ℕ) × (j : F) × YieldsThen nat_range_steps s xs r u × FoldsTo (λ p x q. CalledAt g p x false q) f xs j × MatchOption r ⊤ (λ x. (h : F) × CalledAt g j x true h) → ((x : ℕ) (b : Bool) (q : F) → CalledAt g f x b q → (q ≡ f) × (b ≡ holds x)) → r ≡ first_from holds s.start (s.end - s.start)
found_in holds s u f r ran step =
    first_is holds s.start s.end r (first_from_Range s u f r (λ i. holds i ≡ true) (λ i. holds i ≡ false) ran (λ x q k. sym (step x true q k).1) (λ x q k. ((step x false q k).0, sym (step x false q k).1)))

-- a test of each number of a range

-- `all` over the numbers below n, with a closure that computes a test
pub all_in : {F : Type 0} {g : Mut F (ℕ × Unit {0}) Bool} (holds : ℕ → Bool) (n : ℕ) {s : Range ℕ} (u : Range ℕ) (f : F) (r : Bool) → s ≡ record { start = 0; end = n } → (xs : List ℕ) × (o : Option ℕ) × (j : F) × YieldsThen nat_range_steps s xs o u × FoldsTo (λ p x q. Called g p (x, tt) true q) f xs j × MatchOption o (r ≡ true) (λ x. (r ≡ false) × ((h : F) × Called g j (x, tt) false h)) → ((x : ℕ) (b : Bool) (q : F) → Called g f (x, tt) b q → (q ≡ f) × (b ≡ holds x)) → r ≡ all_below holds n
all_in holds n u f r e ran step = all_from_yields_List holds u f r ran (YieldsList-from_range 0 n n e (omega arith)) step ∙ all_ranged holds n
