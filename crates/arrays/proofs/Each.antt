-- What holds before each page and what it leads to hold of a whole run of pages. Assumes nothing.
use Rattle.std.specs.Prelude.{Err, Ok}
use Rattle.outcome.specs.Answers.{Checked}
use Prim.Native.Nat.{ℕ, zero, suc}
use Rattle.page.specs.Each.{Part, part_of, onward, each}

-- before holds with so many pages to come; after holds at the end, or where a page was refused
module _ {C S : Type 0} (step : C → S → Part C S) (before : ℕ → C → S → Type 0) (after : Part C S → Type 0) where
  abbrev pub Goes : ℕ → Checked → Part C S → Type 0
  Goes k (Err r) p = after p
  Goes k (Ok u) p = before k p.rest p.state

  goes_by : (k : ℕ) → ((c : C) (s : S) → before k c s → after (each step k c s)) → (a : Checked) (p : Part C S) → Goes k a p → after (onward a p (each step k))
  unfolding onward
  goes_by k ih (Err r) p g = g
  goes_by k ih (Ok u) p g = ih p.rest p.state g

  pub each_keeps : ((c : C) (s : S) → before 0 c s → after (part_of (Ok tt) c s)) → ((k : ℕ) (c : C) (s : S) → before (suc k) c s → Goes k (step c s).why (step c s))
      → (k : ℕ) (c : C) (s : S) → before k c s → after (each step k c s)
  unfolding each
  each_keeps ends turn zero c s b = ends c s b
  each_keeps ends turn (suc k) c s b = goes_by k (each_keeps ends turn k) (step c s).why (step c s) (turn k c s b)

-- what each page keeps, refused or not, the run keeps
module _ {C S : Type 0} (step : C → S → Part C S) (holds : C → S → Type 0) where
  holds_by : (k : ℕ) (a : Checked) (p : Part C S) → holds p.rest p.state → Goes step (λ k. holds) (λ p. holds p.rest p.state) k a p
  holds_by k (Err r) p h = h
  holds_by k (Ok u) p h = h

  pub each_holds : ((c : C) (s : S) → holds c s → holds (step c s).rest (step c s).state) → (k : ℕ) (c : C) (s : S) → holds c s → holds (each step k c s).rest (each step k c s).state
  each_holds turn k c s h =
      each_keeps step (λ k. holds) (λ p. holds p.rest p.state) (λ c s h. h) (λ k c s h. holds_by k (step c s).why (step c s) (turn c s h)) k c s h
