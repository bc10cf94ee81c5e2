-- The absent pages, counted as the code does. Assumes nothing.
use Rattle.std.specs.Prelude.{Option, None, Some, cond, count_by, filter, length}
use Rattle.std.specs.Option.{is_none}
use Rattle.std.specs.List.{range_with_len}
use Rattle.std.proofs.lemmas.List.Sums.{sum_by_push, length-filter}
use mathlib.Core.Path.{◌≡◌, refl, ap, ◌∙◌}
use mathlib.Core.List.{List, [], ◌∷◌, ◌++◌}
use Prim.Native.Nat.{ℕ, zero, suc, ◌+◌}
use native.Mathlib.Omega.{arith}
use Rattle.entry.specs.declared.PageState.{PageState}
use Rattle.tables.specs.Pool.{Pool}
use Rattle.tables.specs.Tables.{slot_at}
use Rattle.logic.specs.Below.{sum_below}
use Rattle.forecast.specs.Forecast.{one_absent, absent_at, absent_from, absent_in, forecast}
use Rattle.outcome.proofs.Laws.{Quiet}
use Rattle.pool.proofs.Laws.{on_object_lem}

-- the pages that pass the test, counted one by one

range-more : (a k : ℕ) → range_with_len a (suc k) ≡ range_with_len a k ++ (a + k) ∷ []
range-more a zero = let e : a + 0 ≡ a = omega arith in rw e refl
range-more a (suc k) =
    let e : a + 1 + k ≡ a + suc k = omega arith in
    ap (λ (l : List ℕ). a ∷ l) (range-more (a + 1) k ∙ rw e refl)

one_of : (s : Option PageState) → cond (is_none s) 1 0 ≡ one_absent s
one_of (Some p) = refl
one_of None = refl

by_count : (pages : List ℕ) (n first k : ℕ) → count_by (λ i. is_none (slot_at pages n i)) (range_with_len first k) ≡ absent_in pages n first k
unfolding absent_in sum_below absent_from absent_at
by_count pages n first zero = refl
by_count pages n first (suc k) =
    rw (range-more first k, sum_by_push (λ i. cond (is_none (slot_at pages n i)) 1 0) (range_with_len first k) (first + k), one_of (slot_at pages n (first + k)), by_count pages n first k) refl

pub counted : (pages : List ℕ) (n first k : ℕ) → length (filter (λ i. is_none (slot_at pages n i)) (range_with_len first k)) ≡ absent_in pages n first k
counted pages n first k = length-filter (λ i. is_none (slot_at pages n i)) (range_with_len first k) ∙ by_count pages n first k

-- the call sends no notice and takes no frame
pub forecast-quiet : (L : ℕ) (p : Pool) (object offset len : ℕ) → Quiet (forecast L p object offset len)
forecast-quiet L p object offset len = on_object_lem Quiet L p object (λ r. (refl, refl)) (λ n. (refl, refl))
