-- Sums compared term by term. Assumes nothing.
use mathlib.Core.Path.{◌≡◌, refl, ap₂}
use Prim.Native.Nat.{ℕ, zero, suc, ◌+◌, ◌*◌, ◌≤◌, ◌<◌}
use native.Mathlib.Omega.{arith}
use Rattle.logic.specs.Below.{sum_below}
use Rattle.logic.proofs.Means.{equal, split}

pub sum_same : (f g : ℕ → ℕ) (m : ℕ) → ((j : ℕ) → f j ≡ g j) → sum_below f m ≡ sum_below g m
unfolding sum_below
sum_same f g zero h = refl
sum_same f g (suc m) h = ap₂ ◌+◌ (sum_same f g m h) (h m)

pub sum_most : (f : ℕ → ℕ) (c m : ℕ) → ((j : ℕ) → f j ≤ c) → sum_below f m ≤ m * c
unfolding sum_below
sum_most f c zero h = omega arith
sum_most f c (suc m) h = let q = sum_most f c m h in let r = h m in omega arith

pub sum_le : (f g : ℕ → ℕ) (m : ℕ) → ((j : ℕ) → f j ≤ g j) → sum_below f m ≤ sum_below g m
unfolding sum_below
sum_le f g zero h = omega arith
sum_le f g (suc m) h = let q = sum_le f g m h in let r = h m in omega arith

pub sum_less : (f g : ℕ → ℕ) (m i : ℕ) → ((j : ℕ) → f j ≤ g j) → f i < g i → i < m → sum_below f m < sum_below g m
unfolding sum_below
sum_less f g zero i h d l = absurd (omega arith)
sum_less f g (suc m) i h d l =
    split (equal i m)
    (λ e. let q = sum_le f g m h in let r : f m < g m = rw e at d in omega arith)
    (λ ne. let q = sum_less f g m i h d (omega arith) in let r = h m in omega arith)
