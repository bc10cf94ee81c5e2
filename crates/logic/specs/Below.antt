-- What holds, adds up or is first among the numbers below n; and the part of a list that is written from another.
use Rattle.std.specs.Prelude.{ℕ, zero, suc, ◌+◌, Bool, true, ◌&&◌, List, get_or, set, Option, Some, None}
use Rattle.logic.specs.Pick.{pick}

-- f holds of each number below n
unfoldable pub all_below : (ℕ → Bool) → ℕ → Bool
all_below f zero = true
all_below f (suc n) = all_below f n && f n

-- f 0 + .. + f (n - 1)
unfoldable pub sum_below : (ℕ → ℕ) → ℕ → ℕ
sum_below f zero = 0
sum_below f (suc n) = sum_below f n + f n

-- the first of the n numbers from k on of which f holds
unfoldable pub first_from : (ℕ → Bool) → ℕ → ℕ → Option ℕ
first_from f k zero = None
first_from f k (suc n) = pick (f k) (Some k) (first_from f (k + 1) n)

-- n elements of s, from b on, put into d from a on
unfoldable pub copied : List ℕ → ℕ → List ℕ → ℕ → ℕ → List ℕ
copied d a s b zero = d
copied d a s b (suc n) = set (copied d a s b n) (a + n) (get_or s (b + n) 0)

-- n zeros put into d from a on
unfoldable pub zeroed : List ℕ → ℕ → ℕ → List ℕ
zeroed d a zero = d
zeroed d a (suc n) = set (zeroed d a n) (a + n) 0
