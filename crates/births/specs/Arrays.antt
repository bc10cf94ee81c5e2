-- The arrays of a pool's objects after an object was born, in pages. Pages from an object's size on are nobody's: `Private` says nothing of them.
use Rattle.std.specs.Prelude.{ℕ, ◌+◌, eqb}
use Rattle.logic.specs.Pick.{pick}

-- a new object reads zeros, and every other object what it read
unfoldable pub blank_array : (ℕ → ℕ → ℕ → ℕ) → ℕ → ℕ → ℕ → ℕ → ℕ
blank_array A new l i k = pick (eqb l new) 0 (A l i k)

-- a child's pages are the object's from `first` on, and every other object reads what it read
unfoldable pub clone_array : (ℕ → ℕ → ℕ → ℕ) → ℕ → ℕ → ℕ → ℕ → ℕ → ℕ → ℕ
clone_array A object child first l i k = pick (eqb l child) (A object (first + i) k) (A l i k)
