-- What the arrays after a birth read. Assumes nothing.
use mathlib.Core.Path.{◌≡◌, refl}
use Prim.Native.Nat.{ℕ, ◌+◌}
use borrow.Author.Tests.{eq-eqb, ne_eqb}
use Rattle.births.specs.Arrays.{blank_array, clone_array}

pub blank-new : (A : ℕ → ℕ → ℕ → ℕ) (new i k : ℕ) → blank_array A new new i k ≡ 0
unfolding blank_array
blank-new A new i k = rw (eq-eqb new new refl)

pub blank-other : (A : ℕ → ℕ → ℕ → ℕ) (new l i k : ℕ) → (l ≡ new → ⊥) → blank_array A new l i k ≡ A l i k
unfolding blank_array
blank-other A new l i k ne = rw (ne_eqb l new ne)

pub clone_child : (A : ℕ → ℕ → ℕ → ℕ) (object child first i k : ℕ) → clone_array A object child first child i k ≡ A object (first + i) k
unfolding clone_array
clone_child A object child first i k = rw (eq-eqb child child refl)

pub clone_other : (A : ℕ → ℕ → ℕ → ℕ) (object child first l i k : ℕ) → (l ≡ child → ⊥) → clone_array A object child first l i k ≡ A l i k
unfolding clone_array
clone_other A object child first l i k ne = rw (ne_eqb l child ne)
