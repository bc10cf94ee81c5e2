-- The invariant of runs: a sound pool in which every object reads an array of its own, as long as the object.
use Rattle.std.specs.Prelude.{◌≡◌, ℕ, ◌+◌, ◌*◌, length, get_or}
use Rattle.tables.specs.Pool.{Pool}
use Rattle.tables.specs.Tables.{node_of}
use Rattle.sound.specs.Facts.{Leaf}
use Rattle.isolation.specs.Private.{Private}
use Rattle.runs.specs.Arrays.{Arrays}

-- the arrays in pages: byte k of page i of object n
abbrev pub paged : ℕ → Arrays → ℕ → ℕ → ℕ → ℕ
paged L A n i k = get_or (A n) (i * L + k) 0

pub record Isolated (L : ℕ) (A : Arrays) (p : Pool) : Type 0 where
  pub private : Private L (paged L A) p
  pub lengths : (n : ℕ) → Leaf p.nodes n → length (A n) ≡ (node_of p.nodes n).size * L
