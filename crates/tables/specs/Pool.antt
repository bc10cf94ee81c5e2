-- The lent pool as one value.
use Rattle.std.specs.Prelude.{ℕ, List}

-- 64 node records of 16 words; 64 rows of 64 page entries; a byte for each frame, 1 in use; 64 mappings of 4 words in the order of appending;
-- the head, whose word 0 is the next owner number; the frames' bytes
pub record Pool : Type 0 where
  pub nodes : List ℕ
  pub pages : List ℕ
  pub used : List ℕ
  pub mappings : List ℕ
  pub head : List ℕ
  pub memory : List ℕ

abbrev pub pool_of : List ℕ → List ℕ → List ℕ → List ℕ → List ℕ → List ℕ → Pool
pool_of n p u m h y = record { nodes = n; pages = p; used = u; mappings = m; head = h; memory = y }
