-- The arrays after a write, and the frames that a run of pages takes.
use Rattle.std.specs.Prelude.{◌&&◌, List, ℕ, ◌+◌, ◌-◌, ◌*◌, eqb, leb, ltb, get_or}
use Rattle.logic.specs.Pick.{pick}
use Rattle.logic.specs.Below.{sum_below}
use Rattle.blocks.specs.Blocks.{iter_of, count_of}
use Rattle.lookups.specs.Need.{need}

-- the first `done` of the bytes were written into object n from byte `offset` on; byte k of page i is the object's byte i * L + k
unfoldable pub write_array : ℕ → (ℕ → ℕ → ℕ → ℕ) → ℕ → ℕ → List ℕ → ℕ → ℕ → ℕ → ℕ → ℕ
write_array L A n offset bytes done m i k =
    pick (eqb m n && (leb offset (i * L + k) && ltb (i * L + k) (offset + done))) (get_or bytes (i * L + k - offset) 0) (A m i k)

-- how many pages a range of bytes touches
abbrev pub touched : ℕ → ℕ → ℕ → ℕ
touched L offset len = count_of L (iter_of offset (offset + len))

-- the frames that writes of so many pages of object n take, from page `first` on
unfoldable pub needs : List ℕ → List ℕ → ℕ → ℕ → ℕ → ℕ
needs N P n first pages = sum_below (λ j. need N P n (first + j)) pages
