-- A byte range cut at the boundaries of pages of L bytes (block_range.rs 29 to 52; vm/mod.rs 29 to 47).
use Rattle.std.specs.Prelude.{ℕ, ◌+◌, ◌-◌, ◌/◌, ◌%◌, Bool, eqb, leb, ◌≡◌, Option, None, Some, MatchOption}
use Rattle.logic.specs.Pick.{pick}
use Rattle.blocks.specs.declared.BlockIter.{BlockIter}
use Rattle.blocks.specs.declared.BlockRange.{BlockRange}

abbrev pub aligned_of : ℕ → ℕ → Bool
aligned_of L x = eqb (x % L) 0

-- pages, 40
unfoldable pub pages_of : ℕ → ℕ → ℕ
pages_of L x = pick (eqb (x % L) 0) (x / L) (x / L + 1)

abbrev pub iter_of : ℕ → ℕ → BlockIter
iter_of b e = record { begin = b; end = e }

abbrev pub range_of : ℕ → ℕ → ℕ → BlockRange
range_of k b e = record { block = k; begin = b; end = e }

-- where the first block ends inside its page, 40
unfoldable pub block_end : ℕ → BlockIter → ℕ
block_end L it = pick (eqb (it.begin / L) (it.end / L)) (it.end % L) L

-- the first block, and what is left after it, 32
unfoldable pub next_by : ℕ → BlockIter → ℕ → BlockRange × BlockIter
next_by L it e = (range_of (it.begin / L) (it.begin % L) e, iter_of (it.begin + (e - it.begin % L)) it.end)

unfoldable pub next_of : ℕ → BlockIter → Option (BlockRange × BlockIter)
next_of L it = pick (leb it.end it.begin) None (Some (next_by L it (block_end L it)))

-- a call of `next` gave the first block and left the rest, or there is none
abbrev pub Gives : ℕ → BlockIter → Option BlockRange → BlockIter → Type 0
Gives L it r rest = MatchOption r ((next_of L it ≡ None) × (rest ≡ it)) (λ b. next_of L it ≡ Some (b, rest))

-- how many blocks there are: the pages that the range touches
unfoldable pub count_of : ℕ → BlockIter → ℕ
count_of L it = pick (leb it.end it.begin) 0 (pages_of L it.end - it.begin / L)
