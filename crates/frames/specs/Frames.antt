-- Frames: flags of those in use, and the memory with a frame of L bytes cleared or copied.
use Rattle.std.specs.Prelude.{ℕ, ◌+◌, ◌*◌, Bool, ◌&&◌, List, eqb, leb, ltb, length, get_or, set, Option, Some, None}
use Rattle.logic.specs.Pick.{pick}
use Rattle.logic.specs.Below.{sum_below, first_from, copied, zeroed}

unfoldable pub idle_of : List ℕ → ℕ → Bool
idle_of used f = ltb f (length used) && eqb (get_or used f 0) 0

unfoldable pub one_idle : List ℕ → ℕ → ℕ
one_idle used f = pick (idle_of used f) 1 0

-- how many frames are free
unfoldable pub free_count : List ℕ → ℕ
free_count used = sum_below (one_idle used) 1024

-- the lowest free frame: PhysFrame::new by document 01's rule
unfoldable pub free_frame_in : List ℕ → Option ℕ
free_frame_in used = first_from (idle_of used) 0 1024

-- the flags with a frame taken, and given back
abbrev pub taken_of : Option ℕ → List ℕ → List ℕ
taken_of (Some f) used = set used f 1
taken_of None used = used

abbrev pub given_of : ℕ → List ℕ → List ℕ
given_of f used = set used f 0

-- n bytes of s, from b on, put into d from a on, where both hold them
unfoldable pub pasted_at : List ℕ → ℕ → List ℕ → ℕ → ℕ → List ℕ
pasted_at d a s b n = pick (leb (a + n) (length d)) (pick (leb (b + n) (length s)) (copied d a s b n) d) d

-- n zeros put into d from a on, where it holds them
unfoldable pub blank_at : List ℕ → ℕ → ℕ → List ℕ
blank_at d a n = pick (leb (a + n) (length d)) (zeroed d a n) d

-- a frame cleared: PhysFrame::new_zero
unfoldable pub cleared_at : ℕ → List ℕ → ℕ → List ℕ
cleared_at L m f = blank_at m (f * L) L

-- one frame's bytes put into another: pmem_copy
unfoldable pub copied_at : ℕ → List ℕ → ℕ → ℕ → List ℕ
copied_at L m to from = pasted_at m (to * L) m (from * L) L
