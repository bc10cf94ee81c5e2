-- A page's state and its word in the lent table (paged.rs 102 to 152; the word is that of the written tree).
use Rattle.std.specs.Prelude.{ℕ, ◌+◌, ◌-◌, ◌*◌, ◌/◌, ◌%◌, Bool, true, false, eqb, Option, None, Some}
use Rattle.logic.specs.Pick.{pick}
use Rattle.entry.specs.declared.PageState.{PageState}
use Rattle.entry.specs.declared.PageStateTag.{PageStateTag}
use Rattle.entry.specs.declared.PageStateTag.TheVariants.{Owned, LeftSplit, RightSplit}

-- negate, 121: of Owned the source never asks
abbrev pub negate_of : PageStateTag → PageStateTag
negate_of Owned = Owned
negate_of LeftSplit = RightSplit
negate_of RightSplit = LeftSplit

-- is_split, 128
abbrev pub split_of : PageStateTag → Bool
split_of Owned = false
split_of LeftSplit = true
split_of RightSplit = true

-- new, 134
abbrev pub new_state : ℕ → PageState
new_state f = record { frame = f; tag = Owned; pin_count = 0 }

abbrev pub tagged_of : PageState → PageStateTag → PageState
tagged_of e t = record { frame = e.frame; tag = t; pin_count = e.pin_count }

abbrev pub tag_number : PageStateTag → ℕ
tag_number Owned = 0
tag_number LeftSplit = 1
tag_number RightSplit = 2

unfoldable pub tag_of : ℕ → PageStateTag
tag_of n = pick (eqb n 0) Owned (pick (eqb n 1) LeftSplit RightSplit)

-- an entry's three parts: frame + 1, tag, pins
abbrev pub low_of : ℕ → ℕ
low_of e = e % 4096

unfoldable pub state_of : ℕ → PageState
state_of e = record { frame = low_of e - 1; tag = tag_of (e / 4096 % 4); pin_count = e / 16384 % 32 }

unfoldable pub slot_of : ℕ → Option PageState
slot_of e = pick (eqb (low_of e) 0) None (Some (state_of e))

unfoldable pub entry_word : PageState → ℕ
entry_word s = s.frame % 4095 + 1 + 4096 * tag_number s.tag + 16384 * (s.pin_count % 32)
