-- The call peek on a pool of pages of L bytes: one page's bytes as a read would give them, and nothing moved.
use Rattle.std.specs.Prelude.{ℕ, ◌+◌, ◌*◌, Bool, ◌&&◌, List, [], eqb, leb, length, get_or, take, drop}
use Rattle.logic.specs.Pick.{pick}
use Rattle.logic.specs.Below.{all_below}
use Rattle.tables.specs.Pool.{Pool}
use Rattle.lookup.specs.declared.End.{End}
use Rattle.lookup.specs.declared.End.TheVariants.{Has, Bare, Tired}
use Rattle.lookup.specs.Mode.{today, place_of}
use Rattle.lookup.specs.Descent.{walk}
use Rattle.outcome.specs.Answers.{unless}
use Rattle.outcome.specs.Outcome.{Numbers, numbers_of}
use Rattle.pool.specs.Calls.{on_object}
use Rattle.ranges.specs.Ranges.{against_reading}
use Rattle.peek.specs.declared.Shown.{Shown}
use Rattle.peek.specs.declared.Shown.TheVariants.{Frame, ZeroPage, Nowhere}

unfoldable pub blank_byte : List ℕ → ℕ → Bool
blank_byte zero i = eqb (get_or zero i 0) 0

-- the lent zero page is L zeros
unfoldable pub zero_page_of : ℕ → List ℕ → Bool
zero_page_of L zero = eqb (length zero) L && all_below (blank_byte zero) L

-- where lookup's walk ends, whether the frame there would move or not
abbrev pub shown_by : End → Shown
shown_by (Has s) = Frame s.frame
shown_by Bare = ZeroPage
shown_by Tired = Nowhere

-- nowhere, if a read of the page would be refused
unfoldable pub place_at : ℕ → Pool → ℕ → ℕ → Shown
place_at L p n page =
    unless (against_reading L p.nodes n (page * L) L) (λ r. Nowhere) (shown_by (walk (today L p.nodes p.mappings) 64 p.pages (place_of n page n)).end)

unfoldable pub place : ℕ → Pool → List ℕ → ℕ → ℕ → Shown
place L p zero object page = pick (zero_page_of L zero) (on_object L p object (λ r. Nowhere) (λ n. place_at L p n page)) Nowhere

-- a frame's bytes
unfoldable pub frame_bytes : ℕ → List ℕ → ℕ → List ℕ
frame_bytes L memory f = pick (leb (f * L + L) (length memory)) (take L (drop (f * L) memory)) []

abbrev pub shown_at : ℕ → List ℕ → List ℕ → Shown → List ℕ
shown_at L memory zero (Frame f) = frame_bytes L memory f
shown_at L memory zero ZeroPage = zero
shown_at L memory zero Nowhere = []

unfoldable pub peek : ℕ → Pool → List ℕ → ℕ → ℕ → List ℕ
peek L p zero object page = shown_at L p.memory zero (place L p zero object page)

-- for the export: 0 nowhere, 1 in a frame, whose number is the value, 2 in the zero page
abbrev pub place_numbers : Shown → Numbers
place_numbers (Frame f) = numbers_of 1 f
place_numbers ZeroPage = numbers_of 2 0
place_numbers Nowhere = numbers_of 0 0
