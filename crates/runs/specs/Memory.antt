-- When a call is refused with NO_MEMORY.
use Rattle.std.specs.Prelude.{◌≡◌, true, ℕ, ◌/◌, ◌<◌, length, Ok}
use Rattle.tables.specs.Pool.{Pool}
use Rattle.frames.specs.Frames.{free_count}
use Rattle.sound.specs.Facts.{Leaf}
use Rattle.commit.specs.Commit.{page_refusal}
use Rattle.ranges.specs.Ranges.{against_writing, against_committing}
use Rattle.lookups.specs.Need.{need}
use Rattle.arrays.specs.Arrays.{touched, needs}
use Rattle.runs.specs.Runs.{Aside, Command}
use Rattle.runs.specs.Runs.Aside.{Commit, CommitPage, Len, Peek, Forecast, Append, Remove}
use Rattle.runs.specs.Runs.Command.{New, Child, Read, Write, Also}

-- so many pages of object n, from page `first` on, need more frames than are free
abbrev pub NeedsMore : Pool → ℕ → ℕ → ℕ → Type 0
NeedsMore p n first pages = free_count p.used < needs p.nodes p.pages n first pages

-- a commit, or a commit_page for writing, of a live object: its tests hold and its pages need more
abbrev pub TooFewFor : ℕ → Pool → Aside → Type 0
TooFewFor L p (Commit list n offset len) =
    Leaf p.nodes n × (against_committing L p.nodes p.mappings list n offset len ≡ Ok tt) × NeedsMore p n (offset / L) (len / L)
TooFewFor L p (CommitPage list n page write) =
    Leaf p.nodes n × (page_refusal p.nodes p.mappings list n page write ≡ Ok tt) × (write ≡ true)
    × (free_count p.used < need p.nodes p.pages n page)
TooFewFor L p (Len n) = ⊥
TooFewFor L p (Peek zero n page) = ⊥
TooFewFor L p (Forecast n offset len) = ⊥
TooFewFor L p (Append n first pages) = ⊥
TooFewFor L p (Remove n mapping) = ⊥

-- or a write; no other call takes a frame
abbrev pub TooFew : ℕ → Pool → Command → Type 0
TooFew L p (Write list n offset bytes) =
    Leaf p.nodes n × (against_writing L p.nodes p.mappings list n offset (length bytes) ≡ Ok tt)
    × NeedsMore p n (offset / L) (touched L offset (length bytes))
TooFew L p (Also c) = TooFewFor L p c
TooFew L p (New pages) = ⊥
TooFew L p (Child list n offset len) = ⊥
TooFew L p (Read n offset buf) = ⊥
