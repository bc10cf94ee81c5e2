-- What the walk for reading finds next to what page lookup answers, and what peek shows next to what a read gives. A peek is a function to a list
-- of bytes: it leaves no pool, so nothing is moved by it.
use Rattle.std.specs.Prelude.{◌≡◌, List, [], ℕ, ◌*◌, ◌<◌, length, get_or, Ok, Some, None, Err}
use Rattle.outcome.specs.Answers.{Answer}
use Rattle.logic.specs.Pick.{pick}
use Rattle.tables.specs.Pool.{Pool}
use Rattle.lookup.specs.declared.End.{End}
use Rattle.lookup.specs.declared.End.TheVariants.{Has, Bare, Tired}
use Rattle.lookup.specs.Work.{Work}
use Rattle.lookup.specs.Commit.{Committing, Committed}
use Rattle.outcome.specs.declared.answer.Refusal.{Refusal}
use Rattle.outcome.specs.Outcome.{Outcome}
use Rattle.ranges.specs.Ranges.{read}
use Rattle.peek.specs.Peek.{zero_page_of}

-- lookup answers the frame found, one of F, whether it would move or not, or zeros; the walk never ends without
abbrev pub ReadAs : ℕ → End → Committed → Type 0
ReadAs F (Has s) z = (z ≡ Ok (Some s.frame)) × (s.frame < F)
ReadAs F Bare z = z ≡ (Ok None)
ReadAs F Tired z = ⊥

-- and it changes no more than page entries
pub record Sees (F : ℕ) (x : End) (w : Work) (r : Committing) : Type 0 where
  pub answer : ReadAs F x r.answer
  pub used : r.work.used ≡ w.used
  pub memory : r.work.memory ≡ w.memory
  pub told : r.work.told ≡ w.told

-- the read is refused and peek shows nothing, or peek shows the L bytes that the read gives
pub data Peeked (L : ℕ) (shown : List ℕ) (r : Outcome Answer) : Type 0 where
  nothing : (why : Refusal) → r.answer ≡ Err why → shown ≡ [] → Peeked L shown r
  bytes : r.answer ≡ Ok 0 → shown ≡ r.buf → length shown ≡ L → Peeked L shown r

-- the read is refused
pub record ReadRefused (r : Outcome Answer) : Type 0 where
  pub why : Refusal
  pub answer : r.answer ≡ Err why

-- the bytes that an accepted read gives
abbrev pub bytes_read : Answer → List ℕ → List ℕ
bytes_read (Ok v) buf = buf
bytes_read (Err why) buf = []

-- peek by document 01's sentence: the buffer of a read of that page where the read is accepted, else nothing; nothing too where the zero page
-- isn't L zeros
abbrev pub peek_by_read : ℕ → Pool → List ℕ → ℕ → ℕ → List ℕ → List ℕ
peek_by_read L p zero object page buf =
    let r = read L p object (page * L) buf in
    pick (zero_page_of L zero) (bytes_read r.answer r.buf) []

-- the L bytes a 0, a 1, ..
pub record BytesOf (L : ℕ) (a : ℕ → ℕ) (shown : List ℕ) : Type 0 where
  pub size : length shown ≡ L
  pub bytes : (k : ℕ) → k < L → get_or shown k 0 ≡ a k
