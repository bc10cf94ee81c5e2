-- Lines of calls as in document 01's cowlines, and what they are answered, on a pool of pages of L bytes. No mapping is live in a case, so that no
-- list for notices is lent.
use Rattle.std.specs.Prelude.{◌≡◌, List, [], ◌∷◌, ℕ, ◌*◌, replicate, Ok, Err}
use Rattle.tables.specs.Pool.{Pool}
use Rattle.frames.specs.Frames.{free_count}
use Rattle.outcome.specs.Answers.{code_of, value_of, Answer}
use Rattle.outcome.specs.Outcome.{Outcome}
use Rattle.runs.specs.Runs.{Command, effect}
use Rattle.runs.specs.Runs.Command.{New as Newly, Child as Cloned, Read as Reads, Write as Writes}

pub data Line : Type 0 where
  New : (pages : ℕ) → Line
  -- pages of an object
  Child : (object first count : ℕ) → Line
  -- so many times the same byte
  Write : (object offset byte len : ℕ) → Line
  Read : (object offset len : ℕ) → Line
  -- no call: how many frames are free
  Free : Line

-- what is printed of a call: document 01's number and value, and the bytes that an accepted read gave
pub record Printed : Type 0 where
  pub code : ℕ
  pub value : ℕ
  pub bytes : List ℕ

abbrev pub says : ℕ → ℕ → Printed
says c v = record { code = c; value = v; bytes = [] }

abbrev pub reads : List ℕ → Printed
reads b = record { code = 0; value = 0; bytes = b }

pub record Step : Type 0 where
  pub reply : Printed
  pub pool : Pool

abbrev pub step_of : Printed → Pool → Step
step_of r p = record { reply = r; pool = p }

-- a call gives its answer's value; a refused write the bytes done; a read the bytes, if it is accepted
abbrev pub by_value : Outcome Answer → Step
by_value t = step_of (says (code_of t.answer) (value_of t.answer t.done)) t.pool

abbrev pub filling : Answer → List ℕ → Printed
filling (Ok v) buf = reads buf
filling (Err r) buf = says (code_of (Err r)) 0

abbrev pub by_bytes : Outcome Answer → Step
by_bytes t = step_of (filling t.answer t.buf) t.pool

-- what a read's buffer holds before
abbrev pub blot : ℕ → List ℕ
blot len = replicate len 255

-- a line, where `does` says what calls give
unfoldable pub step_by : ℕ → (Pool → Command → Outcome Answer) → Pool → Line → Step
step_by L does p (New pages) = by_value (does p (Newly pages))
step_by L does p (Child object first count) = by_value (does p (Cloned [] object (first * L) (count * L)))
step_by L does p (Write object offset byte len) = by_value (does p (Writes [] object offset (replicate len byte)))
step_by L does p (Read object offset len) = by_bytes (does p (Reads object offset (blot len)))
step_by L does p Free = step_of (says 0 (free_count p.used)) p

abbrev pub step : ℕ → Pool → Line → Step
step L = step_by L (effect L)

-- a line with its answer beside it
infix 70 ◌⇒◌
pub record Row : Type 0 where
  pub line : Line
  pub reply : Printed

abbrev pub ◌⇒◌ : Line → Printed → Row
l ⇒ r = record { line = l; reply = r }

-- the lines, one after the other, are answered so
unfoldable pub replies_by : (Pool → Line → Step) → Pool → List Row → List Printed
replies_by step p [] = []
replies_by step p (r ∷ rows) = let s = step p r.line in s.reply ∷ replies_by step s.pool rows

unfoldable pub replies_in : List Row → List Printed
replies_in [] = []
replies_in (r ∷ rows) = r.reply ∷ replies_in rows

pub record Table (L : ℕ) (p : Pool) (rows : List Row) : Type 0 where
  pub answered : replies_by (step L) p rows ≡ replies_in rows
