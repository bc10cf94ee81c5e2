-- Runs of calls on a pool of pages of L bytes: any calls, in any order, refused ones among them.
use Rattle.std.specs.Prelude.{Bool, List, [], ◌∷◌, ℕ, Ok}
use Rattle.outcome.specs.Answers.{Answer}
use Rattle.tables.specs.Pool.{Pool}
use Rattle.outcome.specs.Outcome.{Outcome, outcome, reply_of}
use Rattle.pool.specs.Calls.{start, new, len}
use Rattle.mapped.specs.Mapped.{append_mapping, remove_mapping}
use Rattle.forecast.specs.Forecast.{forecast}
use Rattle.commit.specs.Commit.{commit_page}
use Rattle.child.specs.Child.{create_child}
use Rattle.ranges.specs.Ranges.{read, write, commit}
use Rattle.peek.specs.Peek.{peek}

-- the calls that make no object and have no buffer: with any numbers, a list for lent notices, and one for the lent page of zeros
pub data Aside : Type 0 where
  Commit : (list : List ℕ) (object offset len : ℕ) → Aside
  CommitPage : (list : List ℕ) (object page : ℕ) (write : Bool) → Aside
  Len : (object : ℕ) → Aside
  Peek : (zero : List ℕ) (object page : ℕ) → Aside
  Forecast : (object offset len : ℕ) → Aside
  Append : (object first pages : ℕ) → Aside
  Remove : (object mapping : ℕ) → Aside

-- a call with its arguments; lists also for the lent buffer and the bytes to write
pub data Command : Type 0 where
  New : (pages : ℕ) → Command
  Child : (list : List ℕ) (object offset len : ℕ) → Command
  Read : (object offset : ℕ) (buf : List ℕ) → Command
  Write : (list : List ℕ) (object offset : ℕ) (bytes : List ℕ) → Command
  Also : Aside → Command

-- by the rules of the calls themselves; a peek is a function to bytes, which are none where it shows nothing
unfoldable pub aside_effect : ℕ → Pool → Aside → Outcome Answer
aside_effect L p (Commit list n offset bytes) = commit L p list n offset bytes
aside_effect L p (CommitPage list n page writing) = commit_page L p list n page writing
aside_effect L p (Len n) = len L p n
aside_effect L p (Peek zero n page) = outcome (reply_of (Ok 0)) p [] (peek L p zero n page)
aside_effect L p (Forecast n offset bytes) = forecast L p n offset bytes
aside_effect L p (Append n first pages) = append_mapping L p n first pages
aside_effect L p (Remove n mapping) = remove_mapping L p n mapping

unfoldable pub effect : ℕ → Pool → Command → Outcome Answer
effect L p (New pages) = new L p pages
effect L p (Child list n offset bytes) = create_child L p list n offset bytes
effect L p (Read n offset buf) = read L p n offset buf
effect L p (Write list n offset bytes) = write L p list n offset bytes
effect L p (Also c) = aside_effect L p c

-- what it gave: the answer, the bytes that a write calls done, and the buffer that a read leaves or the bytes that a peek shows
pub record Result : Type 0 where
  pub answer : Answer
  pub done : ℕ
  pub buf : List ℕ

abbrev pub result_of : Answer → ℕ → List ℕ → Result
result_of a d b = record { answer = a; done = d; buf = b }

abbrev pub result_in : Outcome Answer → Result
result_in r = result_of r.answer r.done r.buf

-- the pool after a run
unfoldable pub after : ℕ → Pool → List Command → Pool
after L p [] = p
after L p (c ∷ cs) = after L (effect L p c).pool cs

-- its history: each call, and what it gave
pub record Event : Type 0 where
  pub command : Command
  pub result : Result

abbrev pub event_of : Command → Result → Event
event_of c r = record { command = c; result = r }

unfoldable pub history : ℕ → Pool → List Command → List Event
history L p [] = []
history L p (c ∷ cs) = event_of c (result_in (effect L p c)) ∷ history L (effect L p c).pool cs

-- a run on a fresh pool, which start made of the tables and the memory lent
abbrev pub pool_after : ℕ → Pool → List Command → Pool
pool_after L p run = after L (start L p).pool run

abbrev pub history_of : ℕ → Pool → List Command → List Event
history_of L p run = history L (start L p).pool run
