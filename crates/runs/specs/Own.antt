-- An object's own part of a history: its reads and its writes.
use Rattle.std.specs.Prelude.{List, [], ◌∷◌, ℕ, eqb, length}
use Rattle.outcome.specs.Answers.{Answer}
use Rattle.logic.specs.Pick.{pick}
use Rattle.runs.specs.Runs.{Command, Result, result_of, Event}
use Rattle.runs.specs.Runs.Command.{New, Child, Read, Write, Also}
use Rattle.runs.specs.Arrays.{bytes_in}

-- what counts of a read: where, and how many bytes; of a write: where, which bytes, its answer, and how many bytes are done. Neither the object's
-- number nor what a lent list or buffer held before
pub data Deed : Type 0 where
  Asked : (offset len : ℕ) → Deed
  Overwrites : (offset : ℕ) (bytes : List ℕ) (answer : Answer) (done : ℕ) → Deed

-- before those of later calls
abbrev pub deeds_by : ℕ → Command → Result → List Deed → List Deed
deeds_by o (Read n offset buf) r ds = pick (eqb n o) (Asked offset (length buf) ∷ ds) ds
deeds_by o (Write list n offset bytes) r ds = pick (eqb n o) (Overwrites offset bytes r.answer r.done ∷ ds) ds
deeds_by o (New pages) r ds = ds
deeds_by o (Child list n offset len) r ds = ds
deeds_by o (Also c) r ds = ds

-- o's own reads and writes, in order
unfoldable pub deeds : ℕ → List Event → List Deed
deeds o [] = []
deeds o (e ∷ es) = deeds_by o e.command e.result (deeds o es)

-- what a read gave: its answer, and the bytes if it was accepted
abbrev pub got : Result → Result
got r = result_of r.answer 0 (bytes_in r)

abbrev pub reads_by : ℕ → Command → Result → List Result → List Result
reads_by o (Read n offset buf) r rs = pick (eqb n o) (got r ∷ rs) rs
reads_by o (Write list n offset bytes) r rs = rs
reads_by o (New pages) r rs = rs
reads_by o (Child list n offset len) r rs = rs
reads_by o (Also c) r rs = rs

-- what the reads of o gave, in order
unfoldable pub reads_of : ℕ → List Event → List Result
reads_of o [] = []
reads_of o (e ∷ es) = reads_by o e.command e.result (reads_of o es)
