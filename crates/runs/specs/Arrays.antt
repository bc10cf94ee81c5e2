-- Each object's array, from a run's history alone: what was called, what was answered, how many bytes were done. An array is its bytes, and its
-- length is the object's.
use Rattle.std.specs.Prelude.{Bool, true, false, List, [], ◌∷◌, ◌++◌, ℕ, ◌+◌, ◌*◌, eqb, leb, length, take, drop, replicate, Ok, Err}
use Rattle.outcome.specs.Answers.{Answer}
use Rattle.logic.specs.Pick.{pick}
use Rattle.outcome.specs.declared.answer.Refusal.TheVariants.{OutOfRange, BadState, NoObject}
use Rattle.tables.specs.Pool.{Pool}
use Rattle.runs.specs.Runs.{Command, Result, result_of, Event, history_of}
use Rattle.runs.specs.Runs.Command.{New, Child, Read, Write, Also}

-- the bytes of each object's array, by the object's number
abbrev pub Arrays : Type 0
Arrays = ℕ → List ℕ

-- no object yet
abbrev pub nobody : Arrays
nobody = λ n. []

-- object n gets array a, and the others keep theirs
abbrev pub with_array : Arrays → ℕ → List ℕ → Arrays
with_array A n a = λ m. pick (eqb m n) a (A m)

-- the array with the first `done` of the bytes in place of those from the offset on
abbrev pub overwritten : List ℕ → ℕ → List ℕ → ℕ → List ℕ
overwritten a offset bytes done = take offset a ++ take done bytes ++ drop (offset + done) a

-- new gives an object zeros
abbrev pub new_by : ℕ → Arrays → ℕ → Answer → Arrays
new_by L A pages (Ok i) = with_array A i (replicate (pages * L) 0)
new_by L A pages (Err r) = A

-- create_child copies the named range of object n, and nothing before or after it
abbrev pub child_by : Arrays → ℕ → ℕ → ℕ → Answer → Arrays
child_by A n offset len (Ok c) = with_array A c (take len (drop offset (A n)))
child_by A n offset len (Err r) = A

-- a write, refused or not, puts the bytes that it calls done; nothing else changes an array
abbrev pub array_by : ℕ → Arrays → Command → Result → Arrays
array_by L A (New pages) r = new_by L A pages r.answer
array_by L A (Child list n offset len) r = child_by A n offset len r.answer
array_by L A (Write list n offset bytes) r = with_array A n (overwritten (A n) offset bytes r.done)
array_by L A (Read n offset buf) r = A
array_by L A (Also c) r = A

unfoldable pub arrays_after : ℕ → Arrays → List Event → Arrays
arrays_after L A [] = A
arrays_after L A (e ∷ es) = arrays_after L (array_by L A e.command e.result) es

-- after a run on a fresh pool
abbrev pub arrays_of : ℕ → Pool → List Command → Arrays
arrays_of L p run = arrays_after L nobody (history_of L p run)

-- the call made object o
abbrev pub named : ℕ → Answer → Bool
named o (Ok i) = eqb o i
named o (Err r) = false

abbrev pub makes : ℕ → Command → Answer → Bool
makes o (New pages) a = named o a
makes o (Child list n offset len) a = named o a
makes o (Write list n offset bytes) a = false
makes o (Read n offset buf) a = false
makes o (Also c) a = false

-- object o was there, or some call of the history made it
unfoldable pub lives : ℕ → Bool → List Event → Bool
lives o was [] = was
lives o was (e ∷ es) = lives o (pick (makes o e.command e.result.answer) true was) es

-- what a read of array a gives, where the object lives and where its policy is Cached: the bytes from the offset on, as many as the buffer is long,
-- if they lie inside; else a refusal, which leaves the buffer
abbrev pub read_array : Bool → Bool → List ℕ → ℕ → List ℕ → Result
read_array live cached a offset buf =
    pick live
    (pick cached
    (pick (leb (offset + length buf) (length a)) (result_of (Ok 0) 0 (take (length buf) (drop offset a)))
    (result_of (Err OutOfRange) 0 buf))
    (result_of (Err BadState) 0 buf))
    (result_of (Err NoObject) 0 buf)

-- the bytes that an accepted call gave
abbrev pub bytes_by : Answer → List ℕ → List ℕ
bytes_by (Ok v) buf = buf
bytes_by (Err r) buf = []

abbrev pub bytes_in : Result → List ℕ
bytes_in r = bytes_by r.answer r.buf
