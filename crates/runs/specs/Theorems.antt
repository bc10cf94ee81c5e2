-- What is proved of runs, from top to bottom; proofs/Theorems.antt proves each, and assumes nothing.
use Rattle.std.specs.Prelude.{◌≡◌, true, false, List, [], ◌∷◌, ◌++◌, ℕ, ◌*◌, length, replicate, Ok, Err}
use Rattle.logic.specs.Pick.{pick}
use Rattle.node.specs.Node.{leaf_of, cached_of}
use Rattle.tables.specs.Pool.{Pool}
use Rattle.tables.specs.Tables.{node_of}
use Rattle.frames.specs.Frames.{free_count}
use Rattle.sound.specs.Facts.{Leaf, Lengths}
use Rattle.sound.specs.Sound as S
use Rattle.outcome.specs.declared.answer.Refusal.TheVariants.{NoMemory, BadPool, NoObject, Stopped}
use Rattle.pool.specs.Calls.{start}
use Rattle.peek.specs.Peek.{zero_page_of}
use Rattle.runs.specs.Runs.{Command, effect, result_in, after, event_of, history, pool_after, history_of}
use Rattle.runs.specs.Runs.Aside.{Len, Peek}
use Rattle.runs.specs.Runs.Command.{Read, Write, Also}
use Rattle.runs.specs.Arrays.{Arrays, array_by, arrays_after, arrays_of, makes, lives, read_array, bytes_in}
use Rattle.runs.specs.Isolated.{Isolated}
use Rattle.runs.specs.Memory.{TooFew}
use Rattle.runs.specs.Own.{deeds, reads_of}

-- 1. Every call, on a pool p whose objects have the arrays A

pub record Promises (L : ℕ) (A : Arrays) (p : Pool) : Type 0 where
  -- the sound test, which heads every call, holds
  pub sound : S.sound L p ≡ true
  -- an object's size, in bytes, is its array's length
  pub sizes : (n : ℕ) → Leaf p.nodes n → (node_of p.nodes n).size * L ≡ length (A n)
  -- len answers it
  pub lens : (n : ℕ) → (effect L p (Also (Len n))).answer ≡ pick (leaf_of (node_of p.nodes n)) (Ok (length (A n))) (Err NoObject)
  -- a read of any object, at any offset and into any buffer, is what `read_array` says of the array
  pub reads : (n offset : ℕ) (buf : List ℕ)
      → result_in (effect L p (Read n offset buf)) ≡ read_array (leaf_of (node_of p.nodes n)) (cached_of (node_of p.nodes n)) (A n) offset buf
  -- lent a page of zeros, a peek shows the bytes that a read of the page gives, and nothing where that is refused
  pub peeks : (zero : List ℕ) (n page : ℕ) → (effect L p (Also (Peek zero n page))).buf
      ≡ pick (zero_page_of L zero) (bytes_in (read_array (leaf_of (node_of p.nodes n)) (cached_of (node_of p.nodes n)) (A n) (page * L) (replicate L 0))) []
  -- a write that is accepted has done all its bytes
  pub writes : (list : List ℕ) (n offset : ℕ) (bytes : List ℕ) (v : ℕ) → let r = effect L p (Write list n offset bytes) in
      r.answer ≡ Ok v → (v ≡ length bytes) × (r.done ≡ length bytes)
  -- a live object's array is changed by its own writes alone
  pub own_writes : (o : ℕ) → Leaf p.nodes o → (c : Command) → ((list : List ℕ) (offset : ℕ) (bytes : List ℕ) → c ≡ Write list o offset bytes → ⊥)
      → array_by L A c (result_in (effect L p c)) o ≡ A o
  pub never_bad_pool : (c : Command) → (effect L p c).answer ≡ Err BadPool → ⊥
  pub never_stopped : (c : Command) → (effect L p c).answer ≡ Err Stopped → ⊥
  -- NO_MEMORY exactly if the call's pages need more frames than are free; and then it leaves none free
  pub no_memory : (c : Command) → (effect L p c).answer ≡ Err NoMemory → TooFew L p c × (free_count (effect L p c).pool.used ≡ 0)
  pub too_few : (c : Command) → TooFew L p c → (effect L p c).answer ≡ Err NoMemory

-- 2. Any pool that has the invariant, whatever its past

-- it promises all this
abbrev pub AnyPromises : Type 0
AnyPromises = (L : ℕ) (A : Arrays) (p : Pool) → Isolated L A p → Promises L A p

-- and has it after every run, with the arrays that the history gives
abbrev pub AnyRun : Type 0
AnyRun = (L : ℕ) (A : Arrays) (p : Pool) → Isolated L A p → (run : List Command) → Isolated L (arrays_after L A (history L p run)) (after L p run)

-- so that every call of every run is met: one that comes after a part of the run finds the pool and the arrays of that part
pub record Goes (L : ℕ) (A : Arrays) (p : Pool) (before : List Command) (c : Command) (rest : List Command) : Type 0 where
  pub events : history L p (before ++ c ∷ rest)
      ≡ history L p before ++ event_of c (result_in (effect L (after L p before) c)) ∷ history L (effect L (after L p before) c).pool rest
  pub arrays : arrays_after L A (history L p (before ++ c ∷ []))
      ≡ array_by L (arrays_after L A (history L p before)) c (result_in (effect L (after L p before) c))

abbrev pub EveryCall : Type 0
EveryCall = (L : ℕ) (A : Arrays) (p : Pool) (before : List Command) (c : Command) (rest : List Command) → Goes L A p before c rest

-- 3. A fresh pool: tables and memory of the right lengths, whatever they hold, made a pool by start

pub record Fresh (L : ℕ) (p : Pool) (run : List Command) : Type 0 where
  -- after every run it has the invariant, so that the pool after the run promises all of 1
  pub isolated : Isolated L (arrays_of L p run) (pool_after L p run)
  pub promises : Promises L (arrays_of L p run) (pool_after L p run)
  -- the live objects are those that the history made, and all are Cached
  pub live : (n : ℕ) → leaf_of (node_of (pool_after L p run).nodes n) ≡ lives n false (history_of L p run)
  pub cached : (n : ℕ) → cached_of (node_of (pool_after L p run).nodes n) ≡ true
  -- so what a read gives follows from the history alone
  pub reads : (n offset : ℕ) (buf : List ℕ)
      → result_in (effect L (pool_after L p run) (Read n offset buf)) ≡ read_array (lives n false (history_of L p run)) true (arrays_of L p run n) offset buf

abbrev pub FreshRun : Type 0
FreshRun = (L : ℕ) (p : Pool) → Lengths L p → (run : List Command) → Fresh L p run

-- 4. Two runs, of which one has an object o and the other an object u with an equal array. Let them be alike in the object's own reads (where, how
-- many bytes) and writes (where, which bytes, the answer, how many bytes done), and in nothing else: not in the object's number or its other calls,
-- the children taken of it, any other object's calls, nor in what lent lists and buffers held. Then the object's reads give the same answers and
-- bytes, and its arrays are equal in the end.

pub record Alike (L : ℕ) (A B : Arrays) (p q : Pool) (o u : ℕ) (one two : List Command) : Type 0 where
  pub reads : reads_of o (history L p one) ≡ reads_of u (history L q two)
  pub arrays : arrays_after L A (history L p one) o ≡ arrays_after L B (history L q two) u

-- from any two pools that have the invariant
abbrev pub TwoRuns : Type 0
TwoRuns = (L : ℕ) (A B : Arrays) (p q : Pool) → Isolated L A p → Isolated L B q
    → (o u : ℕ) → Leaf p.nodes o → Leaf q.nodes u → cached_of (node_of p.nodes o) ≡ cached_of (node_of q.nodes u) → A o ≡ B u
    → (one two : List Command) → deeds o (history L p one) ≡ deeds u (history L q two) → Alike L A B p q o u one two

-- from two fresh pools, after any two pasts that made the objects and gave them equal arrays
abbrev pub TwoFreshRuns : Type 0
TwoFreshRuns = (L : ℕ) (p q : Pool) → Lengths L p → Lengths L q → (past other : List Command)
    → (o u : ℕ) → lives o false (history_of L p past) ≡ true → lives u false (history_of L q other) ≡ true → arrays_of L p past o ≡ arrays_of L q other u
    → (one two : List Command) → deeds o (history L (pool_after L p past) one) ≡ deeds u (history L (pool_after L q other) two)
    → Alike L (arrays_of L p past) (arrays_of L q other) (pool_after L p past) (pool_after L q other) o u one two

-- from one pool, alike up to and with the call that makes the object
abbrev pub TwoRunsFromBirth : Type 0
TwoRunsFromBirth = (L : ℕ) (p : Pool) → Lengths L p → (past : List Command) (birth : Command) (o : ℕ)
    → makes o birth (effect L (pool_after L p past) birth).answer ≡ true → let q = (effect L (pool_after L p past) birth).pool in
    (one two : List Command) → deeds o (history L q one) ≡ deeds o (history L q two) → reads_of o (history L q one) ≡ reads_of o (history L q two)

-- 5. Every call that there is keeps every sound pool sound, whatever the pool's past and the call's arguments and answer

pub data AnyCall : Type 0 where
  Start : AnyCall
  Of : Command → AnyCall

abbrev pub pool_left : ℕ → Pool → AnyCall → Pool
pool_left L p Start = (start L p).pool
pool_left L p (Of c) = (effect L p c).pool

abbrev pub KeepsSound : Type 0
KeepsSound = (L : ℕ) (p : Pool) → S.sound L p ≡ true → (c : AnyCall) → S.sound L (pool_left L p c) ≡ true
