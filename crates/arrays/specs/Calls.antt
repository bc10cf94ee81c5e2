-- What calls on an object do, whatever object and range they name; and what commit_page answers.
use Rattle.std.specs.Prelude.{◌≡◌, Bool, true, false, ◌⊎◌, ℕ, ◌+◌, ◌*◌, ◌≤◌, ◌<◌, get_or, Ok, Err}
use Rattle.outcome.specs.Answers.{Answer}
use Rattle.tables.specs.Pool.{Pool}
use Rattle.frames.specs.Frames.{free_count}
use Rattle.outcome.specs.declared.answer.Refusal.{Refusal}
use Rattle.outcome.specs.declared.answer.Refusal.TheVariants.{OutOfRange, BadState, InvalidArgs, NoMemory, NotSupported, Unavailable, BadPool, NoObject, NoNode, NoRoom, Stopped, PinLedger}
use Rattle.outcome.specs.Outcome.{Outcome}
use Rattle.isolation.specs.Private.{Private}
use Rattle.lookups.specs.Need.{need}
use Rattle.arrays.specs.Outcomes.{Stays}

-- the refusals that a call's tests give before it does anything: on a sound pool never BAD_POOL, NO_MEMORY or STOPPED
abbrev pub ByTests : Refusal → Type 0
ByTests NoObject = Unit
ByTests BadState = Unit
ByTests OutOfRange = Unit
ByTests NoRoom = Unit
ByTests InvalidArgs = ⊥
ByTests NoMemory = ⊥
ByTests NotSupported = ⊥
ByTests Unavailable = ⊥
ByTests BadPool = ⊥
ByTests NoNode = ⊥
ByTests Stopped = ⊥
ByTests PinLedger = ⊥

-- the call's tests refused it, which leaves all as it was, or it did what W says
pub data Called {R : Type 0} (refuse : Refusal → R) (W : R → Type 0) (r : R) : Type 0 where
  tested : (why : Refusal) → ByTests why → r ≡ refuse why → Called refuse W r
  accepted : W r → Called refuse W r

-- commit_page gives a frame with the page's bytes; for writing as many frames were taken as the page needs, for reading none
pub record Frame (L : ℕ) (A : ℕ → ℕ → ℕ → ℕ) (p : Pool) (n page : ℕ) (write : Bool) (r : Outcome Answer) : Type 0 where
  pub frame : ℕ
  pub answer : r.answer ≡ Ok frame
  pub bytes : (k : ℕ) → k < L → get_or r.pool.memory (frame * L + k) 0 ≡ A n page k
  pub enough : write ≡ true → need p.nodes p.pages n page ≤ free_count p.used
  pub taken : write ≡ true → free_count p.used ≡ free_count r.pool.used + need p.nodes p.pages n page
  pub untaken : write ≡ false → r.pool.used ≡ p.used

-- for reading it may give the shared zero frame, and change nothing
pub record ZeroFrame (L : ℕ) (A : ℕ → ℕ → ℕ → ℕ) (p : Pool) (n page : ℕ) (write : Bool) (r : Outcome Answer) : Type 0 where
  pub answer : r.answer ≡ Ok 4294967295
  pub reading : write ≡ false
  pub bytes : (k : ℕ) → k < L → A n page k ≡ 0
  pub same : r.pool ≡ p

-- for writing there may be too few frames: then all are taken
pub record NoFrame (p : Pool) (n page : ℕ) (write : Bool) (r : Outcome Answer) : Type 0 where
  pub answer : r.answer ≡ Err NoMemory
  pub writing : write ≡ true
  pub short : free_count p.used < need p.nodes p.pages n page
  pub none : free_count r.pool.used ≡ 0

pub record Page (L : ℕ) (A : ℕ → ℕ → ℕ → ℕ) (p : Pool) (n page : ℕ) (write : Bool) (r : Outcome Answer) : Type 0 where
  pub private : Private L A r.pool
  pub stays : Stays p r.pool
  pub ends : Frame L A p n page write r ⊎ (ZeroFrame L A p n page write r ⊎ NoFrame p n page write r)
