-- What page lookup keeps and answers, on a pool whose objects are private arrays.
use Rattle.std.specs.Prelude.{◌≡◌, Bool, true, false, ℕ, ◌+◌, ◌*◌, ◌<◌, length, get_or, None, Ok, Some, Err}
use Rattle.entry.specs.declared.PageState.{PageState}
use Rattle.tables.specs.Pool.{Pool, pool_of}
use Rattle.tables.specs.Tables.{slot_at}
use Rattle.frames.specs.Frames.{free_count, free_frame_in}
use Rattle.outcome.specs.declared.answer.Refusal.{Refusal}
use Rattle.outcome.specs.declared.answer.Refusal.TheVariants.{NoMemory}
use Rattle.lookup.specs.Work.{Work, work_of}
use Rattle.lookup.specs.Commit.{Committing, Committed}
use Rattle.outcome.specs.Told.{Told}
use Rattle.sound.specs.Facts.{Holds}
use Rattle.isolation.specs.Walk.{Over}
use Rattle.isolation.specs.Private.{links_of, Private}
use Rattle.lookups.specs.Need.{need}

-- the pool with what a lookup leaves; and what a lookup starts from
abbrev pub pool_with : Pool → Work → Pool
pool_with p w = pool_of p.nodes w.pages w.used p.mappings p.head w.memory

abbrev pub work_in : Pool → Told → Work
work_in p t = work_of p.pages p.used p.memory t

-- frame f has the page's bytes; for writing it is the object's own, and as many frames were taken as the page needs; for reading none
pub record Gives (L : ℕ) (p : Pool) (l i : ℕ) (a : ℕ → ℕ) (write : Bool) (f : ℕ) (w : Work) : Type 0 where
  pub bytes : (k : ℕ) → k < L → get_or w.memory (f * L + k) 0 ≡ a k
  pub frame : f < length w.used
  pub own : write ≡ true → (s : PageState) × Holds w.pages l i s × (s.frame ≡ f)
  pub taken : write ≡ true → free_count p.used ≡ free_count w.used + need p.nodes p.pages l i
  pub untaken : write ≡ false → w.used ≡ p.used

-- the page is zeros, and nothing was changed
pub record Zeros (L : ℕ) (p : Pool) (t : Told) (a : ℕ → ℕ) (write : Bool) (w : Work) : Type 0 where
  pub reading : write ≡ false
  pub bytes : (k : ℕ) → k < L → a k ≡ 0
  pub same : w ≡ work_in p t

-- NO_MEMORY: the page needs more frames than were free, and those are all taken
pub record Scarce (p : Pool) (l i : ℕ) (write : Bool) (why : Refusal) (w : Work) : Type 0 where
  pub answer : why ≡ NoMemory
  pub writing : write ≡ true
  pub short : free_count p.used < need p.nodes p.pages l i
  pub no_frame : free_frame_in w.used ≡ None

abbrev pub Answered : ℕ → Pool → Told → ℕ → ℕ → (ℕ → ℕ) → Bool → Committed → Work → Type 0
Answered L p t l i a write (Ok (Some f)) w = Gives L p l i a write f w
Answered L p t l i a write (Ok None) w = Zeros L p t a write w
Answered L p t l i a write (Err r) w = Scarce p l i write r w

-- entries change at the page itself and at pages above it alone
pub record Kept (L : ℕ) (A : ℕ → ℕ → ℕ → ℕ) (p : Pool) (t : Told) (l i : ℕ) (write : Bool) (r : Committing) : Type 0 where
  pub private : Private L A (pool_with p r.work)
  pub only : (a b : ℕ) → (a ≡ l → b ≡ i → ⊥) → (Over (links_of p.nodes) l i a b → ⊥) → slot_at r.work.pages a b ≡ slot_at p.pages a b
  pub answers : Answered L p t l i (A l i) write r.answer r.work
