-- What a node's answer to its child means, for every answer. Assumes nothing.
use Rattle.std.specs.Prelude.{Option, ℕ, Some, None, Err, Ok}
use mathlib.Core.Path.{◌≡◌}
use mathlib.Core.Bool.{Bool, true, false}
use mathlib.Core.List.{List}
use Prim.Native.Nat.{ℕ, ◌<◌}
use lib.ListN.{length, set}
use Rattle.entry.specs.declared.PageState.{PageState}
use Rattle.tables.specs.Tables.{slot_at}
use Rattle.frames.specs.Frames.{free_frame_in, cleared_at}
use Rattle.lookup.specs.Work.{Looked, Work, work_of, Looking}
use Rattle.lookup.specs.declared.CommitResult.TheVariants.{Ref, Zero, CopyOnWrite, NewPage}
use Rattle.lookup.specs.declared.LookupError.TheVariants.{NoMemory, Stopped}
use Rattle.lookup.specs.Level.{kept}
use Rattle.sound.specs.Facts.{Holds}
use Rattle.isolation.specs.Walk.{Over}
use Rattle.isolation.specs.Private.{links_of}
use Rattle.isolation.proofs.State.{Alike, Step}

-- Child c asks for its page r, which x reaches; w says that it is for writing. Frame f is shared for reading
pub record Lent (N : List ℕ) (L F : ℕ) (s : Work) (x : Option ℕ) (w : Bool) (f : ℕ) (s' : Work) : Type 0 where
  pub reading : w ≡ false
  pub step : Step N L F s s'
  pub bytes : Alike L s.memory s'.memory x (Some f)
  pub frame : f < F
  pub untaken : s'.used ≡ s.used

-- frame f is for the child to keep
pub record Handed (N : List ℕ) (L F : ℕ) (s : Work) (c r : ℕ) (x : Option ℕ) (w : Bool) (f : ℕ) (s' : Work) : Type 0 where
  pub step : Step N L F s (kept s' c r f)
  pub pages : length s'.pages ≡ 4096
  pub bytes : Alike L s.memory s'.memory x (Some f)
  pub frame : f < F
  pub untaken : w ≡ false → s'.used ≡ s.used

-- nothing is above, and the lowest free frame was taken and cleared
pub record Fresh (L : ℕ) (s : Work) (x : Option ℕ) (w : Bool) (g : ℕ) (s' : Work) : Type 0 where
  pub writing : w ≡ true
  pub nothing : x ≡ None
  pub free : free_frame_in s.used ≡ Some g
  pub result : s' ≡ work_of s.pages (set s.used g 1) (cleared_at L s.memory g) s.told

-- nothing is above
pub record Bare (s : Work) (x : Option ℕ) (w : Bool) (s' : Work) : Type 0 where
  pub reading : w ≡ false
  pub nothing : x ≡ None
  pub same : s' ≡ s

-- no frame is free
pub record Short (N : List ℕ) (L F : ℕ) (s : Work) (w : Bool) (s' : Work) : Type 0 where
  pub writing : w ≡ true
  pub step : Step N L F s s'
  pub no_frame : free_frame_in s'.used ≡ None

abbrev pub Done : (N : List ℕ) (L F : ℕ) (s : Work) (c r : ℕ) (x : Option ℕ) (w : Bool) → Looked → Work → Type 0
Done N L F s c r x w (Ok (Ref f)) s' = Lent N L F s x w f s'
Done N L F s c r x w (Ok (CopyOnWrite f u)) s' = Handed N L F s c r x w f s'
Done N L F s c r x w (Ok (NewPage g)) s' = Fresh L s x w g s'
Done N L F s c r x w (Ok Zero) s' = Bare s x w s'
Done N L F s c r x w (Err NoMemory) s' = Short N L F s w s'
Done N L F s c r x w (Err Stopped) s' = ⊥

pub record Post (N : List ℕ) (L F : ℕ) (s : Work) (c r : ℕ) (x : Option ℕ) (w : Bool) (l : Looking) : Type 0 where
  pub still : (a b : ℕ) → (Over (links_of N) c r a b → ⊥) → slot_at l.work.pages a b ≡ slot_at s.pages a b
  pub done : Done N L F s c r x w l.answer l.work

-- The same of a leaf's own lookup, where its page p reads x: frame f is shared
pub record Yields (L F : ℕ) (s : Work) (l p : ℕ) (x : Option ℕ) (w : Bool) (f : ℕ) (s' : Work) : Type 0 where
  pub bytes : Alike L s.memory s'.memory x (Some f)
  pub frame : f < F
  pub own : w ≡ true → (e : PageState) × Holds s'.pages l p e × (e.frame ≡ f)
  pub untaken : w ≡ false → s'.used ≡ s.used

-- no frame is free
pub record Denied (w : Bool) (s' : Work) : Type 0 where
  pub writing : w ≡ true
  pub no_frame : free_frame_in s'.used ≡ None

abbrev pub Says : (L F : ℕ) (s : Work) (l p : ℕ) (x : Option ℕ) (w : Bool) → Looked → Work → Type 0
Says L F s l p x w (Ok (Ref f)) s' = Yields L F s l p x w f s'
Says L F s l p x w (Ok Zero) s' = Bare s x w s'
Says L F s l p x w (Err NoMemory) s' = Denied w s'
Says L F s l p x w (Ok (CopyOnWrite f u)) s' = ⊥
Says L F s l p x w (Ok (NewPage g)) s' = ⊥
Says L F s l p x w (Err Stopped) s' = ⊥

pub record Served (N : List ℕ) (L F : ℕ) (s : Work) (l p : ℕ) (x : Option ℕ) (w : Bool) (z : Looking) : Type 0 where
  pub step : Step N L F s z.work
  pub only : (a b : ℕ) → (a ≡ l → b ≡ p → ⊥) → (Over (links_of N) l p a b → ⊥) → slot_at z.work.pages a b ≡ slot_at s.pages a b
  pub says : Says L F s l p x w z.answer z.work
