-- What page lookup for reading may answer and change.
use Rattle.std.specs.Prelude.{◌≡◌, false, ℕ, Ok, Some, None, Err}
use Rattle.lookup.specs.Commit.{Committed}
use Rattle.lookup.specs.Work.{Looked, Work, Looking}
use Rattle.lookup.specs.declared.CommitResult.TheVariants.{Ref, Zero, CopyOnWrite, NewPage}
use Rattle.lookup.specs.declared.LookupError.TheVariants.{NoMemory, Stopped}

-- no frame is asked for and none is handed down of which mappings are to be told; it stops only if S
abbrev pub Reads : Type 0 → Looked → Type 0
Reads S (Ok (Ref f)) = Unit
Reads S (Ok Zero) = Unit
Reads S (Ok (CopyOnWrite f u)) = u ≡ false
Reads S (Ok (NewPage f)) = ⊥
Reads S (Err NoMemory) = ⊥
Reads S (Err Stopped) = S

-- only page entries may change
pub record Quiet (S : Type 0) (w : Work) (l : Looking) : Type 0 where
  pub answer : Reads S l.answer
  pub used : l.work.used ≡ w.used
  pub memory : l.work.memory ≡ w.memory
  pub told : l.work.told ≡ w.told

-- a frame or the zero frame
pub data Readable (c : Committed) : Type 0 where
  frame : (f : ℕ) → c ≡ Ok (Some f) → Readable c
  zeros : c ≡ (Ok None) → Readable c
