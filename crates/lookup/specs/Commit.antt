-- commit_page, 520: what page lookup gives its callers.
use Rattle.std.specs.Prelude.{ℕ, Bool, List, Option, Some, None, Result, Ok, Err}
use Rattle.outcome.specs.declared.answer.Refusal as R
use Rattle.outcome.specs.declared.answer.Refusal.{Refusal}
use Rattle.lookup.specs.Work.{Looked, Work, Looking}
use Rattle.lookup.specs.declared.CommitResult.TheVariants.{Ref, Zero, CopyOnWrite, NewPage}
use Rattle.lookup.specs.declared.LookupError.{LookupError}
use Rattle.lookup.specs.declared.LookupError.TheVariants.{NoMemory, Stopped}
use Rattle.lookup.specs.declared.Ask.{Ask}
use Rattle.lookup.specs.Mode.{place_of}
use Rattle.lookup.specs.Lookup.{look}

-- an object asks for a page of its own
abbrev pub ask_of : ℕ → ℕ → Bool → Ask
ask_of n i write = record { place = place_of n i n; write = write }

-- a frame, or none for the shared zero frame; or a refusal
abbrev pub Committed : Type 0
Committed = Result (Option ℕ) Refusal

abbrev pub refusal_of : LookupError → Refusal
refusal_of NoMemory = R.TheVariants.NoMemory
refusal_of Stopped = R.TheVariants.Stopped

-- what is handed up goes to no child: the source's unreachable!
abbrev pub committed_by : Looked → Committed
committed_by (Ok (Ref f)) = Ok (Some f)
committed_by (Ok Zero) = Ok None
committed_by (Err r) = Err (refusal_of r)
committed_by (Ok (CopyOnWrite f u)) = Err R.TheVariants.Stopped
committed_by (Ok (NewPage f)) = Err R.TheVariants.Stopped

pub record Committing : Type 0 where
  pub answer : Committed
  pub work : Work

abbrev pub committing_of : Committed → Work → Committing
committing_of c w = record { answer = c; work = w }

abbrev pub committing : Looking → Committing
committing l = committing_of (committed_by l.answer) l.work

unfoldable pub commit_leaf : ℕ → List ℕ → List ℕ → Work → ℕ → ℕ → Bool → Committing
commit_leaf L N M w n i write = committing (look L 64 N M w n i write n)
