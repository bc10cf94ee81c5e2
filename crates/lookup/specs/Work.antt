-- What a step may change, as one value; and a step's answer with what it leaves.
use Rattle.std.specs.Prelude.{ℕ, List, Result}
use Rattle.outcome.specs.Told.{Told}
use Rattle.lookup.specs.declared.CommitResult.{CommitResult}
use Rattle.lookup.specs.declared.LookupError.{LookupError}

pub record Work : Type 0 where
  pub pages : List ℕ
  pub used : List ℕ
  pub memory : List ℕ
  pub told : Told

abbrev pub work_of : List ℕ → List ℕ → List ℕ → Told → Work
work_of p u m t = record { pages = p; used = u; memory = m; told = t }

-- what a node answers to who asks it for a page, or why it can't
abbrev pub Looked : Type 0
Looked = Result CommitResult LookupError

pub record Looking : Type 0 where
  pub answer : Looked
  pub work : Work

abbrev pub looking_of : Looked → Work → Looking
looking_of r w = record { answer = r; work = w }
