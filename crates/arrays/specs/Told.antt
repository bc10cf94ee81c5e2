-- What a call that asks for room says to the mappings, for every list.
use Rattle.std.specs.Prelude.{List, ℕ}
use Rattle.outcome.specs.Answers.{Answer}
use Rattle.outcome.specs.Told.{told_of}
use Rattle.outcome.specs.Outcome.{Outcome}
use Rattle.bounds.specs.Telling.{Wrote}
use Rattle.bounds.specs.Calling.{LosesNone}

-- the list takes every notice that is due, or is too short and left alone; and no word past the count is written
pub record TellsAll (call : List ℕ → Outcome Answer) (most : ℕ) : Type 0 where
  pub loses_none : LosesNone call most
  pub wrote : (list : List ℕ) → Wrote (told_of list 0) most (call list).told
