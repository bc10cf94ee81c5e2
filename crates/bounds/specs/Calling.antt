-- What a call that sends notices does for every list.
use Rattle.std.specs.Prelude.{◌≡◌, List, ◌⊎◌, ℕ, ◌/◌, ◌≤◌, ◌<◌, length, Ok, Err}
use Rattle.outcome.specs.Answers.{Answer}
use Rattle.outcome.specs.declared.notice.Notice.{Notice}
use Rattle.outcome.specs.Told.{told_of}
use Rattle.outcome.specs.declared.answer.Refusal.TheVariants.{NoRoom}
use Rattle.outcome.specs.Outcome.{Outcome}
use Rattle.bounds.specs.Telling.{Added}

-- a list with too little room for so many notices, left alone by the refusal
pub record NoRoomFor (most : ℕ) (list : List ℕ) (s : Outcome Answer) : Type 0 where
  pub short : length list / 4 < most
  pub answer : s.answer ≡ Err NoRoom
  pub told : s.told ≡ told_of list 0

-- the notices are named before the list is: it takes all of them, or it is too short and the call is refused
pub record LosesNone (call : List ℕ → Outcome Answer) (most : ℕ) : Type 0 where
  pub notices : List Notice
  pub few : length notices ≤ most
  pub all : (list : List ℕ) → NoRoomFor most list (call list) ⊎ Added (told_of list 0) notices (call list).told

-- the call isn't refused
pub record Given (a : Answer) : Type 0 where
  pub value : ℕ
  pub is : a ≡ Ok value
