-- Notices that a step sends, whatever room the list has; and a list that took them all.
use Rattle.std.specs.Prelude.{◌≡◌, List, [], ◌∷◌, ℕ, ◌+◌, ◌*◌, ◌≤◌, ◌<◌, length, get_or}
use Rattle.outcome.specs.declared.notice.Notice.{Notice}
use Rattle.outcome.specs.Told.{Told, notice_by, put_notice}
use Rattle.lookup.specs.Work.{work_of}
use Rattle.lookup.specs.Commit.{Committing, committing_of, Committed}

-- the notices put one after the other
unfoldable pub put_all : Told → List Notice → Told
put_all t [] = t
put_all t (n ∷ ns) = put_all (put_notice t n) ns

-- the notices are named before the list is: so they are all that are due, none left out for want of room; at most so many
pub record Tells (step : Told → Told) (most : ℕ) : Type 0 where
  pub notices : List Notice
  pub few : length notices ≤ most
  pub same : (t : Told) → step t ≡ put_all t notices

-- the same of a lookup, whose answer, page entries, frames and bytes don't depend on the list either
pub record Sends (step : Told → Committing) (most : ℕ) : Type 0 where
  pub answer : Committed
  pub pages : List ℕ
  pub used : List ℕ
  pub memory : List ℕ
  pub notices : List Notice
  pub few : length notices ≤ most
  pub same : (t : Told) → step t ≡ committing_of answer (work_of pages used memory (put_all t notices))

-- the notice at place c of a list
abbrev pub notice_in : List ℕ → ℕ → Notice
notice_in l c = notice_by (get_or l (c * 4) 0) (get_or l (c * 4 + 1) 0) (get_or l (c * 4 + 2) 0) (get_or l (c * 4 + 3) 0)

-- at most so many notices more, after those that stood there; these stay, and nothing is written past the count
pub record Wrote (t : Told) (most : ℕ) (t' : Told) : Type 0 where
  pub more : t.count ≤ t'.count
  pub few : t'.count ≤ t.count + most
  pub before : (x : ℕ) → x < t.count * 4 → get_or t'.list x 0 ≡ get_or t.list x 0
  pub past : (x : ℕ) → t'.count * 4 ≤ x → get_or t'.list x 0 ≡ get_or t.list x 0
  pub room : length t'.list ≡ length t.list

-- each of the notices stands in the list, in order, after those that stood there
pub record Added (t : Told) (ns : List Notice) (t' : Told) : Type 0 where
  pub count : t'.count ≡ t.count + length ns
  pub there : (j : ℕ) → j < length ns → notice_in t'.list (t.count + j) ≡ get_or ns j (notice_by 0 0 0 0)
