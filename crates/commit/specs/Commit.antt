-- commit_page, 520, on a pool of pages of L bytes, refused calls too.
use Rattle.std.specs.Prelude.{ℕ, Bool, List, [], leb, Ok, Err, Some, None}
use Rattle.logic.specs.Pick.{pick}
use Rattle.outcome.specs.declared.answer.Refusal as R
use Rattle.outcome.specs.Answers.{unless, Answer, Checked}
use Rattle.outcome.specs.Told.{told_of}
use Rattle.outcome.specs.Room.{room_of}
use Rattle.outcome.specs.Outcome.{Outcome, outcome_of, refused}
use Rattle.tables.specs.Pool.{Pool, pool_of}
use Rattle.tables.specs.Tables.{node_of}
use Rattle.lookup.specs.Work.{work_of}
use Rattle.lookup.specs.Commit.{Committing, commit_leaf, Committed}
use Rattle.pool.specs.Calls.{on_object}

-- the frame, or 4,294,967,295 for the shared zero frame
abbrev pub committed_answer : Committed → Answer
committed_answer (Ok (Some f)) = Ok f
committed_answer (Ok None) = Ok 4294967295
committed_answer (Err r) = Err r

unfoldable pub page_refusal : List ℕ → List ℕ → List ℕ → ℕ → ℕ → Bool → Checked
page_refusal N M list n page write =
    pick (leb (node_of N n).size page) (Err R.TheVariants.OutOfRange)
    (pick write (pick (room_of M list 1) (Ok tt) (Err R.TheVariants.NoRoom)) (Ok tt))

-- what the lookup leaves
abbrev pub committed_outcome : Pool → Committing → Outcome Answer
committed_outcome p l =
    outcome_of (committed_answer l.answer)
    (pool_of p.nodes l.work.pages l.work.used p.mappings p.head l.work.memory) l.work.told 0 0 []

unfoldable pub commit_page_at : ℕ → Pool → List ℕ → ℕ → ℕ → Bool → Outcome Answer
commit_page_at L p list n page write =
    unless (page_refusal p.nodes p.mappings list n page write) (refused p list [])
    (committed_outcome p (commit_leaf L p.nodes p.mappings (work_of p.pages p.used p.memory (told_of list 0)) n page write))

abbrev pub commit_page : ℕ → Pool → List ℕ → ℕ → ℕ → Bool → Outcome Answer
commit_page L p list object page write = on_object L p object (refused p list []) (λ n. commit_page_at L p list n page write)
