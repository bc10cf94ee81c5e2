-- The calls read, write and commit on a pool of pages of L bytes, refused ones too.
use Rattle.std.specs.Prelude.{ℕ, ◌+◌, ◌-◌, ◌/◌, List, [], length, Ok, Err}
use Rattle.logic.specs.Pick.{pick}
use Rattle.node.specs.Node.{cached_of, contains_of}
use Rattle.blocks.specs.declared.BlockIter.{BlockIter}
use Rattle.blocks.specs.Blocks.{iter_of, count_of}
use Rattle.outcome.specs.declared.answer.Refusal as R
use Rattle.outcome.specs.Answers.{unless, Answer, Checked}
use Rattle.outcome.specs.Told.{told_of}
use Rattle.outcome.specs.Room.{room_of}
use Rattle.outcome.specs.Outcome.{Outcome, outcome_of, refused}
use Rattle.tables.specs.Pool.{Pool, pool_of}
use Rattle.tables.specs.Tables.{node_of}
use Rattle.frames.specs.Frames.{free_count}
use Rattle.lookup.specs.Work.{Work, work_of}
use Rattle.pool.specs.Calls.{on_object}
use Rattle.page.specs.Each.{Part, each}
use Rattle.page.specs.Pages.{Read, read_of, read_page, write_page, commit_one}

-- the answer of a call that went so far
abbrev pub answer_by : Checked → ℕ → Answer
answer_by (Err r) v = Err r
answer_by (Ok u) v = Ok v

-- what a call that takes frames leaves: the bytes done, and the fall of the free count
unfoldable pub ranged_by : Pool → Checked → ℕ → Work → Outcome Answer
ranged_by p why done w =
    outcome_of (answer_by why done) (pool_of p.nodes w.pages w.used p.mappings p.head w.memory) w.told done
    (free_count p.used - free_count w.used) []

-- what a call that sends notices starts from
abbrev pub start_work : Pool → List ℕ → Work
start_work p list = work_of p.pages p.used p.memory (told_of list 0)

-- write: BAD_STATE, OUT_OF_RANGE, NO_ROOM; then page by page
unfoldable pub against_writing : ℕ → List ℕ → List ℕ → List ℕ → ℕ → ℕ → ℕ → Checked
against_writing L N M list n offset len =
    pick (cached_of (node_of N n))
    (pick (contains_of L (node_of N n) offset len)
    (pick (room_of M list (count_of L (iter_of offset (offset + len)))) (Ok tt) (Err R.TheVariants.NoRoom))
    (Err R.TheVariants.OutOfRange))
    (Err R.TheVariants.BadState)

unfoldable pub write_range : ℕ → List ℕ → List ℕ → ℕ → ℕ → List ℕ → Work → Part BlockIter Work
write_range L N M n offset bytes w =
    each (write_page L N M n offset bytes) (count_of L (iter_of offset (offset + length bytes))) (iter_of offset (offset + length bytes)) w

unfoldable pub written : Pool → ℕ → Part BlockIter Work → Outcome Answer
written p offset r = ranged_by p r.why (r.rest.begin - offset) r.state

unfoldable pub write_through : ℕ → Pool → List ℕ → ℕ → ℕ → List ℕ → Outcome Answer
write_through L p list n offset bytes = written p offset (write_range L p.nodes p.mappings n offset bytes (start_work p list))

unfoldable pub write_at : ℕ → Pool → List ℕ → ℕ → ℕ → List ℕ → Outcome Answer
write_at L p list n offset bytes =
    unless (against_writing L p.nodes p.mappings list n offset (length bytes)) (refused p list [])
    (write_through L p list n offset bytes)

abbrev pub write : ℕ → Pool → List ℕ → ℕ → ℕ → List ℕ → Outcome Answer
write L p list object offset bytes = on_object L p object (refused p list []) (λ n. write_at L p list n offset bytes)

-- commit: OUT_OF_RANGE, NO_ROOM; then page by page, 301
unfoldable pub against_committing : ℕ → List ℕ → List ℕ → List ℕ → ℕ → ℕ → ℕ → Checked
against_committing L N M list n offset len =
    pick (contains_of L (node_of N n) offset len)
    (pick (room_of M list (len / L)) (Ok tt) (Err R.TheVariants.NoRoom))
    (Err R.TheVariants.OutOfRange)

unfoldable pub commit_range : ℕ → List ℕ → List ℕ → ℕ → ℕ → ℕ → Work → Part ℕ Work
commit_range L N M n first pages w = each (commit_one L N M n) pages first w

unfoldable pub committed : Pool → Part ℕ Work → Outcome Answer
committed p r = ranged_by p r.why 0 r.state

unfoldable pub commit_through : ℕ → Pool → List ℕ → ℕ → ℕ → ℕ → Outcome Answer
commit_through L p list n offset len =
    committed p (commit_range L p.nodes p.mappings n (offset / L) (len / L) (start_work p list))

unfoldable pub commit_at : ℕ → Pool → List ℕ → ℕ → ℕ → ℕ → Outcome Answer
commit_at L p list n offset len =
    unless (against_committing L p.nodes p.mappings list n offset len) (refused p list [])
    (commit_through L p list n offset len)

abbrev pub commit : ℕ → Pool → List ℕ → ℕ → ℕ → ℕ → Outcome Answer
commit L p list object offset len = on_object L p object (refused p list []) (λ n. commit_at L p list n offset len)

-- read: BAD_STATE, OUT_OF_RANGE; then page by page
unfoldable pub against_reading : ℕ → List ℕ → ℕ → ℕ → ℕ → Checked
against_reading L N n offset len =
    pick (cached_of (node_of N n)) (pick (contains_of L (node_of N n) offset len) (Ok tt) (Err R.TheVariants.OutOfRange)) (Err R.TheVariants.BadState)

unfoldable pub read_range : ℕ → List ℕ → List ℕ → ℕ → ℕ → Read → Part BlockIter Read
read_range L N M n offset s =
    each (read_page L N M n offset) (count_of L (iter_of offset (offset + length s.buf))) (iter_of offset (offset + length s.buf)) s

unfoldable pub filled : Pool → Part BlockIter Read → Outcome Answer
filled p r =
    outcome_of (answer_by r.why 0)
    (pool_of p.nodes r.state.pages r.state.used p.mappings p.head r.state.memory) (told_of [] 0) 0 0 r.state.buf

unfoldable pub read_at : ℕ → Pool → ℕ → ℕ → List ℕ → Outcome Answer
read_at L p n offset buf =
    unless (against_reading L p.nodes n offset (length buf)) (refused p [] buf)
    (filled p (read_range L p.nodes p.mappings n offset (read_of p.pages p.used p.memory buf)))

abbrev pub read : ℕ → Pool → ℕ → ℕ → List ℕ → Outcome Answer
read L p object offset buf = on_object L p object (refused p [] buf) (λ n. read_at L p n offset buf)
