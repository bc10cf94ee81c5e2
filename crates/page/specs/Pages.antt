-- One page of a read, a write and a commit.
use Rattle.std.specs.Prelude.{ℕ, ◌+◌, ◌-◌, ◌*◌, true, false, List, [], Option, Ok, Some, None, Err}
use Rattle.outcome.specs.Answers.{Checked}
use Rattle.blocks.specs.declared.BlockIter.{BlockIter}
use Rattle.blocks.specs.declared.BlockRange.{BlockRange}
use Rattle.blocks.specs.Blocks.{next_of}
use Rattle.frames.specs.Frames.{pasted_at, blank_at}
use Rattle.outcome.specs.Told.{told_of}
use Rattle.lookup.specs.Work.{Work, work_of}
use Rattle.lookup.specs.Commit.{Committing, commit_leaf, Committed}
use Rattle.outcome.specs.declared.answer.Refusal as R
use Rattle.page.specs.Each.{Part, part_of}

-- a write's page: a lookup for writing gives a frame or refuses
abbrev pub against_write : Committed → Checked
against_write (Ok (Some f)) = Ok tt
against_write (Ok None) = Err R.TheVariants.Stopped
against_write (Err r) = Err r

-- write, 240: the block's bytes of b go into the page's frame, at its place in it
unfoldable pub stored_by : ℕ → List ℕ → ℕ → BlockRange → Committed → Work → Work
stored_by L bytes from b (Ok (Some f)) w =
    work_of w.pages w.used (pasted_at w.memory (f * L + b.begin) bytes from (b.end - b.begin)) w.told
stored_by L bytes from b (Ok None) w = w
stored_by L bytes from b (Err r) w = w

-- where the next page stands: this one again where it was refused
abbrev pub rest_by : {C : Type 0} → Checked → C → C → C
rest_by (Err r) this next = this
rest_by (Ok u) this next = next

unfoldable pub wrote_page : ℕ → List ℕ → ℕ → BlockRange → BlockIter → BlockIter → Committing → Part BlockIter Work
wrote_page L bytes from b it next l =
    part_of (against_write l.answer) (rest_by (against_write l.answer) it next) (stored_by L bytes from b l.answer l.work)

unfoldable pub write_by : ℕ → List ℕ → List ℕ → ℕ → ℕ → List ℕ → BlockIter → Work → Option (BlockRange × BlockIter) → Part BlockIter Work
write_by L N M node offset bytes it w None = part_of (Ok tt) it w
write_by L N M node offset bytes it w (Some (b, next)) =
    wrote_page L bytes (it.begin - offset) b it next (commit_leaf L N M w node b.block true)

unfoldable pub write_page : ℕ → List ℕ → List ℕ → ℕ → ℕ → List ℕ → BlockIter → Work → Part BlockIter Work
write_page L N M node offset bytes it w = write_by L N M node offset bytes it w (next_of L it)

-- commit, 301: the page is looked up for writing
unfoldable pub committed_one : ℕ → Committing → Part ℕ Work
committed_one i l = part_of (against_write l.answer) (rest_by (against_write l.answer) i (i + 1)) l.work

unfoldable pub commit_one : ℕ → List ℕ → List ℕ → ℕ → ℕ → Work → Part ℕ Work
commit_one L N M node i w = committed_one i (commit_leaf L N M w node i true)

-- what a read may change: a page may move, and the buffer is filled
pub record Read : Type 0 where
  pub pages : List ℕ
  pub used : List ℕ
  pub memory : List ℕ
  pub buf : List ℕ

abbrev pub read_of : List ℕ → List ℕ → List ℕ → List ℕ → Read
read_of p u m b = record { pages = p; used = u; memory = m; buf = b }

abbrev pub against_read : Committed → Checked
against_read (Ok (Some f)) = Ok tt
against_read (Ok None) = Ok tt
against_read (Err r) = Err r

-- read, 230: the block of the page's frame, or zeros, goes to its place in the buffer
unfoldable pub fetched_by : ℕ → ℕ → BlockRange → Committed → List ℕ → List ℕ → List ℕ
fetched_by L to b (Ok (Some f)) m buf = pasted_at buf to m (f * L + b.begin) (b.end - b.begin)
fetched_by L to b (Ok None) m buf = blank_at buf to (b.end - b.begin)
fetched_by L to b (Err r) m buf = buf

-- a lookup without its notices
pub record Glance : Type 0 where
  pub answer : Committed
  pub pages : List ℕ
  pub used : List ℕ
  pub memory : List ℕ

abbrev pub glance_of : Committed → List ℕ → List ℕ → List ℕ → Glance
glance_of r p u m = record { answer = r; pages = p; used = u; memory = m }

abbrev pub quiet : Committing → Glance
quiet l = glance_of l.answer l.work.pages l.work.used l.work.memory

-- a read sends no notice, so that lookup is lent an empty list
unfoldable pub look_read : ℕ → List ℕ → List ℕ → List ℕ → List ℕ → List ℕ → ℕ → ℕ → Glance
look_read L N M P U Y node i = quiet (commit_leaf L N M (work_of P U Y (told_of [] 0)) node i false)

unfoldable pub read_through : ℕ → ℕ → BlockRange → BlockIter → BlockIter → List ℕ → Glance → Part BlockIter Read
read_through L to b it next buf g =
    part_of (against_read g.answer) (rest_by (against_read g.answer) it next)
    (read_of g.pages g.used g.memory (fetched_by L to b g.answer g.memory buf))

unfoldable pub read_by : ℕ → List ℕ → List ℕ → ℕ → ℕ → BlockIter → Read → Option (BlockRange × BlockIter) → Part BlockIter Read
read_by L N M node offset it s None = part_of (Ok tt) it s
read_by L N M node offset it s (Some (b, next)) =
    read_through L (it.begin - offset) b it next s.buf (look_read L N M s.pages s.used s.memory node b.block)

unfoldable pub read_page : ℕ → List ℕ → List ℕ → ℕ → ℕ → BlockIter → Read → Part BlockIter Read
read_page L N M node offset it s = read_by L N M node offset it s (next_of L it)
