-- The lent list of notices to mappings.
use Rattle.std.specs.Prelude.{ℕ, ◌+◌, ◌*◌, ◌/◌, List, ltb, length, set}
use Rattle.logic.specs.Pick.{pick}
use Rattle.outcome.specs.declared.notice.Notice.{Notice}
use Rattle.outcome.specs.declared.notice.RangeChangeOp.{RangeChangeOp}
use Rattle.outcome.specs.declared.notice.RangeChangeOp.TheVariants.{Unmap, RemoveWrite}

-- the two operations of a notice
abbrev pub unmap : ℕ
unmap = 1

abbrev pub remove_write : ℕ
remove_write = 2

abbrev pub op_number : RangeChangeOp → ℕ
op_number Unmap = unmap
op_number RemoveWrite = remove_write

-- the lent list and how many notices are in it
pub record Told : Type 0 where
  pub list : List ℕ
  pub count : ℕ

abbrev pub told_of : List ℕ → ℕ → Told
told_of l c = record { list = l; count = c }

abbrev pub notice_by : ℕ → ℕ → ℕ → ℕ → Notice
notice_by m f p o = record { mapping = m; first = f; pages = p; op = o }

-- one notice more, where the list has room
unfoldable pub put_notice : Told → Notice → Told
put_notice t n =
    pick (ltb t.count (length t.list / 4))
    (told_of (set (set (set (set t.list (t.count * 4) n.mapping) (t.count * 4 + 1) n.first) (t.count * 4 + 2) n.pages) (t.count * 4 + 3) n.op) (t.count + 1))
    t
