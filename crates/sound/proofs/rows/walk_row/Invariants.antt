use mathlib.Core.Path.{◌≡◌}
use Prim.Native.Nat.{◌≤◌, ◌*◌, ◌-◌}
use Rattle.tables.specs.Tables.{entry_of}
use Rattle.sound.specs.Rows.{row_count, walked, mark_run}
use Rattle.sound.proofs.rows.walk_row.Given as goal

abbrev pub invariant-loop-row : goal.invariant-loop-row
invariant-loop-row l =
    (l.row ≡ walked l.limits.hidden l.limits.size l.limits.frames l.whole.pages.now l.node l.page)
    × (l.marks ≡ mark_run (entry_of l.whole.pages.now l.node) l.page l.initial.marks)
    × (l.row.pins ≤ 262143 * l.page)
    × (l.page ≤ 64)
    × (l.count ≡ row_count l.whole.pages.now l.node)

abbrev pub decreases-loop-row : goal.decreases-loop-row
decreases-loop-row l = 64 - l.page
