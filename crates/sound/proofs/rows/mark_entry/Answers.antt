use Rattle.sound.proofs.RowLaws.{mark-none, mark_here, mark_past}
use Rattle.sound.proofs.rows.mark_entry.Goals as goal
use Rattle.sound.proofs.rows.mark_entry.Goals.{else-e-ne0-via-then-e-ne0+else-low-marks, else-e-ne0-via-else-e-ne0}

pub returns-then-low-marks : goal.returns-then-low-marks
returns-then-low-marks c = mark_here _ _ c.if-e-ne0.true c.more.ensures

pub returns-else-e-ne0 : goal.returns-else-e-ne0
returns-else-e-ne0 c =
    elim c.else-e-ne0.branch [
      | else-e-ne0-via-then-e-ne0+else-low-marks w ↦ mark_past _ _ w.if-e-ne0.true w.if-low-marks.false
      | else-e-ne0-via-else-e-ne0 w ↦ mark-none _ _ w.if-e-ne0.false
    ]
