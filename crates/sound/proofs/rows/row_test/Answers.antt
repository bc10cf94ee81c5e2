use Rattle.sound.proofs.RowLaws.{row_by}
use Rattle.sound.proofs.rows.row_test.Goals as goal

pub returns : goal.returns
returns c = (row_by _ _ _ _ c.record_at-n.ensures c.is_hidden.ensures c.walk_row-row.ensures.0, c.walk_row-row.ensures.1)
