use Rattle.sound.proofs.RowLaws.{row_same, row_plain, row_more, mark-none}
use Rattle.sound.proofs.rows.entry_step.Goals as goal

pub returns-then-e-eq0 : goal.returns-then-e-eq0
returns-then-e-eq0 c = (row_same _ _ _ _ _ _ c.if-e-eq0.true, mark-none _ _ c.if-e-eq0.true)

pub returns-then-e-limits : goal.returns-then-e-limits
returns-then-e-limits c = (row_plain _ _ _ _ _ _ c.if-e-eq0.false c.if-e-limits.true c.args.limits.few c.plain_step.ensures.0, c.plain_step.ensures.1)

pub returns : goal.returns
returns c = (row_more _ _ _ _ _ _ c.if-e-eq0.false c.entry_ok.ensures, c.mark_entry.ensures)
