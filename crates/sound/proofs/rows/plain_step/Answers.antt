use mathlib.Core.Path.{refl}
use Rattle.sound.proofs.RowLaws.{mark_plain}
use Rattle.sound.proofs.rows.plain_step.Goals as goal

pub returns : goal.returns
returns c = (refl, mark_plain _ c.requires.1 _ c.requires.0 c.more.ensures)
