use mathlib.Core.Path.{sym}
use lib.Seq.{set_out}
use Rattle.frames.proofs.give_frame.Goals as goal

pub returns-else-f-used : goal.returns-else-f-used
returns-else-f-used c = sym (set_out _ _ _ c.if-f-used.false)
