use mathlib.Core.Path.{refl}
use Rattle.peek.proofs.Laws.{bytes_got}
use Rattle.peek.proofs.frame_bytes.Goals as goal

pub returns : goal.returns
returns c = rw c.unwrap_or.ensures (bytes_got c.args.memory.now c.args.frame _ refl c.get.result c.get.ensures.lookup)
