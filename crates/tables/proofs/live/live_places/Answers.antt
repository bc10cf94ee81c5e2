use native.Mathlib.Omega.{arith}
use Rattle.tables.proofs.Laws.{blank_turn}
use Rattle.tables.proofs.live.live_places.Goals as goal

pub loop-block-preserved : goal.loop-block-preserved
loop-block-preserved c = blank_turn _ _ c.if-mappings-lt256.false (omega arith) (omega arith) c.is_blank.ensures c.if-not-is_blank.false c.loop-block.invariant
