use mathlib.Core.Path.{◌≡◌, refl}
use native.Mathlib.Omega.{arith}
use Rattle.logic.specs.Below.{all_below}
use Rattle.logic.proofs.Laws.{all_next}
use Rattle.sound.specs.Rows.{rows_ok, mark_rows}
use Rattle.sound.proofs.RowLaws.{rows_next}
use Rattle.sound.proofs.rows.rows_ok.Goals as goal

pub loop-node-init : goal.loop-node-init
unfolding all_below mark_rows
loop-node-init c = (refl, refl)

pub loop-node-preserved : goal.loop-node-preserved
loop-node-preserved c = (all_next _ _ c.loop-node.invariant.0 c.row_test-ok.ensures.0, rows_next _ _ _ c.loop-node.invariant.1 c.row_test-ok.ensures.1)

pub returns : goal.returns
unfolding rows_ok
returns c =
    let h : c.loop-node.node ≡ 64 = omega arith in
    (rw h at c.loop-node.invariant.0, rw h at c.loop-node.invariant.1)
