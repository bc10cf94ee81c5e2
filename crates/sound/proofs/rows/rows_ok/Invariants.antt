use lib.ListN.{length}
use mathlib.Core.Path.{◌≡◌}
use Rattle.logic.specs.Below.{all_below}
use Rattle.sound.specs.Rows.{row_test, mark_rows}
use Rattle.sound.proofs.rows.rows_ok.Given as goal

abbrev pub invariant-loop-node : goal.invariant-loop-node
invariant-loop-node l =
    (l.ok ≡ all_below (row_test l.whole.nodes.now l.whole.pages.now (length l.whole.used.now)) l.node) × (l.marks ≡ mark_rows l.whole.pages.now l.node l.initial.marks)
