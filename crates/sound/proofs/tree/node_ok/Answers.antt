use Rattle.sound.specs.Tree.{node_ok}
use Rattle.sound.proofs.TreeLaws.{free_node_lem}
use Rattle.sound.proofs.tree.node_ok.Goals as goal

pub returns-then-n-eq-FREE : goal.returns-then-n-eq-FREE
returns-then-n-eq-FREE c = free_node_lem _ _ _ c.record_at-n.ensures c.if-n-eq-FREE.true c.free.ensures c.eq.ensures

pub returns-else-n-eq-FREE : goal.returns-else-n-eq-FREE
unfolding node_ok
returns-else-n-eq-FREE c = rw (← c.record_at-n.ensures, ← c.numbers_ok.ensures, ← c.links_ok.ensures)
