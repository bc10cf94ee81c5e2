use borrow.Author.Tests.{eq-eqb}
use Rattle.sound.specs.Tree.{named_ok}
use Rattle.sound.proofs.tree.children_ok.Goals as goal

pub returns-then-n-eq-HIDDEN : goal.returns-then-n-eq-HIDDEN
unfolding named_ok
returns-then-n-eq-HIDDEN c =
    rw (eq-eqb _ _ c.if-n-eq-HIDDEN.true, c.from.ensures, c.from-me.ensures, c.from-then-n-eq-HIDDEN.ensures, ← c.linked.ensures, ← c.linked-then-n-eq-HIDDEN.ensures)
