-- A leaf isn't hidden. Assumes nothing.
use mathlib.Core.Path.{◌≡◌}
use mathlib.Core.Bool.{true, false}
use mathlib.Core.Logic.{⊎_elim}
use native.Mathlib.Omega.{arith}
use borrow.Author.Tests.{ne_eqb}
use Rattle.logic.proofs.Means.{equal, either}
use Rattle.node.specs.declared.Node.{Node}
use Rattle.node.specs.Node.{hidden_of, leaf_of}

pub leaf_seen : (n : Node) → leaf_of n ≡ true → hidden_of n ≡ false
leaf_seen n h =
    ne_eqb n.kind 3 (⊎_elim (λ a e. absurd (omega arith)) (λ b e. absurd (omega arith)) ((either (equal n.kind 1) (equal n.kind 2)).fact h))
