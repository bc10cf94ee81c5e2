use mathlib.Core.Path.{ap, ◌∙◌}
use native.Mathlib.Omega.{arith}
use Rattle.tables.specs.Tables.{node_of}
use Rattle.sound.proofs.TreeLaws.{parent_by}
use Rattle.sound.proofs.tree.parent_ok.Goals as goal

pub returns-in-Some : goal.returns-in-Some
returns-in-Some c =
    let (l, e) = c.in-Some.ensures in
    rw (c.from.ensures, c.from-in-Some.ensures, c.from-me.ensures) (parent_by _ c.args.whole.records _ _ (λ z. omega arith) (c.node_at-p.ensures ∙ ap (node_of c.args.whole.nodes.now) e))
