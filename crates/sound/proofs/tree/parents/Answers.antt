use borrow.Author.Rules.{rules}
use borrow.Author.Tests.{tests}
use Rattle.sound.specs.Tree.{linked_of}
use Rattle.logic.proofs.Lists.{made}
use Rattle.sound.proofs.TreeLaws.{links_are}
use Rattle.sound.proofs.tree.parents.Goals as goal

pub returns : goal.returns
returns c =
    let nodes = c.args.nodes.now in
    links_are nodes _ c.from_fn.ensures.items.long (made _ (λ l. linked_of nodes l 1) _ 65 (λ i y q l k. search (rules, tests)) _ c.from_fn.ensures.items)
