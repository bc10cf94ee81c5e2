use borrow.Author.Rules.{rules}
use borrow.Author.Tests.{tests}
use lib.ListN.{get_or}
use Rattle.logic.proofs.Lists.{made}
use Rattle.sound.proofs.TreeLaws.{steps_are}
use Rattle.sound.proofs.tree.step_up.Goals as goal

pub returns : goal.returns
returns c =
    let up = c.args.up in
    steps_are up _ c.from_fn.ensures.items.long (made _ (λ l. get_or up (get_or up l 0) 0) _ 65 (λ i y q l k. search (rules, tests)) _ c.from_fn.ensures.items)
