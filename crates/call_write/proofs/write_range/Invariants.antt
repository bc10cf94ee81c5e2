use Rattle.std.specs.Prelude.{◌≡◌, ◌-◌, ◌≤◌}
use Rattle.outcome.specs.Lent.{SameList, told_at}
use Rattle.lookup.specs.Lent.{SameStore, work_in}
use Rattle.node.specs.Node.{byte_limit}
use Rattle.page.specs.Each.{each}
use Rattle.page.specs.Pages.{write_page}
use Rattle.call_write.proofs.write_range.Given as goal

abbrev pub invariant-loop : goal.invariant-loop
invariant-loop l =
    (l.offset ≤ l.it.begin) × (l.it.end ≤ byte_limit) × SameStore l.initial.store l.store × SameList l.initial.notices l.notices
    × (each (write_page 4096 l.tree.nodes.now l.tree.mappings.now l.node l.offset l.bytes) (l.end - l.counter) l.it (work_in l.store (told_at l.notices))
    ≡ each (write_page 4096 l.tree.nodes.now l.tree.mappings.now l.node l.offset l.bytes) l.end l.initial.it (work_in l.initial.store (told_at l.initial.notices)))
