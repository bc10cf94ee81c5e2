use Rattle.std.specs.Prelude.{◌≡◌, ◌-◌, ◌≤◌}
use Rattle.lookup.specs.Lent.{SameStore}
use Rattle.page.specs.Lent.{read_in}
use Rattle.node.specs.Node.{byte_limit}
use Rattle.page.specs.Each.{each}
use Rattle.page.specs.Pages.{read_page}
use Rattle.call_read.proofs.read_range.Given as goal

abbrev pub invariant-loop : goal.invariant-loop
invariant-loop l =
    (l.offset ≤ l.it.begin) × (l.it.end ≤ byte_limit) × SameStore l.initial.store l.store
    × (each (read_page 4096 l.tree.nodes.now l.tree.mappings.now l.node l.offset) (l.end - l.counter) l.it (read_in l.store l.buf)
    ≡ each (read_page 4096 l.tree.nodes.now l.tree.mappings.now l.node l.offset) l.end l.initial.it (read_in l.initial.store l.initial.buf))
