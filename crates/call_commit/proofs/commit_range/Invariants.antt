use Rattle.std.specs.Prelude.{◌≡◌, ◌-◌}
use Rattle.outcome.specs.Lent.{SameList, told_at}
use Rattle.lookup.specs.Lent.{SameStore, work_in}
use Rattle.page.specs.Each.{each}
use Rattle.page.specs.Pages.{commit_one}
use Rattle.call_commit.proofs.commit_range.Given as goal

abbrev pub invariant-loop-page : goal.invariant-loop-page
invariant-loop-page l =
    SameStore l.initial.store l.store × SameList l.initial.notices l.notices
    × (each (commit_one 4096 l.tree.nodes.now l.tree.mappings.now l.node) (l.page-end - l.page) l.page (work_in l.store (told_at l.notices))
    ≡ each (commit_one 4096 l.tree.nodes.now l.tree.mappings.now l.node) l.total l.first (work_in l.initial.store (told_at l.initial.notices)))
