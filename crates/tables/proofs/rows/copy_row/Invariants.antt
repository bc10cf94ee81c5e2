use Rattle.std.proofs.Common.{◌≡◌, ◌*◌}
use Rattle.logic.specs.Below.{copied}
use Rattle.tables.proofs.rows.copy_row.Given as goal

abbrev pub invariant-loop-k : goal.invariant-loop-k
invariant-loop-k l = l.pages ≡ copied l.initial.pages (l.to * 64) l.initial.pages (l.from * 64) l.k
