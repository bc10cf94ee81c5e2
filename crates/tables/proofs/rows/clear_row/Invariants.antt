use Rattle.std.proofs.Common.{◌≡◌, ◌*◌}
use Rattle.logic.specs.Below.{zeroed}
use Rattle.tables.proofs.rows.clear_row.Given as goal

abbrev pub invariant-loop-k : goal.invariant-loop-k
invariant-loop-k l = l.pages ≡ zeroed l.initial.pages (l.node * 64) l.k
