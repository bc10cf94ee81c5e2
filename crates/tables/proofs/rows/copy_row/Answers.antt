use Rattle.std.proofs.Common.{◌*◌, arith, refl}
use Rattle.logic.specs.Below.{copied}
use Rattle.logic.proofs.Laws.{copy_next}
use Rattle.tables.proofs.rows.copy_row.Goals as goal

pub loop-k-init : goal.loop-k-init
unfolding copied
loop-k-init c = refl

-- rows lie apart
pub loop-k-preserved : goal.loop-k-preserved
loop-k-preserved c =
    let turn = copy_next c.args.pages.now (c.args.to * 64) (c.args.from * 64) c.loop-k.k (λ j l q. omega arith) c.loop-k.invariant in
    cc
