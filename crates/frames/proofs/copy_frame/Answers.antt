use Rattle.std.proofs.Common.{◌*◌, arith, refl}
use Rattle.logic.specs.Below.{copied}
use Rattle.logic.proofs.Laws.{copy_next}
use Rattle.frames.proofs.copy_frame.Goals as goal

pub loop-k-init : goal.loop-k-init
unfolding copied
loop-k-init c = refl

-- frames lie apart
pub loop-k-preserved : goal.loop-k-preserved
loop-k-preserved c =
    let turn = copy_next c.args.memory.now (c.args.to * 4096) (c.args.from * 4096) c.loop-k.k (λ j l q. omega arith) c.loop-k.invariant in
    cc
