use Rattle.std.proofs.Common.{◌≡◌, get_or, ◌+◌, ◌-◌, ◌*◌, arith, rules}
use Rattle.logic.specs.Below.{copied}
use Rattle.mappings.proofs.Laws.{up_turn, closed_by}
use Rattle.mappings.proofs.close_up.Goals as goal

pub loop-k-init : goal.loop-k-init
unfolding copied
loop-k-init c =
    let h : c.args.place * 4 - c.args.place * 4 ≡ 0 = omega arith in
    rw h

pub loop-k-preserved : goal.loop-k-preserved
loop-k-preserved c =
    let read : c.at-word.result ≡ get_or c.loop-k.mappings (c.loop-k.k + 4) 0 = search rules in
    up_turn _ _ _ c.loop-k.auto.k c.loop-k.invariant read c.put.ensures

pub returns : goal.returns
returns c = closed_by _ _ c.loop-k.invariant (omega arith) c.put_mapping.ensures
