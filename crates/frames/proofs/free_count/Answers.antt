use Rattle.std.proofs.Common.{arith}
use Rattle.std.proofs.lemmas.List.{take_all}
use Rattle.frames.proofs.Flags.{count_all}
use Rattle.frames.proofs.free_count.Goals as goal

pub returns : goal.returns
returns c =
    let all = take_all c.loop-flag.flag-index c.frames_in-flags.result.now (omega arith) in
    let count = count_all c.args.used.now in
    cc
