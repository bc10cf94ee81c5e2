use native.Mathlib.Omega.{arith}
use native.Mathlib.Nat.{mul-le-mul}
use Rattle.outcome.specs.Room.{room_of}
use Rattle.outcome.proofs.room.has_room.Goals as goal

pub overflow_mul-result : goal.overflow_mul-result
overflow_mul-result c =
    let the-pre = c.requires in
    omega (arith, mul-le-mul the-pre c.live_count.ensures.small)

pub returns : goal.returns
unfolding room_of
returns c = rw (← c.live_count.ensures.value)
