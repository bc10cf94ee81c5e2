use Rattle.std.specs.Prelude.{◌≡◌}
use Rattle.outcome.specs.Lent.{SameList, told_at}
use Rattle.notices.specs.Notices.{tell_object}
use Rattle.notices.proofs.tell_object.Given as goal

abbrev pub invariant-loop-place : goal.invariant-loop-place
invariant-loop-place l =
    SameList l.initial.notices l.notices
    × (told_at l.notices ≡ tell_object l.mappings (told_at l.initial.notices) l.place l.object l.span.lo l.span.hi l.span.op)
