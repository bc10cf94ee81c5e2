use mathlib.Core.Path.{◌≡◌, refl, ◌∙◌}
use native.Mathlib.Omega.{arith}
use Rattle.notices.specs.Notices.{tell_object}
use Rattle.notices.proofs.Laws.{object_next, object_end}
use Rattle.notices.proofs.tell_object.Goals as goal

pub loop-place-init : goal.loop-place-init
unfolding tell_object
loop-place-init c = (refl, refl)

pub loop-place-preserved : goal.loop-place-preserved
loop-place-preserved c =
    let kept = c.loop-place.invariant in
    (c.tell_place.ensures.same ∙ kept.0, object_next _ _ _ _ _ _ _ kept.1 c.tell_place.ensures.value)

pub returns-clause-value : goal.returns-clause-value
returns-clause-value c =
    let all : c.loop-place.place ≡ c.live_places-place-end.result = omega arith in
    let live = c.live_places-place-end.ensures in
    (rw all at c.loop-place.invariant.1) ∙ object_end _ _ _ _ _ _ _ live.0 live.1
