use mathlib.Core.Path.{◌≡◌, refl}
use native.Mathlib.Omega.{arith}
use Rattle.sound.specs.Rows.{mark_run}
use Rattle.sound.proofs.RowLaws.{run_next}
use Rattle.sound.proofs.maps.mark_numbers.Goals as goal

pub loop-place-init : goal.loop-place-init
unfolding mark_run
loop-place-init c = refl

pub loop-place-preserved : goal.loop-place-preserved
loop-place-preserved c = run_next _ _ _ c.loop-place.invariant c.number_at.ensures c.mark_entry.ensures

pub returns : goal.returns
returns c =
    let h : c.loop-place.place ≡ c.args.places = omega arith in
    rw h at c.loop-place.invariant
