-- Page lookup is the walk and the descent, in every mode and on all tables. Assumes nothing.
use Rattle.std.specs.Prelude.{Option, None, Some}
use Rattle.entry.specs.declared.PageState.{PageState}
use mathlib.Core.Path.{◌≡◌, refl, ap}
use mathlib.Core.Bool.{Bool, true, false}
use Prim.Native.Nat.{ℕ, zero, suc}
use Rattle.lookup.specs.declared.Place.{Place}
use Rattle.lookup.specs.Work.{Work, Looking}
use Rattle.lookup.specs.Mode.{Mode, up, ups, asks}
use Rattle.lookup.specs.Level.{slot_in, pass_by, pass}
use Rattle.lookup.specs.Lookup.{enter_by, enter, look_in}
use Rattle.lookup.specs.Descent.{Way, way, further, walk_by, walk, top, descent, along, lookup}

module _ (m : Mode) (write : Bool) (w : Work) where
  -- a node's step is the walk's turn
  enter_same : (p : Place) (s : Option PageState) (a : Bool) (y : Way) (r : Looking) → slot_in w p ≡ s → asks m p ≡ a → pass m write p r ≡ along m write w p y → enter m write w p r ≡ along m write w p (walk_by s a y)
  unfolding enter_by descent top ups
  enter_same p (Some s) a y r e k h = rw e
  enter_same p None true y r e k h = rw (e, k) h
  enter_same p None false y r e k h = rw (e, k)

  pub look_same : (k : ℕ) (p : Place) → look_in m k write w p ≡ lookup m k write w p
  unfolding look_in walk descent ups top pass_by
  look_same zero p = enter_same p _ _ (way 0 _) _ refl refl refl
  look_same (suc k) p = enter_same p _ _ (further (walk m k w.pages (up m p))) _ refl refl (ap (pass m write p) (look_same k (up m p)))
