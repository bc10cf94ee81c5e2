-- Levels joined; and answers that end the lookup pass all levels. Assumes nothing.
use Rattle.std.specs.Prelude.{Err, Ok}
use mathlib.Core.Path.{◌≡◌, refl, ap, ◌∙◌}
use mathlib.Core.Bool.{Bool}
use native.Mathlib.Omega.{arith}
use Prim.Native.Nat.{ℕ, zero, suc, ◌+◌}
use Rattle.lookup.specs.Work.{Looked, Work, Looking, looking_of}
use Rattle.lookup.specs.declared.CommitResult.TheVariants.{Ref, Zero, CopyOnWrite, NewPage}
use Rattle.lookup.specs.declared.Place.{Place}
use Rattle.lookup.specs.Mode.{Mode, up, ups}
use Rattle.lookup.specs.Level.{pass_by, pass}
use Rattle.lookup.specs.Descent.{descent}

module _ (m : Mode) (write : Bool) where
  -- a + b levels are a levels on what b levels left
  pub descent_join : (a b : ℕ) (p : Place) (g : Looking) → descent m write (a + b) p g ≡ descent m write a p (descent m write b (ups m a p) g)
  unfolding descent ups
  descent_join zero b p g = let z : 0 + b ≡ b = omega arith in rw z
  descent_join (suc a) b p g = let z : suc a + b ≡ suc (a + b) = omega arith in rw z (ap (pass m write p) (descent_join a b (up m p) g))

  abbrev pub Final : Looked → Type 0
  Final (Ok (Ref f)) = Unit
  Final (Ok Zero) = Unit
  Final (Err r) = Unit
  Final (Ok (CopyOnWrite f u)) = ⊥
  Final (Ok (NewPage f)) = ⊥

  pass_final : (p : Place) (r : Looked) (w : Work) → Final r → pass_by m write p r w ≡ looking_of r w
  unfolding pass_by
  pass_final p (Ok (Ref f)) w h = refl
  pass_final p (Ok Zero) w h = refl
  pass_final p (Err r) w h = refl
  pass_final p (Ok (CopyOnWrite f u)) w h = absurd h
  pass_final p (Ok (NewPage f)) w h = absurd h

  pub descent_final : (d : ℕ) (p : Place) (r : Looked) (w : Work) → Final r → descent m write d p (looking_of r w) ≡ looking_of r w
  unfolding descent
  descent_final zero p r w h = refl
  descent_final (suc d) p r w h = ap (pass m write p) (descent_final d (up m p) r w h) ∙ pass_final p r w h
