-- Entries and where they stand. Assumes nothing.
use Rattle.std.specs.Prelude.{Option, None, Some}
use mathlib.Core.Path.{◌≡◌, refl}
use mathlib.Core.Bool.{Bool, true, false}
use Prim.Native.Nat.{ℕ}
use native.Mathlib.Omega.{arith}
use lib.Dec.{eqb}
use borrow.Author.Tests.{eqb-true, eqb-false}
use Rattle.entry.specs.declared.PageState.{PageState}

pub held_one : {s t : PageState} → Some s ≡ Some t → s ≡ t
held_one h = cc

pub held_not : {s : PageState} {y : Option PageState} → y ≡ Some s → y ≡ None → ⊥
held_not h k = let z : ◌≡◌ {A = ℕ} 0 1 = cc in omega arith

-- two spots of the table of entries: the same, or not
pub data Spot (a b h q : ℕ) : Type 0 where
  there : a ≡ h → b ≡ q → Spot a b h q
  elsewhere : (a ≡ h → b ≡ q → ⊥) → Spot a b h q

spot_by : (a b h q : ℕ) (s t : Bool) → eqb a h ≡ s → eqb b q ≡ t → Spot a b h q
spot_by a b h q true true x y = there (eqb-true a h x) (eqb-true b q y)
spot_by a b h q true false x y = elsewhere (λ i j. eqb-false b q y j)
spot_by a b h q false t x y = elsewhere (λ i j. eqb-false a h x i)

pub spot : (a b h q : ℕ) → Spot a b h q
spot a b h q = spot_by a b h q (eqb a h) (eqb b q) refl refl
