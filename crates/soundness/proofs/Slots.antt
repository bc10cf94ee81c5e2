-- An entry's word and what a page holds by it. Assumes nothing.
use Rattle.std.specs.Prelude.{None, Some}
use mathlib.Core.Path.{◌≡◌, refl}
use mathlib.Core.Bool.{Bool, true, false}
use Prim.Native.Nat.{ℕ, zero, suc, ◌+◌, ◌/◌, ◌%◌, ◌≤◌}
use native.Mathlib.Omega.{arith}
use lib.Dec.{eqb}
use borrow.Author.Tests.{eq-eqb, ne_eqb, eqb-true, eqb-false}
use Rattle.logic.specs.Pick.{pick}
use Rattle.entry.specs.declared.PageState.{PageState}
use Rattle.entry.specs.declared.PageStateTag.{PageStateTag}
use Rattle.entry.specs.declared.PageStateTag.TheVariants.{Owned, LeftSplit, RightSplit}
use Rattle.entry.specs.Entry.{tag_number, tag_of, state_of, slot_of}

-- the state that a word holds

pub record Parts (e : ℕ) (s : PageState) : Type 0 where
  pub frame : s.frame + 1 ≡ e % 4096
  pub tag : s.tag ≡ tag_of (e / 4096 % 4)
  pub pins : s.pin_count ≡ e / 16384 % 32

state_parts : (e : ℕ) → (e % 4096 ≡ 0 → ⊥) → Parts e (state_of e)
unfolding state_of
state_parts e ne = record { frame = omega arith; tag = refl; pins = refl }

held_by : (e : ℕ) (s : PageState) (b : Bool) → eqb (e % 4096) 0 ≡ b → pick b None (Some (state_of e)) ≡ Some s → Parts e s
held_by e s true t h = let z : ◌≡◌ {A = ℕ} 0 1 = cc in absurd (omega arith)
held_by e s false t h = let q : state_of e ≡ s = cc in rw q at (state_parts e (eqb-false (e % 4096) 0 t))

pub parts : (e : ℕ) {s : PageState} → slot_of e ≡ Some s → Parts e s
unfolding slot_of
parts e {s} h = held_by e s (eqb (e % 4096) 0) refl h

pub holds : (e : ℕ) → (e % 4096 ≡ 0 → ⊥) → slot_of e ≡ Some (state_of e)
unfolding slot_of
holds e ne = rw (ne_eqb (e % 4096) 0 ne)

empty_by : (e : ℕ) (b : Bool) → eqb (e % 4096) 0 ≡ b → pick b None (Some (state_of e)) ≡ None → e % 4096 ≡ 0
empty_by e true t h = eqb-true (e % 4096) 0 t
empty_by e false t h = let z : ◌≡◌ {A = ℕ} 0 1 = cc in absurd (omega arith)

pub no_frame : (e : ℕ) → slot_of e ≡ None → e % 4096 ≡ 0
unfolding slot_of
no_frame e h = empty_by e (eqb (e % 4096) 0) refl h

pub absent : (e : ℕ) → e % 4096 ≡ 0 → slot_of e ≡ None
unfolding slot_of
absent e z = rw (eq-eqb (e % 4096) 0 z)

-- tags and their numbers

pub tag_there : (t : ℕ) → t ≤ 2 → tag_number (tag_of t) ≡ t
unfolding tag_of
tag_there zero l = refl
tag_there (suc zero) l = refl
tag_there (suc (suc zero)) l = refl
tag_there (suc (suc (suc t))) l = absurd (omega arith)

pub tag_most : (t : PageStateTag) → tag_number t ≤ 2
tag_most Owned = omega arith
tag_most LeftSplit = omega arith
tag_most RightSplit = omega arith
