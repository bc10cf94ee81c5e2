-- A call on an object of a sound pool goes on with a live leaf's own node. Assumes nothing.
use Rattle.std.specs.Prelude.{Err, Ok}
use mathlib.Core.Path.{◌≡◌, refl, ap}
use mathlib.Core.Bool.{Bool, true, false, ◌&&◌}
use Prim.Native.Nat.{ℕ, ◌<◌}
use native.Mathlib.Omega.{arith}
use lib.Dec.{ltb}
use borrow.Author.Tests.{lt-ltb}
use Rattle.logic.specs.Pick.{pick}
use Rattle.logic.proofs.Means.{less, split}
use Rattle.node.specs.declared.Node.{Node}
use Rattle.node.specs.Node.{leaf_of}
use Rattle.tables.specs.Pool.{Pool}
use Rattle.tables.specs.Tables.{node_of}
use Rattle.sound.specs.Facts.{Leaf, Sound}
use Rattle.soundness.proofs.Records.{node_out}
use Rattle.soundness.proofs.Soundness.{facts_sound}
use Rattle.outcome.specs.declared.answer.Refusal.{Refusal}
use Rattle.outcome.specs.declared.answer.Refusal.TheVariants.{NoObject}
use Rattle.outcome.specs.Answers.{unless, Checked}
use Rattle.pool.specs.Calls.{entered, on_entered, on_object}
use Rattle.births.proofs.Cloned.{leaf_live}

-- a leaf is one of the 64 nodes
pub leaf_low : (L : ℕ) (p : Pool) → Sound L p → (n : ℕ) → Leaf p.nodes n → n < 64
leaf_low L p S n leaf =
    split (less n 64) (λ l. l)
    (λ out. absurd (leaf_live p.nodes n leaf (ap (λ (r : Node). r.kind) (node_out p.nodes S.lengths.nodes n (omega arith)))))

module _ {R : Type 0} (refuse : Refusal → R) (does : ℕ → R) (L : ℕ) (p : Pool) (S : Sound L p) (object : ℕ) where
  -- what holds of NO_OBJECT, and of what is done with a live leaf, whichever the object is
  pub by_leaf : (B : Bool → R → Type 0) → B false (refuse NoObject) → (Leaf p.nodes object → B true (does object))
      → B (leaf_of (node_of p.nodes object)) (on_object L p object refuse does)
  unfolding on_object on_entered entered
  by_leaf B none go = rw (facts_sound L p S) (by (leaf_of (node_of p.nodes object)) refl)
    where
      nobody : (a : Bool) → B false (on_entered refuse does (pick (a && false) (Ok object) (Err NoObject)))
      nobody true = none
      nobody false = none

      by : (b : Bool) → leaf_of (node_of p.nodes object) ≡ b → B b (on_entered refuse does (pick (ltb object 64 && b) (Ok object) (Err NoObject)))
      by true h = rw (lt-ltb object 64 (leaf_low L p S object h)) (go h)
      by false h = nobody (ltb object 64)

  pub on_leaf : (B : R → Type 0) → B (refuse NoObject) → (Leaf p.nodes object → B (does object)) → B (on_object L p object refuse does)
  on_leaf B none go = by_leaf (λ b. B) none go

  pub leaf_does : Leaf p.nodes object → on_object L p object refuse does ≡ does object
  unfolding on_object on_entered entered
  leaf_does leaf = rw (facts_sound L p S, lt-ltb object 64 (leaf_low L p S object leaf), leaf)

-- tests, and what comes after them
pub by_tests : {R : Type 0} (refuse : Refusal → R) (go : R) (B : R → Type 0) (a : Checked) → ((r : Refusal) → a ≡ Err r → B (refuse r))
    → (a ≡ Ok tt → B go) → B (unless a refuse go)
by_tests refuse go B (Err r) f g = f r refl
by_tests refuse go B (Ok u) f g = g refl
