-- What holds of every call on an object. Assumes nothing.
use Rattle.std.specs.Prelude.{ℕ, Ok, Err, Result}
use mathlib.Core.Path.{◌≡◌, refl}
use mathlib.Core.Bool.{Bool, true, false, ◌&&◌}
use Prim.Native.Nat.{ℕ, ◌<◌}
use native.Mathlib.Omega.{arith}
use lib.Dec.{ltb}
use borrow.Author.Tests.{ltb-true}
use Rattle.logic.specs.Pick.{pick}
use Rattle.node.specs.Node.{leaf_of}
use Rattle.tables.specs.Pool.{Pool}
use Rattle.tables.specs.Tables.{node_of}
use Rattle.sound.specs.Sound.{sound}
use Rattle.outcome.specs.declared.answer.Refusal.{Refusal}
use Rattle.outcome.specs.declared.answer.Refusal.TheVariants.{BadPool, NoObject}
use Rattle.pool.specs.Calls.{entered, on_entered, on_object, len}
use Rattle.outcome.proofs.Laws.{Quiet}

-- a refusal is not an object
other : {r : Refusal} {n : ℕ} {A : Type 0} → ◌≡◌ {A = Result ℕ Refusal} (Err r) (Ok n) → A
other h = let z : ◌≡◌ {A = ℕ} 0 1 = cc in absurd (omega arith)

-- what holds of a refusal and of the work holds of a call on an object
module _ {A : Type 0} (B : A → Type 0) (L : ℕ) (p : Pool) (object : ℕ) {refuse : Refusal → A} {does : ℕ → A} (h : (r : Refusal) → B (refuse r)) (d : (n : ℕ) → B (does n)) where
  pub on_object_lem : B (on_object L p object refuse does)
  unfolding on_object on_entered
  on_object_lem = by (entered L p object)
    where
      by : (e : Result ℕ Refusal) → B (on_entered refuse does e)
      by (Ok n) = d n
      by (Err r) = h r

-- and what the tests found is known of each
module _ (Q : Result ℕ Refusal → Type 0) (L : ℕ) (p : Pool) (object : ℕ) (bad : sound L p ≡ false → Q (Err BadPool)) (none : Q (Err NoObject))
    (go : sound L p ≡ true → object < 64 → leaf_of (node_of p.nodes object) ≡ true → Q (Ok object)) where
  pub enters : Q (entered L p object)
  unfolding entered
  enters = by (sound L p) refl (ltb object 64) refl (leaf_of (node_of p.nodes object)) refl
    where
      by : (s : Bool) → sound L p ≡ s → (a : Bool) → ltb object 64 ≡ a → (b : Bool) → leaf_of (node_of p.nodes object) ≡ b
          → Q (pick s (pick (a && b) (Ok object) (Err NoObject)) (Err BadPool))
      by false s a l b h = bad s
      by true s true l true h = go s (ltb-true object 64 l) h
      by true s true l false h = none
      by true s false l b h = none

pub entered_at : (L : ℕ) (p : Pool) (object n : ℕ) → entered L p object ≡ Ok n → (sound L p ≡ true) × (leaf_of (node_of p.nodes n) ≡ true)
entered_at L p object n =
    enters (λ e. e ≡ Ok n → (sound L p ≡ true) × (leaf_of (node_of p.nodes n) ≡ true)) L p object (λ s h. other h) (λ h. other h)
    (λ s l f h. let q : object ≡ n = cc in (s, rw (← q) f))

module _ {A : Type 0} (B : A → Type 0) (L : ℕ) (p : Pool) (object : ℕ) (refuse : Refusal → A) (does : ℕ → A) where
  pub on_leaf : (sound L p ≡ false → B (refuse BadPool)) → B (refuse NoObject) → (sound L p ≡ true → object < 64 → leaf_of (node_of p.nodes object) ≡ true → B (does object))
      → B (on_object L p object refuse does)
  unfolding on_object on_entered
  on_leaf = enters (λ e. B (on_entered refuse does e)) L p object

-- the call sends no notice and takes no frame
pub len-quiet : (L : ℕ) (p : Pool) (object : ℕ) → Quiet (len L p object)
len-quiet L p object = on_object_lem Quiet L p object (λ r. (refl, refl)) (λ n. (refl, refl))
