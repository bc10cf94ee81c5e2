-- A call on an object of a sound pool: refused by its tests, or it goes on with the object. Assumes nothing.
use Rattle.std.specs.Prelude.{Err, Ok}
use mathlib.Core.Path.{◌≡◌, refl}
use mathlib.Core.Bool.{Bool, true, false}
use mathlib.Core.List.{List}
use Prim.Native.Nat.{ℕ, ◌+◌, ◌*◌, ◌≤◌}
use native.Mathlib.Omega.{arith}
use borrow.Author.Tests.{leb-true}
use Rattle.logic.specs.Pick.{pick}
use Rattle.node.specs.Node.{cached_of, contains_of}
use Rattle.tables.specs.Pool.{Pool}
use Rattle.tables.specs.Tables.{node_of}
use Rattle.sound.specs.Sound.{sound}
use Rattle.sound.specs.Facts.{Leaf}
use Rattle.outcome.specs.declared.answer.Refusal.{Refusal}
use Rattle.outcome.specs.declared.answer.Refusal.TheVariants.{NoObject}
use Rattle.outcome.specs.Answers.{unless, Checked}
use Rattle.pool.specs.Calls.{on_object}
use Rattle.pool.proofs.Laws.{on_leaf}
use Rattle.outcome.specs.Room.{room_of}
use Rattle.ranges.specs.Ranges.{against_reading, against_writing, against_committing}
use Rattle.arrays.specs.Calls.{ByTests, Called}
use Rattle.arrays.specs.Calls.Called.{tested, accepted}

-- tests that hold, or refuse by a reason of their own; H is what they found

abbrev pub Tests : Checked → Type 0 → Type 0
Tests (Err r) H = ByTests r
Tests (Ok u) H = H

pub tests_pick : (H : Type 0) (b : Bool) (x y : Checked) → (b ≡ true → Tests x H) → (b ≡ false → Tests y H) → Tests (pick b x y) H
tests_pick H true x y f g = f refl
tests_pick H false x y f g = g refl

module _ (L : ℕ) (N : List ℕ) (n offset len : ℕ) where
  inside_by : contains_of L (node_of N n) offset len ≡ true → offset + len ≤ (node_of N n).size * L
  unfolding contains_of
  inside_by = leb-true (offset + len) ((node_of N n).size * L)

  abbrev pub Inside : Type 0
  Inside = offset + len ≤ (node_of N n).size * L

  pub reading_tests : Tests (against_reading L N n offset len) Inside
  unfolding against_reading
  reading_tests = tests_pick Inside (cached_of (node_of N n)) _ _ (λ c. tests_pick Inside (contains_of L (node_of N n) offset len) _ _ inside_by (λ f. tt)) (λ f. tt)

  pub writing_tests : (M list : List ℕ) → Tests (against_writing L N M list n offset len) Inside
  unfolding against_writing
  writing_tests M list = tests_pick Inside (cached_of (node_of N n)) _ _ (λ c. tests_pick Inside (contains_of L (node_of N n) offset len) _ _ (λ i. tests_pick Inside (room_of M list _) _ _ (λ r. inside_by i) (λ f. tt)) (λ f. tt)) (λ f. tt)

  pub committing_tests : (M list : List ℕ) → Tests (against_committing L N M list n offset len) Inside
  unfolding against_committing
  committing_tests M list = tests_pick Inside (contains_of L (node_of N n) offset len) _ _ (λ i. tests_pick Inside (room_of M list _) _ _ (λ r. inside_by i) (λ f. tt)) (λ f. tt)

both : {b : Bool} {A : Type 0} → b ≡ true → b ≡ false → A
both s e = let z : ◌≡◌ {A = ℕ} 0 1 = cc in absurd (omega arith)

-- the object's own node

module _ {R : Type 0} (refuse : Refusal → R) (W : R → Type 0) where
  unless_by : (H : Type 0) (a : Checked) (go : R) → Tests a H → (H → W go) → Called refuse W (unless a refuse go)
  unless_by H (Err r) go t f = tested r t refl
  unless_by H (Ok u) go t f = accepted (f t)

  pub called : (H : Type 0) (L : ℕ) (p : Pool) (object : ℕ) (against : ℕ → Checked) (go : ℕ → R) → sound L p ≡ true → Tests (against object) H → (Leaf p.nodes object → H → W (go object))
      → Called refuse W (on_object L p object refuse (λ n. unless (against n) refuse (go n)))
  called H L p object against go s t f =
      on_leaf (Called refuse W) L p object refuse (λ n. unless (against n) refuse (go n))
      (λ e. both s e) (tested NoObject tt refl) (λ s l leaf. unless_by H (against object) (go object) t (f leaf))
