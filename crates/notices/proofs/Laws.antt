-- An object's notices, place by place. Assumes nothing.
use Rattle.std.specs.Prelude.{None}
use mathlib.Core.Path.{◌≡◌, refl, ◌∙◌}
use mathlib.Core.Bool.{Bool, true, false}
use mathlib.Core.List.{List}
use Prim.Native.Nat.{ℕ, ◌+◌, ◌≤◌, ◌<◌}
use native.Mathlib.Numerals.{add-one}
use borrow.Author.Tests.{eq-eqb}
use lib.Dec.{eqb}
use Rattle.logic.specs.Pick.{pick}
use Rattle.tables.specs.declared.Mapping.{Mapping}
use Rattle.tables.specs.Tables.{mapping_of, mapping_by}
use Rattle.logic.proofs.Laws.{run_rest}
use Rattle.outcome.specs.Told.{Told}
use Rattle.notices.specs.Notices.{overlap_of, tell_place, tell_object}

module _ (m : Mapping) (lo hi : ℕ) (op : ℕ) where
  pub overlap_free : m.number ≡ 0 → None ≡ overlap_of m lo hi op
  unfolding overlap_of
  overlap_free h = rw (eq-eqb _ _ h)

pub object_next : (M : List ℕ) (t : Told) (k object lo hi : ℕ) (op : ℕ) {s r : Told} → s ≡ tell_object M t k object lo hi op → r ≡ tell_place M s k object lo hi op → r ≡ tell_object M t (k + 1) object lo hi op
unfolding tell_object
object_next M t k object lo hi op p h = h ∙ rw (add-one, p)

place_none : (M : List ℕ) (t : Told) (i object lo hi : ℕ) (op : ℕ) → mapping_of M i ≡ mapping_by 0 0 0 0 → tell_place M t i object lo hi op ≡ t
unfolding tell_place overlap_of
place_none M t i object lo hi op e = rw e (by (eqb 0 object))
  where
    by : (b : Bool) → pick b t t ≡ t
    by true = refl
    by false = refl

pub object_end : (M : List ℕ) (t : Told) (k object lo hi : ℕ) (op : ℕ) → k ≤ 64 → ((i : ℕ) → k ≤ i → i < 64 → mapping_of M i ≡ mapping_by 0 0 0 0) → tell_object M t k object lo hi op ≡ tell_object M t 64 object lo hi op
unfolding tell_object
object_end M t k object lo hi op l rest = run_rest (λ n. tell_object M t n object lo hi op) k 64 l (λ j a b. place_none M (tell_object M t j object lo hi op) j object lo hi op (rest j a b))
