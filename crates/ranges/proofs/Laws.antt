-- What the loops and the tests of the calls share. Assumes nothing.
use Rattle.std.specs.Prelude.{Err, Ok}
use Rattle.std.specs.Result.{result_and, IsErrAnd}
use Rattle.std.proofs.lemmas.Result.{err_from_is_err_and}
use Rattle.outcome.specs.Answers.{Answer, Checked}
use mathlib.Core.Path.{◌≡◌, refl}
use mathlib.Core.Bool.{Bool, true, false}
use mathlib.Core.List.{List}
use Prim.Native.Nat.{ℕ, zero, suc, ◌+◌, ◌-◌, ◌/◌, ◌%◌, ◌≤◌, ◌<◌}
use native.Mathlib.Omega.{arith}
use lib.Dec.{eqb, leb}
use lib.ListN.{length}
use Rattle.logic.specs.Pick.{pick}
use Rattle.node.specs.Node.{byte_limit}
use Rattle.blocks.specs.declared.BlockIter.{BlockIter}
use Rattle.blocks.specs.Blocks.{pages_of, count_of}
use Rattle.tables.specs.Pool.{Pool}
use Rattle.outcome.specs.declared.answer.Refusal.{Refusal}
use Rattle.page.specs.Each.{Part, part_of, onward, each}
use Rattle.ranges.specs.Ranges.{answer_by, against_reading, filled, read_at, read}
use Rattle.outcome.proofs.Laws.{Quiet, tested}
use Rattle.pool.proofs.Laws.{on_object_lem}

-- the loop over pages
module _ {C S : Type 0} (step : C → S → Part C S) (c : C) (s : S) where
  pub each_end : {k : ℕ} → k ≡ 0 → part_of (Ok tt) c s ≡ each step k c s
  unfolding each
  each_end h = rw h

  module _ {a : Checked} {c' : C} {s' : S} (e : part_of a c' s' ≡ step c s) where
    pub each_stop : (k : ℕ) {b : Checked} {r : Refusal} → 0 < k → a ≡ Err r → IsErrAnd b (λ y. y ≡ r) → part_of b c' s' ≡ each step k c s
    unfolding each onward
    each_stop zero p h q = absurd (omega (arith, p))
    each_stop (suc k) {b} p h q = let refused = err_from_is_err_and b q in rw (← e, h, refused.1, refused.2)

    pub each_next : (k j : ℕ) → k ≡ j + 1 → a ≡ Ok tt → each step j c' s' ≡ each step k c s
    unfolding each onward
    each_next zero j p h = absurd (omega (arith, p))
    each_next (suc k) j p h = let g : k ≡ j = omega (arith, p) in rw (← e, h, g)

-- the tests
pages_most : (x : ℕ) (b : Bool) → pick b (x / 4096) (x / 4096 + 1) ≤ x + 1
pages_most x true = omega arith
pages_most x false = omega arith

pub count_small : (it : BlockIter) {k : ℕ} → k ≡ count_of 4096 it → it.end < byte_limit → k ≤ byte_limit
unfolding count_of pages_of
count_small it e h = rw e (by (leb it.end it.begin) (pages_most it.end (eqb (it.end % 4096) 0)))
  where
    by : (b : Bool) {x : ℕ} → x ≤ it.end + 1 → pick b 0 (x - it.begin / 4096) ≤ byte_limit
    by true l = omega arith
    by false l = omega (arith, l, h)

-- what a call that went so far answers
pub and_done : (a : Checked) (v : ℕ) {r : Answer} → r ≡ result_and a (Ok v) → r ≡ answer_by a v
and_done (Ok u) v h = h
and_done (Err e) v h = h

-- a read sends no notice and takes no frame
pub read-quiet : (L : ℕ) (p : Pool) (object offset : ℕ) (buf : List ℕ) → Quiet (read L p object offset buf)
unfolding read_at filled
read-quiet L p object offset buf = on_object_lem Quiet L p object (λ r. (refl, refl)) (λ n. tested Quiet (against_reading L p.nodes n offset (length buf)) (λ r. (refl, refl)) (refl, refl))
