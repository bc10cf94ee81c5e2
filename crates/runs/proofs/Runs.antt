-- Runs from any pool that has the invariant, and from a fresh pool. Assumes nothing.
use mathlib.Core.Path.{◌≡◌, refl, ap, ◌∙◌}
use mathlib.Core.Bool.{true, false}
use mathlib.Core.List.{List, [], ◌∷◌, ◌++◌}
use Prim.Native.Nat.{ℕ}
use native.Mathlib.Omega.{arith}
use lib.ListN.{length}
use Rattle.node.specs.Node.{leaf_of}
use Rattle.tables.specs.Pool.{Pool}
use Rattle.tables.specs.Tables.{node_of}
use Rattle.sound.specs.Sound.{lengths_ok}
use Rattle.pool.specs.Calls.{fresh_pool, start}
use Rattle.births.proofs.Arrays.{start-arrays}
use Rattle.births.proofs.Fresh.{zero_node}
use Rattle.runs.specs.Runs.{Command, effect, result_in, after, Event, event_of, history}
use Rattle.runs.specs.Arrays.{Arrays, nobody, array_by, arrays_after, lives}
use Rattle.runs.specs.Isolated.{paged, Isolated}
use Rattle.runs.proofs.Steps.{step_isolated}
use Rattle.runs.proofs.Turns.{turn-live}

module _ (L : ℕ) where
  pub isolated_from : (A : Arrays) (p : Pool) → Isolated L A p → (run : List Command) → Isolated L (arrays_after L A (history L p run)) (after L p run)
  unfolding after history arrays_after
  isolated_from A p I [] = I
  isolated_from A p I (c ∷ cs) = isolated_from (array_by L A c (result_in (effect L p c))) (effect L p c).pool (step_isolated L A p I c) cs

  -- who lives after a run
  pub live_from : (A : Arrays) (p : Pool) → Isolated L A p → (run : List Command) (o : ℕ)
      → leaf_of (node_of (after L p run).nodes o) ≡ lives o (leaf_of (node_of p.nodes o)) (history L p run)
  unfolding after history lives
  live_from A p I [] o = refl
  live_from A p I (c ∷ cs) o =
      let q = (effect L p c).pool in
      live_from (array_by L A c (result_in (effect L p c))) q (step_isolated L A p I c) cs o ∙ ap (λ b. lives o b (history L q cs)) (turn-live L A p I o c)

  -- a run and what comes after it

  pub history_from : (p : Pool) (before : List Command) (c : Command) (rest : List Command)
      → history L p (before ++ c ∷ rest)
      ≡ history L p before ++ event_of c (result_in (effect L (after L p before) c)) ∷ history L (effect L (after L p before) c).pool rest
  unfolding after history
  history_from p [] c rest = refl
  history_from p (b ∷ bs) c rest = ap (λ (es : List Event). event_of b (result_in (effect L p b)) ∷ es) (history_from (effect L p b).pool bs c rest)

  pub arrays_from : (A : Arrays) (p : Pool) (before : List Command) (c : Command)
      → arrays_after L A (history L p (before ++ c ∷ [])) ≡ array_by L (arrays_after L A (history L p before)) c (result_in (effect L (after L p before) c))
  unfolding after history arrays_after
  arrays_from A p [] c = refl
  arrays_from A p (b ∷ bs) c = arrays_from (array_by L A b (result_in (effect L p b))) (effect L p b).pool bs c

  -- a fresh pool has no object

  module _ (p : Pool) (lengths : lengths_ok L p ≡ true) where
    pub fresh_empty : (o : ℕ) → leaf_of (node_of (start L p).pool.nodes o) ≡ false
    unfolding start fresh_pool
    fresh_empty o = rw (lengths, zero_node (length p.nodes) o)

    pub fresh_isolated : Isolated L nobody (start L p).pool
    fresh_isolated =
        record {
          private = start-arrays L (paged L nobody) p lengths;
          lengths = λ n leaf. absurd (let e = fresh_empty n in let z : ◌≡◌ {A = ℕ} 0 1 = cc in omega arith);
        }
