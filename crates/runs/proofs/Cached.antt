-- In every run all policies are Cached, since no call of a run sets another. Assumes nothing.
use Rattle.std.specs.Prelude.{Option, ℕ, Some, None}
use Rattle.outcome.specs.Answers.{Answer}
use mathlib.Core.Path.{◌≡◌, refl, ◌∙◌}
use mathlib.Core.Bool.{Bool, true, false}
use mathlib.Core.List.{List, [], ◌∷◌}
use Prim.Native.Nat.{ℕ, ◌/◌, ◌≤◌}
use lib.Dec.{leb}
use lib.ListN.{length, get_or}
use Rattle.logic.specs.Pick.{pick}
use Rattle.logic.proofs.Means.{equal, split}
use Rattle.node.specs.Node.{origin_node}
use Rattle.tables.specs.Pool.{Pool}
use Rattle.tables.specs.Tables.{node_of, free_node_in}
use Rattle.sound.specs.Facts.{Sound}
use Rattle.sound.specs.Sound.{lengths_ok, sound}
use Rattle.outcome.specs.declared.answer.Refusal.TheVariants.{InvalidArgs, BadPool, NoNode}
use Rattle.outcome.specs.Outcome.{Outcome, refused}
use Rattle.pool.specs.Calls.{fresh_pool, start, leaf_at, new_leaf, new}
use Rattle.child.specs.Child.{birth_by, born, against_child, number_child, child_at, create_child}
use Rattle.births.proofs.Words.{node_same, node_away}
use Rattle.births.proofs.First.{found_free}
use Rattle.births.proofs.Fresh.{zero_node}
use Rattle.births.proofs.Cloned.{Cloned, each}
use Rattle.births.proofs.Written.{Granted}
use Rattle.births.proofs.Fitting.{allows}
use Rattle.births.proofs.Child.{cloned}
use Rattle.births.proofs.Bear.{numbered_by}
use Rattle.runs.specs.Runs.{Command, effect, result_in, after}
use Rattle.runs.specs.Runs.Command.{New, Child, Read, Write, Also}
use Rattle.runs.specs.Arrays.{Arrays, array_by}
use Rattle.runs.specs.Isolated.{paged, Isolated}
use Rattle.runs.proofs.Objects.{on_leaf, by_tests}
use Rattle.runs.proofs.Ranges.{read_nodes, write_nodes}
use Rattle.runs.proofs.Asides.{aside_still}
use Rattle.runs.proofs.Steps.{step_isolated}

-- of every record, live or free
abbrev pub Cached : List ℕ → Type 0
Cached N = (n : ℕ) → (node_of N n).cache_policy ≡ 0

pub fresh-cached : (L : ℕ) (p : Pool) → lengths_ok L p ≡ true → Cached (start L p).pool.nodes
unfolding start fresh_pool
fresh-cached L p h n = rw (h, zero_node (length p.nodes) n)

module _ (L : ℕ) (p : Pool) (S : Sound L p) (C : Cached p.nodes) where
  leaf_cached : (size : ℕ) (f : Option ℕ) → free_node_in p.nodes ≡ f → Cached (leaf_at p size f).pool.nodes
  unfolding leaf_at
  leaf_cached size (Some i) e n =
      let r = origin_node size (get_or p.head 0 0) in
      let len = S.lengths.nodes in
      split (equal n i)
      (λ d. rw (d, node_same p.nodes i r len (found_free p.nodes len i e).low))
      (λ ne. rw (node_away p.nodes i n r ne) (C n))
  leaf_cached size None e n = C n

  new-cached : (size : ℕ) → Cached (new L p size).pool.nodes
  unfolding new new_leaf
  new-cached size = by (sound L p) (leb size 64) (leb (get_or p.head 0 0) 16777215)
    where
      by : (a b c : Bool)
          → Cached (pick a (pick b (pick c (leaf_at p size (free_node_in p.nodes)) (refused p [] [] NoNode)) (refused p [] [] InvalidArgs)) (refused p [] [] BadPool)).pool.nodes
      by true true true = leaf_cached size (free_node_in p.nodes) refl
      by true true false = C
      by true false c = C
      by false b c = C

  cloned_cached : {n x c first pages owner : ℕ} {N' : List ℕ} → Cloned p.nodes N' n x c first pages owner → Cached N'
  cloned_cached {n} {x} {c} {first} {pages} {owner} {N'} D m =
      each p.nodes N' n x c first pages owner D (λ r. r.cache_policy ≡ 0) m refl (C n) refl (λ o. (D.at_old m o).policy ∙ C m)

  module _ (list : List ℕ) (n : ℕ) where
    born-cached : (first pages : ℕ) → (node_of p.nodes n).pin_count ≡ 0 → (c x : ℕ) → get_or p.head 0 0 ≤ 16777215
        → Granted p.nodes n x c first pages → Cached (born p list (birth_by n c x first pages)).pool.nodes
    unfolding born
    born-cached first pages unpinned c x l g = cloned_cached (cloned L p n x c first pages g unpinned l S)

    child_cached : (offset len : ℕ) → Cached (create_child L p list n offset len).pool.nodes
    unfolding child_at
    child_cached offset len =
        on_leaf (refused p list []) (λ m. child_at L p list m offset len) L p S n (λ (s : Outcome Answer). Cached s.pool.nodes) C
        (λ leaf.
        by_tests (refused p list []) (number_child p list n (offset / L) (len / L)) (λ (s : Outcome Answer). Cached s.pool.nodes)
        (against_child L (node_of p.nodes n) offset len) (λ r e. C)
        (λ e.
        let a = allows L (node_of p.nodes n) offset len e in
        numbered_by L p list S n (offset / L) (len / L) leaf a.fits (λ (s : Outcome Answer). Cached s.pool.nodes) (λ r. C)
        (born-cached (offset / L) (len / L) a.unpinned)))

module _ (L : ℕ) where
  module _ (A : Arrays) (p : Pool) (I : Isolated L A p) (C : Cached p.nodes) where
    step-cached : (c : Command) → Cached (effect L p c).pool.nodes
    unfolding effect
    step-cached (New pages) = new-cached L p I.private.sound C pages
    step-cached (Child list n offset len) = child_cached L p I.private.sound C list n offset len
    step-cached (Read n offset buf) = rw (read_nodes L (paged L A) p I.private n offset buf) C
    step-cached (Write list n offset bytes) = rw (write_nodes L (paged L A) p I.private list n offset bytes) C
    step-cached (Also c) = rw (aside_still L (paged L A) p I.private c).nodes C

  pub cached_from : (A : Arrays) (p : Pool) → Isolated L A p → Cached p.nodes → (run : List Command) → Cached (after L p run).nodes
  unfolding after
  cached_from A p I C [] = C
  cached_from A p I C (c ∷ cs) =
      cached_from (array_by L A c (result_in (effect L p c))) (effect L p c).pool (step_isolated L A p I c) (step-cached A p I C c) cs
