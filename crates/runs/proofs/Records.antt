-- Every call leaves a live object's size and policy. Assumes nothing.
use Rattle.std.specs.Prelude.{Option, ℕ, Some, None}
use Rattle.outcome.specs.Answers.{Answer}
use mathlib.Core.Path.{◌≡◌, refl, sym, ap, ◌∙◌, subst}
use mathlib.Core.Bool.{Bool, true, false}
use mathlib.Core.List.{List, []}
use Prim.Native.Nat.{ℕ, ◌/◌, ◌≤◌}
use lib.Dec.{leb}
use lib.ListN.{get_or}
use Rattle.logic.specs.Pick.{pick}
use Rattle.logic.proofs.Means.{equal, split}
use Rattle.node.specs.declared.Node.{Node}
use Rattle.node.specs.Node.{leaf_of, origin_node}
use Rattle.tables.specs.Pool.{Pool}
use Rattle.tables.specs.Tables.{node_of, free_node_in}
use Rattle.sound.specs.Facts.{Leaf, Sound}
use Rattle.outcome.specs.declared.answer.Refusal.TheVariants.{InvalidArgs, BadPool, NoNode}
use Rattle.sound.specs.Sound.{sound}
use Rattle.outcome.specs.Outcome.{Outcome, refused}
use Rattle.pool.specs.Calls.{leaf_at, new_leaf, new}
use Rattle.child.specs.Child.{birth_by, born, against_child, number_child, child_at, create_child}
use Rattle.births.proofs.Words.{node_away}
use Rattle.births.proofs.First.{found_free}
use Rattle.births.proofs.Cloned.{Cloned, leaf_live, live-old}
use Rattle.births.proofs.Written.{Granted}
use Rattle.births.proofs.Fitting.{allows}
use Rattle.births.proofs.Child.{cloned}
use Rattle.births.proofs.Bear.{numbered_by}
use Rattle.runs.proofs.Objects.{on_leaf, by_tests}

-- object o is in q what it was in p
pub record Same (o : ℕ) (N N' : List ℕ) : Type 0 where
  pub leaf : leaf_of (node_of N' o) ≡ leaf_of (node_of N o)
  pub size : (node_of N' o).size ≡ (node_of N o).size
  pub policy : (node_of N' o).cache_policy ≡ (node_of N o).cache_policy

pub same_record : {o : ℕ} {N N' : List ℕ} → node_of N' o ≡ node_of N o → Same o N N'
same_record e = record { leaf = ap leaf_of e; size = ap (λ (r : Node). r.size) e; policy = ap (λ (r : Node). r.cache_policy) e }

pub same_nodes : {o : ℕ} {N N' : List ℕ} → N' ≡ N → Same o N N'
same_nodes {o} e = same_record (ap (λ (M : List ℕ). node_of M o) e)

module _ (L : ℕ) (p : Pool) (S : Sound L p) (o : ℕ) (live : Leaf p.nodes o) where
  abbrev Kept : Pool → Type 0
  Kept q = Same o p.nodes q.nodes

  kept : Kept p
  kept = same_nodes refl

  leaf_kept : (size : ℕ) (f : Option ℕ) → free_node_in p.nodes ≡ f → Kept (leaf_at p size f).pool
  unfolding leaf_at
  leaf_kept size (Some i) e =
      same_record (node_away p.nodes i o (origin_node size (get_or p.head 0 0))
      (λ d. leaf_live p.nodes o live (ap (λ (m : ℕ). (node_of p.nodes m).kind) d ∙ (found_free p.nodes S.lengths.nodes i e).kind)))
  leaf_kept size None e = kept

  pub new-kept : (size : ℕ) → Kept (new L p size).pool
  unfolding new new_leaf
  new-kept size = by (sound L p) (leb size 64) (leb (get_or p.head 0 0) 16777215)
    where
      by : (a b c : Bool)
          → Kept (pick a (pick b (pick c (leaf_at p size (free_node_in p.nodes)) (refused p [] [] NoNode)) (refused p [] [] InvalidArgs)) (refused p [] [] BadPool)).pool
      by true true true = leaf_kept size (free_node_in p.nodes) refl
      by true true false = kept
      by true false c = kept
      by false b c = kept

  -- a child of n

  cloned_kept : {n x c first pages owner : ℕ} {N' : List ℕ} → Cloned p.nodes N' n x c first pages owner → Same o p.nodes N'
  cloned_kept {n} {x} {c} {first} {pages} {owner} {N'} D =
      split (equal o n)
      (λ e. subst (λ (m : ℕ). Same m p.nodes N') (sym e) (record { leaf = rw D.at_n; size = rw D.at_n; policy = rw D.at_n }))
      (λ ne.
      let r = D.at_old o (live-old p.nodes N' n x c first pages owner D o (leaf_live p.nodes o live) ne) in
      record { leaf = rw r.kind; size = r.size; policy = r.policy })

  module _ (list : List ℕ) (n : ℕ) where
    born-kept : (first pages : ℕ) → (node_of p.nodes n).pin_count ≡ 0 → (c x : ℕ) → get_or p.head 0 0 ≤ 16777215
        → Granted p.nodes n x c first pages → Kept (born p list (birth_by n c x first pages)).pool
    unfolding born
    born-kept first pages unpinned c x l g = cloned_kept (cloned L p n x c first pages g unpinned l S)

    pub child_kept : (offset len : ℕ) → Kept (create_child L p list n offset len).pool
    unfolding child_at
    child_kept offset len =
        on_leaf (refused p list []) (λ m. child_at L p list m offset len) L p S n (λ (s : Outcome Answer). Kept s.pool) kept
        (λ leaf.
        by_tests (refused p list []) (number_child p list n (offset / L) (len / L)) (λ (s : Outcome Answer). Kept s.pool)
        (against_child L (node_of p.nodes n) offset len) (λ r e. kept)
        (λ e.
        let a = allows L (node_of p.nodes n) offset len e in
        numbered_by L p list S n (offset / L) (len / L) leaf a.fits (λ (s : Outcome Answer). Kept s.pool) (λ r. kept)
        (born-kept (offset / L) (len / L) a.unpinned)))
