-- The steps of create_child: refused they leave the pool, done they give birth. Assumes nothing.
use Rattle.std.specs.Prelude.{Option, ℕ, Some, None, Err, Ok}
use mathlib.Core.Path.{◌≡◌, refl}
use mathlib.Core.Bool.{Bool, true, false}
use mathlib.Core.List.{List, []}
use Prim.Native.Nat.{ℕ, ◌+◌, ◌/◌, ◌≤◌}
use native.Mathlib.Omega.{arith}
use lib.Dec.{leb}
use lib.ListN.{get_or}
use borrow.Author.Tests.{leb-true}
use Rattle.logic.specs.Pick.{pick}
use Rattle.node.specs.Node.{last_owner}
use Rattle.tables.specs.Pool.{Pool}
use Rattle.tables.specs.Tables.{node_of, free_node_in, free_node_from}
use Rattle.outcome.specs.declared.answer.Refusal as R
use Rattle.outcome.specs.Answers.{unless, Checked, Answer}
use Rattle.outcome.specs.Room.{room_of}
use Rattle.outcome.specs.Outcome.{Outcome, refused}
use Rattle.child.specs.Child.{birth_by, born, against_child, with_both, with_child, number_child, child_at}
use Rattle.sound.specs.Facts.{Leaf, Sound}
use Rattle.isolation.specs.Private.{Private}
use Rattle.births.specs.Births.{Gave, CloneBorn}
use Rattle.births.proofs.First.{Free, found_free, found_from}
use Rattle.births.proofs.Fitting.{Allows, allows}
use Rattle.births.proofs.Written.{Granted}
use Rattle.births.proofs.Child.{born-sound}
use Rattle.births.proofs.Shown.{born_private}

module _ (L : ℕ) (p : Pool) (list : List ℕ) (S : Sound L p) (n first pages : ℕ) (leaf : Leaf p.nodes n) (fits : first + pages ≤ (node_of p.nodes n).size) where
  -- what was found is free
  granted : (c x : ℕ) → Free p.nodes 0 c → Free p.nodes (c + 1) x → Granted p.nodes n x c first pages
  granted c x f h =
      record {
        leaf = leaf;
        x_free = h.kind;
        c_free = f.kind;
        apart = λ e. let l = h.from in omega arith;
        x_low = h.low;
        c_low = f.low;
        fits = fits;
      }

  -- what holds of the pool with its refusals, and of each birth, holds of the step
  module _ (B : Outcome Answer → Type 0) (stay : (r : R.Refusal) → B (refused p list [] r))
      (birth : (c x : ℕ) → get_or p.head 0 0 ≤ last_owner → Granted p.nodes n x c first pages → B (born p list (birth_by n c x first pages))) where
    both_by : (c : ℕ) → get_or p.head 0 0 ≤ last_owner → Free p.nodes 0 c → (f : Option ℕ) → free_node_from p.nodes (c + 1) ≡ f → B (with_both p list n first pages c f)
    unfolding with_both
    both_by c l h (Some x) e = by (room_of p.mappings list 1)
      where
        by : (b : Bool) → B (pick b (born p list (birth_by n c x first pages)) (refused p list [] R.TheVariants.NoRoom))
        by true = let k = h.low in birth c x l (granted c x h (found_from p.nodes S.lengths.nodes (c + 1) x (omega arith) e))
        by false = stay R.TheVariants.NoRoom
    both_by c l h None e = stay R.TheVariants.NoNode

    child_by_lem : get_or p.head 0 0 ≤ last_owner → (f : Option ℕ) → free_node_in p.nodes ≡ f → B (with_child p list n first pages f)
    unfolding with_child
    child_by_lem l (Some c) e = both_by c l (found_free p.nodes S.lengths.nodes c e) (free_node_from p.nodes (c + 1)) refl
    child_by_lem l None e = stay R.TheVariants.NoNode

    pub numbered_by : B (number_child p list n first pages)
    unfolding number_child
    numbered_by = by (leb (get_or p.head 0 0) last_owner) refl
      where
        by : (b : Bool) → leb (get_or p.head 0 0) last_owner ≡ b → B (pick b (with_child p list n first pages (free_node_in p.nodes)) (refused p list [] R.TheVariants.NoNode))
        by true t = child_by_lem (leb-true (get_or p.head 0 0) last_owner t) (free_node_in p.nodes) refl
        by false t = stay R.TheVariants.NoNode

module _ (L : ℕ) (p : Pool) (list : List ℕ) (n first pages : ℕ) (leaf : Leaf p.nodes n) (fits : first + pages ≤ (node_of p.nodes n).size) (unpinned : (node_of p.nodes n).pin_count ≡ 0) where
  birth_facts : Sound L p → (c x : ℕ) → get_or p.head 0 0 ≤ last_owner → Granted p.nodes n x c first pages → Sound L (born p list (birth_by n c x first pages)).pool
  unfolding born
  birth_facts S c x l g = born-sound L p n x c first pages g unpinned l S

  pub numbered_facts : Sound L p → Sound L (number_child p list n first pages).pool
  numbered_facts S = numbered_by L p list S n first pages leaf fits (λ s. Sound L s.pool) (λ r. S) (birth_facts S)

  birth_left : Sound L p → (c x : ℕ) → get_or p.head 0 0 ≤ last_owner → Granted p.nodes n x c first pages → Gave p (λ i q. Sound L q) (born p list (birth_by n c x first pages)).answer (born p list (birth_by n c x first pages)).pool
  unfolding born
  birth_left S c x l g = born-sound L p n x c first pages g unpinned l S

  -- refused, it leaves the pool as it was
  pub numbered_left : Sound L p → Gave p (λ i q. Sound L q) (number_child p list n first pages).answer (number_child p list n first pages).pool
  numbered_left S = numbered_by L p list S n first pages leaf fits (λ s. Gave p (λ i q. Sound L q) s.answer s.pool) (λ r. refl) (birth_left S)

  module _ (A : ℕ → ℕ → ℕ → ℕ) where
    abbrev Goes : Outcome Answer → Type 0
    Goes s = Gave p (CloneBorn L A p n first pages) s.answer s.pool

    birth_gave : Private L A p → (c x : ℕ) → get_or p.head 0 0 ≤ last_owner → Granted p.nodes n x c first pages → Goes (born p list (birth_by n c x first pages))
    unfolding born
    birth_gave Q c x l g = born_private L p n x c first pages g unpinned l A Q

    pub numbered_gave : Private L A p → Goes (number_child p list n first pages)
    numbered_gave Q = numbered_by L p list Q.sound n first pages leaf fits Goes (λ r. refl) (birth_gave Q)

-- and with the tests before them

module _ (L : ℕ) (p : Pool) (list : List ℕ) (n offset len : ℕ) (leaf : Leaf p.nodes n) where
  abbrev against : Checked
  against = against_child L (node_of p.nodes n) offset len

  tested_by : (B : Outcome Answer → Type 0) → ((r : R.Refusal) → B (refused p list [] r)) → (Allows L (node_of p.nodes n) offset len → B (number_child p list n (offset / L) (len / L)))
      → (a : Checked) → against ≡ a → B (unless a (refused p list []) (number_child p list n (offset / L) (len / L)))
  tested_by B stay go (Err r) e = stay r
  tested_by B stay go (Ok u) e = go (allows L (node_of p.nodes n) offset len e)

  pub child_facts : Sound L p → Sound L (child_at L p list n offset len).pool
  unfolding child_at
  child_facts S =
      tested_by (λ s. Sound L s.pool) (λ r. S)
      (λ a. numbered_facts L p list n (offset / L) (len / L) leaf a.fits a.unpinned S) against refl

  pub child_gave : (A : ℕ → ℕ → ℕ → ℕ) → Private L A p → Gave p (CloneBorn L A p n (offset / L) (len / L)) (child_at L p list n offset len).answer (child_at L p list n offset len).pool
  unfolding child_at
  child_gave A Q =
      tested_by (λ s. Gave p (CloneBorn L A p n (offset / L) (len / L)) s.answer s.pool) (λ r. refl)
      (λ a. numbered_gave L p list n (offset / L) (len / L) leaf a.fits a.unpinned A Q) against refl
