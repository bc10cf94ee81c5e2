-- What every answer of create_child has. Assumes nothing.
use Rattle.std.specs.Prelude.{Option, ℕ, Some, None}
use Rattle.outcome.specs.Answers.{Answer}
use mathlib.Core.Path.{◌≡◌, refl}
use mathlib.Core.List.{List}
use Prim.Native.Nat.{ℕ, ◌+◌, ◌/◌}
use lib.Dec.{leb}
use lib.ListN.{get_or}
use Rattle.node.specs.Node.{last_owner}
use Rattle.tables.specs.Pool.{Pool}
use Rattle.tables.specs.Tables.{node_of, free_node_in, free_node_from}
use Rattle.outcome.specs.Room.{room_of}
use Rattle.outcome.specs.Outcome.{Outcome}
use Rattle.child.specs.Child.{born, against_child, with_both, with_child, number_child, child_at, create_child}
use Rattle.outcome.proofs.Laws.{tested, pick_has}
use Rattle.pool.proofs.Laws.{on_object_lem}

-- the call takes no frame
module _ (L : ℕ) (p : Pool) (list : List ℕ) (object offset len : ℕ) where
  abbrev Frameless : Outcome Answer → Type 0
  Frameless o = o.taken ≡ 0

  frameless_both : (n first pages child : ℕ) (f : Option ℕ) → Frameless (with_both p list n first pages child f)
  unfolding with_both born
  frameless_both n first pages child (Some hidden) = pick_has Frameless (room_of p.mappings list 1) refl refl
  frameless_both n first pages child None = refl

  frameless_child : (n first pages : ℕ) (f : Option ℕ) → Frameless (with_child p list n first pages f)
  unfolding with_child
  frameless_child n first pages (Some child) = frameless_both n first pages child (free_node_from p.nodes (child + 1))
  frameless_child n first pages None = refl

  pub create_frameless : (create_child L p list object offset len).taken ≡ 0
  unfolding child_at number_child
  create_frameless =
      on_object_lem Frameless L p object (λ r. refl)
      (λ n. tested Frameless (against_child L (node_of p.nodes n) offset len) (λ r. refl)
      (pick_has Frameless (leb (get_or p.head 0 0) last_owner) (frameless_child n (offset / L) (len / L) (free_node_in p.nodes)) refl))
