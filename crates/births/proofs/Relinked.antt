-- The record of a node whose link to a child moved to another. Assumes nothing.
use mathlib.Core.Path.{◌≡◌, refl, sym, ◌∙◌}
use mathlib.Core.Bool.{Bool, true, false, ◌&&◌, not}
use Prim.Native.Nat.{ℕ, ◌+◌}
use lib.Dec.{eqb}
use borrow.Author.Tests.{eq-eqb, ne_eqb}
use Rattle.logic.specs.Pick.{pick}
use Rattle.node.specs.declared.Node.{Node}
use Rattle.node.specs.Node.{node_by}
use Rattle.births.proofs.Cloned.{Relinks}

-- a parent's record, in which its link to n becomes one to x
abbrev pub moved_node : Node → ℕ → ℕ → Node
moved_node r n x =
    node_by r.kind r.parent (pick (eqb r.left (n + 1)) (x + 1) r.left)
    (pick (not (eqb r.left (n + 1)) && eqb r.right (n + 1)) (x + 1) r.right) r.parent_offset r.parent_limit r.size r.owner
    r.cache_policy r.pin_count

pub relinks_moved : (n x : ℕ) (r : Node) → (r.left ≡ r.right → ⊥) → Relinks n x r (moved_node r n x)
relinks_moved n x r d =
    record {
      kind = refl;
      parent = refl;
      start = refl;
      limit = refl;
      size = refl;
      owner = refl;
      policy = refl;
      pins = refl;
      left = record { moved = λ e. rw (eq-eqb r.left (n + 1) e); kept = λ ne. rw (ne_eqb r.left (n + 1) ne) };
      right = record {
        moved = λ e. rw (ne_eqb r.left (n + 1) (λ z. d (z ∙ sym e)), eq-eqb r.right (n + 1) e);
        kept = λ ne. rw (ne_eqb r.right (n + 1) ne) (by (not (eqb r.left (n + 1))));
      };
      same = λ a b. rw (ne_eqb r.left (n + 1) a, ne_eqb r.right (n + 1) b);
    }
  where
    by : (b : Bool) → pick (b && false) (x + 1) r.right ≡ r.right
    by true = refl
    by false = refl

pub relinks_same : (n x : ℕ) (r : Node) → (r.left ≡ n + 1 → ⊥) → (r.right ≡ n + 1 → ⊥) → Relinks n x r r
relinks_same n x r a b =
    record {
      kind = refl;
      parent = refl;
      start = refl;
      limit = refl;
      size = refl;
      owner = refl;
      policy = refl;
      pins = refl;
      left = record { moved = λ e. absurd (a e); kept = λ ne. refl };
      right = record { moved = λ e. absurd (b e); kept = λ ne. refl };
      same = λ c d. refl;
    }
