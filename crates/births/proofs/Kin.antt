-- The nodes as walks see them before and after a birth. Assumes nothing.
use Rattle.std.specs.Prelude.{Option, None, Some}
use mathlib.Core.Path.{◌≡◌, sym, ap, ◌∙◌}
use mathlib.Core.Bool.{Bool, true, ◌&&◌, not}
use mathlib.Core.List.{List}
use mathlib.Core.Logic.{⊎_elim}
use Prim.Native.Nat.{ℕ, ◌+◌, ◌-◌, ◌<◌}
use native.Mathlib.Omega.{arith}
use lib.Dec.{eqb, leb}
use borrow.Author.Tests.{eq-eqb, ne_eqb, le-leb, lt-leb}
use Rattle.logic.proofs.Means.{equal, most, split}
use Rattle.entry.specs.declared.PageState.{PageState}
use Rattle.entry.specs.declared.PageStateTag.TheVariants.{Owned, LeftSplit, RightSplit}
use Rattle.node.specs.declared.Node.{Node}
use Rattle.node.specs.Node.{out_of, side_of}
use Rattle.tables.specs.Tables.{node_of}
use Rattle.sound.specs.Facts.{Hidden, ChildOf, Tree}
use Rattle.isolation.specs.Private.{links_of}
use Rattle.isolation.proofs.Wood.{Ground, asked}
use Rattle.births.proofs.Cloned.{Old, Relinks, Cloned, above_node, under_node, child_node, leaf_seen, hidden_old, hidden_kept, kind_x}
use Rattle.births.proofs.Walked.{Born, Below}

-- the side of a child

side_left : (r : Node) (m : ℕ) → r.kind ≡ 3 → r.left ≡ m + 1 → (side_of r m).tag ≡ LeftSplit
unfolding side_of
side_left r m k e = rw (eq-eqb r.kind 3 k, eq-eqb r.left (m + 1) e)

side_right : (r : Node) (m : ℕ) → r.kind ≡ 3 → (r.left ≡ r.right → ⊥) → r.right ≡ m + 1 → (side_of r m).tag ≡ RightSplit
unfolding side_of
side_right r m k d e = rw (eq-eqb r.kind 3 k, ne_eqb r.left (m + 1) (λ z. d (z ∙ sym e)), eq-eqb r.right (m + 1) e)

-- what asks the parent

abbrev asks_by : Node → ℕ → Bool
asks_by r p = not (eqb r.parent 0) && not (out_of r p)

asks_like : {n x : ℕ} (r r' : Node) (p : ℕ) → Relinks n x r r' → asks_by r' p ≡ asks_by r p
unfolding out_of
asks_like r r' p k = rw (k.kind, k.parent, k.start, k.limit, k.size)

leb_add : (s a b : ℕ) → leb (s + a) (s + b) ≡ leb a b
leb_add s a b = split (most a b) (λ l. le-leb (s + a) (s + b) (omega arith) ∙ sym (le-leb a b l)) (λ g. lt-leb (s + a) (s + b) (omega arith) ∙ sym (lt-leb a b (omega arith)))

asks-above : (r : Node) (n c p : ℕ) → (r.kind ≡ 3 → ⊥) → ((r.parent ≡ 0 → ⊥) → r.parent_limit ≡ r.parent_offset + r.size) → asks_by (above_node r n c) p ≡ asks_by r p
unfolding out_of
asks-above r n c p k w =
    split (equal r.parent 0)
    (λ z. rw (eq-eqb r.parent 0 z))
    (λ ne. rw (ne_eqb r.parent 0 ne, ne_eqb r.kind 3 k, w ne, leb_add r.parent_offset r.size p))

asks_under : (r : Node) (x p : ℕ) → (r.kind ≡ 3 → ⊥) → p < r.size → asks_by (under_node r x) p ≡ true
unfolding out_of
asks_under r x p k l = rw (ne_eqb (x + 1) 0 (λ z. omega arith), ne_eqb r.kind 3 k, lt-leb r.size (0 + p) (omega arith))

asks_child : (x first pages owner p : ℕ) → p < pages → asks_by (child_node x first pages owner) p ≡ true
unfolding out_of
asks_child x first pages owner p l = rw (ne_eqb (x + 1) 0 (λ z. omega arith), lt-leb (first + pages) (first + p) (omega arith))

module _ (N N' : List ℕ) (n x c first pages owner next' : ℕ) (D : Cloned N N' n x c first pages owner) (G : Ground N) (t' : Tree N' next') where
  old_of : (h : ℕ) → Hidden N h → Old n x c h
  old_of = hidden_old N N' n x c first pages owner D

  -- a child on the same side of a hidden node that stays
  same_side : (h m m' : ℕ) → Hidden N h → ((node_of N h).left ≡ m + 1 → (node_of N' h).left ≡ m' + 1) → ((node_of N h).right ≡ m + 1 → (node_of N' h).right ≡ m' + 1)
      → ChildOf N h m → (side_of (node_of N' h) m').tag ≡ (side_of (node_of N h) m).tag
  same_side h m m' k f g =
      let k' = hidden_kept N N' n x c first pages owner D h k in
      ⊎_elim
      (λ e. side_left (node_of N' h) m' k' (f e) ∙ sym (side_left (node_of N h) m k e))
      (λ e. side_right (node_of N' h) m' k' (t'.distinct h k') (g e) ∙ sym (side_right (node_of N h) m k (G.base.tree.distinct h k) e))

  old_side : (m p : ℕ) → Old n x c m → (links_of N).asks m p ≡ true → (links_of N').side m ≡ (links_of N).side m
  old_side m p o a =
      let h = (links_of N).par m in
      let q = asked N G m p a in
      let r = D.at_old h (old_of h q.hidden) in
      rw (D.at_old m o).parent
      (same_side h m m q.hidden (λ e. r.left.kept (λ z. o.not_n (omega arith)) ∙ e) (λ e. r.right.kept (λ z. o.not_n (omega arith)) ∙ e)
      (G.base.tree.parents m h q.parent).1)

  x_side : (p : ℕ) → (links_of N).asks n p ≡ true → (links_of N').side x ≡ (links_of N).side n
  x_side p a =
      let h = (links_of N).par n in
      let q = asked N G n p a in
      let r = D.at_old h (old_of h q.hidden) in
      rw D.at_x (same_side h n x q.hidden r.left.moved r.right.moved (G.base.tree.parents n h q.parent).1)

  n_seen : (node_of N n).kind ≡ 3 → ⊥
  n_seen = leaf_seen N n D.leaf

  x_asks : (p : ℕ) → (links_of N').asks x p ≡ (links_of N).asks n p
  x_asks p =
      rw D.at_x
      (asks-above (node_of N n) n c p n_seen (λ ne. G.windows.whole n ((node_of N n).parent - 1) (omega arith)))

  module _ (E E' : ℕ → ℕ → Option PageState) (eo : (a b : ℕ) → Old n x c a → E' a b ≡ E a b) (ex : (p : ℕ) → E' x p ≡ E n p) (ow : (p : ℕ) (s : PageState) → E n p ≡ Some s → s.tag ≡ Owned) where
    pub born_links : Born (links_of N) (links_of N') E E' n x c
    born_links =
        record {
          old_asks = λ m p o. asks_like (node_of N m) (node_of N' m) p (D.at_old m o);
          old_par = λ m o. rw (D.at_old m o).parent;
          old_start = λ m o. (D.at_old m o).start;
          old_side = old_side;
          old_up = λ m p a. old_of ((links_of N).par m) (asked N G m p a).hidden;
          old_entry = eo;
          x_asks = x_asks;
          x_par = rw D.at_x;
          x_start = rw D.at_x;
          x_side = x_side;
          x_entry = ex;
          owned = ow;
        }

  -- the two below x

  abbrev kept-x : Hidden N' x
  kept-x = kind_x N N' n x c first pages owner D

  par_is : (y : ℕ) → (node_of N' y).parent ≡ x + 1 → (links_of N').par y ≡ x
  par_is y e = omega arith

  pub below_n : (E' : ℕ → ℕ → Option PageState) → ((p : ℕ) → E' n p ≡ None) → Below (links_of N') E' x n 0 (node_of N n).size
  below_n E' bare =
      let e = par_is n (ap (λ (r : Node). r.parent) D.at_n) in
      record {
        asks = λ p l. rw D.at_n (asks_under (node_of N n) x p n_seen l);
        par = e;
        start = ap (λ (r : Node). r.parent_offset) D.at_n;
        side = λ z.
            let q = side_left (node_of N' x) n kept-x (ap (λ (r : Node). r.left) D.at_x) in
            let s = sym q ∙ (rw e at z) in
            let o : ◌≡◌ {A = ℕ} 0 1 = cc in
            omega arith;
        bare = bare;
      }

  pub below_c : (E' : ℕ → ℕ → Option PageState) → ((p : ℕ) → E' c p ≡ None) → Below (links_of N') E' x c first pages
  below_c E' bare =
      let e = par_is c (ap (λ (r : Node). r.parent) D.at_c) in
      record {
        asks = λ p l. rw D.at_c (asks_child x first pages owner p l);
        par = e;
        start = ap (λ (r : Node). r.parent_offset) D.at_c;
        side = λ z.
            let q = side_right (node_of N' x) c kept-x (t'.distinct x kept-x) (ap (λ (r : Node). r.right) D.at_x) in
            let s = sym q ∙ (rw e at z) in
            let o : ◌≡◌ {A = ℕ} 0 1 = cc in
            omega arith;
        bare = bare;
      }
