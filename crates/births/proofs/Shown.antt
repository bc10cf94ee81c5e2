-- A born child reads a part of the object's array, and every other object what it read. Assumes nothing.
use Rattle.std.specs.Prelude.{Option}
use Rattle.entry.specs.declared.PageState.{PageState}
use mathlib.Core.Path.{◌≡◌, sym, ap, ◌∙◌, subst}
use mathlib.Core.List.{List}
use Prim.Native.Nat.{ℕ, ◌+◌, ◌≤◌, ◌<◌}
use native.Mathlib.Omega.{arith}
use lib.ListN.{get_or}
use Rattle.logic.proofs.Means.{equal, split}
use Rattle.node.specs.Node.{last_owner, leaf_of}
use Rattle.tables.specs.Pool.{Pool}
use Rattle.tables.specs.Tables.{node_of, slot_at, row_moved}
use Rattle.sound.specs.Facts.{Leaf, Tree, Sound}
use Rattle.child.specs.Child.{birth_by, born_nodes}
use Rattle.isolation.specs.Private.{links_of, Shows, Private}
use Rattle.isolation.proofs.Look.{ground}
use Rattle.births.specs.Arrays.{clone_array}
use Rattle.births.specs.Births.{CloneBorn}
use Rattle.births.proofs.Laws.{clone_child, clone_other}
use Rattle.births.proofs.Cloned.{live-old, Old, Which, which, Cloned, leaf_live, leaf_seen, kind_x}
use Rattle.births.proofs.Cloned.Which.{is_x, is_n, is_c, is_old}
use Rattle.births.proofs.Handed.{RowMoved, slots_x, slots_n, slots_rest}
use Rattle.births.proofs.Walked.{Born, old_view, below_view}
use Rattle.births.proofs.Kin.{born_links, below_n, below_c}
use Rattle.births.proofs.Windowed.{born_windows}
use Rattle.births.proofs.Written.{Granted}
use Rattle.births.proofs.Child.{born_pool, cloned, moved, tree, born-sound, bare_c}

module _ (L : ℕ) (p : Pool) (n x c first pages : ℕ) (g : Granted p.nodes n x c first pages) (unpinned : (node_of p.nodes n).pin_count ≡ 0)
    (more : get_or p.head 0 0 ≤ last_owner) (A : ℕ → ℕ → ℕ → ℕ) (Q : Private L A p) where
  abbrev S : Sound L p
  S = Q.sound

  abbrev M : List ℕ
  M = p.nodes

  abbrev M' : List ℕ
  M' = born_nodes M (birth_by n c x first pages) (get_or p.head 0 0)

  abbrev E : ℕ → ℕ → Option PageState
  E = slot_at p.pages

  abbrev E' : ℕ → ℕ → Option PageState
  E' = slot_at (row_moved p.pages n x)

  abbrev q : Pool
  q = born_pool p n c x first pages

  abbrev D : Cloned M M' n x c first pages (get_or p.head 0 0)
  D = cloned L p n x c first pages g unpinned more S

  abbrev v : RowMoved p.pages (row_moved p.pages n x) n x
  v = moved L p n x c first pages g unpinned more S

  abbrev t' : Tree M' (get_or p.head 0 0 + 1)
  t' = tree L p n x c first pages g unpinned more S

  links : Born (links_of M) (links_of M') E E' n x c
  links =
      born_links M M' n x c first pages (get_or p.head 0 0) (get_or p.head 0 0 + 1) D (ground L A p Q) t' E E'
      (λ a b o. slots_rest p.pages (row_moved p.pages n x) n x v a b o.not_n o.not_x)
      (slots_x p.pages (row_moved p.pages n x) n x v)
      (λ j s h. S.entries.leaves n j s (leaf_seen M n g.leaf) h)

  abbrev A' : ℕ → ℕ → ℕ → ℕ
  A' = clone_array A n c first

  shows_old : (l i : ℕ) → Old n x c l → Shows L p l i (A l i) → Shows L q l i (A' l i)
  shows_old l i o w =
      record {
        source = w.source;
        view = old_view (links_of M) (links_of M') E E' n x c links l i w.source o w.view;
        bytes = λ k h. w.bytes k h ∙ sym (clone_other A n c first l i k o.not_c);
      }

  shows_n : (i : ℕ) → i < (node_of M n).size → Shows L q n i (A' n i)
  shows_n i l =
      let w = Q.shows n i g.leaf l in
      let e : 0 + i ≡ i = omega arith in
      let c_n : n ≡ c → ⊥ = λ z. leaf_live M n g.leaf (ap (λ (k : ℕ). (node_of M k).kind) z ∙ g.c_free) in
      record {
        source = w.source;
        view = below_view (links_of M) (links_of M') E E' n x c links n 0 (node_of M n).size
            (below_n M M' n x c first pages (get_or p.head 0 0) (get_or p.head 0 0 + 1) D (ground L A p Q) t' E' (slots_n p.pages (row_moved p.pages n x) n x v))
            i w.source l (rw e w.view);
        bytes = λ k h. w.bytes k h ∙ sym (clone_other A n c first n i k c_n);
      }

  shows_c : (i : ℕ) → i < pages → Shows L q c i (A' c i)
  shows_c i l =
      let f = g.fits in
      let w = Q.shows n (first + i) g.leaf (omega arith) in
      record {
        source = w.source;
        view = below_view (links_of M) (links_of M') E E' n x c links c first pages
            (below_c M M' n x c first pages (get_or p.head 0 0) (get_or p.head 0 0 + 1) D (ground L A p Q) t' E' (bare_c L p n x c first pages g unpinned more S))
            i w.source l w.view;
        bytes = λ k h. w.bytes k h ∙ sym (clone_child A n c first i k);
      }

  leaf_old : (l : ℕ) → Old n x c l → Leaf M' l → Leaf M l
  leaf_old l o f = rw (D.at_old l o).kind at f

  shows_by : (l i : ℕ) → Which n x c l → Leaf M' l → i < (node_of M' l).size → Shows L q l i (A' l i)
  shows_by l i (is_x e) f h = absurd (leaf_seen M' x (rw e at f) (kind_x M M' n x c first pages (get_or p.head 0 0) D))
  shows_by l i (is_n e) f h = subst (λ (k : ℕ). Shows L q k i (A' k i)) (sym e) (shows_n i (rw (e, D.at_n) at h))
  shows_by l i (is_c e) f h = subst (λ (k : ℕ). Shows L q k i (A' k i)) (sym e) (shows_c i (rw (e, D.at_c) at h))
  shows_by l i (is_old o) f h = shows_old l i o (Q.shows l i (leaf_old l o f) (rw (D.at_old l o).size at h))

  -- the other objects are those of before
  others_by : (l : ℕ) → Which n x c l → (l ≡ c → ⊥) → leaf_of (node_of M' l) ≡ leaf_of (node_of M l)
  others_by l (is_x e) ne = rw (e, D.at_x, g.x_free)
  others_by l (is_n e) ne = rw (e, D.at_n)
  others_by l (is_c e) ne = absurd (ne e)
  others_by l (is_old o) ne = rw (D.at_old l o).kind

  sizes_by : (l : ℕ) → Leaf M l → (node_of M' l).size ≡ (node_of M l).size
  sizes_by l f =
      split (equal l n)
      (λ e. rw (e, D.at_n))
      (λ ne. (D.at_old l (live-old M M' n x c first pages (get_or p.head 0 0) D l (leaf_live M l f) ne)).size)

  pub born_private : CloneBorn L A p n first pages c q
  born_private =
      record {
        free = g.c_free;
        leaf = rw D.at_c;
        size = rw D.at_c;
        others = λ l ne. others_by l (which n x c l) ne;
        sizes = sizes_by;
        private = record {
          sound = born-sound L p n x c first pages g unpinned more S;
          windows = born_windows M M' n x c first pages (get_or p.head 0 0) D (ground L A p Q);
          shows = λ l i. shows_by l i (which n x c l);
        };
      }
