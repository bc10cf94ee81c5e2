-- A pool in which a child was born is sound. Assumes nothing.
use Rattle.std.specs.Prelude.{Option, None, Some}
use Rattle.entry.specs.declared.PageState.{PageState}
use mathlib.Core.Path.{◌≡◌, refl, sym, ap, ◌∙◌}
use mathlib.Core.List.{List}
use Prim.Native.Nat.{ℕ, ◌+◌, ◌≤◌, ◌<◌}
use native.Mathlib.Omega.{arith}
use lib.ListN.{length, get_or, set, length-set}
use lib.Seq.{get_or-set_same}
use Rattle.logic.proofs.Means.{less, split}
use Rattle.node.specs.declared.Node.{Node}
use Rattle.node.specs.Node.{last_owner}
use Rattle.tables.specs.Pool.{Pool, pool_of}
use Rattle.tables.specs.Tables.{node_of, slot_at, row_moved}
use Rattle.sound.specs.Facts.{Tree, Sound}
use Rattle.soundness.proofs.Records.{node_out}
use Rattle.child.specs.Child.{birth_by, born_nodes}
use Rattle.births.proofs.Cloned.{Cloned, leaf_live}
use Rattle.births.proofs.Growth.{born_tree}
use Rattle.births.proofs.Handed.{RowMoved, slots_rest, born_entries, born_mappings}
use Rattle.births.proofs.Written.{Granted, born_length, born_cloned}
use Rattle.births.proofs.Moved.{row_moved_lem, row_length}

abbrev pub born_pool : Pool → ℕ → ℕ → ℕ → ℕ → ℕ → Pool
born_pool p n c x first pages =
    pool_of (born_nodes p.nodes (birth_by n c x first pages) (get_or p.head 0 0)) (row_moved p.pages n x) p.used p.mappings
    (set p.head 0 (get_or p.head 0 0 + 1)) p.memory

module _ (L : ℕ) (p : Pool) (n x c first pages : ℕ) (g : Granted p.nodes n x c first pages) (unpinned : (node_of p.nodes n).pin_count ≡ 0)
    (more : get_or p.head 0 0 ≤ last_owner) (S : Sound L p) where
  abbrev N : List ℕ
  N = p.nodes

  abbrev next : ℕ
  next = get_or p.head 0 0

  abbrev N' : List ℕ
  N' = born_nodes N (birth_by n c x first pages) next

  abbrev P' : List ℕ
  P' = row_moved p.pages n x

  len : length N ≡ 1024
  len = S.lengths.nodes

  n_low : n < 64
  n_low =
      split (less n 64) (λ l. l)
      (λ out. absurd (leaf_live N n g.leaf (ap (λ (r : Node). r.kind) (node_out N len n (omega arith)))))

  x_n : x ≡ n → ⊥
  x_n e = leaf_live N n g.leaf (sym (ap (λ (k : ℕ). (node_of N k).kind) e) ∙ g.x_free)

  pub cloned : Cloned N N' n x c first pages next
  cloned = born_cloned N len n x c first pages next next S.tree g

  pub moved : RowMoved p.pages P' n x
  moved = row_moved_lem p.pages n x S.lengths.pages n_low g.x_low x_n

  pub tree : Tree N' (next + 1)
  tree = born_tree N N' n x c first pages next cloned S.tree len more

  head-next : get_or (set p.head 0 (next + 1)) 0 0 ≡ next + 1
  head-next = let l = S.lengths.head in get_or-set_same p.head 0 (next + 1) 0 (omega arith)

  pub born-sound : Sound L (born_pool p n c x first pages)
  born-sound =
      let l = S.lengths in
      record {
        lengths = record {
          nodes = born_length N len n x c first pages next next S.tree g;
          pages = row_length p.pages n x l.pages n_low g.x_low x_n;
          mappings = l.mappings;
          head = length-set p.head 0 (next + 1) ∙ l.head;
          some_frame = l.some_frame;
          most_frames = l.most_frames;
          memory = l.memory;
        };
        tree = rw head-next tree;
        entries = born_entries N N' p.pages P' p.used n x c first pages next cloned S.tree moved S.entries unpinned;
        mappings = born_mappings N N' n x c first pages next cloned p.mappings S.mappings;
      }

  -- the child's row is empty
  pub bare_c : (j : ℕ) → slot_at P' c j ≡ None
  bare_c j = slots_rest p.pages P' n x moved c j c_n (λ e. g.apart (sym e)) ∙ by (slot_at p.pages c j) refl
    where
      c_n : c ≡ n → ⊥
      c_n e = leaf_live N n g.leaf (sym (ap (λ (k : ℕ). (node_of N k).kind) e) ∙ g.c_free)

      by : (y : Option PageState) → slot_at p.pages c j ≡ y → y ≡ None
      by None h = refl
      by (Some s) h =
          let l = S.entries.below c j s h in
          let z = ap (λ (r : Node). r.size) (S.tree.blank c g.c_free) in
          absurd (omega arith)
