-- The node table as create_child writes it: child, hidden node, its parent, the object. Assumes nothing.
use mathlib.Core.Path.{◌≡◌, sym, ap, ◌∙◌}
use mathlib.Core.Bool.{Bool, true, false}
use mathlib.Core.List.{List}
use Prim.Native.Nat.{ℕ, ◌+◌, ◌-◌, ◌≤◌, ◌<◌, min}
use native.Mathlib.Omega.{arith}
use lib.Dec.{eqb}
use lib.ListN.{length}
use borrow.Author.Tests.{eq-eqb, ne_eqb}
use Rattle.logic.specs.Pick.{pick}
use Rattle.logic.proofs.Means.{equal, less, split}
use Rattle.node.specs.declared.Node.{Node}
use Rattle.node.specs.Node.{node_by}
use Rattle.tables.specs.Tables.{node_of, with_node}
use Rattle.sound.specs.Facts.{Live, Hidden, Leaf, Tree}
use Rattle.soundness.proofs.Records.{node_out}
use Rattle.child.specs.Child.{birth_by, relinked, born_nodes}
use Rattle.births.proofs.Words.{node_length, node_same, node_away}
use Rattle.births.proofs.Cloned.{Old, Relinks, Cloned, above_node, under_node, child_node, leaf_live}
use Rattle.births.proofs.Relinked.{moved_node, relinks_moved, relinks_same}

-- what create_child was granted
pub record Granted (N : List ℕ) (n x c first pages : ℕ) : Type 0 where
  pub leaf : Leaf N n
  pub x_free : (node_of N x).kind ≡ 0
  pub c_free : (node_of N c).kind ≡ 0
  pub apart : x ≡ c → ⊥
  pub x_low : x < 64
  pub c_low : c < 64
  pub fits : first + pages ≤ (node_of N n).size

module _ (N : List ℕ) (len : length N ≡ 1024) (n x c first pages owner next : ℕ) (t : Tree N next) (g : Granted N n x c first pages) where
  abbrev par : ℕ
  par = (node_of N n).parent

  abbrev snap : Node
  snap = node_by 2 (x + 1) 0 0 first (min (first + pages) (node_of N n).size) pages owner 0 0

  abbrev N₁ : List ℕ
  N₁ = with_node N c snap

  abbrev N₂ : List ℕ
  N₂ = with_node N₁ x (above_node (node_of N n) n c)

  abbrev N₃ : List ℕ
  N₃ = relinked N₂ par n x

  len₁ : length N₁ ≡ 1024
  len₁ = node_length N c snap ∙ len

  len₂ : length N₂ ≡ 1024
  len₂ = node_length N₁ x (above_node (node_of N n) n c) ∙ len₁

  pick_length : (b : Bool) (r : Node) → length (pick b N₂ (with_node N₂ (par - 1) r)) ≡ 1024
  pick_length true r = len₂
  pick_length false r = node_length N₂ (par - 1) r ∙ len₂

  len₃ : length N₃ ≡ 1024
  unfolding relinked
  len₃ = pick_length (eqb par 0) (moved_node (node_of N₂ (par - 1)) n x)

  pub born_length : length (born_nodes N (birth_by n c x first pages) owner) ≡ 1024
  unfolding born_nodes
  born_length = node_length N₃ n (under_node (node_of N n) x) ∙ len₃

  live_n : Live N n
  live_n = leaf_live N n g.leaf

  not_free : (m k : ℕ) → Live N m → (node_of N k).kind ≡ 0 → m ≡ k → ⊥
  not_free m k live z e = live (ap (λ (j : ℕ). (node_of N j).kind) e ∙ z)

  x_n : x ≡ n → ⊥
  x_n e = not_free n x live_n g.x_free (sym e)

  c_n : c ≡ n → ⊥
  c_n e = not_free n c live_n g.c_free (sym e)

  low : (m : ℕ) → Live N m → m < 64
  low m live = split (less m 64) (λ l. l) (λ out. absurd (live (ap (λ (r : Node). r.kind) (node_out N len m (omega arith)))))

  -- the parent, where there is one, is a hidden node of before
  par_hidden : (par ≡ 0 → ⊥) → Hidden N (par - 1)
  par_hidden ne = (t.parents n (par - 1) (omega arith)).0

  par_live : (par ≡ 0 → ⊥) → Live N (par - 1)
  par_live ne z = let h = par_hidden ne in omega arith

  -- nodes other than the parent
  away_three : (m : ℕ) → (par ≡ m + 1 → ⊥) → node_of N₃ m ≡ node_of N₂ m
  unfolding relinked
  away_three m ne =
      split (equal par 0)
      (λ z. rw (eq-eqb par 0 z))
      (λ nz. rw (ne_eqb par 0 nz) (node_away N₂ (par - 1) m (moved_node (node_of N₂ (par - 1)) n x) (λ e. ne (omega arith))))

  free_three : (m : ℕ) → (node_of N m).kind ≡ 0 → par ≡ m + 1 → ⊥
  free_three m z e = let h = (t.parents n m e).0 in omega arith

  at_x : node_of (born_nodes N (birth_by n c x first pages) owner) x ≡ above_node (node_of N n) n c
  unfolding born_nodes
  at_x = node_away N₃ n x (under_node (node_of N n) x) x_n ∙ away_three x (free_three x g.x_free) ∙ node_same N₁ x (above_node (node_of N n) n c) len₁ g.x_low

  at_c : node_of (born_nodes N (birth_by n c x first pages) owner) c ≡ child_node x first pages owner
  unfolding born_nodes
  at_c =
      let f = g.fits in
      let e : min (first + pages) (node_of N n).size ≡ first + pages = omega arith in
      node_away N₃ n c (under_node (node_of N n) x) c_n ∙ away_three c (free_three c g.c_free) ∙ node_away N₁ x c (above_node (node_of N n) n c) (λ q. g.apart (sym q))
      ∙ node_same N c snap len g.c_low ∙ rw e

  at_n : node_of (born_nodes N (birth_by n c x first pages) owner) n ≡ under_node (node_of N n) x
  unfolding born_nodes
  at_n = node_same N₃ n (under_node (node_of N n) x) len₃ (low n live_n)

  before_three : (m : ℕ) → Old n x c m → node_of N₂ m ≡ node_of N m
  before_three m o = node_away N₁ x m (above_node (node_of N n) n c) o.not_x ∙ node_away N c m snap o.not_c

  at_parent : (m : ℕ) → Old n x c m → par ≡ m + 1 → node_of N₃ m ≡ moved_node (node_of N m) n x
  unfolding relinked
  at_parent m o e =
      let nz : par ≡ 0 → ⊥ = λ z. omega arith in
      let d : par - 1 ≡ m = omega arith in
      let h = (t.parents n m e).0 in
      rw (ne_eqb par 0 nz, d) (node_same N₂ m (moved_node (node_of N₂ m) n x) len₂ (low m (λ z. omega arith)) ∙ ap (λ (r : Node). moved_node r n x) (before_three m o))

  -- another node's children are not n
  no_left : (m : ℕ) → (par ≡ m + 1 → ⊥) → (node_of N m).left ≡ n + 1 → ⊥
  no_left m ne e =
      split (equal (node_of N m).kind 3)
      (λ h.
      let k = t.left_child m h in
      let q = k.linked in
      let d : k.node ≡ n = omega arith in
      ne (sym (ap (λ (j : ℕ). (node_of N j).parent) d) ∙ k.parent))
      (λ h. let q = (t.childless m h).0 in omega arith)

  no_right : (m : ℕ) → (par ≡ m + 1 → ⊥) → (node_of N m).right ≡ n + 1 → ⊥
  no_right m ne e =
      split (equal (node_of N m).kind 3)
      (λ h.
      let k = t.right_child m h in
      let q = k.linked in
      let d : k.node ≡ n = omega arith in
      ne (sym (ap (λ (j : ℕ). (node_of N j).parent) d) ∙ k.parent))
      (λ h. let q = (t.childless m h).1 in omega arith)

  at_old : (m : ℕ) → Old n x c m → Relinks n x (node_of N m) (node_of (born_nodes N (birth_by n c x first pages) owner) m)
  unfolding born_nodes
  at_old m o =
      rw (node_away N₃ n m (under_node (node_of N n) x) o.not_n)
      (split (equal par (m + 1))
      (λ e. rw (at_parent m o e) (relinks_moved n x (node_of N m) (t.distinct m (t.parents n m e).0)))
      (λ ne. rw (away_three m ne ∙ before_three m o) (relinks_same n x (node_of N m) (no_left m ne) (no_right m ne))))

  pub born_cloned : Cloned N (born_nodes N (birth_by n c x first pages) owner) n x c first pages owner
  born_cloned =
      record {
        leaf = g.leaf;
        x_free = g.x_free;
        c_free = g.c_free;
        apart = g.apart;
        fits = g.fits;
        at_x = at_x;
        at_n = at_n;
        at_c = at_c;
        at_old = at_old;
      }
