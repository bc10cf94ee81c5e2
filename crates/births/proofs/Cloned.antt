-- A child c is born of the object n: a hidden node x takes the object's place and has the two below it. Over what is read of the node table
-- before and after. Assumes nothing.
use mathlib.Core.Path.{◌≡◌, sym, ap, ◌∙◌, subst}
use mathlib.Core.Bool.{false}
use mathlib.Core.List.{List}
use Prim.Native.Nat.{ℕ, ◌+◌, ◌≤◌}
use native.Mathlib.Omega.{arith}
use Rattle.logic.proofs.Means.{equal, split}
use Rattle.node.specs.declared.Node.{Node}
use Rattle.node.specs.Node.{leaf_of, node_by}
use Rattle.tables.specs.Tables.{node_of}
use Rattle.sound.specs.Facts.{Live, Hidden, Leaf}

-- a node that is none of the three
pub record Old (n x c m : ℕ) : Type 0 where
  pub not_n : m ≡ n → ⊥
  pub not_x : m ≡ x → ⊥
  pub not_c : m ≡ c → ⊥

pub data Which (n x c m : ℕ) : Type 0 where
  is_x : m ≡ x → Which n x c m
  is_n : m ≡ n → Which n x c m
  is_c : m ≡ c → Which n x c m
  is_old : Old n x c m → Which n x c m

pub which : (n x c m : ℕ) → Which n x c m
which n x c m =
    split (equal m x) is_x
    (λ a. split (equal m n) is_n (λ b. split (equal m c) is_c (λ d. is_old (record { not_n = b; not_x = a; not_c = d }))))

-- a link to n becomes one to x
pub record Moves (n x link link' : ℕ) : Type 0 where
  pub moved : link ≡ n + 1 → link' ≡ x + 1
  pub kept : (link ≡ n + 1 → ⊥) → link' ≡ link

-- the record of an old node, in which links may have moved
pub record Relinks (n x : ℕ) (r r' : Node) : Type 0 where
  pub kind : r'.kind ≡ r.kind
  pub parent : r'.parent ≡ r.parent
  pub start : r'.parent_offset ≡ r.parent_offset
  pub limit : r'.parent_limit ≡ r.parent_limit
  pub size : r'.size ≡ r.size
  pub owner : r'.owner ≡ r.owner
  pub policy : r'.cache_policy ≡ r.cache_policy
  pub pins : r'.pin_count ≡ r.pin_count
  pub left : Moves n x r.left r'.left
  pub right : Moves n x r.right r'.right
  pub same : (r.left ≡ n + 1 → ⊥) → (r.right ≡ n + 1 → ⊥) → r' ≡ r

abbrev pub above_node : Node → ℕ → ℕ → Node
above_node r n c = node_by 3 r.parent (n + 1) (c + 1) r.parent_offset r.parent_limit r.size r.owner 0 r.pin_count

abbrev pub under_node : Node → ℕ → Node
under_node r x = node_by r.kind (x + 1) r.left r.right 0 r.size r.size r.owner r.cache_policy r.pin_count

abbrev pub child_node : ℕ → ℕ → ℕ → ℕ → Node
child_node x first pages owner = node_by 2 (x + 1) 0 0 first (first + pages) pages owner 0 0

pub record Cloned (N N' : List ℕ) (n x c first pages owner : ℕ) : Type 0 where
  pub leaf : Leaf N n
  pub x_free : (node_of N x).kind ≡ 0
  pub c_free : (node_of N c).kind ≡ 0
  pub apart : x ≡ c → ⊥
  pub fits : first + pages ≤ (node_of N n).size
  pub at_x : node_of N' x ≡ above_node (node_of N n) n c
  pub at_n : node_of N' n ≡ under_node (node_of N n) x
  pub at_c : node_of N' c ≡ child_node x first pages owner
  pub at_old : (m : ℕ) → Old n x c m → Relinks n x (node_of N m) (node_of N' m)

pub leaf_live : (N : List ℕ) (m : ℕ) → Leaf N m → Live N m
leaf_live N m l h = let k : leaf_of (node_of N m) ≡ false = rw h in let z : ◌≡◌ {A = ℕ} 0 1 = cc in omega arith

pub leaf_seen : (N : List ℕ) (m : ℕ) → Leaf N m → Hidden N m → ⊥
leaf_seen N m l h = let k : leaf_of (node_of N m) ≡ false = rw h in let z : ◌≡◌ {A = ℕ} 0 1 = cc in omega arith

module _ (N N' : List ℕ) (n x c first pages owner : ℕ) (D : Cloned N N' n x c first pages owner) where
  -- what holds of the three records and of each old one
  pub each : (B : Node → Type 0) (m : ℕ) → B (above_node (node_of N n) n c) → B (under_node (node_of N n) x) → B (child_node x first pages owner) → (Old n x c m → B (node_of N' m)) → B (node_of N' m)
  each B m u v w f = by (which n x c m)
    where
      by : Which n x c m → B (node_of N' m)
      by (is_x e) = subst B (sym (ap (λ (k : ℕ). node_of N' k) e ∙ D.at_x)) u
      by (is_n e) = subst B (sym (ap (λ (k : ℕ). node_of N' k) e ∙ D.at_n)) v
      by (is_c e) = subst B (sym (ap (λ (k : ℕ). node_of N' k) e ∙ D.at_c)) w
      by (is_old o) = f o

  pub live_n : Live N n
  live_n = leaf_live N n D.leaf

  pub x_not_n : x ≡ n → ⊥
  x_not_n e = live_n (sym (ap (λ (k : ℕ). (node_of N k).kind) e) ∙ D.x_free)

  pub c_not_n : c ≡ n → ⊥
  c_not_n e = live_n (sym (ap (λ (k : ℕ). (node_of N k).kind) e) ∙ D.c_free)

  -- a live node was neither x nor c, and a hidden one not n
  pub live_not_x : (m : ℕ) → Live N m → m ≡ x → ⊥
  live_not_x m live e = live (ap (λ (k : ℕ). (node_of N k).kind) e ∙ D.x_free)

  pub live_not_c : (m : ℕ) → Live N m → m ≡ c → ⊥
  live_not_c m live e = live (ap (λ (k : ℕ). (node_of N k).kind) e ∙ D.c_free)

  pub live-old : (m : ℕ) → Live N m → (m ≡ n → ⊥) → Old n x c m
  live-old m live ne = record { not_n = ne; not_x = live_not_x m live; not_c = live_not_c m live }

  pub hidden_old : (m : ℕ) → Hidden N m → Old n x c m
  hidden_old m h = live-old m (λ z. omega arith) (λ e. leaf_seen N n D.leaf (sym (ap (λ (k : ℕ). (node_of N k).kind) e) ∙ h))

  pub hidden_kept : (m : ℕ) → Hidden N m → Hidden N' m
  hidden_kept m h = (D.at_old m (hidden_old m h)).kind ∙ h

  -- the kinds after it
  pub kind_n : Hidden N' n → ⊥
  kind_n h = leaf_seen N n D.leaf (sym (ap (λ (r : Node). r.kind) D.at_n) ∙ h)

  pub kind_c : Hidden N' c → ⊥
  kind_c h = let k = ap (λ (r : Node). r.kind) D.at_c in omega arith

  pub kind_x : Hidden N' x
  kind_x = ap (λ (r : Node). r.kind) D.at_x
