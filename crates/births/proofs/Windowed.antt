-- A birth keeps the windows whole and inside. Assumes nothing.
use mathlib.Core.Path.{◌≡◌, refl, sym, ap, ◌∙◌}
use mathlib.Core.List.{List}
use Prim.Native.Nat.{ℕ, ◌+◌, ◌≤◌}
use native.Mathlib.Omega.{arith}
use Rattle.node.specs.declared.Node.{Node}
use Rattle.tables.specs.Tables.{node_of}
use Rattle.sound.specs.Facts.{Hidden}
use Rattle.isolation.specs.Private.{Windows}
use Rattle.isolation.proofs.Wood.{Ground}
use Rattle.births.proofs.Cloned.{Which, which, Cloned, hidden_old}
use Rattle.births.proofs.Cloned.Which.{is_x, is_n, is_c, is_old}

module _ (N N' : List ℕ) (n x c first pages owner : ℕ) (D : Cloned N N' n x c first pages owner) (G : Ground N) where
  parent_x : (m h : ℕ) → m ≡ x → (node_of N' m).parent ≡ h + 1 → (node_of N n).parent ≡ h + 1
  parent_x m h e p = sym (ap (λ (k : ℕ). (node_of N' k).parent) e ∙ ap (λ (r : Node). r.parent) D.at_x) ∙ p

  size_kept : (h : ℕ) → Hidden N h → (node_of N' h).size ≡ (node_of N h).size
  size_kept h k = (D.at_old h (hidden_old N N' n x c first pages owner D h k)).size

  whole_by : (m h : ℕ) → Which n x c m → (node_of N' m).parent ≡ h + 1 → (node_of N' m).parent_limit ≡ (node_of N' m).parent_offset + (node_of N' m).size
  whole_by m h (is_x e) p = rw (e, D.at_x) (G.windows.whole n h (parent_x m h e p))
  whole_by m h (is_n e) p = rw (e, D.at_n) (omega arith)
  whole_by m h (is_c e) p = rw (e, D.at_c) refl
  whole_by m h (is_old o) p = let r = D.at_old m o in rw (r.limit, r.start, r.size) (G.windows.whole m h (sym r.parent ∙ p))

  x_of : (m h : ℕ) → (node_of N' m).parent ≡ x + 1 → (node_of N' m).parent ≡ h + 1 → h ≡ x
  x_of m h e p = omega arith

  size_x : (h : ℕ) → h ≡ x → (node_of N' h).size ≡ (node_of N n).size
  size_x h e = rw (e, D.at_x)

  inside_by : (m h : ℕ) → Which n x c m → (node_of N' m).parent ≡ h + 1 → (node_of N' m).parent_limit ≤ (node_of N' h).size
  inside_by m h (is_x e) p =
      let q = parent_x m h e p in
      let s = size_kept h (G.base.tree.parents n h q).0 in
      let w = G.windows.inside n h q in
      let l : (node_of N' m).parent_limit ≡ (node_of N n).parent_limit = rw (e, D.at_x) in
      omega arith
  inside_by m h (is_n e) p =
      let s = size_x h (x_of m h (rw (e, D.at_n)) p) in
      let l : (node_of N' m).parent_limit ≡ (node_of N n).size = rw (e, D.at_n) in
      omega arith
  inside_by m h (is_c e) p =
      let s = size_x h (x_of m h (rw (e, D.at_c)) p) in
      let l : (node_of N' m).parent_limit ≡ first + pages = rw (e, D.at_c) in
      let f = D.fits in
      omega arith
  inside_by m h (is_old o) p =
      let q = sym (D.at_old m o).parent ∙ p in
      let s = size_kept h (G.base.tree.parents m h q).0 in
      let w = G.windows.inside m h q in
      let l = (D.at_old m o).limit in
      omega arith

  pub born_windows : Windows N'
  born_windows = record { whole = λ m h. whole_by m h (which n x c m); inside = λ m h. inside_by m h (which n x c m) }
