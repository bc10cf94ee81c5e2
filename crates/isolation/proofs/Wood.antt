-- The table of nodes in a sound pool whose windows are whole, as a lookup relies on it. Assumes nothing.
use mathlib.Core.Path.{◌≡◌, refl, ap}
use mathlib.Core.Bool.{Bool, true, false, not}
use mathlib.Core.List.{List}
use Prim.Native.Nat.{ℕ, suc, ◌+◌, ◌-◌, ◌<◌}
use native.Mathlib.Omega.{arith}
use lib.Dec.{eqb}
use borrow.Author.Tests.{eqb-false, ne_eqb, eq-eqb, leb-false, lt-leb, le-leb, lt-ltb, not-true}
use Rattle.logic.proofs.Means.{equal, split}
use Rattle.logic.proofs.Laws.{and_left, and_right, and_both}
use Rattle.node.specs.declared.Node.{Node}
use Rattle.node.specs.Node.{hidden_of, leaf_of, window_of, out_of}
use Rattle.tables.specs.Tables.{node_of}
use Rattle.sound.specs.Facts.{Live, Hidden, Leaf}
use Rattle.lookups.proofs.Base.{Base, depth, deeper}
use Rattle.isolation.specs.Private.{links_of, Windows}
use Rattle.lookups.proofs.Sides.{Sided, sided_by}

-- page r of c asks c's parent
pub record Asked (N : List ℕ) (c r : ℕ) : Type 0 where
  pub parent : (node_of N c).parent ≡ (links_of N).par c + 1
  pub hidden : Hidden N ((links_of N).par c)
  pub sided : Sided (node_of N ((links_of N).par c)) c
  pub size : r < (node_of N c).size
  pub window : window_of (node_of N c) ((links_of N).start c + r) ≡ true
  pub inside : (links_of N).start c + r < (node_of N ((links_of N).par c)).size

hidden_test : (n : Node) → n.kind ≡ 3 → hidden_of n ≡ true
hidden_test n h = eq-eqb n.kind 3 h

-- the nodes are sound and their windows whole
pub record Ground (N : List ℕ) : Type 0 where
  pub base : Base N
  pub windows : Windows N

module _ (N : List ℕ) (G : Ground N) where
  abbrev pub height : ℕ → ℕ
  height n = depth N G.base n

  -- the bounds of a page that asks
  in_by : (c r h : ℕ) (b : Bool) → (node_of N c).parent ≡ h + 1 → hidden_of (node_of N c) ≡ b → out_of (node_of N c) r ≡ false → r < (node_of N c).size
  unfolding out_of
  in_by c r h true e k o =
      leb-false (node_of N c).size r (rw k at o)
  in_by c r h false e k o =
      let z = ne_eqb (node_of N c).parent 0 (λ z. omega arith) in
      let l = leb-false (node_of N c).parent_limit ((node_of N c).parent_offset + r) (rw (k, z) at o) in
      let q = G.windows.whole c h e in
      omega arith

  in_window : (n : Node) (r : ℕ) → n.parent_limit ≡ n.parent_offset + n.size → r < n.size → window_of n (n.parent_offset + r) ≡ true
  in_window n r e l = and_both (le-leb n.parent_offset (n.parent_offset + r) (omega arith)) (lt-ltb (n.parent_offset + r) n.parent_limit (omega arith))

  pub asked : (c r : ℕ) → (links_of N).asks c r ≡ true → Asked N c r
  asked c r a =
      let x = not (eqb (node_of N c).parent 0) in
      let y = not (out_of (node_of N c) r) in
      let p = eqb-false (node_of N c).parent 0 (not-true (eqb (node_of N c).parent 0) (and_left x y a)) in
      let o = not-true (out_of (node_of N c) r) (and_right x y a) in
      let h = (node_of N c).parent - 1 in
      let e : (node_of N c).parent ≡ h + 1 = omega arith in
      let l = in_by c r h (hidden_of (node_of N c)) e refl o in
      let u = G.windows.whole c h e in
      let v = G.windows.inside c h e in
      let k = G.base.tree.parents c h e in
      record {
        parent = e;
        hidden = k.0;
        sided = sided_by (node_of N h) c (hidden_test (node_of N h) k.0) (G.base.tree.distinct h k.0) k.1;
        size = l;
        window = in_window (node_of N c) r u l;
        inside = omega arith;
      }

  -- a page below the size lies inside
  out_by : (c r : ℕ) (b : Bool) → hidden_of (node_of N c) ≡ b → r < (node_of N c).size → out_of (node_of N c) r ≡ false
  unfolding out_of
  out_by c r true k l = rw k (lt-leb (node_of N c).size r l)
  out_by c r false k l =
      split (equal (node_of N c).parent 0)
      (λ e. rw (k, eq-eqb (node_of N c).parent 0 e) (lt-leb (node_of N c).size r l))
      (λ ne.
      let q = G.windows.whole c ((node_of N c).parent - 1) (omega arith) in
      rw (k, ne_eqb (node_of N c).parent 0 ne) (lt-leb (node_of N c).parent_limit ((node_of N c).parent_offset + r) (omega arith)))

  pub not_out : (c r : ℕ) → r < (node_of N c).size → out_of (node_of N c) r ≡ false
  not_out c r l = out_by c r (hidden_of (node_of N c)) refl l

  pub lower : (c r : ℕ) → (links_of N).asks c r ≡ true → height c ≡ suc (height ((links_of N).par c))
  lower c r a = deeper N G.base c ((links_of N).par c) (asked c r a).parent

  pub leaf_kind : (n : ℕ) → Leaf N n → Hidden N n → ⊥
  leaf_kind n l h = let k : leaf_of (node_of N n) ≡ false = rw h in let z : ◌≡◌ {A = ℕ} 0 1 = cc in omega arith

  pub leaf_live : (n : ℕ) → Leaf N n → Live N n
  leaf_live n l h = let k : leaf_of (node_of N n) ≡ false = rw h in let z : ◌≡◌ {A = ℕ} 0 1 = cc in omega arith

  pub sized_live : (n r : ℕ) → r < (node_of N n).size → Live N n
  sized_live n r l k = let q = ap (λ (x : Node). x.size) (G.base.tree.blank n k) in omega arith
