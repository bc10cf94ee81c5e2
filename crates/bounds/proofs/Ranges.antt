-- A range change goes down at most as far as chains go up: 64 steps do what any more do. Assumes nothing.
use mathlib.Core.Path.{◌≡◌, refl, sym, ap, ◌∙◌}
use mathlib.Core.Bool.{Bool, true, false}
use mathlib.Core.List.{List}
use Prim.Native.Nat.{ℕ, zero, suc, ◌+◌, ◌-◌}
use native.Mathlib.Omega.{arith}
use lib.Dec.{ltb}
use borrow.Author.Tests.{eqb-true, ne_eqb}
use Rattle.logic.specs.Pick.{pick}
use Rattle.node.specs.Node.{hidden_of}
use Rattle.tables.specs.Pool.{Pool}
use Rattle.tables.specs.Tables.{node_of}
use Rattle.outcome.specs.Told.{Told}
use Rattle.notices.specs.Notices.{tell_object, low_in, high_in, child_of, range_change}
use Rattle.sound.specs.Facts.{Hidden, Names, Tree, Sound}
use Rattle.soundness.proofs.Ancestors.{above}
use Rattle.lookups.proofs.Chain.{Short, sound-short, above-next}

-- the node that a link names

pub child_is : (n : ℕ) → child_of (n + 1) ≡ n
unfolding child_of
child_is n = let e : n + 1 - 1 ≡ n = omega arith in rw (ne_eqb (n + 1) 0 (λ z. omega arith), e)

abbrev pub Under : List ℕ → ℕ → ℕ → Type 0
Under N h c = (node_of N c).parent ≡ h + 1

pub named_under : {N : List ℕ} {h link : ℕ} → Names N h link → Under N h (child_of link)
named_under m = rw (m.linked, child_is m.node) m.parent

pub named_link : {N : List ℕ} {h link : ℕ} → Names N h link → link ≡ child_of link + 1
named_link m = rw (m.linked, child_is m.node)

module _ {N : List ℕ} (s : Short N) {next : ℕ} (tree : Tree N next) (M : List ℕ) (op : ℕ) (j : ℕ) where
  abbrev Enough : ℕ → ℕ → Type 0
  Enough k node = (lo hi : ℕ) (t : Told) → range_change k N M node lo hi op t ≡ range_change (k + j) N M node lo hi op t

  step_enough : (k node : ℕ) → (Hidden N node → (c : ℕ) → Under N node c → Enough k c) → Enough (suc k) node
  unfolding range_change
  step_enough k node ih lo hi t =
      let n = node_of N node in
      let a = low_in n lo - n.parent_offset in
      let e = high_in n hi - n.parent_offset in
      let told = tell_object M t 64 node a e op in
      let q : suc k + j ≡ suc (k + j) = omega arith in
      rw q (ap (λ (x : Told). pick (ltb (low_in n lo) (high_in n hi)) x t) (by a e told (hidden_of n) refl))
    where
      two : (m : ℕ) (a e : ℕ) (told : Told) → Told
      two m a e told = range_change m N M (child_of (node_of N node).right) a e op (range_change m N M (child_of (node_of N node).left) a e op told)

      by : (a e : ℕ) (told : Told) (b : Bool) → hidden_of (node_of N node) ≡ b → pick b (two k a e told) told ≡ pick b (two (k + j) a e told) told
      by a e told true t =
          let h = eqb-true _ _ t in
          ap (range_change k N M (child_of (node_of N node).right) a e op) (ih h _ (named_under (tree.left_child node h)) a e told)
          ∙ ih h _ (named_under (tree.right_child node h)) a e _
      by a e told false t = refl

  -- d steps down from where the change began, k more are left

  down_enough : (k d node : ℕ) → d + k ≡ 64 → (above N d (node + 1) ≡ 0 → ⊥) → Enough k node
  down_enough zero d node e deep = absurd (deep (let q : d ≡ 64 = omega arith in rw q (s.ends (node + 1))))
  down_enough (suc k) d node e deep =
      step_enough k node (λ h c u. down_enough k (suc d) c (omega arith) (λ z. deep (rw (← u) (sym (above-next s d c) ∙ z))))

pub range_enough : (L : ℕ) (p : Pool) → Sound L p → (k : ℕ) (M : List ℕ) (node lo hi : ℕ) (op : ℕ) (t : Told) → range_change 64 p.nodes M node lo hi op t ≡ range_change (64 + k) p.nodes M node lo hi op t
unfolding above
range_enough L p sound k M node lo hi op t = down_enough (sound-short L p sound) sound.tree M op k 64 0 node (omega arith) (λ z. omega arith) lo hi t
