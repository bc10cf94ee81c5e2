-- Every parent chain ends exactly if no link has a 64th parent: a chain that ends is no longer than there are nodes. Assumes nothing.
use mathlib.Core.Path.{◌≡◌, refl, sym, ap, ◌∙◌}
use mathlib.Core.List.{List}
use Prim.Native.Nat.{ℕ, zero, suc, ◌+◌, ◌-◌, ◌≤◌, ◌<◌, min}
use native.Mathlib.Omega.{arith}
use native.Mathlib.Numerals.{add-one}
use lib.ListN.{length}
use Rattle.logic.specs.Below.{sum_below}
use Rattle.node.specs.declared.Node.{Node}
use Rattle.tables.specs.Tables.{node_of}
use Rattle.sound.specs.Tree.{linked_of, chains_end}
use Rattle.sound.specs.Facts.{Ends}
use Rattle.sound.specs.Facts.Ends.{none, up}
use Rattle.logic.proofs.Means.{Means, says, equal, less, split}
use Rattle.soundness.proofs.Records.{node_out, linked}
use Rattle.soundness.proofs.Sums.{sum_most, sum_less}
use Rattle.soundness.proofs.Ancestors.{above, above-none, above_add, chains_mean}

-- how many nodes a chain has

height : {N : List ℕ} {l : ℕ} → Ends N l → ℕ
height (none e) = 0
height (up n e t) = suc (height t)

height_same : {N : List ℕ} {l m : ℕ} (t : Ends N l) (u : Ends N m) → l ≡ m → height t ≡ height u
unfolding height
height_same (none a) (none b) e = refl
height_same (none a) (up k b u) e = absurd (omega arith)
height_same (up n a t) (none b) e = absurd (omega arith)
height_same {N} (up n a t) (up k b u) e = ap suc (height_same t u (ap (λ (n : ℕ). (node_of N n).parent) (omega arith)))

module _ (N : List ℕ) (len : length N ≡ 1024) where
  parent_is : (n : ℕ) → linked_of N (n + 1) 1 ≡ (node_of N n).parent
  parent_is n = (linked N len n).parent

  ends_by : (k l : ℕ) → above N k l ≡ 0 → Ends N l
  unfolding above
  ends_by zero l e = none e
  ends_by (suc k) zero e = none refl
  ends_by (suc k) (suc n) e = up n (sym (add-one n)) (rw (← add-one n, parent_is n) at (ends_by k (linked_of N (suc n) 1) e))

  height_above : {l : ℕ} (t : Ends N l) → above N (height t) l ≡ 0
  unfolding above height
  height_above (none e) = e
  height_above (up n e t) = ap (λ (l : ℕ). above N (height t) (linked_of N l 1)) e ∙ ap (above N (height t)) (parent_is n) ∙ height_above t

  module _ (inside : (n h : ℕ) → (node_of N n).parent ≡ h + 1 → h < 64) (chains : (n : ℕ) → Ends N (n + 1)) where
    pub rank : ℕ → ℕ
    rank n = height (chains n)

    pub rank_root : (n : ℕ) → (node_of N n).parent ≡ 0 → rank n ≡ 1
    unfolding rank height
    rank_root n e = height_same (chains n) (up n refl (none e)) refl

    pub rank_up : (n h : ℕ) → (node_of N n).parent ≡ h + 1 → rank n ≡ suc (rank h)
    unfolding rank height
    rank_up n h e =
        let t : Ends N (node_of N n).parent = rw e (chains h) in
        height_same (chains n) (up n refl t) refl ∙ ap suc (height_same t (chains h) e)

    depth : (k n : ℕ) → n < 64 → rank n ≡ k → k ≤ sum_below (λ j. min 1 (suc k - rank j)) 64
    depth zero n l e = omega arith
    depth (suc k) n l e =
        let s = sum_less (λ j. min 1 (suc k - rank j)) (λ j. min 1 (suc (suc k) - rank j)) 64 n (λ j. omega arith) (omega arith) l in
        split (equal (node_of N n).parent 0)
        (λ z. let q = rank_root n z in omega arith)
        (λ ne.
        let h = (node_of N n).parent - 1 in
        let p : (node_of N n).parent ≡ h + 1 = omega arith in
        let q = rank_up n h p in
        let d = depth k h (inside n h p) (omega arith) in
        omega arith)

    pub rank_most : (n : ℕ) → rank n ≤ 64
    rank_most n =
        split (less n 64)
        (λ l. let d = depth (rank n) n l refl in let q = sum_most (λ j. min 1 (suc (rank n) - rank j)) 1 64 (λ j. omega arith) in omega arith)
        (λ out. let q = rank_root n (ap (λ (r : Node). r.parent) (node_out N len n (omega arith))) in omega arith)

    none_above : (l : ℕ) → above N 64 l ≡ 0
    unfolding rank
    none_above zero = above-none N 64
    none_above (suc n) =
        let q = rank_most n in
        let e : rank n + (64 - rank n) ≡ 64 = omega arith in
        rw (← e, ← add-one n) (above_add N (rank n) (64 - rank n) (n + 1) ∙ ap (above N (64 - rank n)) (height_above (chains n)) ∙ above-none N (64 - rank n))

  pub ends_mean : ((n h : ℕ) → (node_of N n).parent ≡ h + 1 → h < 64) → Means (chains_end N) ((n : ℕ) → Ends N (n + 1))
  ends_mean inside = says (chains_mean N len) (λ a n. ends_by 64 (n + 1) (a (n + 1))) (none_above inside)
