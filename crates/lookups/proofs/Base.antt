-- A sound pool's nodes, whatever their windows; and the entries after a frame was taken and given back. Assumes nothing.
use mathlib.Core.Path.{◌≡◌, sym, ap, ◌∙◌}
use mathlib.Core.Bool.{true, not}
use mathlib.Core.List.{List}
use Prim.Native.Nat.{◌≤◌, ℕ, suc, ◌+◌, ◌-◌, ◌<◌}
use native.Mathlib.Omega.{arith}
use lib.Dec.{eqb}
use lib.ListN.{length, get_or, set, length-set}
use lib.Seq.{get_or-set_same, get_or-set_other}
use borrow.Author.Tests.{eqb-false, eq-eqb, leb-false, not-true}
use Rattle.logic.proofs.Means.{equal, less, split}
use Rattle.logic.proofs.Laws.{and_left, and_right}
use Rattle.node.specs.declared.Node.{Node}
use Rattle.node.specs.Node.{out_of}
use Rattle.tables.specs.Tables.{node_of}
use Rattle.lookup.specs.Mode.{asks_by}
use Rattle.sound.specs.Facts.{Live, Hidden, Tree, Entries}
use Rattle.soundness.proofs.Records.{node_out}
use Rattle.soundness.proofs.Chains.{rank, rank_up, rank_most}
use Rattle.lookups.proofs.Frames.{Idle}

pub record Base (N : List ℕ) : Type 0 where
  pub next : ℕ
  pub len : length N ≡ 1024
  pub tree : Tree N next

module _ (N : List ℕ) (B : Base N) where
  pub live_low : (n : ℕ) → Live N n → n < 64
  live_low n live = split (less n 64) (λ l. l) (λ out. absurd (live (ap (λ (r : Node). r.kind) (node_out N B.len n (omega arith)))))

  inside_by : (n h : ℕ) → (node_of N n).parent ≡ h + 1 → h < 64
  inside_by n h e = let k = (B.tree.parents n h e).0 in live_low h (λ z. omega arith)

  -- how many nodes a chain has
  pub depth : ℕ → ℕ
  depth n = rank N B.len inside_by B.tree.chains n

  pub depth_most : (n : ℕ) → depth n ≤ 64
  unfolding depth
  depth_most n = rank_most N B.len inside_by B.tree.chains n

  pub deeper : (n h : ℕ) → (node_of N n).parent ≡ h + 1 → depth n ≡ suc (depth h)
  unfolding depth
  deeper n h e = rank_up N B.len inside_by B.tree.chains n h e

  -- a page below its node's size has a place in the table
  pub page_low : (n i : ℕ) → i < (node_of N n).size → i < 64
  page_low n i l = let s = B.tree.sizes n in omega arith

  pub node_low : (n i : ℕ) → i < (node_of N n).size → n < 64
  node_low n i l = live_low n (λ z. let q = ap (λ (r : Node). r.size) (B.tree.blank n z) in omega arith)

  -- a page that asks the parent has one
  pub asked_parent : (n i : ℕ) → asks_by (node_of N n) (out_of (node_of N n) i) ≡ true → (node_of N n).parent ≡ (node_of N n).parent - 1 + 1
  asked_parent n i a =
      let x = not (eqb (node_of N n).parent 0) in
      let q = eqb-false (node_of N n).parent 0 (not-true _ (and_left x _ a)) in
      omega arith

  -- and of a hidden node it lies below its size
  pub asked_low : (n i : ℕ) → Hidden N n → asks_by (node_of N n) (out_of (node_of N n) i) ≡ true → i < (node_of N n).size
  unfolding out_of
  asked_low n i h a =
      let x = not (eqb (node_of N n).parent 0) in
      let o = not-true (out_of (node_of N n) i) (and_right x _ a) in
      leb-false (node_of N n).size i (rw (eq-eqb (node_of N n).kind 3 h) at o)

-- flags that read the same
module _ {N P U U' : List ℕ} (e : Entries N P U) (size : length U' ≡ length U) (same : (f : ℕ) → get_or U' f 0 ≡ get_or U f 0) where
  entries_same : Entries N P U'
  entries_same =
      record {
        once = e.once;
        stands = λ f l u. e.stands f (rw size at l) (sym (same f) ∙ u);
        in_use = λ n i s h. same s.frame ∙ e.in_use n i s h;
        leaves = e.leaves;
        below = e.below;
        pins = e.pins;
        hidden_pins = e.hidden_pins;
        pin_sum = e.pin_sum;
        frames = λ n i s h. rw size (e.frames n i s h);
        flags = λ f. rw (same f) (e.flags f);
        empty = e.empty;
        held = e.held;
      }

-- a free frame is taken and given back
pub entries_back : {N P U : List ℕ} {f : ℕ} → Entries N P U → Idle U f → Entries N P (set (set U f 1) f 0)
entries_back {N} {P} {U} {f} e i =
    let a = length-set U f 1 in
    let b = length-set (set U f 1) f 0 in
    let l = i.below in
    entries_same e (b ∙ a)
    (λ g.
    split (equal g f)
    (λ d. rw d (get_or-set_same (set U f 1) f 0 0 (omega arith) ∙ sym i.flag))
    (λ ne. get_or-set_other (set U f 1) f g 0 0 ne ∙ get_or-set_other U f g 1 0 ne))
