-- What is read of tables of full length: records and rows past the last are blank, and a field is its word. Assumes nothing.
use mathlib.Core.Path.{◌≡◌, refl, sym, ap, ◌∙◌}
use mathlib.Core.List.{List}
use Prim.Native.Nat.{ℕ, ◌+◌, ◌-◌, ◌*◌, ◌≤◌, ◌<◌}
use native.Mathlib.Omega.{arith}
use lib.ListN.{length, get_or, get_or-eq_default}
use borrow.Author.Tests.{lt-leb, lt-ltb, le-ltb, ne_eqb}
use Rattle.node.specs.declared.Node.{Node}
use Rattle.node.specs.Node.{free_node}
use Rattle.tables.specs.Tables.{word_of, record_of, node_of, entry_of}
use Rattle.sound.specs.Tree.{linked_of}
use Rattle.sound.proofs.TreeLaws.{node_is}
use Rattle.logic.proofs.Means.{less, split}

-- what a link to node n reads there

pub linked_word : (N : List ℕ) (n k : ℕ) → linked_of N (n + 1) k ≡ word_of N n k
unfolding linked_of
linked_word N n k = let e : n + 1 - 1 ≡ n = omega arith in rw (ne_eqb (n + 1) 0 (λ z. omega arith), e)

pub no_link : (N : List ℕ) (k : ℕ) → linked_of N 0 k ≡ 0
unfolding linked_of
no_link N k = refl

pub record Linked (N : List ℕ) (n : ℕ) : Type 0 where
  pub kind : linked_of N (n + 1) 0 ≡ (node_of N n).kind
  pub parent : linked_of N (n + 1) 1 ≡ (node_of N n).parent
  pub left : linked_of N (n + 1) 2 ≡ (node_of N n).left
  pub right : linked_of N (n + 1) 3 ≡ (node_of N n).right

module _ (N : List ℕ) (len : length N ≡ 1024) where
  pub node_out : (n : ℕ) → 64 ≤ n → node_of N n ≡ free_node
  unfolding node_of
  node_out n l = rw (lt-leb (n * 16 + 16) (length N) (omega arith))

  pub start_is : (n : ℕ) → (node_of N n).parent_offset ≡ word_of N n 4
  unfolding record_of
  start_is n = ap (λ (r : Node). r.parent_offset) (node_is N len n)

  pub linked : (n : ℕ) → Linked N n
  unfolding record_of
  linked n =
      let e = node_is N len n in
      record {
        kind = linked_word N n 0 ∙ sym (ap (λ (r : Node). r.kind) e);
        parent = linked_word N n 1 ∙ sym (ap (λ (r : Node). r.parent) e);
        left = linked_word N n 2 ∙ sym (ap (λ (r : Node). r.left) e);
        right = linked_word N n 3 ∙ sym (ap (λ (r : Node). r.right) e);
      }

-- page entries

pub entry_is : (P : List ℕ) (n i : ℕ) → i < 64 → entry_of P n i ≡ get_or P (n * 64 + i) 0
unfolding entry_of
entry_is P n i l = rw (lt-ltb i 64 l)

pub entry_past : (P : List ℕ) (n i : ℕ) → 64 ≤ i → entry_of P n i ≡ 0
unfolding entry_of
entry_past P n i l = rw (le-ltb i 64 l)

pub entry_out : (P : List ℕ) → length P ≡ 4096 → (n i : ℕ) → 64 ≤ n → entry_of P n i ≡ 0
entry_out P len n i l = split (less i 64) (λ k. entry_is P n i k ∙ get_or-eq_default P 0 (omega arith)) (λ out. entry_past P n i (omega arith))
