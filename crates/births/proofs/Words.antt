-- What is read of the node table after one record was written. Assumes nothing.
use mathlib.Core.Path.{◌≡◌, ◌∙◌}
use mathlib.Core.Bool.{true, false}
use mathlib.Core.List.{List}
use Prim.Native.Nat.{ℕ, ◌+◌, ◌*◌, ◌≤◌, ◌<◌}
use native.Mathlib.Omega.{arith}
use lib.Dec.{eqb, ltb}
use lib.ListN.{length, length-set}
use lib.Seq.{get_or-set_same, get_or-set_other}
use borrow.Author.Tests.{eqb-false, ltb-true, le-leb}
use Rattle.node.specs.declared.Node.{Node}
use Rattle.tables.specs.Tables.{word_of, with_word, record_of, node_of, with_five, with_node}

word_length : (N : List ℕ) (i k v : ℕ) → length (with_word N i k v) ≡ length N
unfolding with_word
word_length N i k v = length-set N (i * 16 + k) v

pub node_length : (N : List ℕ) (i : ℕ) (r : Node) → length (with_node N i r) ≡ length N
unfolding with_node with_five
node_length N i r = simp word_length

-- the record lies inside the table
unfoldable Room : List ℕ → ℕ → Type 0
Room N i = i * 16 + 16 ≤ length N

room : (N : List ℕ) (i k v : ℕ) → Room N i → Room (with_word N i k v) i
unfolding Room
room N i k v h = rw word_length h

word_same : (N : List ℕ) (i k v : ℕ) → Room N i → ltb k 16 ≡ true → word_of (with_word N i k v) i k ≡ v
unfolding with_word word_of Room
word_same N i k v h b = let l = ltb-true k 16 b in get_or-set_same N (i * 16 + k) v 0 (omega arith)

word_other : (N : List ℕ) (i k l v : ℕ) → eqb l k ≡ false → word_of (with_word N i k v) i l ≡ word_of N i l
unfolding with_word word_of
word_other N i k l v h = get_or-set_other N (i * 16 + k) (i * 16 + l) v 0 (λ e. eqb-false l k h (omega arith))

word_away : (N : List ℕ) (i j k l v : ℕ) → (j ≡ i → ⊥) → k < 16 → l < 16 → word_of (with_word N i k v) j l ≡ word_of N j l
unfolding with_word word_of
word_away N i j k l v h a b = get_or-set_other N (i * 16 + k) (j * 16 + l) v 0 (λ e. h (omega arith))

five_away : (N : List ℕ) (i j f a b c d e : ℕ) → (j ≡ i → ⊥) → f < 11 → (l : ℕ) → l < 16 → word_of (with_five N i f a b c d e) j l ≡ word_of N j l
unfolding with_five
five_away N i j f a b c d e h m l k =
    word_away _ i j (f + 4) l e h (omega arith) k
    ∙ word_away _ i j (f + 3) l d h (omega arith) k
    ∙ word_away _ i j (f + 2) l c h (omega arith) k
    ∙ word_away _ i j (f + 1) l b h (omega arith) k
    ∙ word_away _ i j f l a h (omega arith) k

words_away : (N : List ℕ) (i j : ℕ) (r : Node) → (j ≡ i → ⊥) → (l : ℕ) → l < 16 → word_of (with_node N i r) j l ≡ word_of N j l
unfolding with_node
words_away N i j r h l k = five_away _ i j 5 _ _ _ _ _ h (omega arith) l k ∙ five_away N i j 0 _ _ _ _ _ h (omega arith) l k

pub node_away : (N : List ℕ) (i j : ℕ) (r : Node) → (j ≡ i → ⊥) → node_of (with_node N i r) j ≡ node_of N j
unfolding node_of record_of
node_away N i j r h =
    let w = words_away N i j r h in
    rw (node_length, w 0 (omega arith), w 1 (omega arith), w 2 (omega arith), w 3 (omega arith), w 4 (omega arith), w 5 (omega arith), w 6 (omega arith), w 7 (omega arith), w 8 (omega arith), w 9 (omega arith))

record_same : (N : List ℕ) (i : ℕ) (r : Node) → Room N i → record_of (with_node N i r) i ≡ r
unfolding with_node with_five record_of
record_same N i r r0 =
    let r1 = room _ i 0 r.kind r0 in
    let r2 = room _ i 1 r.parent r1 in
    let r3 = room _ i 2 r.left r2 in
    let r4 = room _ i 3 r.right r3 in
    let r5 = room _ i 4 r.parent_offset r4 in
    let r6 = room _ i 5 r.parent_limit r5 in
    let r7 = room _ i 6 r.size r6 in
    let r8 = room _ i 7 r.owner r7 in
    let r9 = room _ i 8 r.cache_policy r8 in
    simp (word_other, word_same)

pub node_same : (N : List ℕ) (i : ℕ) (r : Node) → length N ≡ 1024 → i < 64 → node_of (with_node N i r) i ≡ r
unfolding node_of Room
node_same N i r len l =
    let q = node_length N i r in
    rw (le-leb (i * 16 + 16) (length (with_node N i r)) (omega arith)) (record_same N i r (omega arith))
