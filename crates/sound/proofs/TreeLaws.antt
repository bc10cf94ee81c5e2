-- The links of a node, free nodes, and chains that have ended. Assumes nothing.
use mathlib.Core.Path.{◌≡◌, refl, sym, ◌∙◌}
use mathlib.Core.Bool.{Bool, true, false, ◌&&◌, ◌||◌, not, and_assoc}
use mathlib.Core.List.{List, [], ◌∷◌}
use Prim.Native.Nat.{ℕ, zero, suc, ◌+◌, ◌-◌, ◌*◌, ◌≤◌, ◌<◌}
use native.Mathlib.Omega.{arith}
use native.Mathlib.Numerals.{add-one}
use lib.Dec.{eqb, leb}
use lib.ListN.{length, length-set, get_or, set, replicate, get_or-eq_default}
use lib.Pointwise.{pointwise}
use lib.Seq.{get_or-set_other, get_or-set_same}
use Rattle.std.specs.List.{list_all}
use Rattle.std.proofs.lemmas.List.{ext_get_or}
use borrow.Author.Tests.{eq-eqb, ne_eqb, eqb-true, eqb-false, leb-false}
use Rattle.logic.proofs.Lists.{all_listed}
use Rattle.logic.specs.Pick.{pick}
use Rattle.logic.specs.Below.{all_below}
use Rattle.logic.proofs.Laws.{all_below_lem, below_all}
use Rattle.logic.proofs.Means.{Means, both, equal}
use Rattle.node.specs.declared.Node.{Node}
use Rattle.node.specs.Node.{node_by, free_node}
use Rattle.tables.specs.Tables.{word_of, record_of, node_of}
use Rattle.sound.specs.Tree.{blank_node, numbers_ok, linked_of, named_ok, below_ok, links_ok, node_ok, links_to, step_to, steps_up, none_at, chains_end}

-- lists that are written place by place, read

written : (l : List ℕ) (k v i : ℕ) → k < length l → get_or (set l k v) i 0 ≡ pick (eqb i k) v (get_or l i 0)
written l k v i h = by (eqb i k) refl
  where
    by : (b : Bool) → eqb i k ≡ b → get_or (set l k v) i 0 ≡ pick b v (get_or l i 0)
    by true t = let e = eqb-true i k t in rw (e, get_or-set_same)
    by false t = let e = eqb-false i k t in rw get_or-set_other

links_length : (nodes : List ℕ) (k : ℕ) → length (links_to nodes k) ≡ 65
unfolding links_to
links_length nodes zero = refl
links_length nodes (suc k) = simp length-set (links_length nodes k)

link_at : (nodes : List ℕ) (k l : ℕ) → l ≤ k → k ≤ 64 → get_or (links_to nodes k) l 0 ≡ linked_of nodes l 1
unfolding links_to linked_of
link_at nodes zero l a b = let e : l ≡ 0 = omega arith in rw e refl
link_at nodes (suc k) l a b =
    rw (written (links_to nodes k) (k + 1) (word_of nodes k 1) l (omega (arith, links_length nodes k))) (by (eqb l (k + 1)) refl (λ c. link_at nodes k l c (omega arith)))
  where
    by : (t : Bool) → eqb l (k + 1) ≡ t → (l ≤ k → get_or (links_to nodes k) l 0 ≡ linked_of nodes l 1) → pick t (word_of nodes k 1) (get_or (links_to nodes k) l 0) ≡ pick (eqb l 0) 0 (word_of nodes (l - 1) 1)
    by true t before = let e = eqb-true l (k + 1) t in let s : l - 1 ≡ k = omega arith in rw (ne_eqb l 0 (omega arith), s)
    by false t before = let e = eqb-false l (k + 1) t in before (omega arith)

pub links_are : (nodes up : List ℕ) → length up ≡ 65 → ((l : ℕ) → l < 65 → get_or up l 0 ≡ linked_of nodes l 1) → up ≡ links_to nodes 64
links_are nodes up e h = ext_get_or 0 up (links_to nodes 64) (e ∙ sym (links_length nodes 64)) (λ l m. h l (omega arith) ∙ sym (link_at nodes 64 l (omega arith) (omega arith)))

step_length : (up : List ℕ) (k : ℕ) → length (step_to up k) ≡ 65
unfolding step_to
step_length up zero = refl
step_length up (suc k) = simp length-set (step_length up k)

step_at : (up : List ℕ) (k l : ℕ) → l < k → k ≤ 65 → get_or (step_to up k) l 0 ≡ get_or up (get_or up l 0) 0
unfolding step_to
step_at up zero l a b = absurd (omega arith)
step_at up (suc k) l a b =
    rw (written (step_to up k) k (get_or up (get_or up k 0) 0) l (omega (arith, step_length up k))) (by (eqb l k) refl (λ c. step_at up k l c (omega arith)))
  where
    by : (t : Bool) → eqb l k ≡ t → (l < k → get_or (step_to up k) l 0 ≡ get_or up (get_or up l 0) 0) → pick t (get_or up (get_or up k 0) 0) (get_or (step_to up k) l 0) ≡ get_or up (get_or up l 0) 0
    by true t before = let e = eqb-true l k t in rw e refl
    by false t before = let e = eqb-false l k t in before (omega arith)

pub steps_are : (up out : List ℕ) → length out ≡ 65 → ((l : ℕ) → l < 65 → get_or out l 0 ≡ get_or up (get_or up l 0) 0) → out ≡ step_to up 65
steps_are up out e h = ext_get_or 0 out (step_to up 65) (e ∙ sym (step_length up 65)) (λ l m. h l (omega arith) ∙ sym (step_at up 65 l (omega arith) (omega arith)))

pub steps_length : (nodes : List ℕ) (r : ℕ) → length (steps_up r (links_to nodes 64)) ≡ 65
unfolding steps_up
steps_length nodes zero = links_length nodes 64
steps_length nodes (suc r) = step_length (steps_up r (links_to nodes 64)) 65

pub steps_next : (s up : List ℕ) (r : ℕ) {out : List ℕ} → up ≡ steps_up r s → out ≡ step_to up 65 → out ≡ steps_up (r + 1) s
unfolding steps_up
steps_next s up r p q = q ∙ rw (add-one, p)

zeros_all : (xs : List ℕ) (n : ℕ) → length xs ≡ n → pointwise eqb xs (replicate n 0) ≡ list_all (λ x. eqb x 0) xs
zeros_all [] zero e = refl
zeros_all [] (suc n) e = absurd (omega arith)
zeros_all (x ∷ xs) zero e = absurd (omega arith)
zeros_all (x ∷ xs) (suc n) e = rw (zeros_all xs n (omega arith))

-- an array that is all 0 by its equality
pub none_left : (xs : List ℕ) → length xs ≡ 65 → pointwise eqb xs (replicate 65 0) ≡ all_below (none_at xs) 65
none_left xs e = zeros_all xs 65 e ∙ all_listed (λ x. eqb x 0) xs 0 e

pub links_by : (nodes : List ℕ) (i : ℕ) (n : Node) {c p : Bool} → c ≡ pick (eqb n.kind 3) (named_ok nodes i n) (eqb n.left 0 && eqb n.right 0) → p ≡ pick (eqb n.parent 0) true (below_ok nodes i n) → (c && p) ≡ links_ok nodes i n
unfolding links_ok
links_by nodes i n h k = rw (h, k) (by (eqb n.kind 3) (named_ok nodes i n) (eqb n.left 0 && eqb n.right 0) (eqb n.parent 0) (below_ok nodes i n))
  where
    by : (a x y b z : Bool) → (pick a x y && pick b true z) ≡ ((a && x || not a && y) && (b || z))
    by true true y true z = refl
    by true true y false z = refl
    by true false y b z = refl
    by false x y true z = refl
    by false x y false z = refl

-- a record is its words: one past the table's end is free, and its words are 0

module _ (nodes : List ℕ) (len : length nodes ≡ 1024) where
  pub word_out : (n k : ℕ) → 64 ≤ n → word_of nodes n k ≡ 0
  unfolding word_of
  word_out n k l = get_or-eq_default nodes 0 (omega arith)

  pub node_is : (n : ℕ) → node_of nodes n ≡ record_of nodes n
  unfolding node_of record_of
  node_is n = by (leb (n * 16 + 16) (length nodes)) refl
    where
      by : (b : Bool) → leb (n * 16 + 16) (length nodes) ≡ b → pick b (record_of nodes n) free_node ≡ record_of nodes n
      by true t = refl
      by false t = let l : 64 ≤ n = let q = leb-false (n * 16 + 16) (length nodes) t in omega arith in simp word_out

  pub parent_by : (i : ℕ) (n : Node) {p : Node} → (n.parent ≡ 0 → ⊥) → p ≡ node_of nodes (n.parent - 1) → (eqb p.kind 3 && (eqb p.left (i + 1) || eqb p.right (i + 1))) ≡ pick (eqb n.parent 0) true (below_ok nodes i n)
  unfolding below_ok linked_of record_of
  parent_by i n h e = rw (e, node_is (n.parent - 1), ne_eqb n.parent 0 h)

-- a free node: blank, and nothing else to test

blank_by : (k p l r s e z o c n : ℕ) → k ≡ 0 → p ≡ 0 → l ≡ 0 → r ≡ 0 → s ≡ 0 → e ≡ 0 → z ≡ 0 → o ≡ 0 → c ≡ 0 → n ≡ 0 → node_by k p l r s e z o c n ≡ free_node
blank_by k p l r s e z o c n h₀ h₁ h₂ h₃ h₄ h₅ h₆ h₇ h₈ h₉ = cc

pub blank_means : (r : Node) → r.kind ≡ 0 → Means (blank_node r) (r ≡ free_node)
blank_means r z =
    let m =
    both (both (both (both (both (both (both (both (equal r.parent 0) (equal r.left 0)) (equal r.right 0)) (equal r.parent_offset 0))
    (equal r.parent_limit 0)) (equal r.size 0)) (equal r.owner 0)) (equal r.cache_policy 0)) (equal r.pin_count 0) in
    record { fact = λ h. let ((((((((a, b), c), d), e), f), g), i), j) = m.fact h in blank_by _ _ _ _ _ _ _ _ _ _ z a b c d e f g i j; test = λ e. rw e }

-- a record is the free one, as derived
abbrev same_free : Node → Node → Bool
same_free n m =
    eqb n.kind m.kind && (eqb n.parent m.parent && (eqb n.left m.left && (eqb n.right m.right && (eqb n.parent_offset m.parent_offset
    && (eqb n.parent_limit m.parent_limit && (eqb n.size m.size && (eqb n.owner m.owner && (eqb n.cache_policy m.cache_policy && eqb n.pin_count m.pin_count))))))))

free_same : (n : Node) {m : Node} → n.kind ≡ 0 → m ≡ free_node → same_free n m ≡ blank_node n
free_same n k e = rw (e, k) (simp and_assoc)

blank_node_lem : (nodes : List ℕ) (next i : ℕ) (n : Node) → n ≡ free_node → (blank_node n && leb 1 next) ≡ (numbers_ok n next && links_ok nodes i n)
unfolding numbers_ok links_ok
blank_node_lem nodes next i n e = rw e (by (leb 1 next))
  where
    by : (b : Bool) → b ≡ (b && true && true && true)
    by true = refl
    by false = refl

free_by : (nodes : List ℕ) (next i : ℕ) (n : Node) (b : Bool) → blank_node n ≡ b → n.kind ≡ 0 → (blank_node n && leb 1 next) ≡ (numbers_ok n next && links_ok nodes i n)
unfolding numbers_ok
free_by nodes next i n true t k = blank_node_lem nodes next i n ((blank_means n k).fact t)
free_by nodes next i n false t k = rw (t, k)

pub free_node_lem : (nodes : List ℕ) (next i : ℕ) {n m : Node} {b : Bool} → n ≡ node_of nodes i → n.kind ≡ 0 → m ≡ free_node → b ≡ same_free n m → (b && leb 1 next) ≡ node_ok nodes next i
unfolding node_ok
free_node_lem nodes next i {n} e k f h = rw (h, free_same n k f, ← e) (free_by nodes next i n (blank_node n) refl k)

-- chains that have all ended stay so

ended_next : (up : List ℕ) → all_below (none_at up) 65 ≡ true → all_below (none_at (step_to up 65)) 65 ≡ true
ended_next up h =
    let none : (i : ℕ) → i < 65 → get_or up i 0 ≡ 0 = λ i l. eqb-true _ _ (all_below_lem (none_at up) 65 h i l) in
    below_all (none_at (step_to up 65)) 65
    (λ i l. eq-eqb _ _ (step_at up 65 i l (omega arith) ∙ rw (none i l) (none 0 (omega arith))))

ended_by : (k r : ℕ) (up : List ℕ) → all_below (none_at (steps_up r up)) 65 ≡ true → all_below (none_at (steps_up (k + r) up)) 65 ≡ true
unfolding steps_up
ended_by zero r up h = let e : 0 + r ≡ r = omega arith in rw e h
ended_by (suc k) r up h = let e : suc k + r ≡ suc (k + r) = omega arith in rw e (ended_next (steps_up (k + r) up) (ended_by k r up h))

pub ended : (nodes : List ℕ) (r : ℕ) {b : Bool} → r ≤ 6 → b ≡ all_below (none_at (steps_up r (links_to nodes 64))) 65 → b ≡ true → true ≡ chains_end nodes
unfolding chains_end
ended nodes r l e t =
    let h = ended_by (6 - r) r (links_to nodes 64) (sym e ∙ t) in
    let s : 6 - r + r ≡ 6 = omega arith in
    sym (rw s at h)
