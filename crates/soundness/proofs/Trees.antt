-- What the tests of the node table mean: the facts of the tree. Assumes nothing.
use mathlib.Core.Path.{◌≡◌, sym, ap, ◌∙◌}
use mathlib.Core.Bool.{◌&&◌}
use mathlib.Core.List.{List}
use mathlib.Core.Logic.{inl, inr, ⊎_elim}
use Prim.Native.Nat.{ℕ, zero, suc, ◌+◌, ◌-◌, ◌*◌, ◌≤◌, ◌<◌}
use native.Mathlib.Omega.{arith}
use native.Mathlib.Numerals.{add-one}
use lib.ListN.{length}
use Rattle.logic.specs.Below.{sum_below}
use Rattle.node.specs.declared.Node.{Node}
use Rattle.node.specs.Node.{free_node}
use Rattle.tables.specs.Tables.{node_of}
use Rattle.sound.specs.Tree.{linked_of, nodes_ok, chains_end, start_of, starts_sum, starts_ok}
use Rattle.sound.specs.Sound.{head_ok}
use Rattle.sound.specs.Facts.{Hidden, ChildOf, Names, Tree}
use Rattle.logic.proofs.Means.{Means, says, equal, most, less, then, both, split}
use Rattle.soundness.proofs.Records.{node_out, start_is, linked, no_link}
use Rattle.soundness.proofs.Nodes.{Numbers, Links, nodes_mean}
use Rattle.soundness.proofs.Sums.{sum_same}
use Rattle.soundness.proofs.Chains.{ends_mean}

module _ (N : List ℕ) (next : ℕ) (len : length N ≡ 1024) where
  starts_mean : 1 ≤ next → Means (starts_ok N next) (sum_below (λ n. (node_of N n).parent_offset) 64 ≤ 64 * (next - 1))
  unfolding starts_ok starts_sum start_of
  starts_mean pos =
      let e = sum_same (λ n. (node_of N n).parent_offset) (start_of N) 64 (start_is N len) in
      says (most (starts_sum N + 64) (64 * next)) (λ h. omega arith) (λ h. omega arith)

  module _ (nodes : (n : ℕ) → Numbers (node_of N n) next × Links N n (node_of N n)) where
    free : (n : ℕ) → (node_of N n).kind ≡ 0 → node_of N n ≡ free_node
    free n = let (((((((kind, blank), window), limit), size), owner), policy), count) = (nodes n).0 in blank

    -- a node that names a parent is live
    names : (h link : ℕ) → linked_of N link 1 ≡ h + 1 → Names N h link
    names h zero e = let z = no_link N 1 in absurd (omega arith)
    names h (suc n) e =
        let p = (linked N len n).parent in
        let q : linked_of N (n + 1) 1 ≡ h + 1 = rw (add-one n) e in
        record {
          node = n;
          linked = sym (add-one n);
          live = λ z. let f = ap (λ (r : Node). r.parent) (free n z) in omega arith;
          parent = omega arith;
        }

    parents : (n h : ℕ) → (node_of N n).parent ≡ h + 1 → Hidden N h × ChildOf N h n
    parents n h e =
        let l = linked N len h in
        let b = rw e at ((nodes n).1.1 (λ z. omega arith)) in
        (omega arith, ⊎_elim (λ x. inl (omega arith)) (λ x. inr (omega arith)) b.1)

    inside : (n h : ℕ) → (node_of N n).parent ≡ h + 1 → h < 64
    inside n h e =
        split (less h 64) (λ l. l)
        (λ out. let p = parents n h e in let f = ap (λ (r : Node). r.kind) (node_out N len h (omega arith)) in absurd (omega arith))

  -- and back

  module _ (t : Tree N next) where
    named : {h link : ℕ} → Names N h link → linked_of N link 1 ≡ h + 1
    named m = rw m.linked ((linked N len m.node).parent ∙ m.parent)

    owner : (n : ℕ) → (node_of N n).owner < next
    owner n = split (equal (node_of N n).kind 0) (λ z. rw (t.blank n z) t.next_least) (t.owners n)

    node_back : (n : ℕ) → Numbers (node_of N n) next × Links N n (node_of N n)
    node_back n = (
      (((((((t.kinds n, t.blank n), t.window n), t.window_size n), t.sizes n), owner n), t.policies n), t.counts n),
      ((
        (λ h. ((named (t.left_child n h), named (t.right_child n h)), t.distinct n h), t.childless n),
        λ ne.
            let h = (node_of N n).parent - 1 in
            let e : (node_of N n).parent ≡ h + 1 = omega arith in
            let p = t.parents n h e in
            let l = linked N len h in
            rw e (omega arith, ⊎_elim (λ x. inl (omega arith)) (λ x. inr (omega arith)) p.1),
      )),
    )

  pub tree_means : Means (head_ok next && nodes_ok N next && chains_end N && starts_ok N next) (Tree N next)
  tree_means =
      says
      (then (then (then (both (most 1 next) (most next 16777216)) (λ h. nodes_mean N next len h.0)) (λ h. ends_mean N len (inside h.1)))
      (λ h. starts_mean h.0.0.0))
      (λ ((((least, top), nodes), chains), starts).
      record {
        left_child = λ n h. names nodes n (node_of N n).left ((nodes n).1.0.0 h).0.0;
        right_child = λ n h. names nodes n (node_of N n).right ((nodes n).1.0.0 h).0.1;
        distinct = λ n h. ((nodes n).1.0.0 h).1;
        childless = λ n. (nodes n).1.0.1;
        parents = parents nodes;
        chains = chains;
        next_least = least;
        next_most = top;
        owners = λ n live. let q = (nodes n).0 in omega arith;
        starts = starts;
        window = λ n. let q = (nodes n).0 in omega arith;
        window_size = λ n. let q = (nodes n).0 in omega arith;
        sizes = λ n. let q = (nodes n).0 in omega arith;
        policies = λ n. let q = (nodes n).0 in omega arith;
        counts = λ n. let q = (nodes n).0 in omega arith;
        kinds = λ n. let q = (nodes n).0 in omega arith;
        blank = free nodes;
      })
      (λ t. ((((t.next_least, t.next_most), node_back t), t.chains), t.starts))
