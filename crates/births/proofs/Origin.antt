-- A free node becomes an object without parent: the facts of a sound pool are kept. Assumes nothing.
use mathlib.Core.Path.{◌≡◌, refl, sym, ap, ◌∙◌, subst}
use mathlib.Core.Bool.{false}
use mathlib.Core.List.{List}
use Prim.Native.Nat.{ℕ, ◌+◌, ◌≤◌, ◌<◌}
use native.Mathlib.Omega.{arith}
use Rattle.logic.specs.Below.{sum_below}
use Rattle.logic.proofs.Means.{equal, split}
use Rattle.entry.specs.declared.PageState.{PageState}
use Rattle.node.specs.declared.Node.{Node}
use Rattle.node.specs.Node.{last_owner, free_node, origin_node, leaf_of}
use Rattle.tables.specs.Tables.{node_of, mapping_of}
use Rattle.sound.specs.Facts.{Live, Hidden, Leaf, Names, Ends, Tree, Holds, Entries, Mappings}
use Rattle.sound.specs.Facts.Ends.{none, up}
use Rattle.soundness.proofs.Sums.{sum_same}

-- node i was free, and is an object of so many pages; next is the next owner number, which it has
pub record Sprung (N N' : List ℕ) (next i size : ℕ) : Type 0 where
  pub free : (node_of N i).kind ≡ 0
  pub small : size ≤ 64
  pub at_new : node_of N' i ≡ origin_node size next
  pub at_old : (n : ℕ) → (n ≡ i → ⊥) → node_of N' n ≡ node_of N n

module _ (N N' : List ℕ) (next i size : ℕ) (s : Sprung N N' next i size) (t : Tree N next) where
  pub was_free : node_of N i ≡ free_node
  was_free = t.blank i s.free

  -- what holds of the new record and of each old one
  pub each : (B : Node → Type 0) (n : ℕ) → B (origin_node size next) → ((n ≡ i → ⊥) → B (node_of N n)) → B (node_of N' n)
  each B n x y =
      split (equal n i)
      (λ e. subst B (sym (ap (λ (m : ℕ). node_of N' m) e ∙ s.at_new)) x)
      (λ ne. subst B (sym (s.at_old n ne)) (y ne))

  pub live_not : (n : ℕ) → Live N n → n ≡ i → ⊥
  live_not n live e = live (ap (λ (m : ℕ). (node_of N m).kind) e ∙ s.free)

  pub hidden_not : (n : ℕ) → Hidden N n → n ≡ i → ⊥
  hidden_not n h = live_not n (λ z. omega arith)

  -- a hidden node after it was one before
  hidden_old : {A : Type 0} (n : ℕ) → Hidden N' n → ((n ≡ i → ⊥) → Hidden N n → A) → A
  hidden_old n h f =
      split (equal n i)
      (λ e. let k = ap (λ (m : ℕ). (node_of N' m).kind) e ∙ ap (λ (r : Node). r.kind) s.at_new in absurd (omega arith))
      (λ ne. f ne (sym (ap (λ (r : Node). r.kind) (s.at_old n ne)) ∙ h))

  -- and so was one with a parent
  pub parent_old : {A : Type 0} (n h : ℕ) → (node_of N' n).parent ≡ h + 1 → ((n ≡ i → ⊥) → (node_of N n).parent ≡ h + 1 → A) → A
  parent_old n h p f =
      split (equal n i)
      (λ e. let k = ap (λ (m : ℕ). (node_of N' m).parent) e ∙ ap (λ (r : Node). r.parent) s.at_new in absurd (omega arith))
      (λ ne. f ne (sym (ap (λ (r : Node). r.parent) (s.at_old n ne)) ∙ p))

  names : (h link : ℕ) → Names N h link → Names N' h link
  names h link m =
      let e = s.at_old m.node (live_not m.node m.live) in
      record { node = m.node; linked = m.linked; live = rw e m.live; parent = rw e m.parent }

  ends_old : {l : ℕ} → (l ≡ i + 1 → ⊥) → Ends N l → Ends N' l
  ends_old ne (none e) = none e
  ends_old ne (up m e d) =
      let o : m ≡ i → ⊥ = λ q. ne (omega arith) in
      let q : (node_of N m).parent ≡ i + 1 → ⊥ = λ p. hidden_not i (t.parents m i p).0 refl in
      up m e (rw (s.at_old m o) (ends_old q d))

  chain : (n : ℕ) → Ends N' (n + 1)
  chain n =
      split (equal n i)
      (λ e. up n refl (none {link = (node_of N' n).parent} (rw (e, s.at_new))))
      (λ ne. ends_old (λ q. ne (omega arith)) (t.chains n))

  starts_same : sum_below (λ n. (node_of N' n).parent_offset) 64 ≡ sum_below (λ n. (node_of N n).parent_offset) 64
  starts_same =
      sum_same (λ n. (node_of N' n).parent_offset) (λ n. (node_of N n).parent_offset) 64
      (λ n.
      split (equal n i)
      (λ e. rw (e, s.at_new, was_free))
      (λ ne. ap (λ (r : Node). r.parent_offset) (s.at_old n ne)))

  pub new_tree : next ≤ last_owner → Tree N' (next + 1)
  new_tree most =
      record {
        left_child = λ n h. hidden_old n h (λ ne k. rw (s.at_old n ne) (names n (node_of N n).left (t.left_child n k)));
        right_child = λ n h. hidden_old n h (λ ne k. rw (s.at_old n ne) (names n (node_of N n).right (t.right_child n k)));
        distinct = λ n h. hidden_old n h (λ ne k. rw (s.at_old n ne) (t.distinct n k));
        childless = λ n. each (λ r. (r.kind ≡ 3 → ⊥) → (r.left ≡ 0) × (r.right ≡ 0)) n (λ h. (refl, refl)) (λ ne. t.childless n);
        parents = λ n h e. parent_old n h e (λ ne p. let q = t.parents n h p in rw (s.at_old h (hidden_not h q.0)) q);
        chains = chain;
        next_least = omega arith;
        next_most = omega arith;
        owners = λ n. each (λ r. (r.kind ≡ 0 → ⊥) → r.owner < next + 1) n (λ h. omega arith) (λ ne h. let q = t.owners n h in omega arith);
        starts = let q = starts_same in let o = t.starts in let l = t.next_least in omega arith;
        window = λ n. each (λ r. r.parent_offset ≤ r.parent_limit) n (omega arith) (λ ne. t.window n);
        window_size = λ n. each (λ r. r.parent_limit ≤ r.parent_offset + r.size) n (omega arith) (λ ne. t.window_size n);
        sizes = λ n. each (λ r. r.size ≤ 64) n s.small (λ ne. t.sizes n);
        policies = λ n. each (λ r. r.cache_policy ≤ 3) n (omega arith) (λ ne. t.policies n);
        counts = λ n. each (λ r. r.pin_count ≤ 4294967295) n (omega arith) (λ ne. t.counts n);
        kinds = λ n. each (λ r. r.kind ≤ 3) n (omega arith) (λ ne. t.kinds n);
        blank = λ n. each (λ r. r.kind ≡ 0 → r ≡ free_node) n (λ z. absurd (omega arith)) (λ ne. t.blank n);
      }

  module _ (P U : List ℕ) (o : Entries N P U) where
    pub no_entry : (n j : ℕ) (e : PageState) → Holds P n j e → n ≡ i → ⊥
    no_entry n j e h q =
        let l = o.below n j e h in
        let z : (node_of N n).size ≡ 0 = rw (q, was_free) in
        omega arith

    pub new_entries : Entries N' P U
    new_entries =
        record {
          once = o.once;
          stands = o.stands;
          in_use = o.in_use;
          leaves = λ n j e k h. o.leaves n j e (rw (s.at_old n (no_entry n j e h)) at k) h;
          below = λ n j e h. rw (s.at_old n (no_entry n j e h)) (o.below n j e h);
          pins = o.pins;
          hidden_pins = λ n j e k h. o.hidden_pins n j e (rw (s.at_old n (no_entry n j e h)) at k) h;
          pin_sum = λ n.
              split (equal n i)
              (λ e. let q = o.pin_sum n in let z : (node_of N n).pin_count ≡ 0 = rw (e, was_free) in omega arith)
              (λ ne. rw (s.at_old n ne) (o.pin_sum n));
          frames = o.frames;
          flags = o.flags;
          empty = o.empty;
          held = o.held;
        }

  leaf_kept : (n : ℕ) → Leaf N n → Leaf N' n
  leaf_kept n l =
      let k : n ≡ i → ⊥ = λ e. let q : leaf_of (node_of N n) ≡ false = rw (e, was_free) in let z : ◌≡◌ {A = ℕ} 0 1 = cc in omega arith in
      rw (s.at_old n k) l

  pub new_mappings : (M : List ℕ) → Mappings N M → Mappings N' M
  new_mappings M m =
      record {
        leaf = λ j live. leaf_kept (mapping_of M j).object (m.leaf j live);
        some_page = m.some_page;
        ends = m.ends;
        numbers = m.numbers;
        own = m.own;
        free = m.free;
        in_order = m.in_order;
      }
