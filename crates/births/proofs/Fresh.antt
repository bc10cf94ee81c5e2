-- A fresh pool is sound, and as it has no object, its arrays are any. Assumes nothing.
use Rattle.std.specs.Prelude.{None}
use mathlib.Core.Path.{◌≡◌, refl, ap, ◌∙◌}
use mathlib.Core.Bool.{Bool, true, false}
use mathlib.Core.List.{List}
use Prim.Native.Nat.{ℕ, ◌+◌, ◌*◌}
use native.Mathlib.Omega.{arith}
use lib.Dec.{leb, ltb}
use lib.ListN.{length, get_or, replicate, length-set, length-replicate, get_or-replicate, get_or-eq_default}
use lib.Seq.{get_or-set_same}
use Rattle.logic.specs.Pick.{pick}
use Rattle.logic.proofs.Means.{less, split}
use Rattle.entry.specs.declared.PageState.{PageState}
use Rattle.entry.specs.Entry.{slot_of}
use Rattle.node.specs.declared.Node.{Node}
use Rattle.node.specs.Node.{free_node}
use Rattle.tables.specs.declared.Mapping.{Mapping}
use Rattle.tables.specs.Pool.{Pool}
use Rattle.tables.specs.Tables.{word_of, record_of, node_of, entry_of, slot_at, mapping_of, mapping_by}
use Rattle.sound.specs.Facts.{Tree, Holds, pins_of, Entries, Mappings, Lengths, Sound}
use Rattle.sound.specs.Facts.Ends.{none, up}
use Rattle.sound.specs.Sound.{lengths_ok, sound}
use Rattle.soundness.proofs.Sums.{sum_most}
use Rattle.soundness.proofs.Soundness.{lengths_mean, facts_sound}
use Rattle.pool.specs.Calls.{fresh_pool}
use Rattle.isolation.specs.Private.{Private}
use Rattle.lookups.proofs.Spots.{held_not}

abbrev zeros : ℕ → List ℕ
zeros m = replicate m 0

zeros-length : (m : ℕ) → length (zeros m) ≡ m
zeros-length m = length-replicate m 0

zero_at : (m i : ℕ) → get_or (zeros m) i 0 ≡ 0
zero_at m i =
    split (less i m)
    (λ l. get_or-replicate m i 0 0 l)
    (λ out. let e = zeros-length m in get_or-eq_default (zeros m) 0 (omega arith))

free_by : (b : Bool) {r : Node} → r ≡ free_node → pick b r free_node ≡ free_node
free_by true e = e
free_by false e = refl

pub zero_node : (m n : ℕ) → node_of (zeros m) n ≡ free_node
unfolding node_of record_of word_of
zero_node m n = free_by (leb (n * 16 + 16) (length (zeros m))) (simp zero_at)

zero_entry : (m n i : ℕ) → entry_of (zeros m) n i ≡ 0
unfolding entry_of
zero_entry m n i = rw (zero_at m (n * 64 + i)) (by (ltb i 64))
  where
    by : (b : Bool) → ◌≡◌ {A = ℕ} (pick b 0 0) 0
    by true = refl
    by false = refl

zero_slot : (m n i : ℕ) → slot_at (zeros m) n i ≡ None
unfolding slot_at slot_of
zero_slot m n i = rw (zero_entry m n i)

blank_by : (b : Bool) {r : Mapping} → r ≡ mapping_by 0 0 0 0 → pick b r (mapping_by 0 0 0 0) ≡ mapping_by 0 0 0 0
blank_by true e = e
blank_by false e = refl

zero_mapping : (m i : ℕ) → mapping_of (zeros m) i ≡ mapping_by 0 0 0 0
unfolding mapping_of
zero_mapping m i = blank_by (leb (i * 4 + 4) (length (zeros m))) (simp zero_at)

-- the facts of tables in which all is free

pub free_tree : (N : List ℕ) → ((n : ℕ) → node_of N n ≡ free_node) → Tree N 1
free_tree N f =
    record {
      left_child = λ n h. absurd (hidden n h);
      right_child = λ n h. absurd (hidden n h);
      distinct = λ n h. absurd (hidden n h);
      childless = λ n h. rw (f n) (refl, refl);
      parents = λ n h e. absurd (rooted n h e);
      chains = λ n. up n refl (none {link = (node_of N n).parent} (rw (f n)));
      next_least = omega arith;
      next_most = omega arith;
      owners = λ n h. absurd (h (rw (f n)));
      starts = let q = sum_most (λ n. (node_of N n).parent_offset) 0 64 (λ n. rw (f n) (omega arith)) in omega arith;
      window = λ n. rw (f n) (omega arith);
      window_size = λ n. rw (f n) (omega arith);
      sizes = λ n. rw (f n) (omega arith);
      policies = λ n. rw (f n) (omega arith);
      counts = λ n. rw (f n) (omega arith);
      kinds = λ n. rw (f n) (omega arith);
      blank = λ n h. f n;
    }
  where
    hidden : (n : ℕ) → (node_of N n).kind ≡ 3 → ⊥
    hidden n h = let e = ap (λ (r : Node). r.kind) (f n) in omega arith

    rooted : (n h : ℕ) → (node_of N n).parent ≡ h + 1 → ⊥
    rooted n h d = let e = ap (λ (r : Node). r.parent) (f n) in omega arith

free_entries : (N : List ℕ) (a b : ℕ) → Entries N (zeros a) (zeros b)
free_entries N a b =
    record {
      once = λ n i m j s t h k q. absurd (bare n i s h);
      stands = λ f l u. let z = zero_at b f in absurd (omega arith);
      in_use = λ n i s h. absurd (bare n i s h);
      leaves = λ n i s k h. absurd (bare n i s h);
      below = λ n i s h. absurd (bare n i s h);
      pins = λ n i s h. absurd (bare n i s h);
      hidden_pins = λ n i s k h. absurd (bare n i s h);
      pin_sum = λ n. let q = sum_most (λ i. pins_of (slot_at (zeros a) n i)) 0 64 (λ i. rw (zero_slot a n i) (omega arith)) in omega arith;
      frames = λ n i s h. absurd (bare n i s h);
      flags = λ f. rw (zero_at b f) (omega arith);
      empty = λ n i h. zero_entry a n i;
      held = λ n i s h. absurd (bare n i s h);
    }
  where
    bare : (n i : ℕ) (s : PageState) → Holds (zeros a) n i s → ⊥
    bare n i s h = held_not h (zero_slot a n i)

free_mappings : (N : List ℕ) (m : ℕ) → Mappings N (zeros m)
free_mappings N m =
    record {
      leaf = λ i live. absurd (live (number i));
      some_page = λ i live. absurd (live (number i));
      ends = λ i live. absurd (live (number i));
      numbers = λ i. rw (number i) (omega arith);
      own = λ i j live e. absurd (live (number i));
      free = λ i e. zero_mapping m i;
      in_order = λ i e. number (i + 1);
    }
  where
    number : (i : ℕ) → (mapping_of (zeros m) i).number ≡ 0
    number i = ap (λ (x : Mapping). x.number) (zero_mapping m i)

module _ (L : ℕ) (p : Pool) (ok : lengths_ok L p ≡ true) where
  head_is : get_or (fresh_pool p).head 0 0 ≡ 1
  unfolding fresh_pool
  head_is =
      let e = zeros-length (length p.head) in
      let h = ((lengths_mean L p).fact ok).head in
      get_or-set_same (zeros (length p.head)) 0 1 0 (omega arith)

  lengths : Lengths L (fresh_pool p)
  unfolding fresh_pool
  lengths =
      let l = (lengths_mean L p).fact ok in
      let u = zeros-length (length p.used) in
      record {
        nodes = zeros-length (length p.nodes) ∙ l.nodes;
        pages = zeros-length (length p.pages) ∙ l.pages;
        mappings = zeros-length (length p.mappings) ∙ l.mappings;
        head = length-set (zeros (length p.head)) 0 1 ∙ zeros-length (length p.head) ∙ l.head;
        some_frame = rw u l.some_frame;
        most_frames = rw u l.most_frames;
        memory = rw u l.memory;
      }

  pub fresh_node : (n : ℕ) → node_of (fresh_pool p).nodes n ≡ free_node
  unfolding fresh_pool
  fresh_node n = zero_node (length p.nodes) n

  fresh_entries : Entries (fresh_pool p).nodes (fresh_pool p).pages (fresh_pool p).used
  unfolding fresh_pool
  fresh_entries = free_entries (zeros (length p.nodes)) (length p.pages) (length p.used)

  fresh_mappings : Mappings (fresh_pool p).nodes (fresh_pool p).mappings
  unfolding fresh_pool
  fresh_mappings = free_mappings (zeros (length p.nodes)) (length p.mappings)

  pub fresh_facts : Sound L (fresh_pool p)
  fresh_facts =
      record {
        lengths = lengths;
        tree = rw head_is (free_tree (fresh_pool p).nodes fresh_node);
        entries = fresh_entries;
        mappings = fresh_mappings;
      }

  pub fresh-sound : sound L (fresh_pool p) ≡ true
  fresh-sound = facts_sound L (fresh_pool p) fresh_facts

  pub fresh_private : (A : ℕ → ℕ → ℕ → ℕ) → Private L A (fresh_pool p)
  fresh_private A =
      record {
        sound = fresh_facts;
        windows = record { whole = λ c h e. absurd (rooted c h e); inside = λ c h e. absurd (rooted c h e) };
        shows = λ l i leaf low. let e = ap (λ (r : Node). r.size) (fresh_node l) in absurd (omega arith);
      }
    where
      rooted : (c h : ℕ) → (node_of (fresh_pool p).nodes c).parent ≡ h + 1 → ⊥
      rooted c h d = let e = ap (λ (r : Node). r.parent) (fresh_node c) in omega arith
