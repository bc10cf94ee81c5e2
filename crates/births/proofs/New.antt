-- new: the pool stays sound, the new object reads zeros, and every other object what it read. Assumes nothing.
use Rattle.std.specs.Prelude.{Option, ℕ, Some, None}
use Rattle.outcome.specs.Answers.{Answer}
use mathlib.Core.Path.{◌≡◌, refl, sym, ◌∙◌, subst}
use mathlib.Core.Bool.{Bool, true, false}
use mathlib.Core.List.{List, []}
use Prim.Native.Nat.{ℕ, ◌+◌, ◌≤◌}
use native.Mathlib.Omega.{arith}
use lib.Dec.{leb}
use lib.ListN.{length, get_or, set, length-set}
use lib.Seq.{get_or-set_same}
use borrow.Author.Tests.{leb-true}
use Rattle.logic.specs.Pick.{pick}
use Rattle.logic.proofs.Means.{equal, split}
use Rattle.entry.specs.declared.PageState.{PageState}
use Rattle.node.specs.Node.{last_owner, origin_node}
use Rattle.tables.specs.Pool.{Pool, pool_of}
use Rattle.tables.specs.Tables.{with_node, slot_at, free_node_in}
use Rattle.sound.specs.Facts.{Sound}
use Rattle.outcome.specs.declared.answer.Refusal.TheVariants.{NoNode}
use Rattle.outcome.specs.Outcome.{Outcome, refused}
use Rattle.pool.specs.Calls.{leaf_at, new_leaf}
use Rattle.isolation.specs.Walk.{Near, View}
use Rattle.isolation.specs.Walk.Near.{none, here, up}
use Rattle.isolation.specs.Walk.View.{own, above}
use Rattle.isolation.specs.Private.{links_of, Windows, Shows, Private}
use Rattle.isolation.proofs.Wood.{asked}
use Rattle.isolation.proofs.Look.{ground}
use Rattle.births.specs.Arrays.{blank_array}
use Rattle.births.specs.Births.{Gave, BlankBorn}
use Rattle.births.proofs.Laws.{blank-new, blank-other}
use Rattle.births.proofs.Words.{node_length, node_same, node_away}
use Rattle.births.proofs.First.{Free, found_free}
use Rattle.births.proofs.Cloned.{leaf_live}
use Rattle.births.proofs.Origin.{live_not, Sprung, hidden_not, parent_old, new_tree, no_entry, new_entries, new_mappings}

empty_by : (y : Option PageState) → ((s : PageState) → y ≡ Some s → ⊥) → y ≡ None
empty_by None f = refl
empty_by (Some s) f = absurd (f s refl)

module _ (L : ℕ) (p : Pool) (size i : ℕ) (small : size ≤ 64) (more : get_or p.head 0 0 ≤ last_owner) (f : Free p.nodes 0 i) where
  abbrev next : ℕ
  next = get_or p.head 0 0

  abbrev N' : List ℕ
  N' = with_node p.nodes i (origin_node size next)

  abbrev left : Pool
  left = pool_of N' p.pages p.used p.mappings (set p.head 0 (next + 1)) p.memory

  module _ (S : Sound L p) where
    sprung : Sprung p.nodes N' next i size
    sprung =
        record {
          free = f.kind;
          small = small;
          at_new = node_same p.nodes i (origin_node size next) S.lengths.nodes f.low;
          at_old = λ n ne. node_away p.nodes i n (origin_node size next) ne;
        }

    head-next : get_or (set p.head 0 (next + 1)) 0 0 ≡ next + 1
    head-next = let l = S.lengths.head in get_or-set_same p.head 0 (next + 1) 0 (omega arith)

    pub leaf_sound : Sound L left
    leaf_sound =
        let l = S.lengths in
        record {
          lengths = record {
            nodes = node_length p.nodes i (origin_node size next) ∙ l.nodes;
            pages = l.pages;
            mappings = l.mappings;
            head = length-set p.head 0 (next + 1) ∙ l.head;
            some_frame = l.some_frame;
            most_frames = l.most_frames;
            memory = l.memory;
          };
          tree = rw head-next (new_tree p.nodes N' next i size sprung S.tree more);
          entries = new_entries p.nodes N' next i size sprung S.tree p.pages p.used S.entries;
          mappings = new_mappings p.nodes N' next i size sprung S.tree p.mappings S.mappings;
        }

  module _ (A : ℕ → ℕ → ℕ → ℕ) (Q : Private L A p) where
    abbrev N : List ℕ
    N = p.nodes

    abbrev s : Sprung N N' next i size
    s = sprung Q.sound

    windows : Windows N'
    windows =
        record {
          whole = λ c h e. parent_old N N' next i size s Q.sound.tree c h e (λ ne d. rw (s.at_old c ne) (Q.windows.whole c h d));
          inside = λ c h e.
              parent_old N N' next i size s Q.sound.tree c h e
              (λ ne d. rw (s.at_old c ne, s.at_old h (hidden_not N N' next i size s Q.sound.tree h (Q.sound.tree.parents c h d).0)) (Q.windows.inside c h d));
        }

    par_not : (n j : ℕ) → (links_of N).asks n j ≡ true → (links_of N).par n ≡ i → ⊥
    par_not n j a = hidden_not N N' next i size s Q.sound.tree ((links_of N).par n) (asked N (ground L A p Q) n j a).hidden

    -- walks of other nodes are as before
    walk : {E : ℕ → ℕ → Option PageState} {n j : ℕ} {x : Option ℕ} → (n ≡ i → ⊥) → Near (links_of N) E n j x → Near (links_of N') E n j x
    walk ne (none {n} {p = j} a z) = none {n = n} {p = j} (rw (s.at_old n ne) a) z
    walk ne (here {n} {p = j} {s = e} a h t y) = here {n = n} {p = j} {s = e} (rw (s.at_old n ne) a) (rw (s.at_old n ne) h) (rw (s.at_old n ne, s.at_old ((links_of N).par n) (par_not n j a)) t) y
    walk ne (up {n} {p = j} {x} a h d) = up {n = n} {p = j} {x = x} (rw (s.at_old n ne) a) (rw (s.at_old n ne) h) (rw (s.at_old n ne) (walk (par_not n j a) d))

    sees : (E : ℕ → ℕ → Option PageState) (n j : ℕ) (x : Option ℕ) → (n ≡ i → ⊥) → View (links_of N) E n j x → View (links_of N') E n j x
    sees E n j x ne (own h y) = own h y
    sees E n j x ne (above h d) = above h (walk ne d)

    shows_new : (j : ℕ) → Shows L left i j (blank_array A i i j)
    shows_new j =
        record {
          source = None;
          view = above (empty_by (slot_at p.pages i j) (λ e h. no_entry N N' next i size s Q.sound.tree p.pages p.used Q.sound.entries i j e h refl)) (none {n = i} {p = j} (rw s.at_new) refl);
          bytes = λ k h. sym (blank-new A i j k);
        }

    shows_old : (l j : ℕ) → (l ≡ i → ⊥) → Shows L p l j (A l j) → Shows L left l j (blank_array A i l j)
    shows_old l j ne v =
        record { source = v.source; view = sees (slot_at p.pages) l j v.source ne v.view; bytes = λ k h. v.bytes k h ∙ sym (blank-other A i l j k ne) }

    pub leaf_born : BlankBorn L A p size i left
    leaf_born =
        record {
          free = f.kind;
          leaf = rw s.at_new;
          size = rw s.at_new;
          others = λ l ne. rw (s.at_old l ne);
          sizes = λ l f. rw (s.at_old l (live_not N N' next i size s Q.sound.tree l (leaf_live N l f)));
          private = record {
            sound = leaf_sound Q.sound;
            windows = windows;
            shows = λ l j leaf low.
                split (equal l i)
                (λ e. subst (λ (m : ℕ). Shows L left m j (blank_array A i m j)) (sym e) (shows_new j))
                (λ ne. shows_old l j ne (Q.shows l j (rw (s.at_old l ne) at leaf) (rw (s.at_old l ne) at low)));
          };
        }

-- the step of new

module _ (p : Pool) (size : ℕ) (len : length p.nodes ≡ 1024) (B : Outcome Answer → Type 0) (stay : B (refused p [] [] NoNode))
    (birth : (i : ℕ) → get_or p.head 0 0 ≤ last_owner → Free p.nodes 0 i → B (leaf_at p size (Some i))) where
  leaf_by : get_or p.head 0 0 ≤ last_owner → (f : Option ℕ) → free_node_in p.nodes ≡ f → B (leaf_at p size f)
  unfolding leaf_at
  leaf_by l (Some i) e = birth i l (found_free p.nodes len i e)
  leaf_by l None e = stay

  -- what holds of the refusal and of each birth holds of it
  new_by_lem : B (new_leaf p size)
  unfolding new_leaf
  new_by_lem = by (leb (get_or p.head 0 0) last_owner) refl
    where
      by : (b : Bool) → leb (get_or p.head 0 0) last_owner ≡ b → B (pick b (leaf_at p size (free_node_in p.nodes)) (refused p [] [] NoNode))
      by true t = leaf_by (leb-true (get_or p.head 0 0) last_owner t) (free_node_in p.nodes) refl
      by false t = stay

module _ (L : ℕ) (p : Pool) (size : ℕ) (small : size ≤ 64) where
  pub new_facts : Sound L p → Sound L (new_leaf p size).pool
  unfolding leaf_at
  new_facts S = new_by_lem p size S.lengths.nodes (λ c. Sound L c.pool) S (λ i l f. leaf_sound L p size i small l f S)

  -- refused, it leaves the pool as it was
  pub new-left : Sound L p → Gave p (λ i q. Sound L q) (new_leaf p size).answer (new_leaf p size).pool
  unfolding leaf_at
  new-left S = new_by_lem p size S.lengths.nodes (λ c. Gave p (λ i q. Sound L q) c.answer c.pool) refl (λ i l f. leaf_sound L p size i small l f S)

  pub new_gave : (A : ℕ → ℕ → ℕ → ℕ) → Private L A p → Gave p (BlankBorn L A p size) (new_leaf p size).answer (new_leaf p size).pool
  unfolding leaf_at
  new_gave A Q = new_by_lem p size Q.sound.lengths.nodes (λ c. Gave p (BlankBorn L A p size) c.answer c.pool) refl (λ i l f. leaf_born L p size i small l f A Q)
