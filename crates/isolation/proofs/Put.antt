-- Bytes put into a frame that an object holds change that object's page alone. Assumes nothing.
use Rattle.std.specs.Prelude.{Option, ℕ, Some}
use mathlib.Core.Path.{◌≡◌, refl, sym, ap, ◌∙◌, subst₂}
use mathlib.Core.Bool.{Bool, true, false, ◌&&◌}
use mathlib.Core.List.{List}
use Prim.Native.Nat.{ℕ, ◌+◌, ◌-◌, ◌*◌, ◌≤◌, ◌<◌}
use native.Mathlib.Omega.{arith}
use lib.Dec.{eqb, leb, ltb}
use lib.ListN.{length, get_or}
use borrow.Author.Tests.{eqb-true, eq-eqb, le-leb, lt-leb, lt-ltb, le-ltb}
use Rattle.logic.specs.Pick.{pick}
use Rattle.logic.proofs.Means.{less, split}
use Rattle.entry.specs.declared.PageState.{PageState}
use Rattle.tables.specs.Pool.{Pool, pool_of}
use Rattle.tables.specs.Tables.{node_of, slot_at}
use Rattle.frames.specs.Frames.{pasted_at}
use Rattle.sound.specs.Facts.{Leaf, Holds}
use Rattle.isolation.specs.Walk.{View, byte_of}
use Rattle.isolation.specs.Walk.View.{own, above}
use Rattle.isolation.specs.Private.{links_of, Shows, Private, put}
use Rattle.isolation.proofs.Pass.{Aside, views_aside}
use Rattle.isolation.proofs.Wood.{asked, leaf_kind}
use Rattle.isolation.proofs.State.{Alike}
use Rattle.isolation.proofs.Look.{ground}
use Rattle.lookups.proofs.Spots.{held_one, held_not, Spot, spot}
use Rattle.lookups.proofs.Spots.Spot.{there, elsewhere}
use Rattle.lookups.proofs.Bytes.{frame_one, frame_room, pasted_length, pasted_inside, pasted_outside}

-- the put bytes, the page's other bytes, and all other pages

module _ (A : ℕ → ℕ → ℕ → ℕ) (l i at n : ℕ) (b : List ℕ) (from : ℕ) where
  pub put_in : (k : ℕ) → at ≤ k → k < at + n → put A l i at n b from l i k ≡ get_or b (from + (k - at)) 0
  unfolding put
  put_in k lo hi = rw (eq-eqb l l refl, eq-eqb i i refl, le-leb at k lo, lt-ltb k (at + n) hi)

  pub put_before : (k : ℕ) → k < at → put A l i at n b from l i k ≡ A l i k
  unfolding put
  put_before k lo = rw (eq-eqb l l refl, eq-eqb i i refl, lt-leb at k lo)

  pub put-after : (k : ℕ) → at + n ≤ k → put A l i at n b from l i k ≡ A l i k
  unfolding put
  put-after k hi = rw (eq-eqb l l refl, eq-eqb i i refl, le-leb at k (omega arith), le-ltb k (at + n) hi)

  pub put_other : (m j k : ℕ) → (m ≡ l → j ≡ i → ⊥) → put A l i at n b from m j k ≡ A m j k
  unfolding put
  put_other m j k ne = by (eqb m l) (eqb j i) refl refl
    where
      by : (x y : Bool) → eqb m l ≡ x → eqb j i ≡ y → pick (x && y && (leb at k && ltb k (at + n))) (get_or b (from + (k - at)) 0) (A m j k) ≡ A m j k
      by true true e f = absurd (ne (eqb-true m l e) (eqb-true j i f))
      by true false e f = refl
      by false y e f = by_false y
        where
          by_false : (y : Bool) → pick (false && y && (leb at k && ltb k (at + n))) (get_or b (from + (k - at)) 0) (A m j k) ≡ A m j k
          by_false true = refl
          by_false false = refl

module _ (L : ℕ) (A : ℕ → ℕ → ℕ → ℕ) (p : Pool) (P : Private L A p) (l i : ℕ) (leaf : Leaf p.nodes l) (s : PageState) (holds : Holds p.pages l i s) (at n : ℕ) (b : List ℕ) (from : ℕ)
    (fits : at + n ≤ L) (enough : from + n ≤ length b) where
  abbrev pub stored : Pool
  stored = pool_of p.nodes p.pages p.used p.mappings p.head (pasted_at p.memory (s.frame * L + at) b from n)

  room : s.frame * L + at + n ≤ length p.memory
  room =
      let r = frame_room L (length p.used) s.frame (P.sound.entries.frames l i s holds) in
      let m = P.sound.lengths.memory in
      omega arith

  -- other frames keep their bytes
  frame_away : (f k : ℕ) → k < L → (f ≡ s.frame → ⊥) → get_or stored.memory (f * L + k) 0 ≡ get_or p.memory (f * L + k) 0
  frame_away f k h ne =
      pasted_outside p.memory (s.frame * L + at) b from n room enough (f * L + k)
      (λ j g e. ne (frame_one L f s.frame k (at + j) h (omega arith) (omega arith)))

  -- the frame itself
  frame_here : (k : ℕ) → k < L → get_or p.memory (s.frame * L + k) 0 ≡ A l i k → get_or stored.memory (s.frame * L + k) 0 ≡ put A l i at n b from l i k
  frame_here k h old =
      split (less k at)
      (λ lo. pasted_outside p.memory (s.frame * L + at) b from n room enough (s.frame * L + k) (λ j g e. omega arith) ∙ old ∙ sym (put_before A l i at n b from k lo))
      (λ ge.
      split (less k (at + n))
      (λ hi.
      let q : s.frame * L + at + (k - at) ≡ s.frame * L + k = omega arith in
      (rw q at (pasted_inside p.memory (s.frame * L + at) b from n room enough (k - at) (omega arith))) ∙ sym (put_in A l i at n b from k (omega arith) hi))
      (λ out. pasted_outside p.memory (s.frame * L + at) b from n room enough (s.frame * L + k) (λ j g e. omega arith) ∙ old ∙ sym (put-after A l i at n b from k (omega arith))))

  low : i < (node_of p.nodes l).size
  low = P.sound.entries.below l i s holds

  before : (v : Shows L p l i (A l i)) → (k : ℕ) → k < L → get_or p.memory (s.frame * L + k) 0 ≡ A l i k
  before v k h = by v.view
    where
      by : View (links_of p.nodes) (slot_at p.pages) l i v.source → get_or p.memory (s.frame * L + k) 0 ≡ A l i k
      by (own {s = e} x y) =
          let d : e ≡ s = held_one (sym x ∙ holds) in
          let z : v.source ≡ Some s.frame = y ∙ ap (λ (u : PageState). Some u.frame) d in
          sym (ap (λ (f : Option ℕ). byte_of L p.memory f k) z) ∙ v.bytes k h
      by (above x y) = absurd (held_not holds x)

  aside : Aside (links_of p.nodes) (Alike L p.memory stored.memory) (slot_at p.pages) (slot_at p.pages)
  aside =
      record {
        rest = λ m j c a. refl;
        keep = λ m j c e a x k h.
            frame_away e.frame k h
            (λ d.
            let y = (P.sound.entries.once ((links_of p.nodes).par m) c l i e s x holds d).0 in
            leaf_kind p.nodes (ground L A p P) ((links_of p.nodes).par m) (rw y leaf) (asked p.nodes (ground L A p P) m j a).hidden);
        zeros = λ k h. refl;
      }

  shows_by : (m j : ℕ) → Shows L p m j (A m j) → Spot m j l i → Shows L stored m j (put A l i at n b from m j)
  shows_by m j v (there x y) =
      subst₂ (λ (c d : ℕ). Shows L stored c d (put A l i at n b from c d)) (sym x) (sym y)
      (record { source = Some s.frame; view = own holds refl; bytes = λ k h. frame_here k h (before (P.shows l i leaf low) k h) })
  shows_by m j v (elsewhere ne) =
      let u = views_aside (links_of p.nodes) (Alike L p.memory stored.memory) (slot_at p.pages) (slot_at p.pages) aside m j v.source refl
      (λ e x k h. frame_away e.frame k h (λ d. let y = P.sound.entries.once m j l i e s x holds d in ne y.0 y.1)) v.view in
      record { source = u.0; view = u.1; bytes = λ k h. u.2 k h ∙ v.bytes k h ∙ sym (put_other A l i at n b from m j k ne) }

  pub put_keeps : Private L (put A l i at n b from) stored
  put_keeps =
      let q = P.sound.lengths in
      record {
        sound = record {
          lengths = record {
            nodes = q.nodes;
            pages = q.pages;
            mappings = q.mappings;
            head = q.head;
            some_frame = q.some_frame;
            most_frames = q.most_frames;
            memory = pasted_length p.memory (s.frame * L + at) b from n room enough ∙ q.memory;
          };
          tree = P.sound.tree;
          entries = P.sound.entries;
          mappings = P.sound.mappings;
        };
        windows = P.windows;
        shows = λ m j f h. shows_by m j (P.shows m j f h) (spot m j l i);
      }
