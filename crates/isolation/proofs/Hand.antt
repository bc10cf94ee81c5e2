-- A hidden node that has the page serves its child: the entry moves down, or is copied and split, or is shared. Assumes nothing.
use Rattle.std.specs.Prelude.{Option, ℕ, Some, None, Err, Ok as Gave}
use mathlib.Core.Path.{◌≡◌, refl, sym, ◌∙◌}
use mathlib.Core.Bool.{Bool, true, false, ◌&&◌}
use mathlib.Core.List.{List}
use Prim.Native.Nat.{ℕ, ◌+◌}
use native.Mathlib.Omega.{arith}
use borrow.Author.Tests.{eq-eqb}
use Rattle.logic.proofs.Laws.{true_not}
use Rattle.entry.specs.declared.PageState.{PageState}
use Rattle.entry.specs.Entry.{split_of}
use Rattle.tables.specs.Tables.{node_of, slot_at}
use Rattle.frames.specs.Frames.{free_frame_in}
use Rattle.outcome.specs.Told.{Told}
use Rattle.lookup.specs.declared.CommitResult.TheVariants.{Ref, CopyOnWrite}
use Rattle.lookup.specs.declared.LookupError.TheVariants.{NoMemory}
use Rattle.lookup.specs.Work.{Work, Looking, looking_of}
use Rattle.lookup.specs.Mode.{today, place_of}
use Rattle.lookup.specs.Level.{with_told, without, copy_at, child_told}
use Rattle.lookup.proofs.Ways.{Serves}
use Rattle.lookup.proofs.Ways.Serves.{keeps, goes, moves, copies, lacks, lends}
use Rattle.sound.specs.Facts.{Holds}
use Rattle.isolation.specs.Walk.{Near, Over}
use Rattle.isolation.specs.Walk.Near.{none, here, up}
use Rattle.isolation.specs.Walk.Over.{parent}
use Rattle.isolation.specs.Private.{links_of}
use Rattle.isolation.proofs.Wood.{Asked, Ground, asked}
use Rattle.isolation.proofs.State.{Alike, step_same, mid_step}
use Rattle.isolation.proofs.Done.{Post}
use Rattle.isolation.proofs.Move.{moved, halved, parted}
use Rattle.lookups.proofs.Spots.{held_one, held_not}
use Rattle.lookups.proofs.Sides.{side_split}
use Rattle.lookups.proofs.Ok.{Ok}

module _ (N : List ℕ) (G : Ground N) (L F : ℕ) (c r : ℕ) (a₀ : (links_of N).asks c r ≡ true) where
  abbrev h : ℕ
  h = (links_of N).par c

  abbrev q : ℕ
  q = (links_of N).start c + r

  facts : Asked N c r
  facts = asked N G c r a₀

  -- what reaches (c, r) is the entry above it
  over_by : {E : ℕ → ℕ → Option PageState} {x : Option ℕ} (e : PageState) → E h q ≡ Some e → Near (links_of N) E c r x → (e.tag ≡ (links_of N).side c → ⊥) × (x ≡ Some e.frame)
  over_by e y (none a z) = true_not a₀ a
  over_by e y (here {s = d} a k t b) = let i : d ≡ e = held_one (sym k ∙ y) in (rw i at t, rw i at b)
  over_by e y (up a k d) = absurd (held_not y k)

  not_over : {a b : ℕ} → (Over (links_of N) c r a b → ⊥) → a ≡ h → b ≡ q → ⊥
  not_over out i j = out (parent a₀ i j)

  module _ (M : List ℕ) (w : Bool) (x : Option ℕ) (s : Work) (o : Ok N L F s) (bare : slot_at s.pages c r ≡ None) (near : Near (links_of N) (slot_at s.pages) c r x) (e : PageState) (over : Holds s.pages h q e) where
    tag_not : e.tag ≡ (links_of N).side c → ⊥
    tag_not = (over_by e over near).0

    source : (Y : List ℕ) (y : Option ℕ) → Alike L s.memory Y (Some e.frame) y → Alike L s.memory Y x y
    source Y y k = rw (over_by e over near).1 k

    move_post : (t : Told) (u : Bool) → ((links_of N).both c r ≡ true → split_of e.tag ≡ true) → Post N L F s c r x w (looking_of (Gave (CopyOnWrite e.frame u)) (without (with_told s t) h q))
    move_post t u g =
        let m = moved N G L F c r a₀ s t e o over tag_not g in
        record {
          still = λ a b out. m.rest a b (not_over out);
          done = record {
            step = mid_step N G L F s (without (with_told s t) h q) c r e.frame e o a₀ over bare m;
            pages = m.pages;
            bytes = source s.memory (Some e.frame) m.same;
            frame = let l = m.loose.frame in let v = m.used in omega arith;
            untaken = λ k. refl;
          };
        }

    copy_post : (t : Told) (g : ℕ) → free_frame_in s.used ≡ Some g → w ≡ true → Post N L F s c r x w (looking_of (Gave (CopyOnWrite g true)) (copy_at (today L N M) (place_of h q c) e g (with_told s t)))
    copy_post t g f k =
        let m = parted N G L F c r a₀ s t e o over tag_not g f in
        record {
          still = λ a b out. m.rest a b (not_over out);
          done = record {
            step = mid_step N G L F s (halved N G L F c r a₀ s t e o over tag_not g f) c r g e o a₀ over bare m;
            pages = m.pages;
            bytes = source (halved N G L F c r a₀ s t e o over tag_not g f).memory (Some g) m.same;
            frame = let l = m.loose.frame in let v = m.used in omega arith;
            untaken = λ j. true_not k j;
          };
        }

    deny_post : (t : Told) → free_frame_in s.used ≡ None → w ≡ true → Post N L F s c r x w (looking_of (Err NoMemory) (with_told s t))
    deny_post t f k = record { still = λ a b out. refl; done = record { writing = k; step = step_same N G L F s t o; no_frame = f } }

    lend_post : (t : Told) → w ≡ false → Post N L F s c r x w (looking_of (Gave (Ref e.frame)) (with_told s t))
    lend_post t k =
        record {
          still = λ a b out. refl;
          done = record {
            reading = k;
            step = step_same N G L F s t o;
            bytes = source s.memory (Some e.frame) (λ k l. refl);
            frame = let l = o.entries.frames h q e over in let v = o.used in omega arith;
            untaken = refl;
          };
        }

    reads : (w : Bool) {d : Bool} → d ≡ true → (w && d) ≡ false → w ≡ false
    reads true p k = true_not p k
    reads false p k = refl

    pub serves_post : {u : Bool} {z : Looking} → Serves (today L N M) w (place_of h q c) e u s z → Post N L F s c r x w z
    unfolding child_told
    serves_post (keeps n z) = true_not (eq-eqb (node_of N h).kind 3 facts.hidden) n
    serves_post (goes n b z) = rw z (move_post s.told _ (λ d. true_not d b))
    serves_post (moves n b t z) = rw z (move_post _ _ (λ d. t))
    serves_post (copies n b t k g f z) = rw z (copy_post _ g f k)
    serves_post (lacks n b t k f z) = rw z (deny_post _ f k)
    serves_post (lends n b t k z) = rw z (lend_post _ (reads w (side_split facts.sided) k))
