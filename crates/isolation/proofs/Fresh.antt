-- The step that gives a cleared frame to a leaf's page that nothing reaches. Assumes nothing.
use Rattle.std.specs.Prelude.{Option, ℕ, Some, None}
use mathlib.Core.Path.{◌≡◌, refl, ◌∙◌, subst₂}
use mathlib.Core.List.{List}
use Prim.Native.Nat.{ℕ, ◌<◌}
use native.Mathlib.Omega.{arith}
use lib.ListN.{set, length-set}
use Rattle.entry.specs.declared.PageState.{PageState}
use Rattle.entry.specs.Entry.{new_state}
use Rattle.tables.specs.Tables.{node_of, slot_at}
use Rattle.frames.specs.Frames.{free_frame_in, cleared_at}
use Rattle.lookup.specs.Work.{Work, work_of}
use Rattle.lookup.specs.Level.{kept}
use Rattle.sound.specs.Facts.{Leaf, Holds}
use Rattle.isolation.specs.Walk.{View}
use Rattle.isolation.specs.Walk.View.{own}
use Rattle.isolation.specs.Private.{links_of}
use Rattle.isolation.proofs.Pass.{Views, Aside, views_aside, view_one}
use Rattle.isolation.proofs.Wood.{Ground, asked, leaf_kind}
use Rattle.isolation.proofs.State.{Alike, Step, kept_wrote}
use Rattle.lookups.proofs.Spots.{Spot, spot}
use Rattle.lookups.proofs.Spots.Spot.{there, elsewhere}
use Rattle.lookups.proofs.Table.{Wrote, others}
use Rattle.lookups.proofs.Rows.{put_in}
use Rattle.lookups.proofs.Frames.{Idle, free_idle, not_idle, frame_taken}
use Rattle.lookups.proofs.Bytes.{cleared-length, cleared_same, cleared-other}
use Rattle.lookups.proofs.Ok.{Ok}

-- a cleared frame goes to an empty page that nothing reaches
module _ (N : List ℕ) (G : Ground N) (L F : ℕ) (l p : ℕ) (leaf : Leaf N l) (size : p < (node_of N l).size) (s : Work) (o : Ok N L F s) (bare : slot_at s.pages l p ≡ None)
    (view : View (links_of N) (slot_at s.pages) l p None) (g : ℕ) (free : free_frame_in s.used ≡ Some g) where
  abbrev new : Work
  new = work_of s.pages (set s.used g 1) (cleared_at L s.memory g) s.told

  idle : Idle s.used g
  idle = free_idle s.used g free

  in_g : g < F
  in_g = let k = idle.below in let u = o.used in omega arith

  wrote : Wrote s.pages (kept new l p g).pages l p (Some (new_state g))
  wrote = kept_wrote N G L F new l p g o.pages size (let k = o.few in let m = in_g in omega arith)

  away : (a b : ℕ) (e : PageState) → Holds s.pages a b e → Alike L s.memory new.memory (Some e.frame) (Some e.frame)
  away a b e x k h = cleared-other L F s.memory o.memory g in_g e.frame k h (not_idle o.entries idle a b e x)

  aside : Aside (links_of N) (Alike L s.memory new.memory) (slot_at s.pages) (slot_at (kept new l p g).pages)
  aside =
      record {
        rest = λ n j b a. others wrote ((links_of N).par n) b (λ x y. leaf_kind N G ((links_of N).par n) (rw x leaf) (asked N G n j a).hidden);
        keep = λ n j b e a x. away ((links_of N).par n) b e x;
        zeros = λ k h. refl;
      }

  views_by : (n q : ℕ) (x : Option ℕ) → View (links_of N) (slot_at s.pages) n q x → Spot n q l p → Views (links_of N) (Alike L s.memory new.memory) (slot_at (kept new l p g).pages) n q x
  views_by n q x d (there i j) =
      let e : x ≡ None = view_one (subst₂ (λ (a b : ℕ). View (links_of N) (slot_at s.pages) a b x) i j d) view in
      (Some g, own {s = new_state g} (rw (i, j) wrote.same) refl, rw e (cleared_same L F s.memory o.memory g in_g))
  views_by n q x d (elsewhere ne) =
      views_aside (links_of N) (Alike L s.memory new.memory) (slot_at s.pages) (slot_at (kept new l p g).pages) aside n q x (others wrote n q ne) (away n q) d

  pub fresh_step : Step N L F s (kept new l p g)
  fresh_step =
      record {
        ok = record {
          few = o.few;
          pages = wrote.size ∙ o.pages;
          used = length-set s.used g 1 ∙ o.used;
          memory = cleared-length L F s.memory o.memory g in_g;
          entries = put_in (frame_taken o.entries idle) bare size wrote;
        };
        views = λ n q x f d. views_by n q x d (spot n q l p);
      }
