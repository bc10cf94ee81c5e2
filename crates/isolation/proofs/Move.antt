-- Halfway down: the entry above a page is taken out, or copied into a free frame and split. Assumes nothing.
use Rattle.std.specs.Prelude.{Some, None}
use mathlib.Core.Path.{◌≡◌, refl, sym, ◌∙◌}
use mathlib.Core.Bool.{true}
use mathlib.Core.List.{List}
use Prim.Native.Nat.{ℕ, ◌+◌, ◌<◌}
use native.Mathlib.Omega.{arith}
use lib.ListN.{set, length-set}
use Rattle.entry.specs.declared.PageState.{PageState}
use Rattle.entry.specs.Entry.{split_of, tagged_of}
use Rattle.tables.specs.Tables.{node_of, with_state}
use Rattle.frames.specs.Frames.{free_frame_in, copied_at}
use Rattle.outcome.specs.Told.{Told}
use Rattle.lookup.specs.Work.{Work, work_of}
use Rattle.lookup.specs.Mode.{other}
use Rattle.lookup.specs.Level.{with_told, without}
use Rattle.sound.specs.Facts.{Holds}
use Rattle.isolation.specs.Private.{links_of}
use Rattle.isolation.proofs.Wood.{Asked, Ground, asked}
use Rattle.isolation.proofs.State.{Alike, Mid}
use Rattle.lookups.proofs.Table.{Wrote, others, wrote_state, wrote_none}
use Rattle.lookups.proofs.Rows.{taken_out}
use Rattle.lookups.proofs.Frames.{Idle, free_idle, not_idle, frame_taken, retagged}
use Rattle.lookups.proofs.Bytes.{copied_size, copied_same, copied-other}
use Rattle.lookups.proofs.Sides.{Sided, side_one, other-one, split_side}
use Rattle.lookups.proofs.Ok.{Ok}
use Rattle.lookups.proofs.Base.{page_low, node_low}

module _ (N : List ℕ) (G : Ground N) (L F : ℕ) (c r : ℕ) (a₀ : (links_of N).asks c r ≡ true) where
  -- the page above, and its place
  abbrev h : ℕ
  h = (links_of N).par c

  abbrev q : ℕ
  q = (links_of N).start c + r

  facts : Asked N c r
  facts = asked N G c r a₀

  q_low : q < 64
  q_low = page_low N G.base h q facts.inside

  h_low : h < 64
  h_low = node_low N G.base h q facts.inside

  -- another child that asks for the same page of the parent
  same_sided : (n p : ℕ) → (links_of N).asks n p ≡ true → (links_of N).par n ≡ h → Sided (node_of N h) n
  same_sided n p a i = rw i at (asked N G n p a).sided

  both_has : (n p : ℕ) → (links_of N).asks n p ≡ true → (links_of N).par n ≡ h → (links_of N).start n + p ≡ q → (n ≡ c → ⊥) → (links_of N).both c r ≡ true
  both_has n p a i j ne =
      let m : n ≡ other (node_of N h) c = other-one facts.sided (same_sided n p a i) ne in
      rw (← m, ← j) (asked N G n p a).window

  module _ (s : Work) (t : Told) (e : PageState) (o : Ok N L F s) (over : Holds s.pages h q e) (tag : e.tag ≡ (links_of N).side c → ⊥) where
    -- the entry moves down, where no other child reads it
    goes : ((links_of N).both c r ≡ true → split_of e.tag ≡ true)
        → (n p : ℕ) → (links_of N).asks n p ≡ true → (links_of N).par n ≡ h → (links_of N).start n + p ≡ q → (n ≡ c → ⊥) → (e.tag ≡ (links_of N).side n → ⊥) → ⊥
    goes g n p a i j ne u =
        split_side e.tag facts.sided (same_sided n p a i) ne (g (both_has n p a i j ne)) tag (rw i at u)

    none_wrote : Wrote s.pages (without (with_told s t) h q).pages h q None
    none_wrote = wrote_none s.pages h q q_low h_low o.pages

    pub moved : ((links_of N).both c r ≡ true → split_of e.tag ≡ true) → Mid N L F s (without (with_told s t) h q) c r e.frame e
    moved g =
        record {
          pages = none_wrote.size ∙ o.pages;
          used = o.used;
          memory = o.memory;
          loose = taken_out o.entries over none_wrote;
          rest = others none_wrote;
          same = λ k l. refl;
          keep = λ a b u x k l. refl;
          sib = λ n p a i j ne u. absurd (goes g n p a i j ne u);
        }

    -- the entry is copied into the free frame g and split
    module _ (g : ℕ) (free : free_frame_in s.used ≡ Some g) where
      abbrev pub halved : Work
      halved = work_of (with_state s.pages h q (tagged_of e ((links_of N).side c))) (set s.used g 1) (copied_at L s.memory g e.frame) t

      idle : Idle s.used g
      idle = free_idle s.used g free

      in_g : g < F
      in_g = let l = idle.below in let u = o.used in omega arith

      in_e : e.frame < F
      in_e = let l = o.entries.frames h q e over in let u = o.used in omega arith

      tag_wrote : Wrote s.pages halved.pages h q (Some (tagged_of e ((links_of N).side c)))
      tag_wrote =
          let l = in_e in
          let m = o.few in
          let n = o.entries.pins h q e over in
          wrote_state s.pages h q q_low h_low o.pages (tagged_of e ((links_of N).side c)) (omega arith) (omega arith)

      away : (a b : ℕ) (u : PageState) → Holds s.pages a b u → Alike L s.memory halved.memory (Some u.frame) (Some u.frame)
      away a b u x k l = copied-other L F s.memory o.memory g in_g e.frame in_e u.frame k l (not_idle o.entries idle a b u x)

      pub parted : Mid N L F s halved c r g e
      parted =
          record {
            pages = tag_wrote.size ∙ o.pages;
            used = length-set s.used g 1 ∙ o.used;
            memory = copied_size L F s.memory o.memory g in_g e.frame in_e;
            loose = retagged (frame_taken o.entries idle) over facts.hidden tag_wrote;
            rest = others tag_wrote;
            same = copied_same L F s.memory o.memory g in_g e.frame in_e;
            keep = away;
            sib = λ n p a i j ne u. (
              tagged_of e ((links_of N).side c),
              tag_wrote.same,
              λ d. ne (sym (side_one facts.sided (same_sided n p a i) (rw i at d))),
              away h q e over,
            );
          }
