-- The lookup lemma for a node that its child asks, by the exits of lookup. Assumes nothing.
use Rattle.std.specs.Prelude.{Option, ℕ, Some, None, Err, Ok as Gave}
use Rattle.entry.specs.declared.PageState.{PageState}
use mathlib.Core.Path.{◌≡◌, refl, sym, ap, subst, ◌∙◌}
use mathlib.Core.Bool.{Bool, true, false}
use mathlib.Core.List.{List}
use Prim.Native.Nat.{ℕ, ◌+◌, ◌<◌}
use native.Mathlib.Omega.{arith}
use borrow.Author.Tests.{eq-eqb}
use Rattle.logic.proofs.Laws.{true_not}
use Rattle.entry.specs.Entry.{new_state}
use Rattle.node.specs.Node.{hidden_of}
use Rattle.tables.specs.Tables.{node_of, slot_at}
use Rattle.lookup.specs.Work.{Looked, Work, Looking, looking_of}
use Rattle.lookup.specs.declared.CommitResult.TheVariants.{Ref, Zero, CopyOnWrite, NewPage}
use Rattle.lookup.specs.declared.LookupError.TheVariants.{NoMemory, Stopped}
use Rattle.lookup.specs.declared.End.{End}
use Rattle.lookup.specs.declared.End.TheVariants.{Tired}
use Rattle.lookup.specs.declared.Place.{Place}
use Rattle.lookup.specs.Mode.{today, place_of, asks, node_at, halts_at, up as up_of}
use Rattle.lookup.specs.Level.{kept, kept_at, cleared, slot_in}
use Rattle.lookup.proofs.Join.{Final}
use Rattle.lookup.proofs.Ways.{Serves}
use Rattle.lookup.proofs.Looks.{Looks, Alone, Asked as Climbs}
use Rattle.lookup.proofs.Looks.Looks.{has, zeros, short, stops, clears, fills, quits, rests, falls, lands, takes}
use Rattle.sound.specs.Facts.{Holds}
use Rattle.lookups.proofs.Spots.{held_not}
use Rattle.lookups.proofs.Table.{others}
use Rattle.lookups.proofs.Sides.{side_owned}
use Rattle.lookups.proofs.Ok.{Ok}
use Rattle.isolation.specs.Walk.{Near, Over}
use Rattle.isolation.specs.Walk.Near.{none, here, up}
use Rattle.isolation.specs.Walk.Over.{parent, higher}
use Rattle.isolation.specs.Private.{links_of}
use Rattle.isolation.proofs.Wood.{Asked, Ground, asked, not_out, height, lower}
use Rattle.isolation.proofs.State.{step_same, kept_wrote}
use Rattle.isolation.proofs.Done.{Done, Handed, Post}
use Rattle.isolation.proofs.Then.{done_then}
use Rattle.isolation.proofs.Hand.{serves_post}

-- a page above a page of n is of a lower node
pub over_low : (N : List ℕ) (G : Ground N) {n p a b : ℕ} → Over (links_of N) n p a b → height N G a < height N G n
over_low N G (parent {n} {p} x i j) = let l = lower N G n p x in let e = ap (height N G) i in omega arith
over_low N G (higher {n} {p} x d) = let l = lower N G n p x in let e = over_low N G d in omega arith

module _ (N : List ℕ) (G : Ground N) (M : List ℕ) (L F c r : ℕ) (w : Bool) (a₀ : (links_of N).asks c r ≡ true) where
  abbrev h : ℕ
  h = (links_of N).par c

  abbrev q : ℕ
  q = (links_of N).start c + r

  facts : Asked N c r
  facts = asked N G c r a₀

  is_hidden : hidden_of (node_of N h) ≡ true
  is_hidden = eq-eqb (node_of N h).kind 3 facts.hidden

  -- an answer that ends the lookup is the child's too
  final_post : (s : Work) (x : Option ℕ) (z : Looked) (v : Work) → Final (today L N M) w z → Done N L F s h q x w z v → Done N L F s c r x w z v
  final_post s x (Gave (Ref f)) v e d = d
  final_post s x (Gave Zero) v e d = d
  final_post s x (Err NoMemory) v e d = d
  final_post s x (Err Stopped) v e d = d
  final_post s x (Gave (CopyOnWrite f u)) v e d = absurd e
  final_post s x (Gave (NewPage f)) v e d = absurd e

  -- the parent handed the node frame f
  module _ (x : Option ℕ) (s : Work) (o : Ok N L F s) (bare : slot_at s.pages c r ≡ None) (p : Work) (f : ℕ) (d : Handed N L F s h q x w f p)
      (still : (a b : ℕ) → (Over (links_of N) h q a b → ⊥) → slot_at p.pages a b ≡ slot_at s.pages a b) where
    low_frame : f < 1024
    low_frame = let k = o.few in let l = d.frame in omega arith

    kept_over : Holds (kept p h q f).pages h q (new_state f)
    kept_over = (kept_wrote N G L F p h q f d.pages facts.inside low_frame).same

    kept_still : (a b : ℕ) → (Over (links_of N) c r a b → ⊥) → slot_at (kept p h q f).pages a b ≡ slot_at s.pages a b
    kept_still a b out = others (kept_wrote N G L F p h q f d.pages facts.inside low_frame) a b (λ i j. out (parent a₀ i j)) ∙ still a b (λ v. out (higher a₀ v))

    kept_bare : slot_at (kept p h q f).pages c r ≡ None
    kept_bare = kept_still c r (λ v. let l = over_low N G v in omega arith) ∙ bare

    kept_near : Near (links_of N) (slot_at (kept p h q f).pages) c r (Some f)
    kept_near = here {s = new_state f} a₀ kept_over (λ e. side_owned facts.sided (sym e)) refl

    own_post : {u : Bool} {z : Looking} → Serves (today L N M) w (place_of h q c) (new_state f) u (kept p h q f) z → Post N L F s c r x w z
    own_post {u} {z} y =
        let k = serves_post N G L F c r a₀ M w (Some f) (kept p h q f) d.step.ok kept_bare kept_near (new_state f) kept_over y in
        record {
          still = λ a b out. k.still a b out ∙ kept_still a b out;
          done = done_then N G L F s (kept p h q f) x w f c r d.step d.bytes d.untaken z.answer z.work k.done;
        }

  beyond : {E : ℕ → ℕ → Option PageState} {x : Option ℕ} → E h q ≡ None → Near (links_of N) E c r x → Near (links_of N) E h q x
  beyond z (none a e) = true_not a₀ a
  beyond z (here a k t b) = absurd (held_not k z)
  beyond z (up a k d) = d

  no_more : {E : ℕ → ℕ → Option PageState} {x : Option ℕ} → (links_of N).asks h q ≡ false → Near (links_of N) E h q x → x ≡ None
  no_more z (none a e) = e
  no_more z (here a k t b) = true_not a z
  no_more z (up a k d) = true_not a z

-- a page asks as the walks of isolation say
pub asks_same : (L : ℕ) (N M : List ℕ) (n i c : ℕ) → asks (today L N M) (place_of n i c) ≡ (links_of N).asks n i
unfolding asks
asks_same L N M n i c = refl

-- what the parent of c answers, at the place where it is asked
ask_at : (N : List ℕ) (G : Ground N) (M : List ℕ) (L F : ℕ) (s : Work) (x : Option ℕ) (w : Bool) (c r : ℕ) → Ok N L F s → (links_of N).asks c r ≡ true → slot_at s.pages c r ≡ None
    → Near (links_of N) (slot_at s.pages) c r x → {d : ℕ} {y : End} (p : Place) → p ≡ place_of ((links_of N).par c) ((links_of N).start c + r) c → (z : Looking) → (y ≡ Tired → ⊥)
    → Looks (today L N M) w s d p y z → Post N L F s c r x w z
unfolding cleared
ask_at N G M L F s x w c r o a bare near p q z never (has e y t) =
    serves_post N G L F c r a M w x s o bare near e (subst (λ (v : Place). slot_in s v ≡ Some e) q y) (subst (λ (v : Place). Serves (today L N M) w v e false s z) q t)
ask_at N G M L F s x w c r o a bare near p q z never (zeros b k e) =
    let b' = subst (λ (v : Place). Alone (today L N M) s v) q b in
    let t = no_more N G M L F c r w a (sym (asks_same L N M _ _ c) ∙ b'.end) (beyond N G M L F c r w a b'.empty near) in
    rw e (record { still = λ a b out. refl; done = record { reading = k; nothing = t; same = refl } })
ask_at N G M L F s x w c r o a bare near p q z never (short b k f e) = rw e (record { still = λ a b out. refl; done = record { writing = k; step = step_same N G L F s s.told o; no_frame = f } })
ask_at N G M L F s x w c r o a bare near p q z never (stops g b k f i out e) =
    true_not (subst (λ (v : Place). halts_at (today L N M) v ≡ true) q out) (not_out N G ((links_of N).par c) ((links_of N).start c + r) (asked N G c r a).inside)
ask_at N G M L F s x w c r o a bare near p q z never (clears g b k f i out e) =
    let b' = subst (λ (v : Place). Alone (today L N M) s v) q b in
    let t = no_more N G M L F c r w a (sym (asks_same L N M _ _ c) ∙ b'.end) (beyond N G M L F c r w a b'.empty near) in
    rw e (record { still = λ a b out. refl; done = record { writing = k; nothing = t; free = f; result = refl } })
ask_at N G M L F s x w c r o a bare near p q z never (fills g b k f i e) =
    true_not (is_hidden N G M L F c r w a) (subst (λ (v : Place). hidden_of (node_at (today L N M) v) ≡ false) q i)
ask_at N G M L F s x w c r o a bare near p q z never (quits b e) = absurd (never refl)
ask_at N G M L F s x w c r o a bare near p q z never (rests b l e) =
    let b' = subst (λ (v : Place). Climbs (today L N M) s v) q b in
    let t = ask_at N G M L F s x w ((links_of N).par c) ((links_of N).start c + r) o (sym (asks_same L N M _ _ c) ∙ b'.on) b'.empty (beyond N G M L F c r w a b'.empty near)
    (up_of (today L N M) p) (ap (up_of (today L N M)) q) z never l in
    record { still = λ i j out. t.still i j (λ v. out (higher a v)); done = final_post N G M L F c r w a s x z.answer z.work e t.done }
ask_at N G M L F s x w c r o a bare near p q z never (falls f v b l i e) =
    let b' = subst (λ (v : Place). Climbs (today L N M) s v) q b in
    let t = ask_at N G M L F s x w ((links_of N).par c) ((links_of N).start c + r) o (sym (asks_same L N M _ _ c) ∙ b'.on) b'.empty (beyond N G M L F c r w a b'.empty near)
    (up_of (today L N M) p) (ap (up_of (today L N M)) q) (looking_of (Gave (NewPage f)) v) never l in
    rw e (record { still = λ i j out. t.still i j (λ v. out (higher a v)); done = t.done })
ask_at N G M L F s x w c r o a bare near p q z never (lands f v b l i e) =
    true_not (is_hidden N G M L F c r w a) (subst (λ (v : Place). hidden_of (node_at (today L N M) v) ≡ false) q i)
ask_at N G M L F s x w c r o a bare near p q z never (takes f u v b l t) =
    let b' = subst (λ (v : Place). Climbs (today L N M) s v) q b in
    let t' = subst (λ (g : Place). Serves (today L N M) w g (new_state f) u (kept_at v g f) z) q t in
    let h = ask_at N G M L F s x w ((links_of N).par c) ((links_of N).start c + r) o (sym (asks_same L N M _ _ c) ∙ b'.on) b'.empty (beyond N G M L F c r w a b'.empty near)
    (up_of (today L N M) p) (ap (up_of (today L N M)) q) (looking_of (Gave (CopyOnWrite f u)) v) never l in
    own_post N G M L F c r w a x s o bare v f h.done h.still t'

-- what the parent of c answers
pub ask : (N : List ℕ) (G : Ground N) (M : List ℕ) (L F : ℕ) (s : Work) (c r : ℕ) (x : Option ℕ) (w : Bool) → Ok N L F s → (links_of N).asks c r ≡ true → slot_at s.pages c r ≡ None
    → Near (links_of N) (slot_at s.pages) c r x → {d : ℕ} {y : End} (z : Looking) → (y ≡ Tired → ⊥) → Looks (today L N M) w s d (place_of ((links_of N).par c) ((links_of N).start c + r) c) y z
    → Post N L F s c r x w z
ask N G M L F s c r x w o a bare near z never l = ask_at N G M L F s x w c r o a bare near _ refl z never l
