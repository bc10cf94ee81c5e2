-- A leaf's own lookup: every leaf reads as before, and a frame given for writing is the leaf's own. Assumes nothing.
use Rattle.std.specs.Prelude.{Option, ℕ, Some, None, Err, Ok as Gave}
use mathlib.Core.Path.{◌≡◌, refl, sym, ◌∙◌, subst}
use mathlib.Core.Bool.{Bool, false}
use mathlib.Core.List.{List}
use Prim.Native.Nat.{ℕ, ◌<◌}
use native.Mathlib.Omega.{arith}
use borrow.Author.Tests.{ne_eqb}
use Rattle.entry.specs.declared.PageState.{PageState}
use Rattle.entry.specs.Entry.{new_state}
use Rattle.node.specs.Node.{hidden_of}
use Rattle.tables.specs.Tables.{node_of, slot_at}
use Rattle.lookup.specs.Work.{Looked, Work, Looking, looking_of}
use Rattle.lookup.specs.declared.CommitResult.TheVariants.{Ref, Zero, CopyOnWrite, NewPage}
use Rattle.lookup.specs.declared.LookupError.TheVariants.{NoMemory, Stopped}
use Rattle.lookup.specs.declared.End.{End}
use Rattle.lookup.specs.declared.End.TheVariants.{Tired}
use Rattle.lookup.specs.Mode.{today, place_of, up}
use Rattle.lookup.specs.Level.{with_told, kept, cleared, leaf_told}
use Rattle.lookup.proofs.Join.{Final}
use Rattle.lookup.proofs.Ways.{Serves}
use Rattle.lookup.proofs.Ways.Serves.{keeps, goes, moves, copies, lacks, lends}
use Rattle.lookup.proofs.Looks.{Looks, Alone, Asked}
use Rattle.lookup.proofs.Looks.Looks.{has, zeros, short, stops, clears, fills, quits, rests, falls, lands, takes}
use Rattle.sound.specs.Facts.{Leaf, Holds}
use Rattle.isolation.specs.Walk.{Near, View, Over}
use Rattle.isolation.specs.Walk.Near.{none, here, up as higher}
use Rattle.isolation.specs.Walk.View.{own, above}
use Rattle.isolation.specs.Private.{links_of}
use Rattle.isolation.proofs.Wood.{Ground, leaf_kind}
use Rattle.isolation.proofs.State.{Alike, Step, step_same, step_then, kept_wrote}
use Rattle.isolation.proofs.Done.{Fresh, Post, Served}
use Rattle.isolation.proofs.Fresh.{fresh_step}
use Rattle.isolation.proofs.Ask.{asks_same, ask}
use Rattle.lookups.proofs.Spots.{held_one, held_not}
use Rattle.logic.proofs.Laws.{true_not}
use Rattle.lookups.proofs.Table.{Wrote, others}
use Rattle.lookups.proofs.Frames.{free_idle}
use Rattle.lookups.proofs.Bytes.{cleared_same}
use Rattle.lookups.proofs.Ok.{Ok}

module _ (N : List ℕ) (G : Ground N) (M : List ℕ) (L F : ℕ) (l p : ℕ) (leaf : Leaf N l) (size : p < (node_of N l).size) (s : Work) (x : Option ℕ) (w : Bool) (asker : ℕ) (o : Ok N L F s)
    (view : View (links_of N) (slot_at s.pages) l p x) where
  not_hidden : hidden_of (node_of N l) ≡ false
  not_hidden = ne_eqb (node_of N l).kind 3 (leaf_kind N G l leaf)

  own_by : (e : PageState) → Holds s.pages l p e → View (links_of N) (slot_at s.pages) l p x → x ≡ Some e.frame
  own_by e y (own {s = d} h b) = let i : d ≡ e = held_one (sym h ∙ y) in rw i at b
  own_by e y (above h d) = absurd (held_not y h)

  above_by : slot_at s.pages l p ≡ None → View (links_of N) (slot_at s.pages) l p x → Near (links_of N) (slot_at s.pages) l p x
  above_by y (own h b) = absurd (held_not h y)
  above_by y (above h d) = d

  -- the leaf has the page, of its own or as it was handed down
  serves_served : (q : Work) (e : PageState) {u : Bool} {z : Looking} → Step N L F s q → Holds q.pages l p e → Alike L s.memory q.memory x (Some e.frame) → e.frame < F
      → ((a b : ℕ) → (a ≡ l → b ≡ p → ⊥) → (Over (links_of N) l p a b → ⊥) → slot_at q.pages a b ≡ slot_at s.pages a b) → (w ≡ false → q.used ≡ s.used)
      → Serves (today L N M) w (place_of l p asker) e u q z → Served N L F s l p x w z
  serves_served q e {u} t h b f only d (keeps n z) =
      rw z
      (record {
        step = step_then N G L F s q (with_told q (leaf_told M l p u q.told)) t (step_same N G L F q (leaf_told M l p u q.told) t.ok);
        only = only;
        says = record { bytes = b; frame = f; own = λ k. (e, h, refl); untaken = d };
      })
  serves_served q e t h b f only d (goes n k z) = true_not n not_hidden
  serves_served q e t h b f only d (moves n k i z) = true_not n not_hidden
  serves_served q e t h b f only d (copies n k i j g y z) = true_not n not_hidden
  serves_served q e t h b f only d (lacks n k i j y z) = true_not n not_hidden
  serves_served q e t h b f only d (lends n k i j z) = true_not n not_hidden

  -- a cleared frame, which the leaf keeps
  fresh_served : (g : ℕ) (q : Work) → slot_at s.pages l p ≡ None → Fresh L s x w g q → Served N L F s l p x w (looking_of (Gave (Ref g)) (kept q l p g))
  fresh_served g q bare d =
      subst (λ (v : Work). Served N L F s l p x w (looking_of (Gave (Ref g)) (kept v l p g))) (sym d.result)
      (record {
        step = fresh_step N G L F l p leaf size s o bare zero_view g d.free;
        only = λ a b ne out. others at_leaf a b ne;
        says = record {
          bytes = rw d.nothing (cleared_same L F s.memory o.memory g in_F);
          frame = in_F;
          own = λ k. (new_state g, at_leaf.same, refl);
          untaken = λ k. true_not d.writing k;
        };
      })
    where
      zero_view : View (links_of N) (slot_at s.pages) l p None
      zero_view = rw d.nothing at view

      in_F : g < F
      in_F = let i = (free_idle s.used g d.free).below in let u = o.used in omega arith

      at_leaf : Wrote s.pages (kept s l p g).pages l p (Some (new_state g))
      at_leaf = kept_wrote N G L F s l p g o.pages size (let k = o.few in let i = in_F in omega arith)

  -- an answer of the parent's that ends the lookup
  final_served : (z : Looked) (q : Work) → Final (today L N M) w z → Post N L F s l p x w (looking_of z q) → Served N L F s l p x w (looking_of z q)
  final_served (Gave (Ref f)) q e d =
      let t = d.done in
      record { step = t.step; only = λ a b ne out. d.still a b out; says = record { bytes = t.bytes; frame = t.frame; own = λ k. true_not k t.reading; untaken = λ k. t.untaken } }
  final_served (Gave Zero) q e d =
      let t = d.done in
      subst (λ (v : Work). Served N L F s l p x w (looking_of (Gave Zero) v)) (sym t.same)
      (record { step = step_same N G L F s s.told o; only = λ a b ne out. refl; says = record { reading = t.reading; nothing = t.nothing; same = refl } })
  final_served (Err NoMemory) q e d = let t = d.done in record { step = t.step; only = λ a b ne out. d.still a b out; says = record { writing = t.writing; no_frame = t.no_frame } }
  final_served (Err Stopped) q e d = absurd d.done
  final_served (Gave (CopyOnWrite f u)) q e d = absurd e
  final_served (Gave (NewPage f)) q e d = absurd e

  no_more : (links_of N).asks l p ≡ false → Near (links_of N) (slot_at s.pages) l p x → x ≡ None
  no_more z (none a e) = e
  no_more z (here a k t b) = true_not a z
  no_more z (higher a k d) = true_not a z

  nothing_by : Alone (today L N M) s (place_of l p asker) → x ≡ None
  nothing_by b = no_more (sym (asks_same L N M l p asker) ∙ b.end) (above_by b.empty view)

  parent_post : {d : ℕ} {y : End} (z : Looking) → (y ≡ Tired → ⊥) → Asked (today L N M) s (place_of l p asker) → Looks (today L N M) w s d (up (today L N M) (place_of l p asker)) y z → Post N L F s l p x w z
  parent_post z never b k = ask N G M L F s l p x w o (sym (asks_same L N M l p asker) ∙ b.on) b.empty (above_by b.empty view) z never k

  pub served : {d : ℕ} {y : End} (z : Looking) → (y ≡ Tired → ⊥) → Looks (today L N M) w s d (place_of l p asker) y z → Served N L F s l p x w z
  unfolding cleared
  served z never (has e y t) =
      let b = own_by e y view in
      serves_served s e (step_same N G L F s s.told o) y (rw b (λ j h. refl)) (let i = o.entries.frames l p e y in let u = o.used in omega arith) (λ a b ne out. refl) (λ j. refl) t
  served z never (zeros b k e) =
      let t = nothing_by b in
      rw e (record { step = step_same N G L F s s.told o; only = λ a b ne v. refl; says = record { reading = k; nothing = t; same = refl } })
  served z never (short b k f e) = rw e (record { step = step_same N G L F s s.told o; only = λ a b ne v. refl; says = record { writing = k; no_frame = f } })
  served z never (stops g b k f h out e) = true_not h not_hidden
  served z never (clears g b k f h out e) = true_not h not_hidden
  served z never (fills g b k f h e) = let t = nothing_by b in rw e (fresh_served g (cleared L s g) b.empty (record { writing = k; nothing = t; free = f; result = refl }))
  served z never (quits b e) = absurd (never refl)
  served z never (rests b k e) = final_served z.answer z.work e (parent_post z never b k)
  served z never (falls f v b k h e) = true_not h not_hidden
  served z never (lands f v b k h e) = rw e (fresh_served f v b.empty (parent_post (looking_of (Gave (NewPage f)) v) never b k).done)
  served z never (takes f u v b k t) =
      let d = parent_post (looking_of (Gave (CopyOnWrite f u)) v) never b k in
      let m = d.done in
      let wrote = kept_wrote N G L F v l p f m.pages size (let k = o.few in let i = m.frame in omega arith) in
      serves_served (kept v l p f) (new_state f) m.step wrote.same m.bytes m.frame (λ a b ne out. others wrote a b ne ∙ d.still a b out) m.untaken t
