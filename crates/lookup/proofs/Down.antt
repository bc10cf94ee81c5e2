-- The descent, level by level; and a cleared frame that goes straight to the object. Assumes nothing.
use Rattle.std.specs.Prelude.{Option, ℕ, Some, None, Err, Ok}
use mathlib.Core.Path.{◌≡◌, refl, sym, ap, ◌∙◌}
use mathlib.Core.Bool.{Bool, true, false, ◌&&◌, not}
use mathlib.Core.List.{List}
use Prim.Native.Nat.{ℕ, zero, suc, ◌<◌}
use native.Mathlib.Omega.{arith}
use Rattle.logic.proofs.Laws.{and_left, and_right}
use Rattle.logic.proofs.Means.{equal, split}
use Rattle.entry.specs.declared.PageState.{PageState}
use Rattle.node.specs.declared.Node.{Node}
use Rattle.node.specs.Node.{hidden_of, out_of}
use Rattle.tables.specs.Tables.{node_of}
use Rattle.frames.specs.Frames.{free_frame_in}
use Rattle.lookup.specs.Work.{Looked, Work, Looking, looking_of}
use Rattle.lookup.specs.declared.CommitResult.TheVariants.{NewPage}
use Rattle.lookup.specs.declared.LookupError.TheVariants.{Stopped}
use Rattle.lookup.specs.declared.Place.{Place}
use Rattle.lookup.specs.declared.End.{End}
use Rattle.lookup.specs.declared.End.TheVariants.{Has, Bare, Tired}
use Rattle.lookup.specs.Mode.{Mode, today, node_at, up, ups, halts_at}
use Rattle.lookup.specs.Level.{cleared, fresh_by, fresh_in, fresh, serve, pass_by, pass}
use Rattle.lookup.specs.Lookup.{look_in}
use Rattle.lookup.specs.Descent.{way, walk, top, descent, hidden_up}
use Rattle.lookup.proofs.Same.{look_same}
use Rattle.lookup.proofs.Join.{Final, descent_final}

module _ (m : Mode) (write : Bool) where
  pub down_final : (d : ℕ) (p : Place) {a : Looked} (w : Work) → Final m write a → looking_of a w ≡ descent m write d p (looking_of a w)
  down_final d p {a} w f = sym (descent_final m write d p a w f)

  -- where all nodes above p are hidden, a cleared frame passes them, and p keeps it
  module _ (g : ℕ) (v : Work) where
    falls : (d : ℕ) (q : Place) → ((j : ℕ) → j < d → hidden_of (node_at m (ups m j q)) ≡ true) → descent m write d q (looking_of (Ok (NewPage g)) v) ≡ looking_of (Ok (NewPage g)) v
    unfolding descent ups pass_by
    falls zero q h = refl
    falls (suc d) q h = ap (pass m write q) (falls d (up m q) (λ j l. h (suc j) (omega arith))) ∙ rw (h 0 (omega arith))

  all_hidden : (d : ℕ) (p : Place) → hidden_up m d p ≡ true → (j : ℕ) → j < d → hidden_of (node_at m (ups m (suc j) p)) ≡ true
  unfolding hidden_up
  all_hidden zero p h j l = absurd (omega arith)
  all_hidden (suc d) p h j l =
      split (equal j d)
      (λ e. rw e (and_right (hidden_up m d p) _ h))
      (λ ne. all_hidden d p (and_left (hidden_up m d p) _ h) j (omega arith))

  module _ (w : Work) (d : ℕ) (p : Place) (up-hidden : hidden_up m d p ≡ true) (leaf : hidden_of (node_at m p) ≡ false) (goes : halts_at m (ups m d p) ≡ false) where
    lands_by : (d : ℕ) → hidden_up m d p ≡ true → halts_at m (ups m d p) ≡ false → (f : Option ℕ) → fresh_by m.bytes f w p false false ≡ descent m write d p (fresh_by m.bytes f w (ups m d p) (hidden_of (node_at m (ups m d p))) (halts_at m (ups m d p)))
    unfolding fresh_by descent ups pass_by
    lands_by d h o None = down_final d p w tt
    lands_by zero h o (Some g) = rw (leaf, o)
    lands_by (suc d) h o (Some g) =
        rw (all_hidden (suc d) p h d (omega arith), o)
        (sym (ap (pass m write p) (falls g (cleared m.bytes w g) d (up m p) (λ j l. all_hidden (suc d) p h j (omega arith))) ∙ rw leaf))

    pub fresh_lands : fresh_in m.bytes write w p false false ≡ descent m write d p (fresh m write w (ups m d p))
    unfolding fresh_in
    fresh_lands = by write
      where
        by : (b : Bool) → fresh_in m.bytes b w p false false ≡ descent m write d p (fresh_in m.bytes b w (ups m d p) (hidden_of (node_at m (ups m d p))) (halts_at m (ups m d p)))
        by true = lands_by d up-hidden goes (free_frame_in w.used)
        by false = down_final d p w tt

-- the code's way: its tests as it makes them
module _ (N M : List ℕ) (write : Bool) (w : Work) (d : ℕ) (p q : Place) (there : q ≡ ups (today 4096 N M) d p) {n o : Node} (e : n ≡ node_of N p.node) (f : o ≡ node_of N q.node) {out : Bool} (k : out ≡ out_of o q.page) where
  pub lands : {h b : Bool} {r : Looking} → h ≡ hidden_up (today 4096 N M) d p → b ≡ hidden_of n → (h && not b && not out) ≡ true → r ≡ fresh_in 4096 write w p false false → r ≡ descent (today 4096 N M) write d p (fresh (today 4096 N M) write w q)
  lands {h} {b} {r} x y t c =
      let on = by h b out t in
      let goes : halts_at (today 4096 N M) (ups (today 4096 N M) d p) ≡ false = rw (← there, ← f) (sym k ∙ on.2) in
      let leaf : hidden_of (node_at (today 4096 N M) p) ≡ false = rw (← e) (sym y ∙ on.1) in
      c ∙ fresh_lands (today 4096 N M) write w d p (sym x ∙ on.0) leaf goes ∙ rw there
    where
      by : (h b o : Bool) → (h && not b && not o) ≡ true → (h ≡ true) × (b ≡ false) × (o ≡ false)
      by true false false t = (refl, refl, refl)
      by true true o t = let z : ◌≡◌ {A = ℕ} 0 1 = cc in absurd (omega arith)
      by true false true t = let z : ◌≡◌ {A = ℕ} 0 1 = cc in absurd (omega arith)
      by false b o t = let z : ◌≡◌ {A = ℕ} 0 1 = cc in absurd (omega arith)

  pub brings : {b : Bool} {a : Looked} {v : Work} {r : Looking} → b ≡ hidden_of o → looking_of a v ≡ fresh_in 4096 write w q b out → r ≡ descent (today 4096 N M) write d p (looking_of a v) → r ≡ descent (today 4096 N M) write d p (fresh (today 4096 N M) write w q)
  brings y c r = r ∙ ap (descent (today 4096 N M) write d p) (c ∙ rw (y, k, f))

-- the lookup, by the walk's end
module _ (m : Mode) (write : Bool) (w : Work) (p : Place) {d : ℕ} {x : End} {q : Place} (e : way d x ≡ walk m 64 w.pages p) (there : q ≡ ups m d p) where
  looked : (y : End) → x ≡ y → descent m write d p (top m write w q y) ≡ look_in m 64 write w p
  looked y z = sym (look_same m write w 64 p ∙ rw (← e, ← there, z))

  pub looked_has : (r : Looking) (s : PageState) → x ≡ Has s → r ≡ descent m write d p (serve m write q s false w) → r ≡ look_in m 64 write w p
  unfolding top
  looked_has r s z c = c ∙ looked (Has s) z

  pub looked_bare : (r : Looking) → x ≡ Bare → r ≡ descent m write d p (fresh m write w q) → r ≡ look_in m 64 write w p
  unfolding top
  looked_bare r z c = c ∙ looked Bare z

  pub looked_tired : x ≡ Tired → looking_of (Err Stopped) w ≡ look_in m 64 write w p
  unfolding top
  looked_tired z = down_final m write d p w tt ∙ looked Tired z
