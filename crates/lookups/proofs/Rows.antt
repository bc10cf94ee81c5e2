-- The facts of the page entries, kept as a frame is taken out of one entry and stands in another. Assumes nothing.
use Rattle.std.specs.Prelude.{Option, None, Some}
use mathlib.Core.Path.{◌≡◌, refl, sym, ◌∙◌}
use mathlib.Core.List.{List}
use Prim.Native.Nat.{ℕ, ◌≤◌, ◌<◌}
use native.Mathlib.Omega.{arith}
use lib.ListN.{length, get_or}
use Rattle.logic.specs.Below.{sum_below}
use Rattle.logic.proofs.Means.{equal, split}
use Rattle.entry.specs.declared.PageState.{PageState}
use Rattle.entry.specs.declared.PageStateTag.TheVariants.{Owned}
use Rattle.entry.specs.Entry.{entry_word, new_state}
use Rattle.tables.specs.Tables.{node_of, entry_of, slot_at}
use Rattle.sound.specs.Facts.{Hidden, Holds, pins_of, Stands, Entries}
use Rattle.soundness.proofs.Sums.{sum_le}
use Rattle.lookups.proofs.Spots.{held_one, held_not, Spot, spot}
use Rattle.lookups.proofs.Spots.Spot.{there, elsewhere}
use Rattle.lookups.proofs.Table.{Wrote, others}

-- the facts of single entries and rows, in a pool of F frames

pub record Rows (N P : List ℕ) (F : ℕ) : Type 0 where
  pub leaves : (n i : ℕ) (s : PageState) → (Hidden N n → ⊥) → Holds P n i s → s.tag ≡ Owned
  pub below : (n i : ℕ) (s : PageState) → Holds P n i s → i < (node_of N n).size
  pub pins : (n i : ℕ) (s : PageState) → Holds P n i s → s.pin_count ≤ 31
  pub hidden_pins : (n i : ℕ) (s : PageState) → Hidden N n → Holds P n i s → s.pin_count ≡ 0
  pub pin_sum : (n : ℕ) → sum_below (λ i. pins_of (slot_at P n i)) 64 ≤ (node_of N n).pin_count
  pub frames : (n i : ℕ) (s : PageState) → Holds P n i s → s.frame < F
  pub empty : (n i : ℕ) → slot_at P n i ≡ None → entry_of P n i ≡ 0
  pub held : (n i : ℕ) (s : PageState) → Holds P n i s → entry_of P n i ≡ entry_word s

-- an entry without pins that may stand at page r of node c
pub record Fit (N : List ℕ) (F c r : ℕ) (s : PageState) : Type 0 where
  pub frame : s.frame < F
  pub below : r < (node_of N c).size
  pub leaves : (Hidden N c → ⊥) → s.tag ≡ Owned
  pub pins : s.pin_count ≡ 0

no_pins : (N : List ℕ) (F c r : ℕ) (y : Option PageState) → ((s : PageState) → y ≡ Some s → Fit N F c r s) → pins_of y ≡ 0
no_pins N F c r None fit = refl
no_pins N F c r (Some s) fit = (fit s refl).pins

-- what holds of each entry before and of the new one holds of each after
module _ {P P' : List ℕ} {c r : ℕ} {y : Option PageState} (w : Wrote P P' c r y) where
  pub either : {A : Type 0} (n i : ℕ) (s : PageState) → Holds P' n i s → (n ≡ c → i ≡ r → y ≡ Some s → A) → ((n ≡ c → i ≡ r → ⊥) → Holds P n i s → A) → A
  either {A} n i s h f g = by (spot n i c r)
    where
      by : Spot n i c r → A
      by (there a b) = f a b (sym w.same ∙ (rw (a, b) at h))
      by (elsewhere ne) = g ne (sym (others w n i ne) ∙ h)

  either_empty : {A : Type 0} (n i : ℕ) → slot_at P' n i ≡ None → (n ≡ c → i ≡ r → y ≡ None → A) → ((n ≡ c → i ≡ r → ⊥) → slot_at P n i ≡ None → A) → A
  either_empty {A} n i h f g = by (spot n i c r)
    where
      by : Spot n i c r → A
      by (there a b) = f a b (sym w.same ∙ (rw (a, b) at h))
      by (elsewhere ne) = g ne (sym (others w n i ne) ∙ h)

  module _ (N : List ℕ) (F : ℕ) (o : Rows N P F) (fit : (s : PageState) → y ≡ Some s → Fit N F c r s) where
    pins_less : (n i : ℕ) → pins_of (slot_at P' n i) ≤ pins_of (slot_at P n i)
    pins_less n i = by (spot n i c r)
      where
        by : Spot n i c r → pins_of (slot_at P' n i) ≤ pins_of (slot_at P n i)
        by (there a b) = let q = no_pins N F c r y fit in let e : pins_of (slot_at P' n i) ≡ 0 = rw (a, b, w.same) q in omega arith
        by (elsewhere ne) = rw (others w n i ne) (omega arith)

    pub rows_wrote : Rows N P' F
    rows_wrote =
        record {
          leaves = λ n i s k h. either n i s h (λ a b e. (fit s e).leaves (rw a at k)) (λ ne g. o.leaves n i s k g);
          below = λ n i s h. either n i s h (λ a b e. rw (a, b) (fit s e).below) (λ ne g. o.below n i s g);
          pins = λ n i s h. either n i s h (λ a b e. let q = (fit s e).pins in omega arith) (λ ne g. o.pins n i s g);
          hidden_pins = λ n i s k h. either n i s h (λ a b e. (fit s e).pins) (λ ne g. o.hidden_pins n i s k g);
          pin_sum = λ n.
              let q = sum_le (λ i. pins_of (slot_at P' n i)) (λ i. pins_of (slot_at P n i)) 64 (pins_less n) in
              let p = o.pin_sum n in
              omega arith;
          frames = λ n i s h. either n i s h (λ a b e. (fit s e).frame) (λ ne g. o.frames n i s g);
          empty = λ n i h. either_empty n i h (λ a b e. rw (a, b, w.word, e)) (λ ne g. w.words n i ne ∙ o.empty n i g);
          held = λ n i s h. either n i s h (λ a b e. rw (a, b, w.word, e)) (λ ne g. w.words n i ne ∙ o.held n i s g);
        }

pub rows_of : {N P U : List ℕ} → Entries N P U → Rows N P (length U)
rows_of e =
    record {
      leaves = e.leaves;
      below = e.below;
      pins = e.pins;
      hidden_pins = e.hidden_pins;
      pin_sum = e.pin_sum;
      frames = e.frames;
      empty = e.empty;
      held = e.held;
    }

-- the same, but that frame f is in use and stands in no entry

pub record Loose (N P U : List ℕ) (f : ℕ) : Type 0 where
  pub rows : Rows N P (length U)
  pub once : (n i m j : ℕ) (s t : PageState) → Holds P n i s → Holds P m j t → s.frame ≡ t.frame → (n ≡ m) × (i ≡ j)
  pub stands : (g : ℕ) → g < length U → get_or U g 0 ≡ 1 → (g ≡ f → ⊥) → Stands P g
  pub in_use : (n i : ℕ) (s : PageState) → Holds P n i s → get_or U s.frame 0 ≡ 1
  pub flags : (g : ℕ) → get_or U g 0 ≤ 1
  pub frame : f < length U
  pub taken : get_or U f 0 ≡ 1
  pub nowhere : (n i : ℕ) (s : PageState) → Holds P n i s → s.frame ≡ f → ⊥

no_held : {A : Type 0} {s : PageState} → None ≡ Some s → A
no_held h = absurd (held_not h refl)

module _ {N P P' U : List ℕ} {c r : ℕ} where
  -- the entry at (c, r) is taken out
  pub taken_out : {s : PageState} → Entries N P U → Holds P c r s → Wrote P P' c r None → Loose N P' U s.frame
  taken_out {s} e h w =
      record {
        rows = rows_wrote w N (length U) (rows_of e) (λ t q. no_held q);
        once = λ n i m j t u g k q. e.once n i m j t u (back n i t g) (back m j u k) q;
        stands = λ g l u ne.
            let t = e.stands g l u in
            let d : t.node ≡ c → t.page ≡ r → ⊥ = λ a b. ne (sym t.frame ∙ frame_is t.state (sym t.holds ∙ (rw (a, b) h))) in
            record { node = t.node; page = t.page; state = t.state; holds = others w t.node t.page d ∙ t.holds; frame = t.frame };
        in_use = λ n i t g. e.in_use n i t (back n i t g);
        flags = e.flags;
        frame = e.frames c r s h;
        taken = e.in_use c r s h;
        nowhere = λ n i t g q. either w n i t g (λ a b z. no_held z) (λ ne k. let z = e.once n i c r t s k h q in ne z.0 z.1);
      }
    where
      frame_is : (t : PageState) → Some t ≡ Some s → t.frame ≡ s.frame
      frame_is t q = rw (held_one q)

      back : (n i : ℕ) (t : PageState) → Holds P' n i t → Holds P n i t
      back n i t g = either w n i t g (λ a b q. no_held q) (λ ne k. k)

  -- frame f comes to stand at (c, r)
  pub put_in : {f : ℕ} → Loose N P U f → slot_at P c r ≡ None → r < (node_of N c).size → Wrote P P' c r (Some (new_state f)) → Entries N P' U
  put_in {f} e z l w =
      let rows = rows_wrote w N (length U) e.rows (λ t q. fits t (held_one q)) in
      record {
        once = λ n i m j t u g k q.
            either w n i t g
            (λ a b x. either w m j u k (λ c d y. (a ∙ sym c, b ∙ sym d)) (λ ne y. absurd (e.nowhere m j u y (sym q ∙ frame_is t (held_one x)))))
            (λ ne x. either w m j u k (λ c d y. absurd (e.nowhere n i t x (q ∙ frame_is u (held_one y)))) (λ ne y. e.once n i m j t u x y q));
        stands = λ g l u. split (equal g f) (λ d. new g d) (λ ne. old g (e.stands g l u ne));
        in_use = λ n i t g. either w n i t g (λ a b x. rw (frame_is t (held_one x)) e.taken) (λ ne x. e.in_use n i t x);
        leaves = rows.leaves;
        below = rows.below;
        pins = rows.pins;
        hidden_pins = rows.hidden_pins;
        pin_sum = rows.pin_sum;
        frames = rows.frames;
        flags = e.flags;
        empty = rows.empty;
        held = rows.held;
      }
    where
      frame_is : (t : PageState) → new_state f ≡ t → t.frame ≡ f
      frame_is t q = rw (← q)

      fits : (t : PageState) → new_state f ≡ t → Fit N (length U) c r t
      fits t q = rw (← q) (record { frame = e.frame; below = l; leaves = λ k. refl; pins = refl })

      new : (g : ℕ) → g ≡ f → Stands P' g
      new g d = record { node = c; page = r; state = new_state f; holds = w.same; frame = sym d }

      old : (g : ℕ) → Stands P g → Stands P' g
      old g t =
          let d : t.node ≡ c → t.page ≡ r → ⊥ = λ a b. held_not t.holds (rw (a, b) z) in
          record { node = t.node; page = t.page; state = t.state; holds = others w t.node t.page d ∙ t.holds; frame = t.frame }
