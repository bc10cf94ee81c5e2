-- A free frame is taken, or an entry's tag changed; and how many frames are free. Assumes nothing.
use Rattle.std.specs.Prelude.{Some, None}
use mathlib.Core.Path.{◌≡◌, refl, sym, ap, ◌∙◌, subst}
use mathlib.Core.Bool.{Bool, true, false}
use mathlib.Core.List.{List}
use Prim.Native.Nat.{ℕ, zero, suc, ◌+◌, ◌≤◌, ◌<◌}
use native.Mathlib.Omega.{arith}
use lib.Dec.{eqb, ltb}
use lib.ListN.{length, get_or, set, length-set}
use lib.Seq.{get_or-set_same, get_or-set_other}
use borrow.Author.Tests.{eqb-true, ltb-true, lt-ltb}
use Rattle.logic.specs.Pick.{pick}
use Rattle.logic.specs.Below.{sum_below, first_from}
use Rattle.logic.proofs.Means.{equal, split}
use Rattle.logic.proofs.Laws.{and_left, and_right, first_below}
use Rattle.entry.specs.declared.PageState.{PageState}
use Rattle.entry.specs.declared.PageStateTag.{PageStateTag}
use Rattle.entry.specs.Entry.{tagged_of}
use Rattle.frames.specs.Frames.{idle_of, one_idle, free_count, free_frame_in}
use Rattle.sound.specs.Facts.{Hidden, Holds, Stands, Entries}
use Rattle.lookups.proofs.Spots.{held_one, Spot, spot}
use Rattle.lookups.proofs.Spots.Spot.{there, elsewhere}
use Rattle.lookups.proofs.Table.{Wrote, others}
use Rattle.lookups.proofs.Rows.{Rows, Fit, either, rows_wrote, rows_of, Loose}

-- a search finds what it looks for, or there is none

holds_by : (f : ℕ → Bool) (k n i : ℕ) (b : Bool) → f k ≡ b → ((k i : ℕ) → first_from f k n ≡ Some i → f i ≡ true) → pick b (Some k) (first_from f (k + 1) n) ≡ Some i → f i ≡ true
holds_by f k n i true t ih e = let h : k ≡ i = cc in rw (← h) t
holds_by f k n i false t ih e = ih (k + 1) i e

first_holds : (f : ℕ → Bool) (k n i : ℕ) → first_from f k n ≡ Some i → f i ≡ true
unfolding first_from
first_holds f k zero i e = let z : ◌≡◌ {A = ℕ} 0 1 = cc in absurd (omega arith)
first_holds f k (suc n) i e = holds_by f k n i (f k) refl (λ k i h. first_holds f k n i h) e

none_by : (f : ℕ → Bool) (k n j : ℕ) (b : Bool) → f k ≡ b → ((k : ℕ) → first_from f k n ≡ None → (j : ℕ) → k ≤ j → j < k + n → f j ≡ false) → pick b (Some k) (first_from f (k + 1) n) ≡ None → k ≤ j → j < k + suc n → f j ≡ false
none_by f k n j true t ih e l m = let z : ◌≡◌ {A = ℕ} 0 1 = cc in absurd (omega arith)
none_by f k n j false t ih e l m = split (equal j k) (λ h. rw h t) (λ ne. ih (k + 1) e j (omega arith) (omega arith))

first-none : (f : ℕ → Bool) (k n : ℕ) → first_from f k n ≡ None → (j : ℕ) → k ≤ j → j < k + n → f j ≡ false
unfolding first_from
first-none f k zero e j l m = absurd (omega arith)
first-none f k (suc n) e j l m = none_by f k n j (f k) refl (λ k h j. first-none f k n h j) e l m

-- a free frame

pub record Idle (U : List ℕ) (g : ℕ) : Type 0 where
  pub below : g < length U
  pub flag : get_or U g 0 ≡ 0

pub free_idle : (U : List ℕ) (g : ℕ) → free_frame_in U ≡ Some g → Idle U g
unfolding free_frame_in idle_of
free_idle U g e =
    let h = first_holds (idle_of U) 0 1024 g e in
    let a = ltb g (length U) in
    let b = eqb (get_or U g 0) 0 in
    record { below = ltb-true g (length U) (and_left a b h); flag = eqb-true (get_or U g 0) 0 (and_right a b h) }

-- one frame less is free

sum_agree : (f f' : ℕ → ℕ) (m : ℕ) → ((j : ℕ) → j < m → f j ≡ f' j) → sum_below f m ≡ sum_below f' m
unfolding sum_below
sum_agree f f' zero h = refl
sum_agree f f' (suc m) h = rw (sum_agree f f' m (λ j l. h j (omega arith)), h m (omega arith))

sum_one : (f f' : ℕ → ℕ) (m g : ℕ) → g < m → f g ≡ f' g + 1 → ((j : ℕ) → (j ≡ g → ⊥) → f j ≡ f' j) → sum_below f m ≡ sum_below f' m + 1
unfolding sum_below
sum_one f f' zero g l e h = absurd (omega arith)
sum_one f f' (suc m) g l e h =
    split (equal g m)
    (λ d. let q = sum_agree f f' m (λ j k. h j (λ z. omega arith)) in let p : f m ≡ f' m + 1 = rw d at e in omega arith)
    (λ ne. let q = sum_one f f' m g (omega arith) e h in let p = h m (λ z. ne (sym z)) in omega arith)

idle_one : (U : List ℕ) (g : ℕ) → idle_of U g ≡ true → one_idle U g ≡ 1
unfolding one_idle
idle_one U g h = rw h

set_busy : (U : List ℕ) (g : ℕ) → g < length U → one_idle (set U g 1) g ≡ 0
unfolding one_idle idle_of
set_busy U g l = rw (get_or-set_same U g 1 0 l, length-set U g 1, lt-ltb g (length U) l)

set_other : (U : List ℕ) (g j : ℕ) → (j ≡ g → ⊥) → one_idle U j ≡ one_idle (set U g 1) j
unfolding one_idle idle_of
set_other U g j ne = rw (get_or-set_other U g j 1 0 ne, length-set U g 1)

pub one_less : (U : List ℕ) (g : ℕ) → free_frame_in U ≡ Some g → free_count U ≡ free_count (set U g 1) + 1
unfolding free_frame_in free_count
one_less U g e =
    let i = free_idle U g e in
    let a = idle_one U g (first_holds (idle_of U) 0 1024 g e) in
    let b = set_busy U g i.below in
    sum_one (one_idle U) (one_idle (set U g 1)) 1024 g (let q = first_below (idle_of U) 0 1024 g e in omega arith) (omega arith) (set_other U g)

none_idle : (U : List ℕ) (j : ℕ) → idle_of U j ≡ false → one_idle U j ≡ 0
unfolding one_idle
none_idle U j h = rw h

zero_sum : (m : ℕ) → sum_below (λ j. 0) m ≡ 0
unfolding sum_below
zero_sum zero = refl
zero_sum (suc m) = let q = zero_sum m in omega arith

pub none_free : (U : List ℕ) → free_frame_in U ≡ None → free_count U ≡ 0
unfolding free_frame_in free_count
none_free U e = sum_agree (one_idle U) (λ j. 0) 1024 (λ j l. none_idle U j (first-none (idle_of U) 0 1024 e j (omega arith) (omega arith))) ∙ zero_sum 1024

-- the frame in use stands nowhere yet

module _ {N P U : List ℕ} {g : ℕ} (e : Entries N P U) (i : Idle U g) where
  pub not_idle : (n j : ℕ) (s : PageState) → Holds P n j s → s.frame ≡ g → ⊥
  not_idle n j s h d = let a = rw d at (e.in_use n j s h) in let b = i.flag in omega arith

  flag_by : (f : ℕ) → get_or (set U g 1) f 0 ≤ 1
  flag_by f =
      split (equal f g)
      (λ d. let q = get_or-set_same U g 1 0 i.below in rw d (omega arith))
      (λ ne. let q = get_or-set_other U g f 1 0 ne in let p = e.flags f in omega arith)

  pub frame_taken : Loose N P (set U g 1) g
  frame_taken =
      let len = length-set U g 1 in
      let b = i.below in
      record {
        rows = subst (λ (F : ℕ). Rows N P F) (sym len) (rows_of e);
        once = e.once;
        stands = λ f l u ne. e.stands f (omega arith) (sym (get_or-set_other U g f 1 0 ne) ∙ u);
        in_use = λ n j s h. get_or-set_other U g s.frame 1 0 (not_idle n j s h) ∙ e.in_use n j s h;
        flags = flag_by;
        frame = omega arith;
        taken = get_or-set_same U g 1 0 b;
        nowhere = not_idle;
      }

-- a hidden node's entry gets another tag

module _ {N P P' U : List ℕ} {h q g : ℕ} {s : PageState} {t : PageStateTag} (e : Loose N P U g) (x : Holds P h q s) (k : Hidden N h) (w : Wrote P P' h q (Some (tagged_of s t))) where
  before : (n i : ℕ) (u : PageState) → Holds P' n i u → (v : PageState) × Holds P n i v × (v.frame ≡ u.frame)
  before n i u y = either w n i u y (λ a b z. (s, rw (a, b) x, ap (λ (v : PageState). v.frame) (held_one z))) (λ ne z. (u, z, refl))

  still_stands : (f : ℕ) → Stands P f → Stands P' f
  still_stands f a = by (spot a.node a.page h q)
    where
      frame_is : (v : PageState) → Some v ≡ Some s → v.frame ≡ s.frame
      frame_is v z = rw (held_one z)

      by : Spot a.node a.page h q → Stands P' f
      by (there c d) = record { node = h; page = q; state = tagged_of s t; holds = w.same; frame = sym (frame_is a.state (sym a.holds ∙ (rw (c, d) x))) ∙ a.frame }
      by (elsewhere ne) = record { node = a.node; page = a.page; state = a.state; holds = others w a.node a.page ne ∙ a.holds; frame = a.frame }

  fit : (u : PageState) → tagged_of s t ≡ u → Fit N (length U) h q u
  fit u z = rw (← z) (record { frame = e.rows.frames h q s x; below = e.rows.below h q s x; leaves = λ no. absurd (no k); pins = e.rows.hidden_pins h q s k x })

  pub retagged : Loose N P' U g
  retagged =
      record {
        rows = rows_wrote w N (length U) e.rows (λ u z. fit u (held_one z));
        once = λ n i m j u v y z d. let a = before n i u y in let b = before m j v z in e.once n i m j a.0 b.0 a.1 b.1 (a.2 ∙ d ∙ sym b.2);
        stands = λ f l u ne. still_stands f (e.stands f l u ne);
        in_use = λ n i u y. let a = before n i u y in rw (← a.2) (e.in_use n i a.0 a.1);
        flags = e.flags;
        frame = e.frame;
        taken = e.taken;
        nowhere = λ n i u y d. let a = before n i u y in e.nowhere n i a.0 a.1 (a.2 ∙ d);
      }

-- a free frame taken and given back leaves as many free

back_same : (U : List ℕ) (g j : ℕ) → Idle U g → get_or (set (set U g 1) g 0) j 0 ≡ get_or U j 0
back_same U g j i =
    let a = length-set U g 1 in
    let b = i.below in
    split (equal j g)
    (λ e. rw e (get_or-set_same (set U g 1) g 0 0 (omega arith) ∙ sym i.flag))
    (λ ne. get_or-set_other (set U g 1) g j 0 0 ne ∙ get_or-set_other U g j 1 0 ne)

back_idle : (U : List ℕ) (g j : ℕ) → Idle U g → one_idle (set (set U g 1) g 0) j ≡ one_idle U j
unfolding one_idle idle_of
back_idle U g j i = rw (back_same U g j i, length-set (set U g 1) g 0, length-set U g 1)

pub back_free : (U : List ℕ) (g : ℕ) → free_frame_in U ≡ Some g → free_count (set (set U g 1) g 0) ≡ free_count U
unfolding free_count
back_free U g e = sum_agree (one_idle (set (set U g 1) g 0)) (one_idle U) 1024 (λ j l. back_idle U g j (free_idle U g e))
