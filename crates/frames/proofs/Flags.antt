-- Laws of the flags that are frames', the first 1,024. Assumes nothing.
use Rattle.std.specs.Prelude.{Option, None, Some, ◌≢◌}
use Rattle.std.specs.List.{between, count_by, position, position_or_len}
use Rattle.std.proofs.lemmas.List.{length-take, get_or-take, take_all}
use Rattle.std.proofs.lemmas.List.Edits.{length-between, get_or-between}
use Rattle.std.proofs.lemmas.List.Quantifiers.{position-Some}
use Rattle.std.proofs.lemmas.List.Sums.{count_by_more_yes, count_by_more_no, fails_before_first}
use mathlib.Core.Path.{◌≡◌, refl, sym, ◌∙◌}
use mathlib.Core.Bool.{Bool, true, false, cond}
use mathlib.Core.List.{List}
use Prim.Native.Nat.{ℕ, zero, suc, ◌+◌, ◌-◌, ◌≤◌, ◌<◌}
use native.Mathlib.Omega.{arith}
use native.Mathlib.Numerals.{add-one}
use lib.Dec.{eqb, ltb}
use lib.ListN.{length, get_or, take}
use borrow.Author.Tests.{eqb-true, eqb-false, eq-eqb, ne_eqb, lt-ltb, le-ltb, ltb-false}
use Rattle.logic.specs.Below.{sum_below}
use Rattle.logic.proofs.Means.{less, split}
use Rattle.logic.proofs.Ranges.{first_is}
use Rattle.frames.specs.Frames.{idle_of, one_idle, free_count, free_frame_in}

abbrev pub flags_of : List ℕ → List ℕ
flags_of used = take 1024 used

module _ (used : List ℕ) (f : ℕ) where
  idle : f < length (flags_of used) → get_or (flags_of used) f 0 ≡ 0 → idle_of used f ≡ true
  unfolding idle_of
  idle h e =
      let l = length-take 1024 used in
      let n : f < length used = omega arith in
      let k : f < 1024 = omega arith in
      simp (lt-ltb _ _ n, eq-eqb _ _ (rw (get_or-take 1024 used f 0 k) at e))

  busy : f < length (flags_of used) → get_or (flags_of used) f 0 ≢ 0 → idle_of used f ≡ false
  unfolding idle_of
  busy h e =
      let l = length-take 1024 used in
      let n : f < length used = omega arith in
      let k : f < 1024 = omega arith in
      simp (lt-ltb _ _ n, ne_eqb _ _ (rw (get_or-take 1024 used f 0 k) at e))

  past : length (flags_of used) ≤ f → f < 1024 → idle_of used f ≡ false
  unfolding idle_of
  past h k = let l = length-take 1024 used in simp (le-ltb f (length used) (omega arith))

  one_by : f < length (flags_of used) → (b : Bool) → eqb (get_or (flags_of used) f 0) 0 ≡ b → cond b 1 0 ≡ one_idle used f
  unfolding one_idle
  one_by h true t = rw (idle h (eqb-true _ _ t))
  one_by h false t = rw (busy h (eqb-false _ _ t))

  one_past : length (flags_of used) ≤ f → f < 1024 → one_idle used f ≡ 0
  unfolding one_idle
  one_past h k = rw (past h k)

-- past the end no frame is free

sum_from : (f : ℕ → ℕ) (n d : ℕ) → ((k : ℕ) → n ≤ k → k < n + d → f k ≡ 0) → sum_below f n ≡ sum_below f (n + d)
unfolding sum_below
sum_from f n zero h = let e : n + 0 ≡ n = omega arith in rw e
sum_from f n (suc d) h =
    let e : n + suc d ≡ suc (n + d) = omega arith in
    let p = sum_from f n d (λ k p q. h k p (omega arith)) in
    let q = h (n + d) (omega arith) (omega arith) in
    rw e (omega (arith, p, q))

count_next : (used : List ℕ) (n : ℕ) → n < length (flags_of used) → (b : Bool) → eqb (get_or (flags_of used) n 0) 0 ≡ b → count_by (λ flag. eqb flag 0) (take (n + 1) (flags_of used)) ≡ count_by (λ flag. eqb flag 0) (take n (flags_of used)) + cond b 1 0
count_next used n h true t = count_by_more_yes (λ flag. eqb flag 0) (flags_of used) n 0 h t
count_next used n h false t = count_by_more_no (λ flag. eqb flag 0) (flags_of used) n 0 h t ∙ omega arith

sum_count : (used : List ℕ) (n : ℕ) → n ≤ length (flags_of used) → sum_below (one_idle used) n ≡ count_by (λ flag. eqb flag 0) (take n (flags_of used))
unfolding sum_below
sum_count used zero h = refl
sum_count used (suc n) h =
    let b = eqb (get_or (flags_of used) n 0) 0 in
    let e = count_next used n (omega arith) b refl in
    let o = one_by used n (omega arith) b refl in
    rw (sum_count used n (omega arith), ← o) (sym (rw add-one at e))

pub count_all : (used : List ℕ) → count_by (λ flag. eqb flag 0) (flags_of used) ≡ free_count used
unfolding free_count
count_all used =
    let l = length-take 1024 used in
    let n = length (flags_of used) in
    let e : n + (1024 - n) ≡ 1024 = omega arith in
    let s = sum_count used n (omega arith) in
    sym (rw (take_all n (flags_of used) (omega arith)) at s) ∙ rw e at (sum_from (one_idle used) n (1024 - n) (λ k p q. one_past used k p (omega arith)))

-- the first flag that is 0, from a place on before which none is

none_at : (p : ℕ → Bool) (xs : List ℕ) (b : Bool) → ltb (position_or_len p xs) (length xs) ≡ b → cond b (Some (position_or_len p xs)) None ≡ None → (k : ℕ) → k < length xs → p (get_or xs k 0) ≡ false
none_at p xs true t e k l = absurd cc
none_at p xs false t e k l = let n = ltb-false (position_or_len p xs) (length xs) t in fails_before_first p xs k 0 (omega arith)

module _ (used : List ℕ) (a : ℕ) (low : a ≤ length (flags_of used)) (before : (k : ℕ) → 0 ≤ k → k < a → get_or (flags_of used) k 0 ≢ 0) where
  at_rest : (k : ℕ) → a + k < length (flags_of used) → get_or (between a (length (flags_of used)) (flags_of used)) k 0 ≡ get_or (flags_of used) (a + k) 0
  at_rest k h = get_or-between (flags_of used) a (length (flags_of used)) k 0 h

  -- what stands before place a + i, where what stands between isn't 0
  taken : (i : ℕ) → a + i ≤ length (flags_of used) → ((k : ℕ) → k < i → eqb (get_or (between a (length (flags_of used)) (flags_of used)) k 0) 0 ≡ false) → (j : ℕ) → 0 ≤ j → j < a + i → idle_of used j ≡ false
  taken i n h j l m =
      split (less j a) (λ p. busy used j (omega arith) (before j l p))
      (λ p. let e : a + (j - a) ≡ j = omega arith in
      busy used j (omega arith) (rw (at_rest (j - a) (omega arith), e) at (eqb-false _ _ (h (j - a) (omega arith)))))

  free_none : position (λ flag. eqb flag 0) (between a (length (flags_of used)) (flags_of used)) ≡ None → None ≡ free_frame_in used
  unfolding free_frame_in
  free_none e =
      let s = between a (length (flags_of used)) (flags_of used) in
      let n = length-between (flags_of used) a (length (flags_of used)) (omega arith) in
      let h = none_at (λ flag. eqb flag 0) s (ltb (position_or_len (λ flag. eqb flag 0) s) (length s)) refl e in
      let t = taken (length (flags_of used) - a) (omega arith) (λ k l. h k (omega arith)) in
      first_is (idle_of used) 0 1024 None (λ j l m. split (less j (length (flags_of used))) (λ p. t j l (omega arith)) (λ p. past used j (omega arith) m))

  free_some : (i : ℕ) → position (λ flag. eqb flag 0) (between a (length (flags_of used)) (flags_of used)) ≡ Some i → Some (a + i) ≡ free_frame_in used
  unfolding free_frame_in
  free_some i e =
      let n = length-between (flags_of used) a (length (flags_of used)) (omega arith) in
      let m = length-take 1024 used in
      let (l, z, h) = position-Some (λ flag. eqb flag 0) (between a (length (flags_of used)) (flags_of used)) i 0 e in
      let b : a + i < length (flags_of used) = omega arith in
      first_is (idle_of used) 0 1024 (Some (a + i)) (omega arith, omega arith, idle used (a + i) b (rw (at_rest i b) at (eqb-true _ _ z)), taken i (omega arith) h)

-- what `free_frame` answers, past two runs of frames in use

module _ (used : List ℕ) {F : List ℕ} (b a : ℕ) {r : Option ℕ} (e : F ≡ flags_of used) (low : a ≤ length F) (wide : (k : ℕ) → 0 ≤ k → k < b → get_or F k 0 ≢ 0) (narrow : (k : ℕ) → b ≤ k → k < a → get_or F k 0 ≢ 0) (p : r ≡ position (λ flag. eqb flag 0) (between a (length F) F)) where
  busy_before : (k : ℕ) → 0 ≤ k → k < a → get_or (flags_of used) k 0 ≢ 0
  busy_before k l m = rw e at (split (less k b) (wide k l) (λ n. narrow k (omega arith) m))

  pub answers_none : r ≡ None → None ≡ free_frame_in used
  answers_none n = free_none used a (rw e at low) busy_before (rw e at (sym p ∙ n))

  pub answers_some : (i : ℕ) → r ≡ Some i → Some (a + i) ≡ free_frame_in used
  answers_some i s = free_some used a (rw e at low) busy_before i (rw e at (sym p ∙ s))
