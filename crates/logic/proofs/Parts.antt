-- A part of a list that is written from another, in std's words. Assumes nothing.
use Rattle.std.proofs.Common.{◌≡◌, ◌∙◌, refl, sym, ap, [], ◌++◌, ℕ, zero, suc, ◌+◌, ◌-◌, ◌≤◌, ◌<◌, List, length, get_or, set, take, drop, replicate, arith, add-one}
use mathlib.Core.Bool.{Bool, true, false}
use Rattle.std.specs.List.{between, list_all}
use Rattle.std.proofs.lemmas.List.Edits.{paste_none, paste_more, fill_from_more, length-between, get_or-between}
use Rattle.std.proofs.lemmas.List.Folds.{list_all_at}
use Rattle.std.proofs.lemmas.List.{get_or-drop, length-drop, length-take-le, length-replicate, take_all}
use Rattle.std.proofs.lemmas.Slice.{put_mid-paste}
use borrow.Rule.Slice.PartMut.{put_mid}
use lib.Seq.{paste}
use Rattle.logic.specs.Below.{copied, zeroed}
use Rattle.logic.proofs.Laws.{true_not}

copied_is : (d : List ℕ) (a : ℕ) (s : List ℕ) (b n : ℕ) → a + n ≤ length d → b + n ≤ length s → copied d a s b n ≡ paste d a (drop b s) n
unfolding copied
copied_is d a s b zero p q = paste_none d a (drop b s)
copied_is d a s b (suc n) p q =
    let more = paste_more d a (drop b s) n 0 (omega arith) (simp length-drop (omega arith)) in
    ap (λ t. set t (a + n) (get_or s (b + n) 0)) (copied_is d a s b n (omega arith) (omega arith)) ∙ rw (get_or-drop b s n 0, add-one) at more

zeroed_is : (d : List ℕ) (a n : ℕ) → a + n ≤ length d → zeroed d a n ≡ paste d a (replicate n 0) n
unfolding zeroed
zeroed_is d a zero p = paste_none d a []
zeroed_is d a (suc n) p =
    let more = fill_from_more d a n 0 (omega arith) in
    ap (λ t. set t (a + n) 0) (zeroed_is d a n (omega arith)) ∙ rw add-one at more

pub copied_part : (d : List ℕ) (a : ℕ) (s : List ℕ) (b n : ℕ) {k : ℕ} {ys : List ℕ} → a + n ≤ length d → b + n ≤ length s → k ≡ n → ys ≡ between b (b + n) s → put_mid a k d ys ≡ copied d a s b n
copied_part d a s b n {k} {ys} p q e h =
    let m : b + n - b ≡ n = omega arith in
    let xs = take n (drop b s) in
    let l : length xs ≡ n = length-take-le n (drop b s) (simp length-drop (omega arith)) in
    put_mid-paste a k d ys xs n (h ∙ rw m) (sym e) (sym l) ∙ ap (λ t. (take a d ++ t) ++ drop (a + n) d) (take_all n xs (omega arith)) ∙ sym (copied_is d a s b n p q)

pub zeroed_part : (d : List ℕ) (a n : ℕ) {k : ℕ} {ys : List ℕ} → a + n ≤ length d → k ≡ n → ys ≡ replicate n 0 → put_mid a k d ys ≡ zeroed d a n
zeroed_part d a n {k} {ys} p e h = put_mid-paste a k d ys (replicate n 0) n h (sym e) (sym (length-replicate n 0)) ∙ sym (zeroed_is d a n p)

-- a test that each element of a part passes

passes : (p : ℕ → Bool) (xs : List ℕ) (i : ℕ) (b : Bool) → list_all p xs ≡ true → i < length xs → p (get_or xs i 0) ≡ b → p (get_or xs i 0) ≡ true
passes p xs i true h l t = t
passes p xs i false h l t = true_not h (list_all_at p xs i 0 l t)

pub all_between : (p : ℕ → Bool) (xs : List ℕ) (a e k : ℕ) → e ≤ length xs → list_all p (between a e xs) ≡ true → a ≤ k → k < e → p (get_or xs k 0) ≡ true
all_between p xs a e k n h low high =
    let q : a + (k - a) ≡ k = omega arith in
    let s = between a e xs in
    let l : k - a < length s = rw (length-between xs a e n) (omega arith) in
    let t = passes p s (k - a) (p (get_or s (k - a) 0)) h l refl in
    rw (get_or-between xs a e (k - a) 0 (omega arith), q) at t
