-- The test of the parent chains reads each link's 64th parent. Assumes nothing.
use mathlib.Core.Path.{◌≡◌, refl, sym, ap, ◌∙◌}
use mathlib.Core.List.{List}
use Prim.Native.Nat.{ℕ, zero, suc, ◌+◌, ◌^◌, ◌<◌}
use native.Mathlib.Omega.{arith}
use native.Mathlib.Nat.{add-zero}
use native.Mathlib.Numerals.{add-one}
use lib.ListN.{length, get_or, set, length-set, get_or-eq_default}
use lib.Seq.{get_or-set_same, get_or-set_other}
use Rattle.tables.specs.Tables.{word_of}
use Rattle.sound.specs.Tree.{linked_of, links_to, step_to, steps_up, none_at, chains_end}
use Rattle.logic.proofs.Means.{Means, says, equal, less, split, every}
use Rattle.sound.proofs.TreeLaws.{word_out}
use Rattle.soundness.proofs.Records.{linked_word, no_link}

-- a table of m places, made by storing h k at place k + c for k = 0, 1, ..

record Made (t : ℕ → List ℕ) (h : ℕ → ℕ) (c m : ℕ) : Type 0 where
  start : length (t 0) ≡ m
  next : (k : ℕ) → t (suc k) ≡ set (t k) (k + c) (h k)

module _ {t : ℕ → List ℕ} {h : ℕ → ℕ} {c m : ℕ} (made : Made t h c m) where
  made_length : (k : ℕ) → length (t k) ≡ m
  made_length zero = made.start
  made_length (suc k) = ap length (made.next k) ∙ length-set (t k) (k + c) (h k) ∙ made_length k

  made_below : (k j : ℕ) → j < c → get_or (t k) j 0 ≡ get_or (t 0) j 0
  made_below zero j l = refl
  made_below (suc k) j l = rw (made.next k) (get_or-set_other (t k) (k + c) j (h k) 0 (λ e. omega arith) ∙ made_below k j l)

  made_at : (k j : ℕ) → j < k → j + c < m → get_or (t k) (j + c) 0 ≡ h j
  made_at zero j l r = absurd (omega arith)
  made_at (suc k) j l r =
      rw (made.next k)
      (split (equal j k)
      (λ e. let s = made_length k in rw e (get_or-set_same (t k) (k + c) (h k) 0 (omega arith)))
      (λ ne. get_or-set_other (t k) (k + c) (j + c) (h k) 0 (λ e. ne (omega arith)) ∙ made_at k j (omega arith) r))

-- the link k parents above a link

unfoldable pub above : List ℕ → ℕ → ℕ → ℕ
above N zero link = link
above N (suc k) link = above N k (linked_of N link 1)

pub above-none : (N : List ℕ) (k : ℕ) → above N k 0 ≡ 0
unfolding above
above-none N zero = refl
above-none N (suc k) = rw (no_link N 1) (above-none N k)

pub above_add : (N : List ℕ) (j k link : ℕ) → above N (j + k) link ≡ above N k (above N j link)
unfolding above
above_add N zero k link = let e : 0 + k ≡ k = omega arith in rw e
above_add N (suc j) k link = let e : suc j + k ≡ suc (j + k) = omega arith in rw e (above_add N j k (linked_of N link 1))

-- the tables of the test: each link's parent, and its 2^r-th

links_made : (N : List ℕ) → Made (links_to N) (λ k. word_of N k 1) 1 65
unfolding links_to
links_made N = record { start = refl; next = λ k. refl }

links_none : (N : List ℕ) → get_or (links_to N 0) 0 0 ≡ 0
unfolding links_to
links_none N = refl

step_made : (up : List ℕ) → Made (step_to up) (λ k. get_or up (get_or up k 0) 0) 0 65
unfolding step_to
step_made up = record { start = refl; next = λ k. rw add-zero }

step-reads : (up : List ℕ) → length up ≡ 65 → get_or up 0 0 ≡ 0 → (l : ℕ) → get_or (step_to up 65) l 0 ≡ get_or up (get_or up l 0) 0
step-reads up len z l =
    split (less l 65)
    (λ h. rw add-zero at (made_at (step_made up) 65 l h (omega arith)))
    (λ out.
    let s = made_length (step_made up) 65 in
    get_or-eq_default (step_to up 65) 0 (omega arith) ∙ sym (rw (get_or-eq_default up 0 {n = l} (omega arith)) z))

steps_length : (r : ℕ) (up : List ℕ) → length up ≡ 65 → length (steps_up r up) ≡ 65
unfolding steps_up
steps_length zero up len = len
steps_length (suc r) up len = made_length (step_made (steps_up r up)) 65

module _ (N : List ℕ) (len : length N ≡ 1024) where
  links_read : (l : ℕ) → get_or (links_to N 64) l 0 ≡ linked_of N l 1
  links_read zero = made_below (links_made N) 64 0 (omega arith) ∙ links_none N ∙ sym (no_link N 1)
  links_read (suc n) =
      rw (← add-one n)
      ((split (less n 64)
      (λ h. made_at (links_made N) 64 n h (omega arith))
      (λ out. let s = made_length (links_made N) 64 in get_or-eq_default (links_to N 64) 0 (omega arith) ∙ sym (word_out N len n 1 (omega arith))))
      ∙ sym (linked_word N n 1))

  steps_read : (r l : ℕ) → get_or (steps_up r (links_to N 64)) l 0 ≡ above N (2 ^ r) l
  unfolding steps_up above
  steps_read zero l = links_read l
  steps_read (suc r) l =
      let s = steps_up r (links_to N 64) in
      let e : 2 ^ suc r ≡ 2 ^ r + 2 ^ r = omega arith in
      rw e
      (step-reads s (steps_length r (links_to N 64) (made_length (links_made N) 64)) (steps_read r 0 ∙ above-none N (2 ^ r)) l
      ∙ steps_read r (get_or s l 0) ∙ ap (above N (2 ^ r)) (steps_read r l) ∙ sym (above_add N (2 ^ r) (2 ^ r) l))

  pub chains_mean : Means (chains_end N) ((l : ℕ) → above N 64 l ≡ 0)
  unfolding chains_end
  chains_mean =
      let s = steps_up 6 (links_to N 64) in
      every (none_at s) 65
      (λ l h. let q = steps_length 6 (links_to N 64) (made_length (links_made N) 64) in rw (get_or-eq_default s 0 {n = l} (omega arith)))
      (λ l. says (equal (get_or s l 0) 0) (λ e. sym (steps_read 6 l) ∙ e) (λ e. steps_read 6 l ∙ e))
