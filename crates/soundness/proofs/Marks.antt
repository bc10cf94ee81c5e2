-- A table of marks tells how often each number stands in a run of words: not at all, once, or more than once. Assumes nothing.
use mathlib.Core.Path.{◌≡◌, refl, sym, ap, ◌∙◌}
use mathlib.Core.List.{List}
use Prim.Native.Nat.{ℕ, zero, suc, ◌+◌, ◌*◌, ◌%◌, ◌≤◌, ◌<◌, min}
use native.Mathlib.Omega.{arith}
use native.Mathlib.Nat.{add-zero, add-suc}
use lib.ListN.{length, get_or, length-set}
use lib.Seq.{get_or-set_same, get_or-set_other}
use borrow.Author.Tests.{eq-eqb, ne_eqb}
use Rattle.tables.specs.Tables.{entry_of}
use Rattle.sound.specs.Rows.{more_of, mark_entry, mark_run, mark_rows}
use Rattle.logic.proofs.Means.{equal, split}
use Rattle.soundness.proofs.Records.{entry_is}

-- what a mark tells of the places below k

pub record Tally (S : ℕ → Type 0) (k mark : ℕ) : Type 0 where
  pub nowhere : mark ≡ 0 → (a : ℕ) → a < k → S a → ⊥
  pub somewhere : 1 ≤ mark → (a : ℕ) × (a < k) × S a
  pub one_place : mark ≤ 1 → (a b : ℕ) → a < k → b < k → S a → S b → a ≡ b
  pub once : ((a b : ℕ) → a < k → b < k → S a → S b → a ≡ b) → mark ≤ 1

more_is : (m : ℕ) → more_of m ≡ min 2 (m + 1)
more_is m = split (equal m 0) (λ z. rw (eq-eqb m 0 z) (omega arith)) (λ ne. rw (ne_eqb m 0 ne) (omega arith))

module _ {S : ℕ → Type 0} {k m : ℕ} (t : Tally S k m) where
  hit : S k → Tally S (suc k) (more_of m)
  hit here =
      record {
        nowhere = λ z a l s. let q = more_is m in omega arith;
        somewhere = λ l. (k, omega arith, here);
        one_place = λ l a b x y s u. last l a x s ∙ sym (last l b y u);
        once = λ f.
            split (equal m 0)
            (λ z. let q = more_is m in omega arith)
            (λ ne. let p = t.somewhere (omega arith) in let q = f p.0 k (omega arith) (omega arith) p.2 here in absurd (omega arith));
      }
    where
      last : more_of m ≤ 1 → (a : ℕ) → a < suc k → S a → a ≡ k
      last l a x s = split (equal a k) (λ e. e) (λ ne. let q = more_is m in absurd (t.nowhere (omega arith) a (omega arith) s))

  miss : (S k → ⊥) → Tally S (suc k) m
  miss away =
      record {
        nowhere = λ z a l s. t.nowhere z a (earlier a l s) s;
        somewhere = λ l. let p = t.somewhere l in (p.0, omega arith, p.2);
        one_place = λ l a b x y s u. t.one_place l a b (earlier a x s) (earlier b y u) s u;
        once = λ f. t.once (λ a b x y. f a b (omega arith) (omega arith));
      }
    where
      earlier : (a : ℕ) → a < suc k → S a → a < k
      earlier a l s = split (equal a k) (λ e. absurd (away (rw e at s))) (λ ne. omega arith)

-- a word stands for the number in its lowest part, and 0 for none

abbrev pub Shows : ℕ → ℕ → Type 0
Shows e v = (e ≡ 0 → ⊥) × (e % 4096 ≡ v)

mark-length : (marks : List ℕ) (e : ℕ) → length (mark_entry marks e) ≡ length marks
unfolding mark_entry
mark-length marks e =
    split (equal e 0) (λ z. rw (eq-eqb e 0 z)) (λ ne. rw (ne_eqb e 0 ne) (length-set marks (e % 4096) (more_of (get_or marks (e % 4096) 0))))

run_length : (g : ℕ → ℕ) (k : ℕ) (marks : List ℕ) → length (mark_run g k marks) ≡ length marks
unfolding mark_run
run_length g zero marks = refl
run_length g (suc k) marks = mark-length (mark_run g k marks) (g k) ∙ run_length g k marks

module _ (g : ℕ → ℕ) (v : ℕ) where
  abbrev Marked : ℕ → List ℕ → Type 0
  Marked k marks = Tally (λ a. Shows (g a) v) k (get_or marks v 0)

  mark_tally : (k : ℕ) (marks : List ℕ) → v < length marks → Marked k marks → Marked (suc k) (mark_entry marks (g k))
  unfolding mark_entry
  mark_tally k marks l t =
      split (equal (g k) 0)
      (λ z. rw (eq-eqb (g k) 0 z) (miss t (λ s. s.0 z)))
      (λ ne. rw (ne_eqb (g k) 0 ne)
      (split (equal (g k % 4096) v)
      (λ e. rw (e, get_or-set_same marks v (more_of (get_or marks v 0)) 0 l) (hit t (ne, e)))
      (λ d. rw (get_or-set_other marks (g k % 4096) v (more_of (get_or marks (g k % 4096) 0)) 0 (λ e. d (sym e))) (miss t (λ s. d s.1)))))

  pub run_tally : (marks : List ℕ) → v < length marks → get_or marks v 0 ≡ 0 → (k : ℕ) → Marked k (mark_run g k marks)
  unfolding mark_run
  run_tally marks l z zero =
      record {
        nowhere = λ z a l s. omega arith;
        somewhere = λ l. absurd (omega arith);
        one_place = λ l a b x y s u. absurd (omega arith);
        once = λ f. omega arith;
      }
  run_tally marks l z (suc k) = let e = run_length g k marks in mark_tally k (mark_run g k marks) (omega arith) (run_tally marks l z k)

-- rows of 64 are one run

run_join : (g h : ℕ → ℕ) (marks : List ℕ) (a k : ℕ) → ((i : ℕ) → i < k → h i ≡ g (a + i)) → mark_run h k (mark_run g a marks) ≡ mark_run g (a + k) marks
unfolding mark_run
run_join g h marks a zero e = rw add-zero
run_join g h marks a (suc k) e = rw (add-suc, e k (omega arith)) (ap (λ (m : List ℕ). mark_entry m (g (a + k))) (run_join g h marks a k (λ i l. e i (omega arith))))

run_none : (g : ℕ → ℕ) (marks : List ℕ) → mark_run g 0 marks ≡ marks
unfolding mark_run
run_none g marks = refl

pub rows_run : (P marks : List ℕ) (n : ℕ) → mark_rows P n marks ≡ mark_run (λ a. get_or P a 0) (n * 64) marks
unfolding mark_rows
rows_run P marks zero = sym (run_none (λ a. get_or P a 0) marks)
rows_run P marks (suc n) =
    let e : suc n * 64 ≡ n * 64 + 64 = omega arith in
    rw (e, rows_run P marks n) (run_join (λ a. get_or P a 0) (entry_of P n) marks (n * 64) 64 (λ i l. entry_is P n i l))
