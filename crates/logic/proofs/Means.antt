-- What a test made of tests means, both ways at once. Assumes nothing.
use mathlib.Core.Path.{◌≡◌, refl}
use mathlib.Core.Bool.{Bool, true, false, not, ◌&&◌, ◌||◌}
use mathlib.Core.Logic.{◌⊎◌, inl, inr, ⊎_elim}
use Prim.Native.Nat.{ℕ, ◌≤◌, ◌<◌}
use native.Mathlib.Omega.{arith}
use lib.Dec.{eqb, leb, ltb}
use borrow.Author.Tests.{eqb-true, eq-eqb, leb-true, le-leb, ltb-true, lt-ltb}
use Rattle.logic.specs.Pick.{pick}
use Rattle.logic.specs.Below.{all_below}
use Rattle.logic.proofs.Laws.{and_left, and_right, and_both, all_below_lem, below_all}

pub record Means (b : Bool) (P : Type 0) : Type 0 where
  pub fact : b ≡ true → P
  pub test : P → b ≡ true

-- the same in other words
pub says : {b : Bool} {P Q : Type 0} → Means b P → (P → Q) → (Q → P) → Means b Q
says m f g = record { fact = λ h. f (m.fact h); test = λ q. m.test (g q) }

false_true : {A : Type 0} → false ≡ true → A
false_true e = let z : ◌≡◌ {A = ℕ} 0 1 = cc in absurd (omega arith)

-- single tests

pub itself : (b : Bool) → Means b (b ≡ true)
itself b = record { fact = λ h. h; test = λ h. h }

pub equal : (a b : ℕ) → Means (eqb a b) (a ≡ b)
equal a b = record { fact = eqb-true a b; test = eq-eqb a b }

pub most : (a b : ℕ) → Means (leb a b) (a ≤ b)
most a b = record { fact = leb-true a b; test = le-leb a b }

pub less : (a b : ℕ) → Means (ltb a b) (a < b)
less a b = record { fact = ltb-true a b; test = lt-ltb a b }

-- two tests, of which the second may be read where the first holds

pub then : {a b : Bool} {P Q : Type 0} → Means a P → (P → Means b Q) → Means (a && b) (P × Q)
then {a} {b} m k =
    record {
      fact = λ h. let p = m.fact (and_left a b h) in (p, (k p).fact (and_right a b h));
      test = λ q. and_both (m.test q.0) ((k q.0).test q.1);
    }

pub both : {a b : Bool} {P Q : Type 0} → Means a P → Means b Q → Means (a && b) (P × Q)
both m k = then m (λ p. k)

pub guard : {a b : Bool} {P Q : Type 0} → Means a P → (P → Means b Q) → Means (pick a b false) (P × Q)
guard {a} {b} {P} {Q} m k = by a (then m k)
  where
    by : (a : Bool) → Means (a && b) (P × Q) → Means (pick a b false) (P × Q)
    by true n = n
    by false n = n

pub both_two : {a : Bool} {P Q : Type 0} (b c : Bool) → Means a P → Means (b && c) Q → Means (a && b && c) (P × Q)
both_two {a} {P} {Q} b c m k = by a (both m k)
  where
    by : (a : Bool) → Means (a && (b && c)) (P × Q) → Means (a && b && c) (P × Q)
    by true n = n
    by false n = n

-- a test decides

pub split : {b : Bool} {P A : Type 0} → Means b P → (P → A) → ((P → ⊥) → A) → A
split {b} {P} {A} m f g = by b m
  where
    by : (b : Bool) → Means b P → A
    by true m = f (m.fact refl)
    by false m = g (λ p. false_true (m.test p))

pub nay : {b : Bool} {P : Type 0} → Means b P → Means (not b) (P → ⊥)
nay {b} {P} m = by b m
  where
    by : (b : Bool) → Means b P → Means (not b) (P → ⊥)
    by true m = record { fact = λ h. false_true h; test = λ never. absurd (never (m.fact refl)) }
    by false m = record { fact = λ h p. false_true (m.test p); test = λ never. refl }

pub either : {a b : Bool} {P Q : Type 0} → Means a P → Means b Q → Means (a || b) (P ⊎ Q)
either {a} {b} {P} {Q} m k = by a m
  where
    by : (a : Bool) → Means a P → Means (a || b) (P ⊎ Q)
    by true m = record { fact = λ h. inl (m.fact refl); test = λ q. refl }
    by false m = record { fact = λ h. inr (k.fact h); test = ⊎_elim (λ p. false_true (m.test p)) k.test }

pub unless : {a b : Bool} {P Q : Type 0} → Means a P → Means b Q → Means (a || b) ((P → ⊥) → Q)
unless m k = says (either m k) (⊎_elim (λ p never. absurd (never p)) (λ q never. q)) (λ f. split m inl (λ never. inr (f never)))

pub implies : {a b : Bool} {P Q : Type 0} → Means a P → (P → Means b Q) → Means (not a || b) (P → Q)
implies {a} {b} {P} {Q} m k = by a m
  where
    by : (a : Bool) → Means a P → Means (not a || b) (P → Q)
    by true m = let q = k (m.fact refl) in record { fact = λ h p. q.fact h; test = λ f. q.test (f (m.fact refl)) }
    by false m = record { fact = λ h p. false_true (m.test p); test = λ f. refl }

-- one of two, by a test

pub choose : {a b : Bool} {P Q R : Type 0} → Means a P → Means b ((P × Q) ⊎ ((P → ⊥) × R)) → Means b ((P → Q) × ((P → ⊥) → R))
choose m k =
    says k (⊎_elim (λ q. (λ p. q.1, λ never. absurd (never q.0))) (λ r. (λ p. absurd (r.0 p), λ never. r.1)))
    (λ f. split m (λ p. inl (p, f.0 p)) (λ never. inr (never, f.1 never)))

pub picked : {a b c : Bool} {P Q R : Type 0} → Means a P → Means b Q → Means c R → Means (pick a b c) ((P → Q) × ((P → ⊥) → R))
picked {a} {b} {c} {P} {Q} {R} m k n = by a m
  where
    by : (a : Bool) → Means a P → Means (pick a b c) ((P → Q) × ((P → ⊥) → R))
    by true m = let p = m.fact refl in record { fact = λ h. (λ q. k.fact h, λ never. absurd (never p)); test = λ f. k.test (f.0 p) }
    by false m =
        let never : P → ⊥ = λ p. false_true (m.test p) in
        record { fact = λ h. (λ p. absurd (never p), λ q. n.fact h); test = λ f. n.test (f.1 never) }

-- a test at each number below n; at each number, where it holds from n on

pub below : (f : ℕ → Bool) (n : ℕ) {P : ℕ → Type 0} → ((i : ℕ) → Means (f i) (P i)) → Means (all_below f n) ((i : ℕ) → i < n → P i)
below f n m = record { fact = λ h i l. (m i).fact (all_below_lem f n h i l); test = λ q. below_all f n (λ i l. (m i).test (q i l)) }

pub every : (f : ℕ → Bool) (n : ℕ) {P : ℕ → Type 0} → ((i : ℕ) → n ≤ i → f i ≡ true) → ((i : ℕ) → Means (f i) (P i)) → Means (all_below f n) ((i : ℕ) → P i)
every f n past m =
    says (below f n m)
    (λ q i. split (less i n) (q i) (λ out. (m i).fact (past i (omega arith))))
    (λ q i l. q i)
