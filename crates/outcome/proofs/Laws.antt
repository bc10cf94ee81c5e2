-- What an export gives of a call, and the live mappings counted. Assumes nothing.
use Rattle.std.specs.Prelude.{Err, Ok}
use mathlib.Core.Path.{◌≡◌, refl, sym, ap, ◌∙◌}
use mathlib.Core.Bool.{Bool, true, false, not}
use mathlib.Core.List.{List, []}
use Prim.Native.Nat.{ℕ, ◌≤◌}
use lib.ListN.{length}
use native.Mathlib.Omega.{arith}
use lib.Dec.{eqb}
use Rattle.std.specs.Prelude.{cond, filter}
use Rattle.std.specs.List.{range_with_len}
use Rattle.std.proofs.lemmas.List.Sums.{length-filter}
use Rattle.logic.specs.Pick.{pick}
use Rattle.logic.proofs.Lists.{sum_ranged, sum_same, sum_most}
use Rattle.tables.specs.Tables.{number_of}
use Rattle.outcome.specs.Room.{live_one, live_count}
use Rattle.tables.specs.Pool.{Pool, pool_of}
use Rattle.outcome.specs.declared.reply.Reply.{Reply}
use Rattle.outcome.specs.declared.answer.Refusal.{Refusal}
use Rattle.outcome.specs.Answers.{code_of, value_of, unless, Answer, Checked}
use Rattle.outcome.specs.Told.{Told, told_of}
use Rattle.outcome.specs.Outcome.{Outcome, outcome_of, outcome, numbers_of, in_numbers}

-- an export gives its call's outcome in numbers
module _ (r : Reply) (p : Pool) (list buf : List ℕ) {rule : Outcome Answer} {c v : ℕ} (e : outcome r p list buf ≡ rule) (f : c ≡ code_of r.answer) (g : v ≡ value_of r.answer r.done) where
  pub gives : outcome_of (numbers_of c v) p (told_of list r.count) 0 r.taken buf ≡ in_numbers rule
  gives = rw (f, g, ← e)

  pub gives_frameless : rule.taken ≡ 0 → outcome_of (numbers_of c v) p (told_of list r.count) 0 0 buf ≡ in_numbers rule
  gives_frameless k =
      let b : 0 ≡ r.taken = sym (ap (λ (o : Outcome Answer). o.taken) e ∙ k) in
      ap (λ (n : ℕ). outcome_of (numbers_of c v) p (told_of list r.count) 0 n buf) b ∙ gives

-- a call that is lent no list and takes no frame
abbrev pub Quiet : Outcome Answer → Type 0
Quiet o = (o.told ≡ told_of [] 0) × (o.taken ≡ 0)

pub gives_quiet : (r : Reply) (p : Pool) (buf : List ℕ) {rule : Outcome Answer} {c v : ℕ} → outcome r p [] buf ≡ rule → c ≡ code_of r.answer → v ≡ value_of r.answer r.done → Quiet rule → outcome_of (numbers_of c v) p (told_of [] 0) 0 0 buf ≡ in_numbers rule
gives_quiet r p buf {rule} {c} {v} e f g q =
    let a : told_of [] 0 ≡ told_of [] r.count = sym (ap (λ (o : Outcome Answer). o.told) e ∙ q.0) in
    ap (λ (t : Told). outcome_of (numbers_of c v) p t 0 0 buf) a ∙ gives_frameless r p [] buf e f g q.1

-- a pool that is lent in parts, of which three come back changed
pub of_parts : {A : Type 0} {a : A} {t : Told} {d k : ℕ} {buf : List ℕ} {x : Outcome A} {N P P' U U' M H Y Y' : List ℕ} → outcome_of a (pool_of N P U M H Y) t d k buf ≡ x → P' ≡ P → U' ≡ U → Y' ≡ Y → outcome_of a (pool_of N P' U' M H Y') t d k buf ≡ x
of_parts e p u y = rw (p, u, y) e

-- what holds of both holds of the choice
pub pick_has : {A : Type 0} (B : A → Type 0) (b : Bool) {x y : A} → B x → B y → B (pick b x y)
pick_has B true h d = h
pick_has B false h d = d

-- what holds of a refusal and of the work holds of a call with tests
pub tested : {A : Type 0} (B : A → Type 0) (a : Checked) {refuse : Refusal → A} {does : A} → ((r : Refusal) → B (refuse r)) → B does → B (unless a refuse does)
tested B (Err r) h d = h r
tested B (Ok u) h d = d

-- the live mappings, counted by a test of each place
one_live : (b : Bool) → ◌≡◌ {A = ℕ} (cond (not b) 1 0) (pick b 0 1)
one_live true = refl
one_live false = refl

pub live_counted : (M : List ℕ) → length (filter (λ i. not (eqb (number_of M i) 0)) (range_with_len 0 64)) ≡ live_count M
unfolding live_count live_one
live_counted M =
    length-filter (λ i. not (eqb (number_of M i) 0)) (range_with_len 0 64)
    ∙ sum_ranged (λ i. cond (not (eqb (number_of M i) 0)) 1 0) 64
    ∙ sum_same (λ i. cond (not (eqb (number_of M i) 0)) 1 0) (live_one M) 64 (λ i l. one_live (eqb (number_of M i) 0))

most_one : (b : Bool) → pick b 0 1 ≤ 1
most_one true = omega arith
most_one false = omega arith

pub live_most : (M : List ℕ) → live_count M ≤ 64
unfolding live_count live_one
live_most M = sum_most (live_one M) 1 64 (λ i. most_one (eqb (number_of M i) 0))
