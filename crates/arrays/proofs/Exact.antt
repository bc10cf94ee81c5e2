-- When the calls are done and when they are refused, and that none is ever STOPPED. Assumes nothing.
use Rattle.std.specs.Prelude.{Ok, Err}
use Rattle.outcome.specs.Answers.{Answer}
use mathlib.Core.Path.{◌≡◌, ap}
use mathlib.Core.Bool.{Bool, true}
use mathlib.Core.List.{List, []}
use mathlib.Core.Logic.{◌⊎◌, inl, inr, ⊎_elim}
use Prim.Native.Nat.{ℕ, ◌+◌, ◌-◌, ◌*◌, ◌/◌, ◌≤◌, ◌<◌}
use native.Mathlib.Omega.{arith}
use lib.ListN.{length}
use Rattle.tables.specs.Pool.{Pool}
use Rattle.frames.specs.Frames.{free_count}
use Rattle.outcome.specs.declared.answer.Refusal.{Refusal}
use Rattle.outcome.specs.declared.answer.Refusal.TheVariants.{NoMemory, Stopped}
use Rattle.outcome.specs.Outcome.{Outcome, refused}
use Rattle.lookups.specs.Need.{need}
use Rattle.arrays.specs.Arrays.{touched, needs}
use Rattle.arrays.specs.Outcomes.{Reads, Granted, Short, Commits, Writes}
use Rattle.arrays.specs.Calls.{ByTests, Called, Page}
use Rattle.arrays.specs.Calls.Called.{tested, accepted}
use Rattle.logic.proofs.Laws.{true_not}

pub done_not : {a : Answer} {v : ℕ} {r : Refusal} → a ≡ Ok v → a ≡ Err r → ⊥
done_not e f = let z : ◌≡◌ {A = ℕ} 0 1 = cc in omega arith

stopped_not : {a : Answer} → a ≡ Err NoMemory → a ≡ Err Stopped → ⊥
stopped_not e f = let z : ◌≡◌ {A = ℕ} 0 1 = cc in omega arith

tests_not : (why : Refusal) → ByTests why → {a : Answer} → a ≡ Err why → a ≡ Err Stopped → ⊥
tests_not why t e f = let q : why ≡ Stopped = cc in absurd (rw q at t)

-- exactly if the pages need more than are free

module _ {p : Pool} {n first pages value : ℕ} {doneBy : ℕ → ℕ} {r : Outcome Answer} where
  pub refused-short : Granted p n first pages value r ⊎ Short p n first pages doneBy r → r.answer ≡ Err NoMemory → free_count p.used < needs p.nodes p.pages n first pages
  refused-short e h = ⊎_elim (λ g. absurd (done_not g.answer h)) (λ s. s.short) e

  -- and then all frames are taken
  pub refused_none : Granted p n first pages value r ⊎ Short p n first pages doneBy r → r.answer ≡ Err NoMemory → free_count r.pool.used ≡ 0
  refused_none e h = ⊎_elim (λ g. absurd (done_not g.answer h)) (λ s. s.none) e

  pub short-refused : Granted p n first pages value r ⊎ Short p n first pages doneBy r → free_count p.used < needs p.nodes p.pages n first pages → r.answer ≡ Err NoMemory
  short-refused e h = ⊎_elim (λ g. let q = g.enough in absurd (omega arith)) (λ s. s.answer) e

  pub enough_done : Granted p n first pages value r ⊎ Short p n first pages doneBy r → needs p.nodes p.pages n first pages ≤ free_count p.used → r.answer ≡ Ok value
  enough_done e h = ⊎_elim (λ g. g.answer) (λ s. let q = s.short in absurd (omega arith)) e

  pub not_stopped : Granted p n first pages value r ⊎ Short p n first pages doneBy r → r.answer ≡ Err Stopped → ⊥
  not_stopped e h = ⊎_elim (λ g. done_not g.answer h) (λ s. stopped_not s.answer h) e

-- a write is done exactly if all its bytes are

module _ {L : ℕ} {A : ℕ → ℕ → ℕ → ℕ} {p : Pool} {n offset : ℕ} {bytes : List ℕ} {r : Outcome Answer} (w : Writes L A p n offset bytes r) where
  pub write_ends : Granted p n (offset / L) (touched L offset (length bytes)) (length bytes) r ⊎ Short p n (offset / L) (touched L offset (length bytes)) (λ page. (offset / L + page) * L - offset) r
  write_ends = ⊎_elim inl (λ x. inr x.1) w.ends

  pub all_done : r.done ≡ length bytes → r.answer ≡ Ok (length bytes)
  all_done h = ⊎_elim (λ g. g.answer) (λ x. let q = x.0 in absurd (omega arith)) w.ends

  pub done_all : {v : ℕ} → r.answer ≡ Ok v → r.done ≡ length bytes
  done_all h = ⊎_elim (λ g. g.done) (λ x. absurd (done_not h x.1.answer)) w.ends

-- none is ever STOPPED

pub read_not_stopped : {L : ℕ} {A : ℕ → ℕ → ℕ → ℕ} {p : Pool} {n offset : ℕ} {buf : List ℕ} {r : Outcome Answer} → Called (refused p [] buf) (Reads L A p n offset buf) r → r.answer ≡ Err Stopped → ⊥
read_not_stopped (tested why t e) h = tests_not why t (ap (λ (x : Outcome Answer). x.answer) e) h
read_not_stopped (accepted w) h = done_not w.answer h

pub write_not_stopped : {L : ℕ} {A : ℕ → ℕ → ℕ → ℕ} {p : Pool} {n offset : ℕ} {list bytes : List ℕ} {r : Outcome Answer} → Called (refused p list []) (Writes L A p n offset bytes) r → r.answer ≡ Err Stopped → ⊥
write_not_stopped (tested why t e) h = tests_not why t (ap (λ (x : Outcome Answer). x.answer) e) h
write_not_stopped (accepted w) h = not_stopped (write_ends w) h

pub commit_not_stopped : {L : ℕ} {A : ℕ → ℕ → ℕ → ℕ} {p : Pool} {n offset len : ℕ} {list : List ℕ} {r : Outcome Answer} → Called (refused p list []) (Commits L A p n offset len) r → r.answer ≡ Err Stopped → ⊥
commit_not_stopped (tested why t e) h = tests_not why t (ap (λ (x : Outcome Answer). x.answer) e) h
commit_not_stopped (accepted w) h = not_stopped w.ends h

-- commit_page

module _ {L : ℕ} {A : ℕ → ℕ → ℕ → ℕ} {p : Pool} {n page : ℕ} {write : Bool} {r : Outcome Answer} where
  pub page_refused : Page L A p n page write r → r.answer ≡ Err NoMemory → (write ≡ true) × (free_count p.used < need p.nodes p.pages n page)
  page_refused g h = ⊎_elim (λ f. absurd (done_not f.answer h)) (⊎_elim (λ z. absurd (done_not z.answer h)) (λ s. (s.writing, s.short))) g.ends

  pub page_short : Page L A p n page write r → write ≡ true → free_count p.used < need p.nodes p.pages n page → r.answer ≡ Err NoMemory
  page_short g w h =
      ⊎_elim (λ f. let q = f.enough w in absurd (omega arith)) (⊎_elim (λ z. absurd (true_not w z.reading)) (λ s. s.answer)) g.ends

  pub page_not_stopped : {list : List ℕ} → Called (refused p list []) (Page L A p n page write) r → r.answer ≡ Err Stopped → ⊥
  page_not_stopped (tested why t e) h = tests_not why t (ap (λ (x : Outcome Answer). x.answer) e) h
  page_not_stopped (accepted g) h = ⊎_elim (λ f. done_not f.answer h) (⊎_elim (λ z. done_not z.answer h) (λ s. stopped_not s.answer h)) g.ends
