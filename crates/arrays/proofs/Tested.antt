-- commit_page with what its tests found, and where they hold. Assumes nothing.
use Rattle.std.specs.Prelude.{Err, Ok}
use Rattle.outcome.specs.Answers.{Answer, Checked}
use mathlib.Core.Path.{◌≡◌, refl}
use mathlib.Core.Bool.{Bool}
use mathlib.Core.List.{List, []}
use Prim.Native.Nat.{ℕ, ◌<◌}
use native.Mathlib.Omega.{arith}
use lib.ListN.{get_or}
use borrow.Author.Tests.{lt-ltb}
use Rattle.tables.specs.Pool.{Pool}
use Rattle.tables.specs.Tables.{node_of}
use Rattle.sound.specs.Facts.{Leaf}
use Rattle.soundness.proofs.Soundness.{facts_sound}
use Rattle.outcome.specs.Told.{told_of}
use Rattle.outcome.specs.Outcome.{Outcome, refused}
use Rattle.lookup.specs.Work.{work_of}
use Rattle.lookup.specs.Commit.{commit_leaf}
use Rattle.lookups.proofs.Base.{node_low}
use Rattle.pool.specs.Calls.{entered, on_entered, on_object}
use Rattle.commit.specs.Commit.{page_refusal, committed_outcome, commit_page_at, commit_page}
use Rattle.isolation.specs.Private.{Private}
use Rattle.arrays.specs.Calls.{Called, Page}
use Rattle.arrays.proofs.Called.{Tests, called}
use Rattle.arrays.proofs.Page.{page_tests, page_through}

-- what tests found, with that they hold
pub tests_fine : (H : Type 0) (a : Checked) → Tests a H → Tests a (H × (a ≡ Ok tt))
tests_fine H (Err r) t = t
tests_fine H (Ok u) t = (t, refl)

pub fine_tests : (H : Type 0) (a : Checked) → Tests a H → a ≡ Ok tt → H
fine_tests H (Err r) t e = absurd (let z : ◌≡◌ {A = ℕ} 0 1 = cc in omega arith)
fine_tests H (Ok u) t e = t

module _ (L : ℕ) (A : ℕ → ℕ → ℕ → ℕ) (p : Pool) (P : Private L A p) (list : List ℕ) (n page : ℕ) (write : Bool) where
  abbrev pub against : Checked
  against = page_refusal p.nodes p.mappings list n page write

  abbrev pub Accepted : Outcome Answer → Type 0
  Accepted r = Leaf p.nodes n × (against ≡ Ok tt) × Page L A p n page write r

  pub page_tested : Called (refused p list []) Accepted (commit_page L p list n page write)
  unfolding commit_page_at
  page_tested =
      called (refused p list []) Accepted ((page < (node_of p.nodes n).size) × (against ≡ Ok tt)) L p n (λ m. page_refusal p.nodes p.mappings list m page write)
      (λ m. committed_outcome p (commit_leaf L p.nodes p.mappings (work_of p.pages p.used p.memory (told_of list 0)) m page write))
      (facts_sound L p P.sound) (tests_fine (page < (node_of p.nodes n).size) against (page_tests p.nodes p.mappings list n page write))
      (λ leaf h. (leaf, h.1, page_through L A p P list n page write leaf h.0))

  pub page_does : Leaf p.nodes n → against ≡ Ok tt → Page L A p n page write (commit_page L p list n page write)
  unfolding on_object on_entered entered commit_page_at
  page_does leaf fine =
      let low = fine_tests (page < (node_of p.nodes n).size) against (page_tests p.nodes p.mappings list n page write) fine in
      rw (facts_sound L p P.sound, lt-ltb n 64 (node_low p.nodes (record { next = get_or p.head 0 0; len = P.sound.lengths.nodes; tree = P.sound.tree }) n page low), leaf, fine)
      (page_through L A p P list n page write leaf low)
