-- Every call keeps a pool sound: read, write, commit and commit_page, on any object and range, refused or not. Assumes nothing.
use Rattle.outcome.specs.Answers.{Answer}
use mathlib.Core.Path.{◌≡◌, refl, ap}
use mathlib.Core.Bool.{Bool, true}
use mathlib.Core.List.{List, []}
use Prim.Native.Nat.{ℕ, ◌/◌, ◌<◌}
use lib.ListN.{length}
use Rattle.tables.specs.Pool.{Pool}
use Rattle.tables.specs.Tables.{node_of}
use Rattle.outcome.specs.Told.{told_of}
use Rattle.lookup.specs.Work.{Work, work_of}
use Rattle.lookup.specs.Commit.{commit_leaf}
use Rattle.sound.specs.Sound.{sound}
use Rattle.sound.specs.Facts.{Sound}
use Rattle.outcome.specs.declared.answer.Refusal.{Refusal}
use Rattle.outcome.specs.Outcome.{Outcome, refused}
use Rattle.commit.specs.Commit as One
use Rattle.page.specs.Pages.{read_of}
use Rattle.ranges.specs.Ranges.{start_work, ranged_by, filled, against_reading, against_writing, against_committing, read_range, read_at, read, written, write_through, write_at, write, committed, commit_through, commit_at, commit}
use Rattle.isolation.specs.Kept.{pool_with}
use Rattle.soundness.proofs.Soundness.{sound_facts, facts_sound}
use Rattle.arrays.specs.Calls.{Called}
use Rattle.arrays.specs.Calls.Called.{tested, accepted}
use Rattle.arrays.proofs.Commit.{pages_inside}
use Rattle.arrays.proofs.Called.{Inside, reading_tests, writing_tests, committing_tests, called}
use Rattle.arrays.proofs.Page.{page_tests}
use Rattle.arrays.proofs.Fits.{Fits, fits_first, fits_sound, look_fits, commit_fits, write_fits, read_fits}

module _ (L : ℕ) (p : Pool) (is_sound : sound L p ≡ true) where
  facts : Sound L p
  facts = sound_facts L p is_sound

  -- what the tables' facts say of the test
  passes : (w : Work) → Fits L p facts w → sound L (pool_with p w) ≡ true
  passes w f = facts_sound L (pool_with p w) (fits_sound L p facts w f)

  -- a call that its tests refuse leaves the pool as it was
  kept_by : {R : Type 0} {refuse : Refusal → R} (pool : R → Pool) → ((why : Refusal) → pool (refuse why) ≡ p) → {r : R} → Called refuse (λ r. sound L (pool r) ≡ true) r → sound L (pool r) ≡ true
  kept_by pool same (tested why t e) = rw (ap pool e, same why) is_sound
  kept_by pool same (accepted w) = w

  pub read-sound : (object offset : ℕ) (buf : List ℕ) → sound L (read L p object offset buf).pool ≡ true
  unfolding read_at filled
  read-sound object offset buf =
      kept_by (λ (r : Outcome Answer). r.pool) (λ why. refl)
      (called (refused p [] buf) (λ r. sound L r.pool ≡ true) (Inside L p.nodes object offset (length buf)) L p object (λ n. against_reading L p.nodes n offset (length buf))
      (λ n. filled p (read_range L p.nodes p.mappings n offset (read_of p.pages p.used p.memory buf))) is_sound
      (reading_tests L p.nodes object offset (length buf))
      (λ leaf inside. passes _ (read_fits L p facts object leaf offset (read_of p.pages p.used p.memory buf) inside (fits_first L p facts _))))

  pub write-sound : (list : List ℕ) (object offset : ℕ) (bytes : List ℕ) → sound L (write L p list object offset bytes).pool ≡ true
  unfolding write_at write_through written ranged_by
  write-sound list object offset bytes =
      kept_by (λ (r : Outcome Answer). r.pool) (λ why. refl)
      (called (refused p list []) (λ r. sound L r.pool ≡ true) (Inside L p.nodes object offset (length bytes)) L p object
      (λ n. against_writing L p.nodes p.mappings list n offset (length bytes)) (λ n. write_through L p list n offset bytes) is_sound
      (writing_tests L p.nodes object offset (length bytes) p.mappings list)
      (λ leaf inside. passes _ (write_fits L p facts object leaf offset bytes inside (start_work p list) (fits_first L p facts (told_of list 0)))))

  pub commit-sound : (list : List ℕ) (object offset len : ℕ) → sound L (commit L p list object offset len).pool ≡ true
  unfolding commit_at commit_through committed ranged_by
  commit-sound list object offset len =
      kept_by (λ (r : Outcome Answer). r.pool) (λ why. refl)
      (called (refused p list []) (λ r. sound L r.pool ≡ true) (Inside L p.nodes object offset len) L p object
      (λ n. against_committing L p.nodes p.mappings list n offset len) (λ n. commit_through L p list n offset len) is_sound
      (committing_tests L p.nodes object offset len p.mappings list)
      (λ leaf inside. passes _
      (commit_fits L p facts object leaf (offset / L) (len / L) (pages_inside L offset len (node_of p.nodes object).size inside) (start_work p list) (fits_first L p facts (told_of list 0)))))

  pub page_sound : (list : List ℕ) (object page : ℕ) (write : Bool) → sound L (One.commit_page L p list object page write).pool ≡ true
  unfolding One.commit_page_at
  page_sound list object page write =
      kept_by (λ (r : Outcome Answer). r.pool) (λ why. refl)
      (called (refused p list []) (λ r. sound L r.pool ≡ true) (page < (node_of p.nodes object).size) L p object
      (λ n. One.page_refusal p.nodes p.mappings list n page write)
      (λ n. One.committed_outcome p (commit_leaf L p.nodes p.mappings (work_of p.pages p.used p.memory (told_of list 0)) n page write)) is_sound
      (page_tests p.nodes p.mappings list object page write)
      (λ leaf low.
      passes _ (look_fits L p facts (work_of p.pages p.used p.memory (told_of list 0)) (fits_first L p facts (told_of list 0)) write object page leaf low)))
