-- The calls read, write and commit on any object and range: what they answer, and that every array is kept but for the bytes written. Assumes nothing.
use Rattle.outcome.specs.Answers.{Answer}
use mathlib.Core.Path.{◌≡◌, sym}
use mathlib.Core.Bool.{true}
use mathlib.Core.List.{List, []}
use Prim.Native.Nat.{ℕ}
use lib.ListN.{length}
use Rattle.tables.specs.Pool.{Pool}
use Rattle.outcome.specs.Outcome.{Outcome, refused}
use Rattle.sound.specs.Sound.{sound}
use Rattle.page.specs.Pages.{read_of}
use Rattle.ranges.specs.Ranges.{filled, against_reading, against_writing, against_committing, read_range, read_at, read, write_through, write_at, write, commit_through, commit_at, commit}
use Rattle.isolation.specs.Private.{Private}
use Rattle.soundness.proofs.Soundness.{facts_sound}
use Rattle.arrays.specs.Arrays.{write_array}
use Rattle.arrays.specs.Outcomes.{Reads, Commits, Writes}
use Rattle.arrays.specs.Calls.{Called}
use Rattle.arrays.specs.Calls.Called.{tested, accepted}
use Rattle.arrays.proofs.Bytes.{private_alike, write-none}
use Rattle.arrays.proofs.Read.{read_through_lem}
use Rattle.arrays.proofs.Write.{write_through_lem}
use Rattle.arrays.proofs.Commit.{commit_through_lem}
use Rattle.arrays.proofs.Called.{Inside, reading_tests, writing_tests, committing_tests, called}

module _ (L : ℕ) (A : ℕ → ℕ → ℕ → ℕ) (p : Pool) (P : Private L A p) where
  is_sound : sound L p ≡ true
  is_sound = facts_sound L p P.sound

  pub read-called : (object offset : ℕ) (buf : List ℕ) → Called (refused p [] buf) (Reads L A p object offset buf) (read L p object offset buf)
  unfolding read_at
  read-called object offset buf =
      called (refused p [] buf) (Reads L A p object offset buf) (Inside L p.nodes object offset (length buf)) L p object (λ n. against_reading L p.nodes n offset (length buf))
      (λ n. filled p (read_range L p.nodes p.mappings n offset (read_of p.pages p.used p.memory buf))) is_sound
      (reading_tests L p.nodes object offset (length buf)) (λ leaf inside. read_through_lem L A p P object offset buf leaf inside)

  pub write-called : (list : List ℕ) (object offset : ℕ) (bytes : List ℕ) → Called (refused p list []) (Writes L A p object offset bytes) (write L p list object offset bytes)
  unfolding write_at
  write-called list object offset bytes =
      called (refused p list []) (Writes L A p object offset bytes) (Inside L p.nodes object offset (length bytes)) L p object (λ n. against_writing L p.nodes p.mappings list n offset (length bytes))
      (λ n. write_through L p list n offset bytes) is_sound
      (writing_tests L p.nodes object offset (length bytes) p.mappings list) (λ leaf inside. write_through_lem L A p P list object offset bytes leaf inside)

  pub commit-called : (list : List ℕ) (object offset len : ℕ) → Called (refused p list []) (Commits L A p object offset len) (commit L p list object offset len)
  unfolding commit_at
  commit-called list object offset len =
      called (refused p list []) (Commits L A p object offset len) (Inside L p.nodes object offset len) L p object (λ n. against_committing L p.nodes p.mappings list n offset len)
      (λ n. commit_through L p list n offset len) is_sound
      (committing_tests L p.nodes object offset len p.mappings list) (λ leaf inside. commit_through_lem L A p P list object offset len leaf inside)

  -- every call, refused or not

  pub read_keeps : (object offset : ℕ) (buf : List ℕ) → Private L A (read L p object offset buf).pool
  read_keeps object offset buf = by (read-called object offset buf)
    where
      by : {r : Outcome Answer} → Called (refused p [] buf) (Reads L A p object offset buf) r → Private L A r.pool
      by (tested why t e) = rw e P
      by (accepted w) = w.private

  pub write_keeps : (list : List ℕ) (object offset : ℕ) (bytes : List ℕ)
      → Private L (write_array L A object offset bytes (write L p list object offset bytes).done) (write L p list object offset bytes).pool
  write_keeps list object offset bytes = by (write-called list object offset bytes)
    where
      by : {r : Outcome Answer} → Called (refused p list []) (Writes L A p object offset bytes) r → Private L (write_array L A object offset bytes r.done) r.pool
      by (tested why t e) = rw e (private_alike L A (write_array L A object offset bytes 0) p (λ m i k h. sym (write-none L A object offset bytes m i k)) P)
      by (accepted w) = w.private

  pub commit_keeps : (list : List ℕ) (object offset len : ℕ) → Private L A (commit L p list object offset len).pool
  commit_keeps list object offset len = by (commit-called list object offset len)
    where
      by : {r : Outcome Answer} → Called (refused p list []) (Commits L A p object offset len) r → Private L A r.pool
      by (tested why t e) = rw e P
      by (accepted w) = w.private
