-- A refused read fills no byte, in every pool. Assumes nothing.
use Rattle.std.specs.Prelude.{Option, None, Some, Ok, Err}
use Rattle.lookup.specs.Commit.{Committed}
use mathlib.Core.Path.{◌≡◌, refl}
use mathlib.Core.List.{List, []}
use Prim.Native.Nat.{ℕ}
use native.Mathlib.Omega.{arith}
use lib.ListN.{length}
use Rattle.blocks.specs.declared.BlockIter.{BlockIter}
use Rattle.blocks.specs.declared.BlockRange.{BlockRange}
use Rattle.blocks.specs.Blocks.{next_of}
use Rattle.tables.specs.Pool.{Pool}
use Rattle.outcome.specs.Told.{told_of}
use Rattle.lookup.specs.Work.{work_of}
use Rattle.sound.specs.Facts.{Leaf, Sound}
use Rattle.outcome.specs.declared.answer.Refusal.{Refusal}
use Rattle.outcome.specs.Answers.{unless, Checked, Answer}
use Rattle.outcome.specs.Outcome.{Outcome, refused}
use Rattle.pool.proofs.Laws.{on_leaf}
use Rattle.page.specs.Pages.{against_read, Read, read_of, look_read, read_through, read_by, read_page}
use Rattle.ranges.specs.Ranges.{filled, against_reading, read_range, read_at, read}
use Rattle.soundness.proofs.Soundness.{sound_facts}
use Rattle.lookups.specs.Reading.{Readable}
use Rattle.lookups.specs.Reading.Readable.{frame, zeros}
use Rattle.lookups.proofs.Quiet.{commit_answers}
use Rattle.arrays.proofs.Each.{Goes, each_keeps}

fine_by : {z : Committed} → Readable z → against_read z ≡ Ok tt
fine_by (frame f e) = rw e
fine_by (zeros e) = rw e

-- after its tests a read is never refused

module _ (L : ℕ) (p : Pool) (s : Sound L p) (n : ℕ) (leaf : Leaf p.nodes n) (offset : ℕ) where
  step_fine : (it : BlockIter) (r : Read) (x : Option (BlockRange × BlockIter)) → (read_by L p.nodes p.mappings n offset it r x).why ≡ Ok tt
  unfolding read_by read_through look_read
  step_fine it r None = refl
  step_fine it r (Some (b, next)) = fine_by (commit_answers L p s p.mappings (work_of r.pages r.used r.memory (told_of [] 0)) n b.block leaf)

  turn : (k : ℕ) (it : BlockIter) (r : Read) → Unit {0}
      → Goes (read_page L p.nodes p.mappings n offset) (λ k it r. Unit {0}) (λ q. q.why ≡ Ok tt) k (read_page L p.nodes p.mappings n offset it r).why (read_page L p.nodes p.mappings n offset it r)
  unfolding read_page
  turn k it r u = rw (step_fine it r (next_of L it)) tt

  range_fine : (r : Read) → (read_range L p.nodes p.mappings n offset r).why ≡ Ok tt
  unfolding read_range
  range_fine r = each_keeps (read_page L p.nodes p.mappings n offset) (λ k it r. Unit {0}) (λ q. q.why ≡ Ok tt) (λ it r u. refl) turn _ _ r tt

  -- it is done, or it fills nothing
  at_fills : (buf : List ℕ) (why : Refusal) → (read_at L p n offset buf).answer ≡ Err why → (read_at L p n offset buf).buf ≡ buf
  unfolding read_at filled
  at_fills buf why h = by (against_reading L p.nodes n offset (length buf)) h
    where
      f : Outcome Answer
      f = filled p (read_range L p.nodes p.mappings n offset (read_of p.pages p.used p.memory buf))

      done : f.answer ≡ Ok 0
      done = rw (range_fine (read_of p.pages p.used p.memory buf))

      by : (a : Checked) → (unless a (refused p [] buf) f).answer ≡ Err why → (unless a (refused p [] buf) f).buf ≡ buf
      by (Err r) e = refl
      by (Ok tt) e = let d = done in let z : ◌≡◌ {A = ℕ} 0 1 = cc in absurd (omega arith)

pub refused_fills : (L : ℕ) (p : Pool) (object offset : ℕ) (buf : List ℕ) (why : Refusal) → (read L p object offset buf).answer ≡ Err why → (read L p object offset buf).buf ≡ buf
refused_fills L p object offset buf why =
    on_leaf (λ (o : Outcome Answer). o.answer ≡ Err why → o.buf ≡ buf) L p object (refused p [] buf) (λ n. read_at L p n offset buf)
    (λ s g. refl) (λ g. refl) (λ s l leaf g. at_fills L p (sound_facts L p s) object leaf offset buf why g)
