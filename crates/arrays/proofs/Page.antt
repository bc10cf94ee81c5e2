-- commit_page keeps every array; it is refused exactly if the page is to be written and needs more frames than are free. Assumes nothing.
use Rattle.std.specs.Prelude.{Ok, Some, None, Err}
use Rattle.outcome.specs.Answers.{Answer}
use mathlib.Core.Path.{refl, ap}
use mathlib.Core.Bool.{Bool}
use mathlib.Core.List.{List, []}
use mathlib.Core.Logic.{◌⊎◌, inl, inr}
use Prim.Native.Nat.{ℕ, ◌<◌}
use native.Mathlib.Omega.{arith}
use lib.Dec.{leb}
use borrow.Author.Tests.{leb-false}
use Rattle.tables.specs.Pool.{Pool}
use Rattle.tables.specs.Tables.{node_of}
use Rattle.outcome.specs.Told.{told_of}
use Rattle.lookup.specs.Work.{Work, work_of}
use Rattle.lookup.specs.Commit.{committing_of, commit_leaf, Committed}
use Rattle.sound.specs.Facts.{Leaf}
use Rattle.outcome.specs.Room.{room_of}
use Rattle.outcome.specs.Outcome.{Outcome, refused}
use Rattle.commit.specs.Commit.{page_refusal, committed_outcome, commit_page_at, commit_page}
use Rattle.isolation.specs.Private.{Private}
use Rattle.isolation.specs.Kept.{pool_with, work_in, Answered}
use Rattle.isolation.proofs.Look.{look_keeps}
use Rattle.soundness.proofs.Soundness.{facts_sound}
use Rattle.arrays.specs.Calls.{Called, Frame, ZeroFrame, NoFrame, Page}
use Rattle.arrays.specs.Calls.Called.{tested, accepted}
use Rattle.arrays.proofs.Called.{Tests, tests_pick, called}
use Rattle.lookups.proofs.Frames.{none_free}

pub page_tests : (N M list : List ℕ) (n page : ℕ) (write : Bool) → Tests (page_refusal N M list n page write) (page < (node_of N n).size)
unfolding page_refusal
page_tests N M list n page write =
    let H = page < (node_of N n).size in
    tests_pick H (leb (node_of N n).size page) _ _ (λ t. tt)
    (λ f.
    let l = leb-false (node_of N n).size page f in
    tests_pick H write _ _ (λ t. tests_pick H (room_of M list 1) _ _ (λ r. l) (λ f. tt)) (λ f. l))

module _ (L : ℕ) (A : ℕ → ℕ → ℕ → ℕ) (p : Pool) (P : Private L A p) (list : List ℕ) (n page : ℕ) (write : Bool) where
  ends_by : (z : Committed) (w : Work) → Answered L p (told_of list 0) n page (A n page) write z w
      → Frame L A p n page write (committed_outcome p (committing_of z w)) ⊎ (ZeroFrame L A p n page write (committed_outcome p (committing_of z w)) ⊎ NoFrame p n page write (committed_outcome p (committing_of z w)))
  ends_by (Ok (Some f)) w a =
      inl (record { frame = f; answer = refl; bytes = a.bytes; enough = λ k. let q = a.taken k in omega arith; taken = a.taken; untaken = a.untaken })
  ends_by (Ok None) w a = inr (inl (record { answer = refl; reading = a.reading; bytes = a.bytes; same = ap (pool_with p) a.same }))
  ends_by (Err r) w a = inr (inr (record { answer = ap Err a.answer; writing = a.writing; short = a.short; none = none_free w.used a.no_frame }))

  pub page_through : Leaf p.nodes n → page < (node_of p.nodes n).size
      → Page L A p n page write (committed_outcome p (commit_leaf L p.nodes p.mappings (work_of p.pages p.used p.memory (told_of list 0)) n page write))
  page_through leaf low =
      let r = commit_leaf L p.nodes p.mappings (work_in p (told_of list 0)) n page write in
      let k = look_keeps L A p P (told_of list 0) n page write leaf low in
      record { private = k.private; stays = record { nodes = refl; mappings = refl; head = refl }; ends = ends_by r.answer r.work k.answers }

  pub page_called : Called (refused p list []) (Page L A p n page write) (commit_page L p list n page write)
  unfolding commit_page_at
  page_called =
      called (refused p list []) (Page L A p n page write) (page < (node_of p.nodes n).size) L p n (λ m. page_refusal p.nodes p.mappings list m page write)
      (λ m. committed_outcome p (commit_leaf L p.nodes p.mappings (work_of p.pages p.used p.memory (told_of list 0)) m page write))
      (facts_sound L p P.sound) (page_tests p.nodes p.mappings list n page write) page_through

  pub page_keeps : Private L A (commit_page L p list n page write).pool
  page_keeps = by page_called
    where
      by : {r : Outcome Answer} → Called (refused p list []) (Page L A p n page write) r → Private L A r.pool
      by (tested why t e) = rw e P
      by (accepted w) = w.private
