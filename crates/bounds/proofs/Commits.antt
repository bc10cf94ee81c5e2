-- commit_page loses no notice, and for reading a page of a live object it is never refused. Assumes nothing.
use Rattle.std.specs.Prelude.{Ok}
use Rattle.outcome.specs.Answers.{Answer}
use mathlib.Core.Path.{◌≡◌, refl, ap, ◌∙◌}
use mathlib.Core.Bool.{Bool, true, false}
use mathlib.Core.List.{List, []}
use mathlib.Core.Logic.{inl, inr}
use Prim.Native.Nat.{ℕ, ◌*◌, ◌/◌, ◌≤◌, ◌<◌}
use native.Mathlib.Omega.{arith}
use lib.Dec.{leb}
use lib.ListN.{length}
use borrow.Author.Tests.{lt-leb, le-leb}
use Rattle.tables.specs.Pool.{Pool}
use Rattle.tables.specs.Tables.{node_of}
use Rattle.outcome.specs.Told.{Told, told_of}
use Rattle.sound.specs.Facts.{Leaf, Sound}
use Rattle.lookup.specs.Work.{Work, work_of}
use Rattle.lookup.specs.Commit.{Committing, commit_leaf, Committed}
use Rattle.outcome.specs.declared.answer.Refusal.TheVariants.{NoRoom}
use Rattle.pool.specs.Calls.{entered, on_entered, on_object}
use Rattle.pool.proofs.Laws.{enters, entered_at}
use Rattle.outcome.specs.Room.{live_count, room_of}
use Rattle.outcome.specs.Outcome.{Outcome, refused}
use Rattle.commit.specs.Commit.{committed_answer, page_refusal, committed_outcome, commit_page_at, commit_page}
use Rattle.logic.proofs.Means.{most, split}
use Rattle.soundness.proofs.Soundness.{sound_facts}
use Rattle.lookups.specs.Reading.{Readable}
use Rattle.lookups.specs.Reading.Readable.{frame, zeros}
use Rattle.bounds.specs.Telling.{Added}
use Rattle.bounds.specs.Calling.{LosesNone, Given}
use Rattle.lookups.proofs.Quiet.{commit-quiet, commit_answers}
use Rattle.bounds.proofs.Room.{room_enough, sent_added}

-- what lookup answers is given

given : {r : Committed} → Readable r → Given (committed_answer r)
given (frame f e) = rw e (record { value = f; is = refl })
given (zeros e) = rw e (record { value = 4294967295; is = refl })

-- a call that sends nothing

added_none : (t t' : Told) → t' ≡ t → Added t [] t'
added_none t t' e = rw e (record { count = omega arith; there = λ j l. absurd (omega arith) })

silent : {call : List ℕ → Outcome Answer} (most : ℕ) → ((list : List ℕ) → (call list).told ≡ told_of list 0) → LosesNone call most
silent most e = record { notices = []; few = omega arith; all = λ list. inr (added_none _ _ (e list)) }

-- the ways through commit_page on an object's node

module _ (L : ℕ) (p : Pool) (n page : ℕ) where
  abbrev started : List ℕ → Work
  started list = work_of p.pages p.used p.memory (told_of list 0)

  abbrev looks : List ℕ → Bool → Committing
  looks list write = commit_leaf L p.nodes p.mappings (started list) n page write

  page_out : (list : List ℕ) (write : Bool) → leb (node_of p.nodes n).size page ≡ true → (commit_page_at L p list n page write).told ≡ told_of list 0
  unfolding commit_page_at page_refusal
  page_out list write e = rw e

  no_room : (list : List ℕ) → leb (node_of p.nodes n).size page ≡ false → room_of p.mappings list 1 ≡ false → commit_page_at L p list n page true ≡ refused p list [] NoRoom
  unfolding commit_page_at page_refusal
  no_room list e r = rw (e, r)

  goes_on : (list : List ℕ) → leb (node_of p.nodes n).size page ≡ false → room_of p.mappings list 1 ≡ true → commit_page_at L p list n page true ≡ committed_outcome p (looks list true)
  unfolding commit_page_at page_refusal
  goes_on list e r = rw (e, r)

  reads : (list : List ℕ) → leb (node_of p.nodes n).size page ≡ false → commit_page_at L p list n page false ≡ committed_outcome p (looks list false)
  unfolding commit_page_at page_refusal
  reads list e = rw e

  has_room : (list : List ℕ) → live_count p.mappings ≤ length list / 4 → room_of p.mappings list 1 ≡ true
  unfolding room_of
  has_room list h = le-leb (1 * live_count p.mappings) (length list / 4) (omega arith)

  room_short : (list : List ℕ) → (live_count p.mappings ≤ length list / 4 → ⊥) → room_of p.mappings list 1 ≡ false
  unfolding room_of
  room_short list h = lt-leb (1 * live_count p.mappings) (length list / 4) (omega arith)

  node_loses : Sound L p → Leaf p.nodes n → (write : Bool) → LosesNone (λ list. commit_page_at L p list n page write) (live_count p.mappings)
  node_loses sound leaf = by (leb (node_of p.nodes n).size page) refl
    where
      by : (b : Bool) → leb (node_of p.nodes n).size page ≡ b → (write : Bool) → LosesNone (λ list. commit_page_at L p list n page write) (live_count p.mappings)
      by true e write = silent _ (λ list. page_out list write e)
      by false e false =
          silent _ (λ list. ap (λ (s : Outcome Answer). s.told) (reads list e) ∙ (commit-quiet L p.nodes p.mappings (started list) n page).2)
      by false e true =
          let s = room_enough L p sound p.mappings (started []) n page true leaf in
          record {
            notices = s.notices;
            few = s.few;
            all = λ list.
                split (most (live_count p.mappings) (length list / 4))
                (λ room. inr (rw (goes_on list e (has_room list room)) (sent_added s (told_of list 0) (omega arith))))
                (λ full.
                let r = no_room list e (room_short list full) in
                inl (record { short = omega arith; answer = ap (λ (s : Outcome Answer). s.answer) r; told = ap (λ (s : Outcome Answer). s.told) r }));
          }

-- commit_page

module _ (L : ℕ) (p : Pool) (object page : ℕ) where
  pub commit_loses_none : (write : Bool) → LosesNone (λ list. commit_page L p list object page write) (live_count p.mappings)
  unfolding on_object on_entered
  commit_loses_none write =
      enters (λ e. LosesNone (λ list. on_entered (refused p list []) (λ n. commit_page_at L p list n page write) e) (live_count p.mappings)) L p object
      (λ s. silent _ (λ list. refl)) (silent _ (λ list. refl)) (λ s l leaf. node_loses L p object page (sound_facts L p s) leaf write)

  -- every page of every object of a sound pool can be read
  pub commit-reads : (list : List ℕ) (n : ℕ) → entered L p object ≡ Ok n → page < (node_of p.nodes n).size → Given (commit_page L p list object page false).answer
  unfolding on_object on_entered
  commit-reads list n e l =
      let f = entered_at L p object n e in
      rw e
      (rw (reads L p n page list (lt-leb _ _ l))
      (given (commit_answers L p (sound_facts L p f.0) p.mappings (started L p n page list) n page f.1)))
