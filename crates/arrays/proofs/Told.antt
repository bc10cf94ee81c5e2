-- The room that write, commit and create_child test is enough: no notice is lost, and no word past the count is written. Assumes nothing.
use Rattle.std.specs.Prelude.{Option, ℕ, Some, None, Err, Ok}
use mathlib.Core.Path.{◌≡◌, refl, ap, ◌∙◌}
use mathlib.Core.Bool.{Bool, true, false}
use mathlib.Core.List.{List, []}
use mathlib.Core.Logic.{◌⊎◌, inl, inr}
use Prim.Native.Nat.{ℕ, ◌+◌, ◌*◌, ◌/◌, ◌≤◌}
use native.Mathlib.Omega.{arith}
use lib.Dec.{leb}
use lib.ListN.{length, get_or}
use borrow.Author.Tests.{leb-true, leb-false}
use Rattle.logic.specs.Pick.{pick}
use Rattle.blocks.specs.Blocks.{iter_of, count_of}
use Rattle.node.specs.Node.{last_owner, cached_of, contains_of}
use Rattle.tables.specs.Pool.{Pool}
use Rattle.tables.specs.Tables.{node_of, free_node_in, free_node_from}
use Rattle.outcome.specs.declared.notice.Notice.{Notice}
use Rattle.outcome.specs.Told.{remove_write, Told, told_of}
use Rattle.sound.specs.Facts.{Leaf, Sound}
use Rattle.soundness.proofs.Soundness.{sound_facts}
use Rattle.lookup.specs.Work.{Work}
use Rattle.lookup.specs.Level.{with_told}
use Rattle.outcome.specs.declared.answer.Refusal as R
use Rattle.outcome.specs.declared.answer.Refusal.{Refusal}
use Rattle.outcome.specs.Answers.{unless, Checked, Answer}
use Rattle.pool.specs.Calls.{on_entered, on_object}
use Rattle.pool.proofs.Laws.{enters}
use Rattle.outcome.specs.Room.{live_count, room_of}
use Rattle.outcome.specs.Outcome.{Outcome, refused}
use Rattle.child.specs.Child.{born, against_child, with_both, with_child, number_child, child_at, create_child}
use Rattle.page.specs.Each.{Part}
use Rattle.page.specs.Pages.{write_page, commit_one}
use Rattle.ranges.specs.Ranges.{ranged_by, start_work, against_writing, write_range, written, write_through, write_at, write, against_committing, commit_range, committed, commit_through, commit_at, commit}
use Rattle.bounds.specs.Telling.{put_all, Wrote, Added}
use Rattle.bounds.specs.Calling.{NoRoomFor}
use Rattle.bounds.proofs.Adding.{wrote_none, wrote_in, all_wrote, all_added}
use Rattle.bounds.proofs.Room.{object_room}
use Rattle.arrays.specs.Told.{TellsAll}
use Rattle.arrays.proofs.Sending.{Passes, each_passes, write_passes, commit_passes}

-- a call that sends nothing

added_none : (t t' : Told) → t' ≡ t → Added t [] t'
added_none t t' e = rw e (record { count = omega arith; there = λ j l. absurd (omega arith) })

silent : {call : List ℕ → Outcome Answer} {most : ℕ} → ((list : List ℕ) → (call list).told ≡ told_of list 0) → TellsAll call most
silent {call} {most} e =
    record {
      loses_none = record { notices = []; few = omega arith; all = λ list. inr (added_none _ _ (e list)) };
      wrote = λ list. rw (e list) (wrote_none (told_of list 0) most);
    }

-- a call that sends the same notices to every list with room

module _ (p : Pool) (pages : ℕ) (ns : List Notice) {call : List ℕ → Outcome Answer} {most : ℕ} where
  tested : most ≡ pages * live_count p.mappings → length ns ≤ most
      → ((list : List ℕ) → room_of p.mappings list pages ≡ true → (call list).told ≡ put_all (told_of list 0) ns)
      → ((list : List ℕ) → room_of p.mappings list pages ≡ false → call list ≡ refused p list [] R.TheVariants.NoRoom) → TellsAll call most
  unfolding room_of
  tested m few full short =
      record {
        loses_none = record { notices = ns; few = few; all = λ list. takes list (room_of p.mappings list pages) refl };
        wrote = λ list. writes list (room_of p.mappings list pages) refl;
      }
    where
      takes : (list : List ℕ) (b : Bool) → room_of p.mappings list pages ≡ b → NoRoomFor most list (call list) ⊎ Added (told_of list 0) ns (call list).told
      takes list true e = let l = leb-true (pages * live_count p.mappings) (length list / 4) e in inr (rw (full list e) (all_added ns (told_of list 0) (omega arith)))
      takes list false e =
          let l = leb-false (pages * live_count p.mappings) (length list / 4) e in
          inl (record { short = omega arith; answer = ap (λ (s : Outcome Answer). s.answer) (short list e); told = ap (λ (s : Outcome Answer). s.told) (short list e) })

      writes : (list : List ℕ) (b : Bool) → room_of p.mappings list pages ≡ b → Wrote (told_of list 0) most (call list).told
      writes list true e = rw (full list e) (wrote_in few (all_wrote ns (told_of list 0)))
      writes list false e = rw (short list e) (wrote_none (told_of list 0) most)

-- a call on an object

object_told : (L : ℕ) (p : Pool) (object : ℕ) {most : ℕ} (does : List ℕ → ℕ → Outcome Answer) → (Sound L p → Leaf p.nodes object → TellsAll (λ list. does list object) most)
    → TellsAll (λ list. on_object L p object (refused p list []) (does list)) most
unfolding on_object on_entered
object_told L p object {most} does go =
    enters (λ e. TellsAll (λ list. on_entered (refused p list []) (does list) e) most) L p object
    (λ s. silent (λ list. refl)) (silent (λ list. refl)) (λ s l leaf. go (sound_facts L p s) leaf)

-- create_child

module _ (p : Pool) (n first pages : ℕ) where
  both_told : (child : ℕ) (f : Option ℕ) → TellsAll (λ list. with_both p list n first pages child f) (live_count p.mappings)
  unfolding with_both born
  both_told child (Some hidden) =
      let s = object_room p.mappings n first (first + pages) remove_write in
      tested p 1 s.notices (omega arith) s.few (λ list r. rw r (s.same (told_of list 0))) (λ list r. rw r refl)
  both_told child None = silent (λ list. refl)

  child_told_lem : (f : Option ℕ) → TellsAll (λ list. with_child p list n first pages f) (live_count p.mappings)
  unfolding with_child
  child_told_lem (Some child) = both_told child (free_node_from p.nodes (child + 1))
  child_told_lem None = silent (λ list. refl)

  numbered_told : TellsAll (λ list. number_child p list n first pages) (live_count p.mappings)
  unfolding number_child
  numbered_told = by (leb (get_or p.head 0 0) last_owner)
    where
      by : (b : Bool) → TellsAll (λ list. pick b (with_child p list n first pages (free_node_in p.nodes)) (refused p list [] R.TheVariants.NoNode)) (live_count p.mappings)
      by true = child_told_lem (free_node_in p.nodes)
      by false = silent (λ list. refl)

unless_told : {most : ℕ} (p : Pool) (a : Checked) (go : List ℕ → Outcome Answer) → TellsAll go most → TellsAll (λ list. unless a (refused p list []) (go list)) most
unless_told p (Err r) go t = silent (λ list. refl)
unless_told p (Ok u) go t = t

pub child_loses_none : (L : ℕ) (p : Pool) (object offset len : ℕ) → TellsAll (λ list. create_child L p list object offset len) (live_count p.mappings)
unfolding child_at
child_loses_none L p object offset len =
    object_told L p object (λ list n. child_at L p list n offset len)
    (λ s l. unless_told p (against_child L (node_of p.nodes object) offset len) _ (numbered_told p object (offset / L) (len / L)))

-- write and commit: the tests before the room don't depend on the list

abbrev Most : Pool → ℕ → ℕ
Most p pages = pages * live_count p.mappings

abbrev Room : Pool → ℕ → List ℕ → Checked
Room p pages list = pick (room_of p.mappings list pages) (Ok tt) (Err R.TheVariants.NoRoom)

module _ (p : Pool) (pages : ℕ) {C : Type 0} (range : Work → Part C Work) (go : List ℕ → Outcome Answer) where
  inside_told : ((list : List ℕ) → (go list).told ≡ (range (start_work p list)).state.told) → (b : Bool) (why : Refusal) → Passes (λ t. range (with_told (start_work p []) t)) (Most p pages)
      → TellsAll (λ list. unless (pick b (Room p pages list) (Err why)) (refused p list []) (go list)) (Most p pages)
  inside_told same true why s =
      tested p pages s.notices refl s.few
      (λ list r. rw r (same list ∙ ap (λ (x : Part C Work). x.state.told) (s.same (told_of list 0)))) (λ list r. rw r refl)
  inside_told same false why s = silent (λ list. refl)

pub write_loses_none : (L : ℕ) (p : Pool) (object offset : ℕ) (bytes : List ℕ)
    → TellsAll (λ list. write L p list object offset bytes) (count_of L (iter_of offset (offset + length bytes)) * live_count p.mappings)
unfolding write_at against_writing write_through write_range written ranged_by
write_loses_none L p object offset bytes =
    object_told L p object (λ list n. write_at L p list n offset bytes) (λ s l. by s l (cached_of (node_of p.nodes object)))
  where
    k : ℕ
    k = count_of L (iter_of offset (offset + length bytes))

    by : Sound L p → Leaf p.nodes object → (c : Bool)
        → TellsAll (λ list. unless (pick c (pick (contains_of L (node_of p.nodes object) offset (length bytes)) (Room p k list) (Err R.TheVariants.OutOfRange)) (Err R.TheVariants.BadState)) (refused p list []) (write_through L p list object offset bytes)) (k * live_count p.mappings)
    by s l true =
        inside_told p k (write_range L p.nodes p.mappings object offset bytes) (λ list. write_through L p list object offset bytes) (λ list. refl)
        (contains_of L (node_of p.nodes object) offset (length bytes)) R.TheVariants.OutOfRange
        (each_passes (write_page L p.nodes p.mappings object offset bytes) (live_count p.mappings) (write_passes L p s object l p.mappings offset bytes) k (iter_of offset (offset + length bytes)) (start_work p []))
    by s l false = silent (λ list. refl)

pub commit_range_loses_none : (L : ℕ) (p : Pool) (object offset len : ℕ) → TellsAll (λ list. commit L p list object offset len) (len / L * live_count p.mappings)
unfolding commit_at against_committing commit_through commit_range committed ranged_by
commit_range_loses_none L p object offset len =
    object_told L p object (λ list n. commit_at L p list n offset len)
    (λ s l.
    inside_told p (len / L) (commit_range L p.nodes p.mappings object (offset / L) (len / L)) (λ list. commit_through L p list object offset len) (λ list. refl)
    (contains_of L (node_of p.nodes object) offset len) R.TheVariants.OutOfRange
    (each_passes (commit_one L p.nodes p.mappings object) (live_count p.mappings) (commit_passes L p s object l p.mappings) (len / L) (offset / L) (start_work p [])))
