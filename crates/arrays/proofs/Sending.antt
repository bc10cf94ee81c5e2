-- Pages one after the other send no more notices than each may send, times the pages, and which these are doesn't depend on the list. Assumes
-- nothing.
use Rattle.std.specs.Prelude.{Option, Ok, Some, None, Err}
use Rattle.outcome.specs.Answers.{Checked}
use mathlib.Core.Path.{◌≡◌, refl, ap, sym, ◌∙◌}
use mathlib.Core.Bool.{true}
use mathlib.Core.List.{List, [], ◌++◌}
use Prim.Native.Nat.{ℕ, zero, suc, ◌+◌, ◌-◌, ◌*◌, ◌≤◌}
use native.Mathlib.Omega.{arith}
use lib.ListN.{length, length-append}
use Rattle.blocks.specs.declared.BlockIter.{BlockIter}
use Rattle.blocks.specs.declared.BlockRange.{BlockRange}
use Rattle.blocks.specs.Blocks.{next_of}
use Rattle.tables.specs.Pool.{Pool}
use Rattle.outcome.specs.declared.notice.Notice.{Notice}
use Rattle.outcome.specs.Told.{Told}
use Rattle.lookup.specs.Work.{Work, work_of}
use Rattle.lookup.specs.Level.{with_told}
use Rattle.lookup.specs.Commit.{Committing, Committed}
use Rattle.sound.specs.Facts.{Leaf, Sound}
use Rattle.outcome.specs.Room.{live_count}
use Rattle.page.specs.Each.{Part, part_of, onward, each}
use Rattle.page.specs.Pages.{against_write, rest_by, stored_by, wrote_page, write_by, write_page, committed_one, commit_one}
use Rattle.bounds.specs.Telling.{put_all}
use Rattle.bounds.proofs.Adding.{put_both}
use Rattle.bounds.proofs.Room.{room_enough}

-- what pages leave: notices named before the list is, at most so many; nothing else depends on the list
pub record Passes {C : Type 0} (step : Told → Part C Work) (most : ℕ) : Type 0 where
  pub why : Checked
  pub rest : C
  pub work : Work
  pub notices : List Notice
  pub few : length notices ≤ most
  pub same : (t : Told) → step t ≡ part_of why rest (with_told work (put_all t notices))

-- one page after the other

module _ {C : Type 0} (step : C → Work → Part C Work) (most : ℕ) where
  after_passes : (k : ℕ) → ((c : C) (w : Work) → Passes (λ t. each step k c (with_told w t)) (k * most)) → (a : Checked) (c : C) (w : Work) (ns : List Notice) → length ns ≤ most
      → Passes (λ t. onward a (part_of a c (with_told w (put_all t ns))) (each step k)) (suc k * most)
  unfolding onward
  after_passes k go (Err r) c w ns f =
      let e : suc k * most ≡ most + k * most = omega arith in
      record { why = Err r; rest = c; work = w; notices = ns; few = omega arith; same = λ t. refl }
  after_passes k go (Ok u) c w ns f =
      let g = go c w in
      let h = g.few in
      let e : suc k * most ≡ most + k * most = omega arith in
      let l = length-append ns g.notices in
      record {
        why = g.why;
        rest = g.rest;
        work = g.work;
        notices = ns ++ g.notices;
        few = omega arith;
        same = λ t. g.same (put_all t ns) ∙ ap (λ (x : Told). part_of g.why g.rest (with_told g.work x)) (sym (put_both ns g.notices t));
      }

  pub each_passes : ((c : C) (w : Work) → Passes (λ t. step c (with_told w t)) most) → (k : ℕ) (c : C) (w : Work) → Passes (λ t. each step k c (with_told w t)) (k * most)
  unfolding each put_all
  each_passes turn zero c w = record { why = (Ok tt); rest = c; work = w; notices = []; few = omega arith; same = λ t. refl }
  each_passes turn (suc k) c w =
      let s = turn c w in
      let g = after_passes k (each_passes turn k) s.why s.rest s.work s.notices s.few in
      record {
        why = g.why;
        rest = g.rest;
        work = g.work;
        notices = g.notices;
        few = g.few;
        same = λ t. ap (λ (x : Part C Work). onward x.why x (each step k)) (s.same t) ∙ g.same t;
      }

-- the bytes stored don't depend on the list either

stored_told : (L : ℕ) (bytes : List ℕ) (from : ℕ) (b : BlockRange) (z : Committed) (w : Work) (t : Told) → stored_by L bytes from b z (with_told w t) ≡ with_told (stored_by L bytes from b z w) t
unfolding stored_by
stored_told L bytes from b (Ok (Some f)) w t = refl
stored_told L bytes from b (Ok None) w t = refl
stored_told L bytes from b (Err r) w t = refl

-- one page of a write and of a commit

module _ (L : ℕ) (p : Pool) (sound : Sound L p) (n : ℕ) (leaf : Leaf p.nodes n) (M : List ℕ) where
  write_by_lem : (offset : ℕ) (bytes : List ℕ) (it : BlockIter) (w : Work) (x : Option (BlockRange × BlockIter)) → Passes (λ t. write_by L p.nodes M n offset bytes it (with_told w t) x) (live_count M)
  unfolding write_by wrote_page put_all
  write_by_lem offset bytes it w None = record { why = (Ok tt); rest = it; work = w; notices = []; few = omega arith; same = λ t. refl }
  write_by_lem offset bytes it w (Some (b, next)) =
      let s = room_enough L p sound M w n b.block true leaf in
      let v = work_of s.pages s.used s.memory w.told in
      let a = against_write s.answer in
      let from = it.begin - offset in
      record {
        why = a;
        rest = rest_by a it next;
        work = stored_by L bytes from b s.answer v;
        notices = s.notices;
        few = s.few;
        same = λ t.
            ap (λ (l : Committing). wrote_page L bytes from b it next l) (s.same t)
            ∙ ap (λ (y : Work). part_of a (rest_by a it next) y) (stored_told L bytes from b s.answer v (put_all t s.notices));
      }

  pub write_passes : (offset : ℕ) (bytes : List ℕ) (it : BlockIter) (w : Work) → Passes (λ t. write_page L p.nodes M n offset bytes it (with_told w t)) (live_count M)
  unfolding write_page
  write_passes offset bytes it w = write_by_lem offset bytes it w (next_of L it)

  pub commit_passes : (i : ℕ) (w : Work) → Passes (λ t. commit_one L p.nodes M n i (with_told w t)) (live_count M)
  unfolding commit_one committed_one
  commit_passes i w =
      let s = room_enough L p sound M w n i true leaf in
      let a = against_write s.answer in
      record {
        why = a;
        rest = rest_by a i (i + 1);
        work = work_of s.pages s.used s.memory w.told;
        notices = s.notices;
        few = s.few;
        same = λ t. ap (λ (l : Committing). committed_one i l) (s.same t);
      }
