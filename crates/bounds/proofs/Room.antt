-- No notice is lost: a lookup sends at most one for each live mapping, and a list with room for these takes them all. Assumes nothing.
use mathlib.Core.Path.{◌≡◌, ap}
use mathlib.Core.Bool.{Bool}
use mathlib.Core.List.{List}
use Prim.Native.Nat.{ℕ, suc, ◌+◌, ◌*◌, ◌/◌, ◌≤◌}
use native.Mathlib.Omega.{arith}
use lib.ListN.{length}
use Rattle.tables.specs.Pool.{Pool}
use Rattle.tables.specs.Tables.{node_of}
use Rattle.outcome.specs.Told.{Told}
use Rattle.notices.specs.Notices.{tell_object, range_change}
use Rattle.sound.specs.Facts.{Leaf, Sound}
use Rattle.lookup.specs.Work.{Work}
use Rattle.lookup.specs.Level.{with_told}
use Rattle.lookup.specs.Commit.{committed_by, Committing, committing, commit_leaf}
use Rattle.outcome.specs.Room.{live_count}
use Rattle.bounds.specs.Telling.{Tells, Sends, Wrote, Added}
use Rattle.lookups.proofs.Leaves.{leaf_seen}
use Rattle.bounds.proofs.Adding.{wrote_in, all_wrote, all_added}
use Rattle.bounds.proofs.Once.{once_few}
use Rattle.bounds.proofs.Heard.{Heard, object_heard, range_heard}
use Rattle.bounds.proofs.Walk.{leaf_sent}
use Rattle.lookups.proofs.Chain.{sound-short}

-- what is sent is written, and all of it where there is room for the most that may be sent

module _ {step : Told → Told} {most : ℕ} (s : Tells step most) (t : Told) where
  pub told_wrote : Wrote t most (step t)
  told_wrote = let f = s.few in rw (s.same t) (wrote_in f (all_wrote s.notices t))

  pub told_added : t.count + most ≤ length t.list / 4 → Added t s.notices (step t)
  told_added room = let f = s.few in rw (s.same t) (all_added s.notices t (omega arith))

module _ {step : Told → Committing} {most : ℕ} (s : Sends step most) (t : Told) where
  pub sent_wrote : Wrote t most (step t).work.told
  sent_wrote = let f = s.few in rw (s.same t) (wrote_in f (all_wrote s.notices t))

  pub sent_added : t.count + most ≤ length t.list / 4 → Added t s.notices (step t).work.told
  sent_added room = let f = s.few in rw (s.same t) (all_added s.notices t (omega arith))

-- room for k steps more is left
pub room_left : {t t' : Told} (most k : ℕ) → Wrote t most t' → t.count + suc k * most ≤ length t.list / 4 → t'.count + k * most ≤ length t'.list / 4
room_left most k w room =
    let e : suc k * most ≡ most + k * most = omega arith in
    let f = w.few in
    rw w.room (omega arith)

-- the steps

heard_tells : (M : List ℕ) (P : ℕ → Type 0) {step : Told → Told} → Heard M P step → Tells step (live_count M)
heard_tells M P h = record { notices = h.notices; few = once_few h.once; same = h.same }

-- an object's mappings
pub object_room : (M : List ℕ) (object offset len : ℕ) (op : ℕ) → Tells (λ t. tell_object M t 64 object offset len op) (live_count M)
object_room M object offset len op = heard_tells M (λ o. o ≡ object) (object_heard M object offset len op)

-- the mappings of all leaves below a node
pub range_room : (L : ℕ) (p : Pool) → Sound L p → (M : List ℕ) (node lo hi : ℕ) (op : ℕ) → Tells (λ t. range_change 64 p.nodes M node lo hi op t) (live_count M)
range_room L p sound M node lo hi op = heard_tells M _ (range_heard (sound-short L p sound) sound.tree M op 64 node lo hi)

-- a page lookup from a leaf
pub room_enough : (L : ℕ) (p : Pool) → Sound L p → (M : List ℕ) (w : Work) (l i : ℕ) (write : Bool) → Leaf p.nodes l → Sends (λ t. commit_leaf L p.nodes M (with_told w t) l i write) (live_count M)
unfolding commit_leaf
room_enough L p sound M w l i write leaf =
    let s =
    leaf_sent L (sound-short L p sound) sound.tree M w.pages w.used w.memory write 63 l i (leaf_seen (node_of p.nodes l) leaf) in
    record {
      answer = committed_by s.answer;
      pages = s.pages;
      used = s.used;
      memory = s.memory;
      notices = s.notices;
      few = once_few s.once;
      same = λ t. ap committing (s.same t);
    }

-- with room for one notice for each live mapping, each that is due stands in the list; and without it nothing is written past the count
pub none_lost : (L : ℕ) (p : Pool) (sound : Sound L p) (M : List ℕ) (w : Work) (l i : ℕ) (write : Bool) (leaf : Leaf p.nodes l) → w.told.count + live_count M ≤ length w.told.list / 4 → Added w.told (room_enough L p sound M w l i write leaf).notices (commit_leaf L p.nodes M w l i write).work.told
none_lost L p sound M w l i write leaf = sent_added (room_enough L p sound M w l i write leaf) w.told

pub look_wrote : (L : ℕ) (p : Pool) → Sound L p → (M : List ℕ) (w : Work) (l i : ℕ) (write : Bool) → Leaf p.nodes l → Wrote w.told (live_count M) (commit_leaf L p.nodes M w l i write).work.told
look_wrote L p sound M w l i write leaf = sent_wrote (room_enough L p sound M w l i write leaf) w.told
