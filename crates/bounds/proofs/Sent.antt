-- A page lookup tells each live mapping at most once: at every node the other child's leaves, and at last its own. Assumes nothing.
use Rattle.std.specs.Prelude.{Option, ℕ, Some, None, Err, Ok}
use mathlib.Core.Path.{◌≡◌, refl, sym, ap, ◌∙◌}
use mathlib.Core.Bool.{Bool, true, false, ◌&&◌}
use mathlib.Core.List.{List, [], ◌++◌}
use Prim.Native.Nat.{ℕ, ◌+◌}
use lib.ListN.{length, length-append}
use Rattle.logic.specs.Pick.{pick}
use Rattle.entry.specs.declared.PageState.{PageState}
use Rattle.entry.specs.Entry.{split_of, new_state}
use Rattle.node.specs.Node.{hidden_of, side_of}
use Rattle.tables.specs.Tables.{slot_at, with_state}
use Rattle.frames.specs.Frames.{free_frame_in}
use Rattle.outcome.specs.declared.notice.Notice.{Notice}
use Rattle.outcome.specs.Told.{Told, unmap}
use Rattle.notices.specs.Notices.{range_change}
use Rattle.lookup.specs.Work.{Looked, work_of, Looking, looking_of}
use Rattle.lookup.specs.declared.CommitResult.TheVariants.{Ref, Zero, CopyOnWrite, NewPage}
use Rattle.lookup.specs.declared.LookupError.TheVariants.{NoMemory, Stopped}
use Rattle.lookup.specs.declared.Place.{Place}
use Rattle.lookup.specs.Mode.{Mode, today, node_at, other, both_at, halts_at, asks}
use Rattle.lookup.specs.Level.{cleared, fresh_by, fresh_in, fresh, child_told, copy_by, share_in, leaf_told, serve, pass_by, pass}
use Rattle.lookup.specs.Lookup.{enter_by, enter}
use Rattle.bounds.specs.Telling.{put_all}
use Rattle.bounds.proofs.Adding.{put_both}
use Rattle.bounds.proofs.Once.{Once, once_none, once_in, once_both}
use Rattle.bounds.proofs.Heard.{Heard, heard_none, heard_pick, object_heard}

-- a lookup that does the same and sends the same notices whatever the list, at most one for each live mapping, of objects that P holds of
pub record Sent (M : List ℕ) (P : ℕ → Type 0) (step : Told → Looking) : Type 0 where
  pub answer : Looked
  pub pages : List ℕ
  pub used : List ℕ
  pub memory : List ℕ
  pub notices : List Notice
  pub once : Once M P (length notices)
  pub same : (t : Told) → step t ≡ looking_of answer (work_of pages used memory (put_all t notices))

module _ {M : List ℕ} where
  pub sent_none : {P : ℕ → Type 0} (r : Looked) (p u y : List ℕ) → Sent M P (λ t. looking_of r (work_of p u y t))
  unfolding put_all
  sent_none r p u y = record { answer = r; pages = p; used = u; memory = y; notices = []; once = once_none; same = λ t. refl }

  pub sent_pick : {P : ℕ → Type 0} {f g : Told → Looking} (b : Bool) → Sent M P f → Sent M P g → Sent M P (λ t. pick b (f t) (g t))
  sent_pick true p q = p
  sent_pick false p q = q

  pub sent_in : {P Q : ℕ → Type 0} {f g : Told → Looking} → ((t : Told) → g t ≡ f t) → ((o : ℕ) → P o → Q o) → Sent M P f → Sent M Q g
  sent_in e i s =
      record {
        answer = s.answer;
        pages = s.pages;
        used = s.used;
        memory = s.memory;
        notices = s.notices;
        once = once_in i s.once;
        same = λ t. e t ∙ s.same t;
      }

  -- notices, and then a step
  pub sent_after : {P : ℕ → Type 0} {f : Told → Told} {g : Told → Looking} → Heard M P f → Sent M (λ o. ⊥) g → Sent M P (λ t. g (f t))
  sent_after {P} {f} {g} h s =
      let ns = h.notices in
      let ms = s.notices in
      record {
        answer = s.answer;
        pages = s.pages;
        used = s.used;
        memory = s.memory;
        notices = ns ++ ms;
        once = rw (length-append ns ms) (once_both (λ o p q. q) h.once s.once (λ o p. p) (λ o q. absurd q));
        same = λ t.
            s.same (f t)
            ∙ ap (λ (x : Told). looking_of s.answer (work_of s.pages s.used s.memory x))
            (ap (λ (x : Told). put_all x ms) (h.same t) ∙ sym (put_both ns ms t));
      }

  -- a step, and then another that goes on from it
  pub sent_then : {P Q R : ℕ → Type 0} {f : Told → Looking} (g : Looking → Looking) → ((o : ℕ) → P o → Q o → ⊥) → ((o : ℕ) → P o → R o) → ((o : ℕ) → Q o → R o) → Sent M P f → ((r : Looked) (p u y : List ℕ) → Sent M Q (λ t. g (looking_of r (work_of p u y t)))) → Sent M R (λ t. g (f t))
  sent_then {P} {Q} {R} {f} g never i j a b =
      let s = b a.answer a.pages a.used a.memory in
      let ns = a.notices in
      let ms = s.notices in
      record {
        answer = s.answer;
        pages = s.pages;
        used = s.used;
        memory = s.memory;
        notices = ns ++ ms;
        once = rw (length-append ns ms) (once_both never a.once s.once i j);
        same = λ t.
            ap g (a.same t) ∙ s.same (put_all t ns)
            ∙ ap (λ (x : Told). looking_of s.answer (work_of s.pages s.used s.memory x)) (sym (put_both ns ms t));
      }

-- the steps of a node

module _ (L : ℕ) (N M : List ℕ) (p : Place) (write : Bool) where
  abbrev m : Mode
  m = today L N M

  fresh_sent : {P : ℕ → Type 0} (q u y : List ℕ) → Sent M P (λ t. fresh m write (work_of q u y t) p)
  unfolding fresh_in fresh_by cleared
  fresh_sent {P} q u y = sent_pick write (by (free_frame_in u) (hidden_of (node_at m p)) (halts_at m p)) (sent_none (Ok Zero) q u y)
    where
      by : (f : Option ℕ) (hidden halts : Bool) → Sent M P (λ t. fresh_by L f (work_of q u y t) p hidden halts)
      by None hidden halts = sent_none _ _ _ _
      by (Some f) true true = sent_none _ _ _ _
      by (Some f) true false = sent_none _ _ _ _
      by (Some f) false true = sent_none _ _ _ _
      by (Some f) false false = sent_none _ _ _ _

  share_sent : {P : ℕ → Type 0} (s : PageState) (q u y : List ℕ) (unmap : Bool) → Sent M P (λ t. share_in m write p s unmap (work_of q u y t))
  unfolding share_in copy_by child_told
  share_sent {P} s q u y unmap =
      sent_pick (split_of s.tag) (sent_none _ _ _ _) (sent_pick (write && split_of (side_of (node_at m p) p.asker).tag) (by (free_frame_in u)) (sent_none _ _ _ _))
    where
      by : (f : Option ℕ) → Sent M P (λ t. copy_by m p s unmap f (work_of q u y t))
      by None = sent_none _ _ _ _
      by (Some f) = sent_none _ _ _ _

  abbrev pub Settles : (ℕ → Type 0) → Type 0
  Settles P = (s : PageState) (q u y : List ℕ) (unmap : Bool) → Sent M P (λ t. serve m write p s unmap (work_of q u y t))

  pub hidden_settles : {P : ℕ → Type 0} → hidden_of (node_at m p) ≡ true → Heard M P (λ t. range_change 64 N M (other (node_at m p) p.asker) p.page (p.page + 1) unmap t) → Settles P
  unfolding serve child_told
  hidden_settles {P} e h s q u y due =
      rw e
      (sent_pick (both_at m p) (sent_after (heard_pick due h heard_none) (share_sent s q u y due)) (sent_none _ _ _ _))

  pub leaf_settles : hidden_of (node_at m p) ≡ false → Settles (λ o. o ≡ p.node)
  unfolding serve leaf_told
  leaf_settles e s q u y due = rw e (sent_after (heard_pick due (object_heard M p.node p.page (p.page + 1) unmap) heard_none) (sent_none (Ok (Ref s.frame)) q u y))

  -- what the parent sends, and then what the node does

  module _ {Q : ℕ → Type 0} (settles : Settles Q) where
    pass_sent : (r : Looked) (q u y : List ℕ) → Sent M Q (λ t. pass_by m write p r (work_of q u y t))
    unfolding pass_by
    pass_sent (Ok (Ref f)) q u y = sent_none _ _ _ _
    pass_sent (Ok Zero) q u y = sent_none _ _ _ _
    pass_sent (Err NoMemory) q u y = sent_none _ _ _ _
    pass_sent (Err Stopped) q u y = sent_none _ _ _ _
    pass_sent (Ok (NewPage f)) q u y = sent_pick (hidden_of (node_at m p)) (sent_none _ _ _ _) (sent_none _ _ _ _)
    pass_sent (Ok (CopyOnWrite f due)) q u y = settles (new_state f) (with_state q p.node p.page (new_state f)) u y due

    pub enter_sent : {P R : ℕ → Type 0} {above : Told → Looking} → ((o : ℕ) → P o → Q o → ⊥) → ((o : ℕ) → P o → R o) → ((o : ℕ) → Q o → R o) → Sent M P above → (q u y : List ℕ) → Sent M R (λ t. enter m write (work_of q u y t) p (above t))
    unfolding enter_by
    enter_sent {P} {R} {above} never a b s q u y = by (slot_at q p.node p.page)
      where
        by : (x : Option PageState) → Sent M R (λ t. enter_by m write (work_of q u y t) p x (above t))
        by (Some e) = sent_in (λ t. refl) b (settles e q u y false)
        by None = sent_pick (asks m p) (sent_then (pass m write p) never a b s pass_sent) (fresh_sent q u y)
