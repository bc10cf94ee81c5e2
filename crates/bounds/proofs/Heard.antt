-- An object's mappings, and the mappings of all leaves below a node, hear of a change at most once each. Assumes nothing.
use Rattle.std.specs.Prelude.{Option, Some, None}
use mathlib.Core.Path.{◌≡◌, refl, sym, ap, ◌∙◌}
use mathlib.Core.Bool.{Bool, true, false}
use mathlib.Core.List.{List, [], ◌∷◌, ◌++◌}
use Prim.Native.Nat.{ℕ, zero, suc, ◌+◌, ◌-◌, ◌≤◌}
use native.Mathlib.Omega.{arith}
use lib.Dec.{eqb, ltb}
use lib.ListN.{length, length-append}
use borrow.Author.Tests.{eqb-true, ne_eqb}
use Rattle.logic.specs.Pick.{pick}
use Rattle.logic.specs.Below.{sum_below}
use Rattle.node.specs.Node.{hidden_of}
use Rattle.tables.specs.Tables.{node_of, mapping_of, number_of}
use Rattle.outcome.specs.declared.notice.Notice.{Notice}
use Rattle.outcome.specs.Told.{Told}
use Rattle.notices.specs.Notices.{overlap_of, tell_due, tell_place, tell_object, low_in, high_in, child_of, range_change}
use Rattle.sound.specs.Facts.{Hidden, Tree}
use Rattle.outcome.specs.Room.{live_one}
use Rattle.logic.proofs.Means.{equal, split}
use Rattle.notices.proofs.Laws.{overlap_free}
use Rattle.bounds.specs.Telling.{put_all}
use Rattle.bounds.proofs.Ranges.{named_under, named_link}
use Rattle.bounds.proofs.Adding.{put_both}
use Rattle.bounds.proofs.Once.{Once, once_none, once_in, once_both}
use Rattle.bounds.proofs.Family.{Below, self, below_parent, not_above, apart}
use Rattle.lookups.proofs.Chain.{Short}

-- a step that sends the same notices whatever the list, at most one for each live mapping, of objects that P holds of
pub record Heard (M : List ℕ) (P : ℕ → Type 0) (step : Told → Told) : Type 0 where
  pub notices : List Notice
  pub once : Once M P (length notices)
  pub same : (t : Told) → step t ≡ put_all t notices

module _ {M : List ℕ} where
  pub heard_none : {P : ℕ → Type 0} → Heard M P (λ t. t)
  unfolding put_all
  heard_none = record { notices = []; once = once_none; same = λ t. refl }

  pub heard_in : {P Q : ℕ → Type 0} {f : Told → Told} → ((o : ℕ) → P o → Q o) → Heard M P f → Heard M Q f
  heard_in i h = record { notices = h.notices; once = once_in i h.once; same = h.same }

  pub heard_pick : {P : ℕ → Type 0} {f g : Told → Told} (b : Bool) → Heard M P f → Heard M P g → Heard M P (λ t. pick b (f t) (g t))
  heard_pick true p q = p
  heard_pick false p q = q

  pub heard_then : {P Q R : ℕ → Type 0} {f g : Told → Told} → ((o : ℕ) → P o → Q o → ⊥) → ((o : ℕ) → P o → R o) → ((o : ℕ) → Q o → R o) → Heard M P f → Heard M Q g → Heard M R (λ t. g (f t))
  heard_then {P} {Q} {R} {f} never i j p q =
      let ns = p.notices in
      let ms = q.notices in
      record {
        notices = ns ++ ms;
        once = rw (length-append ns ms) (once_both never p.once q.once i j);
        same = λ t. q.same (f t) ∙ ap (λ (x : Told). put_all x ms) (p.same t) ∙ sym (put_both ns ms t);
      }

-- one object

abbrev listed : Option Notice → List Notice
listed (Some n) = n ∷ []
listed None = []

module _ (M : List ℕ) (object offset len : ℕ) (op : ℕ) where
  unfoldable due_at : ℕ → List Notice
  due_at i = pick (eqb (mapping_of M i).object object) (listed (overlap_of (mapping_of M i) offset len op)) []

  unfoldable due_to : ℕ → List Notice
  due_to zero = []
  due_to (suc k) = due_to k ++ due_at k

  place_same : (t : Told) (i : ℕ) → tell_place M t i object offset len op ≡ put_all t (due_at i)
  unfolding tell_place due_at put_all
  place_same t i = by (eqb (mapping_of M i).object object) (overlap_of (mapping_of M i) offset len op)
    where
      by : (b : Bool) (d : Option Notice) → pick b (tell_due t d) t ≡ put_all t (pick b (listed d) [])
      by true (Some n) = refl
      by true None = refl
      by false d = refl

  object_same : (t : Told) (k : ℕ) → tell_object M t k object offset len op ≡ put_all t (due_to k)
  unfolding tell_object due_to put_all
  object_same t zero = refl
  object_same t (suc k) = place_same _ k ∙ ap (λ (x : Told). put_all x (due_at k)) (object_same t k) ∙ sym (put_both (due_to k) (due_at k) t)

  due_count : (k : ℕ) → length (due_to k) ≡ sum_below (λ i. length (due_at i)) k
  unfolding due_to sum_below
  due_count zero = refl
  due_count (suc k) = length-append (due_to k) (due_at k) ∙ ap (λ (x : ℕ). x + length (due_at k)) (due_count k)

  due_live : (i : ℕ) → length (due_at i) ≤ live_one M i
  unfolding due_at live_one number_of
  due_live i =
      split (equal (mapping_of M i).number 0)
      (λ z. rw (← overlap_free (mapping_of M i) offset len op z) (free (eqb (mapping_of M i).object object)))
      (λ ne. rw (ne_eqb _ _ ne) (most_one (eqb (mapping_of M i).object object) (overlap_of (mapping_of M i) offset len op)))
    where
      free : (b : Bool) {n : ℕ} → length (pick b (listed None) []) ≤ n
      free true = omega arith
      free false = omega arith

      most_one : (b : Bool) (d : Option Notice) → length (pick b (listed d) []) ≤ 1
      most_one true (Some n) = omega arith
      most_one true None = omega arith
      most_one false d = omega arith

  due_only : (i : ℕ) → 1 ≤ length (due_at i) → (mapping_of M i).object ≡ object
  unfolding due_at
  due_only i h = by (eqb (mapping_of M i).object object) refl h
    where
      by : (b : Bool) → eqb (mapping_of M i).object object ≡ b → 1 ≤ length (pick b (listed (overlap_of (mapping_of M i) offset len op)) []) → (mapping_of M i).object ≡ object
      by true e h = eqb-true _ _ e
      by false e h = absurd (omega arith)

  pub object_heard : Heard M (λ o. o ≡ object) (λ t. tell_object M t 64 object offset len op)
  object_heard =
      record {
        notices = due_to 64;
        once = record { to = λ i. length (due_at i); live = due_live; only = due_only; sum = due_count 64 };
        same = λ t. object_same t 64;
      }

-- all below a node

module _ {N : List ℕ} (s : Short N) {next : ℕ} (tree : Tree N next) (M : List ℕ) (op : ℕ) where
  abbrev Hears : ℕ → ℕ → Type 0
  Hears k node = (lo hi : ℕ) → Heard M (Below N node) (λ t. range_change k N M node lo hi op t)

  children_heard : (k node a e : ℕ) → Hidden N node → ((c : ℕ) → Hears k c) → Heard M (λ o. (o ≡ node → ⊥) × Below N node o)
      (λ t. range_change k N M (child_of (node_of N node).right) a e op (range_change k N M (child_of (node_of N node).left) a e op t))
  children_heard k node a e h ih =
      let l = child_of (node_of N node).left in
      let r = child_of (node_of N node).right in
      let u = named_under (tree.left_child node h) in
      let v = named_under (tree.right_child node h) in
      let p = named_link (tree.left_child node h) in
      let q = named_link (tree.right_child node h) in
      heard_then (apart s node l r u v (λ e. tree.distinct node h (omega arith)))
      (λ o b. (λ e. not_above s node l u (rw e at b), below_parent s node l o u b))
      (λ o b. (λ e. not_above s node r v (rw e at b), below_parent s node r o v b))
      (ih l a e) (ih r a e)

  node_heard : (k node a e : ℕ) → ((c : ℕ) → Hears k c) → (b : Bool) → hidden_of (node_of N node) ≡ b → Heard M (Below N node)
      (λ t. pick b
      (range_change k N M (child_of (node_of N node).right) a e op (range_change k N M (child_of (node_of N node).left) a e op (tell_object M t 64 node a e op)))
      (tell_object M t 64 node a e op))
  node_heard k node a e ih true t =
      heard_then (λ o p q. q.0 p) (λ o p. rw p (self node)) (λ o q. q.1)
      (object_heard M node a e op) (children_heard k node a e (eqb-true _ _ t) ih)
  node_heard k node a e ih false t = heard_in (λ o p. rw p (self node)) (object_heard M node a e op)

  pub range_heard : (k node : ℕ) → Hears k node
  unfolding range_change
  range_heard zero node lo hi = heard_none
  range_heard (suc k) node lo hi =
      let n = node_of N node in
      let a = low_in n lo - n.parent_offset in
      let e = high_in n hi - n.parent_offset in
      heard_pick (ltb (low_in n lo) (high_in n hi)) (node_heard k node a e (range_heard k) (hidden_of n) refl) heard_none
