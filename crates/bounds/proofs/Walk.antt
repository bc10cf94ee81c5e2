-- On the way up the parent chain each step tells leaves that no step below tells. Assumes nothing.
use Rattle.std.specs.Prelude.{Option, None, Some, Err}
use Rattle.entry.specs.declared.PageState.{PageState}
use mathlib.Core.Path.{◌≡◌, refl}
use mathlib.Core.Bool.{Bool, false}
use mathlib.Core.List.{List}
use mathlib.Core.Logic.{⊎_elim}
use Prim.Native.Nat.{ℕ, zero, suc, ◌+◌}
use native.Mathlib.Omega.{arith}
use borrow.Author.Tests.{eq-eqb, ne_eqb}
use Rattle.node.specs.declared.Node.{Node}
use Rattle.node.specs.Node.{hidden_of, side_of}
use Rattle.tables.specs.Tables.{node_of}
use Rattle.outcome.specs.Told.{unmap}
use Rattle.notices.specs.Notices.{range_change}
use Rattle.sound.specs.Facts.{Tree}
use Rattle.lookup.specs.declared.LookupError.TheVariants.{Stopped}
use Rattle.lookup.specs.Work.{Work, work_of, Looking, looking_of}
use Rattle.lookup.specs.declared.Place.{Place}
use Rattle.lookup.specs.Mode.{Mode, today, place_of, node_at, other, asks}
use Rattle.lookup.specs.Level.{slot_in}
use Rattle.lookup.specs.Lookup.{enter_by, enter, look_in, look}
use Rattle.logic.proofs.Means.{equal, split}
use Rattle.bounds.proofs.Ranges.{Under, named_under, named_link}
use Rattle.bounds.proofs.Family.{Below, self, below_parent, apart}
use Rattle.bounds.proofs.Heard.{Heard, heard_in, range_heard}
use Rattle.bounds.proofs.Sent.{Sent, sent_none, sent_in, Settles, hidden_settles, leaf_settles, enter_sent}
use Rattle.lookups.proofs.Chain.{Short}

-- the other child

side_left : (n : Node) (c : ℕ) → n.kind ≡ 3 → n.left ≡ c + 1 → (side_of n c).other ≡ n.right
unfolding side_of
side_left n c h e = rw (h, eq-eqb _ _ e)

side_right : (n : Node) (c : ℕ) → n.kind ≡ 3 → (n.left ≡ c + 1 → ⊥) → n.right ≡ c + 1 → (side_of n c).other ≡ n.left
unfolding side_of
side_right n c h ne e = rw (h, ne_eqb _ _ ne, eq-eqb _ _ e)

module _ {N : List ℕ} (s : Short N) {next : ℕ} (tree : Tree N next) (node asker : ℕ) (under : Under N node asker) where
  other_child : Under N node (other (node_of N node) asker) × (other (node_of N node) asker ≡ asker → ⊥)
  other_child =
      let (h, c) = tree.parents asker node under in
      let l = tree.left_child node h in
      let r = tree.right_child node h in
      let d = tree.distinct node h in
      let p = named_link l in
      let q = named_link r in
      ⊎_elim
      (λ e. rw (side_left (node_of N node) asker h e) (named_under r, λ z. d (omega arith)))
      (λ e. rw (side_right (node_of N node) asker h (λ x. d (omega arith)) e) (named_under l, λ z. d (omega arith)))
      c

  other_heard : (M : List ℕ) (i : ℕ) → Heard M (λ o. Below N node o × (Below N asker o → ⊥)) (λ t. range_change 64 N M (other (node_of N node) asker) i (i + 1) unmap t)
  other_heard M i =
      let o = other (node_of N node) asker in
      let (u, ne) = other_child in
      heard_in (λ x b. (below_parent s node o x u b, apart s node o asker u under ne x b)) (range_heard s tree M unmap 64 o i (i + 1))

-- from a node's child, and from a leaf

-- a node without a parent asks none
alone : (m : Mode) (write : Bool) (w : Work) (p : Place) (above more : Looking) → (node_at m p).parent ≡ 0 → enter m write w p above ≡ enter m write w p more
unfolding enter_by asks
alone m write w p above more e = by (slot_in w p)
  where
    by : (s : Option PageState) → enter_by m write w p s above ≡ enter_by m write w p s more
    by (Some s) = refl
    by None = rw e

module _ (L : ℕ) {N : List ℕ} (s : Short N) {next : ℕ} (tree : Tree N next) (M q u y : List ℕ) (write : Bool) where
  abbrev m : Mode
  m = today L N M

  abbrev Asks : ℕ → ℕ → Type 0
  Asks k asker = (node i : ℕ) → Under N node asker → Sent M (λ o. Below N asker o → ⊥) (λ t. look_in m k write (work_of q u y t) (place_of node i asker))

  -- a node's step on its parent's, if there is a parent
  step_sent : {Q R : ℕ → Type 0} (k node i asker : ℕ) → Settles L N M (place_of node i asker) write Q → ((o : ℕ) → Q o → Below N node o) → ((o : ℕ) → (Below N node o → ⊥) → R o) → ((o : ℕ) → Q o → R o) → Asks k node
      → Sent M R (λ t. look_in m (suc k) write (work_of q u y t) (place_of node i asker))
  unfolding look_in
  step_sent k node i asker settles in-node a b above =
      split (equal (node_of N node).parent 0)
      (λ z.
      sent_in (λ t. alone m write (work_of q u y t) (place_of node i asker) _ (looking_of (Err Stopped) (work_of q u y t)) z) (λ o r. r)
      (enter_sent L N M (place_of node i asker) write settles {P = λ o. ⊥} (λ o n x. n) (λ o n. absurd n) b (sent_none (Err Stopped) q u y) q u y))
      (λ ne. enter_sent L N M (place_of node i asker) write settles (λ o n x. n (in-node o x)) a b (above _ _ (omega arith)) q u y)

  abbrev Aside : ℕ → ℕ → ℕ → Type 0
  Aside node asker o = Below N node o × (Below N asker o → ⊥)

  settles : (node i asker : ℕ) → Under N node asker → Settles L N M (place_of node i asker) write (Aside node asker)
  settles node i asker under = hidden_settles L N M (place_of node i asker) write (eq-eqb _ _ (tree.parents asker node under).0) (other_heard s tree node asker under M i)

  look_sent : (k asker : ℕ) → Asks k asker
  unfolding look_in
  look_sent zero asker node i under =
      enter_sent L N M (place_of node i asker) write (settles node i asker under) (λ o n x. n) (λ o n. absurd n) (λ o x. x.1) (sent_none (Err Stopped) q u y) q u y
  look_sent (suc k) asker node i under =
      step_sent k node i asker (settles node i asker under) (λ o x. x.0) (λ o n b. n (below_parent s node asker o under b)) (λ o x. x.1) (look_sent k node)

  pub leaf_sent : (k l i : ℕ) → hidden_of (node_of N l) ≡ false → Sent M (λ o. Unit) (λ t. look L (suc k) N M (work_of q u y t) l i write l)
  leaf_sent k l i leaf = step_sent k l i l (leaf_settles L N M (place_of l i l) write leaf) (λ o e. rw e (self l)) (λ o n. tt) (λ o e. tt) (look_sent k l)
