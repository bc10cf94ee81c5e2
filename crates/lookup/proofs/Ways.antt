-- The six ways in which a node serves its entry, and the four turns of a walk: every theorem over lookup is a case for each. Assumes nothing.
use Rattle.std.specs.Prelude.{Option, ℕ, Some, None, Err, Ok}
use mathlib.Core.Path.{◌≡◌, refl}
use mathlib.Core.Bool.{Bool, true, false, ◌&&◌}
use mathlib.Core.List.{List}
use Prim.Native.Nat.{ℕ, zero, suc}
use Rattle.logic.proofs.Laws.{and_left, by_pick}
use Rattle.entry.specs.declared.PageState.{PageState}
use Rattle.entry.specs.Entry.{split_of}
use Rattle.node.specs.Node.{hidden_of, side_of}
use Rattle.tables.specs.Tables.{slot_at}
use Rattle.frames.specs.Frames.{free_frame_in}
use Rattle.lookup.specs.declared.CommitResult.TheVariants.{Ref, CopyOnWrite}
use Rattle.lookup.specs.declared.LookupError.TheVariants.{NoMemory}
use Rattle.lookup.specs.Work.{Work, Looking, looking_of}
use Rattle.lookup.specs.declared.Place.{Place}
use Rattle.lookup.specs.declared.End.{End}
use Rattle.lookup.specs.declared.End.TheVariants.{Has, Bare, Tired}
use Rattle.lookup.specs.Mode.{Mode, node_at, up, both_at, asks}
use Rattle.lookup.specs.Level.{told_at, denied_at, out_at, copy_at, copy_by, share_in, leaf_step, serve}
use Rattle.lookup.specs.Descent.{Way, walk_by, walk}

pub data Serves (m : Mode) (write : Bool) (p : Place) (s : PageState) (u : Bool) (w : Work) (r : Looking) : Type 0 where
  keeps : hidden_of (node_at m p) ≡ false → r ≡ leaf_step m.mappings s w p.node p.page u → Serves m write p s u w r
  goes : hidden_of (node_at m p) ≡ true → both_at m p ≡ false → r ≡ looking_of (Ok (CopyOnWrite s.frame u)) (out_at p w) → Serves m write p s u w r
  moves : hidden_of (node_at m p) ≡ true → both_at m p ≡ true → split_of s.tag ≡ true → r ≡ looking_of (Ok (CopyOnWrite s.frame u)) (out_at p (told_at m p u w)) → Serves m write p s u w r
  copies : hidden_of (node_at m p) ≡ true → both_at m p ≡ true → split_of s.tag ≡ false → write ≡ true → (g : ℕ) → free_frame_in w.used ≡ Some g → r ≡ looking_of (Ok (CopyOnWrite g true)) (copy_at m p s g (told_at m p u w)) → Serves m write p s u w r
  lacks : hidden_of (node_at m p) ≡ true → both_at m p ≡ true → split_of s.tag ≡ false → write ≡ true → free_frame_in w.used ≡ None → r ≡ looking_of (Err NoMemory) (denied_at m p u (told_at m p u w)) → Serves m write p s u w r
  lends : hidden_of (node_at m p) ≡ true → both_at m p ≡ true → split_of s.tag ≡ false → (write && split_of (side_of (node_at m p) p.asker).tag) ≡ false → r ≡ looking_of (Ok (Ref s.frame)) (told_at m p u w) → Serves m write p s u w r

pub serves : (m : Mode) (write : Bool) (p : Place) (s : PageState) (u : Bool) (w : Work) → Serves m write p s u w (serve m write p s u w)
unfolding serve share_in copy_by
serves m write p s u w =
    by_pick (Serves m write p s u w) (hidden_of (node_at m p))
    (λ h.
    by_pick (Serves m write p s u w) (both_at m p)
    (λ b.
    by_pick (Serves m write p s u w) (split_of s.tag) (λ t. moves h b t refl)
    (λ t.
    by_pick (Serves m write p s u w) (write && split_of (side_of (node_at m p) p.asker).tag)
    (λ k. parts h b t (and_left write _ k) _ refl)
    (λ k. lends h b t k refl)))
    (λ b. goes h b refl))
    (λ h. keeps h refl)
  where
    parts : hidden_of (node_at m p) ≡ true → both_at m p ≡ true → split_of s.tag ≡ false → write ≡ true → (y : Option ℕ) → free_frame_in w.used ≡ y → Serves m write p s u w (copy_by m p s u y (told_at m p u w))
    parts h b t k None f = lacks h b t k f refl
    parts h b t k (Some g) f = copies h b t k g f refl

-- so many levels up the walk ends in x
pub data Walks (m : Mode) (P : List ℕ) : ℕ → Place → End → Type 0 where
  stands : {p : Place} (s : PageState) → slot_at P p.node p.page ≡ Some s → Walks m P 0 p (Has s)
  stays : {p : Place} → slot_at P p.node p.page ≡ None → asks m p ≡ false → Walks m P 0 p Bare
  tires : {p : Place} → slot_at P p.node p.page ≡ None → asks m p ≡ true → Walks m P 0 p Tired
  climbs : {d : ℕ} {p : Place} {x : End} → slot_at P p.node p.page ≡ None → asks m p ≡ true → Walks m P d (up m p) x → Walks m P (suc d) p x

module _ (m : Mode) (P : List ℕ) where
  walks_by : (p : Place) (s : Option PageState) (a : Bool) (y : Way) → slot_at P p.node p.page ≡ s → asks m p ≡ a → (slot_at P p.node p.page ≡ None → asks m p ≡ true → Walks m P y.levels p y.end) → Walks m P (walk_by s a y).levels p (walk_by s a y).end
  walks_by p (Some s) a y e k h = stands s e
  walks_by p None true y e k h = h e k
  walks_by p None false y e k h = stays e k

  pub walks : (k : ℕ) (p : Place) → Walks m P (walk m k P p).levels p (walk m k P p).end
  unfolding walk
  walks zero p = walks_by p _ _ _ refl refl (λ e a. tires e a)
  walks (suc k) p = walks_by p _ _ _ refl refl (λ e a. climbs e a (walks k (up m p)))
