-- Page lookup as one relation with a constructor for each exit, beside the walk's levels and end: a theorem over lookup is one induction over it.
-- Assumes nothing.
use Rattle.std.specs.Prelude.{Option, ℕ, Some, None, Err, Ok}
use mathlib.Core.Path.{◌≡◌, refl}
use mathlib.Core.Bool.{Bool, true, false}
use Prim.Native.Nat.{ℕ, zero, suc}
use Rattle.entry.specs.declared.PageState.{PageState}
use Rattle.entry.specs.Entry.{new_state}
use Rattle.node.specs.Node.{hidden_of}
use Rattle.frames.specs.Frames.{free_frame_in}
use Rattle.lookup.specs.Work.{Looked, Work, Looking, looking_of}
use Rattle.lookup.specs.declared.CommitResult.TheVariants.{Ref, Zero, CopyOnWrite, NewPage}
use Rattle.lookup.specs.declared.LookupError.TheVariants.{NoMemory, Stopped}
use Rattle.logic.proofs.Laws.{by_pick}
use Rattle.lookup.specs.declared.Place.{Place}
use Rattle.lookup.specs.declared.End.{End}
use Rattle.lookup.specs.declared.End.TheVariants.{Has, Bare, Tired}
use Rattle.lookup.specs.Mode.{Mode, node_at, up, ups, halts_at, asks}
use Rattle.lookup.specs.Level.{slot_in, kept_at, cleared, back_at, fresh_by, fresh_in, pass_by}
use Rattle.lookup.specs.Descent.{way, walk, top, descent, along, lookup}
use Rattle.lookup.proofs.Join.{Final}
use Rattle.lookup.proofs.Ways.{Serves, serves, Walks, walks}
use Rattle.lookup.proofs.Ways.Walks.{stands, stays, tires, climbs}

-- why no parent answers
pub record Alone (m : Mode) (w : Work) (p : Place) : Type 0 where
  pub empty : slot_in w p ≡ None
  pub end : asks m p ≡ false

-- the parent is asked
pub record Asked (m : Mode) (w : Work) (p : Place) : Type 0 where
  pub empty : slot_in w p ≡ None
  pub on : asks m p ≡ true

pub data Looks (m : Mode) (write : Bool) (w : Work) : ℕ → Place → End → Looking → Type 0 where
  has : {p : Place} {r : Looking} (s : PageState) → slot_in w p ≡ Some s → Serves m write p s false w r → Looks m write w 0 p (Has s) r
  zeros : {p : Place} {r : Looking} → Alone m w p → write ≡ false → r ≡ looking_of (Ok Zero) w → Looks m write w 0 p Bare r
  short : {p : Place} {r : Looking} → Alone m w p → write ≡ true → free_frame_in w.used ≡ None → r ≡ looking_of (Err NoMemory) w → Looks m write w 0 p Bare r
  stops : {p : Place} {r : Looking} (g : ℕ) → Alone m w p → write ≡ true → free_frame_in w.used ≡ Some g → hidden_of (node_at m p) ≡ true → halts_at m p ≡ true → r ≡ looking_of (Err Stopped) (back_at m.bytes w g) → Looks m write w 0 p Bare r
  clears : {p : Place} {r : Looking} (g : ℕ) → Alone m w p → write ≡ true → free_frame_in w.used ≡ Some g → hidden_of (node_at m p) ≡ true → halts_at m p ≡ false → r ≡ looking_of (Ok (NewPage g)) (cleared m.bytes w g) → Looks m write w 0 p Bare r
  fills : {p : Place} {r : Looking} (g : ℕ) → Alone m w p → write ≡ true → free_frame_in w.used ≡ Some g → hidden_of (node_at m p) ≡ false → r ≡ looking_of (Ok (Ref g)) (kept_at (cleared m.bytes w g) p g) → Looks m write w 0 p Bare r
  quits : {p : Place} {r : Looking} → Asked m w p → r ≡ looking_of (Err Stopped) w → Looks m write w 0 p Tired r
  rests : {d : ℕ} {p : Place} {x : End} {r : Looking} → Asked m w p → Looks m write w d (up m p) x r → Final m write r.answer → Looks m write w (suc d) p x r
  falls : {d : ℕ} {p : Place} {x : End} {r : Looking} (f : ℕ) (v : Work) → Asked m w p → Looks m write w d (up m p) x (looking_of (Ok (NewPage f)) v) → hidden_of (node_at m p) ≡ true → r ≡ looking_of (Ok (NewPage f)) v → Looks m write w (suc d) p x r
  lands : {d : ℕ} {p : Place} {x : End} {r : Looking} (f : ℕ) (v : Work) → Asked m w p → Looks m write w d (up m p) x (looking_of (Ok (NewPage f)) v) → hidden_of (node_at m p) ≡ false → r ≡ looking_of (Ok (Ref f)) (kept_at v p f) → Looks m write w (suc d) p x r
  takes : {d : ℕ} {p : Place} {x : End} {r : Looking} (f : ℕ) (u : Bool) (v : Work) → Asked m w p → Looks m write w d (up m p) x (looking_of (Ok (CopyOnWrite f u)) v) → Serves m write p (new_state f) u (kept_at v p f) r → Looks m write w (suc d) p x r

module _ (m : Mode) (write : Bool) (w : Work) where
  alone_by : (p : Place) → Alone m w p → write ≡ true → (y : Option ℕ) → free_frame_in w.used ≡ y → (h o : Bool) → hidden_of (node_at m p) ≡ h → halts_at m p ≡ o → Looks m write w 0 p Bare (fresh_by m.bytes y w p h o)
  unfolding fresh_by
  alone_by p a k None f h o i j = short a k f refl
  alone_by p a k (Some g) f true true i j = stops g a k f i j refl
  alone_by p a k (Some g) f true false i j = clears g a k f i j refl
  alone_by p a k (Some g) f false true i j = fills g a k f i refl
  alone_by p a k (Some g) f false false i j = fills g a k f i refl

  pass_by_lem : (d : ℕ) (p : Place) (x : End) → Asked m w p → (r : Looked) (v : Work) → Looks m write w d (up m p) x (looking_of r v) → Looks m write w (suc d) p x (pass_by m write p r v)
  unfolding pass_by
  pass_by_lem d p x a (Ok (Ref f)) v l = rests a l tt
  pass_by_lem d p x a (Ok Zero) v l = rests a l tt
  pass_by_lem d p x a (Err NoMemory) v l = rests a l tt
  pass_by_lem d p x a (Err Stopped) v l = rests a l tt
  pass_by_lem d p x a (Ok (NewPage f)) v l = by_pick (Looks m write w (suc d) p x) (hidden_of (node_at m p)) (λ h. falls f v a l h refl) (λ h. lands f v a l h refl)
  pass_by_lem d p x a (Ok (CopyOnWrite f u)) v l = takes f u v a l (serves m write p (new_state f) u (kept_at v p f))

  along_by : (d : ℕ) (p : Place) (x : End) → Walks m w.pages d p x → Looks m write w d p x (along m write w p (way d x))
  unfolding descent ups top fresh_in
  along_by zero p x (stands s e) = has s e (serves m write p s false w)
  along_by zero p x (stays e a) =
      let b : Alone m w p = record { empty = e; end = a } in
      by_pick (Looks m write w 0 p Bare) write (λ k. alone_by p b k _ refl _ _ refl refl) (λ k. zeros b k refl)
  along_by zero p x (tires e a) = quits (record { empty = e; on = a }) refl
  along_by (suc d) p x (climbs e a y) = pass_by_lem d p x (record { empty = e; on = a }) _ _ (along_by d (up m p) x y)

  pub looks : (k : ℕ) (p : Place) → Looks m write w (walk m k w.pages p).levels p (walk m k w.pages p).end (lookup m k write w p)
  looks k p = along_by _ p _ (walks m w.pages k p)
