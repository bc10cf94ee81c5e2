-- A lookup for writing takes exactly the frames that the walk counts, whatever the entries, the flags and the mode. Assumes nothing.
use Rattle.std.specs.Prelude.{Option, ℕ, Some, None, Err, Ok}
use mathlib.Core.Path.{◌≡◌, refl}
use mathlib.Core.Bool.{Bool, true, false, ◌&&◌, not}
use Prim.Native.Nat.{ℕ, zero, suc, ◌+◌, ◌<◌}
use native.Mathlib.Omega.{arith}
use Rattle.logic.proofs.Laws.{true_not}
use Rattle.entry.specs.declared.PageState.{PageState}
use Rattle.entry.specs.Entry.{split_of, new_state}
use Rattle.node.specs.Node.{hidden_of, side_of}
use Rattle.frames.specs.Frames.{free_count, free_frame_in}
use Rattle.lookup.specs.declared.CommitResult.TheVariants.{CopyOnWrite, NewPage}
use Rattle.lookup.specs.declared.LookupError.TheVariants.{NoMemory, Stopped}
use Rattle.lookup.specs.declared.Place.{Place}
use Rattle.lookup.specs.declared.End.{End}
use Rattle.lookup.specs.declared.End.TheVariants.{Has, Bare, Tired}
use Rattle.lookup.specs.Work.{Work, Looking, looking_of}
use Rattle.lookup.specs.Mode.{Mode, node_at, up, ups, both_at, halts_at, asks}
use Rattle.lookup.specs.Level.{kept_at, cleared, fresh_by, fresh_in, pass_by, pass}
use Rattle.lookup.specs.Descent.{way, top, descent, along, lookup}
use Rattle.lookup.proofs.Join.{descent_final}
use Rattle.lookup.proofs.Ways.{Serves, serves, Walks, walks}
use Rattle.lookup.proofs.Ways.Serves.{keeps, goes, moves, copies, lacks, lends}
use Rattle.lookup.proofs.Ways.Walks.{stands, stays, tires, climbs}
use Rattle.lookups.specs.Need.{one_if, due_of, price_of, need_in, Pays}
use Rattle.lookups.specs.Need.Pays.{gives, refuses, stops}
use Rattle.lookups.proofs.Frames.{one_less, none_free, back_free}

-- what a sound table of nodes gives: a parent that is asked is hidden and knows its child's side
pub record Footing (m : Mode) : Type 0 where
  pub hidden : (p : Place) → asks m p ≡ true → hidden_of (node_at m (up m p)) ≡ true
  pub sided : (p : Place) → asks m p ≡ true → split_of (side_of (node_at m (up m p)) p.node).tag ≡ true

-- what a hidden node answers its child where there is an entry above: n frames were taken
data Owes (n : ℕ) (w : Work) (r : Looking) : Type 0 where
  hands : (f : ℕ) (u : Bool) (v : Work) → r ≡ looking_of (Ok (CopyOnWrite f u)) v → free_count w.used ≡ free_count v.used + n → Owes n w r
  lacking : (v : Work) → r ≡ looking_of (Err NoMemory) v → free_count w.used < n → free_count v.used ≡ 0 → Owes n w r

-- and where there is none
data Brings (w : Work) (r : Looking) : Type 0 where
  clears : (f : ℕ) (v : Work) → r ≡ looking_of (Ok (NewPage f)) v → free_count w.used ≡ free_count v.used + 1 → Brings w r
  lacking : (v : Work) → r ≡ looking_of (Err NoMemory) v → free_count w.used < 1 → free_count v.used ≡ 0 → Brings w r
  stopping : (v : Work) → r ≡ looking_of (Err Stopped) v → free_count v.used ≡ free_count w.used → Brings w r

and_true : (b : Bool) → one_if (b && true) ≡ one_if b
and_true true = refl
and_true false = refl

module _ (m : Mode) (F : Footing m) where
  abbrev Sided : Place → Type 0
  Sided p = (hidden_of (node_at m p) ≡ true) × (split_of (side_of (node_at m p) p.asker).tag ≡ true)

  up_sided : (p : Place) → asks m p ≡ true → Sided (up m p)
  up_sided p a = (F.hidden p a, F.sided p a)

  -- a hidden node that has the page
  serve_owes : (p : Place) (s : PageState) (u : Bool) (w : Work) (r : Looking) → Sided p → Serves m true p s u w r → Owes (one_if (both_at m p && not (split_of s.tag))) w r
  serve_owes p s u w r d (keeps h e) = true_not d.0 h
  serve_owes p s u w r d (goes h b e) = hands _ _ _ e (rw b (omega arith))
  serve_owes p s u w r d (moves h b t e) = hands _ _ _ e (rw (b, t) (omega arith))
  serve_owes p s u w r d (copies h b t k g f e) = hands _ _ _ e (rw (b, t) (one_less w.used g f))
  serve_owes p s u w r d (lacks h b t k f e) = let z = none_free w.used f in lacking _ e (rw (b, t) (omega arith)) z
  serve_owes p s u w r d (lends h b t k e) = true_not d.1 k

  -- a hidden node below one that has the page: the frame that came is kept, and served; so from that one down to p

  after : (k n : ℕ) (w v : Work) (r : Looking) → free_count w.used ≡ free_count v.used + n → Owes k v r → Owes (k + n) w r
  after k n w v r c (hands g j z e o) = hands g j z e (omega arith)
  after k n w v r c (lacking z e l o) = lacking z e (omega arith) o

  pass_owes : (p : Place) (n : ℕ) (w : Work) (r : Looking) → Sided p → Owes n w r → Owes (one_if (both_at m p) + n) w (pass m true p r)
  unfolding pass_by
  pass_owes p n w r d (hands f u v e c) =
      rw (e, ← and_true (both_at m p)) (after _ n w (kept_at v p f) _ c (serve_owes p (new_state f) u (kept_at v p f) _ d (serves m true p (new_state f) u (kept_at v p f))))
  pass_owes p n w r d (lacking v e l o) = rw e (lacking v refl (omega arith) o)

  descent_owes : (w : Work) (d : ℕ) (p : Place) (s : PageState) → Sided p → Walks m w.pages d p (Has s) → Owes (due_of m s d p) w (along m true w p (way d (Has s)))
  unfolding descent ups top due_of
  descent_owes w zero p s c (stands x e) = serve_owes p x false w _ c (serves m true p x false w)
  descent_owes w (suc d) p s c (climbs e a y) = pass_owes p _ w _ c (descent_owes w d (up m p) s (up_sided p a) y)

  -- a hidden node that asks no parent, and the nodes below it

  fresh_brings : (w : Work) (p : Place) (y : Option ℕ) (halts : Bool) → free_frame_in w.used ≡ y → Brings w (fresh_by m.bytes y w p true halts)
  unfolding fresh_by cleared
  fresh_brings w p None halts f = let z = none_free w.used f in lacking _ refl (omega arith) z
  fresh_brings w p (Some g) true f = stopping _ refl (back_free w.used g f)
  fresh_brings w p (Some g) false f = clears _ _ refl (one_less w.used g f)

  pass_brings : (p : Place) (w : Work) (r : Looking) → hidden_of (node_at m p) ≡ true → Brings w r → Brings w (pass m true p r)
  unfolding pass_by
  pass_brings p w r h (clears f v e c) = rw (e, h) (clears f v refl c)
  pass_brings p w r h (lacking v e l o) = rw e (lacking v refl l o)
  pass_brings p w r h (stopping v e l) = rw e (stopping v refl l)

  descent_brings : (w : Work) (d : ℕ) (p : Place) → hidden_of (node_at m p) ≡ true → Walks m w.pages d p Bare → Brings w (along m true w p (way d Bare))
  unfolding descent ups top fresh_in
  descent_brings w zero p h (stays e a) = rw h (fresh_brings w p _ (halts_at m p) refl)
  descent_brings w (suc d) p h (climbs e a y) = pass_brings p w _ h (descent_brings w d (up m p) (F.hidden p a) y)

  -- a leaf
  module _ (p : Place) (leaf : hidden_of (node_at m p) ≡ false) (w : Work) where
    serve_pays : (s : PageState) (u : Bool) (v : Work) (n : ℕ) (r : Looking) → free_count w.used ≡ free_count v.used + n → Serves m true p s u v r → Pays n w r
    serve_pays s u v n r c (keeps h e) = gives _ _ e c
    serve_pays s u v n r c (goes h b e) = true_not h leaf
    serve_pays s u v n r c (moves h b t e) = true_not h leaf
    serve_pays s u v n r c (copies h b t k g f e) = true_not h leaf
    serve_pays s u v n r c (lacks h b t k f e) = true_not h leaf
    serve_pays s u v n r c (lends h b t k e) = true_not h leaf

    owed_pays : (n : ℕ) (r : Looking) → Owes n w r → Pays n w (pass m true p r)
    unfolding pass_by
    owed_pays n r (hands f u v e c) = rw e (serve_pays (new_state f) u (kept_at v p f) n _ c (serves m true p (new_state f) u (kept_at v p f)))
    owed_pays n r (lacking v e l o) = rw e (refuses v refl l o)

    brought_pays : (r : Looking) → Brings w r → Pays 1 w (pass m true p r)
    unfolding pass_by
    brought_pays r (clears f v e c) = rw (e, leaf) (gives f _ refl c)
    brought_pays r (lacking v e l o) = rw e (refuses v refl l o)
    brought_pays r (stopping v e l) = rw e (stops v refl l)

    fresh_pays : (y : Option ℕ) (halts : Bool) → free_frame_in w.used ≡ y → Pays 1 w (fresh_by m.bytes y w p false halts)
    unfolding fresh_by cleared
    fresh_pays None halts f = let z = none_free w.used f in refuses _ refl (omega arith) z
    fresh_pays (Some g) true f = gives _ _ refl (one_less w.used g f)
    fresh_pays (Some g) false f = gives _ _ refl (one_less w.used g f)

    walk_pays : (d : ℕ) (x : End) → Walks m w.pages d p x → Pays (price_of m p d x) w (along m true w p (way d x))
    unfolding descent ups top fresh_in price_of
    walk_pays zero x (stands s e) = serve_pays s false w 0 _ (omega arith) (serves m true p s false w)
    walk_pays zero x (stays e a) = rw leaf (fresh_pays _ (halts_at m p) refl)
    walk_pays zero x (tires e a) = stops w refl refl
    walk_pays (suc d) (Has s) (climbs e a y) = owed_pays (due_of m s d (up m p)) _ (descent_owes w d (up m p) s (up_sided p a) y)
    walk_pays (suc d) Bare (climbs e a y) = brought_pays _ (descent_brings w d (up m p) (F.hidden p a) y)
    walk_pays (suc d) Tired (climbs e a y) = stops w (descent_final m true (suc d) p (Err Stopped) w tt) refl

    pub write_pays : Pays (need_in m w.pages p) w (lookup m 64 true w p)
    unfolding need_in
    write_pays = walk_pays _ _ (walks m w.pages 64 p)
