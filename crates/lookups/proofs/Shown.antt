-- A leaf's page is read from the entry that the walk ends at, whatever moves on the way. Assumes nothing.
use Rattle.std.specs.Prelude.{Ok}
use mathlib.Core.Path.{◌≡◌, refl}
use mathlib.Core.Bool.{true, false}
use Prim.Native.Nat.{ℕ, zero, suc}
use Rattle.entry.specs.declared.PageState.{PageState}
use Rattle.entry.specs.Entry.{new_state}
use Rattle.node.specs.Node.{hidden_of}
use Rattle.lookup.specs.declared.CommitResult.TheVariants.{Ref, CopyOnWrite}
use Rattle.lookup.specs.Work.{Work, Looking, looking_of}
use Rattle.logic.proofs.Laws.{true_not}
use Rattle.lookup.specs.declared.Place.{Place}
use Rattle.lookup.specs.Mode.{Mode, node_at, up, ups}
use Rattle.lookup.specs.Level.{kept_at, pass_by, pass}
use Rattle.lookup.specs.Descent.{way, top, descent, along}
use Rattle.lookup.specs.declared.End.TheVariants.{Has}
use Rattle.lookup.proofs.Ways.{Serves, serves, Walks}
use Rattle.lookup.proofs.Ways.Serves.{keeps, goes, moves, copies, lacks, lends}
use Rattle.lookup.proofs.Ways.Walks.{stands, climbs}

-- frame f is shared, or a hidden node hands it down
data Carries (m : Mode) (p : Place) (f : ℕ) (r : Looking) : Type 0 where
  shares : (v : Work) → r ≡ looking_of (Ok (Ref f)) v → Carries m p f r
  hands : (v : Work) → hidden_of (node_at m p) ≡ true → r ≡ looking_of (Ok (CopyOnWrite f false)) v → Carries m p f r

module _ (m : Mode) where
  serve_carries : (p : Place) (s : PageState) (w : Work) (r : Looking) → Serves m false p s false w r → Carries m p s.frame r
  serve_carries p s w r (keeps h e) = shares _ e
  serve_carries p s w r (goes h b e) = hands _ h e
  serve_carries p s w r (moves h b t e) = hands _ h e
  serve_carries p s w r (copies h b t k g f e) = true_not k refl
  serve_carries p s w r (lacks h b t k f e) = true_not k refl
  serve_carries p s w r (lends h b t k e) = shares _ e

  pass_carries : (p : Place) (f : ℕ) (r : Looking) → Carries m (up m p) f r → Carries m p f (pass m false p r)
  unfolding pass_by
  pass_carries p f r (shares v e) = rw e (shares v refl)
  pass_carries p f r (hands v h e) = rw e (serve_carries p (new_state f) (kept_at v p f) _ (serves m false p (new_state f) false (kept_at v p f)))

  descent_carries : (w : Work) (s : PageState) (d : ℕ) (p : Place) → Walks m w.pages d p (Has s) → Carries m p s.frame (along m false w p (way d (Has s)))
  unfolding descent ups top
  descent_carries w s zero p (stands x e) = serve_carries p x w _ (serves m false p x false w)
  descent_carries w s (suc d) p (climbs e a y) = pass_carries p s.frame _ (descent_carries w s d (up m p) y)

  leaf_shares : (p : Place) (f : ℕ) (r : Looking) → hidden_of (node_at m p) ≡ false → Carries m p f r → (v : Work) × (r ≡ looking_of (Ok (Ref f)) v)
  leaf_shares p f r leaf (shares v e) = (v, e)
  leaf_shares p f r leaf (hands v h e) = true_not h leaf

  -- in every mode and on all tables
  pub read_shares : (w : Work) (s : PageState) (d : ℕ) (p : Place) → hidden_of (node_at m p) ≡ false → Walks m w.pages d p (Has s) → (v : Work) × (along m false w p (way d (Has s)) ≡ looking_of (Ok (Ref s.frame)) v)
  read_shares w s d p leaf y = leaf_shares p s.frame _ leaf (descent_carries w s d p y)
