-- What the walk alone tells of a lookup: where nothing moves there is no descent, steps to spare change nothing, and a chain that ends in time
-- tires no walk. Assumes nothing.
use Rattle.std.specs.Prelude.{Option, None, Some, Err, Ok}
use mathlib.Core.Path.{◌≡◌, refl, sym, ap, ◌∙◌}
use mathlib.Core.Bool.{Bool, true, false, ◌&&◌, ◌||◌, not}
use mathlib.Core.List.{List}
use Prim.Native.Nat.{ℕ, zero, suc, ◌+◌, ◌-◌}
use native.Mathlib.Omega.{arith}
use lib.Dec.{eqb}
use borrow.Author.Tests.{eqb-false, not-true}
use Rattle.logic.proofs.Laws.{and_left}
use Rattle.entry.specs.declared.PageState.{PageState}
use Rattle.entry.specs.Entry.{split_of}
use Rattle.node.specs.Node.{hidden_of, side_of}
use Rattle.tables.specs.Tables.{slot_at}
use Rattle.lookup.specs.declared.CommitResult.TheVariants.{Ref, Zero}
use Rattle.lookup.specs.declared.LookupError.TheVariants.{Stopped}
use Rattle.lookup.specs.Work.{Work, looking_of}
use Rattle.tables.specs.Pool.{Pool}
use Rattle.sound.specs.Facts.{Sound}
use Rattle.lookup.specs.Lookup.{look}
use Rattle.lookup.proofs.Same.{look_same}
use Rattle.soundness.proofs.Ancestors.{above}
use Rattle.lookups.proofs.Chain.{Short, sound-short, above-next, ends_by_65}
use Rattle.logic.proofs.Laws.{true_not}
use Rattle.lookup.specs.declared.Place.{Place}
use Rattle.lookup.specs.Mode.{Mode, today, place_of, node_at, up, ups, both_at, asks}
use Rattle.lookup.specs.Level.{fresh_in, child_told, share_in, leaf_told, serve}
use Rattle.lookup.specs.Descent.{Way, way, further, walk_by, walk, top, along, lookup}
use Rattle.lookup.specs.declared.End.TheVariants.{Has, Bare, Tired}
use Rattle.lookup.proofs.Join.{descent_final}

-- the entry would be handed over or copied
abbrev pub moves_at : Mode → Bool → Place → PageState → Bool
moves_at m write p s = hidden_of (node_at m p) && (not (both_at m p) || split_of s.tag || (write && split_of (side_of (node_at m p) p.asker).tag))

module _ (m : Mode) (write : Bool) (w : Work) where
  stays_by : (p : Place) (s : PageState) (h b t k : Bool) → hidden_of (node_at m p) ≡ h → both_at m p ≡ b → split_of s.tag ≡ t → (write && split_of (side_of (node_at m p) p.asker).tag) ≡ k → (h && (not b || t || k)) ≡ false → serve m write p s false w ≡ looking_of (Ok (Ref s.frame)) w
  unfolding serve share_in child_told leaf_told
  stays_by p s false b t k h _ _ _ e = rw h
  stays_by p s true true false false h b t k e = rw (h, b, t, k)
  stays_by p s true false t k h _ _ _ e = (true_not refl e)
  stays_by p s true true true k h _ _ _ e = (true_not refl e)
  stays_by p s true true false true h _ _ _ e = (true_not refl e)

  module _ (k d : ℕ) (p : Place) where
    pub finds_shared : (s : PageState) → walk m k w.pages p ≡ way d (Has s) → moves_at m write (ups m d p) s ≡ false → lookup m k write w p ≡ looking_of (Ok (Ref s.frame)) w
    unfolding top
    finds_shared s e n =
        rw (e, stays_by (ups m d p) s _ _ _ _ refl refl refl refl n) (descent_final m write d p (Ok (Ref s.frame)) w tt)

    pub finds_zeros : walk m k w.pages p ≡ way d Bare → write ≡ false → lookup m k write w p ≡ looking_of (Ok Zero) w
    unfolding top fresh_in
    finds_zeros e n = rw (e, n) (descent_final m false d p (Ok Zero) w tt)

    pub finds_none : walk m k w.pages p ≡ way d Tired → lookup m k write w p ≡ looking_of (Err Stopped) w
    unfolding top
    finds_none e = rw e (descent_final m write d p (Err Stopped) w tt)

-- a walk that wasn't tired is the same with more steps

module _ (m : Mode) (P : List ℕ) where
  spare_by : (s : Option PageState) (a : Bool) (x y : Way) → ((y.end ≡ Tired → ⊥) → x ≡ y) → ((walk_by s a y).end ≡ Tired → ⊥) → walk_by s a x ≡ walk_by s a y
  spare_by (Some s) a x y h n = refl
  spare_by None true x y h n = h n
  spare_by None false x y h n = refl

  pub walk_spare : (k j : ℕ) (p : Place) → ((walk m k P p).end ≡ Tired → ⊥) → walk m (k + j) P p ≡ walk m k P p
  unfolding walk
  walk_spare zero zero p n = refl
  walk_spare zero (suc j) p n =
      let z : 0 + suc j ≡ suc j = omega arith in
      rw z (spare_by (slot_at P p.node p.page) (asks m p) (further (walk m j P (up m p))) (way 0 Tired) (λ never. absurd (never refl)) n)
  walk_spare (suc k) j p n =
      let z : suc k + j ≡ suc (k + j) = omega arith in
      let q = up m p in
      rw z (spare_by (slot_at P p.node p.page) (asks m p) (further (walk m (k + j) P q)) (further (walk m k P q)) (λ never. ap further (walk_spare k j q never)) n)

-- a parent that is asked is one

pub asked_up : (m : Mode) (p : Place) → asks m p ≡ true → (node_at m p).parent ≡ (node_at m p).parent - 1 + 1
unfolding asks
asked_up m p a =
    let q = eqb-false (node_at m p).parent 0 (not-true _ (and_left (not (eqb (node_at m p).parent 0)) _ a)) in
    omega arith

-- a walk isn't tired where the chain ends in time

tired_by : (s : Option PageState) (a : Bool) (y : Way) → (a ≡ true → y.end ≡ Tired → ⊥) → (walk_by s a y).end ≡ Tired → ⊥
tired_by (Some s) a y h e = let z : ◌≡◌ {A = ℕ} 0 1 = cc in omega arith
tired_by None true y h e = h refl e
tired_by None false y h e = let z : ◌≡◌ {A = ℕ} 0 1 = cc in omega arith

module _ (m : Mode) (s : Short m.nodes) (P : List ℕ) where
  pub walk_ends : (k : ℕ) (p : Place) → above m.nodes (suc k) (p.node + 1) ≡ 0 → (walk m k P p).end ≡ Tired → ⊥
  unfolding walk above
  walk_ends zero p z = tired_by (slot_at P p.node p.page) (asks m p) (way 0 Tired) (λ a e. let q = asked_up m p a in let n = sym (above-next s 0 p.node) ∙ z in omega arith)
  walk_ends (suc k) p z =
      tired_by (slot_at P p.node p.page) (asks m p) (further (walk m k P (up m p)))
      (λ a e. walk_ends k (up m p) (rw (← asked_up m p a) (sym (above-next s (suc k) p.node) ∙ z)) e)

-- 64 parents asked are as good as any more
pub chain_enough : (L : ℕ) (p : Pool) → Sound L p → (k : ℕ) (M : List ℕ) (w : Work) (node i : ℕ) (write : Bool) (asker : ℕ) → look L 64 p.nodes M w node i write asker ≡ look L (64 + k) p.nodes M w node i write asker
chain_enough L p sound k M w node i write asker =
    let m = today L p.nodes M in
    let q = place_of node i asker in
    let s = sound-short L p sound in
    look_same m write w 64 q ∙ ap (along m write w q) (sym (walk_spare m w.pages 64 k q (walk_ends m s w.pages 64 q (ends_by_65 s (node + 1))))) ∙ sym (look_same m write w (64 + k) q)
