-- What a lookup of one page leaves of the needs of the object's other pages; and when it is granted. Assumes nothing.
use Rattle.std.specs.Prelude.{Option, ℕ, None, Some, Ok, Err}
use Rattle.entry.specs.declared.PageState.{PageState}
use mathlib.Core.Path.{◌≡◌, refl, sym, ap, ◌∙◌}
use mathlib.Core.Bool.{Bool, true, false}
use mathlib.Core.List.{List, []}
use Prim.Native.Nat.{ℕ, zero, suc, ◌+◌, ◌≤◌, ◌<◌}
use native.Mathlib.Omega.{arith}
use Rattle.tables.specs.Pool.{Pool}
use Rattle.tables.specs.Tables.{node_of, slot_at}
use Rattle.frames.specs.Frames.{free_count}
use Rattle.outcome.specs.Told.{Told}
use Rattle.outcome.specs.declared.answer.Refusal.TheVariants.{NoMemory}
use Rattle.lookup.specs.Work.{Work}
use Rattle.lookup.specs.Commit.{Committing, Committed}
use Rattle.sound.specs.Facts.{Leaf}
use Rattle.isolation.specs.Walk.{Over, byte_of}
use Rattle.isolation.specs.Walk.Over.{parent, higher}
use Rattle.isolation.specs.Private.{links_of, Private}
use Rattle.lookups.specs.Need.{need_in, need}
use Rattle.lookup.specs.Mode.{Mode, today, place_of, up, asks}
use Rattle.lookup.specs.Descent.{Way, further, walk_by, walk}
use Rattle.isolation.specs.Kept.{Answered, Kept}
use Rattle.isolation.proofs.Pass.{view_one}
use Rattle.isolation.proofs.Wood.{Ground, height}
use Rattle.isolation.proofs.Ask.{over_low}
use Rattle.isolation.proofs.Look.{ground}
use Rattle.logic.proofs.Laws.{true_not}

-- a page's need depends on the entries above it alone

module _ (N P P' : List ℕ) where
  abbrev m : Mode
  m = today 0 N []

  walk_by_lem : (s : Option PageState) (a : Bool) (y y' : Way) → (a ≡ true → y' ≡ y) → walk_by s a (further y') ≡ walk_by s a (further y)
  walk_by_lem (Some s) a y y' h = refl
  walk_by_lem None true y y' h = ap further (h refl)
  walk_by_lem None false y y' h = refl

  walk_agree : (k n i c : ℕ) → slot_at P' n i ≡ slot_at P n i → ((a b : ℕ) → Over (links_of N) n i a b → slot_at P' a b ≡ slot_at P a b) → walk m k P' (place_of n i c) ≡ walk m k P (place_of n i c)
  unfolding walk asks
  walk_agree zero n i c e h = rw e
  walk_agree (suc k) n i c e h =
      let T = links_of N in
      rw e (walk_by_lem (slot_at P n i) (T.asks n i) (walk m k P (up m (place_of n i c))) (walk m k P' (up m (place_of n i c)))
      (λ a. walk_agree k (T.par n) (T.start n + i) n (h _ _ (parent a refl refl)) (λ x y d. h x y (higher a d))))

  pub need_agree : (n i : ℕ) → slot_at P' n i ≡ slot_at P n i → ((a b : ℕ) → Over (links_of N) n i a b → slot_at P' a b ≡ slot_at P a b) → need N P' n i ≡ need N P n i
  unfolding need_in
  need_agree n i e h = rw (walk_agree 64 n i n e h)

-- walks from two pages of a node never meet
pub over_one : (N : List ℕ) (G : Ground N) {n p q a b : ℕ} → Over (links_of N) n p a b → Over (links_of N) n q a b → p ≡ q
over_one N G (parent x i j) (parent y k l) = omega arith
over_one N G (parent {n} x i j) (higher y d) = let l = over_low N G d in let e = ap (height N G) i in absurd (omega arith)
over_one N G (higher {n} x d) (parent y k l) = let m = over_low N G d in let e = ap (height N G) k in absurd (omega arith)
over_one N G (higher x d) (higher y e) = let h = over_one N G d e in omega arith

module _ (L : ℕ) (A : ℕ → ℕ → ℕ → ℕ) (p : Pool) (P : Private L A p) (t : Told) (l i : ℕ) (write : Bool) (r : Committing) (K : Kept L A p t l i write r) where
  -- the object's other pages need what they needed
  pub need_still : (j : ℕ) → (j ≡ i → ⊥) → need p.nodes r.work.pages l j ≡ need p.nodes p.pages l j
  need_still j ne =
      let G = ground L A p P in
      let e = K.only l j (λ x y. ne y) (λ d. let h = over_low p.nodes G d in omega arith) in
      need_agree p.nodes p.pages r.work.pages l j e
      (λ a b d. K.only a b (λ x y. let h = over_low p.nodes G d in let k = ap (height p.nodes G) x in omega arith) (λ c. ne (over_one p.nodes G d c)))

  -- a write is granted exactly if the page needs no more frames than are free
  granted_by : (z : Committed) (w : Work) → Answered L p t l i (A l i) write z w → write ≡ true → need p.nodes p.pages l i ≤ free_count p.used → (f : ℕ) × (z ≡ Ok (Some f))
  granted_by (Ok (Some f)) w d k h = (f, refl)
  granted_by (Ok None) w d k h = true_not k d.reading
  granted_by (Err r) w d k h = let s = d.short in absurd (omega arith)

  pub granted : write ≡ true → need p.nodes p.pages l i ≤ free_count p.used → (f : ℕ) × (r.answer ≡ Ok (Some f))
  granted = granted_by r.answer r.work K.answers

  refused_by : (z : Committed) (w : Work) → Answered L p t l i (A l i) write z w → write ≡ true → free_count p.used < need p.nodes p.pages l i → z ≡ Err NoMemory
  refused_by (Ok (Some f)) w d k h = let s = d.taken k in absurd (omega arith)
  refused_by (Ok None) w d k h = true_not k d.reading
  refused_by (Err r) w d k h = ap Err d.answer

  pub refused : write ≡ true → free_count p.used < need p.nodes p.pages l i → r.answer ≡ Err NoMemory
  refused = refused_by r.answer r.work K.answers

-- a pool has the arrays of one set only
pub array_one : (L : ℕ) (A B : ℕ → ℕ → ℕ → ℕ) (p : Pool) → Private L A p → Private L B p → (l i k : ℕ) → Leaf p.nodes l → i < (node_of p.nodes l).size → k < L → A l i k ≡ B l i k
array_one L A B p P Q l i k leaf low h =
    let u = P.shows l i leaf low in
    let v = Q.shows l i leaf low in
    sym (u.bytes k h) ∙ ap (λ (x : Option ℕ). byte_of L p.memory x k) (view_one u.view v.view) ∙ v.bytes k h
