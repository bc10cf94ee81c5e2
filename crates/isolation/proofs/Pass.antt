-- Walks across one step that passes an entry down from a parent to its child. Assumes nothing.
use Rattle.std.specs.Prelude.{Option, ℕ, Some, None}
use mathlib.Core.Path.{◌≡◌, refl, sym, ap, ◌∙◌, subst, subst₂}
use mathlib.Core.Bool.{true}
use Prim.Native.Nat.{ℕ, ◌+◌}
use native.Mathlib.Omega.{arith}
use Rattle.entry.specs.declared.PageState.{PageState}
use Rattle.entry.specs.declared.PageStateTag.TheVariants.{Owned}
use Rattle.logic.proofs.Laws.{true_not}
use Rattle.lookups.proofs.Spots.{held_one, held_not, Spot, spot}
use Rattle.lookups.proofs.Spots.Spot.{there, elsewhere}
use Rattle.isolation.specs.Walk.{Links, Near, View}
use Rattle.isolation.specs.Walk.Near.{none, here, up}
use Rattle.isolation.specs.Walk.View.{own, above}

-- what the lemmas rely on: a parent is no leaf, a side is a split tag; `reach` holds where a leaf's walk comes by, for a rule that looks who is below
pub record Climbs (T : Links) (leaf : ℕ → Type 0) (reach : ℕ → ℕ → Type 0) : Type 0 where
  pub inner : (n p : ℕ) → T.asks n p ≡ true → leaf (T.par n) → ⊥
  pub sided : (n p : ℕ) → T.asks n p ≡ true → T.side n ≡ Owned → ⊥
  pub reach_leaf : (n p : ℕ) → leaf n → reach n p
  pub reach_up : (n p : ℕ) → T.asks n p ≡ true → reach n p → reach (T.par n) (T.start n + p)

-- an entry s is passed from the parent of c to page r of c; Q says what reads alike before and after
pub record Pass (T : Links) (reach : ℕ → ℕ → Type 0) (Q : Option ℕ → Option ℕ → Type 0) (E E' : ℕ → ℕ → Option PageState) (c r : ℕ) (s t : PageState) : Type 0 where
  pub asked : T.asks c r ≡ true
  pub over : E (T.par c) (T.start c + r) ≡ Some s
  pub bare : E c r ≡ None
  pub given : E' c r ≡ Some t
  pub owned : t.tag ≡ Owned
  pub same : Q (Some s.frame) (Some t.frame)
  pub zeros : Q None None
  pub rest : (a b : ℕ) → (a ≡ T.par c → b ≡ T.start c + r → ⊥) → (a ≡ c → b ≡ r → ⊥) → E' a b ≡ E a b
  pub keep : (a b : ℕ) (e : PageState) → E a b ≡ Some e → Q (Some e.frame) (Some e.frame)
  pub sib : (n p : ℕ) → reach n p → T.asks n p ≡ true → T.par n ≡ T.par c → T.start n + p ≡ T.start c + r → (n ≡ c → ⊥) → (s.tag ≡ T.side n → ⊥)
      → (e : PageState) × (E' (T.par c) (T.start c + r) ≡ Some e) × (e.tag ≡ T.side n → ⊥) × Q (Some s.frame) (Some e.frame)

-- what is read after it
abbrev pub Nears : (T : Links) (Q : Option ℕ → Option ℕ → Type 0) (E : ℕ → ℕ → Option PageState) (n p : ℕ) (x : Option ℕ) → Type 0
Nears T Q E n p x = (y : Option ℕ) × Near T E n p y × Q x y

abbrev pub Views : (T : Links) (Q : Option ℕ → Option ℕ → Type 0) (E : ℕ → ℕ → Option PageState) (n p : ℕ) (x : Option ℕ) → Type 0
Views T Q E n p x = (y : Option ℕ) × View T E n p y × Q x y

module _ (T : Links) (leaf : ℕ → Type 0) (reach : ℕ → ℕ → Type 0) (C : Climbs T leaf reach) (Q : Option ℕ → Option ℕ → Type 0) (E E' : ℕ → ℕ → Option PageState) (c r : ℕ) (s t : PageState) (S : Pass T reach Q E E' c r s t) where
  sib_by : (n p : ℕ) (x : Option ℕ) → T.asks n p ≡ true → T.par n ≡ T.par c → T.start n + p ≡ T.start c + r → x ≡ Some s.frame
      → (e : PageState) × (E' (T.par c) (T.start c + r) ≡ Some e) × (e.tag ≡ T.side n → ⊥) × Q (Some s.frame) (Some e.frame) → Nears T Q E' n p x
  sib_by n p x a i j b (e, h, u, q) = (Some e.frame, here {s = e} a (rw (i, j) h) u refl, rw b q)

  here_by : (n p : ℕ) (x : Option ℕ) (e : PageState) → T.asks n p ≡ true → E (T.par n) (T.start n + p) ≡ Some e → (e.tag ≡ T.side n → ⊥) → x ≡ Some e.frame → (n ≡ c → p ≡ r → ⊥) → reach n p
      → Spot (T.par n) (T.start n + p) (T.par c) (T.start c + r) → Spot (T.par n) (T.start n + p) c r → Nears T Q E' n p x
  here_by n p x e a h u b ne y (there i j) w =
      let d : e ≡ s = held_one (sym h ∙ (rw (i, j) S.over)) in
      sib_by n p x a i j (b ∙ ap (λ (v : PageState). Some v.frame) d)
      (S.sib n p y a i j (λ k. ne k (let l : T.start n ≡ T.start c = ap T.start k in omega arith)) (rw d at u))
  here_by n p x e a h u b ne y (elsewhere k) (there i j) = absurd (held_not h (rw (i, j) S.bare))
  here_by n p x e a h u b ne y (elsewhere k) (elsewhere l) = (Some e.frame, here {s = e} a (S.rest (T.par n) (T.start n + p) k l ∙ h) u refl, rw b (S.keep (T.par n) (T.start n + p) e h))

  -- what reaches (c, r) before is the entry above
  pub over_is : (x : Option ℕ) → Near T E c r x → x ≡ Some s.frame
  over_is x (none a z) = absurd (true_not S.asked a)
  over_is x (here a h u b) = let d = held_one (sym S.over ∙ h) in rw d b
  over_is x (up a h d) = absurd (held_not S.over h)

  up_by : (n p : ℕ) (x : Option ℕ) → T.asks n p ≡ true → E (T.par n) (T.start n + p) ≡ None → Near T E (T.par n) (T.start n + p) x
      → ((T.par n ≡ c → T.start n + p ≡ r → ⊥) → Nears T Q E' (T.par n) (T.start n + p) x)
      → Spot (T.par n) (T.start n + p) (T.par c) (T.start c + r) → Spot (T.par n) (T.start n + p) c r → Nears T Q E' n p x
  up_by n p x a h d ih (there i j) w = absurd (held_not S.over (rw (← i, ← j) h))
  up_by n p x a h d ih (elsewhere k) (there i j) = (
    Some t.frame,
    here {s = t} a (rw (i, j) S.given) (λ u. C.sided n p a (sym u ∙ S.owned)) refl,
    rw (over_is x (subst₂ (λ (u v : ℕ). Near T E u v x) i j d)) S.same,
  )
  up_by n p x a h d ih (elsewhere k) (elsewhere l) = let g = ih l in (g.0, up a (S.rest (T.par n) (T.start n + p) k l ∙ h) g.1, g.2)

  -- a walk that does not start at (c, r) brings the same
  pub walk : {n p : ℕ} {x : Option ℕ} → reach n p → Near T E n p x → (n ≡ c → p ≡ r → ⊥) → Nears T Q E' n p x
  walk y (none a z) ne = (None, none a refl, rw z S.zeros)
  walk y (here {n} {p} {x} {s = e} a h u b) ne = here_by n p x e a h u b ne y (spot (T.par n) (T.start n + p) (T.par c) (T.start c + r)) (spot (T.par n) (T.start n + p) c r)
  walk y (up {n} {p} {x} a h d) ne = up_by n p x a h d (λ l. walk (C.reach_up n p a y) d l) (spot (T.par n) (T.start n + p) (T.par c) (T.start c + r)) (spot (T.par n) (T.start n + p) c r)

  leaf_not : (l : ℕ) → leaf l → l ≡ T.par c → ⊥
  leaf_not l f i = C.inner c r S.asked (subst leaf i f)

  views_by : (l p : ℕ) (x : Option ℕ) → leaf l → View T E l p x → Spot l p c r → Views T Q E' l p x
  views_by l p x f (own h b) (there i j) = absurd (held_not h (rw (i, j) S.bare))
  views_by l p x f (own {s = e} h b) (elsewhere k) = (Some e.frame, own {s = e} (S.rest l p (λ i j. leaf_not l f i) k ∙ h) refl, rw b (S.keep l p e h))
  views_by l p x f (above h d) (there i j) = (Some t.frame, own {s = t} (rw (i, j) S.given) refl, rw (over_is x (subst₂ (λ (u v : ℕ). Near T E u v x) i j d)) S.same)
  views_by l p x f (above h d) (elsewhere k) = let g = walk (C.reach_leaf l p f) d k in (g.0, above (S.rest l p (λ i j. leaf_not l f i) k ∙ h) g.1, g.2)

  -- every leaf reads the same
  pub views : (l p : ℕ) (x : Option ℕ) → leaf l → View T E l p x → Views T Q E' l p x
  views l p x f d = views_by l p x f d (spot l p c r)

-- a step that leaves the parents' entries alone
pub record Aside (T : Links) (Q : Option ℕ → Option ℕ → Type 0) (E E' : ℕ → ℕ → Option PageState) : Type 0 where
  pub rest : (n p b : ℕ) → T.asks n p ≡ true → E' (T.par n) b ≡ E (T.par n) b
  pub keep : (n p b : ℕ) (e : PageState) → T.asks n p ≡ true → E (T.par n) b ≡ Some e → Q (Some e.frame) (Some e.frame)
  pub zeros : Q None None

module _ (T : Links) (Q : Option ℕ → Option ℕ → Type 0) (E E' : ℕ → ℕ → Option PageState) (S : Aside T Q E E') where
  pub walk_aside : {n p : ℕ} {x : Option ℕ} → Near T E n p x → Nears T Q E' n p x
  walk_aside (none a z) = (None, none a refl, rw z S.zeros)
  walk_aside (here {n} {p} {x} {s = e} a h u b) = (Some e.frame, here {s = e} a (S.rest n p (T.start n + p) a ∙ h) u refl, rw b (S.keep n p (T.start n + p) e a h))
  walk_aside (up {n} {p} a h d) = let g = walk_aside d in (g.0, up a (S.rest n p (T.start n + p) a ∙ h) g.1, g.2)

  -- a leaf's page that itself stays reads the same
  pub views_aside : (l p : ℕ) (x : Option ℕ) → E' l p ≡ E l p → ((e : PageState) → E l p ≡ Some e → Q (Some e.frame) (Some e.frame)) → View T E l p x → Views T Q E' l p x
  views_aside l p x y k (own {s = e} h b) = (Some e.frame, own {s = e} (y ∙ h) refl, rw b (k e h))
  views_aside l p x y k (above h d) = let g = walk_aside d in (g.0, above (y ∙ h) g.1, g.2)

-- one frame reaches a page
pub near_one : {T : Links} {E : ℕ → ℕ → Option PageState} {n p : ℕ} {x y : Option ℕ} → Near T E n p x → Near T E n p y → x ≡ y
near_one (none a z) (none b y) = z ∙ sym y
near_one (none a z) (here b h t y) = absurd (true_not b a)
near_one (none a z) (up b h d) = absurd (true_not b a)
near_one (here b h t y) (none a z) = absurd (true_not b a)
near_one (here b h t y) (here a k u z) = let d = held_one (sym h ∙ k) in y ∙ rw d (sym z)
near_one (here b h t y) (up a k d) = absurd (held_not h k)
near_one (up b h d) (none a z) = absurd (true_not b a)
near_one (up b h d) (here a k u z) = absurd (held_not k h)
near_one (up b h d) (up a k e) = near_one d e

pub view_one : {T : Links} {E : ℕ → ℕ → Option PageState} {n p : ℕ} {x y : Option ℕ} → View T E n p x → View T E n p y → x ≡ y
view_one (own h y) (own k z) = let d = held_one (sym h ∙ k) in y ∙ rw d (sym z)
view_one (own h y) (above k e) = absurd (held_not h k)
view_one (above h d) (own k z) = absurd (held_not k h)
view_one (above h d) (above k e) = near_one d e
