-- Walks after a birth: the hidden node x stands where the object n stood and has its entries, and both leaves below it read what n read.
-- Over functions. Assumes nothing.
use Rattle.std.specs.Prelude.{Option, ℕ, None, Some}
use mathlib.Core.Path.{◌≡◌, sym, ◌∙◌}
use mathlib.Core.Bool.{true}
use Prim.Native.Nat.{ℕ, ◌+◌, ◌<◌}
use Rattle.entry.specs.declared.PageState.{PageState}
use Rattle.entry.specs.declared.PageStateTag.TheVariants.{Owned}
use Rattle.isolation.specs.Walk.{Links, Near, View}
use Rattle.isolation.specs.Walk.Near.{none, here, up}
use Rattle.isolation.specs.Walk.View.{own, above}
use Rattle.births.proofs.Cloned.{Old}

pub record Born (T T' : Links) (E E' : ℕ → ℕ → Option PageState) (n x c : ℕ) : Type 0 where
  -- every other node stays, and so do its parent and its entries
  pub old_asks : (m p : ℕ) → Old n x c m → T'.asks m p ≡ T.asks m p
  pub old_par : (m : ℕ) → Old n x c m → T'.par m ≡ T.par m
  pub old_start : (m : ℕ) → Old n x c m → T'.start m ≡ T.start m
  pub old_side : (m p : ℕ) → Old n x c m → T.asks m p ≡ true → T'.side m ≡ T.side m
  pub old_up : (m p : ℕ) → T.asks m p ≡ true → Old n x c (T.par m)
  pub old_entry : (a b : ℕ) → Old n x c a → E' a b ≡ E a b
  -- x stands where n stood
  pub x_asks : (p : ℕ) → T'.asks x p ≡ T.asks n p
  pub x_par : T'.par x ≡ T.par n
  pub x_start : T'.start x ≡ T.start n
  pub x_side : (p : ℕ) → T.asks n p ≡ true → T'.side x ≡ T.side n
  pub x_entry : (p : ℕ) → E' x p ≡ E n p
  pub owned : (p : ℕ) (s : PageState) → E n p ≡ Some s → s.tag ≡ Owned

-- a leaf y below x, whose pages are those of x from k on
pub record Below (T' : Links) (E' : ℕ → ℕ → Option PageState) (x y k pages : ℕ) : Type 0 where
  pub asks : (p : ℕ) → p < pages → T'.asks y p ≡ true
  pub par : T'.par y ≡ x
  pub start : T'.start y ≡ k
  pub side : T'.side y ≡ Owned → ⊥
  pub bare : (p : ℕ) → E' y p ≡ None

module _ (T T' : Links) (E E' : ℕ → ℕ → Option PageState) (n x c : ℕ) (S : Born T T' E E' n x c) where
  entry_at : (m p a b : ℕ) → T'.par m ≡ a → T'.start m + p ≡ b → (y : Option PageState) → E' a b ≡ y → E' (T'.par m) (T'.start m + p) ≡ y
  entry_at m p a b i j y h = rw (i, j) h

  -- walks of the other nodes are as before
  old_walk : {m p : ℕ} {f : Option ℕ} → Old n x c m → Near T E m p f → Near T' E' m p f
  old_walk o (none {n = m} {p} a z) = none (S.old_asks m p o ∙ a) z
  old_walk o (here {n = m} {p} {s = s} a h t y) =
      let i = S.old_par m o in
      let j : T'.start m + p ≡ T.start m + p = rw (S.old_start m o) in
      here {s = s} (S.old_asks m p o ∙ a) (entry_at m p (T.par m) (T.start m + p) i j (Some s) (S.old_entry (T.par m) (T.start m + p) (S.old_up m p a) ∙ h))
      (rw (S.old_side m p o a) t) y
  old_walk o (up {n = m} {p} {x = f} a h d) =
      let i = S.old_par m o in
      let j : T'.start m + p ≡ T.start m + p = rw (S.old_start m o) in
      up {x = f} (S.old_asks m p o ∙ a) (entry_at m p (T.par m) (T.start m + p) i j None (S.old_entry (T.par m) (T.start m + p) (S.old_up m p a) ∙ h))
      (rw (i, j) (old_walk (S.old_up m p a) d))

  pub old_view : (m p : ℕ) (f : Option ℕ) → Old n x c m → View T E m p f → View T' E' m p f
  old_view m p f o (own h y) = own (S.old_entry m p o ∙ h) y
  old_view m p f o (above h d) = above (S.old_entry m p o ∙ h) (old_walk o d)

  -- x gets what n got
  x_walk : (p : ℕ) (f : Option ℕ) → Near T E n p f → Near T' E' x p f
  x_walk p f (none a z) = none (S.x_asks p ∙ a) z
  x_walk p f (here {s = s} a h t y) =
      let i = S.x_par in
      let j : T'.start x + p ≡ T.start n + p = rw S.x_start in
      here {s = s} (S.x_asks p ∙ a) (entry_at x p (T.par n) (T.start n + p) i j (Some s) (S.old_entry (T.par n) (T.start n + p) (S.old_up n p a) ∙ h))
      (rw (S.x_side p a) t) y
  x_walk p f (up a h d) =
      let i = S.x_par in
      let j : T'.start x + p ≡ T.start n + p = rw S.x_start in
      up {x = f} (S.x_asks p ∙ a) (entry_at x p (T.par n) (T.start n + p) i j None (S.old_entry (T.par n) (T.start n + p) (S.old_up n p a) ∙ h))
      (rw (i, j) (old_walk (S.old_up n p a) d))

  -- a leaf below x reads what n read
  pub below_view : (y k pages : ℕ) → Below T' E' x y k pages → (p : ℕ) (f : Option ℕ) → p < pages → View T E n (k + p) f → View T' E' y p f
  below_view y k pages D p f h (own {s = s} z b) =
      above (D.bare p)
      (here {s = s} (D.asks p h) (entry_at y p x (k + p) D.par (rw D.start) (Some s) (S.x_entry (k + p) ∙ z)) (λ t. D.side (sym t ∙ S.owned (k + p) s z)) b)
  below_view y k pages D p f h (above z d) =
      above (D.bare p)
      (up {x = f} (D.asks p h) (entry_at y p x (k + p) D.par (rw D.start) None (S.x_entry (k + p) ∙ z)) (rw (D.par, D.start) (x_walk (k + p) f d)))
