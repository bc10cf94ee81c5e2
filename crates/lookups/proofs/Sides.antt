-- The two children of a hidden node, their sides and each other. Assumes nothing.
use mathlib.Core.Path.{◌≡◌, refl, sym, ◌∙◌}
use mathlib.Core.Bool.{true}
use mathlib.Core.Logic.{◌⊎◌, inl, inr}
use Prim.Native.Nat.{ℕ, ◌+◌, ◌-◌}
use native.Mathlib.Omega.{arith}
use borrow.Author.Tests.{eq-eqb, ne_eqb}
use Rattle.entry.specs.declared.PageStateTag.{PageStateTag}
use Rattle.entry.specs.declared.PageStateTag.TheVariants.{Owned, LeftSplit, RightSplit}
use Rattle.entry.specs.Entry.{split_of}
use Rattle.node.specs.declared.Node.{Node}
use Rattle.node.specs.declared.Side.{Side}
use Rattle.node.specs.Node.{hidden_of, side_by, side_of}
use Rattle.notices.specs.Notices.{child_of}
use Rattle.lookup.specs.Mode.{other}

pub data Sided (x : Node) (c : ℕ) : Type 0 where
  is_left : x.left ≡ c + 1 → side_of x c ≡ side_by LeftSplit x.right → Sided x c
  is_right : x.right ≡ c + 1 → side_of x c ≡ side_by RightSplit x.left → Sided x c

pub sided_by : (x : Node) (c : ℕ) → hidden_of x ≡ true → (x.left ≡ x.right → ⊥) → ((x.left ≡ c + 1) ⊎ (x.right ≡ c + 1)) → Sided x c
unfolding side_of
sided_by x c h d (inl e) = is_left e (rw (h, eq-eqb x.left (c + 1) e))
sided_by x c h d (inr e) = is_right e (rw (h, ne_eqb x.left (c + 1) (λ z. d (z ∙ sym e)), eq-eqb x.right (c + 1) e))

link_child : (link n : ℕ) → link ≡ n + 1 → child_of link ≡ n
unfolding child_of
link_child link n e = let d : n + 1 - 1 ≡ n = omega arith in rw (e, ne_eqb (n + 1) 0 (λ z. omega arith), d)

tag_is : {s : Side} {o : ℕ} {t : PageStateTag} → s ≡ side_by t o → s.tag ≡ t
tag_is e = rw e

other_is : (x : Node) (c n o : ℕ) (t : PageStateTag) → side_of x c ≡ side_by t o → o ≡ n + 1 → n ≡ other x c
other_is x c n o t e d = rw e (sym (link_child o n d))

pub side_split : {x : Node} {c : ℕ} → Sided x c → split_of (side_of x c).tag ≡ true
side_split (is_left e t) = rw t
side_split (is_right e t) = rw t

pub side_owned : {x : Node} {c : ℕ} → Sided x c → (side_of x c).tag ≡ Owned → ⊥
side_owned (is_left e t) h = let k = sym (tag_is t) ∙ h in let z : ◌≡◌ {A = ℕ} 0 1 = cc in omega arith
side_owned (is_right e t) h = let k = sym (tag_is t) ∙ h in let z : ◌≡◌ {A = ℕ} 0 1 = cc in omega arith

-- two children on the same side are one
pub side_one : {x : Node} {n m : ℕ} → Sided x n → Sided x m → (side_of x n).tag ≡ (side_of x m).tag → n ≡ m
side_one (is_left e t) (is_left d u) h = omega arith
side_one (is_left e t) (is_right d u) h = let k = sym (tag_is t) ∙ h ∙ tag_is u in let z : ◌≡◌ {A = ℕ} 0 1 = cc in absurd (omega arith)
side_one (is_right e t) (is_left d u) h = let k = sym (tag_is t) ∙ h ∙ tag_is u in let z : ◌≡◌ {A = ℕ} 0 1 = cc in absurd (omega arith)
side_one (is_right e t) (is_right d u) h = omega arith

-- a child that is not c is the other one
pub other-one : {x : Node} {c n : ℕ} → Sided x c → Sided x n → (n ≡ c → ⊥) → n ≡ other x c
other-one (is_left e t) (is_left d u) ne = absurd (ne (omega arith))
other-one {x} {c} {n} (is_left e t) (is_right d u) ne = other_is x c n x.right LeftSplit t d
other-one {x} {c} {n} (is_right e t) (is_left d u) ne = other_is x c n x.left RightSplit t d
other-one (is_right e t) (is_right d u) ne = absurd (ne (omega arith))

two_tags : (t u v : PageStateTag) → split_of t ≡ true → split_of u ≡ true → split_of v ≡ true → (u ≡ v → ⊥) → (t ≡ u → ⊥) → (t ≡ v → ⊥) → ⊥
two_tags Owned u v a b c d e f = let z : ◌≡◌ {A = ℕ} 0 1 = cc in omega arith
two_tags LeftSplit Owned v a b c d e f = let z : ◌≡◌ {A = ℕ} 0 1 = cc in omega arith
two_tags LeftSplit LeftSplit v a b c d e f = e refl
two_tags LeftSplit RightSplit Owned a b c d e f = let z : ◌≡◌ {A = ℕ} 0 1 = cc in omega arith
two_tags LeftSplit RightSplit LeftSplit a b c d e f = f refl
two_tags LeftSplit RightSplit RightSplit a b c d e f = d refl
two_tags RightSplit Owned v a b c d e f = let z : ◌≡◌ {A = ℕ} 0 1 = cc in omega arith
two_tags RightSplit LeftSplit Owned a b c d e f = let z : ◌≡◌ {A = ℕ} 0 1 = cc in omega arith
two_tags RightSplit LeftSplit LeftSplit a b c d e f = d refl
two_tags RightSplit LeftSplit RightSplit a b c d e f = f refl
two_tags RightSplit RightSplit v a b c d e f = e refl

-- a split tag names one of two children
pub split_side : {x : Node} {c n : ℕ} (t : PageStateTag) → Sided x c → Sided x n → (n ≡ c → ⊥) → split_of t ≡ true → (t ≡ (side_of x c).tag → ⊥) → (t ≡ (side_of x n).tag → ⊥) → ⊥
split_side {x} {c} {n} t p q ne s f g =
    two_tags t (side_of x c).tag (side_of x n).tag s (side_split p) (side_split q) (λ h. ne (sym (side_one p q h))) f g
