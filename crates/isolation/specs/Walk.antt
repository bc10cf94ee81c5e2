-- Walks up the tree of nodes: what a page reads where its node holds no frame for it.
use Rattle.std.specs.Prelude.{◌≡◌, Bool, true, false, List, ℕ, ◌+◌, ◌*◌, get_or, Option, Some, None}
use Rattle.entry.specs.declared.PageState.{PageState}
use Rattle.entry.specs.declared.PageStateTag.{PageStateTag}

-- the nodes as a walk sees them: a node's parent, where the node's pages start in it, whether page p of the node asks the parent, the tag that
-- names the node's side, and whether the parent's other child has the asked page too
pub record Links : Type 0 where
  pub par : ℕ → ℕ
  pub start : ℕ → ℕ
  pub asks : ℕ → ℕ → Bool
  pub side : ℕ → PageStateTag
  pub both : ℕ → ℕ → Bool

-- what reaches page p of node n from above is the nearest entry's frame, and that entry is not split for the side that the walk comes by; or
-- nothing, which stands for zeros
pub data Near (T : Links) (E : ℕ → ℕ → Option PageState) : ℕ → ℕ → Option ℕ → Type 0 where
  none : {n p : ℕ} {x : Option ℕ} → T.asks n p ≡ false → x ≡ None → Near T E n p x
  here : {n p : ℕ} {x : Option ℕ} {s : PageState} → T.asks n p ≡ true → E (T.par n) (T.start n + p) ≡ Some s → (s.tag ≡ T.side n → ⊥) → x ≡ Some s.frame → Near T E n p x
  up : {n p : ℕ} {x : Option ℕ} → T.asks n p ≡ true → E (T.par n) (T.start n + p) ≡ None → Near T E (T.par n) (T.start n + p) x → Near T E n p x

-- page p of node n reads its own frame, else what reaches it from above
pub data View (T : Links) (E : ℕ → ℕ → Option PageState) (n p : ℕ) (x : Option ℕ) : Type 0 where
  own : {s : PageState} → E n p ≡ Some s → x ≡ Some s.frame → View T E n p x
  above : E n p ≡ None → Near T E n p x → View T E n p x

-- (a, b) is a page above page p of n: of its parent, of that one's parent, ..
pub data Over (T : Links) : ℕ → ℕ → ℕ → ℕ → Type 0 where
  parent : {n p a b : ℕ} → T.asks n p ≡ true → a ≡ T.par n → b ≡ T.start n + p → Over T n p a b
  higher : {n p a b : ℕ} → T.asks n p ≡ true → Over T (T.par n) (T.start n + p) a b → Over T n p a b

-- byte k of what is read, in a memory of L bytes a frame
abbrev pub byte_of : ℕ → List ℕ → Option ℕ → ℕ → ℕ
byte_of L memory (Some f) k = get_or memory (f * L + k) 0
byte_of L memory None k = 0
