-- A page in a window, and what stays lent through two steps. Assumes nothing.
use Rattle.std.specs.Prelude.{ℕ}
use mathlib.Core.Path.{◌≡◌, sym, ◌∙◌}
use mathlib.Core.Bool.{Bool, true}
use Prim.Native.Nat.{ℕ, ◌<◌}
use lib.Dec.{leb, ltb}
use borrow.Author.Tests.{ltb-true}
use Rattle.logic.proofs.Laws.{and_right}
use Rattle.node.specs.declared.Node.{Node}
use Rattle.node.specs.Node.{window_of}
use Rattle.lookup.specs.declared.Store.{Store}
use Rattle.lookup.specs.Lent.{SameStore}

-- a page in a window has a small number
pub window_low : (n : Node) (i : ℕ) {b : Bool} → b ≡ window_of n i → b ≡ true → i < n.parent_limit
window_low n i e h = ltb-true i n.parent_limit (and_right (leb n.parent_offset i) (ltb i n.parent_limit) (sym e ∙ h))

-- the same lent slices, through two steps
pub same-same : {a b c : Store} → SameStore a b → SameStore b c → SameStore a c
same-same h k = record { pages = k.pages ∙ h.pages; used = k.used ∙ h.used; memory = k.memory ∙ h.memory }
