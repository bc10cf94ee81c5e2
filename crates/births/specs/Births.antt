-- What a call that gives birth to an object leaves.
use Rattle.std.specs.Prelude.{◌≡◌, ℕ, Ok, Err}
use Rattle.outcome.specs.Answers.{Answer}
use Rattle.node.specs.Node.{leaf_of}
use Rattle.tables.specs.Pool.{Pool}
use Rattle.tables.specs.Tables.{node_of}
use Rattle.sound.specs.Facts.{Leaf}
use Rattle.isolation.specs.Private.{Private}
use Rattle.births.specs.Arrays.{blank_array, clone_array}

-- refused it leaves pool p as it was; done it answers the object's number, and Q says what it leaves
abbrev pub Gave : Pool → (ℕ → Pool → Type 0) → Answer → Pool → Type 0
Gave p Q (Ok i) q = Q i q
Gave p Q (Err r) q = q ≡ p

-- object i of so many pages, which was no live node; the other objects are those of before, with their sizes; the arrays are A
pub record Newborn (L : ℕ) (A : ℕ → ℕ → ℕ → ℕ) (p : Pool) (pages i : ℕ) (q : Pool) : Type 0 where
  pub free : (node_of p.nodes i).kind ≡ 0
  pub leaf : Leaf q.nodes i
  pub size : (node_of q.nodes i).size ≡ pages
  pub others : (l : ℕ) → (l ≡ i → ⊥) → leaf_of (node_of q.nodes l) ≡ leaf_of (node_of p.nodes l)
  pub sizes : (l : ℕ) → Leaf p.nodes l → (node_of q.nodes l).size ≡ (node_of p.nodes l).size
  pub private : Private L A q

abbrev pub BlankBorn : ℕ → (ℕ → ℕ → ℕ → ℕ) → Pool → ℕ → ℕ → Pool → Type 0
BlankBorn L A p pages i q = Newborn L (blank_array A i) p pages i q

abbrev pub CloneBorn : ℕ → (ℕ → ℕ → ℕ → ℕ) → Pool → ℕ → ℕ → ℕ → ℕ → Pool → Type 0
CloneBorn L A p object first pages i q = Newborn L (clone_array A object i first) p pages i q
