-- The invariant of isolation: a sound pool in which every object's page reads an array of the object's own, for pages of L bytes (any L; with 0
-- nothing is said of bytes).
use Rattle.std.specs.Prelude.{◌≡◌, ◌&&◌, not, List, ℕ, ◌+◌, ◌-◌, ◌≤◌, ◌<◌, eqb, leb, ltb, get_or, Option}
use Rattle.logic.specs.Pick.{pick}
use Rattle.node.specs.Node.{window_of, out_of, side_of}
use Rattle.tables.specs.Pool.{Pool}
use Rattle.tables.specs.Tables.{node_of, slot_at}
use Rattle.lookup.specs.Mode.{other}
use Rattle.sound.specs.Facts.{Leaf, Sound}
use Rattle.isolation.specs.Walk.{Links, View, byte_of}

-- the table of nodes as walks see it: a page asks the parent if there is one and the page doesn't lie outside (document 01's out of range);
-- the other child has a page of the parent if it lies in its window
abbrev pub links_of : List ℕ → Links
links_of N =
    record {
      par = λ n. (node_of N n).parent - 1;
      start = λ n. (node_of N n).parent_offset;
      asks = λ n p. not (eqb (node_of N n).parent 0) && not (out_of (node_of N n) p);
      side = λ n. (side_of (node_of N ((node_of N n).parent - 1)) n).tag;
      both = λ n p. window_of (node_of N (other (node_of N ((node_of N n).parent - 1)) n)) ((node_of N n).parent_offset + p);
    }

-- a child's window is as long as the child and lies inside its parent
pub record Windows (N : List ℕ) : Type 0 where
  pub whole : (c h : ℕ) → (node_of N c).parent ≡ h + 1 → (node_of N c).parent_limit ≡ (node_of N c).parent_offset + (node_of N c).size
  pub inside : (c h : ℕ) → (node_of N c).parent ≡ h + 1 → (node_of N c).parent_limit ≤ (node_of N h).size

-- page i of object l reads as the bytes a 0, a 1, ..
pub record Shows (L : ℕ) (p : Pool) (l i : ℕ) (a : ℕ → ℕ) : Type 0 where
  pub source : Option ℕ
  pub view : View (links_of p.nodes) (slot_at p.pages) l i source
  pub bytes : (k : ℕ) → k < L → byte_of L p.memory source k ≡ a k

-- A l i k is byte k of page i of object l
pub record Private (L : ℕ) (A : ℕ → ℕ → ℕ → ℕ) (p : Pool) : Type 0 where
  pub sound : Sound L p
  pub windows : Windows p.nodes
  pub shows : (l i : ℕ) → Leaf p.nodes l → i < (node_of p.nodes l).size → Shows L p l i (A l i)

-- the arrays after n bytes of b, from `from` on, were put into page i of object l at byte `at`
unfoldable pub put : (ℕ → ℕ → ℕ → ℕ) → ℕ → ℕ → ℕ → ℕ → List ℕ → ℕ → ℕ → ℕ → ℕ → ℕ
put A l i at n b from m j k =
    pick (eqb m l && eqb j i && (leb at k && ltb k (at + n))) (get_or b (from + (k - at)) 0) (A m j k)
