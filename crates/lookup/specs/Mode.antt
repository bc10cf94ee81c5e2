-- What page lookup runs in: the tables that it only reads, and the tests that a mode of the pool may choose; and where it stands.
use Rattle.std.specs.Prelude.{ℕ, zero, suc, ◌+◌, ◌-◌, Bool, true, false, ◌&&◌, not, List, eqb}
use Rattle.node.specs.declared.Node.{Node}
use Rattle.node.specs.Node.{window_of, out_of, side_of}
use Rattle.tables.specs.Tables.{node_of}
use Rattle.notices.specs.Notices.{child_of}
use Rattle.lookup.specs.declared.Place.{Place}

-- `both n i c`: page i of node n, asked for by child c, the other child has too. `outside n i`: page i lies outside node n. `stops`: a write that
-- ends outside a hidden node stops. `tells`: where a copy is refused, an Unmap that is due goes to the asking child too
pub record Mode : Type 0 where
  pub bytes : ℕ
  pub nodes : List ℕ
  pub mappings : List ℕ
  pub both : ℕ → ℕ → ℕ → Bool
  pub outside : ℕ → ℕ → Bool
  pub stops : Bool
  pub tells : Bool

-- the node of the other child
abbrev pub other : Node → ℕ → ℕ
other n asker = child_of (side_of n asker).other

-- the source's: the other child's window has the page, 603; out_of_range, 540
abbrev pub today : ℕ → List ℕ → List ℕ → Mode
today L N M =
    record {
      bytes = L;
      nodes = N;
      mappings = M;
      both = λ n i c. window_of (node_of N (other (node_of N n) c)) i;
      outside = λ n i. out_of (node_of N n) i;
      stops = true;
      tells = false;
    }

-- a node's page, and which child asks for it (or the node itself)
abbrev pub place_of : ℕ → ℕ → ℕ → Place
place_of n i c = record { node = n; page = i; asker = c }

abbrev pub node_at : Mode → Place → Node
node_at m p = node_of m.nodes p.node

-- the parent's page, asked for by this node, 574; and so many levels up
abbrev pub up_from : Node → Place → Place
up_from n p = place_of (n.parent - 1) (n.parent_offset + p.page) p.node

abbrev pub up : Mode → Place → Place
up m p = up_from (node_at m p) p

unfoldable pub ups : Mode → ℕ → Place → Place
ups m zero p = p
ups m (suc d) p = ups m d (up m p)

abbrev pub both_at : Mode → Place → Bool
both_at m p = m.both p.node p.page p.asker

-- a write that ends here stops
abbrev pub halts_at : Mode → Place → Bool
halts_at m p = m.stops && m.outside p.node p.page

-- the parent is asked: there is one, and the page lies inside, 548
abbrev pub asks_by : Node → Bool → Bool
asks_by n outside = not (eqb n.parent 0) && not outside

unfoldable pub asks : Mode → Place → Bool
asks m p = asks_by (node_at m p) (m.outside p.node p.page)
