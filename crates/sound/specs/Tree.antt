-- The test of the node records, as the code runs it. What it means is in Facts.
use Rattle.std.specs.Prelude.{ℕ, zero, suc, ◌+◌, ◌-◌, ◌*◌, Bool, ◌&&◌, ◌||◌, not, List, eqb, leb, ltb, get_or, set, replicate}
use Rattle.logic.specs.Pick.{pick}
use Rattle.logic.specs.Below.{all_below, sum_below}
use Rattle.node.specs.declared.Node.{Node}
use Rattle.tables.specs.Tables.{word_of, node_of}

-- the nine words after a free node's kind
abbrev pub blank_node : Node → Bool
blank_node n =
    eqb n.parent 0 && eqb n.left 0 && eqb n.right 0 && eqb n.parent_offset 0 && eqb n.parent_limit 0
    && eqb n.size 0 && eqb n.owner 0 && eqb n.cache_policy 0 && eqb n.pin_count 0

-- a pin count is a word, so that its test always holds of lent tables, and the code needs none
unfoldable pub numbers_ok : Node → ℕ → Bool
numbers_ok n next =
    leb n.kind 3 && (not (eqb n.kind 0) || blank_node n) && leb n.parent_offset n.parent_limit
    && leb n.parent_limit (n.parent_offset + n.size) && leb n.size 64 && ltb n.owner next
    && leb n.cache_policy 3 && leb n.pin_count 4294967295

-- word k of the node that a link names
unfoldable pub linked_of : List ℕ → ℕ → ℕ → ℕ
linked_of nodes link k = pick (eqb link 0) 0 (word_of nodes (link - 1) k)

-- two distinct children that name the node as parent
unfoldable pub named_ok : List ℕ → ℕ → Node → Bool
named_ok nodes i n =
    eqb (linked_of nodes n.left 1) (i + 1) && eqb (linked_of nodes n.right 1) (i + 1) && not (eqb n.left n.right)

-- a hidden parent that names the node as a child
unfoldable pub below_ok : List ℕ → ℕ → Node → Bool
below_ok nodes i n =
    eqb (linked_of nodes n.parent 0) 3
    && (eqb (linked_of nodes n.parent 2) (i + 1) || eqb (linked_of nodes n.parent 3) (i + 1))

unfoldable pub links_ok : List ℕ → ℕ → Node → Bool
links_ok nodes i n =
    (eqb n.kind 3 && named_ok nodes i n || not (eqb n.kind 3) && (eqb n.left 0 && eqb n.right 0))
    && (eqb n.parent 0 || below_ok nodes i n)

unfoldable pub node_ok : List ℕ → ℕ → ℕ → Bool
node_ok nodes next i = numbers_ok (node_of nodes i) next && links_ok nodes i (node_of nodes i)

unfoldable pub nodes_ok : List ℕ → ℕ → Bool
nodes_ok nodes next = all_below (node_ok nodes next) 64

-- place l holds the link to the parent of the node that link l names: after k nodes
unfoldable pub links_to : List ℕ → ℕ → List ℕ
links_to nodes zero = replicate 65 0
links_to nodes (suc k) = set (links_to nodes k) (k + 1) (word_of nodes k 1)

-- each link's parent's parent: after k places
unfoldable pub step_to : List ℕ → ℕ → List ℕ
step_to up zero = replicate 65 0
step_to up (suc k) = set (step_to up k) k (get_or up (get_or up k 0) 0)

-- r times, so that place l holds link l's 2^r-th parent
unfoldable pub steps_up : ℕ → List ℕ → List ℕ
steps_up zero up = up
steps_up (suc r) up = step_to (steps_up r up) 65

abbrev pub none_at : List ℕ → ℕ → Bool
none_at up l = eqb (get_or up l 0) 0

-- no node has a 64th parent
unfoldable pub chains_end : List ℕ → Bool
chains_end nodes = all_below (none_at (steps_up 6 (links_to nodes 64))) 65

unfoldable pub start_of : List ℕ → ℕ → ℕ
start_of nodes i = word_of nodes i 4

unfoldable pub starts_sum : List ℕ → ℕ
starts_sum nodes = sum_below (start_of nodes) 64

-- 64 pages for each owner number given
unfoldable pub starts_ok : List ℕ → ℕ → Bool
starts_ok nodes next = leb (starts_sum nodes + 64) (64 * next)
