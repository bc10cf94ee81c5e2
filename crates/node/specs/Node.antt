-- What a node's record says of itself (paged.rs 18 to 99 and 538 to 544).
use Rattle.std.specs.Prelude.{ℕ, ◌+◌, ◌*◌, min, Bool, ◌&&◌, ◌||◌, not, eqb, leb, ltb}
use Rattle.logic.specs.Pick.{pick}
use Rattle.entry.specs.declared.PageStateTag.{PageStateTag}
use Rattle.entry.specs.declared.PageStateTag.TheVariants.{Owned, LeftSplit, RightSplit}
use Rattle.node.specs.declared.Node.{Node}
use Rattle.node.specs.declared.Side.{Side}

-- the last owner number that is given, 1083
abbrev pub last_owner : ℕ
last_owner = 16777215

-- no object has so many bytes: its size is a number of 32 bits, in pages of 4,096
abbrev pub byte_limit : ℕ
byte_limit = 17592186044416

-- a record by its ten words, in the order of the table
abbrev pub node_by : ℕ → ℕ → ℕ → ℕ → ℕ → ℕ → ℕ → ℕ → ℕ → ℕ → Node
node_by k p l r s e z o c n =
    record {
      kind = k;
      parent = p;
      left = l;
      right = r;
      parent_offset = s;
      parent_limit = e;
      size = z;
      owner = o;
      cache_policy = c;
      pin_count = n;
    }

abbrev pub free_node : Node
free_node = node_by 0 0 0 0 0 0 0 0 0 0

-- new, 163: an origin of so many pages
abbrev pub origin_node : ℕ → ℕ → Node
origin_node pages owner = node_by 1 0 0 0 0 0 pages owner 0 0

-- is_hidden, 55
abbrev pub hidden_of : Node → Bool
hidden_of n = eqb n.kind 3

-- a live leaf
abbrev pub leaf_of : Node → Bool
leaf_of n = eqb n.kind 1 || eqb n.kind 2

-- the policy is Cached, 227 and 237
unfoldable pub cached_of : Node → Bool
cached_of n = eqb n.cache_policy 0

-- the byte range lies inside, for pages of L bytes
unfoldable pub contains_of : ℕ → Node → ℕ → ℕ → Bool
contains_of L n offset len = leb (offset + len) (n.size * L)

-- the parent's page lies in the window, 603
abbrev pub window_of : Node → ℕ → Bool
window_of n page = leb n.parent_offset page && ltb page n.parent_limit

-- out_of_range, 540
unfoldable pub out_of : Node → ℕ → Bool
out_of n page =
    pick (hidden_of n || eqb n.parent 0)
    (leb n.size page)
    (leb n.parent_limit (n.parent_offset + page))

abbrev pub side_by : PageStateTag → ℕ → Side
side_by t o = record { tag = t; other = o }

-- get_tag_and_other, 40
unfoldable pub side_of : Node → ℕ → Side
side_of n child =
    pick (hidden_of n && eqb n.left (child + 1)) (side_by LeftSplit n.right)
    (pick (hidden_of n && eqb n.right (child + 1)) (side_by RightSplit n.left) (side_by Owned 0))

-- the child: a snapshot of so many pages from `first` on, 776
abbrev pub snapshot_node : ℕ → ℕ → ℕ → ℕ → ℕ → Node
snapshot_node hidden first pages size owner = node_by 2 (hidden + 1) 0 0 first (min (first + pages) size) pages owner 0 0

-- the hidden node that takes the object's place, its pages and its window, 794
abbrev pub hidden_node : Node → ℕ → ℕ → Node
hidden_node n left right =
    node_by 3 n.parent (left + 1) (right + 1) n.parent_offset n.parent_limit n.size n.owner 0 n.pin_count

-- the object below it, with a window over all of it, 826
abbrev pub below_node : Node → ℕ → Node
below_node n hidden =
    node_by n.kind (hidden + 1) n.left n.right 0 n.size n.size n.owner n.cache_policy n.pin_count

-- the parent's link to the old child becomes one to the new, 814
abbrev pub relinked_node : Node → ℕ → ℕ → Node
relinked_node n old new =
    node_by n.kind n.parent (pick (eqb n.left (old + 1)) (new + 1) n.left)
    (pick (not (eqb n.left (old + 1)) && eqb n.right (old + 1)) (new + 1) n.right) n.parent_offset n.parent_limit
    n.size n.owner n.cache_policy n.pin_count
