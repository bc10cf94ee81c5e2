-- The sound pool, sentence by sentence of document 01, with what this layout of the lent tables adds. A reader checks this page against 01;
-- crate `soundness` proves that the test `sound` holds exactly if these facts do.
use Rattle.std.specs.Prelude.{◌≡◌, true, List, ◌⊎◌, ℕ, ◌+◌, ◌-◌, ◌*◌, ◌≤◌, ◌<◌, length, get_or, Option, None, Some}
use Rattle.logic.specs.Below.{sum_below}
use Rattle.entry.specs.declared.PageState.{PageState}
use Rattle.entry.specs.declared.PageStateTag.TheVariants.{Owned}
use Rattle.entry.specs.Entry.{entry_word}
use Rattle.node.specs.Node.{free_node, leaf_of}
use Rattle.tables.specs.Pool.{Pool}
use Rattle.tables.specs.Tables.{node_of, entry_of, slot_at, mapping_of, mapping_by}

abbrev pub Live : List ℕ → ℕ → Type 0
Live N n = (node_of N n).kind ≡ 0 → ⊥

abbrev pub Hidden : List ℕ → ℕ → Type 0
Hidden N n = (node_of N n).kind ≡ 3

abbrev pub Leaf : List ℕ → ℕ → Type 0
Leaf N n = leaf_of (node_of N n) ≡ true

-- node n stands as h's left or right child
abbrev pub ChildOf : List ℕ → ℕ → ℕ → Type 0
ChildOf N h n = ((node_of N h).left ≡ n + 1) ⊎ ((node_of N h).right ≡ n + 1)

-- a link to a live node that names h as its parent
pub record Names (N : List ℕ) (h link : ℕ) : Type 0 where
  pub node : ℕ
  pub linked : link ≡ node + 1
  pub live : Live N node
  pub parent : (node_of N node).parent ≡ h + 1

-- the parent chain of a link ends: it is none, or its node's parent's chain ends
pub data Ends (N : List ℕ) : ℕ → Type 0 where
  none : {link : ℕ} → link ≡ 0 → Ends N link
  up : {link : ℕ} (n : ℕ) → link ≡ n + 1 → Ends N (node_of N n).parent → Ends N link

pub record Tree (N : List ℕ) (next : ℕ) : Type 0 where
  -- each hidden node has two distinct live children that name it as parent; a leaf has none
  pub left_child : (n : ℕ) → Hidden N n → Names N n (node_of N n).left
  pub right_child : (n : ℕ) → Hidden N n → Names N n (node_of N n).right
  pub distinct : (n : ℕ) → Hidden N n → (node_of N n).left ≡ (node_of N n).right → ⊥
  pub childless : (n : ℕ) → (Hidden N n → ⊥) → ((node_of N n).left ≡ 0) × ((node_of N n).right ≡ 0)
  -- each parent is a live hidden node that names the node as a child
  pub parents : (n h : ℕ) → (node_of N n).parent ≡ h + 1 → Hidden N h × ChildOf N h n
  -- parent chains end
  pub chains : (n : ℕ) → Ends N (n + 1)
  -- the next owner number is 1 to 16,777,216 and live nodes' owners are below it
  pub next_least : 1 ≤ next
  pub next_most : next ≤ 16777216
  pub owners : (n : ℕ) → Live N n → (node_of N n).owner < next
  -- the window starts of all live nodes add up to at most 64 pages for each owner number given
  pub starts : sum_below (λ n. (node_of N n).parent_offset) 64 ≤ 64 * (next - 1)
  -- windows start not after their end and are no longer than the size; sizes are at most 64 pages and policies at most 3
  pub window : (n : ℕ) → (node_of N n).parent_offset ≤ (node_of N n).parent_limit
  pub window_size : (n : ℕ) → (node_of N n).parent_limit ≤ (node_of N n).parent_offset + (node_of N n).size
  pub sizes : (n : ℕ) → (node_of N n).size ≤ 64
  pub policies : (n : ℕ) → (node_of N n).cache_policy ≤ 3
  -- an object's pin count is at most 4,294,967,295 (and, in `Entries`, at least the sum of its entries' pins)
  pub counts : (n : ℕ) → (node_of N n).pin_count ≤ 4294967295
  -- of the layout: a kind is 0 to 3, and a free node's record is blank
  pub kinds : (n : ℕ) → (node_of N n).kind ≤ 3
  pub blank : (n : ℕ) → (node_of N n).kind ≡ 0 → node_of N n ≡ free_node

-- page i of node n holds s
abbrev pub Holds : List ℕ → ℕ → ℕ → PageState → Type 0
Holds P n i s = slot_at P n i ≡ Some s

abbrev pub pins_of : Option PageState → ℕ
pins_of None = 0
pins_of (Some s) = s.pin_count

-- frame f stands in some page entry
pub record Stands (P : List ℕ) (f : ℕ) : Type 0 where
  pub node : ℕ
  pub page : ℕ
  pub state : PageState
  pub holds : Holds P node page state
  pub frame : state.frame ≡ f

pub record Entries (N P used : List ℕ) : Type 0 where
  -- a frame stands in at most one page entry and is in use exactly if it stands in one
  pub once : (n i m j : ℕ) (s t : PageState) → Holds P n i s → Holds P m j t → s.frame ≡ t.frame → (n ≡ m) × (i ≡ j)
  pub stands : (f : ℕ) → f < length used → get_or used f 0 ≡ 1 → Stands P f
  pub in_use : (n i : ℕ) (s : PageState) → Holds P n i s → get_or used s.frame 0 ≡ 1
  -- leaf entries are Owned; entries lie below the node's size
  pub leaves : (n i : ℕ) (s : PageState) → (Hidden N n → ⊥) → Holds P n i s → s.tag ≡ Owned
  pub below : (n i : ℕ) (s : PageState) → Holds P n i s → i < (node_of N n).size
  -- pins are 0 to 31 and 0 in hidden nodes; an object's pin count is at least the sum of its entries' pins
  pub pins : (n i : ℕ) (s : PageState) → Holds P n i s → s.pin_count ≤ 31
  pub hidden_pins : (n i : ℕ) (s : PageState) → Hidden N n → Holds P n i s → s.pin_count ≡ 0
  pub pin_sum : (n : ℕ) → sum_below (λ i. pins_of (slot_at P n i)) 64 ≤ (node_of N n).pin_count
  -- of the layout: a frame's number is one of the pool's, a flag is 0 or 1, and an entry is 0 or the word of its state
  pub frames : (n i : ℕ) (s : PageState) → Holds P n i s → s.frame < length used
  pub flags : (f : ℕ) → get_or used f 0 ≤ 1
  pub empty : (n i : ℕ) → slot_at P n i ≡ None → entry_of P n i ≡ 0
  pub held : (n i : ℕ) (s : PageState) → Holds P n i s → entry_of P n i ≡ entry_word s

abbrev pub LiveAt : List ℕ → ℕ → Type 0
LiveAt M i = (mapping_of M i).number ≡ 0 → ⊥

pub record Mappings (N M : List ℕ) : Type 0 where
  -- a live mapping names a live leaf, has at least one page and ends by page 64
  pub leaf : (i : ℕ) → LiveAt M i → Leaf N (mapping_of M i).object
  pub some_page : (i : ℕ) → LiveAt M i → 1 ≤ (mapping_of M i).pages
  pub ends : (i : ℕ) → LiveAt M i → (mapping_of M i).first + (mapping_of M i).pages ≤ 64
  -- of the layout: a mapping's number is below 64 and its own; a free place is blank, and no mapping comes after it
  pub numbers : (i : ℕ) → (mapping_of M i).number ≤ 64
  pub own : (i j : ℕ) → LiveAt M i → (mapping_of M i).number ≡ (mapping_of M j).number → i ≡ j
  pub free : (i : ℕ) → (mapping_of M i).number ≡ 0 → mapping_of M i ≡ mapping_by 0 0 0 0
  pub in_order : (i : ℕ) → (mapping_of M i).number ≡ 0 → (mapping_of M (i + 1)).number ≡ 0

-- the lent tables have their lengths, and the memory holds L bytes for each of 1 to 1,024 frames
pub record Lengths (L : ℕ) (p : Pool) : Type 0 where
  pub nodes : length p.nodes ≡ 1024
  pub pages : length p.pages ≡ 4096
  pub mappings : length p.mappings ≡ 256
  pub head : length p.head ≡ 4
  pub some_frame : 1 ≤ length p.used
  pub most_frames : length p.used ≤ 1024
  pub memory : length p.memory ≡ length p.used * L

pub record Sound (L : ℕ) (p : Pool) : Type 0 where
  pub lengths : Lengths L p
  pub tree : Tree p.nodes (get_or p.head 0 0)
  pub entries : Entries p.nodes p.pages p.used
  pub mappings : Mappings p.nodes p.mappings
