-- Records read from the lent tables and written there.
use Rattle.std.specs.Prelude.{ℕ, ◌+◌, ◌-◌, ◌*◌, Bool, List, eqb, leb, ltb, length, get_or, set, Option}
use Rattle.logic.specs.Pick.{pick}
use Rattle.logic.specs.Below.{first_from, copied, zeroed}
use Rattle.entry.specs.declared.PageState.{PageState}
use Rattle.entry.specs.Entry.{slot_of, entry_word}
use Rattle.node.specs.declared.Node.{Node}
use Rattle.node.specs.Node.{node_by, free_node}
use Rattle.tables.specs.declared.Mapping.{Mapping}

-- word k of a node's record
unfoldable pub word_of : List ℕ → ℕ → ℕ → ℕ
word_of nodes n k = get_or nodes (n * 16 + k) 0

unfoldable pub with_word : List ℕ → ℕ → ℕ → ℕ → List ℕ
with_word nodes n k v = set nodes (n * 16 + k) v

unfoldable pub record_of : List ℕ → ℕ → Node
record_of nodes n =
    node_by (word_of nodes n 0) (word_of nodes n 1) (word_of nodes n 2) (word_of nodes n 3) (word_of nodes n 4)
    (word_of nodes n 5) (word_of nodes n 6) (word_of nodes n 7) (word_of nodes n 8) (word_of nodes n 9)

-- a record that doesn't lie whole in the table is free
unfoldable pub node_of : List ℕ → ℕ → Node
node_of nodes n = pick (leb (n * 16 + 16) (length nodes)) (record_of nodes n) free_node

-- five words of a record, from word k on; the record's ten
unfoldable pub with_five : List ℕ → ℕ → ℕ → ℕ → ℕ → ℕ → ℕ → ℕ → List ℕ
with_five nodes n k a b c d e =
    with_word (with_word (with_word (with_word (with_word nodes n k a) n (k + 1) b) n (k + 2) c) n (k + 3) d) n (k + 4) e

unfoldable pub with_node : List ℕ → ℕ → Node → List ℕ
with_node nodes n r =
    with_five (with_five nodes n 0 r.kind r.parent r.left r.right r.parent_offset)
    n 5 r.parent_limit r.size r.owner r.cache_policy r.pin_count

-- the entry of a node's page; a page past the last is absent
unfoldable pub entry_of : List ℕ → ℕ → ℕ → ℕ
entry_of pages n i = pick (ltb i 64) (get_or pages (n * 64 + i) 0) 0

unfoldable pub slot_at : List ℕ → ℕ → ℕ → Option PageState
slot_at pages n i = slot_of (entry_of pages n i)

unfoldable pub with_entry : List ℕ → ℕ → ℕ → ℕ → List ℕ
with_entry pages n i e = pick (ltb i 64) (set pages (n * 64 + i) e) pages

unfoldable pub with_state : List ℕ → ℕ → ℕ → PageState → List ℕ
with_state pages n i s = with_entry pages n i (entry_word s)

unfoldable pub without_state : List ℕ → ℕ → ℕ → List ℕ
without_state pages n i = with_entry pages n i 0

-- a node's row of entries goes to another node, 805
unfoldable pub row_moved : List ℕ → ℕ → ℕ → List ℕ
row_moved P from to = zeroed (copied P (to * 64) P (from * 64) 64) (from * 64) 64

abbrev pub mapping_by : ℕ → ℕ → ℕ → ℕ → Mapping
mapping_by n o f p = record { number = n; object = o; first = f; pages = p }

unfoldable pub mapping_of : List ℕ → ℕ → Mapping
mapping_of mappings i =
    pick (leb (i * 4 + 4) (length mappings))
    (mapping_by (get_or mappings (i * 4) 0) (get_or mappings (i * 4 + 1) 0) (get_or mappings (i * 4 + 2) 0) (get_or mappings (i * 4 + 3) 0))
    (mapping_by 0 0 0 0)

unfoldable pub number_of : List ℕ → ℕ → ℕ
number_of mappings i = (mapping_of mappings i).number

unfoldable pub is_free : List ℕ → ℕ → Bool
is_free nodes n = eqb (word_of nodes n 0) 0

-- the lowest free node
unfoldable pub free_node_in : List ℕ → Option ℕ
free_node_in nodes = first_from (is_free nodes) 0 64

-- the lowest free node from k on
unfoldable pub free_node_from : List ℕ → ℕ → Option ℕ
free_node_from nodes k = first_from (is_free nodes) k (64 - k)
