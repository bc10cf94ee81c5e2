-- create_child, 324 and 761, on a pool of pages of L bytes, refused ones too. Offset and length are bytes; the tables count pages.
use Rattle.std.specs.Prelude.{ℕ, ◌+◌, ◌-◌, ◌*◌, ◌/◌, ◌&&◌, List, [], eqb, leb, get_or, set, Option, Some, None, Result, Ok, Err}
use Rattle.logic.specs.Pick.{pick}
use Rattle.blocks.specs.Blocks.{aligned_of}
use Rattle.node.specs.declared.Node.{Node}
use Rattle.node.specs.Node.{last_owner, cached_of, contains_of, snapshot_node, hidden_node, below_node, relinked_node}
use Rattle.outcome.specs.declared.answer.Refusal.{Refusal}
use Rattle.outcome.specs.declared.answer.Refusal as R
use Rattle.outcome.specs.Answers.{unless, Answer, Checked}
use Rattle.outcome.specs.Told.{remove_write, told_of}
use Rattle.outcome.specs.Room.{room_of}
use Rattle.outcome.specs.Outcome.{Outcome, outcome_of, refused}
use Rattle.tables.specs.Pool.{Pool, pool_of}
use Rattle.tables.specs.Tables.{node_of, with_node, row_moved, free_node_in, free_node_from}
use Rattle.notices.specs.Notices.{tell_object}
use Rattle.pool.specs.Calls.{on_object}
use Rattle.child.specs.declared.birth.Birth.{Birth}

abbrev pub birth_by : ℕ → ℕ → ℕ → ℕ → ℕ → Birth
birth_by n c h f k = record { node = n; child = c; hidden = h; first = f; pages = k }

-- a parent's record relinked in the table, where there is one, 814
unfoldable pub relinked : List ℕ → ℕ → ℕ → ℕ → List ℕ
relinked N parent old new =
    pick (eqb parent 0) N (with_node N (parent - 1) (relinked_node (node_of N (parent - 1)) old new))

-- the nodes after the four records are written: child, hidden node, its parent, the object
unfoldable pub born_nodes : List ℕ → Birth → ℕ → List ℕ
born_nodes N b owner =
    let n = node_of N b.node in
    with_node
    (relinked
    (with_node (with_node N b.child (snapshot_node b.hidden b.first b.pages n.size owner)) b.hidden (hidden_node n b.node b.child))
    n.parent b.node b.hidden)
    b.node (below_node n b.hidden)

-- the child born: nodes, rows, the next owner number; RemoveWrite to the object's mappings over the child's range, 831
unfoldable pub born : Pool → List ℕ → Birth → Outcome Answer
born p list b =
    outcome_of (Ok b.child)
    (pool_of (born_nodes p.nodes b (get_or p.head 0 0)) (row_moved p.pages b.node b.hidden) p.used p.mappings
    (set p.head 0 (get_or p.head 0 0 + 1)) p.memory)
    (tell_object p.mappings (told_of list 0) 64 b.node b.first (b.first + b.pages) remove_write) 0 0 []

-- INVALID_ARGS: unaligned, or more than 64 pages asked; BAD_STATE: not Cached, or pinned, 772; OUT_OF_RANGE
unfoldable pub against_child : ℕ → Node → ℕ → ℕ → Checked
against_child L n offset len =
    pick (aligned_of L offset && aligned_of L len && leb len (64 * L))
    (pick (cached_of n && eqb n.pin_count 0)
    (pick (contains_of L n offset len) (Ok tt) (Err R.TheVariants.OutOfRange))
    (Err R.TheVariants.BadState))
    (Err R.TheVariants.InvalidArgs)

-- NO_NODE: fewer than two free nodes, the lowest for the child and the next for the hidden node, or no owner number left; NO_ROOM
unfoldable pub with_both : Pool → List ℕ → ℕ → ℕ → ℕ → ℕ → Option ℕ → Outcome Answer
with_both p list n first pages child (Some hidden) =
    pick (room_of p.mappings list 1) (born p list (birth_by n child hidden first pages)) (refused p list [] R.TheVariants.NoRoom)
with_both p list n first pages child None = refused p list [] R.TheVariants.NoNode

unfoldable pub with_child : Pool → List ℕ → ℕ → ℕ → ℕ → Option ℕ → Outcome Answer
with_child p list n first pages (Some child) = with_both p list n first pages child (free_node_from p.nodes (child + 1))
with_child p list n first pages None = refused p list [] R.TheVariants.NoNode

unfoldable pub number_child : Pool → List ℕ → ℕ → ℕ → ℕ → Outcome Answer
number_child p list n first pages =
    pick (leb (get_or p.head 0 0) last_owner) (with_child p list n first pages (free_node_in p.nodes)) (refused p list [] R.TheVariants.NoNode)

unfoldable pub child_at : ℕ → Pool → List ℕ → ℕ → ℕ → ℕ → Outcome Answer
child_at L p list n offset len =
    unless (against_child L (node_of p.nodes n) offset len) (refused p list []) (number_child p list n (offset / L) (len / L))

abbrev pub create_child : ℕ → Pool → List ℕ → ℕ → ℕ → ℕ → Outcome Answer
create_child L p list object offset len = on_object L p object (refused p list []) (λ n. child_at L p list n offset len)

-- where the tests find what a birth takes, the child is born
abbrev pub born_of : Pool → List ℕ → Result Birth Refusal → Outcome Answer
born_of p list (Ok b) = born p list b
born_of p list (Err r) = refused p list [] r
