-- Needs computed on small tables: a guard against a wrong rule. Assumes nothing.
use mathlib.Core.Path.{◌≡◌, refl}
use mathlib.Core.List.{List, [], ◌∷◌}
use Prim.Native.Nat.{ℕ}
use Rattle.node.specs.Node.{out_of, side_of}
use Rattle.entry.specs.Entry.{tag_of, state_of, slot_of}
use Rattle.tables.specs.Tables.{word_of, record_of, node_of, entry_of, slot_at}
use Rattle.notices.specs.Notices.{child_of}
use Rattle.lookup.specs.Mode.{asks}
use Rattle.lookup.specs.Descent.{walk}
use Rattle.lookups.specs.Need.{due_of, price_of, need_in, need}

-- node 0 is hidden, of two pages, over object 1, which sees both, and object 2, which sees the second as its first
pub nodes : List ℕ
nodes =
    3 ∷ 0 ∷ 2 ∷ 3 ∷ 0 ∷ 0 ∷ 2 ∷ 1 ∷ 0 ∷ 0 ∷ 0 ∷ 0 ∷ 0 ∷ 0 ∷ 0 ∷ 0
    ∷ 1 ∷ 1 ∷ 0 ∷ 0 ∷ 0 ∷ 2 ∷ 2 ∷ 1 ∷ 0 ∷ 0 ∷ 0 ∷ 0 ∷ 0 ∷ 0 ∷ 0 ∷ 0
    ∷ 2 ∷ 1 ∷ 0 ∷ 0 ∷ 1 ∷ 2 ∷ 1 ∷ 2 ∷ 0 ∷ 0 ∷ 0 ∷ 0 ∷ 0 ∷ 0 ∷ 0 ∷ 0 ∷ []

-- nothing is above: a cleared frame
fresh : need nodes [] 1 1 ≡ 1
unfolding nodes need_in price_of due_of walk asks node_of record_of word_of slot_at slot_of state_of tag_of entry_of out_of side_of child_of
fresh = refl

-- both see the page: a copy
copied : need nodes (1 ∷ 2 ∷ []) 1 1 ≡ 1
unfolding nodes need_in price_of due_of walk asks node_of record_of word_of slot_at slot_of state_of tag_of entry_of out_of side_of child_of
copied = refl

-- object 2 doesn't see it: the frame itself
moved : need nodes (1 ∷ 2 ∷ []) 1 0 ≡ 0
unfolding nodes need_in price_of due_of walk asks node_of record_of word_of slot_at slot_of state_of tag_of entry_of out_of side_of child_of
moved = refl

-- object 1 has its copy already: the frame itself
left_over : need nodes (1 ∷ 4098 ∷ []) 2 0 ≡ 0
unfolding nodes need_in price_of due_of walk asks node_of record_of word_of slot_at slot_of state_of tag_of entry_of out_of side_of child_of
left_over = refl
