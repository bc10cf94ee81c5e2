-- Notices to mappings, in pages: the list so far, with what a change of a range adds.
use Rattle.std.specs.Prelude.{ℕ, zero, suc, ◌+◌, ◌-◌, max, min, List, eqb, ltb, Option, Some, None}
use Rattle.outcome.specs.declared.notice.Notice.{Notice}
use Rattle.logic.specs.Pick.{pick}
use Rattle.node.specs.declared.Node.{Node}
use Rattle.node.specs.Node.{hidden_of}
use Rattle.tables.specs.declared.Mapping.{Mapping}
use Rattle.tables.specs.Tables.{node_of, mapping_of}
use Rattle.outcome.specs.Told.{Told, notice_by, put_notice}

-- VmMapping::range_change, vmar.rs 1015, for the pages from lo to hi: none for an empty overlap
unfoldable pub overlap_of : Mapping → ℕ → ℕ → ℕ → Option Notice
overlap_of m lo hi op =
    pick (eqb m.number 0) None
    (pick (ltb (max lo m.first) (min (m.first + m.pages) hi))
    (Some (notice_by (m.number - 1) (max lo m.first - m.first) (min (m.first + m.pages) hi - max lo m.first) op))
    None)

abbrev pub tell_due : Told → Option Notice → Told
tell_due t (Some n) = put_notice t n
tell_due t None = t

-- the mapping at place i, if it is the object's
unfoldable pub tell_place : List ℕ → Told → ℕ → ℕ → ℕ → ℕ → ℕ → Told
tell_place M t i object lo hi op =
    pick (eqb (mapping_of M i).object object) (tell_due t (overlap_of (mapping_of M i) lo hi op)) t

-- an object's mappings in list order: after k places
unfoldable pub tell_object : List ℕ → Told → ℕ → ℕ → ℕ → ℕ → ℕ → Told
tell_object M t zero object lo hi op = t
tell_object M t (suc k) object lo hi op = tell_place M (tell_object M t k object lo hi op) k object lo hi op

-- what a node's window has of the parent's pages from lo to hi
abbrev pub low_in : Node → ℕ → ℕ
low_in n lo = max n.parent_offset lo

abbrev pub high_in : Node → ℕ → ℕ
high_in n hi = min n.parent_limit hi

-- the number that a link names; no table has the number that stands for none
unfoldable pub child_of : ℕ → ℕ
child_of link = pick (eqb link 0) 4294967295 (link - 1)

-- range_change, 646: of the parent's pages from lo to hi those in the node's window, for its mappings and then for both children of a
-- hidden node, left first
unfoldable pub range_change : ℕ → List ℕ → List ℕ → ℕ → ℕ → ℕ → ℕ → Told → Told
range_change zero N M node lo hi op t = t
range_change (suc k) N M node lo hi op t =
    let n = node_of N node in
    let a = low_in n lo - n.parent_offset in
    let e = high_in n hi - n.parent_offset in
    let told = tell_object M t 64 node a e op in
    let both = range_change k N M (child_of n.right) a e op (range_change k N M (child_of n.left) a e op told) in
    let all = pick (hidden_of n) both told in
    pick (ltb (low_in n lo) (high_in n hi)) all t
