use mathlib.Core.Path.{◌≡◌, ◌∙◌}
use Prim.Native.Nat.{ℕ, ◌≤◌, ◌*◌, ◌+◌}
use native.Mathlib.Omega.{arith}
use borrow.Author.Rules.{rules}
use borrow.Author.Tests.{tests}
use mathlib.Core.List.{List}
use lib.ListN.{get_or}
use mir.Syntax.{w32}
use mir.Val.{Fits}
use Rattle.std.specs.List.{range_with_len}
use Rattle.std.proofs.lemmas.Iterator.{YieldsList-from_range, YieldsList-from_map}
use Rattle.std.proofs.lemmas.Iterator.Consumers.{YieldsList-at, sum_by_from_yields_List, fits_by_from_yields_list}
use Rattle.logic.specs.Below.{sum_below}
use Rattle.tables.specs.Tables.{word_of}
use Rattle.sound.specs.Tree.{start_of, starts_sum}
use Rattle.logic.proofs.Lists.{sum_ranged, sum_most}
use Rattle.sound.proofs.tree.starts.Goals as goal

-- words are below 2 ^ 32
most : (nodes : List ℕ) → ((i : ℕ) → Fits w32 (get_or nodes i 0)) → sum_below (start_of nodes) 64 ≤ 274877906880
unfolding start_of word_of
most nodes fits = sum_most (start_of nodes) 4294967295 64 (λ i. omega (arith, fits (i * 16 + 4)))

pub sum-requires-clause-fits : goal.sum-requires-clause-fits
unfolding start_of
sum-requires-clause-fits c =
    let f = start_of c.args.nodes.now in
    let b = most c.args.nodes.now c.type_inv.nodes in
    let s = sum_ranged f 64 in
    fits_by_from_yields_list f (range_with_len 0 64) c.map.result _
    (YieldsList-from_map _ f (YieldsList-at c.map.ensures.source (YieldsList-from_range 0 64 64 (cc) (cc))) c.map.ensures.closure (λ x r q k. search (rules, tests)))
    (omega arith)

pub returns : goal.returns
unfolding starts_sum start_of
returns c =
    let f = start_of c.args.nodes.now in
    let v : c.sum.result ≡ sum_below f 64 =
    sum_by_from_yields_List f (range_with_len 0 64) c.map.result c.sum.result c.sum.ensures.ran
    (YieldsList-from_map _ f (YieldsList-at c.map.ensures.source (YieldsList-from_range 0 64 64 (cc) (cc))) c.map.ensures.closure (λ x r q k. search (rules, tests)))
    ∙ sum_ranged f 64 in
    let b = most c.args.nodes.now c.type_inv.nodes in
    record { value = v; small = omega arith }
