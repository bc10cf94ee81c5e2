use native.Mathlib.Omega.{arith}
use Rattle.lookup.proofs.Down.{lands, brings}
use Rattle.step_descent.proofs.fresh_down.Goals as goal

pub returns-then-walked-is_hidden-clause-value : goal.returns-then-walked-is_hidden-clause-value
returns-then-walked-is_hidden-clause-value c =
    lands _ _ _ _ _ _ _ (c.requires.3 _) c.node_at-own.ensures c.node_at-n.ensures c.out_of_range-halts.ensures
    (c.requires.4 _) c.is_hidden.ensures c.if-walked-is_hidden.true (c.make_fresh.ensures.value _)

pub come_down-requires : goal.come_down-requires
come_down-requires c =
    let given = c.requires in
    omega arith

pub returns-clause-value : goal.returns-clause-value
returns-clause-value c =
    brings _ _ _ _ _ _ _ (c.requires.3 _) c.node_at-own.ensures c.node_at-n.ensures c.out_of_range-halts.ensures
    c.is_hidden-2.ensures (c.make_fresh-found.ensures.value _) c.come_down.ensures.value
