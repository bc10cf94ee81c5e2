use mathlib.Core.Path.{◌≡◌, ap, ◌∙◌}
use mathlib.Core.List.{List}
use Prim.Native.Nat.{ℕ}
use native.Mathlib.Omega.{arith}
use lib.ListN.{length}
use Rattle.logic.specs.Below.{all_below}
use Rattle.sound.specs.Tree.{none_at, chains_end, steps_up}
use Rattle.sound.proofs.TreeLaws.{ended, none_left, steps_next, steps_length}
use Rattle.sound.proofs.tree.chains_end.Goals as goal

pub loop-init : goal.loop-init
unfolding steps_up
loop-init c = c.parents-up.ensures

pub loop-preserved : goal.loop-preserved
loop-preserved c = steps_next _ _ _ c.loop.invariant c.step_up-up.ensures

pub returns-then-eq : goal.returns-then-eq
returns-then-eq c =
    let long : length c.loop.up ≡ 65 = ap length c.loop.invariant ∙ steps_length c.args.nodes.now c.loop.counter in
    ended _ c.loop.counter (omega arith) (c.eq.ensures ∙ none_left c.loop.up long ∙ ap (λ (up : List ℕ). all_below (none_at up) 65) c.loop.invariant) c.if-eq.true

pub returns : goal.returns
unfolding chains_end
returns c =
    let long : length c.loop.up ≡ 65 = ap length c.loop.invariant ∙ steps_length c.args.nodes.now c.loop.counter in
    let e : c.loop.counter ≡ 6 = omega arith in
    c.eq-2.ensures ∙ none_left c.loop.up long ∙ ap (λ (up : List ℕ). all_below (none_at up) 65) (rw e at c.loop.invariant)
