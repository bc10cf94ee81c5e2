use mathlib.Core.Path.{◌≡◌}
use Rattle.sound.specs.Tree.{links_to, steps_up}
use Rattle.sound.proofs.tree.chains_end.Given as goal

abbrev pub invariant-loop : goal.invariant-loop
invariant-loop l = l.up ≡ steps_up l.counter (links_to l.nodes 64)
