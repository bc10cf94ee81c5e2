use Rattle.std.proofs.Common.{rules, tests}
use Rattle.logic.proofs.Ranges.{found_in}
use Rattle.tables.specs.Tables.{free_node_from, is_free, word_of}
use Rattle.tables.proofs.free_node_from.Goals as goal

pub returns : goal.returns
unfolding free_node_from is_free word_of
returns c = let found = found_in (is_free c.args.nodes.now) _ _ _ _ c.find.ensures.ran (λ x b q k. search (rules, tests)) in cc
