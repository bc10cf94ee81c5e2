use Rattle.std.proofs.Common.{rules, tests, arith, ◌≡◌}
use Rattle.std.proofs.lemmas.Iterator.{YieldsList-from_range}
use Rattle.std.proofs.lemmas.Iterator.Consumers.{count_from_yields_List, YieldsList-from_filter}
use Rattle.std.specs.Prelude.{not}
use lib.Dec.{eqb}
use mathlib.Core.Path.{◌∙◌}
use Rattle.tables.specs.Tables.{number_of}
use Rattle.outcome.specs.Room.{live_count}
use Rattle.outcome.proofs.Laws.{live_counted, live_most}
use Rattle.outcome.proofs.room.live_count.Goals as goal

pub returns : goal.returns
returns c =
    let live : c.count.result ≡ live_count c.args.mappings.now =
    count_from_yields_List c.filter.result _ c.count.ensures.ran
    (YieldsList-from_filter _ (λ i. not (eqb (number_of c.args.mappings.now i) 0))
    (YieldsList-from_range 0 64 64 c.filter.ensures.source (cc))
    c.filter.ensures.closure (λ x r q k. search (rules, tests)))
    ∙ live_counted c.args.mappings.now in
    let most = live_most c.args.mappings.now in
    record { value = live; small = omega arith }
