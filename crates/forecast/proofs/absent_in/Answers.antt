use Rattle.std.specs.Option.{is_none}
use Rattle.std.proofs.Common.{rules, tests, arith, ◌≡◌, ◌+◌, ◌-◌}
use Rattle.std.proofs.lemmas.Iterator.{YieldsList-from_range}
use Rattle.std.proofs.lemmas.Iterator.Consumers.{count_from_yields_List, YieldsList-from_filter}
use mathlib.Core.Path.{◌∙◌}
use Rattle.tables.specs.Tables.{slot_at}
use Rattle.forecast.proofs.Laws.{counted}
use Rattle.forecast.proofs.absent_in.Goals as goal

pub returns : goal.returns
returns c =
    let pages = c.args.pages.now in
    let first = c.args.first in
    let e : first + c.args.count - first ≡ c.args.count = omega arith in
    count_from_yields_List c.filter.result _ c.count.ensures.ran
    (YieldsList-from_filter _ (λ i. is_none (slot_at pages c.args.node i))
    (YieldsList-from_range first (first + c.args.count) c.args.count c.filter.ensures.source e)
    c.filter.ensures.closure (λ x r q k. search (rules, tests)))
    ∙ counted pages c.args.node first c.args.count
