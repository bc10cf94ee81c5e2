use native.Mathlib.Omega.{arith}
use Rattle.std.proofs.lemmas.Result.{err_from_is_err_and}
use Rattle.page.proofs.Laws.{block_number, block_small, rest_fits, read_none, read_refused, read_on}
use Rattle.page.proofs.reading.read_page.Goals as goal

pub returns-in_default-clause-value : goal.returns-in_default-clause-value
returns-in_default-clause-value c = read_none _ _ _ _ _ _ _ _ _ c.in_default.ensures.steps.0

pub find_read-requires : goal.find_read-requires
find_read-requires c = omega (arith, block_number c.args.offset _ c.in-Some.ensures.steps c.requires.1)

pub returns-in_err-frame-clause-value : goal.returns-in_err-frame-clause-value
returns-in_err-frame-clause-value c =
    let refused = err_from_is_err_and c.from_residual.result c.from_residual.ensures.1 in
    read_refused _ _ _ _ _ _ _ _ _ c.in-Some.ensures.steps c.find_read.ensures.value c.in_err-frame.was refused.1 refused.2

pub fetch-requires : goal.fetch-requires
fetch-requires c = block_small c.args.offset _ c.in-Some.ensures.steps c.requires.0 c.requires.1

pub returns-clause-value : goal.returns-clause-value
returns-clause-value c =
    read_on _ _ _ _ _ _ _ _ _ c.in-Some.ensures.steps c.find_read.ensures.value c.in_ok-frame.was c.bytes.ensures c.fetch.ensures

pub returns-clause-fits : goal.returns-clause-fits
returns-clause-fits c = rest_fits c.args.offset _ c.in-Some.ensures.steps c.requires.0 c.requires.1
