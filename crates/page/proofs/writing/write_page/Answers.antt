use native.Mathlib.Omega.{arith}
use Rattle.std.proofs.lemmas.Result.{err_from_is_err_and}
use Rattle.lookup.proofs.Asked.{asked_low, asked_leaf}
use Rattle.page.proofs.Laws.{block_number, block_small, rest_fits, write-none, write_refused, write_stops, write_on}
use Rattle.page.proofs.writing.write_page.Goals as goal

pub returns-in_default-clause-value : goal.returns-in_default-clause-value
returns-in_default-clause-value c = write-none _ _ _ _ _ _ _ c.in_default.ensures.steps.0

pub commit_page-requires : goal.commit_page-requires
commit_page-requires c = asked_low c.of-ask.ensures (omega (arith, block_number c.args.offset _ c.in-Some.ensures.steps c.requires.1))

pub returns-in_err-frame-clause-value : goal.returns-in_err-frame-clause-value
returns-in_err-frame-clause-value c =
    let refused = err_from_is_err_and c.from_residual.result c.from_residual.ensures.1 in
    write_refused _ _ _ _ _ _ _ c.in-Some.ensures.steps (asked_leaf c.of-ask.ensures _ _ _ c.commit_page.ensures.value) c.in_err-frame.was refused.1 refused.2

pub returns-in_default-2-clause-value : goal.returns-in_default-2-clause-value
returns-in_default-2-clause-value c =
    write_stops _ _ _ _ _ _ _ c.in-Some.ensures.steps (asked_leaf c.of-ask.ensures _ _ _ c.commit_page.ensures.value) c.in_ok-frame.was c.in_default-2.is

pub put_bytes-requires : goal.put_bytes-requires
put_bytes-requires c = block_small c.args.offset _ c.in-Some.ensures.steps c.requires.0 c.requires.1

pub returns-clause-value : goal.returns-clause-value
returns-clause-value c =
    write_on _ _ _ _ _ _ _ c.in-Some.ensures.steps (asked_leaf c.of-ask.ensures _ _ _ c.commit_page.ensures.value) c.in_ok-frame.was c.in-Some-2.is (c.put_bytes.ensures _ _ _)

pub returns-clause-fits : goal.returns-clause-fits
returns-clause-fits c = rest_fits c.args.offset _ c.in-Some.ensures.steps c.requires.0 c.requires.1
