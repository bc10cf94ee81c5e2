use Rattle.std.proofs.Common.{◌∙◌, nat_eq, rules, tests}
use Rattle.std.proofs.lemmas.Iterator.{YieldsList-from_slice}
use Rattle.std.proofs.lemmas.Iterator.Search.{position_from_yields_List}
use Rattle.frames.proofs.Flags.{answers_none, answers_some}
use Rattle.frames.proofs.free_frame.Goals as goal

pub returns-in_err-free-clause-value : goal.returns-in_err-free-clause-value
returns-in_err-free-clause-value c =
    let e = position_from_yields_List (λ flag. nat_eq flag 0) _ _ c.position.result c.position.ensures.ran (YieldsList-from_slice _ c.iter.ensures.rest) (λ x b q k. search (rules, tests)) in
    c.from_residual.ensures ∙ answers_none _ _ _ c.frames_in-flags.ensures.value c.pass-part.ensures.1 c.pass-block.ensures.2 c.pass-part.ensures.2 e c.in_err-free.was

pub returns-clause-value : goal.returns-clause-value
returns-clause-value c =
    let e = position_from_yields_List (λ flag. nat_eq flag 0) _ _ c.position.result c.position.ensures.ran (YieldsList-from_slice _ c.iter.ensures.rest) (λ x b q k. search (rules, tests)) in
    answers_some _ _ _ c.frames_in-flags.ensures.value c.pass-part.ensures.1 c.pass-block.ensures.2 c.pass-part.ensures.2 e _ c.in_ok-free.was
