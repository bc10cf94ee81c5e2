use Rattle.std.proofs.Common.{◌≡◌, arith, length, sym, ◌∙◌}
use Rattle.std.proofs.lemmas.List.{take_all}
use Rattle.logic.proofs.Means.{less, split}
use Rattle.frames.proofs.frames_in.Goals as goal

pub returns-clause-value : goal.returns-clause-value
returns-clause-value c =
    let used = c.args.used.now in
    split (less 1024 (length used)) (λ p. let e : c.min.result ≡ 1024 = omega arith in rw e)
    (λ p. take_all c.min.result used (omega arith) ∙ sym (take_all 1024 used (omega arith)))
