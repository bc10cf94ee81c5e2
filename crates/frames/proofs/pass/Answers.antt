use Rattle.std.proofs.Common.{◌≡◌, ◌+◌, arith, true, not, nat_eq}
use Rattle.std.specs.List.{between, list_all}
use borrow.Author.Tests.{not-true, eqb-false}
use Rattle.logic.proofs.Means.{less, split}
use Rattle.logic.proofs.Parts.{all_between}
use Rattle.frames.proofs.pass.Goals as goal

pub loop-a-preserved : goal.loop-a-preserved
loop-a-preserved c =
    let flags = c.args.flags.now in
    let a = c.loop-a.a in
    let used : list_all (λ flag. not (nat_eq flag 0)) (between a (a + c.args.width) flags) ≡ true = cc in
    let each = all_between (λ flag. not (nat_eq flag 0)) flags a (a + c.args.width) in
    (omega arith, omega arith, λ k l m. split (less k a) (λ p. c.loop-a.invariant.2 k l p) (λ p. eqb-false _ _ (not-true _ (each k (omega arith) used (omega arith) m))))
