use mathlib.Core.Path.{◌∙◌}
use mathlib.Core.Bool.{◌&&◌, true}
use Prim.Native.Nat.{ℕ}
use lib.Dec.{eqb, leb}
use lib.ListN.{drop}
use borrow.Author.Rules.{rules}
use borrow.Author.Tests.{tests}
use Rattle.std.proofs.lemmas.Iterator.{YieldsList-from_slice, YieldsList-from_zip}
use Rattle.std.proofs.lemmas.Iterator.Consumers.{YieldsList-at, fold_from_yields_List}
use Rattle.std.proofs.lemmas.List.{take_rest}
use Rattle.sound.proofs.RowLaws.{frames_by}
use Rattle.sound.proofs.rows.frames_ok.Goals as goal

pub returns : goal.returns
returns c =
    let used = c.args.used.now in
    let marks = c.args.marks.now in
    fold_from_yields_List _ (λ ok (p : ℕ × ℕ). ok && eqb p.0 p.1 && leb p.0 1) true c.fold.result c.fold.ensures.ran
    (YieldsList-from_zip (YieldsList-at c.zip.ensures.first (YieldsList-from_slice used (cc))) (YieldsList-from_slice (drop 1 marks) (cc (take_rest marks 1))))
    (λ a x b q k. search (rules, tests))
    ∙ frames_by used marks c.requires
