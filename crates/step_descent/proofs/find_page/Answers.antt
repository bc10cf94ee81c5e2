use Rattle.lookup.proofs.Down.{looked_has, looked_bare, looked_tired}
use Rattle.step_descent.proofs.find_page.Goals as goal

pub returns-in-Has-clause-value : goal.returns-in-Has-clause-value
returns-in-Has-clause-value c =
    let walked = rw c.table.ensures at c.walk-walked.ensures.value c.args.tree.mappings.now in
    looked_has _ _ _ _ walked (c.walk-walked.ensures.top _) _ _ c.in-Has.is c.serve_down.ensures.value

pub returns-in-Bare-clause-value : goal.returns-in-Bare-clause-value
returns-in-Bare-clause-value c =
    let walked = rw c.table.ensures at c.walk-walked.ensures.value c.args.tree.mappings.now in
    looked_bare _ _ _ _ walked (c.walk-walked.ensures.top _) _ c.in-Bare.is c.fresh_down.ensures.value

pub returns-in-Tired-clause-value : goal.returns-in-Tired-clause-value
returns-in-Tired-clause-value c =
    let walked = rw c.table.ensures at c.walk-walked.ensures.value c.args.tree.mappings.now in
    looked_tired _ _ _ _ walked (c.walk-walked.ensures.top _) c.in-Tired.is
