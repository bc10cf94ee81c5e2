use mathlib.Core.Path.{refl, ◌∙◌}
use native.Mathlib.Omega.{arith}
use Rattle.lookup.proofs.Laws.{same-same}
use Rattle.page.specs.Pages.{commit_one}
use Rattle.ranges.specs.Ranges.{commit_range}
use Rattle.ranges.proofs.Laws.{each_end, each_stop, each_next}
use Rattle.call_commit.proofs.commit_range.Goals as goal

pub returns-in_err-commit_one-clause-value : goal.returns-in_err-commit_one-clause-value
unfolding commit_range
returns-in_err-commit_one-clause-value c = (
  _,
  each_stop (commit_one 4096 _ _ _) c.loop-page.page _ c.commit_one.ensures.value _ (omega arith) c.in_err-commit_one.was c.from_residual.ensures.1
      ∙ c.loop-page.invariant.2,
)

pub loop-page-preserved : goal.loop-page-preserved
loop-page-preserved c =
    let stepped = rw c.in_ok-commit_one.was at c.commit_one.ensures.value in (
      same-same c.loop-page.invariant.0 c.commit_one.ensures.store,
      c.commit_one.ensures.list ∙ c.loop-page.invariant.1,
      each_next (commit_one 4096 _ _ _) c.loop-page.page _ stepped _ _ (omega arith) refl ∙ c.loop-page.invariant.2,
    )

pub returns-clause-value : goal.returns-clause-value
unfolding commit_range
returns-clause-value c =
    (_, each_end (commit_one 4096 _ _ _) c.loop-page.page _ (omega arith) ∙ c.loop-page.invariant.2)
