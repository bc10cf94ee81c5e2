use mathlib.Core.Path.{◌∙◌}
use native.Mathlib.Omega.{arith}
use Rattle.lookup.proofs.Laws.{same-same}
use Rattle.page.specs.Pages.{read_page}
use Rattle.ranges.proofs.Laws.{each_end, each_stop, each_next}
use Rattle.call_read.proofs.read_range.Goals as goal

pub returns-in_err-read_page-clause-value : goal.returns-in_err-read_page-clause-value
returns-in_err-read_page-clause-value c =
    rw (← c.block_count-end.ensures) (each_stop (read_page 4096 _ _ _ _) c.loop.it _ c.read_page.ensures.value _ (omega arith) c.in_err-read_page.was
    c.from_residual.ensures.1 ∙ c.loop.invariant.3)

pub loop-preserved : goal.loop-preserved
loop-preserved c = (
  c.read_page.ensures.fits.0,
  c.read_page.ensures.fits.1,
  same-same c.loop.invariant.2 c.read_page.ensures.same,
  each_next (read_page 4096 _ _ _ _) c.loop.it _ c.read_page.ensures.value _ _ (omega arith) c.in_ok-read_page.was
      ∙ c.loop.invariant.3,
)

pub returns-clause-value : goal.returns-clause-value
returns-clause-value c =
    rw (← c.block_count-end.ensures) (each_end (read_page 4096 _ _ _ _) c.loop.it _ (omega arith) ∙ c.loop.invariant.3)
