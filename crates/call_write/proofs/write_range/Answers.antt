use mathlib.Core.Path.{◌∙◌}
use native.Mathlib.Omega.{arith}
use Rattle.lookup.proofs.Laws.{same-same}
use Rattle.page.specs.Pages.{write_page}
use Rattle.ranges.proofs.Laws.{each_end, each_stop, each_next}
use Rattle.call_write.proofs.write_range.Goals as goal

pub returns-in_err-write_page-clause-value : goal.returns-in_err-write_page-clause-value
returns-in_err-write_page-clause-value c =
    rw (← c.block_count-end.ensures) (each_stop (write_page 4096 _ _ _ _ _) c.loop.it _ c.write_page.ensures.value _ (omega arith) c.in_err-write_page.was
    c.from_residual.ensures.1 ∙ c.loop.invariant.4)

pub loop-preserved : goal.loop-preserved
loop-preserved c = (
  c.write_page.ensures.fits.0,
  c.write_page.ensures.fits.1,
  same-same c.loop.invariant.2 c.write_page.ensures.store,
  c.write_page.ensures.list ∙ c.loop.invariant.3,
  each_next (write_page 4096 _ _ _ _ _) c.loop.it _ c.write_page.ensures.value _ _ (omega arith) c.in_ok-write_page.was
      ∙ c.loop.invariant.4,
)

pub returns-clause-value : goal.returns-clause-value
returns-clause-value c =
    rw (← c.block_count-end.ensures) (each_end (write_page 4096 _ _ _ _ _) c.loop.it _ (omega arith) ∙ c.loop.invariant.4)
