use borrow.Author.Tests.{le-leb, lt-leb}
use Rattle.sound.specs.Sound.{lengths_ok}
use Rattle.sound.proofs.lengths_ok.Goals as goal

pub returns-then-frames-le1024 : goal.returns-then-frames-le1024
unfolding lengths_ok
returns-then-frames-le1024 c = simp (le-leb _ _ c.if-frames-le1024.true)

pub returns : goal.returns
unfolding lengths_ok
returns c = simp (lt-leb _ _ c.if-frames-le1024.false)
