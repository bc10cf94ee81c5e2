use mathlib.Core.Path.{◌∙◌, sym}
use Rattle.sound.specs.Sound.{sound}
use Rattle.sound.proofs.Laws.{lengths_hold}
use Rattle.sound.proofs.is_sound.Goals as goal

pub tables_ok-requires : goal.tables_ok-requires
tables_ok-requires c = lengths_hold 4096 _ (sym c.lengths_ok.ensures ∙ c.if-lengths_ok.true)

pub returns-then-lengths_ok : goal.returns-then-lengths_ok
unfolding sound
returns-then-lengths_ok c = rw (sym c.lengths_ok.ensures ∙ c.if-lengths_ok.true, ← c.at.ensures) c.tables_ok.ensures

pub returns : goal.returns
unfolding sound
returns c = rw (sym c.lengths_ok.ensures ∙ c.if-lengths_ok.false)
