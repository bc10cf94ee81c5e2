use Rattle.sound.specs.Sound.{tables_ok}
use Rattle.sound.proofs.tables_ok.Goals as goal

pub returns : goal.returns
unfolding tables_ok
returns c = rw (← c.rows_ok-entries.ensures.0, ← c.rows_ok-entries.ensures.1, ← c.frames_ok-frames.ensures, ← c.nodes_ok.ensures, ← c.chains_end.ensures, ← c.starts_ok.ensures, ← c.mappings_ok.ensures, ← c.head_ok.ensures)
