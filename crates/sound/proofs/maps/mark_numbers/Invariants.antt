use mathlib.Core.Path.{◌≡◌}
use Rattle.tables.specs.Tables.{number_of}
use Rattle.sound.specs.Rows.{mark_run}
use Rattle.sound.proofs.maps.mark_numbers.Given as goal

abbrev pub invariant-loop-place : goal.invariant-loop-place
invariant-loop-place l = l.marks ≡ mark_run (number_of l.mappings) l.place l.initial.marks
