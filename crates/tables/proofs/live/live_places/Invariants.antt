use mathlib.Core.Path.{◌≡◌}
use Prim.Native.Nat.{ℕ, ◌≤◌, ◌<◌, ◌*◌}
use Rattle.tables.specs.Tables.{mapping_of, mapping_by}
use Rattle.tables.proofs.live.live_places.Given as goal

abbrev pub invariant-loop-block : goal.invariant-loop-block
invariant-loop-block l = (i : ℕ) → l.block * 16 ≤ i → i < 64 → mapping_of l.mappings i ≡ mapping_by 0 0 0 0
