use Rattle.std.proofs.Common.{◌≢◌, ℕ, ◌-◌, ◌≤◌, ◌<◌, length, slice_index}
use Rattle.frames.proofs.pass.Given as goal

abbrev pub invariant-loop-a : goal.invariant-loop-a
invariant-loop-a l = (l.from ≤ l.a) × (l.a ≤ length l.flags) × ((k : ℕ) → l.from ≤ k → k < l.a → slice_index l.flags k ≢ 0)

abbrev pub decreases-loop-a : goal.decreases-loop-a
decreases-loop-a l = length l.flags - l.a
