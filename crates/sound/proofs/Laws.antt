-- The lengths of the tables. Assumes nothing.
use mathlib.Core.Path.{◌≡◌}
use mathlib.Core.Bool.{true}
use Prim.Native.Nat.{ℕ, ◌*◌, ◌≤◌}
use lib.Dec.{leb}
use lib.ListN.{length}
use borrow.Author.Tests.{leb-true}
use Rattle.logic.proofs.Laws.{pick_true}
use Rattle.logic.proofs.Means.{both, equal, most}
use Rattle.tables.specs.Pool.{Pool}
use Rattle.sound.specs.Sound.{lengths_ok}

-- what the passes over the tables need of the lengths
pub lengths_hold : (L : ℕ) (p : Pool) → lengths_ok L p ≡ true → (length p.nodes ≡ 1024) × (length p.pages ≡ 4096) × (length p.used ≤ 1024) × (length p.mappings ≡ 256)
unfolding lengths_ok
lengths_hold L p h =
    let U = length p.used in
    let m =
    both (both (both (both (both (equal (length p.nodes) 1024) (equal (length p.pages) 4096)) (equal (length p.mappings) 256))
    (equal (length p.head) 4)) (most 1 U)) (equal (length p.memory) (U * L)) in
    let t = pick_true (leb U 1024) _ h in
    let (((((n, q), s), d), l), y) = m.fact t.1 in
    (n, q, leb-true _ _ t.0, s)
