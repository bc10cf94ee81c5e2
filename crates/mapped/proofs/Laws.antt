-- What every answer of the calls on mappings has. Assumes nothing.
use Rattle.std.specs.Prelude.{ℕ}
use mathlib.Core.Path.{refl}
use Prim.Native.Nat.{ℕ}
use lib.Dec.{ltb}
use Rattle.tables.specs.Pool.{Pool}
use Rattle.mapped.specs.Mapped.{shows_of, append_at, append_mapping, remove_at, remove_mapping}
use Rattle.outcome.proofs.Laws.{Quiet, pick_has}
use Rattle.pool.proofs.Laws.{on_object_lem}

-- neither call sends a notice or takes a frame
pub append-quiet : (L : ℕ) (p : Pool) (object first count : ℕ) → Quiet (append_mapping L p object first count)
unfolding append_at
append-quiet L p object first count = on_object_lem Quiet L p object (λ r. (refl, refl)) (λ n. pick_has Quiet (shows_of first count) (refl, refl) (refl, refl))

pub remove_quiet : (L : ℕ) (p : Pool) (object mapping : ℕ) → Quiet (remove_mapping L p object mapping)
unfolding remove_at
remove_quiet L p object mapping = on_object_lem Quiet L p object (λ r. (refl, refl)) (λ n. pick_has Quiet (ltb mapping 64) (refl, refl) (refl, refl))
