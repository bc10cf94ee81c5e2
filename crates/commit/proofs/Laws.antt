-- The ways through commit_page. Assumes nothing.
use Rattle.outcome.specs.Answers.{Answer}
use mathlib.Core.Path.{◌≡◌, refl}
use mathlib.Core.Bool.{Bool}
use mathlib.Core.List.{List}
use Prim.Native.Nat.{ℕ}
use Rattle.tables.specs.Pool.{Pool}
use Rattle.outcome.specs.Outcome.{Outcome}
use Rattle.outcome.proofs.Laws.{tested}
use Rattle.pool.proofs.Laws.{on_object_lem}
use Rattle.commit.specs.Commit.{page_refusal, commit_page_at, commit_page}

-- the call counts no frames
pub commit_frameless : (L : ℕ) (p : Pool) (list : List ℕ) (object page : ℕ) (write : Bool) → (commit_page L p list object page write).taken ≡ 0
unfolding commit_page_at
commit_frameless L p list object page write =
    on_object_lem (λ (o : Outcome Answer). o.taken ≡ 0) L p object (λ r. refl)
    (λ n. tested (λ (o : Outcome Answer). o.taken ≡ 0) (page_refusal p.nodes p.mappings list n page write) (λ r. refl) refl)
