-- Ways through the list of mappings. Assumes nothing.
use Rattle.std.specs.Prelude.{ℕ}
use mathlib.Core.Path.{◌≡◌, ◌∙◌}
use mathlib.Core.List.{List}
use Prim.Native.Nat.{ℕ, suc, ◌+◌, ◌-◌, ◌*◌, ◌≤◌}
use native.Mathlib.Omega.{arith}
use lib.ListN.{get_or, set}
use Rattle.logic.specs.Below.{copied}
use Rattle.logic.proofs.Laws.{copied_outside}
use Rattle.tables.specs.Tables.{mapping_by}
use Rattle.mappings.specs.Mappings.{with_mapping, closed_up}

-- the entries that move up are read ahead of what was written
pub up_turn : (M : List ℕ) (a k : ℕ) {t t' : List ℕ} {w : ℕ} → a ≤ k → t ≡ copied M a M (a + 4) (k - a) → w ≡ get_or t (k + 4) 0 → t' ≡ set t k w → t' ≡ copied M a M (a + 4) (k + 1 - a)
unfolding copied
up_turn M a k l e h s =
    let n : k + 1 - a ≡ suc (k - a) = omega arith in
    let p : a + (k - a) ≡ k = omega arith in
    let q : a + 4 + (k - a) ≡ k + 4 = omega arith in
    let o = copied_outside M a M (a + 4) (k - a) (k + 4) (λ j m r. omega arith) in
    s ∙ rw (h, e, o, n, p, q)

pub closed_by : (M : List ℕ) (i : ℕ) {t t' : List ℕ} {k : ℕ} → t ≡ copied M (i * 4) M (i * 4 + 4) k → k ≡ 252 - i * 4 → t' ≡ with_mapping t 63 (mapping_by 0 0 0 0) → t' ≡ closed_up M i
unfolding closed_up
closed_by M i e h w = w ∙ rw (e, h)
