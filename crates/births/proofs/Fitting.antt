-- What create_child's tests say of the child's pages. Assumes nothing.
use Rattle.outcome.specs.Answers.{Checked}
use Rattle.std.specs.Prelude.{Err, Ok}
use mathlib.Core.Path.{◌≡◌, refl}
use mathlib.Core.Bool.{Bool, true, false, ◌&&◌}
use Prim.Native.Nat.{ℕ, zero, suc, ◌+◌, ◌*◌, ◌/◌, ◌%◌, ◌≤◌}
use native.Mathlib.Omega.{arith}
use native.Mathlib.Nat.{div-zero, div-add-mod', mul-le-mul_right, suc-mul, add-mul}
use lib.Dec.{eqb, leb}
use borrow.Author.Tests.{eqb-true, leb-true}
use Rattle.logic.specs.Pick.{pick}
use Rattle.logic.proofs.Laws.{and_left, and_right}
use Rattle.logic.proofs.Means.{most, split}
use Rattle.blocks.specs.Blocks.{aligned_of}
use Rattle.node.specs.declared.Node.{Node}
use Rattle.node.specs.Node.{cached_of, contains_of}
use Rattle.outcome.specs.declared.answer.Refusal as R
use Rattle.child.specs.Child.{against_child}

-- whole pages that lie inside are no more than there are
pages_fit : (L a b size : ℕ) → a % L ≡ 0 → b % L ≡ 0 → a + b ≤ size * L → a / L + b / L ≤ size
pages_fit zero a b size p q l = rw (div-zero a, div-zero b) (omega arith)
pages_fit (suc k) a b size p q l =
    split (most (a / suc k + b / suc k) size)
    (λ h. h)
    (λ out.
    let x = div-add-mod' a (suc k) in
    let y = div-add-mod' b (suc k) in
    let m = mul-le-mul_right {m = suc size} {n = a / suc k + b / suc k} (suc k) (omega arith) in
    let s = suc-mul size (suc k) in
    let d = add-mul (a / suc k) (b / suc k) (suc k) in
    absurd (omega arith))

-- what the tests say
pub record Allows (L : ℕ) (r : Node) (offset len : ℕ) : Type 0 where
  pub fits : offset / L + len / L ≤ r.size
  pub unpinned : r.pin_count ≡ 0
  pub from : offset % L ≡ 0
  pub whole : len % L ≡ 0
  pub inside : offset + len ≤ r.size * L

why_not : {A : Type 0} {r : R.Refusal} → ◌≡◌ {A = Checked} (Err r) (Ok tt) → A
why_not e = let z : ◌≡◌ {A = ℕ} 0 1 = cc in absurd (omega arith)

allows_by : (L : ℕ) (r : Node) (offset len : ℕ) (a b c : Bool)
    → (aligned_of L offset && aligned_of L len && leb len (64 * L)) ≡ a → (cached_of r && eqb r.pin_count 0) ≡ b → leb (offset + len) (r.size * L) ≡ c
    → ◌≡◌ {A = Checked} (pick a (pick b (pick c (Ok tt) (Err R.TheVariants.OutOfRange)) (Err R.TheVariants.BadState)) (Err R.TheVariants.InvalidArgs)) (Ok tt) → Allows L r offset len
allows_by L r offset len true true true x y z e =
    let w = and_left (aligned_of L offset && aligned_of L len) (leb len (64 * L)) x in
    let a = eqb-true (offset % L) 0 (and_left (aligned_of L offset) (aligned_of L len) w) in
    let b = eqb-true (len % L) 0 (and_right (aligned_of L offset) (aligned_of L len) w) in
    let i = leb-true (offset + len) (r.size * L) z in
    record {
      fits = pages_fit L offset len r.size a b i;
      unpinned = eqb-true r.pin_count 0 (and_right (cached_of r) (eqb r.pin_count 0) y);
      from = a;
      whole = b;
      inside = i;
    }
allows_by L r offset len true true false x y z e = why_not e
allows_by L r offset len true false c x y z e = why_not e
allows_by L r offset len false b c x y z e = why_not e

pub allows : (L : ℕ) (r : Node) (offset len : ℕ) → against_child L r offset len ≡ Ok tt → Allows L r offset len
unfolding against_child contains_of
allows L r offset len e =
    allows_by L r offset len (aligned_of L offset && aligned_of L len && leb len (64 * L)) (cached_of r && eqb r.pin_count 0)
    (leb (offset + len) (r.size * L)) refl refl refl e
