-- The cut of a range at page boundaries: blocks lie inside their pages, touch one another, and end where the range does. Assumes nothing.
use Rattle.std.specs.Prelude.{None, Some}
use mathlib.Core.Path.{◌≡◌, refl, subst}
use mathlib.Core.Bool.{Bool, true, false}
use Prim.Native.Nat.{ℕ, ◌+◌, ◌-◌, ◌*◌, ◌/◌, ◌%◌, ◌≤◌, ◌<◌}
use native.Mathlib.Omega.{arith}
use lib.Dec.{eqb, leb}
use borrow.Author.Tests.{le-leb, lt-leb, leb-true, leb-false, eqb-true, eqb-false}
use Rattle.logic.specs.Pick.{pick}
use Rattle.blocks.specs.declared.BlockIter.{BlockIter}
use Rattle.blocks.specs.declared.BlockRange.{BlockRange}
use Rattle.blocks.specs.Blocks.{iter_of, range_of, block_end, next_by, next_of}

-- a range of length 0 gives no block
pub none : (L : ℕ) (it : BlockIter) → it.end ≤ it.begin → next_of L it ≡ None
unfolding next_of
none L it h = rw (le-leb _ _ h)

-- the first block of a range and what is left
pub record First (it : BlockIter) (b : BlockRange) (rest : BlockIter) : Type 0 where
  pub some : b.begin < b.end
  pub inside : b.end ≤ 4096
  pub starts : b.block * 4096 + b.begin ≡ it.begin
  pub goes_on : rest.begin ≡ b.block * 4096 + b.end
  pub to_end : rest.end ≡ it.end
  pub within : rest.begin ≤ it.end

pub record Cut (it : BlockIter) : Type 0 where
  pub block : BlockRange
  pub rest : BlockIter
  pub next : next_of 4096 it ≡ Some (block, rest)
  pub first : First it block rest

first_by : (b : Bool) (x e : ℕ) → eqb (x / 4096) (e / 4096) ≡ b → x < e → First (iter_of x e) (range_of (x / 4096) (x % 4096) (pick b (e % 4096) 4096)) (iter_of (x + (pick b (e % 4096) 4096 - x % 4096)) e)
first_by true x e t h =
    let q = eqb-true (x / 4096) (e / 4096) t in
    record { some = omega arith; inside = omega arith; starts = omega arith; goes_on = omega arith; to_end = refl; within = omega arith }
first_by false x e t h =
    let q = eqb-false (x / 4096) (e / 4096) t in
    record { some = omega arith; inside = omega arith; starts = omega arith; goes_on = omega arith; to_end = refl; within = omega arith }

pub cut : (it : BlockIter) → it.begin < it.end → Cut it
unfolding next_of next_by block_end
cut it h =
    let e = pick (eqb (it.begin / 4096) (it.end / 4096)) (it.end % 4096) 4096 in
    record {
      block = range_of (it.begin / 4096) (it.begin % 4096) e;
      rest = iter_of (it.begin + (e - it.begin % 4096)) it.end;
      next = rw (lt-leb _ _ h);
      first = first_by (eqb (it.begin / 4096) (it.end / 4096)) it.begin it.end refl h;
    }

-- the same from what `next` answers
first_when : (it : BlockIter) (b : BlockRange) (r : BlockIter) (t : Bool) → leb it.end it.begin ≡ t → next_of 4096 it ≡ Some (b, r) → First it b r
first_when it b r true t e =
    let d = none 4096 it (leb-true _ _ t) in
    absurd cc
first_when it b r false t e =
    let k = cut it (leb-false _ _ t) in
    let same : ◌≡◌ {A = BlockRange × BlockIter} (k.block, k.rest) (b, r) = cc in
    subst (λ (x : BlockRange × BlockIter). First it x.0 x.1) same k.first

pub first_of : (it : BlockIter) {b : BlockRange} {r : BlockIter} → next_of 4096 it ≡ Some (b, r) → First it b r
first_of it {b} {r} h = first_when it b r _ refl h
