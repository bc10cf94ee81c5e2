-- The cut of a range at the boundaries of pages of L bytes: blocks lie inside their pages, touch one another, and end where the range does; as
-- many as are counted. Assumes nothing.
use mathlib.Core.Path.{◌≡◌, refl, ap, ◌∙◌}
use mathlib.Core.Bool.{Bool, true, false}
use Prim.Native.Nat.{ℕ, suc, ◌+◌, ◌-◌, ◌*◌, ◌/◌, ◌%◌, ◌≤◌, ◌<◌}
use native.Mathlib.Omega.{arith}
use native.Mathlib.Nat.{mod-lt, div-add-mod', suc-mul, mul-le-mul_right, lt_of_mul-lt-mul_right}
use lib.Dec.{eqb}
use lib.Arith.{digits_div, digits_mod}
use borrow.Author.Tests.{le-leb, lt-leb, eqb-true, eqb-false, eq-eqb, ne_eqb}
use Rattle.logic.specs.Pick.{pick}
use Rattle.logic.proofs.Means.{less, equal, split}
use Rattle.blocks.specs.declared.BlockIter.{BlockIter}
use Rattle.blocks.specs.declared.BlockRange.{BlockRange}
use Rattle.std.specs.Prelude.{Some}
use Rattle.blocks.specs.Blocks.{pages_of, iter_of, range_of, block_end, next_by, next_of, count_of}

-- the first block of a range, and what is left
pub record First (L : ℕ) (it : BlockIter) (b : BlockRange) (rest : BlockIter) : Type 0 where
  pub some : b.begin < b.end
  pub inside : b.end ≤ L
  pub block : b.block ≡ it.begin / L
  pub starts : b.block * L + b.begin ≡ it.begin
  pub goes_on : rest.begin ≡ b.block * L + b.end
  pub to_end : rest.end ≡ it.end
  pub within : rest.begin ≤ it.end
  pub whole : rest.begin < it.end → b.end ≡ L
  pub count : count_of L it ≡ suc (count_of L rest)

pub record Cut (L : ℕ) (it : BlockIter) : Type 0 where
  pub block : BlockRange
  pub rest : BlockIter
  pub next : next_of L it ≡ Some (block, rest)
  pub first : First L it block rest

-- an empty range has no blocks, and a range that has some is not empty

pub count_none : (L x e : ℕ) → e ≤ x → count_of L (iter_of x e) ≡ 0
unfolding count_of
count_none L x e h = rw (le-leb e x h)

pub count_more : (L x e k : ℕ) → count_of L (iter_of x e) ≡ suc k → x < e
count_more L x e k c = split (less x e) (λ l. l) (λ no. let z = count_none L x e (omega arith) in absurd (omega arith))

module _ (L : ℕ) (one : 1 ≤ L) where
  -- the pages up to an end
  count_some : (x e : ℕ) → x < e → count_of L (iter_of x e) ≡ pages_of L e - x / L
  unfolding count_of
  count_some x e h = rw (lt-leb e x h)

  pages_even : (e : ℕ) → e % L ≡ 0 → pages_of L e ≡ e / L
  unfolding pages_of
  pages_even e z = rw (eq-eqb (e % L) 0 z)

  pages_odd : (e : ℕ) → (e % L ≡ 0 → ⊥) → pages_of L e ≡ e / L + 1
  unfolding pages_of
  pages_odd e ne = rw (ne_eqb (e % L) 0 ne)

  pages_least : (e : ℕ) → e / L ≤ pages_of L e
  pages_least e =
      split (equal (e % L) 0) (λ z. let q = pages_even e z in omega arith) (λ ne. let q = pages_odd e ne in omega arith)

  module _ (x e : ℕ) (h : x < e) where
    parts : (y : ℕ) → (y / L * L + y % L ≡ y) × (y % L < L)
    parts y = (div-add-mod' y L, mod-lt y one)

    -- the range ends in its first page
    first_last : x / L ≡ e / L → First L (iter_of x e) (range_of (x / L) (x % L) (e % L)) (iter_of (x + (e % L - x % L)) e)
    first_last q =
        let a = parts x in
        let b = parts e in
        let m : x / L * L ≡ e / L * L = ap (λ (z : ℕ). z * L) q in
        let ends : x + (e % L - x % L) ≡ e = omega arith in
        record {
          some = omega arith;
          inside = omega arith;
          block = refl;
          starts = a.0;
          goes_on = omega arith;
          to_end = refl;
          within = omega arith;
          whole = λ l. absurd (omega arith);
          count =
              let c = count_some x e h in
              let d = count_none L (x + (e % L - x % L)) e (omega arith) in
              let o = pages_odd e (λ z. omega arith) in
              omega arith;
        }

    -- it goes on in the next page
    first_whole : (x / L ≡ e / L → ⊥) → First L (iter_of x e) (range_of (x / L) (x % L) L) (iter_of (x + (L - x % L)) e)
    first_whole ne =
        let a = parts x in
        let b = parts e in
        let l = later ne in
        let m = mul-le-mul_right {m = suc (x / L)} {n = e / L} L (omega arith) in
        let s = suc-mul (x / L) L in
        record {
          some = omega arith;
          inside = omega arith;
          block = refl;
          starts = a.0;
          goes_on = omega arith;
          to_end = refl;
          within = omega arith;
          whole = λ l. refl;
          count = counts l;
        }
      where
        later : (x / L ≡ e / L → ⊥) → x / L < e / L
        later ne =
            split (less (x / L) (e / L)) (λ l. l)
            (λ no.
            let a = parts x in
            let b = parts e in
            let m = mul-le-mul_right {m = suc (e / L)} {n = x / L} L (omega arith) in
            let s = suc-mul (e / L) L in
            absurd (omega arith))

        counts : x / L < e / L → count_of L (iter_of x e) ≡ suc (count_of L (iter_of (x + (L - x % L)) e))
        counts l =
            let a = parts x in
            let b = parts e in
            let s = suc-mul (x / L) L in
            let c = count_some x e h in
            let p = pages_least e in
            let y : x + (L - x % L) ≡ suc (x / L) * L + 0 = omega arith in
            let q : (x + (L - x % L)) / L ≡ suc (x / L) = ap (λ (z : ℕ). z / L) y ∙ digits_div (suc (x / L)) one in
            split (less (x + (L - x % L)) e)
            (λ before. let d = count_some (x + (L - x % L)) e before in omega arith)
            (λ past.
            let d = count_none L (x + (L - x % L)) e (omega arith) in
            let m = mul-le-mul_right {m = suc (x / L)} {n = e / L} L (omega arith) in
            let z : e ≡ suc (x / L) * L + 0 = omega arith in
            let v : e / L ≡ suc (x / L) = ap (λ (z : ℕ). z / L) z ∙ digits_div (suc (x / L)) one in
            let w : e % L ≡ 0 = ap (λ (z : ℕ). z % L) z ∙ digits_mod (suc (x / L)) one in
            let o = pages_even e w in
            omega arith)

    first_by : (b : Bool) → eqb (x / L) (e / L) ≡ b → First L (iter_of x e) (range_of (x / L) (x % L) (pick b (e % L) L)) (iter_of (x + (pick b (e % L) L - x % L)) e)
    first_by true t = first_last (eqb-true (x / L) (e / L) t)
    first_by false t = first_whole (eqb-false (x / L) (e / L) t)

  pub cut : (it : BlockIter) → it.begin < it.end → Cut L it
  unfolding next_of next_by block_end
  cut it h =
      let e = pick (eqb (it.begin / L) (it.end / L)) (it.end % L) L in
      record {
        block = range_of (it.begin / L) (it.begin % L) e;
        rest = iter_of (it.begin + (e - it.begin % L)) it.end;
        next = rw (lt-leb _ _ h);
        first = first_by it.begin it.end h (eqb (it.begin / L) (it.end / L)) refl;
      }

-- the block's page lies inside
pub block_inside : (L offset len size : ℕ) (it : BlockIter) (b : BlockRange) (r : BlockIter) → First L it b r → it.begin < it.end → it.end ≡ offset + len → offset + len ≤ size * L → b.block < size
block_inside L offset len size it b r f l e h =
    let s = f.starts in
    lt_of_mul-lt-mul_right L (omega arith)

-- a page that holds some byte has some length
pub some_length : (L size x e : ℕ) → x < e → e ≤ size * L → 1 ≤ L
some_length L size x e l h =
    split (less 0 L) (λ k. omega arith)
    (λ never. let z : L ≡ 0 = omega arith in let q : e ≤ size * 0 = rw z at h in absurd (omega arith))

-- a range that has no block left is at its end
pub count_end : (L size : ℕ) (it : BlockIter) → count_of L it ≡ 0 → it.end ≤ size * L → it.end ≤ it.begin
count_end L size it c h =
    split (less it.begin it.end)
    (λ l. let m = (cut L (some_length L size it.begin it.end l h) it l).first.count in absurd (omega arith))
    (λ past. omega arith)
