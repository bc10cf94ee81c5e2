-- The zero page as a fold over its bytes, and a frame's bytes as a part of the memory. Assumes nothing.
use Rattle.std.specs.Prelude.{fold, Option, Some, None}
use Rattle.std.specs.Option.{unwrap_or}
use Rattle.std.specs.Slice.{IsGetRangeResult}
use Rattle.std.proofs.Common.{Bor}
use Rattle.std.proofs.lemmas.List.{take_all}
use Rattle.std.proofs.lemmas.List.Sums.{fold_more}
use mathlib.Core.Path.{◌≡◌, refl, ap, sym, ◌∙◌}
use mathlib.Core.Bool.{Bool, true, ◌&&◌}
use mathlib.Core.List.{List, []}
use Prim.Native.Nat.{ℕ, zero, suc, ◌+◌, ◌-◌, ◌*◌, ◌≤◌}
use native.Mathlib.Omega.{arith}
use Rattle.std.proofs.lemmas.Grind.{common_steps}
use native.Mathlib.Numerals.{add-one}
use lib.Dec.{eqb}
use lib.ListN.{length, take}
use Rattle.logic.proofs.Laws.{all_next}
use borrow.Author.Tests.{le-leb, lt-leb, eq-eqb}
use Rattle.logic.specs.Below.{all_below}
use Rattle.peek.specs.Peek.{blank_byte, zero_page_of, frame_bytes}

-- the zero page
module _ (z : List ℕ) where
  blank_so_far : (k : ℕ) → k ≤ length z → fold (λ a x. a && eqb x 0) true (take k z) ≡ all_below (blank_byte z) k
  unfolding all_below blank_byte
  blank_so_far zero l = refl
  blank_so_far (suc k) l =
      let h : fold (λ a x. a && eqb x 0) true (take (k + 1) z) ≡ all_below (blank_byte z) (k + 1) =
      fold_more (λ a x. a && eqb x 0) true z k 0 (omega arith) ∙ all_next (blank_byte z) k (blank_so_far k (omega arith)) refl in
      rw add-one at h

  pub zeros_all : {b : Bool} → length z ≡ 4096 → b ≡ fold (λ a x. a && eqb x 0) true z → b ≡ zero_page_of 4096 z
  unfolding zero_page_of
  zeros_all h b =
      rw (eq-eqb _ _ h) (b ∙ (ap (λ (l : List ℕ). fold (λ a x. a && eqb x 0) true l) (sym (take_all 4096 z (omega arith))) ∙ blank_so_far 4096 (omega arith)))

-- a frame's bytes, where the memory holds them
pub bytes_got : (memory : List ℕ) (f : ℕ) (d : Bor (List ℕ)) → d.now ≡ [] → (o : Option (Bor (List ℕ))) → IsGetRangeResult memory (f * 4096) (f * 4096 + 4096) o → (unwrap_or o d).now ≡ frame_bytes 4096 memory f
unfolding frame_bytes
bytes_got memory f d e (Some s) h =
    let l : f * 4096 + 4096 - f * 4096 ≡ 4096 = omega arith in
    rw (le-leb (f * 4096 + 4096) (length memory) (omega (arith, h)), ← l) (grind (arith, common_steps, h))
bytes_got memory f d e None h = rw (lt-leb (f * 4096 + 4096) (length memory) (omega (arith, h))) e
