-- The bytes of a block stored in its page's frame are the next bytes of the array. Assumes nothing.
use Rattle.std.specs.Prelude.{Ok, Some}
use mathlib.Core.Path.{◌≡◌}
use mathlib.Core.List.{List}
use Prim.Native.Nat.{ℕ, ◌+◌, ◌-◌, ◌≤◌}
use native.Mathlib.Omega.{arith}
use lib.ListN.{length}
use Rattle.blocks.specs.declared.BlockIter.{BlockIter}
use Rattle.blocks.specs.declared.BlockRange.{BlockRange}
use Rattle.entry.specs.declared.PageState.{PageState}
use Rattle.tables.specs.Pool.{Pool}
use Rattle.lookup.specs.Work.{Work}
use Rattle.sound.specs.Facts.{Leaf, Holds}
use Rattle.page.specs.Pages.{stored_by}
use Rattle.isolation.specs.Private.{Private, put}
use Rattle.isolation.specs.Kept.{pool_with}
use Rattle.isolation.proofs.Put.{put_keeps}
use Rattle.arrays.specs.Arrays.{write_array}
use Rattle.arrays.proofs.Blocks.{First}
use Rattle.arrays.proofs.Bytes.{private_alike, write_block}

-- the block b, from `it` up to `next`, of a write of the bytes at `offset`; frame f is the object's own for the block's page
module _ (L : ℕ) (A : ℕ → ℕ → ℕ → ℕ) (p : Pool) (n offset : ℕ) (bytes : List ℕ) (leaf : Leaf p.nodes n) (it next : BlockIter) (b : BlockRange) (F : First L it b next) (from : offset ≤ it.begin)
    (enough : next.begin ≤ offset + length bytes) where
  abbrev arrays : ℕ → ℕ → ℕ → ℕ → ℕ
  arrays done = write_array L A n offset bytes done

  pub stored : (f : ℕ) (v : Work) → Private L (arrays (it.begin - offset)) (pool_with p v) → (s : PageState) × Holds v.pages n b.block s × (s.frame ≡ f)
      → Private L (arrays (next.begin - offset)) (pool_with p (stored_by L bytes (it.begin - offset) b (Ok (Some f)) v))
  unfolding stored_by
  stored f v P (s, holds, e) =
      let a = F.starts in
      let c = F.goes_on in
      let x = F.some in
      let l = F.inside in
      let d : it.begin - offset + (b.end - b.begin) ≡ next.begin - offset = omega arith in
      private_alike L (put (arrays (it.begin - offset)) n b.block b.begin (b.end - b.begin) bytes (it.begin - offset)) (arrays (next.begin - offset)) _
      (λ m j k h. rw (← d) (write_block L A n offset bytes (it.begin - offset) b.block b.begin (b.end - b.begin) (omega arith) (omega arith) m j k h))
      (rw (← e) (put_keeps L (arrays (it.begin - offset)) (pool_with p v) P n b.block leaf s holds b.begin (b.end - b.begin) bytes (it.begin - offset) (omega arith) (omega arith)))
