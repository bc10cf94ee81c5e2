-- A write changes its object's array alone, by the bytes that it has done. Assumes nothing.
use Rattle.std.specs.Prelude.{Option, Ok, Some, None, Err}
use Rattle.outcome.specs.Answers.{Checked}
use mathlib.Core.Path.{◌≡◌, refl, sym, ap, ◌∙◌, subst}
use mathlib.Core.Bool.{true}
use mathlib.Core.List.{List}
use Prim.Native.Nat.{ℕ, suc, ◌+◌, ◌-◌, ◌*◌, ◌/◌, ◌≤◌, ◌<◌}
use native.Mathlib.Omega.{arith}
use native.Mathlib.Nat.{div-mul-le_self, suc-mul}
use lib.Arith.{digits_div}
use lib.ListN.{length}
use Rattle.blocks.specs.declared.BlockIter.{BlockIter}
use Rattle.blocks.specs.declared.BlockRange.{BlockRange}
use Rattle.blocks.specs.Blocks.{iter_of, count_of}
use Rattle.tables.specs.Pool.{Pool}
use Rattle.tables.specs.Tables.{node_of}
use Rattle.lookup.specs.Work.{Work}
use Rattle.lookup.specs.Commit.{committing_of, commit_leaf, Committed}
use Rattle.sound.specs.Facts.{Leaf}
use Rattle.page.specs.Each.{Part, part_of}
use Rattle.page.specs.Pages.{against_write, stored_by, rest_by, wrote_page, write_by, write_page}
use Rattle.ranges.specs.Ranges.{start_work, ranged_by, write_range, written, write_through}
use Rattle.isolation.specs.Private.{Private}
use Rattle.isolation.specs.Kept.{pool_with, Kept}
use Rattle.isolation.proofs.Look.{look_goes_on}
use Rattle.arrays.specs.Arrays.{write_array, touched}
use Rattle.arrays.specs.Outcomes.{Writes}
use Rattle.arrays.proofs.Each.{Goes, each_keeps}
use Rattle.arrays.proofs.Blocks.{First, cut, count_more, count_end, some_length, block_inside}
use Rattle.arrays.proofs.Bytes.{private_alike, write-none}
use Rattle.arrays.proofs.Store.{stored}
use Rattle.arrays.proofs.Spent.{Spent, spent_none, spent_more, spent_out, Ending}
use Rattle.arrays.proofs.Spent.Ending.{all, out}
use Rattle.arrays.proofs.Close.{closes}
use Rattle.logic.proofs.Laws.{true_not}

module _ (L : ℕ) (A : ℕ → ℕ → ℕ → ℕ) (p : Pool) (n offset : ℕ) (bytes : List ℕ) (leaf : Leaf p.nodes n)
    (inside : offset + length bytes ≤ (node_of p.nodes n).size * L) where
  abbrev first : ℕ
  first = offset / L

  abbrev pages : ℕ
  pages = touched L offset (length bytes)

  abbrev arrays : ℕ → ℕ → ℕ → ℕ → ℕ
  arrays done = write_array L A n offset bytes done

  -- so many pages done, k to come, the next from `it` on
  record Before (k : ℕ) (it : BlockIter) (w : Work) : Type 0 where
    done : ℕ
    from : offset ≤ it.begin
    to : it.begin ≤ it.end
    end : it.end ≡ offset + length bytes
    count : count_of L it ≡ k
    all_pages : done + k ≡ pages
    page : it.begin < it.end → it.begin / L ≡ first + done
    bytes_done : it.begin < it.end → it.begin - offset ≡ (first + done) * L - offset
    private : Private L (arrays (it.begin - offset)) (pool_with p w)
    spent : Spent p n first done w

  record After (r : Part BlockIter Work) : Type 0 where
    private : Private L (arrays (r.rest.begin - offset)) (pool_with p r.state)
    ends : Ending p n first pages r.why r.state.used (r.rest.begin - offset ≡ length bytes)
        (λ d. (r.rest.begin - offset < length bytes) × (r.rest.begin - offset ≡ (first + d) * L - offset))

  abbrev step : BlockIter → Work → Part BlockIter Work
  step = write_page L p.nodes p.mappings n offset bytes

  abbrev After-turn : ℕ → Checked → Part BlockIter Work → Type 0
  After-turn k a q = Goes step Before After k a q

  module _ (k : ℕ) (it : BlockIter) (w : Work) (B : Before (suc k) it w) (b : BlockRange) (next : BlockIter) (F : First L it b next) where
    begins : it.begin < it.end
    begins = count_more L it.begin it.end k B.count

    one : 1 ≤ L
    one = let e = B.end in some_length L (node_of p.nodes n).size it.begin it.end begins (omega arith)

    block_is : b.block ≡ first + B.done
    block_is = F.block ∙ B.page begins

    moved_on : (f : ℕ) (v : Work) → Private L (arrays (next.begin - offset)) (pool_with p (stored_by L bytes (it.begin - offset) b (Ok (Some f)) v)) → Spent p n first (suc B.done) v
        → Before k next (stored_by L bytes (it.begin - offset) b (Ok (Some f)) v)
    unfolding stored_by
    moved_on f v P s =
        let a = F.starts in
        let c = F.goes_on in
        let x = F.some in
        let y = F.within in
        let z = B.from in
        let u = F.to_end in
        let t = F.count in
        let m = B.count in
        let i = B.all_pages in
        record {
          done = suc B.done;
          from = omega arith;
          to = omega arith;
          end = u ∙ B.end;
          count = omega arith;
          all_pages = omega arith;
          page = λ l. next_page (F.whole (rw u at l));
          bytes_done = λ l. next_bytes (F.whole (rw u at l));
          private = P;
          spent = record { frames = s.frames; later = s.later };
        }
      where
        next_begin : b.end ≡ L → next.begin ≡ suc (first + B.done) * L
        next_begin e = let q = ap (λ (z : ℕ). z * L) block_is in let m = suc-mul (first + B.done) L in F.goes_on ∙ (omega arith)

        next_page : b.end ≡ L → next.begin / L ≡ first + suc B.done
        next_page e =
            let q : next.begin ≡ suc (first + B.done) * L + 0 = let m = next_begin e in omega arith in
            let h = ap (λ (z : ℕ). z / L) q ∙ digits_div (suc (first + B.done)) one in
            omega arith

        next_bytes : b.end ≡ L → next.begin - offset ≡ (first + suc B.done) * L - offset
        next_bytes e = let q = next_begin e in let m : first + suc B.done ≡ suc (first + B.done) = omega arith in rw (m, q)

    turn_by_lem : (z : Committed) (v : Work) → Kept L (arrays (it.begin - offset)) (pool_with p w) w.told n b.block true (committing_of z v)
        → After-turn k (against_write z) (part_of (against_write z) (rest_by (against_write z) it next) (stored_by L bytes (it.begin - offset) b z v))
    unfolding stored_by
    turn_by_lem (Ok (Some f)) v K =
        moved_on f v (let x = F.within in let y = B.end in stored L A p n offset bytes leaf it next b F B.from (omega arith) f v K.private (K.answers.own refl))
        (spent_more p n first L (arrays (it.begin - offset)) B.done w B.private B.spent (committing_of (Ok (Some f)) v) (rw block_is at K) (rw block_is at K.answers))
    turn_by_lem (Err r) v K =
        let l = begins in
        let x = B.from in
        let y = B.end in
        let i = B.all_pages in
        record {
          private = K.private;
          ends = out B.done (ap Err K.answers.answer)
              (spent_out p n first L (arrays (it.begin - offset)) B.done w B.private B.spent (committing_of (Err r) v) (rw block_is at K) pages (omega arith) (rw block_is at K.answers))
              (omega arith, B.bytes_done l);
        }
    turn_by_lem (Ok None) v K = true_not refl K.answers.reading

  turn : (k : ℕ) (it : BlockIter) (w : Work) → Before (suc k) it w → After-turn k (step it w).why (step it w)
  unfolding write_page write_by wrote_page
  turn k it w B =
      let l = count_more L it.begin it.end k B.count in
      let e = B.end in
      let c = cut L (some_length L (node_of p.nodes n).size it.begin it.end l (omega arith)) it l in
      let b = c.block in
      subst (λ (x : Option (BlockRange × BlockIter)). After-turn k (write_by L p.nodes p.mappings n offset bytes it w x).why (write_by L p.nodes p.mappings n offset bytes it w x)) (sym c.next)
      (let r = commit_leaf L p.nodes p.mappings w n b.block true in
      turn_by_lem k it w B b c.rest c.first r.answer r.work
      (look_goes_on L (arrays (it.begin - offset)) p w B.private n b.block true leaf
      (block_inside L offset (length bytes) (node_of p.nodes n).size it b c.rest c.first l B.end inside)))

  ends : (it : BlockIter) (w : Work) → Before 0 it w → After (part_of (Ok tt) it w)
  ends it w B =
      let e : B.done ≡ pages = let m = B.all_pages in omega arith in
      let x = B.from in
      let y = B.to in
      let z = B.end in
      let l : it.end ≤ it.begin = count_end L (node_of p.nodes n).size it B.count (omega arith) in
      record { private = B.private; ends = all refl (rw e at B.spent.frames) (omega arith) }

  range_writes : (w : Work) → Private L A (pool_with p w) → Spent p n first 0 w → After (write_range L p.nodes p.mappings n offset bytes w)
  unfolding write_range
  range_writes w P s =
      each_keeps step Before After ends turn pages (iter_of offset (offset + length bytes)) w
      (record {
        done = 0;
        from = omega arith;
        to = omega arith;
        end = refl;
        count = refl;
        all_pages = omega arith;
        page = λ l. omega arith;
        bytes_done = λ l. let m = div-mul-le_self offset L in let e : first + 0 ≡ first = omega arith in rw e (omega arith);
        private = let e : offset - offset ≡ 0 = omega arith in rw e (private_alike L A (arrays 0) (pool_with p w) (λ m i k h. sym (write-none L A n offset bytes m i k)) P);
        spent = s;
      })

module _ (L : ℕ) (A : ℕ → ℕ → ℕ → ℕ) (p : Pool) (P : Private L A p) (list : List ℕ) (n offset : ℕ) (bytes : List ℕ) (leaf : Leaf p.nodes n)
    (inside : offset + length bytes ≤ (node_of p.nodes n).size * L) where
  pub write_through_lem : Writes L A p n offset bytes (write_through L p list n offset bytes)
  unfolding write_through written ranged_by
  write_through_lem =
      let r = write_range L p.nodes p.mappings n offset bytes (start_work p list) in
      let c = range_writes L A p n offset bytes leaf inside (start_work p list) P (spent_none p n (offset / L) (start_work p list) refl refl) in
      record {
        private = c.private;
        stays = record { nodes = refl; mappings = refl; head = refl };
        taken = refl;
        ends = closes p n (offset / L) (touched L offset (length bytes)) r.why (r.rest.begin - offset) (length bytes) r.state (λ d. (offset / L + d) * L - offset) (λ y. y) (λ d z. z) c.ends;
      }
