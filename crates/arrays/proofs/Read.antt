-- A read gives the bytes of its object's array and changes none. Assumes nothing.
use Rattle.std.specs.Prelude.{Option, Ok, Some, None, Err}
use Rattle.outcome.specs.Answers.{Checked}
use mathlib.Core.Path.{◌≡◌, refl, sym, ap, ◌∙◌, subst}
use mathlib.Core.Bool.{false}
use mathlib.Core.List.{List, []}
use Prim.Native.Nat.{ℕ, suc, ◌+◌, ◌-◌, ◌*◌, ◌≤◌}
use native.Mathlib.Omega.{arith}
use lib.ListN.{length}
use Rattle.blocks.specs.declared.BlockIter.{BlockIter}
use Rattle.blocks.specs.declared.BlockRange.{BlockRange}
use Rattle.blocks.specs.Blocks.{iter_of, count_of}
use Rattle.tables.specs.Pool.{Pool}
use Rattle.tables.specs.Tables.{node_of}
use Rattle.frames.specs.Frames.{pasted_at, blank_at}
use Rattle.outcome.specs.Told.{told_of}
use Rattle.lookup.specs.Work.{Work, work_of}
use Rattle.lookup.specs.Commit.{committing_of, commit_leaf, Committed}
use Rattle.sound.specs.Facts.{Leaf}
use Rattle.page.specs.Each.{Part, part_of}
use Rattle.page.specs.Pages.{against_read, fetched_by, rest_by, Read, read_of, look_read, read_through, read_by, read_page}
use Rattle.ranges.specs.Ranges.{read_range, filled}
use Rattle.isolation.specs.Private.{Private}
use Rattle.isolation.specs.Kept.{pool_with, Kept}
use Rattle.isolation.proofs.Look.{look_goes_on}
use Rattle.lookups.proofs.Quiet.{commit-quiet}
use Rattle.arrays.specs.Outcomes.{Reads}
use Rattle.arrays.proofs.Each.{Goes, each_keeps}
use Rattle.arrays.proofs.Blocks.{First, cut, count_more, count_end, some_length, block_inside}
use Rattle.arrays.proofs.Fill.{Filling, pasted_fills, blank_fills, blank-length}
use Rattle.logic.proofs.Laws.{true_not}
use Rattle.lookups.proofs.Bytes.{frame_room, pasted_length}

-- what a read has is what a lookup starts from, with an empty list
abbrev pub work_for : Read → Work
work_for s = work_of s.pages s.used s.memory (told_of [] 0)

module _ (L : ℕ) (A : ℕ → ℕ → ℕ → ℕ) (p : Pool) (n offset size : ℕ) (leaf : Leaf p.nodes n) (inside : offset + size ≤ (node_of p.nodes n).size * L) where
  -- the buffer is filled up to `it`, k pages are to come
  record Before (k : ℕ) (it : BlockIter) (s : Read) : Type 0 where
    from : offset ≤ it.begin
    to : it.begin ≤ it.end
    end : it.end ≡ offset + size
    count : count_of L it ≡ k
    private : Private L A (pool_with p (work_for s))
    used : s.used ≡ p.used
    memory : s.memory ≡ p.memory
    length_kept : length s.buf ≡ size
    bytes : Filling L offset (A n) s.buf (it.begin - offset)

  record After (r : Part BlockIter Read) : Type 0 where
    why : r.why ≡ Ok tt
    private : Private L A (pool_with p (work_for r.state))
    used : r.state.used ≡ p.used
    memory : r.state.memory ≡ p.memory
    length_kept : length r.state.buf ≡ size
    bytes : Filling L offset (A n) r.state.buf size

  abbrev step : BlockIter → Read → Part BlockIter Read
  step = read_page L p.nodes p.mappings n offset

  abbrev After-turn : ℕ → Checked → Part BlockIter Read → Type 0
  After-turn k a q = Goes step Before After k a q

  module _ (k : ℕ) (it : BlockIter) (s : Read) (B : Before (suc k) it s) (b : BlockRange) (next : BlockIter) (F : First L it b next) where
    -- the page's bytes are in the buffer
    moved_on : (v : Work) (buf : List ℕ) → Private L A (pool_with p v) → v.used ≡ s.used → v.memory ≡ s.memory → length buf ≡ length s.buf
        → Filling L offset (A n) buf (it.begin - offset + (b.end - b.begin)) → Before k next (read_of v.pages v.used v.memory buf)
    moved_on v buf P u m l f =
        let a = F.starts in
        let c = F.goes_on in
        let x = F.some in
        let y = F.within in
        let z = B.from in
        let e = F.to_end in
        let t = F.count in
        let o = B.count in
        let d : it.begin - offset + (b.end - b.begin) ≡ next.begin - offset = omega arith in
        record {
          from = omega arith;
          to = omega arith;
          end = e ∙ B.end;
          count = omega arith;
          private = record { sound = P.sound; windows = P.windows; shows = P.shows };
          used = u ∙ B.used;
          memory = m ∙ B.memory;
          length_kept = l ∙ B.length_kept;
          bytes = rw d at f;
        }

    turn_by_lem : (z : Committed) (v : Work) → v.memory ≡ s.memory → Kept L A (pool_with p (work_for s)) (told_of [] 0) n b.block false (committing_of z v)
        → After-turn k (against_read z) (part_of (against_read z) (rest_by (against_read z) it next) (read_of v.pages v.used v.memory (fetched_by L (it.begin - offset) b z v.memory s.buf)))
    unfolding fetched_by
    turn_by_lem (Ok (Some f)) v m K =
        let a = F.starts in
        let c = F.goes_on in
        let x = F.some in
        let y = F.within in
        let h = F.inside in
        let z = B.from in
        let e = B.end in
        let l = B.length_kept in
        let g = K.answers in
        let r = frame_room L (length v.used) f g.frame in
        let q = K.private.sound.lengths.memory in
        let room : it.begin - offset + (b.end - b.begin) ≤ length s.buf = omega arith in
        moved_on v (pasted_at s.buf (it.begin - offset) v.memory (f * L + b.begin) (b.end - b.begin)) K.private (g.untaken refl) m
        (pasted_length s.buf (it.begin - offset) v.memory (f * L + b.begin) (b.end - b.begin) room (omega arith))
        (pasted_fills L offset (A n) s.buf (it.begin - offset) (b.end - b.begin) b.block b.begin room (omega arith) (omega arith) B.bytes v.memory (f * L + b.begin) (omega arith)
        (λ j d. let i : f * L + b.begin + j ≡ f * L + (b.begin + j) = omega arith in rw i (g.bytes (b.begin + j) (omega arith))))
    turn_by_lem (Ok None) v m K =
        let a = F.starts in
        let c = F.goes_on in
        let x = F.some in
        let y = F.within in
        let h = F.inside in
        let z = B.from in
        let e = B.end in
        let l = B.length_kept in
        let g = K.answers in
        let room : it.begin - offset + (b.end - b.begin) ≤ length s.buf = omega arith in
        moved_on v (blank_at s.buf (it.begin - offset) (b.end - b.begin)) K.private (ap (λ (w : Work). w.used) g.same) m
        (blank-length L offset (A n) s.buf (it.begin - offset) (b.end - b.begin) b.block b.begin room (omega arith) (omega arith) B.bytes)
        (blank_fills L offset (A n) s.buf (it.begin - offset) (b.end - b.begin) b.block b.begin room (omega arith) (omega arith) B.bytes
        (λ j d. g.bytes (b.begin + j) (omega arith)))
    turn_by_lem (Err r) v m K = true_not K.answers.writing refl

  turn : (k : ℕ) (it : BlockIter) (s : Read) → Before (suc k) it s → After-turn k (step it s).why (step it s)
  unfolding read_page read_by read_through look_read
  turn k it s B =
      let l = count_more L it.begin it.end k B.count in
      let e = B.end in
      let c = cut L (some_length L (node_of p.nodes n).size it.begin it.end l (omega arith)) it l in
      let b = c.block in
      subst (λ (x : Option (BlockRange × BlockIter)). After-turn k (read_by L p.nodes p.mappings n offset it s x).why (read_by L p.nodes p.mappings n offset it s x)) (sym c.next)
      (let r = commit_leaf L p.nodes p.mappings (work_for s) n b.block false in
      turn_by_lem k it s B b c.rest c.first r.answer r.work (commit-quiet L p.nodes p.mappings (work_for s) n b.block).1
      (look_goes_on L A p (work_for s) B.private n b.block false leaf
      (block_inside L offset size (node_of p.nodes n).size it b c.rest c.first l B.end inside)))

  ends : (it : BlockIter) (s : Read) → Before 0 it s → After (part_of (Ok tt) it s)
  ends it s B =
      let x = B.to in
      let y = B.end in
      let l : it.end ≤ it.begin = count_end L (node_of p.nodes n).size it B.count (omega arith) in
      let e : it.begin - offset ≡ size = omega arith in
      record { why = refl; private = B.private; used = B.used; memory = B.memory; length_kept = B.length_kept; bytes = rw e at B.bytes }

module _ (L : ℕ) (A : ℕ → ℕ → ℕ → ℕ) (p : Pool) (P : Private L A p) (n offset : ℕ) (buf : List ℕ) (leaf : Leaf p.nodes n)
    (inside : offset + length buf ≤ (node_of p.nodes n).size * L) where
  pub read_through_lem : Reads L A p n offset buf (filled p (read_range L p.nodes p.mappings n offset (read_of p.pages p.used p.memory buf)))
  unfolding filled read_range
  read_through_lem =
      let it = iter_of offset (offset + length buf) in
      let c = each_keeps (step L A p n offset (length buf) leaf inside) (Before L A p n offset (length buf) leaf inside) (After L A p n offset (length buf) leaf inside)
      (ends L A p n offset (length buf) leaf inside) (turn L A p n offset (length buf) leaf inside)
      (count_of L it) it (read_of p.pages p.used p.memory buf)
      (record { from = omega arith; to = omega arith; end = refl; count = refl; private = P; used = refl; memory = refl; length_kept = refl; bytes = λ j l. absurd (omega arith) }) in
      record {
        answer = rw c.why;
        private = c.private;
        stays = record { nodes = refl; mappings = refl; head = refl };
        used = c.used;
        memory = c.memory;
        size = c.length_kept;
        bytes = c.bytes;
      }
