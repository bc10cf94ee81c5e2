-- Reads, writes and commits of pages keep a sound pool's tables sound, refused or not. Assumes nothing.
use Rattle.std.specs.Prelude.{Ok as Gave, Some, None, Err}
use Rattle.outcome.specs.Answers.{Checked}
use mathlib.Core.Path.{◌≡◌, refl, ◌∙◌}
use mathlib.Core.Bool.{Bool, true, false}
use mathlib.Core.List.{List}
use Prim.Native.Nat.{ℕ, suc, ◌+◌, ◌-◌, ◌*◌, ◌≤◌, ◌<◌}
use native.Mathlib.Omega.{arith}
use lib.Dec.{leb}
use lib.ListN.{length, get_or}
use Rattle.logic.specs.Pick.{pick}
use Rattle.logic.specs.Below.{copied}
use Rattle.logic.proofs.Means.{less, split}
use Rattle.logic.proofs.Laws.{copied-length}
use Rattle.blocks.specs.declared.BlockIter.{BlockIter}
use Rattle.blocks.specs.declared.BlockRange.{BlockRange}
use Rattle.blocks.proofs.Cut.{none}
use Rattle.tables.specs.Pool.{Pool}
use Rattle.tables.specs.Tables.{node_of}
use Rattle.frames.specs.Frames.{pasted_at}
use Rattle.outcome.specs.Told.{Told}
use Rattle.lookup.specs.Work.{Work, work_of}
use Rattle.lookup.specs.Commit.{commit_leaf, Committed}
use Rattle.sound.specs.Facts.{Leaf, Sound}
use Rattle.page.specs.Each.{part_of}
use Rattle.page.specs.Pages.{against_write, against_read, rest_by, stored_by, wrote_page, write_by, write_page, committed_one, commit_one, Read, look_read, read_through, read_by, read_page}
use Rattle.ranges.specs.Ranges.{read_range, write_range, commit_range}
use Rattle.isolation.specs.Kept.{pool_with}
use Rattle.arrays.proofs.Each.{Goes, each_keeps, each_holds}
use Rattle.arrays.proofs.Blocks.{cut, some_length, block_inside}
use Rattle.arrays.proofs.Read.{work_for}
use Rattle.lookups.proofs.Sound.{look_ok}
use Rattle.lookups.proofs.Ok.{Ok}
use Rattle.lookups.proofs.Base.{Base}

-- what is stored keeps the memory's length
pasted_length : (d : List ℕ) (a : ℕ) (s : List ℕ) (b n : ℕ) → length (pasted_at d a s b n) ≡ length d
unfolding pasted_at
pasted_length d a s b n = by (leb (a + n) (length d)) (leb (b + n) (length s))
  where
    by : (x y : Bool) → length (pick x (pick y (copied d a s b n) d) d) ≡ length d
    by true true = copied-length d a s b n
    by true false = refl
    by false y = refl

module _ (L : ℕ) (p : Pool) (s : Sound L p) where
  abbrev pub F : ℕ
  F = length p.used

  abbrev pub Fits : Work → Type 0
  Fits w = Ok p.nodes L F w

  base : Base p.nodes
  base = record { next = get_or p.head 0 0; len = s.lengths.nodes; tree = s.tree }

  pub fits_first : (t : Told) → Fits (work_of p.pages p.used p.memory t)
  fits_first t = record { few = s.lengths.most_frames; pages = s.lengths.pages; used = refl; memory = s.lengths.memory; entries = s.entries }

  -- a pool with such tables is sound
  pub fits_sound : (w : Work) → Fits w → Sound L (pool_with p w)
  fits_sound w o =
      let l = s.lengths in
      record {
        lengths = record {
          nodes = l.nodes;
          pages = o.pages;
          mappings = l.mappings;
          head = l.head;
          some_frame = rw o.used l.some_frame;
          most_frames = rw o.used l.most_frames;
          memory = rw o.used o.memory;
        };
        tree = s.tree;
        entries = o.entries;
        mappings = s.mappings;
      }

  pub look_fits : (w : Work) → Fits w → (write : Bool) (n i : ℕ) → Leaf p.nodes n → i < (node_of p.nodes n).size → Fits (commit_leaf L p.nodes p.mappings w n i write).work
  unfolding commit_leaf
  look_fits w o write n i leaf low = look_ok p.nodes base p.mappings L F w o write 64 n i n leaf low

  -- page lookup of an object's page keeps the pool sound
  pub look-sound : (t : Told) (write : Bool) (n i : ℕ) → Leaf p.nodes n → i < (node_of p.nodes n).size
      → Sound L (pool_with p (commit_leaf L p.nodes p.mappings (work_of p.pages p.used p.memory t) n i write).work)
  look-sound t write n i leaf low = fits_sound _ (look_fits (work_of p.pages p.used p.memory t) (fits_first t) write n i leaf low)

  stored_fits : (bytes : List ℕ) (from : ℕ) (b : BlockRange) (z : Committed) (w : Work) → Fits w → Fits (stored_by L bytes from b z w)
  unfolding stored_by
  stored_fits bytes from b (Gave (Some f)) w o =
      record { few = o.few; pages = o.pages; used = o.used; memory = pasted_length w.memory (f * L + b.begin) bytes from (b.end - b.begin) ∙ o.memory; entries = o.entries }
  stored_fits bytes from b (Gave None) w o = o
  stored_fits bytes from b (Err r) w o = o

  module _ (n : ℕ) (leaf : Leaf p.nodes n) where
    -- commit, page by page
    commit-turn : (k i : ℕ) (w : Work) → (i + suc k ≤ (node_of p.nodes n).size) × Fits w
        → Goes (commit_one L p.nodes p.mappings n) (λ k i w. (i + k ≤ (node_of p.nodes n).size) × Fits w) (λ r. Fits r.state) k
        (commit_one L p.nodes p.mappings n i w).why (commit_one L p.nodes p.mappings n i w)
    unfolding commit_one committed_one
    commit-turn k i w (low, o) =
        let l = commit_leaf L p.nodes p.mappings w n i true in
        by (against_write l.answer) l.work (look_fits w o true n i leaf (omega arith))
      where
        by : (a : Checked) (v : Work) → Fits v → Goes (commit_one L p.nodes p.mappings n) (λ k i w. (i + k ≤ (node_of p.nodes n).size) × Fits w) (λ r. Fits r.state) k a (part_of a (rest_by a i (i + 1)) v)
        by (Err r) v f = f
        by (Gave tt) v f = (omega arith, f)

    pub commit_fits : (first pages : ℕ) → first + pages ≤ (node_of p.nodes n).size → (w : Work) → Fits w → Fits (commit_range L p.nodes p.mappings n first pages w).state
    unfolding commit_range
    commit_fits first pages low w o =
        each_keeps (commit_one L p.nodes p.mappings n) (λ k i w. (i + k ≤ (node_of p.nodes n).size) × Fits w) (λ r. Fits r.state) (λ i w b. b.1) commit-turn pages first w (low, o)

    module _ (offset len : ℕ) (inside : offset + len ≤ (node_of p.nodes n).size * L) where
      rest_end : (a : Checked) (it next : BlockIter) → it.end ≡ offset + len → next.end ≡ it.end → (rest_by a it next).end ≡ offset + len
      rest_end (Err r) it next e f = e
      rest_end (Gave tt) it next e f = f ∙ e

      -- write, block by block
      write-turn : (bytes : List ℕ) (it : BlockIter) (w : Work) → (it.end ≡ offset + len) × Fits w
          → ((write_page L p.nodes p.mappings n offset bytes it w).rest.end ≡ offset + len) × Fits (write_page L p.nodes p.mappings n offset bytes it w).state
      unfolding write_page write_by wrote_page
      write-turn bytes it w (e, o) =
          split (less it.begin it.end)
          (λ l.
          let c = cut L (some_length L (node_of p.nodes n).size it.begin it.end l (omega arith)) it l in
          let b = c.block in
          rw c.next
          (let r = commit_leaf L p.nodes p.mappings w n b.block true in (
            rest_end (against_write r.answer) it c.rest e c.first.to_end,
            stored_fits bytes (it.begin - offset) b r.answer r.work
                (look_fits w o true n b.block leaf (block_inside L offset len (node_of p.nodes n).size it b c.rest c.first l e inside)),
          )))
          (λ past. rw (none L it (omega arith)) (e, o))

      -- read, block by block
      read-turn : (it : BlockIter) (r : Read) → (it.end ≡ offset + len) × Fits (work_for r)
          → ((read_page L p.nodes p.mappings n offset it r).rest.end ≡ offset + len) × Fits (work_for (read_page L p.nodes p.mappings n offset it r).state)
      unfolding read_page read_by read_through look_read
      read-turn it r (e, o) =
          split (less it.begin it.end)
          (λ l.
          let c = cut L (some_length L (node_of p.nodes n).size it.begin it.end l (omega arith)) it l in
          let b = c.block in
          rw c.next
          (let g = commit_leaf L p.nodes p.mappings (work_for r) n b.block false in
          let f = look_fits (work_for r) o false n b.block leaf (block_inside L offset len (node_of p.nodes n).size it b c.rest c.first l e inside) in (
            rest_end (against_read g.answer) it c.rest e c.first.to_end,
            record { few = f.few; pages = f.pages; used = f.used; memory = f.memory; entries = f.entries },
          )))
          (λ past. rw (none L it (omega arith)) (e, o))

    pub write_fits : (offset : ℕ) (bytes : List ℕ) → offset + length bytes ≤ (node_of p.nodes n).size * L → (w : Work) → Fits w → Fits (write_range L p.nodes p.mappings n offset bytes w).state
    unfolding write_range
    write_fits offset bytes inside w o =
        (each_holds (write_page L p.nodes p.mappings n offset bytes) (λ it w. (it.end ≡ offset + length bytes) × Fits w) (write-turn offset (length bytes) inside bytes) _ _ w (refl, o)).1

    pub read_fits : (offset : ℕ) (r : Read) → offset + length r.buf ≤ (node_of p.nodes n).size * L → Fits (work_for r) → Fits (work_for (read_range L p.nodes p.mappings n offset r).state)
    unfolding read_range
    read_fits offset r inside o =
        (each_holds (read_page L p.nodes p.mappings n offset) (λ it q. (it.end ≡ offset + length r.buf) × Fits (work_for q)) (read-turn offset (length r.buf) inside) _ _ r (refl, o)).1
