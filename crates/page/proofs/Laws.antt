-- One law for each way through one page. Assumes nothing.
use Rattle.std.specs.Prelude.{Option, Ok, Some, None, Err}
use Rattle.outcome.specs.Answers.{Checked}
use mathlib.Core.Path.{◌≡◌, refl}
use mathlib.Core.Bool.{true}
use mathlib.Core.List.{List}
use Prim.Native.Nat.{ℕ, ◌-◌, ◌≤◌, ◌<◌}
use native.Mathlib.Omega.{arith}
use Rattle.node.specs.Node.{byte_limit}
use Rattle.blocks.specs.declared.BlockIter.{BlockIter}
use Rattle.blocks.specs.declared.BlockRange.{BlockRange}
use Rattle.blocks.specs.Blocks.{next_of}
use Rattle.blocks.proofs.Cut.{First, first_of}
use Rattle.lookup.specs.Work.{Work}
use Rattle.lookup.specs.Commit.{committing_of, commit_leaf, Committed}
use Rattle.outcome.specs.declared.answer.Refusal.{Refusal}
use Rattle.outcome.specs.declared.answer.Refusal as R
use Rattle.page.specs.Each.{part_of}
use Rattle.page.specs.Pages.{stored_by, wrote_page, write_by, write_page, read_of, against_read, fetched_by, read_through, glance_of, look_read, read_by, read_page}

-- the block's place and length are small
module _ (offset : ℕ) (it : BlockIter) {b : BlockRange} {rest : BlockIter} (h : next_of 4096 it ≡ Some (b, rest)) where
  pub block_first : First it b rest
  block_first = first_of it h

  pub block_number : it.end ≤ byte_limit → b.block < 4294967296
  block_number l = let f = block_first in omega (arith, l, f.starts, f.goes_on, f.within, f.some)

  pub block_small : offset ≤ it.begin → it.end ≤ byte_limit → (b.begin ≤ b.end) × (b.end ≤ 4096) × (it.begin - offset ≤ byte_limit)
  block_small o l = let f = block_first in (omega (arith, f.some), f.inside, omega (arith, l, f.starts, f.goes_on, f.within, f.some))

  pub rest_fits : offset ≤ it.begin → it.end ≤ byte_limit → (offset ≤ rest.begin) × (rest.end ≤ byte_limit)
  rest_fits o l = let f = block_first in (omega (arith, o, f.starts, f.goes_on, f.some), omega (arith, l, f.to_end))

-- one page of a write
module _ (N M : List ℕ) (node offset : ℕ) (bytes : List ℕ) (it : BlockIter) (w : Work) where
  pub write-none : next_of 4096 it ≡ None → part_of (Ok tt) it w ≡ write_page 4096 N M node offset bytes it w
  unfolding write_page write_by
  write-none h = rw h

  module _ {b : BlockRange} {rest : BlockIter} {k : Committed} {v : Work} (h : next_of 4096 it ≡ Some (b, rest)) (l : committing_of k v ≡ commit_leaf 4096 N M w node b.block true) where
    pub write_refused : {r y : Refusal} {a : Checked} → k ≡ Err r → a ≡ Err y → y ≡ r → part_of a it v ≡ write_page 4096 N M node offset bytes it w
    unfolding write_page write_by wrote_page stored_by
    write_refused q a y = rw (a, y, h, ← l, q)

    pub write_stops : {o : Option ℕ} → k ≡ Ok o → o ≡ None → part_of (Err R.TheVariants.Stopped) it v ≡ write_page 4096 N M node offset bytes it w
    unfolding write_page write_by wrote_page stored_by
    write_stops q n = rw (h, ← l, q, n)

    pub write_on : {o : Option ℕ} {f : ℕ} {v' : Work} → k ≡ Ok o → o ≡ Some f → v' ≡ stored_by 4096 bytes (it.begin - offset) b (Ok (Some f)) v → part_of (Ok tt) rest v' ≡ write_page 4096 N M node offset bytes it w
    unfolding write_page write_by wrote_page
    write_on q f s = rw (h, ← l, q, f, s)

-- one page of a read
module _ (N M : List ℕ) (node offset : ℕ) (it : BlockIter) (P U Y buf : List ℕ) where
  pub read_none : next_of 4096 it ≡ None → part_of (Ok tt) it (read_of P U Y buf) ≡ read_page 4096 N M node offset it (read_of P U Y buf)
  unfolding read_page read_by
  read_none h = rw h

  module _ {b : BlockRange} {rest : BlockIter} {k : Committed} {P' U' Y' : List ℕ} (h : next_of 4096 it ≡ Some (b, rest)) (l : glance_of k P' U' Y' ≡ look_read 4096 N M P U Y node b.block) where
    pub read_refused : {r y : Refusal} {a : Checked} → k ≡ Err r → a ≡ Err y → y ≡ r → part_of a it (read_of P' U' Y' buf) ≡ read_page 4096 N M node offset it (read_of P U Y buf)
    unfolding read_page read_by read_through fetched_by
    read_refused q a y = rw (a, y, h, ← l, q)

    pub read_on : {o : Option ℕ} {B Z : List ℕ} → k ≡ Ok o → Z ≡ Y' → B ≡ fetched_by 4096 (it.begin - offset) b (Ok o) Z buf → part_of (Ok tt) rest (read_of P' U' Y' B) ≡ read_page 4096 N M node offset it (read_of P U Y buf)
    unfolding read_page read_by read_through
    read_on {o} q z s = rw (h, ← l, q, s, z, by o)
      where
        by : (o : Option ℕ) → against_read (Ok o) ≡ Ok tt
        by (Some f) = refl
        by None = refl
