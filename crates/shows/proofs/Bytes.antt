-- A buffer filled whole is the frame's bytes, or the zero page. Assumes nothing.
use Rattle.std.specs.Prelude.{Ok, Some, None}
use Rattle.lookup.specs.Commit.{Committed}
use mathlib.Core.Path.{◌≡◌, sym, ap, ◌∙◌}
use mathlib.Core.Bool.{true}
use mathlib.Core.List.{List}
use Prim.Native.Nat.{ℕ, ◌+◌, ◌-◌, ◌*◌, ◌≤◌, ◌<◌}
use native.Mathlib.Omega.{arith}
use lib.Dec.{eqb}
use lib.ListN.{length, get_or, take, drop, replicate, length-drop, length-replicate, get_or-replicate}
use lib.Seq.{length-take-le, get_or-take, get_or-drop, ext_get_or}
use borrow.Author.Tests.{eqb-true, eq-eqb, le-leb}
use Rattle.logic.specs.Below.{all_below, copied, zeroed}
use Rattle.logic.proofs.Laws.{and_left, and_right, and_both, all_below_lem, below_all, copied-length, zeroed-length}
use Rattle.blocks.specs.declared.BlockRange.{BlockRange}
use Rattle.frames.specs.Frames.{pasted_at, blank_at}
use Rattle.lookup.specs.declared.End.{End}
use Rattle.lookup.specs.declared.End.TheVariants.{Has, Bare, Tired}
use Rattle.page.specs.Pages.{fetched_by}
use Rattle.peek.specs.Peek.{blank_byte, zero_page_of, shown_by, frame_bytes, shown_at}
use Rattle.shows.specs.Shows.{ReadAs}
use Rattle.lookups.proofs.Bytes.{frame_room, copied_inside, zeroed_inside}

-- n elements from place b on

part_length : (m : List ℕ) (b n : ℕ) → b + n ≤ length m → length (take n (drop b m)) ≡ n
part_length m b n r = let d = length-drop b m in length-take-le n (drop b m) (omega arith)

part_at : (m : List ℕ) (b n i : ℕ) → i < n → get_or (take n (drop b m)) i 0 ≡ get_or m (b + i) 0
part_at m b n i l = get_or-take n (drop b m) i 0 l ∙ get_or-drop b m i 0

pub copied_whole : (buf m : List ℕ) (b n : ℕ) → length buf ≡ n → b + n ≤ length m → copied buf 0 m b n ≡ take n (drop b m)
copied_whole buf m b n l r =
    let c = copied-length buf 0 m b n in
    let d = part_length m b n r in
    ext_get_or 0 (copied buf 0 m b n) (take n (drop b m)) (omega arith)
    (λ i h.
    let z : 0 + i ≡ i = omega arith in
    (rw z at (copied_inside buf 0 m b n i (omega arith) (omega arith))) ∙ sym (part_at m b n i (omega arith)))

-- the zero page is L zeros

pub zeros_good : (L : ℕ) → zero_page_of L (replicate L 0) ≡ true
unfolding zero_page_of blank_byte
zeros_good L =
    and_both (eq-eqb (length (replicate L 0)) L (length-replicate L 0))
    (below_all (blank_byte (replicate L 0)) L (λ i l. eq-eqb (get_or (replicate L 0) i 0) 0 (get_or-replicate L i 0 0 l)))

module _ (L : ℕ) (zero : List ℕ) (good : zero_page_of L zero ≡ true) where
  pub zero_length : length zero ≡ L
  unfolding zero_page_of
  zero_length = eqb-true (length zero) L (and_left (eqb (length zero) L) (all_below (blank_byte zero) L) good)

  pub zero_byte : (i : ℕ) → i < L → get_or zero i 0 ≡ 0
  unfolding zero_page_of blank_byte
  zero_byte i l = eqb-true (get_or zero i 0) 0 (all_below_lem (blank_byte zero) L (and_right (eqb (length zero) L) (all_below (blank_byte zero) L) good) i l)

  pub zeroed_whole : (buf : List ℕ) → length buf ≡ L → zeroed buf 0 L ≡ zero
  zeroed_whole buf l =
      let c = zeroed-length buf 0 L in
      let d = zero_length in
      ext_get_or 0 (zeroed buf 0 L) zero (omega arith)
      (λ i h.
      let z : 0 + i ≡ i = omega arith in
      (rw z at (zeroed_inside buf 0 L i (omega arith) (omega arith))) ∙ sym (zero_byte i (omega arith)))

-- a frame that lies in the memory

module _ (L : ℕ) (m : List ℕ) (f : ℕ) (room : f * L + L ≤ length m) where
  frame_is : frame_bytes L m f ≡ take L (drop (f * L) m)
  unfolding frame_bytes
  frame_is = rw (le-leb (f * L + L) (length m) room)

  pub frame_length : length (frame_bytes L m f) ≡ L
  frame_length = ap length frame_is ∙ part_length m (f * L) L room

  pub frame_byte : (k : ℕ) → k < L → get_or (frame_bytes L m f) k 0 ≡ get_or m (f * L + k) 0
  frame_byte k l = ap (λ (x : List ℕ). get_or x k 0) frame_is ∙ part_at m (f * L) L k l

-- a whole page of a read, and what is shown of the walk's find

module _ (L F : ℕ) (m : List ℕ) (memory : length m ≡ F * L) (zero : List ℕ) (good : zero_page_of L zero ≡ true) where
  room : (f : ℕ) → f < F → f * L + L ≤ length m
  room f l = let r = frame_room L F f l in omega arith

  pub shown-length : (x : End) (z : Committed) → ReadAs F x z → length (shown_at L m zero (shown_by x)) ≡ L
  shown-length (Has s) z a = frame_length L m s.frame (room s.frame a.1)
  shown-length Bare z a = zero_length L zero good
  shown-length Tired z a = absurd a

  module _ (buf : List ℕ) (whole : length buf ≡ L) (b : BlockRange) (begin : b.begin ≡ 0) (end : b.end ≡ L) where
    frame_filled : (f : ℕ) → f < F → frame_bytes L m f ≡ fetched_by L 0 b (Ok (Some f)) m buf
    unfolding fetched_by pasted_at
    frame_filled f l =
        let e : f * L + 0 ≡ f * L = omega arith in
        let d : L - 0 ≡ L = omega arith in
        let r = room f l in
        rw (begin, end, e, d, le-leb (0 + L) (length buf) (omega arith), le-leb (f * L + L) (length m) r)
        (frame_is L m f r ∙ sym (copied_whole buf m (f * L) L whole r))

    zero_filled : zero ≡ fetched_by L 0 b (Ok None) m buf
    unfolding fetched_by blank_at
    zero_filled =
        let d : L - 0 ≡ L = omega arith in
        rw (begin, end, d, le-leb (0 + L) (length buf) (omega arith)) (sym (zeroed_whole L zero good buf whole))

    pub shown-filled : (x : End) (z : Committed) → ReadAs F x z → shown_at L m zero (shown_by x) ≡ fetched_by L 0 b z m buf
    shown-filled (Has s) z a = rw a.0 (frame_filled s.frame a.1)
    shown-filled Bare z a = rw a zero_filled
    shown-filled Tired z a = absurd a
