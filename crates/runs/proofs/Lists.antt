-- The bytes of arrays that are copied, written and read, one at a time. Assumes nothing.
use mathlib.Core.Path.{◌≡◌, sym, ap, ◌∙◌}
use mathlib.Core.Bool.{◌&&◌}
use mathlib.Core.List.{List, ◌++◌}
use Prim.Native.Nat.{ℕ, ◌+◌, ◌-◌, ◌*◌, ◌/◌, ◌%◌, ◌≤◌, ◌<◌}
use native.Mathlib.Omega.{arith}
use native.Mathlib.Nat.{div-add-mod'}
use lib.Dec.{leb, ltb}
use lib.ListN.{length, get_or, take, drop, replicate, length-drop, get_or-replicate, length-replicate, get_or-eq_default, get_or-append}
use lib.Seq.{length-take-le, get_or-take, get_or-drop, get_or-append-add, paste-zero, length_paste_head, length-paste, ext_get_or}
use borrow.Author.Tests.{le-leb, lt-leb, lt-ltb, le-ltb}
use Rattle.logic.specs.Pick.{pick}
use Rattle.logic.proofs.Means.{less, split}
use Rattle.runs.specs.Arrays.{overwritten}

-- zeros, and past their end zeros too
pub zeros_at : (n x : ℕ) → get_or (replicate {A = ℕ} n 0) x 0 ≡ 0
zeros_at n x =
    split (less x n) (λ l. get_or-replicate {A = ℕ} n x 0 0 l)
    (λ out. let e = length-replicate {A = ℕ} n 0 in get_or-eq_default (replicate {A = ℕ} n 0) 0 {n = x} (omega arith))

-- bytes put in place of others

pub overwritten-none : (a : List ℕ) (offset : ℕ) (bytes : List ℕ) → overwritten a offset bytes 0 ≡ a
overwritten-none a offset bytes = sym (paste-zero a offset bytes)

module _ (a : List ℕ) (offset : ℕ) (bytes : List ℕ) (done : ℕ) (inside : offset + done ≤ length a) (among : done ≤ length bytes) where
  pub overwritten-length : length (overwritten a offset bytes done) ≡ length a
  overwritten-length = length-paste a offset bytes done inside among

  abbrev head : List ℕ
  head = take offset a ++ take done bytes

  head-length : length head ≡ offset + done
  head-length = length_paste_head a offset bytes done (omega arith) among

  first-length : length (take offset a) ≡ offset
  first-length = length-take-le offset a (omega arith)

  in_head : (x : ℕ) → x < offset + done → get_or (overwritten a offset bytes done) x 0 ≡ get_or head x 0
  in_head x l = let e = head-length in get_or-append head (drop (offset + done) a) 0 x (omega arith)

  before : (x : ℕ) → x < offset → get_or (overwritten a offset bytes done) x 0 ≡ get_or a x 0
  before x l =
      let e = first-length in
      in_head x (omega arith) ∙ get_or-append (take offset a) (take done bytes) 0 x (omega arith) ∙ get_or-take offset a x 0 l

  there : (x : ℕ) → offset ≤ x → x < offset + done → get_or (overwritten a offset bytes done) x 0 ≡ get_or bytes (x - offset) 0
  there x o l =
      let e : x ≡ length (take offset a) + (x - offset) = let f = first-length in omega arith in
      in_head x l ∙ ap (λ (y : ℕ). get_or head y 0) e ∙ get_or-append-add (take offset a) (take done bytes) (x - offset) 0
      ∙ get_or-take done bytes (x - offset) 0 (omega arith)

  behind : (x : ℕ) → offset + done ≤ x → get_or (overwritten a offset bytes done) x 0 ≡ get_or a x 0
  behind x o =
      let j = x - (offset + done) in
      let e : x ≡ length head + j = let f = head-length in omega arith in
      let d : offset + done + j ≡ x = omega arith in
      ap (λ (y : ℕ). get_or (overwritten a offset bytes done) y 0) e ∙ get_or-append-add head (drop (offset + done) a) j 0
      ∙ get_or-drop (offset + done) a j 0 ∙ ap (λ (y : ℕ). get_or a y 0) d

  pub overwritten_at : (x : ℕ)
      → get_or (overwritten a offset bytes done) x 0 ≡ pick (leb offset x && ltb x (offset + done)) (get_or bytes (x - offset) 0) (get_or a x 0)
  overwritten_at x =
      split (less x offset)
      (λ lo. before x lo ∙ (rw (lt-leb offset x lo)))
      (λ ge.
      split (less x (offset + done))
      (λ hi. there x (omega arith) hi ∙ (rw (le-leb offset x (omega arith), lt-ltb x (offset + done) hi)))
      (λ past. behind x (omega arith) ∙ (rw (le-leb offset x (omega arith), le-ltb x (offset + done) (omega arith)))))

-- a part that lies inside

module _ (a : List ℕ) (offset len : ℕ) (inside : offset + len ≤ length a) where
  pub part_length : length (take len (drop offset a)) ≡ len
  part_length = let e = length-drop offset a in length-take-le len (drop offset a) (omega arith)

  pub part_at : (x : ℕ) → x < len → get_or (take len (drop offset a)) x 0 ≡ get_or a (offset + x) 0
  part_at x l = get_or-take len (drop offset a) x 0 l ∙ get_or-drop offset a x 0

  -- a list of that length which has the bytes, by page and place, is the part
  pub is_part : (L : ℕ) (got : List ℕ) → length got ≡ len → ((j : ℕ) → j < len → get_or got j 0 ≡ get_or a ((offset + j) / L * L + (offset + j) % L) 0)
      → got ≡ take len (drop offset a)
  is_part L got e f =
      ext_get_or 0 got (take len (drop offset a)) (e ∙ sym part_length)
      (λ j l.
      let h : j < len = omega arith in
      f j h ∙ ap (λ (y : ℕ). get_or a y 0) (div-add-mod' (offset + j) L) ∙ sym (part_at j h))
