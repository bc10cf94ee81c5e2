-- The bytes of the arrays after a block of them was written. Assumes nothing.
use mathlib.Core.Path.{◌≡◌, refl, sym, ◌∙◌}
use mathlib.Core.Bool.{Bool, true, false, ◌&&◌}
use mathlib.Core.List.{List}
use Prim.Native.Nat.{ℕ, ◌+◌, ◌-◌, ◌*◌, ◌≤◌, ◌<◌}
use native.Mathlib.Omega.{arith}
use lib.Dec.{eqb}
use lib.ListN.{get_or}
use borrow.Author.Tests.{eq-eqb, ne_eqb, le-leb, lt-leb, lt-ltb, le-ltb}
use Rattle.logic.specs.Pick.{pick}
use Rattle.logic.proofs.Means.{equal, less, split}
use Rattle.tables.specs.Pool.{Pool}
use Rattle.isolation.specs.Private.{Private, put}
use Rattle.isolation.proofs.Put.{put_in, put_before, put-after, put_other}
use Rattle.arrays.specs.Arrays.{write_array}
use Rattle.lookups.proofs.Spots.{Spot, spot}
use Rattle.lookups.proofs.Spots.Spot.{there, elsewhere}
use Rattle.lookups.proofs.Bytes.{frame_one}

-- only the bytes inside pages matter
pub private_alike : (L : ℕ) (A B : ℕ → ℕ → ℕ → ℕ) (p : Pool) → ((m i k : ℕ) → k < L → A m i k ≡ B m i k) → Private L A p → Private L B p
private_alike L A B p same P =
    record {
      sound = P.sound;
      windows = P.windows;
      shows = λ l i leaf low.
          let s = P.shows l i leaf low in
          record { source = s.source; view = s.view; bytes = λ k h. s.bytes k h ∙ same l i k h };
    }

module _ (L : ℕ) (A : ℕ → ℕ → ℕ → ℕ) (n offset : ℕ) (bytes : List ℕ) where
  pub write_in : (d i k : ℕ) → offset ≤ i * L + k → i * L + k < offset + d → write_array L A n offset bytes d n i k ≡ get_or bytes (i * L + k - offset) 0
  unfolding write_array
  write_in d i k a b = rw (eq-eqb n n refl, le-leb offset (i * L + k) a, lt-ltb (i * L + k) (offset + d) b)

  pub write_before : (d m i k : ℕ) → i * L + k < offset → write_array L A n offset bytes d m i k ≡ A m i k
  unfolding write_array
  write_before d m i k a = rw (lt-leb offset (i * L + k) a) (by (eqb m n))
    where
      by : (b : Bool) → pick (b && false) (get_or bytes (i * L + k - offset) 0) (A m i k) ≡ A m i k
      by true = refl
      by false = refl

  pub write-after : (d m i k : ℕ) → offset + d ≤ i * L + k → write_array L A n offset bytes d m i k ≡ A m i k
  unfolding write_array
  write-after d m i k a = rw (le-leb offset (i * L + k) (omega arith), le-ltb (i * L + k) (offset + d) a) (by (eqb m n))
    where
      by : (b : Bool) → pick (b && false) (get_or bytes (i * L + k - offset) 0) (A m i k) ≡ A m i k
      by true = refl
      by false = refl

  pub write-other : (d m i k : ℕ) → (m ≡ n → ⊥) → write_array L A n offset bytes d m i k ≡ A m i k
  unfolding write_array
  write-other d m i k ne = rw (ne_eqb m n ne)

  -- no byte done leaves the arrays as they were
  pub write-none : (m i k : ℕ) → write_array L A n offset bytes 0 m i k ≡ A m i k
  write-none m i k =
      split (less (i * L + k) offset) (λ lo. write_before 0 m i k lo) (λ hi. write-after 0 m i k (omega arith))

  -- a byte that does not lie in the next c is what it was
  write_more : (d c m i k : ℕ) → (offset + d ≤ i * L + k → i * L + k < offset + d + c → ⊥) → write_array L A n offset bytes d m i k ≡ write_array L A n offset bytes (d + c) m i k
  unfolding write_array
  write_more d c m i k out =
      split (less (i * L + k) (offset + d))
      (λ lo. rw (lt-ltb (i * L + k) (offset + d) lo, lt-ltb (i * L + k) (offset + (d + c)) (omega arith)))
      (λ hi.
      split (less (i * L + k) (offset + d + c))
      (λ lo. absurd (out (omega arith) lo))
      (λ past. rw (le-ltb (i * L + k) (offset + d) (omega arith), le-ltb (i * L + k) (offset + (d + c)) (omega arith))))

  -- the next c bytes, put into page i at byte `at`, after d bytes were written
  module _ (d i at c : ℕ) (here : offset + d ≡ i * L + at) (fits : at + c ≤ L) where
    abbrev old : ℕ → ℕ → ℕ → ℕ
    old = write_array L A n offset bytes d

    in_page : (k : ℕ) → put old n i at c bytes d n i k ≡ write_array L A n offset bytes (d + c) n i k
    in_page k =
        split (less k at)
        (λ lo. put_before old n i at c bytes d k lo ∙ write_more d c n i k (λ x y. omega arith))
        (λ ge.
        split (less k (at + c))
        (λ hi.
        let e : d + (k - at) ≡ i * L + k - offset = omega arith in
        put_in old n i at c bytes d k (omega arith) hi ∙ (rw e (sym (write_in (d + c) i k (omega arith) (omega arith)))))
        (λ past. put-after old n i at c bytes d k (omega arith) ∙ write_more d c n i k (λ x y. omega arith)))

    pub write_block : (m j k : ℕ) → k < L → put old n i at c bytes d m j k ≡ write_array L A n offset bytes (d + c) m j k
    write_block m j k h = by (spot m j n i)
      where
        by : Spot m j n i → put old n i at c bytes d m j k ≡ write_array L A n offset bytes (d + c) m j k
        by (there x y) = rw (x, y) (in_page k)
        by (elsewhere ne) =
            put_other old n i at c bytes d m j k ne
            ∙ split (equal m n)
            (λ x. write_more d c m j k (λ a b. ne x (frame_one L j i k (j * L + k - i * L) h (omega arith) (omega arith))))
            (λ no. write-other d m j k no ∙ sym (write-other (d + c) m j k no))
