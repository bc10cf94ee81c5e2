-- The frames' bytes after a frame was cleared, copied or written in part, for pages of L bytes. Assumes nothing.
use mathlib.Core.Path.{◌≡◌, refl, sym, ap, ◌∙◌}
use mathlib.Core.List.{List}
use Prim.Native.Nat.{ℕ, zero, suc, ◌+◌, ◌*◌, ◌/◌, ◌≤◌, ◌<◌}
use native.Mathlib.Omega.{arith}
use native.Mathlib.Nat.{suc-mul, mul-le-mul_right}
use lib.Arith.{digits_div}
use lib.ListN.{length, get_or}
use lib.Seq.{get_or-set_same, get_or-set_other}
use borrow.Author.Tests.{le-leb}
use Rattle.logic.specs.Below.{copied, zeroed}
use Rattle.logic.proofs.Means.{equal, split}
use Rattle.logic.proofs.Laws.{copied-length, zeroed-length, copied_outside}
use Rattle.frames.specs.Frames.{pasted_at, blank_at, cleared_at, copied_at}

-- frames lie apart, and inside the memory

pub frame_one : (L f g k j : ℕ) → k < L → j < L → f * L + k ≡ g * L + j → f ≡ g
frame_one L f g k j a b e = sym (digits_div f a) ∙ ap (λ (x : ℕ). x / L) e ∙ digits_div g b

pub frame_room : (L F f : ℕ) → f < F → f * L + L ≤ F * L
frame_room L F f l = let m = mul-le-mul_right {m = suc f} {n = F} L (omega arith) in let e = suc-mul f L in omega arith

-- zeros

pub zeroed_outside : (d : List ℕ) (a n i : ℕ) → ((k : ℕ) → k < n → i ≡ a + k → ⊥) → get_or (zeroed d a n) i 0 ≡ get_or d i 0
unfolding zeroed
zeroed_outside d a zero i h = refl
zeroed_outside d a (suc n) i h = get_or-set_other (zeroed d a n) (a + n) i 0 0 (h n (omega arith)) ∙ zeroed_outside d a n i (λ k l. h k (omega arith))

pub zeroed_inside : (d : List ℕ) (a n j : ℕ) → j < n → a + n ≤ length d → get_or (zeroed d a n) (a + j) 0 ≡ 0
unfolding zeroed
zeroed_inside d a zero j h l = absurd (omega arith)
zeroed_inside d a (suc n) j h l =
    split (equal j n)
    (λ e. let s = zeroed-length d a n in rw e (get_or-set_same (zeroed d a n) (a + n) 0 0 (omega arith)))
    (λ ne. get_or-set_other (zeroed d a n) (a + n) (a + j) 0 0 (λ e. ne (omega arith)) ∙ zeroed_inside d a n j (omega arith) (omega arith))

-- bytes of another list

pub copied_inside : (d : List ℕ) (a : ℕ) (s : List ℕ) (b n j : ℕ) → j < n → a + n ≤ length d → get_or (copied d a s b n) (a + j) 0 ≡ get_or s (b + j) 0
unfolding copied
copied_inside d a s b zero j h l = absurd (omega arith)
copied_inside d a s b (suc n) j h l =
    split (equal j n)
    (λ e. let z = copied-length d a s b n in rw e (get_or-set_same (copied d a s b n) (a + n) (get_or s (b + n) 0) 0 (omega arith)))
    (λ ne. get_or-set_other (copied d a s b n) (a + n) (a + j) (get_or s (b + n) 0) 0 (λ e. ne (omega arith)) ∙ copied_inside d a s b n j (omega arith) (omega arith))

module _ (d : List ℕ) (a : ℕ) (s : List ℕ) (b n : ℕ) (room : a + n ≤ length d) (enough : b + n ≤ length s) where
  pub pasted_length : length (pasted_at d a s b n) ≡ length d
  unfolding pasted_at
  pasted_length = rw (le-leb (a + n) (length d) room, le-leb (b + n) (length s) enough) (copied-length d a s b n)

  pub pasted_inside : (j : ℕ) → j < n → get_or (pasted_at d a s b n) (a + j) 0 ≡ get_or s (b + j) 0
  unfolding pasted_at
  pasted_inside j l = rw (le-leb (a + n) (length d) room, le-leb (b + n) (length s) enough) (copied_inside d a s b n j l room)

  pub pasted_outside : (i : ℕ) → ((k : ℕ) → k < n → i ≡ a + k → ⊥) → get_or (pasted_at d a s b n) i 0 ≡ get_or d i 0
  unfolding pasted_at
  pasted_outside i h = rw (le-leb (a + n) (length d) room, le-leb (b + n) (length s) enough) (copied_outside d a s b n i h)

-- frame g cleared, and filled with the bytes of frame f

module _ (L F : ℕ) (m : List ℕ) (len : length m ≡ F * L) (g : ℕ) (in_g : g < F) where
  room_g : g * L + L ≤ length m
  room_g = let r = frame_room L F g in_g in omega arith

  pub cleared-length : length (cleared_at L m g) ≡ F * L
  unfolding cleared_at blank_at
  cleared-length = rw (le-leb (g * L + L) (length m) room_g) (zeroed-length m (g * L) L ∙ len)

  pub cleared_same : (k : ℕ) → k < L → get_or (cleared_at L m g) (g * L + k) 0 ≡ 0
  unfolding cleared_at blank_at
  cleared_same k l = rw (le-leb (g * L + L) (length m) room_g) (zeroed_inside m (g * L) L k l room_g)

  pub cleared-other : (e k : ℕ) → k < L → (e ≡ g → ⊥) → get_or (cleared_at L m g) (e * L + k) 0 ≡ get_or m (e * L + k) 0
  unfolding cleared_at blank_at
  cleared-other e k l ne = rw (le-leb (g * L + L) (length m) room_g) (zeroed_outside m (g * L) L (e * L + k) (λ j i q. ne (frame_one L e g k j l i q)))

  module _ (f : ℕ) (in_f : f < F) where
    room_f : f * L + L ≤ length m
    room_f = let r = frame_room L F f in_f in omega arith

    pub copied_size : length (copied_at L m g f) ≡ F * L
    unfolding copied_at
    copied_size = pasted_length m (g * L) m (f * L) L room_g room_f ∙ len

    pub copied_same : (k : ℕ) → k < L → get_or (copied_at L m g f) (g * L + k) 0 ≡ get_or m (f * L + k) 0
    unfolding copied_at
    copied_same k l = pasted_inside m (g * L) m (f * L) L room_g room_f k l

    pub copied-other : (e k : ℕ) → k < L → (e ≡ g → ⊥) → get_or (copied_at L m g f) (e * L + k) 0 ≡ get_or m (e * L + k) 0
    unfolding copied_at
    copied-other e k l ne = pasted_outside m (g * L) m (f * L) L room_g room_f (e * L + k) (λ j i q. ne (frame_one L e g k j l i q))
