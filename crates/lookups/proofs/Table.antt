-- The table of page entries after one entry was written. Assumes nothing.
use Rattle.std.specs.Prelude.{Option, None, Some}
use mathlib.Core.Path.{◌≡◌, refl, ap, ◌∙◌}
use mathlib.Core.Bool.{Bool, true, false}
use mathlib.Core.List.{List}
use Prim.Native.Nat.{ℕ, ◌+◌, ◌*◌, ◌/◌, ◌%◌, ◌≤◌, ◌<◌}
use native.Mathlib.Omega.{arith}
use lib.Dec.{ltb}
use lib.ListN.{length, get_or, set, length-set}
use lib.Seq.{get_or-set_same, get_or-set_other}
use borrow.Author.Tests.{ltb-true, lt-ltb, ne_eqb}
use Rattle.logic.specs.Pick.{pick}
use Rattle.entry.specs.declared.PageState.{PageState}
use Rattle.entry.specs.declared.PageStateTag.{PageStateTag}
use Rattle.entry.specs.declared.PageStateTag.TheVariants.{Owned, LeftSplit, RightSplit}
use Rattle.entry.specs.Entry.{tag_number, tag_of, state_of, slot_of, entry_word}
use Rattle.tables.specs.Tables.{entry_of, slot_at, with_entry, with_state, without_state}
use Rattle.soundness.proofs.Slots.{tag_most}

-- an entry's word holds its state

tag_back : (t : PageStateTag) → tag_of (tag_number t) ≡ t
unfolding tag_of
tag_back Owned = refl
tag_back LeftSplit = refl
tag_back RightSplit = refl

plain_parts : (f t p : ℕ) → f < 4095 → t ≤ 2 → p < 32 → ((f + 1 + 4096 * t + 16384 * p) % 4096 ≡ f + 1) × ((f + 1 + 4096 * t + 16384 * p) / 4096 % 4 ≡ t) × ((f + 1 + 4096 * t + 16384 * p) / 16384 % 32 ≡ p)
plain_parts f t p x y z = omega arith

word_parts : (f t p : ℕ) → f < 4095 → t ≤ 2 → p < 32 → ((f % 4095 + 1 + 4096 * t + 16384 * (p % 32)) % 4096 ≡ f + 1) × ((f % 4095 + 1 + 4096 * t + 16384 * (p % 32)) / 4096 % 4 ≡ t) × ((f % 4095 + 1 + 4096 * t + 16384 * (p % 32)) / 16384 % 32 ≡ p)
word_parts f t p x y z =
    let a : f % 4095 ≡ f = omega arith in
    let b : p % 32 ≡ p = omega arith in
    rw (a, b) (plain_parts f t p x y z)

state_is : (s : PageState) (f p : ℕ) (t : PageStateTag) → f ≡ s.frame → t ≡ s.tag → p ≡ s.pin_count → ◌≡◌ {A = PageState} (record { frame = f; tag = t; pin_count = p }) s
state_is s f p t x y z = rw (x, y, z)

slot_back : (s : PageState) → s.frame < 4095 → s.pin_count < 32 → slot_of (entry_word s) ≡ Some s
unfolding slot_of state_of entry_word
slot_back s l m =
    let q = word_parts s.frame (tag_number s.tag) s.pin_count l (tag_most s.tag) m in
    rw (ne_eqb ((s.frame % 4095 + 1 + 4096 * tag_number s.tag + 16384 * (s.pin_count % 32)) % 4096) 0 (λ z. omega arith))
    (ap Some (state_is s _ _ _ (omega arith) (rw q.1 (tag_back s.tag)) q.2))

-- what was written at (c, r) is read there, and all else as before

abbrev pub word_for : Option PageState → ℕ
word_for None = 0
word_for (Some s) = entry_word s

pub record Wrote (P P' : List ℕ) (c r : ℕ) (y : Option PageState) : Type 0 where
  pub size : length P' ≡ length P
  pub word : entry_of P' c r ≡ word_for y
  pub same : slot_at P' c r ≡ y
  pub words : (a b : ℕ) → (a ≡ c → b ≡ r → ⊥) → entry_of P' a b ≡ entry_of P a b

pub others : {P P' : List ℕ} {c r : ℕ} {y : Option PageState} → Wrote P P' c r y → (a b : ℕ) → (a ≡ c → b ≡ r → ⊥) → slot_at P' a b ≡ slot_at P a b
unfolding slot_at
others w a b ne = ap slot_of (w.words a b ne)

cell_one : (a b c r : ℕ) → b < 64 → r < 64 → (a ≡ c → b ≡ r → ⊥) → a * 64 + b ≡ c * 64 + r → ⊥
cell_one a b c r h k ne e = ne (omega arith) (omega arith)

module _ (P : List ℕ) (c r : ℕ) (page : r < 64) where
  other_by : (v a b : ℕ) (t : Bool) → ltb b 64 ≡ t → (a ≡ c → b ≡ r → ⊥) → pick t (get_or (set P (c * 64 + r) v) (a * 64 + b) 0) 0 ≡ pick t (get_or P (a * 64 + b) 0) 0
  other_by v a b true t ne = get_or-set_other P (c * 64 + r) (a * 64 + b) v 0 (cell_one a b c r (ltb-true b 64 t) page ne)
  other_by v a b false t ne = refl

  words_other : (v a b : ℕ) → (a ≡ c → b ≡ r → ⊥) → entry_of (with_entry P c r v) a b ≡ entry_of P a b
  unfolding entry_of with_entry
  words_other v a b ne = rw (lt-ltb r 64 page) (other_by v a b (ltb b 64) refl ne)

  word_same : (v : ℕ) → c * 64 + r < length P → entry_of (with_entry P c r v) c r ≡ v
  unfolding entry_of with_entry
  word_same v l = rw (lt-ltb r 64 page) (get_or-set_same P (c * 64 + r) v 0 l)

  word_length : (v : ℕ) → length (with_entry P c r v) ≡ length P
  unfolding with_entry
  word_length v = rw (lt-ltb r 64 page) (length-set P (c * 64 + r) v)

  module _ (node : c < 64) (len : length P ≡ 4096) where
    pub wrote_state : (s : PageState) → s.frame < 4095 → s.pin_count < 32 → Wrote P (with_state P c r s) c r (Some s)
    unfolding with_state slot_at
    wrote_state s f n =
        let w = word_same (entry_word s) (omega arith) in
        record { size = word_length (entry_word s); word = w; same = ap slot_of w ∙ slot_back s f n; words = words_other (entry_word s) }

    pub wrote_none : Wrote P (without_state P c r) c r None
    unfolding without_state slot_at slot_of
    wrote_none =
        let w = word_same 0 (omega arith) in
        record { size = word_length 0; word = w; same = ap slot_of w; words = words_other 0 }
