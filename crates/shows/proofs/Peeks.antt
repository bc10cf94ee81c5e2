-- Peek shows the bytes that a read of the page gives; it shows none exactly where that read is refused or the zero page isn't L zeros. Assumes nothing.
use Rattle.std.specs.Prelude.{Ok, Err}
use mathlib.Core.Path.{◌≡◌, refl, ap}
use mathlib.Core.Bool.{Bool, true, false}
use mathlib.Core.List.{List, []}
use mathlib.Core.Logic.{◌⊎◌, inl, inr}
use Prim.Native.Nat.{ℕ, ◌*◌, ◌≤◌}
use native.Mathlib.Omega.{arith}
use lib.ListN.{length}
use Rattle.logic.specs.Pick.{pick}
use Rattle.tables.specs.Pool.{Pool}
use Rattle.sound.specs.Facts.{Leaf, Sound}
use Rattle.soundness.proofs.Soundness.{sound_facts}
use Rattle.lookup.specs.Mode.{today, place_of}
use Rattle.lookup.specs.Descent.{walk}
use Rattle.outcome.specs.declared.answer.Refusal.{Refusal}
use Rattle.outcome.specs.declared.answer.Refusal.TheVariants.{BadPool, NoObject}
use Rattle.outcome.specs.Answers.{unless, Checked, Answer}
use Rattle.outcome.specs.Outcome.{Outcome, refused}
use Rattle.pool.specs.Calls.{entered, on_entered, on_object}
use Rattle.pool.proofs.Laws.{enters}
use Rattle.page.specs.Pages.{read_of}
use Rattle.ranges.specs.Ranges.{filled, against_reading, read_range, read_at, read}
use Rattle.peek.specs.declared.Shown.{Shown}
use Rattle.peek.specs.declared.Shown.TheVariants.{Nowhere}
use Rattle.peek.specs.Peek.{zero_page_of, shown_by, place_at, place, shown_at, peek}
use Rattle.shows.specs.Shows.{Peeked, ReadRefused, bytes_read, peek_by_read}
use Rattle.shows.specs.Shows.Peeked.{nothing, bytes}
use Rattle.shows.proofs.Whole.{page-read}

-- where a test fails nothing is shown, whatever the page length

module _ (L : ℕ) (p : Pool) (zero : List ℕ) (object page : ℕ) where
  at_good : (b : Bool) (x : Shown) → (zero_page_of L zero ≡ true → x ≡ Nowhere) → zero_page_of L zero ≡ b → shown_at L p.memory zero (pick b x Nowhere) ≡ []
  at_good true x n e = rw (n e)
  at_good false x n e = refl

  nowhere : on_object L p object (λ r. Nowhere) (λ n. place_at L p n page) ≡ Nowhere → peek L p zero object page ≡ []
  unfolding peek place
  nowhere e = at_good (zero_page_of L zero) _ (λ g. e) refl

  pub peek_zero : zero_page_of L zero ≡ false → peek L p zero object page ≡ []
  unfolding peek place
  peek_zero e = rw e

  pub peek_unentered : {r : Refusal} → entered L p object ≡ Err r → peek L p zero object page ≡ []
  unfolding on_object on_entered
  peek_unentered e = nowhere (rw e)

-- next to the read

module _ (L : ℕ) (p : Pool) (zero : List ℕ) (object page : ℕ) (buf : List ℕ) (whole : length buf ≡ L) where
  abbrev shown : List ℕ
  shown = peek L p zero object page

  abbrev given : Outcome Answer
  given = read L p object (page * L) buf

  module _ (good : zero_page_of L zero ≡ true) where
    node_by : Sound L p → Leaf p.nodes object → (a : Checked)
        → Peeked L (shown_at L p.memory zero (unless a (λ r. Nowhere) (shown_by (walk (today L p.nodes p.mappings) 64 p.pages (place_of object page object)).end)))
        (unless a (refused p [] buf) (filled p (read_range L p.nodes p.mappings object (page * L) (read_of p.pages p.used p.memory buf))))
    node_by s leaf (Err r) = nothing r refl refl
    node_by s leaf (Ok tt) = page-read L p s object page leaf zero good buf whole

    pub peek-called : Peeked L shown given
    unfolding peek place on_object on_entered place_at read_at
    peek-called =
        rw good
        (enters
        (λ e. Peeked L (shown_at L p.memory zero (on_entered (λ r. Nowhere) (λ n. place_at L p n page) e)) (on_entered (refused p [] buf) (λ n. read_at L p n (page * L) buf) e))
        L p object (λ s. nothing BadPool refl refl) (nothing NoObject refl refl)
        (λ s l leaf. rw whole (node_by (sound_facts L p s) leaf (against_reading L p.nodes object (page * L) L))))

    pub peek_is_read : (v : ℕ) → given.answer ≡ Ok v → shown ≡ given.buf
    peek_is_read v h = by peek-called
      where
        by : Peeked L shown given → shown ≡ given.buf
        by (nothing why e n) = let z : ◌≡◌ {A = ℕ} 0 1 = cc in absurd (omega arith)
        by (bytes e b l) = b

  pub peek-refused : (why : Refusal) → given.answer ≡ Err why → shown ≡ []
  peek-refused why h = by (zero_page_of L zero) refl
    where
      called : Peeked L shown given → shown ≡ []
      called (nothing why e n) = n
      called (bytes e b l) = let z : ◌≡◌ {A = ℕ} 0 1 = cc in absurd (omega arith)

      by : (g : Bool) → zero_page_of L zero ≡ g → shown ≡ []
      by true g = called (peek-called g)
      by false g = peek_zero L p zero object page g

  pub empty_peek : (zero_page_of L zero ≡ false) ⊎ ReadRefused given → shown ≡ []
  empty_peek (inl bad) = peek_zero L p zero object page bad
  empty_peek (inr r) = peek-refused r.why r.answer

  -- pages of no bytes are shown empty, and read
  pub peek_empty : 1 ≤ L → shown ≡ [] → (zero_page_of L zero ≡ false) ⊎ ReadRefused given
  peek_empty one h = by (zero_page_of L zero) refl
    where
      called : Peeked L shown given → ReadRefused given
      called (nothing why e n) = record { why = why; answer = e }
      called (bytes e b l) = let z = ap length h in absurd (omega arith)

      by : (g : Bool) → zero_page_of L zero ≡ g → (zero_page_of L zero ≡ false) ⊎ ReadRefused given
      by true g = inr (called (peek-called g))
      by false g = inl g

  -- document 01's sentence, for any buffer of a page's length
  pub peek_by_read_lem : shown ≡ peek_by_read L p zero object page buf
  peek_by_read_lem = by (zero_page_of L zero) refl
    where
      called : Peeked L shown given → shown ≡ bytes_read given.answer given.buf
      called (nothing why e n) = rw e n
      called (bytes e b l) = rw e b

      by : (g : Bool) → zero_page_of L zero ≡ g → shown ≡ pick g (bytes_read given.answer given.buf) []
      by true g = called (peek-called g)
      by false g = peek_zero L p zero object page g
