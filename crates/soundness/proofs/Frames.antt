-- What the tests of the page entries and of the frames in use mean. Assumes nothing.
use mathlib.Core.Path.{◌≡◌, sym, ◌∙◌}
use mathlib.Core.Bool.{◌&&◌}
use mathlib.Core.List.{List}
use Prim.Native.Nat.{ℕ, ◌+◌, ◌*◌, ◌/◌, ◌%◌, ◌≤◌, ◌<◌}
use native.Mathlib.Omega.{arith}
use lib.ListN.{length, get_or, replicate, get_or-replicate, get_or-eq_default}
use Rattle.entry.specs.declared.PageState.{PageState}
use Rattle.entry.specs.Entry.{state_of}
use Rattle.tables.specs.Tables.{entry_of, slot_at}
use Rattle.sound.specs.Rows.{rows_ok, mark_rows, frame_ok, frames_ok}
use Rattle.sound.specs.Facts.{Holds, Stands, Entries}
use Rattle.logic.proofs.Means.{Means, says, equal, most, less, both, split, below}
use Rattle.soundness.proofs.Records.{entry_is, entry_past, entry_out}
use Rattle.soundness.proofs.Slots.{parts, holds}
use Rattle.soundness.proofs.Entries.{Row, rows_mean}
use Rattle.soundness.proofs.Marks.{Tally, Shows, run_tally, rows_run}

module _ (P : List ℕ) (len : length P ≡ 4096) where
  -- the place of a page that holds a state, and the state held at a place

  record Placed (n i : ℕ) (s : PageState) : Type 0 where
    node : n < 64
    page : i < 64
    shows : Shows (get_or P (n * 64 + i) 0) (s.frame + 1)

  placed : (n i : ℕ) (s : PageState) → Holds P n i s → Placed n i s
  unfolding slot_at
  placed n i s x =
      let p = parts (entry_of P n i) x in
      let node : n < 64 = split (less n 64) (λ l. l) (λ out. let e = entry_out P len n i (omega arith) in absurd (omega arith)) in
      let page : i < 64 = split (less i 64) (λ l. l) (λ out. let e = entry_past P n i (omega arith) in absurd (omega arith)) in
      let e = entry_is P n i page in
      record { node = node; page = page; shows = (λ z. omega arith, omega arith) }

  standing : (f a : ℕ) → Shows (get_or P a 0) (f + 1) → (s : PageState) × Holds P (a / 64) (a % 64) s × (s.frame ≡ f)
  unfolding slot_at
  standing f a w =
      let q : a / 64 * 64 + a % 64 ≡ a = omega arith in
      let e : entry_of P (a / 64) (a % 64) ≡ get_or P a 0 = rw q at (entry_is P (a / 64) (a % 64) (omega arith)) in
      let x = holds (get_or P a 0) (λ z. omega arith) in
      let p = parts (get_or P a 0) x in
      (state_of (get_or P a 0), rw e x, omega arith)

  -- each frame is marked

  abbrev marks : List ℕ
  marks = mark_rows P 64 (replicate 1025 0)

  module _ (N used : List ℕ) (few : length used ≤ 1024) where
    abbrev mark : ℕ → ℕ
    mark f = get_or marks (f + 1) 0

    tally : (f : ℕ) → f < length used → Tally (λ a. Shows (get_or P a 0) (f + 1)) 4096 (mark f)
    tally f h =
        let l : f + 1 < 1025 = omega arith in
        rw (rows_run P (replicate 1025 0) 64) (run_tally (λ a. get_or P a 0) (f + 1) (replicate 1025 0) l (get_or-replicate 1025 (f + 1) 0 0 l) 4096)

    abbrev Frames : Type 0
    Frames = (f : ℕ) → f < length used → (get_or used f 0 ≡ mark f) × (get_or used f 0 ≤ 1)

    frames_mean : Means (frames_ok used marks) Frames
    unfolding frames_ok frame_ok
    frames_mean = below (frame_ok used marks) (length used) (λ f. both (equal _ _) (most _ _))

    module _ (rows : (n : ℕ) → Row N P (length used) n) (frames : Frames) where
      low : (n i : ℕ) (s : PageState) → Holds P n i s → s.frame < length used
      unfolding slot_at
      low n i s x = ((rows n).0 i).frames s x

      one_entry : (n i m j : ℕ) (s t : PageState) → Holds P n i s → Holds P m j t → s.frame ≡ t.frame → (n ≡ m) × (i ≡ j)
      one_entry n i m j s t x y e =
          let a = placed n i s x in
          let b = placed m j t y in
          let l = low n i s x in
          let u = frames s.frame l in
          let q = (tally s.frame l).one_place (omega arith) (n * 64 + i) (m * 64 + j) (omega arith) (omega arith) a.shows (b.shows.0, omega arith) in
          omega arith

      entry_of_lem : (f : ℕ) → f < length used → get_or used f 0 ≡ 1 → Stands P f
      entry_of_lem f l u =
          let q = frames f l in
          let a = (tally f l).somewhere (omega arith) in
          let s = standing f a.0 a.2 in
          record { node = a.0 / 64; page = a.0 % 64; state = s.0; holds = s.1; frame = s.2 }

      entry_used : (n i : ℕ) (s : PageState) → Holds P n i s → get_or used s.frame 0 ≡ 1
      entry_used n i s x =
          let a = placed n i s x in
          let l = low n i s x in
          let u = frames s.frame l in
          let ne : mark s.frame ≡ 0 → ⊥ = λ z. (tally s.frame l).nowhere z (n * 64 + i) (omega arith) a.shows in
          omega arith

      flag : (f : ℕ) → get_or used f 0 ≤ 1
      flag f = split (less f (length used)) (λ l. (frames f l).1) (λ out. let e = get_or-eq_default used 0 {n = f} (omega arith) in omega arith)

      entries : Entries N P used
      unfolding slot_at
      entries =
          record {
            once = one_entry;
            stands = entry_of_lem;
            in_use = entry_used;
            leaves = λ n i s. ((rows n).0 i).leaves s;
            below = λ n i s. ((rows n).0 i).below s;
            pins = λ n i s x. let p = parts (entry_of P n i) x in omega arith;
            hidden_pins = λ n i s. ((rows n).0 i).hidden_pins s;
            pin_sum = λ n. (rows n).1;
            frames = low;
            flags = flag;
            empty = λ n i. ((rows n).0 i).empty;
            held = λ n i s. ((rows n).0 i).held s;
          }

    -- and back

    module _ (s : Entries N P used) where
      rows_back : (n : ℕ) → Row N P (length used) n
      unfolding slot_at
      rows_back n = (
        λ i. record {
          empty = s.empty n i;
          held = s.held n i;
          frames = s.frames n i;
          below = s.below n i;
          leaves = s.leaves n i;
          hidden_pins = s.hidden_pins n i;
        },
        s.pin_sum n,
      )

      unused : (f : ℕ) → f < length used → get_or used f 0 ≡ 0 → mark f ≡ 0
      unused f l z =
          split (equal (mark f) 0) (λ e. e)
          (λ ne.
          let a = (tally f l).somewhere (omega arith) in
          let t = standing f a.0 a.2 in
          let u = rw t.2 at (s.in_use (a.0 / 64) (a.0 % 64) t.0 t.1) in
          absurd (omega arith))

      marked : (f : ℕ) → f < length used → get_or used f 0 ≡ 1 → mark f ≡ 1
      marked f l u =
          let w = s.stands f l u in
          let p = placed w.node w.page w.state w.holds in
          let t = tally f l in
          let ne : mark f ≡ 0 → ⊥ = λ z. t.nowhere z (w.node * 64 + w.page) (omega arith) (p.shows.0, let e = w.frame in omega arith) in
          let once =
          t.once (λ a b l r c d.
          let x = standing f a c in
          let y = standing f b d in
          let q = s.once (a / 64) (a % 64) (b / 64) (b % 64) x.0 y.0 x.1 y.1 (x.2 ∙ sym y.2) in
          omega arith) in
          omega arith

      frames_back : Frames
      frames_back f l =
          let b = s.flags f in
          let e : get_or used f 0 ≡ mark f =
          split (equal (get_or used f 0) 0) (λ z. z ∙ sym (unused f l z)) (λ ne. let u : get_or used f 0 ≡ 1 = omega arith in u ∙ sym (marked f l u)) in
          (e, b)

    pub entries_mean : Means (rows_ok N P (length used) && frames_ok used marks) (Entries N P used)
    entries_mean = says (both (rows_mean N P (length used) len) frames_mean) (λ q. entries q.0 q.1) (λ s. (rows_back s, frames_back s))
