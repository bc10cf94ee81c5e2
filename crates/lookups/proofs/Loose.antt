-- A frame on its way to an entry, and what a step of page lookup leaves, in a sound pool whatever its windows. Assumes nothing.
use Rattle.std.specs.Prelude.{None, Some, Err, Ok as Gave}
use mathlib.Core.Path.{◌≡◌, ap, ◌∙◌}
use mathlib.Core.List.{List}
use Prim.Native.Nat.{ℕ, ◌*◌, ◌≤◌, ◌<◌}
use native.Mathlib.Omega.{arith}
use lib.ListN.{length}
use Rattle.entry.specs.declared.PageState.{PageState}
use Rattle.entry.specs.Entry.{new_state}
use Rattle.tables.specs.Tables.{node_of, slot_at, with_state}
use Rattle.outcome.specs.Told.{Told}
use Rattle.lookup.specs.Work.{Looked, Work, Looking}
use Rattle.lookup.specs.declared.CommitResult.TheVariants.{Ref, Zero, CopyOnWrite, NewPage}
use Rattle.lookup.specs.declared.LookupError.TheVariants.{NoMemory, Stopped}
use Rattle.lookup.specs.Level.{with_told, kept}
use Rattle.sound.specs.Facts.{Hidden, Holds}
use Rattle.lookups.proofs.Table.{Wrote, others, wrote_state}
use Rattle.lookups.proofs.Rows.{Loose, put_in}
use Rattle.lookups.proofs.Ok.{Ok}
use Rattle.lookups.proofs.Base.{Base, depth, page_low, node_low}

module _ (N : List ℕ) (B : Base N) (L F : ℕ) where
  -- frame f, in use, is on its way to an entry
  pub record Hand (w : Work) (f : ℕ) : Type 0 where
    pub few : F ≤ 1024
    pub pages : length w.pages ≡ 4096
    pub used : length w.used ≡ F
    pub memory : length w.memory ≡ F * L
    pub loose : Loose N w.pages w.used f

  -- only a hidden node hands a frame down
  abbrev pub Keeps : ℕ → Looked → Work → Type 0
  Keeps n (Gave (CopyOnWrite f u)) w = Hidden N n × Hand w f
  Keeps n (Gave (NewPage f)) w = Hidden N n × Hand w f
  Keeps n (Gave (Ref f)) w = Ok N L F w
  Keeps n (Gave Zero) w = Ok N L F w
  Keeps n (Err NoMemory) w = Ok N L F w
  Keeps n (Err Stopped) w = Ok N L F w

  -- entries of deeper nodes stay
  pub record Post (s : Work) (n : ℕ) (r : Looking) : Type 0 where
    pub still : (a b : ℕ) → depth N B n < depth N B a → slot_at r.work.pages a b ≡ slot_at s.pages a b
    pub keeps : Keeps n r.answer r.work

  pub told_ok : (s : Work) (t : Told) → Ok N L F s → Ok N L F (with_told s t)
  told_ok s t o = record { few = o.few; pages = o.pages; used = o.used; memory = o.memory; entries = o.entries }

  pub not_deeper : {n a : ℕ} {A : Type 0} → depth N B n < depth N B a → a ≡ n → A
  not_deeper l e = let q = ap (depth N B) e in absurd (omega arith)

  module _ (n i : ℕ) where
    -- an entry of the page written, where the page lies below the size
    module _ (low : i < (node_of N n).size) where
      pub put_wrote : (P : List ℕ) (e : PageState) → length P ≡ 4096 → e.frame < 1024 → e.pin_count ≤ 31 → Wrote P (with_state P n i e) n i (Some e)
      put_wrote P e len f p = wrote_state P n i (page_low N B n i low) (node_low N B n i low) len e (omega arith) (omega arith)

      -- the frame comes to stand at the page
      pub keep_ok : (w : Work) (f : ℕ) → Hand w f → slot_at w.pages n i ≡ None → Ok N L F (kept w n i f)
      keep_ok w f h z =
          let l = h.loose.frame in
          let u = h.used in
          let m = h.few in
          let x = put_wrote w.pages (new_state f) h.pages (omega arith) (omega arith) in
          record { few = m; pages = x.size ∙ h.pages; used = u; memory = h.memory; entries = put_in h.loose z low x }

      pub keep_still : (w : Work) (f a b : ℕ) → Hand w f → depth N B n < depth N B a → slot_at (kept w n i f).pages a b ≡ slot_at w.pages a b
      keep_still w f a b h l =
          let k = h.loose.frame in
          let u = h.used in
          let m = h.few in
          others (put_wrote w.pages (new_state f) h.pages (omega arith) (omega arith)) a b (λ e d. not_deeper l e)

      pub keep_holds : (w : Work) (f : ℕ) → Hand w f → Holds (kept w n i f).pages n i (new_state f)
      keep_holds w f h =
          let k = h.loose.frame in
          let u = h.used in
          let m = h.few in
          (put_wrote w.pages (new_state f) h.pages (omega arith) (omega arith)).same
