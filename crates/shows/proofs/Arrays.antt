-- Peek shows the page of the object's own array. Assumes nothing.
use mathlib.Core.Path.{◌≡◌, sym, subst, ◌∙◌}
use mathlib.Core.Bool.{true, false}
use mathlib.Core.List.{List, []}
use Prim.Native.Nat.{ℕ, ◌+◌, ◌*◌, ◌<◌}
use native.Mathlib.Omega.{arith}
use lib.ListN.{length, get_or}
use borrow.Author.Tests.{eq-eqb, le-leb, lt-ltb}
use Rattle.node.specs.Node.{cached_of, contains_of}
use Rattle.tables.specs.Pool.{Pool}
use Rattle.tables.specs.Tables.{node_of}
use Rattle.outcome.specs.Told.{Told, told_of}
use Rattle.lookup.specs.Work.{Work}
use Rattle.lookup.specs.Commit.{commit_leaf, Committed}
use Rattle.sound.specs.Facts.{Leaf}
use Rattle.soundness.proofs.Soundness.{facts_sound}
use Rattle.lookup.specs.declared.End.{End}
use Rattle.lookup.specs.declared.End.TheVariants.{Has, Bare, Tired}
use Rattle.lookup.specs.Mode.{today, place_of}
use Rattle.lookup.specs.Descent.{walk}
use Rattle.pool.specs.Calls.{entered, on_entered, on_object}
use Rattle.ranges.specs.Ranges.{against_reading}
use Rattle.isolation.specs.Private.{Private}
use Rattle.isolation.specs.Kept.{work_in, Gives, Answered}
use Rattle.isolation.proofs.Look.{look_keeps}
use Rattle.peek.specs.Peek.{zero_page_of, shown_by, place_at, place, shown_at, frame_bytes, peek}
use Rattle.shows.specs.Shows.{ReadAs, BytesOf}
use Rattle.shows.proofs.Walk.{walk-reads}
use Rattle.shows.proofs.Bytes.{zero_byte, frame_byte, shown-length}
use Rattle.lookups.proofs.Bytes.{frame_room}
use Rattle.lookups.proofs.Base.{node_low}

module _ (L : ℕ) (A : ℕ → ℕ → ℕ → ℕ) (p : Pool) (P : Private L A p) (zero : List ℕ) (good : zero_page_of L zero ≡ true) (n page : ℕ) (leaf : Leaf p.nodes n) (low : page < (node_of p.nodes n).size) where
  abbrev t : Told
  t = told_of [] 0

  abbrev F : ℕ
  F = length p.used

  frame_shows : (f : ℕ) (w : Work) → f < F → w.memory ≡ p.memory → Gives L p n page (A n page) false f w → (k : ℕ) → k < L → get_or (frame_bytes L p.memory f) k 0 ≡ A n page k
  frame_shows f w l m g k h =
      let r = frame_room L F f l in
      let q = P.sound.lengths.memory in
      frame_byte L p.memory f (omega arith) k h ∙ (rw m at (g.bytes k h))

  find_shows : (x : End) (z : Committed) (w : Work) → w.memory ≡ p.memory → ReadAs F x z → Answered L p t n page (A n page) false z w
      → (k : ℕ) → k < L → get_or (shown_at L p.memory zero (shown_by x)) k 0 ≡ A n page k
  find_shows (Has s) z w m a g k h = frame_shows s.frame w a.1 m (subst (λ (x : Committed). Answered L p t n page (A n page) false x w) a.0 g) k h
  find_shows Bare z w m a g k h =
      let d = subst (λ (x : Committed). Answered L p t n page (A n page) false x w) a g in
      zero_byte L zero good k h ∙ sym (d.bytes k h)
  find_shows Tired z w m a g k h = absurd a

  -- a page inside an object of the policy Cached is found
  found : (node_of p.nodes n).cache_policy ≡ 0 → peek L p zero n page ≡ shown_at L p.memory zero (shown_by (walk (today L p.nodes p.mappings) 64 p.pages (place_of n page n)).end)
  unfolding peek place on_object on_entered entered place_at against_reading cached_of contains_of
  found cached =
      rw (good, facts_sound L p P.sound, lt-ltb n 64 (node_low p.nodes (record { next = get_or p.head 0 0; len = P.sound.lengths.nodes; tree = P.sound.tree }) n page low), leaf, eq-eqb (node_of p.nodes n).cache_policy 0 cached, le-leb (page * L + L) ((node_of p.nodes n).size * L) (frame_room L (node_of p.nodes n).size page low))

  pub peek_array : (node_of p.nodes n).cache_policy ≡ 0 → BytesOf L (A n page) (peek L p zero n page)
  peek_array cached =
      let s = walk-reads L p P.sound p.mappings p.used p.memory t n page leaf in
      let k = look_keeps L A p P t n page false leaf low in
      let r = commit_leaf L p.nodes p.mappings (work_in p t) n page false in
      let x = (walk (today L p.nodes p.mappings) 64 p.pages (place_of n page n)).end in
      rw (found cached)
      (record {
        size = shown-length L F p.memory P.sound.lengths.memory zero good x r.answer s.answer;
        bytes = find_shows x r.answer r.work s.memory s.answer k.answers;
      })
