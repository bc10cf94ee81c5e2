-- What read, len and peek give, by the object's array. Assumes nothing.
use Rattle.std.specs.Prelude.{Ok, Err}
use mathlib.Core.Path.{◌≡◌, refl, sym, ap, ◌∙◌}
use mathlib.Core.Bool.{Bool, true, false}
use mathlib.Core.List.{List, []}
use Prim.Native.Nat.{ℕ, ◌+◌, ◌*◌, ◌≤◌}
use native.Mathlib.Omega.{arith}
use lib.Dec.{leb}
use lib.ListN.{length, take, drop, replicate, length-replicate}
use borrow.Author.Tests.{leb-true}
use Rattle.logic.specs.Pick.{pick}
use Rattle.node.specs.Node.{leaf_of, cached_of, contains_of}
use Rattle.tables.specs.Pool.{Pool}
use Rattle.tables.specs.Tables.{node_of}
use Rattle.sound.specs.Facts.{Leaf}
use Rattle.outcome.specs.declared.answer.Refusal.TheVariants.{OutOfRange, BadState, NoObject}
use Rattle.outcome.specs.Answers.{unless, Answer}
use Rattle.outcome.specs.Outcome.{Outcome, refused}
use Rattle.pool.specs.Calls.{saying, len_of, len}
use Rattle.page.specs.Pages.{read_of}
use Rattle.ranges.specs.Ranges.{filled, against_reading, read_range, read_at, read}
use Rattle.arrays.proofs.Read.{read_through_lem}
use Rattle.peek.specs.Peek.{zero_page_of, peek}
use Rattle.shows.specs.Shows.{Peeked}
use Rattle.shows.specs.Shows.Peeked.{nothing, bytes}
use Rattle.shows.proofs.Peeks.{peek-called, peek_zero}
use Rattle.runs.specs.Runs.{Result, result_of, result_in}
use Rattle.runs.specs.Arrays.{Arrays, read_array, bytes_in, bytes_by}
use Rattle.runs.specs.Isolated.{paged, Isolated}
use Rattle.runs.proofs.Lists.{is_part}
use Rattle.runs.proofs.Objects.{by_leaf}

module _ (L : ℕ) (A : Arrays) (p : Pool) (I : Isolated L A p) (n : ℕ) where
  abbrev live : Bool
  live = leaf_of (node_of p.nodes n)

  abbrev cached : Bool
  cached = cached_of (node_of p.nodes n)

  pub len_is : (len L p n).answer ≡ pick live (Ok (length (A n))) (Err NoObject)
  unfolding len_of
  len_is =
      by_leaf (refused p [] []) (λ m. saying (len_of L p.nodes m) p) L p I.private.sound n
      (λ (b : Bool) (r : Outcome Answer). r.answer ≡ pick b (Ok (length (A n))) (Err NoObject)) refl (λ leaf. ap Ok (sym (I.lengths n leaf)))

  module _ (offset : ℕ) (buf : List ℕ) where
    abbrev range : Outcome Answer
    range = filled p (read_range L p.nodes p.mappings n offset (read_of p.pages p.used p.memory buf))

    done_none : range.done ≡ 0
    unfolding filled
    done_none = refl

    read_inside : Leaf p.nodes n → offset + length buf ≤ (node_of p.nodes n).size * L
        → result_in range ≡ result_of (Ok 0) 0 (take (length buf) (drop offset (A n)))
    read_inside leaf inside =
        let w = read_through_lem L (paged L A) p I.private n offset buf leaf inside in
        let e = I.lengths n leaf in
        rw (w.answer, done_none, is_part (A n) offset (length buf) (omega arith) L range.buf w.size w.bytes)

    read_leaf : Leaf p.nodes n → (b c : Bool) → leb (offset + length buf) ((node_of p.nodes n).size * L) ≡ c
        → result_in (unless (pick b (pick c (Ok tt) (Err OutOfRange)) (Err BadState)) (refused p [] buf) range)
        ≡ pick b (pick c (result_of (Ok 0) 0 (take (length buf) (drop offset (A n)))) (result_of (Err OutOfRange) 0 buf)) (result_of (Err BadState) 0 buf)
    read_leaf leaf true true e = read_inside leaf (leb-true (offset + length buf) ((node_of p.nodes n).size * L) e)
    read_leaf leaf true false e = refl
    read_leaf leaf false c e = refl

    pub read_is : result_in (read L p n offset buf) ≡ read_array live cached (A n) offset buf
    unfolding read_at against_reading contains_of
    read_is =
        by_leaf (refused p [] buf) (λ m. read_at L p m offset buf) L p I.private.sound n
        (λ (b : Bool) (r : Outcome Answer). result_in r ≡ read_array b cached (A n) offset buf) refl
        (λ leaf. rw (I.lengths n leaf) (read_leaf leaf cached (leb (offset + length buf) ((node_of p.nodes n).size * L)) refl))

  -- a peek shows what a read of the page gives

  module _ (zero : List ℕ) (page : ℕ) where
    abbrev page-read : Outcome Answer
    page-read = read L p n (page * L) (replicate L 0)

    shown_by_lem : {shown : List ℕ} {r : Outcome Answer} → Peeked L shown r → shown ≡ bytes_by r.answer r.buf
    shown_by_lem (nothing why e s) = rw (e, s)
    shown_by_lem (bytes e s l) = rw (e, s)

    peek_by : (b : Bool) → zero_page_of L zero ≡ b → peek L p zero n page ≡ pick b (bytes_by page-read.answer page-read.buf) []
    peek_by true g = shown_by_lem (peek-called L p zero n page (replicate L 0) (length-replicate {A = ℕ} L 0) g)
    peek_by false g = peek_zero L p zero n page g

    pub peek_is : peek L p zero n page ≡ pick (zero_page_of L zero) (bytes_in (read_array live cached (A n) (page * L) (replicate L 0))) []
    peek_is =
        peek_by (zero_page_of L zero) refl
        ∙ ap (λ (r : Result). pick (zero_page_of L zero) (bytes_in r) []) (read_is (page * L) (replicate L 0))
