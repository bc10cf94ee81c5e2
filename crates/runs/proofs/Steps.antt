-- One call of a run, whichever it is, keeps the invariant. Assumes nothing.
use Rattle.std.specs.Prelude.{Ok, Err}
use Rattle.outcome.specs.Answers.{Answer}
use mathlib.Core.Path.{◌≡◌, refl, sym, ap, ◌∙◌}
use mathlib.Core.List.{List, []}
use mathlib.Core.Logic.{◌⊎◌, inl, inr}
use mathlib.Core.Bool.{◌&&◌}
use Prim.Native.Nat.{ℕ, ◌+◌, ◌-◌, ◌*◌, ◌/◌, ◌≤◌, ◌<◌}
use native.Mathlib.Omega.{arith}
use native.Mathlib.Nat.{div-add-mod', add-mul}
use lib.Dec.{leb, ltb}
use lib.ListN.{length, get_or, take, drop, replicate, length-replicate}
use borrow.Author.Tests.{eq-eqb, ne_eqb}
use Rattle.logic.specs.Pick.{pick}
use Rattle.logic.proofs.Means.{equal, split}
use Rattle.tables.specs.Pool.{Pool}
use Rattle.tables.specs.Tables.{node_of}
use Rattle.sound.specs.Facts.{Leaf}
use Rattle.outcome.specs.declared.answer.Refusal.{Refusal}
use Rattle.outcome.specs.Outcome.{Outcome, refused}
use Rattle.pool.specs.Calls.{new}
use Rattle.child.specs.Child.{against_child, number_child, child_at, create_child}
use Rattle.ranges.specs.Ranges.{read, write}
use Rattle.isolation.specs.Private.{Private}
use Rattle.lookups.proofs.Bytes.{frame_room}
use Rattle.births.specs.Births.{Gave, BlankBorn, CloneBorn}
use Rattle.births.specs.Arrays.{blank_array, clone_array}
use Rattle.births.proofs.Arrays.{new-arrays, child_arrays}
use Rattle.births.proofs.Laws.{blank-new, blank-other, clone_child, clone_other}
use Rattle.births.proofs.Fitting.{Allows, allows}
use Rattle.arrays.specs.Arrays.{write_array}
use Rattle.arrays.proofs.Bytes.{write-none, write-other}
use Rattle.arrays.proofs.Calls.{read_keeps, write_keeps}
use Rattle.runs.specs.Runs.{Command, aside_effect, effect, result_in}
use Rattle.runs.specs.Runs.Command.{New, Child, Read, Write, Also}
use Rattle.runs.specs.Arrays.{Arrays, with_array, overwritten, new_by, child_by, array_by}
use Rattle.runs.specs.Isolated.{paged, Isolated}
use Rattle.runs.proofs.Lists.{zeros_at, overwritten-none, overwritten-length, overwritten_at, part_length, part_at}
use Rattle.runs.proofs.Objects.{on_leaf, by_tests}
use Rattle.runs.proofs.Ranges.{read_nodes, Lies, write_nodes, write_done}
use Rattle.runs.proofs.Asides.{Still, aside_still}

pub given_same : (A : Arrays) (n : ℕ) (a : List ℕ) → with_array A n a n ≡ a
given_same A n a = rw (eq-eqb n n refl)

pub given-other : (A : Arrays) (n : ℕ) (a : List ℕ) (m : ℕ) → (m ≡ n → ⊥) → with_array A n a m ≡ A m
given-other A n a m ne = rw (ne_eqb m n ne)

-- only the bytes of live objects matter, and of those the ones below the size
private_inside : (L : ℕ) (A B : ℕ → ℕ → ℕ → ℕ) (p : Pool) → ((m i k : ℕ) → i < (node_of p.nodes m).size → k < L → A m i k ≡ B m i k) → Private L A p
    → Private L B p
private_inside L A B p same P =
    record {
      sound = P.sound;
      windows = P.windows;
      shows = λ l i leaf low.
          let s = P.shows l i leaf low in
          record { source = s.source; view = s.view; bytes = λ k h. s.bytes k h ∙ same l i k low h };
    }

-- a written byte of the object itself
own_at : (L : ℕ) (A : ℕ → ℕ → ℕ → ℕ) (n offset : ℕ) (bytes : List ℕ) (done i k : ℕ)
    → write_array L A n offset bytes done n i k
    ≡ pick (leb offset (i * L + k) && ltb (i * L + k) (offset + done)) (get_or bytes (i * L + k - offset) 0) (A n i k)
unfolding write_array
own_at L A n offset bytes done i k = rw (eq-eqb n n refl)

module _ (L : ℕ) (A : Arrays) (p : Pool) (I : Isolated L A p) where
  abbrev B : ℕ → ℕ → ℕ → ℕ
  B = paged L A

  -- the arrays stay where the nodes do
  pub still_isolated : (q : Pool) → Still L B p q → Isolated L A q
  still_isolated q s = record { private = s.private; lengths = rw s.nodes I.lengths }

  -- new

  blank_at_lem : (pages i m j k : ℕ) → blank_array B i m j k ≡ paged L (with_array A i (replicate (pages * L) 0)) m j k
  blank_at_lem pages i m j k =
      split (equal m i)
      (λ e. rw (e, blank-new B i j k, given_same A i (replicate (pages * L) 0)) (sym (zeros_at (pages * L) (j * L + k))))
      (λ ne. rw (blank-other B i m j k ne, given-other A i (replicate (pages * L) 0) m ne))

  blank_isolated : (pages : ℕ) (a : Answer) (q : Pool) → Gave p (BlankBorn L B p pages) a q → Isolated L (new_by L A pages a) q
  blank_isolated pages (Ok i) q g =
      record {
        private = private_inside L (blank_array B i) (paged L (with_array A i (replicate (pages * L) 0))) q (λ m j k l h. blank_at_lem pages i m j k)
            g.private;
        lengths = λ n leaf.
            split (equal n i)
            (λ e. rw (e, given_same A i (replicate (pages * L) 0), g.size) (length-replicate {A = ℕ} (pages * L) 0))
            (λ ne.
            let was : Leaf p.nodes n = sym (g.others n ne) ∙ leaf in
            rw (given-other A i (replicate (pages * L) 0) n ne, g.sizes n was) (I.lengths n was));
      }
  blank_isolated pages (Err r) q g = rw g I

  -- create_child

  module _ (n offset len : ℕ) where
    -- what the call found, if it made a child
    pub record Fits : Type 0 where
      pub leaf : Leaf p.nodes n
      pub allows : Allows L (node_of p.nodes n) offset len

    abbrev part : List ℕ
    part = take len (drop offset (A n))

    module _ (f : Fits) where
      inside : offset + len ≤ length (A n)
      inside = let e = I.lengths n f.leaf in let i = f.allows.inside in omega arith

      pages_of_lem : len / L * L ≡ len
      pages_of_lem = let e = div-add-mod' len L in let w = f.allows.whole in omega arith

      clone_byte : (j k : ℕ) → j < len / L → k < L → B n (offset / L + j) k ≡ get_or part (j * L + k) 0
      clone_byte j k low h =
          let e = pages_of_lem in
          let d = div-add-mod' offset L in
          let w = f.allows.from in
          let r = frame_room L (len / L) j low in
          let m = add-mul (offset / L) j L in
          let q : (offset / L + j) * L + k ≡ offset + (j * L + k) = omega arith in
          ap (λ (y : ℕ). get_or (A n) y 0) q ∙ sym (part_at (A n) offset len inside (j * L + k) (omega arith))

      clone_at : (c m j k : ℕ) → (m ≡ c → j < len / L) → k < L → clone_array B n c (offset / L) m j k ≡ paged L (with_array A c part) m j k
      clone_at c m j k low h =
          split (equal m c)
          (λ e. rw (e, clone_child B n c (offset / L) j k, given_same A c part) (clone_byte j k (low e) h))
          (λ ne. rw (clone_other B n c (offset / L) m j k ne, given-other A c part m ne))

    clone_isolated : (a : Answer) (q : Pool) → ((c : ℕ) → a ≡ Ok c → Fits) → Gave p (CloneBorn L B p n (offset / L) (len / L)) a q
        → Isolated L (child_by A n offset len a) q
    clone_isolated (Ok c) q f g =
        record {
          private = private_inside L (clone_array B n c (offset / L)) (paged L (with_array A c part)) q
              (λ m j k l h. clone_at (f c refl) c m j k (λ e. let z : j < (node_of q.nodes c).size = rw e at l in rw g.size at z) h) g.private;
          lengths = λ m leaf.
              split (equal m c)
              (λ e. rw (e, given_same A c part, g.size) (part_length (A n) offset len (inside (f c refl)) ∙ sym (pages_of_lem (f c refl))))
              (λ ne.
              let was : Leaf p.nodes m = sym (g.others m ne) ∙ leaf in
              rw (given-other A c part m ne, g.sizes m was) (I.lengths m was));
        }
    clone_isolated (Err r) q f g = rw g I

    pub child_fits : (list : List ℕ) (c : ℕ) → (create_child L p list n offset len).answer ≡ Ok c → Fits
    unfolding child_at
    child_fits list c =
        on_leaf (refused p list []) (λ m. child_at L p list m offset len) L p I.private.sound n (λ (s : Outcome Answer). s.answer ≡ Ok c → Fits)
        (λ e. no e)
        (λ leaf.
        by_tests (refused p list []) (number_child p list n (offset / L) (len / L)) (λ (s : Outcome Answer). s.answer ≡ Ok c → Fits)
        (against_child L (node_of p.nodes n) offset len)
        (λ r e h. no h) (λ e h. record { leaf = leaf; allows = allows L (node_of p.nodes n) offset len e }))
      where
        no : {r : Refusal} → ◌≡◌ {A = Answer} (Err r) (Ok c) → Fits
        no e = absurd (let z : ◌≡◌ {A = ℕ} 0 1 = cc in omega arith)

  -- write

  module _ (list : List ℕ) (n offset : ℕ) (bytes : List ℕ) where
    abbrev Done-so : ℕ → Type 0
    Done-so done = (done ≡ 0) ⊎ Lies L B p I.private list n offset bytes done

    same_at : (done i k : ℕ) → Done-so done → write_array L B n offset bytes done n i k ≡ get_or (overwritten (A n) offset bytes done) (i * L + k) 0
    same_at done i k (inl e) = rw (e, overwritten-none (A n) offset bytes) (write-none L B n offset bytes n i k)
    same_at done i k (inr l) =
        let e = I.lengths n l.leaf in
        let m = l.inside in
        own_at L B n offset bytes done i k ∙ sym (overwritten_at (A n) offset bytes done (omega arith) l.among (i * L + k))

    write_at_lem : (done : ℕ) → Done-so done → (m i k : ℕ)
        → write_array L B n offset bytes done m i k ≡ paged L (with_array A n (overwritten (A n) offset bytes done)) m i k
    write_at_lem done d m i k =
        split (equal m n)
        (λ e. rw (e, given_same A n (overwritten (A n) offset bytes done)) (same_at done i k d))
        (λ ne. rw (write-other L B n offset bytes done m i k ne, given-other A n (overwritten (A n) offset bytes done) m ne))

    written-length : (done : ℕ) → Done-so done → length (overwritten (A n) offset bytes done) ≡ length (A n)
    written-length done (inl e) = rw (e, overwritten-none (A n) offset bytes)
    written-length done (inr l) =
        let e = I.lengths n l.leaf in
        let m = l.inside in
        overwritten-length (A n) offset bytes done (omega arith) l.among

    pub write_isolated : let r = write L p list n offset bytes in Isolated L (with_array A n (overwritten (A n) offset bytes r.done)) r.pool
    write_isolated =
        let r = write L p list n offset bytes in
        let d = write_done L B p I.private list n offset bytes in
        let a = overwritten (A n) offset bytes r.done in
        record {
          private = private_inside L (write_array L B n offset bytes r.done) (paged L (with_array A n a)) r.pool
              (λ m i k l h. write_at_lem r.done d m i k) (write_keeps L B p I.private list n offset bytes);
          lengths = rw (write_nodes L B p I.private list n offset bytes)
              (λ m leaf.
              split (equal m n)
              (λ e. rw (e, given_same A n a) (written-length r.done d ∙ (rw e at (I.lengths m leaf))))
              (λ ne. rw (given-other A n a m ne) (I.lengths m leaf)));
        }

  -- each of them

  pub step_isolated : (c : Command) → Isolated L (array_by L A c (result_in (effect L p c))) (effect L p c).pool
  unfolding effect
  step_isolated (New pages) = blank_isolated pages (new L p pages).answer (new L p pages).pool (new-arrays L B p I.private pages)
  step_isolated (Child list n offset len) =
      let r = create_child L p list n offset len in
      clone_isolated n offset len r.answer r.pool (child_fits n offset len list) (child_arrays L B p I.private list n offset len)
  step_isolated (Read n offset buf) =
      still_isolated (read L p n offset buf).pool
      (record { nodes = read_nodes L B p I.private n offset buf; private = read_keeps L B p I.private n offset buf })
  step_isolated (Write list n offset bytes) = write_isolated list n offset bytes
  step_isolated (Also c) = still_isolated (aside_effect L p c).pool (aside_still L B p I.private c)
