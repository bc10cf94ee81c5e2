-- One call of a run, whichever it is: how it is answered, and what it leaves of a live object. Assumes nothing.
use Rattle.std.specs.Prelude.{Ok, Err}
use Rattle.outcome.specs.Answers.{Answer}
use mathlib.Core.Path.{◌≡◌, refl, ap, ◌∙◌}
use mathlib.Core.Bool.{Bool, true, false}
use mathlib.Core.List.{List}
use Prim.Native.Nat.{ℕ, ◌*◌, ◌/◌}
use lib.Dec.{eqb}
use lib.ListN.{take, drop, replicate}
use borrow.Author.Tests.{eq-eqb, ne_eqb}
use Rattle.logic.specs.Pick.{pick}
use Rattle.logic.proofs.Means.{equal, split}
use Rattle.node.specs.Node.{leaf_of}
use Rattle.tables.specs.Pool.{Pool}
use Rattle.tables.specs.Tables.{node_of}
use Rattle.sound.specs.Facts.{Leaf}
use Rattle.outcome.specs.declared.answer.Refusal.TheVariants.{NoMemory}
use Rattle.pool.specs.Calls.{new}
use Rattle.child.specs.Child.{create_child}
use Rattle.ranges.specs.Ranges.{read, write}
use Rattle.births.specs.Births.{Gave, Newborn, BlankBorn, CloneBorn}
use Rattle.births.proofs.Arrays.{new-arrays, child_arrays}
use Rattle.births.proofs.Cloned.{leaf_live}
use Rattle.runs.specs.Runs.{Command, effect, aside_effect, result_in}
use Rattle.runs.specs.Runs.Command.{New, Child, Read, Write, Also}
use Rattle.runs.specs.Arrays.{Arrays, overwritten, new_by, child_by, array_by, named, makes}
use Rattle.runs.specs.Isolated.{paged, Isolated}
use Rattle.runs.specs.Memory.{TooFew}
use Rattle.runs.proofs.Answered.{Answers, new_answers, child_answers}
use Rattle.runs.proofs.Records.{Same, same_nodes, new-kept, child_kept}
use Rattle.runs.proofs.Ranges.{Spent, read_answers, read_nodes, write_answers, write_lacks, write_nodes}
use Rattle.runs.proofs.Asides.{aside_still, aside_answers, aside_lacks}
use Rattle.runs.proofs.Steps.{given-other}

module _ (L : ℕ) (A : Arrays) (p : Pool) (I : Isolated L A p) where
  abbrev B : ℕ → ℕ → ℕ → ℕ
  B = paged L A

  -- how it is answered

  pub turn_answers : (c : Command) → Answers (Spent (TooFew L p c) (effect L p c).pool) (effect L p c).answer
  unfolding effect
  turn_answers (New pages) = new_answers _ L p I.private.sound pages
  turn_answers (Child list n offset len) = child_answers _ L p list n offset len I.private.sound
  turn_answers (Read n offset buf) = read_answers L B p I.private _ n offset buf
  turn_answers (Write list n offset bytes) = write_answers L B p I.private list n offset bytes
  turn_answers (Also c) = aside_answers L B p I.private c

  pub turn_lacks : (c : Command) → TooFew L p c → (effect L p c).answer ≡ Err NoMemory
  unfolding effect
  turn_lacks (New pages) l = absurd l
  turn_lacks (Child list n offset len) l = absurd l
  turn_lacks (Read n offset buf) l = absurd l
  turn_lacks (Write list n offset bytes) l = write_lacks L B p I.private list n offset bytes l
  turn_lacks (Also c) l = aside_lacks L B p I.private c l

  -- who lives after it

  abbrev Lives : ℕ → Bool → Pool → Type 0
  Lives o made q = leaf_of (node_of q.nodes o) ≡ pick made true (leaf_of (node_of p.nodes o))

  stay_live : (o : ℕ) (q : Pool) → q.nodes ≡ p.nodes → Lives o false q
  stay_live o q e = rw e

  born-live : {C : ℕ → ℕ → ℕ → ℕ} {pages i : ℕ} {q : Pool} (o : ℕ) → Newborn L C p pages i q → Lives o (eqb o i) q
  born-live {i = i} o g =
      split (equal o i) (λ e. rw (e, eq-eqb i i refl) g.leaf) (λ ne. rw (ne_eqb o i ne) (g.others o ne))

  blank-live : (o pages : ℕ) (a : Answer) (q : Pool) → Gave p (BlankBorn L B p pages) a q → Lives o (named o a) q
  blank-live o pages (Ok i) q g = born-live o g
  blank-live o pages (Err r) q g = stay_live o q (ap (λ (x : Pool). x.nodes) g)

  clone_live : (o n first pages : ℕ) (a : Answer) (q : Pool) → Gave p (CloneBorn L B p n first pages) a q → Lives o (named o a) q
  clone_live o n first pages (Ok i) q g = born-live o g
  clone_live o n first pages (Err r) q g = stay_live o q (ap (λ (x : Pool). x.nodes) g)

  pub turn-live : (o : ℕ) (c : Command) → Lives o (makes o c (effect L p c).answer) (effect L p c).pool
  unfolding effect
  turn-live o (New pages) = blank-live o pages (new L p pages).answer (new L p pages).pool (new-arrays L B p I.private pages)
  turn-live o (Child list n offset len) =
      let r = create_child L p list n offset len in
      clone_live o n (offset / L) (len / L) r.answer r.pool (child_arrays L B p I.private list n offset len)
  turn-live o (Read n offset buf) = stay_live o (read L p n offset buf).pool (read_nodes L B p I.private n offset buf)
  turn-live o (Write list n offset bytes) =
      stay_live o (write L p list n offset bytes).pool (write_nodes L B p I.private list n offset bytes)
  turn-live o (Also c) = stay_live o (aside_effect L p c).pool (aside_still L B p I.private c).nodes

  -- a live object: its record stays, and its array changes by its own writes alone

  module _ (o : ℕ) (live : Leaf p.nodes o) where
    pub turn_same : (c : Command) → Same o p.nodes (effect L p c).pool.nodes
    unfolding effect
    turn_same (New pages) = new-kept L p I.private.sound o live pages
    turn_same (Child list n offset len) = child_kept L p I.private.sound o live list n offset len
    turn_same (Read n offset buf) = same_nodes (read_nodes L B p I.private n offset buf)
    turn_same (Write list n offset bytes) = same_nodes (write_nodes L B p I.private list n offset bytes)
    turn_same (Also c) = same_nodes (aside_still L B p I.private c).nodes

    taken : (i : ℕ) → (node_of p.nodes i).kind ≡ 0 → o ≡ i → ⊥
    taken i free e = leaf_live p.nodes o live (ap (λ (m : ℕ). (node_of p.nodes m).kind) e ∙ free)

    blank_keeps : (pages : ℕ) (a : Answer) (q : Pool) → Gave p (BlankBorn L B p pages) a q → new_by L A pages a o ≡ A o
    blank_keeps pages (Ok x) q g = given-other A x (replicate (pages * L) 0) o (taken x g.free)
    blank_keeps pages (Err r) q g = refl

    clone_keeps : (n offset len : ℕ) (a : Answer) (q : Pool) → Gave p (CloneBorn L B p n (offset / L) (len / L)) a q
        → child_by A n offset len a o ≡ A o
    clone_keeps n offset len (Ok x) q g = given-other A x (take len (drop offset (A n))) o (taken x g.free)
    clone_keeps n offset len (Err r) q g = refl

    pub turn_keeps : (c : Command) → ((list : List ℕ) (offset : ℕ) (bytes : List ℕ) → c ≡ Write list o offset bytes → ⊥)
        → array_by L A c (result_in (effect L p c)) o ≡ A o
    unfolding effect
    turn_keeps (New pages) not_own = blank_keeps pages (new L p pages).answer (new L p pages).pool (new-arrays L B p I.private pages)
    turn_keeps (Child list n offset len) not_own =
        let r = create_child L p list n offset len in
        clone_keeps n offset len r.answer r.pool (child_arrays L B p I.private list n offset len)
    turn_keeps (Read n offset buf) not_own = refl
    turn_keeps (Write list n offset bytes) not_own =
        given-other A n (overwritten (A n) offset bytes (write L p list n offset bytes).done) o (λ e. not_own list offset bytes (rw e refl))
    turn_keeps (Also c) not_own = refl
