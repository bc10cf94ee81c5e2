-- What a call on a sound pool is never answered. Assumes nothing.
use Rattle.std.specs.Prelude.{Option, ℕ, Some, None, Ok, Err}
use mathlib.Core.Path.{◌≡◌, subst}
use mathlib.Core.Bool.{Bool, true, false, ◌&&◌}
use mathlib.Core.List.{List, []}
use Prim.Native.Nat.{ℕ, ◌+◌, ◌*◌, ◌/◌}
use lib.Dec.{eqb, leb}
use lib.ListN.{get_or}
use Rattle.logic.specs.Pick.{pick}
use Rattle.blocks.specs.Blocks.{aligned_of}
use Rattle.node.specs.Node.{cached_of, contains_of}
use Rattle.tables.specs.Pool.{Pool}
use Rattle.tables.specs.Tables.{node_of, free_node_in, free_node_from}
use Rattle.sound.specs.Facts.{Sound}
use Rattle.soundness.proofs.Soundness.{facts_sound}
use Rattle.outcome.specs.declared.answer.Refusal.{Refusal}
use Rattle.outcome.specs.declared.answer.Refusal.TheVariants.{OutOfRange, BadState, InvalidArgs, NoMemory, NotSupported, Unavailable, BadPool, NoObject, NoNode, NoRoom, Stopped, PinLedger}
use Rattle.outcome.specs.Answers.{unless, Answer}
use Rattle.outcome.specs.Outcome.{refused}
use Rattle.pool.specs.Calls.{leaf_at, new_leaf, new}
use Rattle.outcome.specs.Room.{room_of}
use Rattle.child.specs.Child.{birth_by, born, against_child, with_both, with_child, number_child, child_at, create_child}
use Rattle.arrays.specs.Calls.{ByTests}
use Rattle.runs.proofs.Objects.{on_leaf}

-- never BAD_POOL or STOPPED, and NO_MEMORY only if `short`
abbrev pub Fair : Type 0 → Refusal → Type 0
Fair short NoMemory = short
Fair short BadPool = ⊥
Fair short Stopped = ⊥
Fair short OutOfRange = Unit
Fair short BadState = Unit
Fair short InvalidArgs = Unit
Fair short NotSupported = Unit
Fair short Unavailable = Unit
Fair short NoObject = Unit
Fair short NoNode = Unit
Fair short NoRoom = Unit
Fair short PinLedger = Unit

abbrev pub Answers : Type 0 → Answer → Type 0
Answers short (Ok v) = Unit
Answers short (Err r) = Fair short r

pub tests_fair : (short : Type 0) (r : Refusal) → ByTests r → Fair short r
tests_fair short NoObject t = tt
tests_fair short BadState t = tt
tests_fair short OutOfRange t = tt
tests_fair short NoRoom t = tt
tests_fair short InvalidArgs t = absurd t
tests_fair short NoMemory t = absurd t
tests_fair short NotSupported t = absurd t
tests_fair short Unavailable t = absurd t
tests_fair short BadPool t = absurd t
tests_fair short NoNode t = absurd t
tests_fair short Stopped t = absurd t
tests_fair short PinLedger t = absurd t

-- an answer that is a refusal
pub answers_refused : (short : Type 0) {a : Answer} {r : Refusal} → Answers short a → a ≡ Err r → Fair short r
answers_refused short f e = subst (Answers short) e f

pub answers_done : (short : Type 0) {a : Answer} {v : ℕ} → a ≡ Ok v → Answers short a
answers_done short e = rw e tt

-- new and create_child

leaf_answers : (short : Type 0) (p : Pool) (size : ℕ) (f : Option ℕ) → Answers short (leaf_at p size f).answer
unfolding leaf_at
leaf_answers short p size (Some i) = tt
leaf_answers short p size None = tt

pub new_answers : (short : Type 0) (L : ℕ) (p : Pool) → Sound L p → (size : ℕ) → Answers short (new L p size).answer
unfolding new new_leaf
new_answers short L p S size = rw (facts_sound L p S) (by (leb size 64) (leb (get_or p.head 0 0) 16777215))
  where
    by : (a b : Bool) → Answers short (pick a (pick b (leaf_at p size (free_node_in p.nodes)) (refused p [] [] NoNode)) (refused p [] [] InvalidArgs)).answer
    by true true = leaf_answers short p size (free_node_in p.nodes)
    by true false = tt
    by false b = tt

module _ (short : Type 0) (p : Pool) (list : List ℕ) (n first pages : ℕ) where
  both_answers : (c : ℕ) (f : Option ℕ) → Answers short (with_both p list n first pages c f).answer
  unfolding with_both born
  both_answers c (Some x) = by (room_of p.mappings list 1)
    where
      by : (b : Bool) → Answers short (pick b (born p list (birth_by n c x first pages)) (refused p list [] NoRoom)).answer
      by true = tt
      by false = tt
  both_answers c None = tt

  child_by_lem : (f : Option ℕ) → Answers short (with_child p list n first pages f).answer
  unfolding with_child
  child_by_lem (Some c) = both_answers c (free_node_from p.nodes (c + 1))
  child_by_lem None = tt

  numbered_answers : Answers short (number_child p list n first pages).answer
  unfolding number_child
  numbered_answers = by (leb (get_or p.head 0 0) 16777215)
    where
      by : (b : Bool) → Answers short (pick b (with_child p list n first pages (free_node_in p.nodes)) (refused p list [] NoNode)).answer
      by true = child_by_lem (free_node_in p.nodes)
      by false = tt

module _ (short : Type 0) (L : ℕ) (p : Pool) (list : List ℕ) (n offset len : ℕ) where
  tests_answer : Answers short (child_at L p list n offset len).answer
  unfolding child_at against_child
  tests_answer =
      by (aligned_of L offset && aligned_of L len && leb len (64 * L))
      (cached_of (node_of p.nodes n) && eqb (node_of p.nodes n).pin_count 0)
      (contains_of L (node_of p.nodes n) offset len)
    where
      by : (a b c : Bool)
          → Answers short (unless (pick a (pick b (pick c (Ok tt) (Err OutOfRange)) (Err BadState)) (Err InvalidArgs)) (refused p list []) (number_child p list n (offset / L) (len / L))).answer
      by true true true = numbered_answers short p list n (offset / L) (len / L)
      by true true false = tt
      by true false c = tt
      by false b c = tt

  pub child_answers : Sound L p → Answers short (create_child L p list n offset len).answer
  child_answers S = on_leaf (refused p list []) (λ m. child_at L p list m offset len) L p S n (λ s. Answers short s.answer) tt (λ leaf. tests_answer)
