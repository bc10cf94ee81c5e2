-- The calls that make no object and have no buffer: they leave the nodes and every array, and how they are answered. Assumes nothing.
use Rattle.std.specs.Prelude.{Option, ℕ, Some, None, Ok, Err}
use Rattle.outcome.specs.Answers.{Answer}
use mathlib.Core.Path.{◌≡◌, refl}
use mathlib.Core.Bool.{Bool, true, false}
use mathlib.Core.List.{[]}
use Prim.Native.Nat.{ℕ, ◌+◌}
use lib.Dec.{ltb}
use Rattle.logic.specs.Pick.{pick}
use Rattle.node.specs.Node.{contains_of}
use Rattle.tables.specs.Pool.{Pool}
use Rattle.tables.specs.Tables.{node_of}
use Rattle.sound.specs.Facts.{Sound}
use Rattle.outcome.specs.declared.answer.Refusal.TheVariants.{OutOfRange, InvalidArgs, NoMemory}
use Rattle.outcome.specs.Outcome.{Outcome, refused}
use Rattle.pool.specs.Calls.{saying, len_of, len}
use Rattle.mappings.specs.Mappings.{append}
use Rattle.mapped.specs.Mapped.{with_mappings, shows_of, mapping_number, appended, append_at, append_mapping, remove_at, remove_mapping}
use Rattle.mappings.specs.Mappings.{removed}
use Rattle.forecast.specs.Forecast.{yes_of, forecast_answer, forecast}
use Rattle.blocks.specs.Blocks.{iter_of}
use Rattle.isolation.specs.Private.{Private}
use Rattle.births.proofs.Arrays.{len_same, forecast_same, append-arrays, remove_arrays}
use Rattle.runs.specs.Runs.{Aside, aside_effect}
use Rattle.runs.specs.Runs.Aside.{Commit, CommitPage, Len, Peek, Forecast, Append, Remove}
use Rattle.runs.specs.Memory.{TooFewFor}
use Rattle.runs.proofs.Objects.{on_leaf}
use Rattle.runs.proofs.Answered.{Answers}
use Rattle.runs.proofs.Ranges.{Spent, commit_answers, commit_lacks, commit_nodes, page_answers, page_lacks, page_nodes}
use Rattle.arrays.proofs.Calls.{commit_keeps}
use Rattle.arrays.proofs.Page.{page_keeps}

-- len, forecast and the calls on mappings: what they leave, and that they are refused fairly
module _ (short : Type 0) (L : ℕ) (p : Pool) (S : Sound L p) where
  record Quiet (c : Outcome Answer) : Type 0 where
    nodes : c.pool.nodes ≡ p.nodes
    answers : Answers short c.answer

  stays : (a : Answer) → Answers short a → Quiet (saying a p)
  stays a f = record { nodes = refl; answers = f }

  len-quiet : (n : ℕ) → Quiet (len L p n)
  unfolding len_of
  len-quiet n =
      on_leaf (refused p [] []) (λ m. saying (len_of L p.nodes m) p) L p S n Quiet (stays _ tt) (λ leaf. stays _ tt)

  forecast-quiet : (n offset bytes : ℕ) → Quiet (forecast L p n offset bytes)
  unfolding forecast_answer
  forecast-quiet n offset bytes =
      on_leaf (refused p [] []) (λ m. saying (forecast_answer L p.nodes p.pages p.used m offset bytes) p) L p S n Quiet
      (stays _ tt) (λ leaf. by (contains_of L (node_of p.nodes n) offset bytes))
    where
      by : (b : Bool) → Quiet (saying (pick b (Ok (yes_of L p.pages p.used n (iter_of offset (offset + bytes)))) (Err OutOfRange)) p)
      by true = stays _ tt
      by false = stays _ tt

  found_answers : (f : Option ℕ) → Answers short (mapping_number f)
  found_answers (Some k) = tt
  found_answers None = tt

  append-quiet : (n first pages : ℕ) → Quiet (append_mapping L p n first pages)
  unfolding append_at
  append-quiet n first pages =
      on_leaf (refused p [] []) (λ m. append_at p m first pages) L p S n Quiet (stays _ tt) (λ leaf. by (shows_of first pages))
    where
      by : (b : Bool) → Quiet (pick b (appended p (append p.mappings n first pages)) (refused p [] [] InvalidArgs))
      by true = record { nodes = refl; answers = found_answers (append p.mappings n first pages).found }
      by false = stays _ tt

  remove_quiet : (n mapping : ℕ) → Quiet (remove_mapping L p n mapping)
  unfolding remove_at
  remove_quiet n mapping =
      on_leaf (refused p [] []) (λ m. remove_at p m mapping) L p S n Quiet (stays _ tt) (λ leaf. by (ltb mapping 64))
    where
      by : (b : Bool) → Quiet (pick b (saying (Ok 0) (with_mappings p (removed p.mappings n mapping))) (saying (Ok 0) p))
      by true = record { nodes = refl; answers = tt }
      by false = stays _ tt

-- the nodes and the arrays stay
pub record Still (L : ℕ) (B : ℕ → ℕ → ℕ → ℕ) (p q : Pool) : Type 0 where
  pub nodes : q.nodes ≡ p.nodes
  pub private : Private L B q

module _ (L : ℕ) (B : ℕ → ℕ → ℕ → ℕ) (p : Pool) (P : Private L B p) where
  pub aside_still : (c : Aside) → Still L B p (aside_effect L p c).pool
  unfolding aside_effect
  aside_still (Commit list n offset len) = record { nodes = commit_nodes L B p P list n offset len; private = commit_keeps L B p P list n offset len }
  aside_still (CommitPage list n page write) = record { nodes = page_nodes L B p P list n page write; private = page_keeps L B p P list n page write }
  aside_still (Len n) = record { nodes = (len-quiet ⊥ L p P.sound n).nodes; private = rw (len_same L p n) P }
  aside_still (Peek zero n page) = record { nodes = refl; private = P }
  aside_still (Forecast n offset len) =
      record { nodes = (forecast-quiet ⊥ L p P.sound n offset len).nodes; private = rw (forecast_same L p n offset len) P }
  aside_still (Append n first pages) =
      record { nodes = (append-quiet ⊥ L p P.sound n first pages).nodes; private = append-arrays L B p P n first pages }
  aside_still (Remove n mapping) = record { nodes = (remove_quiet ⊥ L p P.sound n mapping).nodes; private = remove_arrays L B p P n mapping }

  pub aside_answers : (c : Aside) → Answers (Spent (TooFewFor L p c) (aside_effect L p c).pool) (aside_effect L p c).answer
  unfolding aside_effect
  aside_answers (Commit list n offset len) = commit_answers L B p P list n offset len
  aside_answers (CommitPage list n page write) = page_answers L B p P list n page write
  aside_answers (Len n) = (len-quiet _ L p P.sound n).answers
  aside_answers (Peek zero n page) = tt
  aside_answers (Forecast n offset len) = (forecast-quiet _ L p P.sound n offset len).answers
  aside_answers (Append n first pages) = (append-quiet _ L p P.sound n first pages).answers
  aside_answers (Remove n mapping) = (remove_quiet _ L p P.sound n mapping).answers

  pub aside_lacks : (c : Aside) → TooFewFor L p c → (aside_effect L p c).answer ≡ Err NoMemory
  unfolding aside_effect
  aside_lacks (Commit list n offset len) l = commit_lacks L B p P list n offset len l
  aside_lacks (CommitPage list n page write) l = page_lacks L B p P list n page write l
  aside_lacks (Len n) l = absurd l
  aside_lacks (Peek zero n page) l = absurd l
  aside_lacks (Forecast n offset len) l = absurd l
  aside_lacks (Append n first pages) l = absurd l
  aside_lacks (Remove n mapping) l = absurd l
