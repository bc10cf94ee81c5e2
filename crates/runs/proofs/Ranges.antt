-- Read, write, commit and commit_page on a pool of private arrays: their answers, and that they leave the nodes. Assumes nothing.
use Rattle.std.specs.Prelude.{Ok, Err}
use Rattle.outcome.specs.Answers.{Answer, Checked}
use mathlib.Core.Path.{◌≡◌, refl, subst}
use mathlib.Core.Bool.{Bool}
use mathlib.Core.List.{List, []}
use mathlib.Core.Logic.{◌⊎◌, inl, inr, ⊎_elim}
use Prim.Native.Nat.{ℕ, ◌+◌, ◌*◌, ◌≤◌}
use native.Mathlib.Omega.{arith}
use lib.ListN.{length}
use Rattle.tables.specs.Pool.{Pool}
use Rattle.tables.specs.Tables.{node_of}
use Rattle.frames.specs.Frames.{free_count}
use Rattle.sound.specs.Facts.{Leaf}
use Rattle.outcome.specs.declared.answer.Refusal.{Refusal}
use Rattle.outcome.specs.declared.answer.Refusal.TheVariants.{NoMemory}
use Rattle.outcome.specs.Outcome.{Outcome, refused}
use Rattle.commit.specs.Commit.{commit_page}
use Rattle.ranges.specs.Ranges.{against_writing, against_committing, read, write_through, write_at, write, commit_through, commit_at, commit}
use Rattle.isolation.specs.Private.{Private}
use Rattle.arrays.specs.Outcomes.{Reads, Granted, Short, Commits, Writes}
use Rattle.arrays.specs.Calls.{ByTests, Called}
use Rattle.arrays.specs.Calls.Called.{tested, accepted}
use Rattle.arrays.proofs.Write.{write_through_lem}
use Rattle.arrays.proofs.Commit.{commit_through_lem}
use Rattle.arrays.proofs.Tested.{Accepted, page_tested, page_does}
use Rattle.arrays.proofs.Called.{Tests, Inside, writing_tests, committing_tests}
use Rattle.arrays.proofs.Calls.{read-called, commit-called}
use Rattle.arrays.proofs.Exact.{done_not, write_ends, short-refused, page_short}
use Rattle.runs.specs.Runs.Aside.{Commit, CommitPage}
use Rattle.runs.specs.Runs.Command.{Write}
use Rattle.runs.specs.Memory.{NeedsMore, TooFewFor, TooFew}
use Rattle.runs.proofs.Objects.{on_leaf, leaf_does, by_tests}
use Rattle.runs.proofs.Answered.{Answers, tests_fair, answers_done}

-- what the tests found, and why they refuse
why_tests : {a : Checked} (H : Type 0) {r : Refusal} → Tests a H → a ≡ Err r → ByTests r
why_tests H t e = subst (λ (x : Checked). Tests x H) e t

fine_tests : {a : Checked} {H : Type 0} → Tests a H → a ≡ Ok tt → H
fine_tests {a} {H} t e = subst (λ (x : Checked). Tests x H) e t

-- so many too few that none is left
abbrev pub Spent : Type 0 → Pool → Type 0
Spent short q = short × (free_count q.used ≡ 0)

ends_answers : {p : Pool} {n first pages value : ℕ} {doneBy : ℕ → ℕ} {r : Outcome Answer} (short : Type 0) → (NeedsMore p n first pages → short)
    → Granted p n first pages value r ⊎ Short p n first pages doneBy r → Answers (Spent short r.pool) r.answer
ends_answers {r = r} short f e = ⊎_elim (λ g. answers_done (Spent short r.pool) g.answer) (λ s. rw s.answer (f s.short, s.none)) e

module _ (L : ℕ) (B : ℕ → ℕ → ℕ → ℕ) (p : Pool) (P : Private L B p) where
  -- read

  pub read_answers : (short : Type 0) (n offset : ℕ) (buf : List ℕ) → Answers short (read L p n offset buf).answer
  read_answers short n offset buf = by (read-called L B p P n offset buf)
    where
      by : {r : Outcome Answer} → Called (refused p [] buf) (Reads L B p n offset buf) r → Answers short r.answer
      by (tested why t e) = rw e (tests_fair short why t)
      by (accepted w) = answers_done short w.answer

  pub read_nodes : (n offset : ℕ) (buf : List ℕ) → (read L p n offset buf).pool.nodes ≡ p.nodes
  read_nodes n offset buf = by (read-called L B p P n offset buf)
    where
      by : {r : Outcome Answer} → Called (refused p [] buf) (Reads L B p n offset buf) r → r.pool.nodes ≡ p.nodes
      by (tested why t e) = rw e refl
      by (accepted w) = w.stays.nodes

  -- write

  module _ (list : List ℕ) (n offset : ℕ) (bytes : List ℕ) where
    abbrev against : Checked
    against = against_writing L p.nodes p.mappings list n offset (length bytes)

    write_inside : against ≡ Ok tt → Inside L p.nodes n offset (length bytes)
    write_inside = fine_tests (writing_tests L p.nodes n offset (length bytes) p.mappings list)

    write_by_lem : (X : Outcome Answer → Type 0) → ((r : Refusal) → ByTests r → X (refused p list [] r))
        → (Leaf p.nodes n → against ≡ Ok tt → Writes L B p n offset bytes (write_through L p list n offset bytes) → X (write_through L p list n offset bytes))
        → X (write L p list n offset bytes)
    unfolding write_at
    write_by_lem X stay go =
        on_leaf (refused p list []) (λ m. write_at L p list m offset bytes) L p P.sound n X (stay _ tt)
        (λ leaf.
        by_tests (refused p list []) (write_through L p list n offset bytes) X against
        (λ r e. stay r (why_tests (Inside L p.nodes n offset (length bytes)) (writing_tests L p.nodes n offset (length bytes) p.mappings list) e))
        (λ e. go leaf e (write_through_lem L B p P list n offset bytes leaf (write_inside e))))

    abbrev short : Type 0
    short = TooFew L p (Write list n offset bytes)

    pub write_answers : Answers (Spent short (write L p list n offset bytes).pool) (write L p list n offset bytes).answer
    write_answers =
        write_by_lem (λ r. Answers (Spent short r.pool) r.answer) (λ r t. tests_fair (Spent short p) r t)
        (λ leaf e w. ends_answers short (λ s. (leaf, e, s)) (write_ends w))

    pub write_lacks : short → (write L p list n offset bytes).answer ≡ Err NoMemory
    unfolding write_at
    write_lacks (leaf, fine, more) =
        rw (leaf_does (refused p list []) (λ m. write_at L p list m offset bytes) L p P.sound n leaf, fine)
        (short-refused (write_ends (write_through_lem L B p P list n offset bytes leaf (write_inside fine))) more)

    pub write_nodes : (write L p list n offset bytes).pool.nodes ≡ p.nodes
    write_nodes = write_by_lem (λ r. r.pool.nodes ≡ p.nodes) (λ r t. refl) (λ leaf e w. w.stays.nodes)

    -- no byte is done, or they are the first of the bytes and lie inside a live object
    pub record Lies (done : ℕ) : Type 0 where
      pub leaf : Leaf p.nodes n
      pub among : done ≤ length bytes
      pub inside : offset + done ≤ (node_of p.nodes n).size * L

    pub write_done : let d = (write L p list n offset bytes).done in (d ≡ 0) ⊎ Lies d
    write_done =
        write_by_lem (λ r. (r.done ≡ 0) ⊎ Lies r.done) (λ r t. inl refl)
        (λ leaf e w.
        let i = write_inside e in
        let few = ⊎_elim (λ g. let q = g.done in omega arith) (λ x. let q = x.0 in omega arith) w.ends in
        let m : (write_through L p list n offset bytes).done ≤ length bytes = few in
        inr (record { leaf = leaf; among = m; inside = omega arith }))

    -- accepted, all are
    pub write_all : (v : ℕ) → (write L p list n offset bytes).answer ≡ Ok v
        → (v ≡ length bytes) × ((write L p list n offset bytes).done ≡ length bytes)
    write_all v =
        write_by_lem (λ r. r.answer ≡ Ok v → (v ≡ length bytes) × (r.done ≡ length bytes)) (λ r t e. absurd (done_not e refl))
        (λ leaf e w h. ⊎_elim (λ g. (value h g.answer, g.done)) (λ x. absurd (done_not h x.1.answer)) w.ends)
      where
        value : {a : Answer} → a ≡ Ok v → a ≡ Ok (length bytes) → v ≡ length bytes
        value h g = cc

  -- commit

  module _ (list : List ℕ) (n offset len : ℕ) where
    abbrev committing : Checked
    committing = against_committing L p.nodes p.mappings list n offset len

    commit_inside : committing ≡ Ok tt → Inside L p.nodes n offset len
    commit_inside = fine_tests (committing_tests L p.nodes n offset len p.mappings list)

    abbrev few : Type 0
    few = TooFewFor L p (Commit list n offset len)

    pub commit_answers : Answers (Spent few (commit L p list n offset len).pool) (commit L p list n offset len).answer
    unfolding commit_at
    commit_answers =
        on_leaf (refused p list []) (λ m. commit_at L p list m offset len) L p P.sound n
        (λ r. Answers (Spent few r.pool) r.answer) tt
        (λ leaf.
        by_tests (refused p list []) (commit_through L p list n offset len) (λ r. Answers (Spent few r.pool) r.answer) committing
        (λ r e. tests_fair (Spent few p) r (why_tests (Inside L p.nodes n offset len) (committing_tests L p.nodes n offset len p.mappings list) e))
        (λ e. ends_answers few (λ s. (leaf, e, s)) (commit_through_lem L B p P list n offset len leaf (commit_inside e)).ends))

    pub commit_lacks : few → (commit L p list n offset len).answer ≡ Err NoMemory
    unfolding commit_at
    commit_lacks (leaf, fine, more) =
        rw (leaf_does (refused p list []) (λ m. commit_at L p list m offset len) L p P.sound n leaf, fine)
        (short-refused (commit_through_lem L B p P list n offset len leaf (commit_inside fine)).ends more)

    pub commit_nodes : (commit L p list n offset len).pool.nodes ≡ p.nodes
    commit_nodes = by (commit-called L B p P list n offset len)
      where
        by : {r : Outcome Answer} → Called (refused p list []) (Commits L B p n offset len) r → r.pool.nodes ≡ p.nodes
        by (tested why t e) = rw e refl
        by (accepted w) = w.stays.nodes

  -- commit_page

  module _ (list : List ℕ) (n page : ℕ) (write : Bool) where
    abbrev none : Type 0
    none = TooFewFor L p (CommitPage list n page write)

    pub page_answers : Answers (Spent none (commit_page L p list n page write).pool) (commit_page L p list n page write).answer
    page_answers = by (page_tested L B p P list n page write)
      where
        by : {r : Outcome Answer} → Called (refused p list []) (Accepted L B p P list n page write) r → Answers (Spent none r.pool) r.answer
        by (tested why t e) = rw e (tests_fair (Spent none p) why t)
        by {r} (accepted (leaf, fine, g)) =
            ⊎_elim (λ f. answers_done (Spent none r.pool) f.answer)
            (⊎_elim (λ z. answers_done (Spent none r.pool) z.answer) (λ s. rw s.answer ((leaf, fine, s.writing, s.short), s.none)))
            g.ends

    pub page_lacks : none → (commit_page L p list n page write).answer ≡ Err NoMemory
    page_lacks (leaf, fine, writing, more) = page_short (page_does L B p P list n page write leaf fine) writing more

    pub page_nodes : (commit_page L p list n page write).pool.nodes ≡ p.nodes
    page_nodes = by (page_tested L B p P list n page write)
      where
        by : {r : Outcome Answer} → Called (refused p list []) (Accepted L B p P list n page write) r → r.pool.nodes ≡ p.nodes
        by (tested why t e) = rw e refl
        by (accepted (leaf, fine, g)) = g.stays.nodes
