-- The theorems that specs/Theorems.antt states. Assumes nothing.
use mathlib.Core.Path.{◌≡◌, refl, sym, ap, ◌∙◌}
use mathlib.Core.Bool.{Bool, true, false}
use mathlib.Core.List.{List}
use Prim.Native.Nat.{ℕ}
use borrow.Author.Tests.{eq-eqb}
use Rattle.logic.specs.Pick.{pick}
use Rattle.node.specs.Node.{leaf_of, cached_of}
use Rattle.tables.specs.Pool.{Pool}
use Rattle.tables.specs.Tables.{node_of}
use Rattle.sound.specs.Facts.{Leaf, Lengths}
use Rattle.sound.specs.Sound.{lengths_ok, sound}
use Rattle.soundness.proofs.Soundness.{lengths_mean, facts_sound}
use Rattle.pool.specs.Calls.{start}
use Rattle.births.proofs.Calls.{start-sound, new-sound, len-sound, forecast-sound, append-sound, remove_sound, child_sound}
use Rattle.arrays.proofs.Sound.{read-sound, write-sound, commit-sound, page_sound}
use Rattle.runs.specs.Runs.{Aside, Command, effect, aside_effect, result_in, history, pool_after, history_of}
use Rattle.runs.specs.Runs.Aside.{Commit, CommitPage, Len, Peek, Forecast, Append, Remove}
use Rattle.runs.specs.Runs.Command.{New, Child, Read, Write, Also}
use Rattle.runs.specs.Arrays.{nobody, array_by, arrays_of, lives, read_array}
use Rattle.runs.specs.Isolated.{paged, Isolated}
use Rattle.runs.specs.Memory.{TooFew}
use Rattle.runs.specs.Own.{deeds}
use Rattle.runs.specs.Theorems.{Promises, AnyPromises, AnyRun, EveryCall, FreshRun, TwoRuns, TwoFreshRuns, TwoRunsFromBirth, KeepsSound}
use Rattle.runs.specs.Theorems.AnyCall.{Start, Of}
use Rattle.runs.proofs.Answered.{answers_refused}
use Rattle.runs.proofs.Given.{len_is, read_is, peek_is}
use Rattle.runs.proofs.Ranges.{Spent, write_all}
use Rattle.runs.proofs.Steps.{step_isolated}
use Rattle.runs.proofs.Turns.{turn_answers, turn_lacks, turn-live, turn_keeps}
use Rattle.runs.proofs.Cached.{fresh-cached, cached_from}
use Rattle.runs.proofs.Replay.{replay, ending, follows}
use Rattle.runs.proofs.Runs.{isolated_from, live_from, history_from, arrays_from, fresh_empty, fresh_isolated}

pub any_promises : AnyPromises
unfolding effect aside_effect
any_promises L A p I =
    record {
      sound = facts_sound L p I.private.sound;
      sizes = λ n leaf. sym (I.lengths n leaf);
      lens = len_is L A p I;
      reads = read_is L A p I;
      peeks = λ zero n page. peek_is L A p I n zero page;
      writes = write_all L (paged L A) p I.private;
      own_writes = turn_keeps L A p I;
      never_bad_pool = λ c e. answers_refused (Spent (TooFew L p c) (effect L p c).pool) (turn_answers L A p I c) e;
      never_stopped = λ c e. answers_refused (Spent (TooFew L p c) (effect L p c).pool) (turn_answers L A p I c) e;
      no_memory = λ c e. answers_refused (Spent (TooFew L p c) (effect L p c).pool) (turn_answers L A p I c) e;
      too_few = turn_lacks L A p I;
    }

pub any_run : AnyRun
any_run L A p I run = isolated_from L A p I run

pub every_call : EveryCall
every_call L A p before c rest = record { events = history_from L p before c rest; arrays = arrays_from L A p before c }

-- from a fresh pool

module _ (L : ℕ) (p : Pool) (lent : Lengths L p) (run : List Command) where
  lengths : lengths_ok L p ≡ true
  lengths = (lengths_mean L p).test lent

  started : Isolated L nobody (start L p).pool
  started = fresh_isolated L p lengths

  run_isolated : Isolated L (arrays_of L p run) (pool_after L p run)
  run_isolated = isolated_from L nobody (start L p).pool started run

  run_live : (n : ℕ) → leaf_of (node_of (pool_after L p run).nodes n) ≡ lives n false (history_of L p run)
  run_live n =
      live_from L nobody (start L p).pool started run n ∙ ap (λ (b : Bool). lives n b (history_of L p run)) (fresh_empty L p lengths n)

  run_cached : (n : ℕ) → cached_of (node_of (pool_after L p run).nodes n) ≡ true
  unfolding cached_of
  run_cached n =
      eq-eqb (node_of (pool_after L p run).nodes n).cache_policy 0 (cached_from L nobody (start L p).pool started (fresh-cached L p lengths) run n)

  run_promises : Promises L (arrays_of L p run) (pool_after L p run)
  run_promises = any_promises L (arrays_of L p run) (pool_after L p run) run_isolated

pub fresh_run : FreshRun
fresh_run L p lent run =
    record {
      isolated = run_isolated L p lent run;
      promises = run_promises L p lent run;
      live = run_live L p lent run;
      cached = run_cached L p lent run;
      reads = λ n offset buf.
          (run_promises L p lent run).reads n offset buf
          ∙ ap (λ (b : Bool). read_array b (cached_of (node_of (pool_after L p run).nodes n)) (arrays_of L p run n) offset buf) (run_live L p lent run n)
          ∙ ap (λ (b : Bool). read_array (lives n false (history_of L p run)) b (arrays_of L p run n) offset buf) (run_cached L p lent run n);
    }

-- two runs

pub two_runs : TwoRuns
two_runs L A B p q I J o u here there same equal one two alike =
    let f = follows L A p I o here one in
    let g = follows L B q J u there two in
    let b = cached_of (node_of p.nodes o) in
    let ds = deeds u (history L q two) in
    record {
      reads = f.reads ∙ ap (replay b (A o)) alike ∙ ap (λ (a : List ℕ). replay b a ds) equal ∙ ap (λ (x : Bool). replay x (B u) ds) same ∙ sym
          g.reads;
      arrays = f.ends ∙ ap (ending (A o)) alike ∙ ap (λ (a : List ℕ). ending a ds) equal ∙ sym g.ends;
    }

pub two_fresh_runs : TwoFreshRuns
two_fresh_runs L p q lent loan past other o u here there equal one two alike =
    two_runs L (arrays_of L p past) (arrays_of L q other) (pool_after L p past) (pool_after L q other) (run_isolated L p lent past)
    (run_isolated L q loan other) o u
    (run_live L p lent past o ∙ here) (run_live L q loan other u ∙ there)
    (run_cached L p lent past o ∙ sym (run_cached L q loan other u)) equal one two alike

pub two_runs_from_birth : TwoRunsFromBirth
two_runs_from_birth L p lent past birth o made one two alike =
    let r = pool_after L p past in
    let A = arrays_of L p past in
    let I = run_isolated L p lent past in
    let q = (effect L r birth).pool in
    let C = array_by L A birth (result_in (effect L r birth)) in
    let leaf : Leaf q.nodes o = turn-live L A r I o birth ∙ ap (λ (b : Bool). pick b true (leaf_of (node_of r.nodes o))) made in
    let J = step_isolated L A r I birth in
    (two_runs L C C q q J J o o leaf leaf refl refl one two alike).reads

-- every call keeps every sound pool sound

module _ (L : ℕ) (p : Pool) (s : sound L p ≡ true) where
  aside_sound : (c : Aside) → sound L (aside_effect L p c).pool ≡ true
  unfolding aside_effect
  aside_sound (Commit list n offset len) = commit-sound L p s list n offset len
  aside_sound (CommitPage list n page write) = page_sound L p s list n page write
  aside_sound (Len n) = len-sound L p s n
  aside_sound (Peek zero n page) = s
  aside_sound (Forecast n offset len) = forecast-sound L p s n offset len
  aside_sound (Append n first pages) = append-sound L p s n first pages
  aside_sound (Remove n mapping) = remove_sound L p s n mapping

  command_sound : (c : Command) → sound L (effect L p c).pool ≡ true
  unfolding effect
  command_sound (New pages) = new-sound L p s pages
  command_sound (Child list n offset len) = child_sound L p s list n offset len
  command_sound (Read n offset buf) = read-sound L p s n offset buf
  command_sound (Write list n offset bytes) = write-sound L p s list n offset bytes
  command_sound (Also c) = aside_sound c

pub keeps_sound : KeepsSound
keeps_sound L p s Start = start-sound L p s
keeps_sound L p s (Of c) = command_sound L p s c
