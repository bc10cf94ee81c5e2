-- What the reads of an object give, and the array it ends with, follow from its own reads and writes and its array at their start. Assumes nothing.
use Rattle.std.specs.Prelude.{Ok, Err}
use mathlib.Core.Path.{◌≡◌, refl, ap, ◌∙◌, subst}
use mathlib.Core.Bool.{Bool, true, false}
use mathlib.Core.List.{List, [], ◌∷◌}
use Prim.Native.Nat.{ℕ, ◌+◌}
use native.Mathlib.Omega.{arith}
use lib.Dec.{eqb, leb}
use lib.ListN.{length, take, drop, replicate, length-replicate}
use borrow.Author.Tests.{eqb-true, eqb-false}
use Rattle.logic.specs.Pick.{pick}
use Rattle.tables.specs.Pool.{Pool}
use Rattle.tables.specs.Tables.{node_of}
use Rattle.sound.specs.Facts.{Leaf}
use Rattle.outcome.specs.declared.answer.Refusal.TheVariants.{OutOfRange}
use Rattle.node.specs.Node.{cached_of}
use Rattle.runs.specs.Runs.{Command, Result, result_of, effect, result_in, history}
use Rattle.runs.specs.Runs.Command.{New, Child, Read, Write, Also}
use Rattle.runs.specs.Arrays.{Arrays, overwritten, array_by, arrays_after, read_array}
use Rattle.runs.specs.Isolated.{Isolated}
use Rattle.runs.specs.Own.{Deed, deeds_by, deeds, got, reads_by, reads_of}
use Rattle.runs.specs.Own.Deed.{Asked, Overwrites}
use Rattle.runs.proofs.Records.{Same}
use Rattle.runs.proofs.Given.{read_is}
use Rattle.runs.proofs.Steps.{given_same, step_isolated}
use Rattle.runs.proofs.Turns.{turn_same, turn_keeps}

-- what deeds give and leave, from an array on

abbrev pub shown : Bool → List ℕ → ℕ → ℕ → Result
shown cached a offset len = got (read_array true cached a offset (replicate len 0))

unfoldable pub replay : Bool → List ℕ → List Deed → List Result
replay cached a [] = []
replay cached a (Asked offset len ∷ ds) = shown cached a offset len ∷ replay cached a ds
replay cached a (Overwrites offset bytes answer done ∷ ds) = replay cached (overwritten a offset bytes done) ds

unfoldable pub ending : List ℕ → List Deed → List ℕ
ending a [] = a
ending a (Asked offset len ∷ ds) = ending a ds
ending a (Overwrites offset bytes answer done ∷ ds) = ending (overwritten a offset bytes done) ds

-- what a buffer held before doesn't count
got-shown : (cached : Bool) (a : List ℕ) (offset : ℕ) (buf : List ℕ) → got (read_array true cached a offset buf) ≡ shown cached a offset (length buf)
got-shown false a offset buf = refl
got-shown true a offset buf = rw (length-replicate {A = ℕ} (length buf) 0) (by (leb (offset + length buf) (length a)))
  where
    by : (b : Bool) → got (pick b (result_of (Ok 0) 0 (take (length buf) (drop offset a))) (result_of (Err OutOfRange) 0 buf))
        ≡ got (pick b (result_of (Ok 0) 0 (take (length buf) (drop offset a))) (result_of (Err OutOfRange) 0 (replicate (length buf) 0)))
    by true = refl
    by false = refl

pub record Follows (cached : Bool) (a : List ℕ) (rs : List Result) (ds : List Deed) (end : List ℕ) : Type 0 where
  pub reads : rs ≡ replay cached a ds
  pub ends : end ≡ ending a ds

same_cached : {o : ℕ} {N N' : List ℕ} → Same o N N' → cached_of (node_of N' o) ≡ cached_of (node_of N o)
unfolding cached_of
same_cached s = rw s.policy

-- one call before replies rs and deeds ds, which follow from the array after it
module _ (L : ℕ) (A : Arrays) (p : Pool) (I : Isolated L A p) (o : ℕ) (live : Leaf p.nodes o) (rs : List Result) (ds : List Deed) (end : List ℕ) where
  abbrev cached : Bool
  cached = cached_of (node_of p.nodes o)

  abbrev After : Command → Type 0
  After c = Follows cached (array_by L A c (result_in (effect L p c)) o) rs ds end

  abbrev Before : Command → Type 0
  Before c = Follows cached (A o) (reads_by o c (result_in (effect L p c)) rs) (deeds_by o c (result_in (effect L p c)) ds) end

  -- a call that is no write of o leaves its array
  still : (c : Command) → ((list : List ℕ) (offset : ℕ) (bytes : List ℕ) → c ≡ Write list o offset bytes → ⊥) → After c
      → Follows cached (A o) rs ds end
  still c not_own f = subst (λ (a : List ℕ). Follows cached a rs ds end) (turn_keeps L A p I o live c not_own) f

  read-got : (offset : ℕ) (buf : List ℕ) → got (result_in (effect L p (Read o offset buf))) ≡ shown cached (A o) offset (length buf)
  unfolding effect
  read-got offset buf =
      ap got (read_is L A p I o offset buf) ∙ ap (λ (b : Bool). got (read_array b cached (A o) offset buf)) live ∙ got-shown cached (A o) offset buf

  read_by : (n offset : ℕ) (buf : List ℕ) (b : Bool) → eqb n o ≡ b → Follows cached (A o) rs ds end
      → Follows cached (A o) (pick b (got (result_in (effect L p (Read n offset buf))) ∷ rs) rs) (pick b (Asked offset (length buf) ∷ ds) ds) end
  unfolding replay ending
  read_by n offset buf true t f =
      record {
        reads = rw (eqb-true n o t)
            (ap (λ (r : Result). r ∷ rs) (read-got offset buf) ∙ ap (λ (x : List Result). shown cached (A o) offset (length buf) ∷ x) f.reads);
        ends = f.ends;
      }
  read_by n offset buf false t f = f

  write_by_lem : (list : List ℕ) (n offset : ℕ) (bytes : List ℕ) (b : Bool) → eqb n o ≡ b → After (Write list n offset bytes)
      → let r = result_in (effect L p (Write list n offset bytes)) in
      Follows cached (A o) rs (pick b (Overwrites offset bytes r.answer r.done ∷ ds) ds) end
  unfolding replay ending
  write_by_lem list n offset bytes true t f =
      let r = result_in (effect L p (Write list n offset bytes)) in
      let e : array_by L A (Write list n offset bytes) r o ≡ overwritten (A o) offset bytes r.done =
      rw (eqb-true n o t) (given_same A o (overwritten (A o) offset bytes (effect L p (Write list o offset bytes)).done)) in
      record { reads = f.reads ∙ ap (λ (a : List ℕ). replay cached a ds) e; ends = f.ends ∙ ap (λ (a : List ℕ). ending a ds) e }
  write_by_lem list n offset bytes false t f =
      still (Write list n offset bytes) (λ l x y e. eqb-false n o t (let d : n ≡ o = cc in d)) f

  turn : (c : Command) → After c → Before c
  turn (New pages) f = still (New pages) (λ l x y e. let z : ◌≡◌ {A = ℕ} 0 1 = cc in omega arith) f
  turn (Child list n offset len) f = still (Child list n offset len) (λ l x y e. let z : ◌≡◌ {A = ℕ} 0 1 = cc in omega arith) f
  turn (Read n offset buf) f =
      read_by n offset buf (eqb n o) refl (still (Read n offset buf) (λ l x y e. let z : ◌≡◌ {A = ℕ} 0 1 = cc in omega arith) f)
  turn (Write list n offset bytes) f = write_by_lem list n offset bytes (eqb n o) refl f
  turn (Also c) f = still (Also c) (λ l x y e. let z : ◌≡◌ {A = ℕ} 0 1 = cc in omega arith) f

pub follows : (L : ℕ) (A : Arrays) (p : Pool) → Isolated L A p → (o : ℕ) → Leaf p.nodes o → (run : List Command)
    → let h = history L p run in Follows (cached_of (node_of p.nodes o)) (A o) (reads_of o h) (deeds o h) (arrays_after L A h o)
unfolding history reads_of deeds arrays_after replay ending
follows L A p I o live [] = record { reads = refl; ends = refl }
follows L A p I o live (c ∷ cs) =
    let q = (effect L p c).pool in
    let C = array_by L A c (result_in (effect L p c)) in
    let s = turn_same L A p I o live c in
    turn L A p I o live (reads_of o (history L q cs)) (deeds o (history L q cs)) (arrays_after L C (history L q cs) o) c
    (rw (same_cached s) at (follows L C q (step_isolated L A p I c) o (s.leaf ∙ live) cs))
