-- Frames taken page by page: so far as many as the pages need, and the pages to come need what they needed. Assumes nothing.
use Rattle.std.specs.Prelude.{Err, Ok}
use Rattle.outcome.specs.Answers.{Checked}
use mathlib.Core.Path.{◌≡◌, refl, ◌∙◌}
use mathlib.Core.Bool.{true}
use mathlib.Core.List.{List}
use Prim.Native.Nat.{ℕ, zero, suc, ◌+◌, ◌≤◌, ◌<◌}
use native.Mathlib.Omega.{arith}
use Rattle.logic.specs.Below.{sum_below}
use Rattle.tables.specs.Pool.{Pool}
use Rattle.frames.specs.Frames.{free_count}
use Rattle.lookup.specs.Work.{Work}
use Rattle.lookup.specs.Commit.{Committing}
use Rattle.outcome.specs.declared.answer.Refusal.{Refusal}
use Rattle.outcome.specs.declared.answer.Refusal.TheVariants.{NoMemory}
use Rattle.isolation.specs.Private.{Private}
use Rattle.lookups.specs.Need.{need}
use Rattle.isolation.specs.Kept.{pool_with, Gives, Scarce, Kept}
use Rattle.isolation.proofs.Needs.{need_still}
use Rattle.arrays.specs.Arrays.{needs}
use Rattle.lookups.proofs.Frames.{none_free}

-- the needs of a longer run are no less

pub needs-next : (N P : List ℕ) (n first d : ℕ) → needs N P n first (suc d) ≡ needs N P n first d + need N P n (first + d)
unfolding needs sum_below
needs-next N P n first d = refl

pub needs_grow : (N P : List ℕ) (n first d k : ℕ) → needs N P n first d ≤ needs N P n first (d + k)
needs_grow N P n first d zero = let e : d + 0 ≡ d = omega arith in rw e (omega arith)
needs_grow N P n first d (suc k) =
    let e : d + suc k ≡ suc (d + k) = omega arith in
    let q = needs_grow N P n first d k in
    let m = needs-next N P n first (d + k) in
    rw e (omega arith)

module _ (p : Pool) (n first : ℕ) where
  abbrev pub sum : ℕ → ℕ
  sum d = needs p.nodes p.pages n first d

  -- d pages were granted
  pub record Spent (d : ℕ) (w : Work) : Type 0 where
    pub frames : free_count p.used ≡ free_count w.used + sum d
    pub later : (j : ℕ) → first + d ≤ j → need p.nodes w.pages n j ≡ need p.nodes p.pages n j

  pub spent_none : (w : Work) → w.used ≡ p.used → w.pages ≡ p.pages → Spent 0 w
  unfolding needs sum_below
  spent_none w u e = record { frames = rw u (omega arith); later = λ j h. rw e }

  -- the frames ran out at page d of the run
  pub record Out (pages : ℕ) (left : List ℕ) (d : ℕ) : Type 0 where
    pub among : d < pages
    pub before : sum d ≤ free_count p.used
    pub here : free_count p.used < sum (suc d)
    pub none : free_count left ≡ 0

  module _ (L : ℕ) (A : ℕ → ℕ → ℕ → ℕ) (d : ℕ) (w : Work) (P : Private L A (pool_with p w)) (s : Spent d w) (r : Committing) (K : Kept L A (pool_with p w) w.told n (first + d) true r) where
    needed : need p.nodes w.pages n (first + d) ≡ need p.nodes p.pages n (first + d)
    needed = s.later (first + d) (omega arith)

    pub spent_more : {a : ℕ → ℕ} {f : ℕ} → Gives L (pool_with p w) n (first + d) a true f r.work → Spent (suc d) r.work
    spent_more g =
        let q = g.taken refl in
        let e = needed in
        let m = needs-next p.nodes p.pages n first d in
        let h = s.frames in
        record {
          frames = omega arith;
          later = λ j l. need_still L A (pool_with p w) P w.told n (first + d) true r K j (λ z. omega arith) ∙ s.later j (omega arith);
        }

    pub spent_out : {why : Refusal} (pages : ℕ) → d < pages → Scarce (pool_with p w) n (first + d) true why r.work → Out pages r.work.used d
    spent_out pages l g =
        let q = g.short in
        let e = needed in
        let m = needs-next p.nodes p.pages n first d in
        let h = s.frames in
        record { among = l; before = omega arith; here = omega arith; none = none_free r.work.used g.no_frame }

  -- how a run of pages ends; Y and Z say where
  pub data Ending (pages : ℕ) (why : Checked) (left : List ℕ) (Y : Type 0) (Z : ℕ → Type 0) : Type 0 where
    all : why ≡ Ok tt → free_count p.used ≡ free_count left + sum pages → Y → Ending pages why left Y Z
    out : (d : ℕ) → why ≡ Err NoMemory → Out pages left d → Z d → Ending pages why left Y Z
