-- The answer of a call by how its run of pages ended. Assumes nothing.
use Rattle.outcome.specs.Answers.{Checked}
use mathlib.Core.Path.{◌≡◌}
use mathlib.Core.Logic.{◌⊎◌, inl, inr}
use Prim.Native.Nat.{ℕ, suc, ◌+◌, ◌-◌, ◌≤◌, ◌<◌}
use native.Mathlib.Omega.{arith}
use native.Mathlib.Numerals.{add-one}
use Rattle.tables.specs.Pool.{Pool}
use Rattle.lookup.specs.Work.{Work}
use Rattle.frames.specs.Frames.{free_count}
use Rattle.ranges.specs.Ranges.{ranged_by}
use Rattle.arrays.specs.Outcomes.{Granted, Short}
use Rattle.arrays.proofs.Spent.{sum, needs_grow, Out, Ending}
use Rattle.arrays.proofs.Spent.Ending.{all, out}

module _ (p : Pool) (n first pages : ℕ) (why : Checked) (done value : ℕ) (w : Work) (doneBy : ℕ → ℕ) where
  -- a prefix that needs too many leaves the whole needing too many
  short_all : (d : ℕ) → Out p n first pages w.used d → free_count p.used < sum p n first pages
  short_all d o =
      let l = o.among in
      let h = o.here in
      let q = needs_grow p.nodes p.pages n first (suc d) (pages - suc d) in
      let e : suc d + (pages - suc d) ≡ pages = omega arith in
      let m : sum p n first (suc d) ≤ sum p n first pages = rw e at q in
      omega arith

  pub closes : {X Y : Type 0} {Z : ℕ → Type 0} → (Y → done ≡ value) → ((d : ℕ) → Z d → X × (done ≡ doneBy d)) → Ending p n first pages why w.used Y Z
      → Granted p n first pages value (ranged_by p why done w) ⊎ (X × Short p n first pages doneBy (ranged_by p why done w))
  unfolding ranged_by
  closes f g (all e c y) =
      inl (record { answer = rw (e, f y); done = f y; enough = omega arith; taken = omega arith })
  closes f g (out d e o z) =
      let x = g d z in
      let h = o.none in
      let s = short_all d o in
      inr (x.0, record { answer = rw e; short = s; page = d; among = o.among; before = o.before; here = rw add-one o.here; done = x.1; taken = omega arith; none = h })
