use mathlib.Core.Bool.{Bool}
use mathlib.Core.List.{List}
use mathlib.Core.Path.{◌≡◌, refl, ap, ◌∙◌}
use Prim.Native.Nat.{ℕ, ◌≤◌}
use native.Mathlib.Omega.{arith}
use Rattle.logic.specs.Below.{all_below, sum_below}
use Rattle.sound.specs.declared.rows.Row.{Row}
use Rattle.sound.specs.Rows.{row_count, walked, mark_run, present_at}
use Rattle.sound.proofs.RowLaws.{row_length, entry_at, counted, seen_most, walk-next, walk_inside, walk_end, marks_end, next_pins, run_next}
use Rattle.sound.proofs.rows.walk_row.Goals as goal

all_seen : (hidden : Bool) (size F : ℕ) (pages : List ℕ) (n i : ℕ) {row : Row} {c : ℕ} → row ≡ walked hidden size F pages n i → c ≡ row_count pages n → c ≤ row.seen → sum_below (present_at pages n) 64 ≤ sum_below (present_at pages n) i
unfolding row_count walked
all_seen hidden size F pages n i {row} p q h =
    let s : row.seen ≡ sum_below (present_at pages n) i = ap (λ (t : Row). t.seen) p in
    omega arith

pub loop-row-init : goal.loop-row-init
unfolding walked all_below sum_below mark_run
loop-row-init c = (refl, refl, omega arith, omega arith, c.count_present-count.ensures ∙ counted c.args.whole.pages.now c.args.node c.args.whole.rows c.requires)

pub bounds-entries-page : goal.bounds-entries-page
bounds-entries-page c =
    omega (arith, walk_inside _ _ _ _ _ c.loop-row.page c.loop-row.invariant.0 c.loop-row.invariant.4 c.loop-row.invariant.3 c.loop-row-test.true, row_length c.args.whole.pages.now c.args.node c.args.whole.rows c.requires)

pub entry_step-row-requires : goal.entry_step-row-requires
entry_step-row-requires c =
    let l = walk_inside _ _ _ _ _ c.loop-row.page c.loop-row.invariant.0 c.loop-row.invariant.4 c.loop-row.invariant.3 c.loop-row-test.true in
    let s = seen_most _ _ _ _ _ c.loop-row.page c.loop-row.invariant.0 in
    (omega arith, omega arith)

pub loop-row-smaller : goal.loop-row-smaller
loop-row-smaller c = omega (arith, walk_inside _ _ _ _ _ c.loop-row.page c.loop-row.invariant.0 c.loop-row.invariant.4 c.loop-row.invariant.3 c.loop-row-test.true)

pub loop-row-preserved : goal.loop-row-preserved
loop-row-preserved c =
    let l = walk_inside _ _ _ _ _ c.loop-row.page c.loop-row.invariant.0 c.loop-row.invariant.4 c.loop-row.invariant.3 c.loop-row-test.true in
    let e = entry_at c.args.whole.pages.now c.args.node c.loop-row.page l in (
      walk-next _ _ _ _ _ _ c.loop-row.invariant.0 e c.entry_step-row.ensures.0,
      run_next _ _ _ c.loop-row.invariant.1 e c.entry_step-row.ensures.1,
      omega (arith, next_pins _ _ _ _ _ _ c.entry_step-row.ensures.0, c.type_inv.entries c.loop-row.page),
      omega arith,
      c.loop-row.invariant.4,
    )

pub returns : goal.returns
returns c =
    let l = c.loop-row.invariant.3 in
    let m = all_seen _ _ _ _ _ c.loop-row.page c.loop-row.invariant.0 c.loop-row.invariant.4 c.loop-row-test.false in
    (walk_end _ _ _ _ _ _ l m c.loop-row.invariant.0, marks_end c.args.limits.hidden c.args.limits.size c.args.limits.frames _ _ _ l m _ c.loop-row.invariant.1)
