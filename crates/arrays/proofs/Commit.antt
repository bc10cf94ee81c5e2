-- A commit of pages keeps every array, and is refused exactly if the pages need more frames than are free. Assumes nothing.
use Rattle.std.specs.Prelude.{Ok, Some, None, Err}
use Rattle.outcome.specs.Answers.{Checked}
use mathlib.Core.Path.{◌≡◌, refl, sym, ap, subst}
use mathlib.Core.Bool.{true}
use mathlib.Core.List.{List}
use mathlib.Core.Logic.{inl, inr, ⊎_elim}
use Prim.Native.Nat.{ℕ, suc, ◌+◌, ◌*◌, ◌/◌, ◌≤◌}
use native.Mathlib.Omega.{arith}
use native.Mathlib.Nat.{div-mul-le_self, div-zero, add-mul, le_of_mul-le-mul_right}
use Rattle.logic.proofs.Means.{less, split}
use Rattle.tables.specs.Pool.{Pool}
use Rattle.tables.specs.Tables.{node_of}
use Rattle.lookup.specs.Work.{Work}
use Rattle.lookup.specs.Commit.{committing_of, commit_leaf, Committed}
use Rattle.sound.specs.Facts.{Leaf}
use Rattle.page.specs.Each.{Part, part_of}
use Rattle.page.specs.Pages.{against_write, rest_by, committed_one, commit_one}
use Rattle.ranges.specs.Ranges.{start_work, ranged_by, commit_range, committed, commit_through}
use Rattle.isolation.specs.Private.{Private}
use Rattle.isolation.specs.Kept.{pool_with, Kept}
use Rattle.isolation.proofs.Look.{look_goes_on}
use Rattle.arrays.specs.Outcomes.{Commits}
use Rattle.arrays.proofs.Each.{Goes, each_keeps}
use Rattle.arrays.proofs.Spent.{Spent, spent_none, spent_more, spent_out, Ending}
use Rattle.arrays.proofs.Spent.Ending.{all, out}
use Rattle.arrays.proofs.Close.{closes}
use Rattle.logic.proofs.Laws.{true_not}

module _ (L : ℕ) (A : ℕ → ℕ → ℕ → ℕ) (p : Pool) (n first pages : ℕ) (leaf : Leaf p.nodes n) (low : first + pages ≤ (node_of p.nodes n).size) where
  -- d pages done, k to come
  record Before (k i : ℕ) (w : Work) : Type 0 where
    done : ℕ
    here : i ≡ first + done
    all_pages : done + k ≡ pages
    private : Private L A (pool_with p w)
    spent : Spent p n first done w

  record After (r : Part ℕ Work) : Type 0 where
    private : Private L A (pool_with p r.state)
    ends : Ending p n first pages r.why r.state.used (Unit {0}) (λ d. Unit {0})

  abbrev Next : ℕ → Checked → Part ℕ Work → Type 0
  Next k a q = Goes (commit_one L p.nodes p.mappings n) Before After k a q

  turn_by_lem : (k d : ℕ) (w : Work) → d + suc k ≡ pages → Private L A (pool_with p w) → Spent p n first d w → (z : Committed) (v : Work) → Kept L A (pool_with p w) w.told n (first + d) true (committing_of z v)
      → Next k (against_write z) (part_of (against_write z) (rest_by (against_write z) (first + d) (first + d + 1)) v)
  turn_by_lem k d w e P s (Ok (Some f)) v K =
      record { done = suc d; here = omega arith; all_pages = omega arith; private = K.private; spent = spent_more p n first L A d w P s (committing_of (Ok (Some f)) v) K K.answers }
  turn_by_lem k d w e P s (Err r) v K =
      record { private = K.private; ends = out d (ap Err K.answers.answer) (spent_out p n first L A d w P s (committing_of (Err r) v) K pages (omega arith) K.answers) tt }
  turn_by_lem k d w e P s (Ok None) v K = true_not refl K.answers.reading

  turn : (k i : ℕ) (w : Work) → Before (suc k) i w → Next k (commit_one L p.nodes p.mappings n i w).why (commit_one L p.nodes p.mappings n i w)
  unfolding commit_one committed_one
  turn k i w b =
      let d = b.done in
      let m = b.all_pages in
      subst (λ (j : ℕ). Next k (commit_one L p.nodes p.mappings n j w).why (commit_one L p.nodes p.mappings n j w)) (sym b.here)
      (let l = commit_leaf L p.nodes p.mappings w n (first + d) true in
      turn_by_lem k d w m b.private b.spent l.answer l.work (look_goes_on L A p w b.private n (first + d) true leaf (omega arith)))

  ends : (i : ℕ) (w : Work) → Before 0 i w → After (part_of (Ok tt) i w)
  ends i w b =
      let e : b.done ≡ pages = let m = b.all_pages in omega arith in
      record { private = b.private; ends = all refl (rw e at b.spent.frames) tt }

  range_commits : (w : Work) → Private L A (pool_with p w) → Spent p n first 0 w → After (commit_range L p.nodes p.mappings n first pages w)
  unfolding commit_range
  range_commits w P s =
      each_keeps (commit_one L p.nodes p.mappings n) Before After ends turn pages first w
      (record { done = 0; here = omega arith; all_pages = omega arith; private = P; spent = s })

-- the pages of a range that lies inside lie inside
pub pages_inside : (L offset len size : ℕ) → offset + len ≤ size * L → offset / L + len / L ≤ size
pages_inside L offset len size h =
    split (less 0 L)
    (λ one.
    let a = div-mul-le_self offset L in
    let b = div-mul-le_self len L in
    let c = add-mul (offset / L) (len / L) L in
    le_of_mul-le-mul_right {k = L} (omega arith) one)
    (λ never. let z : L ≡ 0 = omega arith in let a = div-zero offset in let b = div-zero len in rw z (omega arith))

module _ (L : ℕ) (A : ℕ → ℕ → ℕ → ℕ) (p : Pool) (P : Private L A p) (list : List ℕ) (n offset len : ℕ) (leaf : Leaf p.nodes n)
    (inside : offset + len ≤ (node_of p.nodes n).size * L) where
  pub commit_through_lem : Commits L A p n offset len (commit_through L p list n offset len)
  unfolding commit_through committed ranged_by
  commit_through_lem =
      let r = commit_range L p.nodes p.mappings n (offset / L) (len / L) (start_work p list) in
      let c = range_commits L A p n (offset / L) (len / L) leaf (pages_inside L offset len (node_of p.nodes n).size inside) (start_work p list) P (spent_none p n (offset / L) (start_work p list) refl refl) in
      record {
        private = c.private;
        stays = record { nodes = refl; mappings = refl; head = refl };
        taken = refl;
        ends = ⊎_elim inl (λ x. inr x.1) (closes p n (offset / L) (len / L) r.why 0 0 r.state (λ d. 0) {X = Unit {0}} (λ y. refl) (λ d z. (tt, refl)) c.ends);
      }
