-- A birth adds the child's start to the window starts, and keeps the other numbers of the tree. Assumes nothing.
use mathlib.Core.Path.{◌≡◌, refl, sym, ap, ◌∙◌}
use mathlib.Core.List.{List}
use Prim.Native.Nat.{ℕ, zero, suc, ◌+◌, ◌≤◌, ◌<◌}
use native.Mathlib.Omega.{arith}
use lib.Dec.{eqb}
use lib.ListN.{length}
use borrow.Author.Tests.{eq-eqb, ne_eqb}
use Rattle.logic.specs.Pick.{pick}
use Rattle.logic.specs.Below.{sum_below}
use Rattle.logic.proofs.Means.{equal, less, split}
use Rattle.node.specs.declared.Node.{Node}
use Rattle.node.specs.Node.{last_owner, free_node}
use Rattle.tables.specs.Tables.{node_of}
use Rattle.sound.specs.Facts.{Tree}
use Rattle.soundness.proofs.Records.{node_out}
use Rattle.soundness.proofs.Sums.{sum_same}
use Rattle.births.proofs.Cloned.{Which, which, Cloned, each, live_n, x_not_n, c_not_n}
use Rattle.births.proofs.Cloned.Which.{is_x, is_n, is_c, is_old}
use Rattle.births.proofs.Offspring.{left_by, right_by, distinct_by, childless_by, parents_by, chain_by}

-- sums

sum_add : (f g : ℕ → ℕ) (m : ℕ) → sum_below (λ j. f j + g j) m ≡ sum_below f m + sum_below g m
unfolding sum_below
sum_add f g zero = refl
sum_add f g (suc m) = let q = sum_add f g m in omega arith

-- v at a, and 0 elsewhere
unfoldable point : ℕ → ℕ → ℕ → ℕ
point a v j = pick (eqb j a) v 0

point_at : (a v j : ℕ) → j ≡ a → point a v j ≡ v
unfolding point
point_at a v j e = rw (eq-eqb j a e)

point_off : (a v j : ℕ) → (j ≡ a → ⊥) → point a v j ≡ 0
unfolding point
point_off a v j e = rw (ne_eqb j a e)

-- the sum of the first m is v, if a is one of them, else 0
point-sum : (a v m : ℕ) → (a < m → sum_below (point a v) m ≡ v) × (m ≤ a → sum_below (point a v) m ≡ 0)
unfolding sum_below
point-sum a v zero = (λ l. absurd (omega arith), λ l. refl)
point-sum a v (suc m) =
    let q = point-sum a v m in
    split (equal m a)
    (λ e. let z = q.1 (omega arith) in let w = point_at a v m e in (λ l. omega arith, λ l. absurd (omega arith)))
    (λ ne.
    let w = point_off a v m ne in
    (λ l. let z = q.0 (omega arith) in omega arith, λ l. let z = q.1 (omega arith) in omega arith))

point_most : (a v m : ℕ) → sum_below (point a v) m ≤ v
point_most a v m =
    split (less a m)
    (λ l. let q = (point-sum a v m).0 l in omega arith)
    (λ out. let q = (point-sum a v m).1 (omega arith) in omega arith)

module _ (N N' : List ℕ) (n x c first pages next : ℕ) (D : Cloned N N' n x c first pages next) (t : Tree N next) where
  abbrev st : ℕ → ℕ
  st m = (node_of N m).parent_offset

  abbrev st' : ℕ → ℕ
  st' m = (node_of N' m).parent_offset

  st_x : st x ≡ 0
  st_x = ap (λ (r : Node). r.parent_offset) (t.blank x D.x_free)

  st_c : st c ≡ 0
  st_c = ap (λ (r : Node). r.parent_offset) (t.blank c D.c_free)

  starts_by : (m : ℕ) → Which n x c m → st' m + point n (st n) m ≡ st m + (point x (st n) m + point c first m)
  starts_by m (is_x e) =
      let a = ap st' e ∙ ap (λ (r : Node). r.parent_offset) D.at_x in
      let b = ap st e ∙ st_x in
      let u = point_off n (st n) m (λ q. x_not_n N N' n x c first pages next D (sym e ∙ q)) in
      let v = point_at x (st n) m e in
      let w = point_off c first m (λ q. D.apart (sym e ∙ q)) in
      omega arith
  starts_by m (is_n e) =
      let a = ap st' e ∙ ap (λ (r : Node). r.parent_offset) D.at_n in
      let b = ap st e in
      let u = point_at n (st n) m e in
      let v = point_off x (st n) m (λ q. x_not_n N N' n x c first pages next D (sym q ∙ e)) in
      let w = point_off c first m (λ q. c_not_n N N' n x c first pages next D (sym q ∙ e)) in
      omega arith
  starts_by m (is_c e) =
      let a = ap st' e ∙ ap (λ (r : Node). r.parent_offset) D.at_c in
      let b = ap st e ∙ st_c in
      let u = point_off n (st n) m (λ q. c_not_n N N' n x c first pages next D (sym e ∙ q)) in
      let v = point_off x (st n) m (λ q. D.apart (sym q ∙ e)) in
      let w = point_at c first m e in
      omega arith
  starts_by m (is_old o) =
      let a = (D.at_old m o).start in
      let u = point_off n (st n) m o.not_n in
      let v = point_off x (st n) m o.not_x in
      let w = point_off c first m o.not_c in
      omega arith

  starts_more : n < 64 → sum_below st' 64 ≤ sum_below st 64 + first
  starts_more low =
      let s = sum_same (λ m. st' m + point n (st n) m) (λ m. st m + (point x (st n) m + point c first m)) 64 (λ m. starts_by m (which n x c m)) in
      let a = sum_add st' (point n (st n)) 64 in
      let b = sum_add st (λ m. point x (st n) m + point c first m) 64 in
      let d = sum_add (point x (st n)) (point c first) 64 in
      let u = (point-sum n (st n) 64).0 low in
      let v = point_most x (st n) 64 in
      let w = point_most c first 64 in
      omega arith

  low_n : length N ≡ 1024 → n < 64
  low_n len =
      split (less n 64) (λ l. l)
      (λ out. absurd (live_n N N' n x c first pages next D (ap (λ (r : Node). r.kind) (node_out N len n (omega arith)))))

  blank_by : (m : ℕ) → Which n x c m → (node_of N' m).kind ≡ 0 → node_of N' m ≡ free_node
  blank_by m (is_x e) = rw (e, D.at_x) (λ z. absurd (omega arith))
  blank_by m (is_n e) = rw (e, D.at_n) (λ z. absurd (live_n N N' n x c first pages next D z))
  blank_by m (is_c e) = rw (e, D.at_c) (λ z. absurd (omega arith))
  blank_by m (is_old o) =
      λ z.
      let r = D.at_old m o in
      let b = t.blank m (sym r.kind ∙ z) in
      let p = ap (λ (r : Node). r.left) b in
      let q = ap (λ (r : Node). r.right) b in
      r.same (λ e. omega arith) (λ e. omega arith) ∙ b

  pub born_tree : length N ≡ 1024 → next ≤ last_owner → Tree N' (next + 1)
  born_tree len more =
      let f = D.fits in
      let z = t.sizes n in
      record {
        left_child = λ m. left_by N N' n x c first pages next D t m (which n x c m);
        right_child = λ m. right_by N N' n x c first pages next D t m (which n x c m);
        distinct = λ m. distinct_by N N' n x c first pages next D t m (which n x c m);
        childless = λ m. childless_by N N' n x c first pages next D t m (which n x c m);
        parents = λ m h. parents_by N N' n x c first pages next D t m h (which n x c m);
        chains = λ m. chain_by N N' n x c first pages next D t m (which n x c m);
        next_least = omega arith;
        next_most = omega arith;
        owners = λ m.
            let q = t.owners n (live_n N N' n x c first pages next D) in
            each N N' n x c first pages next D (λ r. (r.kind ≡ 0 → ⊥) → r.owner < next + 1) m (λ h. omega arith) (λ h. omega arith) (λ h. omega arith)
            (λ o live. let r = D.at_old m o in let w = t.owners m (λ y. live (r.kind ∙ y)) in let v = r.owner in omega arith);
        starts = let q = starts_more (low_n len) in let o = t.starts in let l = t.next_least in omega arith;
        window = λ m.
            each N N' n x c first pages next D (λ r. r.parent_offset ≤ r.parent_limit) m (t.window n) (omega arith) (omega arith)
            (λ o. let r = D.at_old m o in rw (r.start, r.limit) (t.window m));
        window_size = λ m.
            each N N' n x c first pages next D (λ r. r.parent_limit ≤ r.parent_offset + r.size) m (t.window_size n) (omega arith) (omega arith)
            (λ o. let r = D.at_old m o in rw (r.start, r.limit, r.size) (t.window_size m));
        sizes = λ m. each N N' n x c first pages next D (λ r. r.size ≤ 64) m z z (omega arith) (λ o. rw (D.at_old m o).size (t.sizes m));
        policies = λ m. each N N' n x c first pages next D (λ r. r.cache_policy ≤ 3) m (omega arith) (t.policies n) (omega arith) (λ o. rw (D.at_old m o).policy (t.policies m));
        counts = λ m.
            each N N' n x c first pages next D (λ r. r.pin_count ≤ 4294967295) m (t.counts n) (t.counts n) (omega arith)
            (λ o. rw (D.at_old m o).pins (t.counts m));
        kinds = λ m. each N N' n x c first pages next D (λ r. r.kind ≤ 3) m (omega arith) (t.kinds n) (omega arith) (λ o. rw (D.at_old m o).kind (t.kinds m));
        blank = λ m. blank_by m (which n x c m);
      }
