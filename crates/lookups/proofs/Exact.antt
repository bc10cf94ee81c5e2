-- On every sound pool a lookup for writing takes exactly `need` frames, is refused for want of them, or stops and takes none. Assumes nothing.
use Rattle.std.specs.Prelude.{Err, Ok}
use mathlib.Core.Path.{◌≡◌, refl, sym, ap}
use mathlib.Core.Bool.{true}
use mathlib.Core.List.{List, []}
use Prim.Native.Nat.{ℕ, zero, suc, ◌+◌, ◌-◌, ◌<◌}
use native.Mathlib.Omega.{arith}
use lib.ListN.{get_or}
use borrow.Author.Tests.{eq-eqb}
use Rattle.entry.specs.declared.PageState.{PageState}
use Rattle.tables.specs.Pool.{Pool}
use Rattle.tables.specs.Tables.{node_of, slot_at}
use Rattle.frames.specs.Frames.{free_count}
use Rattle.sound.specs.Facts.{Leaf, Sound}
use Rattle.lookup.specs.Work.{Looked, Work, Looking, looking_of}
use Rattle.lookup.specs.declared.CommitResult.TheVariants.{Ref}
use Rattle.lookup.specs.declared.LookupError.TheVariants.{NoMemory, Stopped}
use Rattle.lookup.specs.declared.Place.{Place}
use Rattle.lookup.specs.declared.End.{End}
use Rattle.lookup.specs.declared.End.TheVariants.{Has, Bare, Tired}
use Rattle.lookup.specs.Mode.{today, place_of, up, asks}
use Rattle.lookup.specs.Lookup.{look}
use Rattle.lookup.specs.Descent.{further, walk_by, walk}
use Rattle.lookup.proofs.Same.{look_same}
use Rattle.lookups.specs.Need.{due_of, price_of, need_in, need, Pays}
use Rattle.lookups.specs.Need.Pays.{gives, refuses, stops}
use Rattle.lookups.proofs.Sides.{sided_by, side_split}
use Rattle.lookups.proofs.Base.{Base, asked_parent}
use Rattle.lookups.proofs.Leaves.{leaf_seen}
use Rattle.lookups.proofs.Taken.{Footing, write_pays}

-- a sound table of nodes, whatever its windows, gives today's lookup its footing
pub footing : (N : List ℕ) (B : Base N) (L : ℕ) (M : List ℕ) → Footing (today L N M)
unfolding asks
footing N B L M =
    record {
      hidden = λ p a.
          let h = (node_of N p.node).parent - 1 in
          eq-eqb (node_of N h).kind 3 (B.tree.parents p.node h (asked_parent N B p.node p.page a)).0;
      sided = λ p a.
          let h = (node_of N p.node).parent - 1 in
          let k = B.tree.parents p.node h (asked_parent N B p.node p.page a) in
          side_split (sided_by (node_of N h) p.node (eq-eqb (node_of N h).kind 3 k.0) (B.tree.distinct h k.0) k.1);
    }

-- what a page needs doesn't depend on the page length, the mappings or who asks

module _ (L : ℕ) (N M P : List ℕ) where
  walk_any : (k n i c d : ℕ) → walk (today L N M) k P (place_of n i c) ≡ walk (today 0 N []) k P (place_of n i d)
  unfolding walk asks
  walk_any zero n i c d = refl
  walk_any (suc k) n i c d = ap (λ y. walk_by (slot_at P n i) (asks (today 0 N []) (place_of n i d)) (further y)) (walk_any k _ _ n n)

  due_any : (s : PageState) (d : ℕ) (p : Place) → due_of (today L N M) s d p ≡ due_of (today 0 N []) s d p
  unfolding due_of
  due_any s zero p = refl
  due_any s (suc d) p = rw (due_any s d (up (today L N M) p))

  price_any : (n i c d : ℕ) (k : ℕ) (x : End) → price_of (today L N M) (place_of n i c) k x ≡ price_of (today 0 N []) (place_of n i d) k x
  unfolding price_of
  price_any n i c d zero (Has s) = refl
  price_any n i c d (suc k) (Has s) = due_any s k _
  price_any n i c d zero Bare = refl
  price_any n i c d (suc k) Bare = refl
  price_any n i c d zero Tired = refl
  price_any n i c d (suc k) Tired = refl

  pub need_any : (n i c : ℕ) → need_in (today L N M) P (place_of n i c) ≡ need N P n i
  unfolding need_in
  need_any n i c = rw (walk_any 64 n i c n) (price_any n i c n _ _)

-- no window is asked to be whole, and nothing of bytes
pub write_exact : (L : ℕ) (p : Pool) → Sound L p → (w : Work) (l i c : ℕ) → Leaf p.nodes l
    → Pays (need p.nodes w.pages l i) w (look L 64 p.nodes p.mappings w l i true c)
write_exact L p sound w l i c leaf =
    let B : Base p.nodes = record { next = get_or p.head 0 0; len = sound.lengths.nodes; tree = sound.tree } in
    let m = today L p.nodes p.mappings in
    rw (look_same m true w 64 (place_of l i c), ← need_any L p.nodes p.mappings w.pages l i c)
    (write_pays m (footing p.nodes B L p.mappings) (place_of l i c) (leaf_seen (node_of p.nodes l) leaf) w)

-- by what the lookup answered

shared_not : {f : ℕ} {A : Type 0} → ◌≡◌ {A = Looked} (Ok (Ref f)) (Err NoMemory) → A
shared_not e = let z : ◌≡◌ {A = ℕ} 0 1 = cc in absurd (omega arith)

stopped_not : {f : ℕ} {A : Type 0} → ◌≡◌ {A = Looked} (Ok (Ref f)) (Err Stopped) → A
stopped_not e = let z : ◌≡◌ {A = ℕ} 0 1 = cc in absurd (omega arith)

denied_not : {A : Type 0} → ◌≡◌ {A = Looked} (Err NoMemory) (Err Stopped) → A
denied_not e = let z : ◌≡◌ {A = ℕ} 0 1 = cc in absurd (omega arith)

same_work : {a b : Looked} {v y : Work} → looking_of a v ≡ looking_of b y → v ≡ y
same_work e = ap (λ (r : Looking). r.work) e

same_answer : {a b : Looked} {v y : Work} → looking_of a v ≡ looking_of b y → a ≡ b
same_answer e = ap (λ (r : Looking). r.answer) e

module _ {n : ℕ} {w v : Work} where
  pub pays_gives : {f : ℕ} → Pays n w (looking_of (Ok (Ref f)) v) → free_count w.used ≡ free_count v.used + n
  pays_gives (gives g y e c) = rw (same_work e) c
  pays_gives (refuses y e l o) = shared_not (same_answer e)
  pays_gives (stops y e c) = stopped_not (same_answer e)

  pub pays_refuses : Pays n w (looking_of (Err NoMemory) v) → (free_count w.used < n) × (free_count v.used ≡ 0)
  pays_refuses (gives g y e c) = shared_not (sym (same_answer e))
  pays_refuses (refuses y e l o) = (l, rw (same_work e) o)
  pays_refuses (stops y e c) = denied_not (same_answer e)
