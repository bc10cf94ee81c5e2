-- What the walk finds is what page lookup for reading answers, in every sound pool. Assumes nothing.
use mathlib.Core.Path.{◌≡◌, refl, ap, ◌∙◌}
use mathlib.Core.Bool.{false}
use mathlib.Core.List.{List}
use Prim.Native.Nat.{ℕ, zero, suc, ◌+◌, ◌<◌}
use lib.ListN.{length}
use Rattle.entry.specs.declared.PageState.{PageState}
use Rattle.tables.specs.Pool.{Pool}
use Rattle.tables.specs.Tables.{node_of}
use Rattle.outcome.specs.Told.{Told}
use Rattle.lookup.specs.declared.Place.{Place}
use Rattle.lookup.specs.declared.End.{End}
use Rattle.lookup.specs.declared.End.TheVariants.{Has, Bare, Tired}
use Rattle.lookup.specs.Work.{work_of, Looking}
use Rattle.lookup.specs.Mode.{Mode, today, place_of, up}
use Rattle.lookup.specs.Lookup.{look}
use Rattle.lookup.specs.Descent.{Way, way, walk, along}
use Rattle.lookup.specs.Commit.{committed_by, commit_leaf}
use Rattle.lookup.proofs.Same.{look_same}
use Rattle.lookup.proofs.Ways.{Walks, walks}
use Rattle.lookup.proofs.Ways.Walks.{stands, climbs}
use Rattle.sound.specs.Facts.{Leaf, Sound}
use Rattle.lookups.proofs.Chain.{sound-short, ends_by_65}
use Rattle.lookups.proofs.Leaves.{leaf_seen}
use Rattle.lookups.proofs.Walk.{walk_ends, finds_zeros}
use Rattle.lookups.proofs.Shown.{read_shares}
use Rattle.lookups.proofs.Quiet.{commit-quiet}
use Rattle.shows.specs.Shows.{ReadAs, Sees}

module _ (L : ℕ) (p : Pool) (sound : Sound L p) (M U Y : List ℕ) (t : Told) (n i : ℕ) (leaf : Leaf p.nodes n) where
  abbrev m : Mode
  m = today L p.nodes M

  abbrev q : Place
  q = place_of n i n

  -- a frame that the walk ends at is one of the pool's
  found_low : (d : ℕ) (o : Place) (s : PageState) → Walks m p.pages d o (Has s) → s.frame < length p.used
  found_low zero o s (stands x e) = sound.entries.frames o.node o.page x e
  found_low (suc d) o s (climbs e a y) = found_low d (up m o) s y

  answered : (y : Way) → walk m 64 p.pages q ≡ y → Walks m p.pages y.levels q y.end → ReadAs (length p.used) y.end (committed_by (look L 64 p.nodes M (work_of p.pages U Y t) n i false n).answer)
  answered y e k = by y.levels y.end e k
    where
      by : (d : ℕ) (x : End) → walk m 64 p.pages q ≡ way d x → Walks m p.pages d q x → ReadAs (length p.used) x (committed_by (look L 64 p.nodes M (work_of p.pages U Y t) n i false n).answer)
      by d (Has s) e k =
          let r = read_shares m (work_of p.pages U Y t) s d q (leaf_seen (node_of p.nodes n) leaf) k in
          let z = look_same m false (work_of p.pages U Y t) 64 q ∙ ap (along m false (work_of p.pages U Y t) q) e ∙ r.1 in
          (ap (λ (l : Looking). committed_by l.answer) z, found_low d q s k)
      by d Bare e k =
          let z = look_same m false (work_of p.pages U Y t) 64 q ∙ finds_zeros m false (work_of p.pages U Y t) 64 d q e refl in
          ap (λ (l : Looking). committed_by l.answer) z
      by d Tired e k = let s = sound-short L p sound in walk_ends m s p.pages 64 q (ends_by_65 s (n + 1)) (ap (λ (y : Way). y.end) e)

  pub walk-reads : Sees (length p.used) (walk m 64 p.pages q).end (work_of p.pages U Y t) (commit_leaf L p.nodes M (work_of p.pages U Y t) n i false)
  unfolding commit_leaf
  walk-reads =
      let c = commit-quiet L p.nodes M (work_of p.pages U Y t) n i in
      record { answer = answered (walk m 64 p.pages q) refl (walks m p.pages 64 q); used = c.0; memory = c.1; told = c.2 }
