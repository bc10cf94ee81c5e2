-- Page lookup for reading takes no frame and tells nothing, in every mode; in a sound pool it always answers. Assumes nothing.
use Rattle.std.specs.Prelude.{Err, Ok}
use mathlib.Core.Path.{◌≡◌, refl, ◌∙◌}
use mathlib.Core.Bool.{Bool, false}
use mathlib.Core.List.{List}
use Prim.Native.Nat.{ℕ, ◌+◌}
use Rattle.entry.specs.declared.PageState.{PageState}
use Rattle.node.specs.Node.{hidden_of}
use Rattle.tables.specs.Pool.{Pool}
use Rattle.tables.specs.Tables.{node_of}
use Rattle.sound.specs.Facts.{Leaf, Sound}
use Rattle.lookup.specs.Work.{Looked, Work, Looking, looking_of}
use Rattle.lookup.specs.declared.CommitResult.TheVariants.{Ref, Zero, CopyOnWrite, NewPage}
use Rattle.lookup.specs.declared.LookupError.TheVariants.{NoMemory, Stopped}
use Rattle.lookup.specs.Level.{child_told, leaf_told}
use Rattle.lookup.specs.Lookup.{look}
use Rattle.lookup.specs.Commit.{committed_by, commit_leaf}
use Rattle.lookups.specs.Reading.{Reads, Quiet, Readable}
use Rattle.lookups.specs.Reading.Readable.{frame, zeros as no_frame}
use Rattle.lookups.proofs.Chain.{sound-short, ends_by_65}
use Rattle.lookups.proofs.Leaves.{leaf_seen}
use Rattle.logic.proofs.Laws.{true_not}
use Rattle.lookup.specs.declared.Place.{Place}
use Rattle.lookup.specs.Mode.{Mode, place_of, node_at, today}
use Rattle.lookup.specs.declared.End.{End}
use Rattle.lookup.specs.declared.End.TheVariants.{Tired}
use Rattle.lookup.proofs.Same.{look_same}
use Rattle.lookup.proofs.Join.{Final}
use Rattle.lookups.proofs.Walk.{walk_ends}
use Rattle.lookup.proofs.Ways.{Serves}
use Rattle.lookup.proofs.Ways.Serves.{keeps, goes, moves, copies, lacks, lends}
use Rattle.lookup.proofs.Looks.{Looks, looks}
use Rattle.lookup.proofs.Looks.Looks.{has, zeros, short, stops, clears, fills, quits, rests, falls, lands, takes}

module _ {S : Type 0} where
  still : {w : Work} {r : Looked} {v : Work} → Reads S r → v.used ≡ w.used → v.memory ≡ w.memory → v.told ≡ w.told → Quiet S w (looking_of r v)
  still a u y t = record { answer = a; used = u; memory = y; told = t }

  after : {w v : Work} {r : Looking} → v.used ≡ w.used → v.memory ≡ w.memory → v.told ≡ w.told → Quiet S v r → Quiet S w r
  after u y t q = record { answer = q.answer; used = q.used ∙ u; memory = q.memory ∙ y; told = q.told ∙ t }

  serves_quiet : {m : Mode} {p : Place} {s : PageState} {u : Bool} {w : Work} {r : Looking} → u ≡ false → Serves m false p s u w r → Quiet S w r
  unfolding child_told leaf_told
  serves_quiet z (keeps h e) = rw (e, z) (still tt refl refl refl)
  serves_quiet z (goes h b e) = rw (e, z) (still refl refl refl refl)
  serves_quiet z (moves h b t e) = rw (e, z) (still refl refl refl refl)
  serves_quiet z (copies h b t k g f e) = (true_not k refl)
  serves_quiet z (lacks h b t k f e) = (true_not k refl)
  serves_quiet z (lends h b t k e) = rw (e, z) (still tt refl refl refl)

  -- it stops only where the walk was tired
  pub looks-quiet : {m : Mode} {w : Work} {d : ℕ} {p : Place} {x : End} {r : Looking} → (x ≡ Tired → S) → Looks m false w d p x r → Quiet S w r
  looks-quiet n (has s e x) = serves_quiet refl x
  looks-quiet n (zeros a k e) = rw e (still tt refl refl refl)
  looks-quiet n (short a k f e) = (true_not k refl)
  looks-quiet n (stops g a k f h o e) = (true_not k refl)
  looks-quiet n (clears g a k f h o e) = (true_not k refl)
  looks-quiet n (fills g a k f h e) = (true_not k refl)
  looks-quiet n (quits a e) = rw e (still (n refl) refl refl refl)
  looks-quiet n (rests a l z) = looks-quiet n l
  looks-quiet n (falls f v a l h e) = absurd (looks-quiet n l).answer
  looks-quiet n (lands f v a l h e) = absurd (looks-quiet n l).answer
  looks-quiet n (takes f u v a l x) = let q = looks-quiet n l in after q.used q.memory q.told (serves_quiet q.answer x)

pub read-quiet : (L k : ℕ) (N M : List ℕ) (w : Work) (node i asker : ℕ) → Quiet Unit w (look L k N M w node i false asker)
read-quiet L k N M w node i asker = rw (look_same (today L N M) false w k (place_of node i asker)) (looks-quiet (λ e. tt) (looks (today L N M) false w k (place_of node i asker)))

-- in a sound pool it always answers
pub read-sound : (L : ℕ) (p : Pool) → Sound L p → (M : List ℕ) (w : Work) (node i asker : ℕ) → Quiet ⊥ w (look L 64 p.nodes M w node i false asker)
read-sound L p sound M w node i asker =
    let s = sound-short L p sound in
    let m = today L p.nodes M in
    let q = place_of node i asker in
    rw (look_same m false w 64 q)
    (looks-quiet (walk_ends m s w.pages 64 q (ends_by_65 s (node + 1))) (looks m false w 64 q))

-- a leaf hands nothing up

leaf_serves : {m : Mode} {write u : Bool} {p : Place} {s : PageState} {w : Work} {r : Looking} → hidden_of (node_at m p) ≡ false → Serves m write p s u w r → Final m write r.answer
leaf_serves n (keeps h e) = rw e tt
leaf_serves n (goes h b e) = (true_not h n)
leaf_serves n (moves h b t e) = (true_not h n)
leaf_serves n (copies h b t k g f e) = (true_not h n)
leaf_serves n (lacks h b t k f e) = (true_not h n)
leaf_serves n (lends h b t k e) = (true_not h n)

pub leaf_looks : {m : Mode} {write : Bool} {w : Work} {d : ℕ} {p : Place} {x : End} {r : Looking} → hidden_of (node_at m p) ≡ false → Looks m write w d p x r → Final m write r.answer
leaf_looks n (has s e x) = leaf_serves n x
leaf_looks n (zeros a k e) = rw e tt
leaf_looks n (short a k f e) = rw e tt
leaf_looks n (stops g a k f h o e) = rw e tt
leaf_looks n (clears g a k f h o e) = (true_not h n)
leaf_looks n (fills g a k f h e) = rw e tt
leaf_looks n (quits a e) = rw e tt
leaf_looks n (rests a l z) = z
leaf_looks n (falls f v a l h e) = (true_not h n)
leaf_looks n (lands f v a l h e) = rw e tt
leaf_looks n (takes f u v a l x) = leaf_serves n x

answers_by : (m : Mode) (r : Looked) → Reads ⊥ r → Final m false r → Readable (committed_by r)
answers_by m (Ok (Ref f)) a z = frame f refl
answers_by m (Ok Zero) a z = no_frame refl
answers_by m (Err NoMemory) a z = absurd a
answers_by m (Err Stopped) a z = absurd a
answers_by m (Ok (CopyOnWrite f u)) a z = absurd z
answers_by m (Ok (NewPage f)) a z = absurd z

-- so of an object's page, as its callers see it

pub commit-quiet : (L : ℕ) (N M : List ℕ) (w : Work) (n i : ℕ) → let v = (commit_leaf L N M w n i false).work in (v.used ≡ w.used) × (v.memory ≡ w.memory) × (v.told ≡ w.told)
unfolding commit_leaf
commit-quiet L N M w n i = let q = read-quiet L 64 N M w n i n in (q.used, q.memory, q.told)

pub commit_answers : (L : ℕ) (p : Pool) → Sound L p → (M : List ℕ) (w : Work) (n i : ℕ) → Leaf p.nodes n → Readable (commit_leaf L p.nodes M w n i false).answer
unfolding commit_leaf
commit_answers L p sound M w n i leaf =
    let m = today L p.nodes M in
    let e = look_same m false w 64 (place_of n i n) in
    answers_by m (look L 64 p.nodes M w n i false n).answer (read-sound L p sound M w n i n).answer
    (rw e (leaf_looks (leaf_seen (node_of p.nodes n) leaf) (looks m false w 64 (place_of n i n))))
