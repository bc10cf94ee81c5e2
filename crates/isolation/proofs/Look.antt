-- Page lookup keeps every object's array, and answers what the array says. Assumes nothing.
use Rattle.std.specs.Prelude.{Option, ℕ, Err, Ok as Gave}
use mathlib.Core.Path.{◌≡◌, refl, sym, ap, ◌∙◌}
use mathlib.Core.Bool.{Bool, true}
use Prim.Native.Nat.{ℕ, ◌+◌, ◌<◌}
use lib.ListN.{length, get_or}
use Rattle.tables.specs.Pool.{Pool}
use Rattle.tables.specs.Tables.{node_of}
use Rattle.outcome.specs.Told.{Told}
use Rattle.lookup.specs.Work.{Looked, Work, looking_of}
use Rattle.lookup.specs.declared.CommitResult.TheVariants.{Ref, Zero, CopyOnWrite, NewPage}
use Rattle.lookup.specs.declared.LookupError.TheVariants.{NoMemory, Stopped}
use Rattle.lookup.specs.Mode.{today, place_of}
use Rattle.lookup.specs.Lookup.{look_in}
use Rattle.lookup.specs.Commit.{committed_by, commit_leaf}
use Rattle.lookup.specs.Descent.{lookup}
use Rattle.lookup.proofs.Same.{look_same}
use Rattle.lookup.proofs.Looks.{looks}
use Rattle.lookups.specs.Need.{need, Pays}
use Rattle.lookups.proofs.Chain.{sound-short, ends_by_65}
use Rattle.lookups.proofs.Walk.{walk_ends}
use Rattle.lookups.proofs.Exact.{write_exact, pays_gives, pays_refuses}
use Rattle.sound.specs.Facts.{Leaf}
use Rattle.isolation.specs.Walk.{byte_of}
use Rattle.isolation.specs.Private.{Shows, Private}
use Rattle.isolation.specs.Kept.{pool_with, work_in, Answered, Kept}
use Rattle.isolation.proofs.Wood.{Ground}
use Rattle.isolation.proofs.State.{Step}
use Rattle.isolation.proofs.Done.{Says}
use Rattle.isolation.proofs.Leaf.{served}
use Rattle.lookups.proofs.Ok.{Ok}

module _ (L : ℕ) (A : ℕ → ℕ → ℕ → ℕ) (p : Pool) (P : Private L A p) where
  pub ground : Ground p.nodes
  ground = record { base = record { next = get_or p.head 0 0; len = P.sound.lengths.nodes; tree = P.sound.tree }; windows = P.windows }

  ok : (t : Told) → Ok p.nodes L (length p.used) (work_in p t)
  ok t = let l = P.sound.lengths in record { few = l.most_frames; pages = l.pages; used = refl; memory = l.memory; entries = P.sound.entries }

  -- a step of the tables keeps the arrays
  step_private : (t : Told) (w : Work) → Step p.nodes L (length p.used) (work_in p t) w → Private L A (pool_with p w)
  step_private t w s =
      let l = P.sound.lengths in
      let o = s.ok in
      record {
        sound = record {
          lengths = record {
            nodes = l.nodes;
            pages = o.pages;
            mappings = l.mappings;
            head = l.head;
            some_frame = rw o.used l.some_frame;
            most_frames = rw o.used l.most_frames;
            memory = rw o.used o.memory;
          };
          tree = P.sound.tree;
          entries = o.entries;
          mappings = P.sound.mappings;
        };
        windows = P.windows;
        shows = λ m j leaf low.
            let v = P.shows m j leaf low in
            let u = s.views m j v.source leaf v.view in
            record { source = u.0; view = u.1; bytes = λ k h. u.2 k h ∙ v.bytes k h };
      }

  module _ (t : Told) (l i : ℕ) (write : Bool) (leaf : Leaf p.nodes l) (low : i < (node_of p.nodes l).size) where
    shown : Shows L p l i (A l i)
    shown = P.shows l i leaf low

    answered : (z : Looked) (w : Work) → Step p.nodes L (length p.used) (work_in p t) w → (write ≡ true → Pays (need p.nodes p.pages l i) (work_in p t) (looking_of z w))
        → Says L (length p.used) (work_in p t) l i shown.source write z w → Answered L p t l i (A l i) write (committed_by z) w
    answered (Gave (Ref f)) w s c d =
        record {
          bytes = λ k h. d.bytes k h ∙ shown.bytes k h;
          frame = rw s.ok.used d.frame;
          own = d.own;
          taken = λ k. pays_gives (c k);
          untaken = d.untaken;
        }
    answered (Gave Zero) w s c d =
        let e = d.nothing in
        record { reading = d.reading; bytes = λ k h. sym (shown.bytes k h) ∙ ap (λ (x : Option ℕ). byte_of L p.memory x k) e; same = d.same }
    answered (Err NoMemory) w s c d = record { answer = refl; writing = d.writing; short = (pays_refuses (c d.writing)).0; no_frame = d.no_frame }
    answered (Gave (CopyOnWrite f u)) w s c d = absurd d
    answered (Gave (NewPage g)) w s c d = absurd d
    answered (Err Stopped) w s c d = absurd d

    pub look_keeps : Kept L A p t l i write (commit_leaf L p.nodes p.mappings (work_in p t) l i write)
    unfolding commit_leaf
    look_keeps =
        let m = today L p.nodes p.mappings in
        let q = place_of l i l in
        let short = sound-short L p P.sound in
        let never = walk_ends m short p.pages 64 q (ends_by_65 short (l + 1)) in
        let r = lookup m 64 write (work_in p t) q in
        let s = served p.nodes ground p.mappings L (length p.used) l i leaf low (work_in p t) shown.source write l (ok t) shown.view r never (looks m write (work_in p t) 64 q) in
        let e = look_same m write (work_in p t) 64 q in
        let c : write ≡ true → Pays (need p.nodes p.pages l i) (work_in p t) (look_in m 64 write (work_in p t) q) = λ k. rw k (write_exact L p P.sound (work_in p t) l i l leaf) in
        rw e
        (record {
          private = step_private t r.work s.step;
          only = s.only;
          answers = answered r.answer r.work s.step (λ k. rw e at (c k)) s.says;
        })

-- the same of a lookup that goes on from what an earlier one left
pub look_goes_on : (L : ℕ) (A : ℕ → ℕ → ℕ → ℕ) (p : Pool) (w : Work) → Private L A (pool_with p w) → (l i : ℕ) (write : Bool) → Leaf p.nodes l → i < (node_of p.nodes l).size
    → Kept L A (pool_with p w) w.told l i write (commit_leaf L p.nodes p.mappings w l i write)
look_goes_on L A p w P l i write leaf low = look_keeps L A (pool_with p w) P w.told l i write leaf low
