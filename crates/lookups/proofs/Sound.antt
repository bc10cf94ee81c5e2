-- Page lookup keeps a pool sound, in every mode that asks only below a hidden node's size. Assumes nothing.
use Rattle.std.specs.Prelude.{Some, None, Err, Ok as Gave}
use mathlib.Core.Path.{◌≡◌, refl, ◌∙◌}
use mathlib.Core.Bool.{Bool, true, false}
use mathlib.Core.List.{List}
use Prim.Native.Nat.{ℕ, ◌<◌}
use native.Mathlib.Omega.{arith}
use lib.ListN.{set, length-set}
use borrow.Author.Tests.{eqb-true, eq-eqb}
use Rattle.entry.specs.Entry.{new_state}
use Rattle.node.specs.Node.{hidden_of, leaf_of}
use Rattle.tables.specs.Tables.{node_of, slot_at}
use Rattle.frames.specs.Frames.{free_frame_in}
use Rattle.lookup.specs.Work.{Looked, Work, Looking, looking_of}
use Rattle.lookup.specs.declared.CommitResult.TheVariants.{Ref, Zero, CopyOnWrite, NewPage}
use Rattle.lookup.specs.declared.LookupError.TheVariants.{NoMemory, Stopped}
use Rattle.lookup.specs.Lookup.{look}
use Rattle.sound.specs.Facts.{Hidden, Leaf}
use Rattle.logic.proofs.Laws.{true_not}
use Rattle.lookups.proofs.Frames.{free_idle, frame_taken}
use Rattle.lookups.proofs.Bytes.{cleared-length}
use Rattle.lookups.proofs.Ok.{Ok}
use Rattle.lookups.proofs.Base.{Base, depth, deeper, asked_low, entries_back}
use Rattle.lookups.proofs.Loose.{Hand, Keeps, keep_ok, keep_still, keep_holds}
use Rattle.lookup.specs.declared.Place.{Place}
use Rattle.lookup.specs.Mode.{Mode, place_of, node_at, today, up, asks}
use Rattle.lookup.specs.Level.{slot_in, kept_at, cleared, back_at}
use Rattle.lookup.specs.declared.End.{End}
use Rattle.lookup.specs.Descent.{lookup}
use Rattle.lookup.proofs.Same.{look_same}
use Rattle.lookup.proofs.Join.{Final}
use Rattle.lookups.proofs.Walk.{asked_up}
use Rattle.lookups.proofs.Served.{Sounds, Fine, serves_sound}
use Rattle.lookup.proofs.Looks.{Looks, looks}
use Rattle.lookup.proofs.Looks.Looks.{has, zeros, short, stops, clears, fills, quits, rests, falls, lands, takes}

module _ (m : Mode) (B : Base m.nodes) (F : ℕ) where
  -- an answer that ends the lookup is the node's too
  final_keeps : (n h : ℕ) (write : Bool) (r : Looked) (v : Work) → Final m write r → Keeps m.nodes B m.bytes F h r v → Keeps m.nodes B m.bytes F n r v
  final_keeps n h write (Gave (Ref f)) v z k = k
  final_keeps n h write (Gave Zero) v z k = k
  final_keeps n h write (Err NoMemory) v z k = k
  final_keeps n h write (Err Stopped) v z k = k
  final_keeps n h write (Gave (CopyOnWrite f u)) v z k = absurd z
  final_keeps n h write (Gave (NewPage f)) v z k = absurd z

  module _ (inside : (p : Place) → hidden_of (node_at m p) ≡ true → asks m p ≡ true → p.page < (node_at m p).size) (write : Bool) (w : Work) (o : Fine m B F w) where
    abbrev Low : Place → Type 0
    Low p = hidden_of (node_at m p) ≡ false → p.page < (node_at m p).size

    asked_low_by : (p : Place) → Low p → asks m p ≡ true → p.page < (node_at m p).size
    asked_low_by p low a = by (hidden_of (node_at m p)) refl
      where
        by : (b : Bool) → hidden_of (node_at m p) ≡ b → p.page < (node_at m p).size
        by true h = inside p h a
        by false h = low h

    up_low : (p : Place) → asks m p ≡ true → Low (up m p)
    up_low p a h =
        let k = (B.tree.parents p.node (up m p).node (asked_up m p a)).0 in
        (true_not (eq-eqb (node_at m (up m p)).kind 3 k) h)

    above : (p : Place) → asks m p ≡ true → (a : ℕ) → depth m.nodes B p.node < depth m.nodes B a → depth m.nodes B (up m p).node < depth m.nodes B a
    above p k a l = let q = deeper m.nodes B p.node (up m p).node (asked_up m p k) in omega arith

    under : (p : Place) → asks m p ≡ true → depth m.nodes B (up m p).node < depth m.nodes B p.node
    under p k = let q = deeper m.nodes B p.node (up m p).node (asked_up m p k) in omega arith

    -- the lowest free frame, cleared
    module _ (g : ℕ) (f : free_frame_in w.used ≡ Some g) where
      fresh_hand : Hand m.nodes B m.bytes F (cleared m.bytes w g) g
      unfolding cleared
      fresh_hand =
          let idle = free_idle w.used g f in
          let k = idle.below in
          let u = o.used in
          record {
            few = o.few;
            pages = o.pages;
            used = length-set w.used g 1 ∙ u;
            memory = cleared-length m.bytes F w.memory o.memory g (omega arith);
            loose = frame_taken o.entries idle;
          }

      back_fine : Fine m B F (back_at m.bytes w g)
      back_fine =
          let idle = free_idle w.used g f in
          let k = idle.below in
          let u = o.used in
          record {
            few = o.few;
            pages = o.pages;
            used = length-set (set w.used g 1) g 0 ∙ length-set w.used g 1 ∙ u;
            memory = cleared-length m.bytes F w.memory o.memory g (omega arith);
            entries = entries_back o.entries idle;
          }

    -- a frame that came is kept at p
    module _ (p : Place) (low : p.page < (node_at m p).size) (f : ℕ) (v : Work) (h : Hand m.nodes B m.bytes F v f) where
      lands_fine : slot_in v p ≡ None → Fine m B F (kept_at v p f)
      lands_fine z = keep_ok m.nodes B m.bytes F p.node p.page low v f h z

      lands_still : (a b : ℕ) → depth m.nodes B p.node < depth m.nodes B a → slot_at (kept_at v p f).pages a b ≡ slot_at v.pages a b
      lands_still a b l = keep_still m.nodes B m.bytes F p.node p.page low v f a b h l

    pub looks-sound : {d : ℕ} {x : End} (p : Place) (r : Looking) → Low p → Looks m write w d p x r → Sounds m B F w p r
    unfolding cleared
    looks-sound p r low (has s e x) = serves_sound m B F p s w o e x
    looks-sound p r low (zeros a k e) = rw e (record { still = λ a b l. refl; keeps = o })
    looks-sound p r low (short a k f e) = rw e (record { still = λ a b l. refl; keeps = o })
    looks-sound p r low (stops g a k f h out e) = rw e (record { still = λ a b l. refl; keeps = back_fine g f })
    looks-sound p r low (clears g a k f h out e) = rw e (record { still = λ a b l. refl; keeps = (eqb-true (node_at m p).kind 3 h, fresh_hand g f) })
    looks-sound p r low (fills g a k f h e) =
        rw e (record { still = lands_still p (low h) g _ (fresh_hand g f); keeps = lands_fine p (low h) g _ (fresh_hand g f) a.empty })
    looks-sound p r low (quits a e) = rw e (record { still = λ a b l. refl; keeps = o })
    looks-sound p r low (rests a x z) =
        let q = looks-sound (up m p) r (up_low p a.on) x in
        record { still = λ c b l. q.still c b (above p a.on c l); keeps = final_keeps p.node (up m p).node write r.answer r.work z q.keeps }
    looks-sound p r low (falls f v a x h e) =
        let q = looks-sound (up m p) (looking_of (Gave (NewPage f)) v) (up_low p a.on) x in
        rw e (record { still = λ c b l. q.still c b (above p a.on c l); keeps = (eqb-true (node_at m p).kind 3 h, q.keeps.1) })
    looks-sound p r low (lands f v a x h e) =
        let q = looks-sound (up m p) (looking_of (Gave (NewPage f)) v) (up_low p a.on) x in
        rw e
        (record {
          still = λ c b l. lands_still p (low h) f v q.keeps.1 c b l ∙ q.still c b (above p a.on c l);
          keeps = lands_fine p (low h) f v q.keeps.1 (q.still p.node p.page (under p a.on) ∙ a.empty);
        })
    looks-sound p r low (takes f u v a x y) =
        let q = looks-sound (up m p) (looking_of (Gave (CopyOnWrite f u)) v) (up_low p a.on) x in
        let i = asked_low_by p low a.on in
        let o = lands_fine p i f v q.keeps.1 (q.still p.node p.page (under p a.on) ∙ a.empty) in
        let k = serves_sound m B F p (new_state f) (kept_at v p f) o (keep_holds m.nodes B m.bytes F p.node p.page i v f q.keeps.1) y in
        record { still = λ c b l. k.still c b l ∙ lands_still p i f v q.keeps.1 c b l ∙ q.still c b (above p a.on c l); keeps = k.keeps }

-- today's tests ask below a hidden node's size; a leaf hands nothing up
module _ (N : List ℕ) (B : Base N) (M : List ℕ) (L F : ℕ) where
  inside_today : (p : Place) → hidden_of (node_at (today L N M) p) ≡ true → asks (today L N M) p ≡ true → p.page < (node_at (today L N M) p).size
  unfolding asks
  inside_today p h a = asked_low N B p.node p.page (eqb-true (node_of N p.node).kind 3 h) a

  pub leaf_by : (n : ℕ) → (Hidden N n → ⊥) → (z : Looked) (w : Work) → Keeps N B L F n z w → Ok N L F w
  leaf_by n never (Gave (Ref f)) w k = k
  leaf_by n never (Gave Zero) w k = k
  leaf_by n never (Err NoMemory) w k = k
  leaf_by n never (Err Stopped) w k = k
  leaf_by n never (Gave (CopyOnWrite f u)) w k = absurd (never k.0)
  leaf_by n never (Gave (NewPage f)) w k = absurd (never k.0)

  pub look_ok : (s : Work) → Ok N L F s → (write : Bool) (k n i asker : ℕ) → Leaf N n → i < (node_of N n).size → Ok N L F (look L k N M s n i write asker).work
  look_ok s o write k n i asker leaf low =
      let m = today L N M in
      let p = place_of n i asker in
      let r = lookup m k write s p in
      let q = looks-sound m B F inside_today write s o p r (λ h. low) (looks m write s k p) in
      rw (look_same m write s k p)
      (leaf_by n (λ h. let e : leaf_of (node_of N n) ≡ false = rw h in true_not leaf e) r.answer r.work q.keeps)
