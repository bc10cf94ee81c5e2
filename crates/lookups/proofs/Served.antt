-- A node that serves its entry keeps a pool sound, in every mode. Assumes nothing.
use Rattle.std.specs.Prelude.{Some, Ok as Gave}
use mathlib.Core.Path.{◌≡◌, refl, ◌∙◌}
use mathlib.Core.Bool.{Bool, true}
use Prim.Native.Nat.{ℕ, ◌<◌}
use native.Mathlib.Omega.{arith}
use lib.ListN.{length-set}
use borrow.Author.Tests.{eqb-true}
use Rattle.entry.specs.declared.PageState.{PageState}
use Rattle.entry.specs.Entry.{tagged_of}
use Rattle.node.specs.Node.{side_of}
use Rattle.frames.specs.Frames.{free_frame_in}
use Rattle.outcome.specs.Told.{Told}
use Rattle.lookup.specs.declared.CommitResult.TheVariants.{CopyOnWrite}
use Rattle.lookup.specs.Work.{Work, Looking, looking_of}
use Rattle.sound.specs.Facts.{Hidden, Holds}
use Rattle.lookups.proofs.Table.{others, wrote_none}
use Rattle.lookups.proofs.Rows.{taken_out}
use Rattle.lookups.proofs.Frames.{free_idle, frame_taken, retagged}
use Rattle.lookups.proofs.Bytes.{copied_size}
use Rattle.lookups.proofs.Ok.{Ok}
use Rattle.lookups.proofs.Base.{Base, page_low, node_low}
use Rattle.lookups.proofs.Loose.{Post, told_ok, not_deeper, put_wrote}
use Rattle.lookup.specs.declared.Place.{Place}
use Rattle.lookup.specs.Mode.{Mode, node_at}
use Rattle.lookup.specs.Level.{with_told, out_at, copy_at}
use Rattle.lookup.proofs.Ways.{Serves}
use Rattle.lookup.proofs.Ways.Serves.{keeps, goes, moves, copies, lacks, lends}

module _ (m : Mode) (B : Base m.nodes) (F : ℕ) where
  abbrev pub Sounds : Work → Place → Looking → Type 0
  Sounds w p r = Post m.nodes B m.bytes F w p.node r

  abbrev pub Fine : Work → Type 0
  Fine = Ok m.nodes m.bytes F

  -- a node that has the page

  module _ (p : Place) (e : PageState) (w : Work) (o : Fine w) (x : Holds w.pages p.node p.page e) where
    low : p.page < (node_at m p).size
    low = o.entries.below p.node p.page e x

    moved : (t : Told) (u : Bool) → Hidden m.nodes p.node → Sounds w p (looking_of (Gave (CopyOnWrite e.frame u)) (out_at p (with_told w t)))
    moved t u h =
        let y = wrote_none w.pages p.node p.page (page_low m.nodes B p.node p.page low) (node_low m.nodes B p.node p.page low) o.pages in
        record {
          still = λ a b l. others y a b (λ c d. not_deeper m.nodes B m.bytes F l c);
          keeps = (h, record { few = o.few; pages = y.size ∙ o.pages; used = o.used; memory = o.memory; loose = taken_out o.entries x y });
        }

    copied : (t : Told) (g : ℕ) → Hidden m.nodes p.node → free_frame_in w.used ≡ Some g → Sounds w p (looking_of (Gave (CopyOnWrite g true)) (copy_at m p e g (with_told w t)))
    copied t g h f =
        let idle = free_idle w.used g f in
        let k = idle.below in
        let u = o.used in
        let q = o.few in
        let c = o.entries.frames p.node p.page e x in
        let tag = (side_of (node_at m p) p.asker).tag in
        let y = put_wrote m.nodes B m.bytes F p.node p.page low w.pages (tagged_of e tag) o.pages (omega arith) (o.entries.pins p.node p.page e x) in
        record {
          still = λ a b l. others y a b (λ c d. not_deeper m.nodes B m.bytes F l c);
          keeps = (
            h,
            record {
              few = q;
              pages = y.size ∙ o.pages;
              used = length-set w.used g 1 ∙ u;
              memory = copied_size m.bytes F w.memory o.memory g (omega arith) e.frame (omega arith);
              loose = retagged (frame_taken o.entries idle) x h y;
            },
          );
        }

    told : (t : Told) → Fine (with_told w t)
    told t = told_ok m.nodes B m.bytes F w t o

    pub serves_sound : {write u : Bool} {r : Looking} → Serves m write p e u w r → Sounds w p r
    serves_sound (keeps h z) = rw z (record { still = λ a b l. refl; keeps = told _ })
    serves_sound (goes h b z) = rw z (moved w.told _ (eqb-true (node_at m p).kind 3 h))
    serves_sound (moves h b t z) = rw z (moved _ _ (eqb-true (node_at m p).kind 3 h))
    serves_sound (copies h b t k g f z) = rw z (copied _ g (eqb-true (node_at m p).kind 3 h) f)
    serves_sound (lacks h b t k f z) = rw z (record { still = λ a b l. refl; keeps = told _ })
    serves_sound (lends h b t k z) = rw z (record { still = λ a b l. refl; keeps = told _ })
