-- append_mapping and remove_mapping keep pools sound and every object's array: they change the list of mappings alone. Assumes nothing.
use Rattle.std.specs.Prelude.{Ok}
use mathlib.Core.Path.{◌≡◌, refl}
use mathlib.Core.Bool.{Bool, true, false, ◌&&◌}
use mathlib.Core.List.{List, []}
use Prim.Native.Nat.{ℕ, ◌+◌}
use lib.Dec.{leb, ltb}
use borrow.Author.Tests.{leb-true}
use Rattle.logic.specs.Pick.{pick}
use Rattle.logic.proofs.Laws.{and_left, and_right}
use Rattle.tables.specs.Pool.{Pool}
use Rattle.mappings.specs.Mappings.{append, removed}
use Rattle.outcome.specs.declared.answer.Refusal.TheVariants.{InvalidArgs}
use Rattle.outcome.specs.Outcome.{refused}
use Rattle.pool.specs.Calls.{saying}
use Rattle.mapped.specs.Mapped.{with_mappings, shows_of, appended, append_at, remove_at}
use Rattle.sound.specs.Facts.{Leaf, Sound}
use Rattle.isolation.specs.Private.{Private}
use Rattle.births.proofs.Listed.{Listing, append_listing, removed_listing}

-- pool q is p but for its list of mappings, which is sound
pub record Relisted (p q : Pool) : Type 0 where
  pub list : List ℕ
  pub same : q ≡ with_mappings p list
  pub listing : Listing p.nodes list

listed-sound : (L : ℕ) (p : Pool) (M : List ℕ) → Listing p.nodes M → Sound L p → Sound L (with_mappings p M)
listed-sound L p M m S =
    let l = S.lengths in
    record {
      lengths = record {
        nodes = l.nodes;
        pages = l.pages;
        mappings = m.size;
        head = l.head;
        some_frame = l.some_frame;
        most_frames = l.most_frames;
        memory = l.memory;
      };
      tree = S.tree;
      entries = S.entries;
      mappings = m.mappings;
    }

listed_private : (L : ℕ) (A : ℕ → ℕ → ℕ → ℕ) (p : Pool) (M : List ℕ) → Listing p.nodes M → Private L A p → Private L A (with_mappings p M)
listed_private L A p M m P =
    record {
      sound = listed-sound L p M m P.sound;
      windows = P.windows;
      shows = λ l i leaf low. let v = P.shows l i leaf low in record { source = v.source; view = v.view; bytes = v.bytes };
    }

pub relisted_sound : (L : ℕ) (p q : Pool) → Relisted p q → Sound L p → Sound L q
relisted_sound L p q r S = rw r.same (listed-sound L p r.list r.listing S)

pub relisted_private : (L : ℕ) (A : ℕ → ℕ → ℕ → ℕ) (p q : Pool) → Relisted p q → Private L A p → Private L A q
relisted_private L A p q r P = rw r.same (listed_private L A p r.list r.listing P)

module _ (L : ℕ) (p : Pool) (S : Sound L p) where
  ok : Listing p.nodes p.mappings
  ok = record { size = S.lengths.mappings; mappings = S.mappings }

  unlisted : Relisted p p
  unlisted = record { list = p.mappings; same = refl; listing = ok }

  pub append_relists : (n first count : ℕ) → Leaf p.nodes n → Relisted p (append_at p n first count).pool
  unfolding append_at shows_of
  append_relists n first count leaf = by (leb 1 count && leb (first + count) 64) refl
    where
      by : (b : Bool) → (leb 1 count && leb (first + count) 64) ≡ b → Relisted p (pick b (appended p (append p.mappings n first count)) (refused p [] [] InvalidArgs)).pool
      by true t =
          record {
            list = (append p.mappings n first count).mappings;
            same = refl;
            listing = append_listing p.nodes p.mappings ok n first count leaf (leb-true 1 count (and_left (leb 1 count) (leb (first + count) 64) t))
                (leb-true (first + count) 64 (and_right (leb 1 count) (leb (first + count) 64) t));
          }
      by false t = unlisted

  pub remove_relists : (n mapping : ℕ) → Relisted p (remove_at p n mapping).pool
  unfolding remove_at
  remove_relists n mapping = by (ltb mapping 64)
    where
      by : (b : Bool) → Relisted p (pick b (saying (Ok 0) (with_mappings p (removed p.mappings n mapping))) (saying (Ok 0) p)).pool
      by true = record { list = removed p.mappings n mapping; same = refl; listing = removed_listing p.nodes p.mappings ok n mapping }
      by false = unlisted

module _ (L : ℕ) (p : Pool) where
  pub append_facts : (n first count : ℕ) → Leaf p.nodes n → Sound L p → Sound L (append_at p n first count).pool
  append_facts n first count leaf S = relisted_sound L p (append_at p n first count).pool (append_relists L p S n first count leaf) S

  pub remove_facts : (n mapping : ℕ) → Sound L p → Sound L (remove_at p n mapping).pool
  remove_facts n mapping S = relisted_sound L p (remove_at p n mapping).pool (remove_relists L p S n mapping) S

  pub append_private : (A : ℕ → ℕ → ℕ → ℕ) (n first count : ℕ) → Leaf p.nodes n → Private L A p → Private L A (append_at p n first count).pool
  append_private A n first count leaf P = relisted_private L A p (append_at p n first count).pool (append_relists L p P.sound n first count leaf) P

  pub remove_private : (A : ℕ → ℕ → ℕ → ℕ) (n mapping : ℕ) → Private L A p → Private L A (remove_at p n mapping).pool
  remove_private A n mapping P = relisted_private L A p (remove_at p n mapping).pool (remove_relists L p P.sound n mapping) P
