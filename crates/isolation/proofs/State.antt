-- What a lookup changes, as one state; and the step that passes a frame from a parent's entry to its child's. Assumes nothing.
use Rattle.std.specs.Prelude.{Option, ℕ, Some, None}
use mathlib.Core.Path.{◌≡◌, refl, sym, ap, ◌∙◌}
use mathlib.Core.Bool.{true}
use mathlib.Core.List.{List}
use Prim.Native.Nat.{ℕ, ◌+◌, ◌*◌, ◌<◌}
use native.Mathlib.Omega.{arith}
use lib.ListN.{length}
use Rattle.entry.specs.declared.PageState.{PageState}
use Rattle.entry.specs.Entry.{new_state}
use Rattle.tables.specs.Tables.{node_of, slot_at}
use Rattle.lookup.specs.Work.{Work}
use Rattle.lookup.specs.Level.{with_told, kept}
use Rattle.outcome.specs.Told.{Told}
use Rattle.sound.specs.Facts.{Leaf, Holds}
use Rattle.isolation.specs.Walk.{View, byte_of}
use Rattle.isolation.specs.Private.{links_of}
use Rattle.isolation.proofs.Pass.{Climbs, Pass, Views, views}
use Rattle.lookups.proofs.Ok.{Ok}
use Rattle.lookups.proofs.Base.{page_low, node_low}
use Rattle.isolation.proofs.Wood.{Ground, asked, lower, leaf_kind, height}
use Rattle.lookups.proofs.Table.{Wrote, others, wrote_state}
use Rattle.lookups.proofs.Rows.{Loose, put_in}
use Rattle.lookups.proofs.Sides.{side_owned}

-- the same L bytes
abbrev pub Alike : ℕ → List ℕ → List ℕ → Option ℕ → Option ℕ → Type 0
Alike L Y Y' x y = (k : ℕ) → k < L → byte_of L Y' y k ≡ byte_of L Y x k

-- sound after it, and every leaf's page reads the same bytes
pub record Step (N : List ℕ) (L F : ℕ) (s s' : Work) : Type 0 where
  pub ok : Ok N L F s'
  pub views : (l p : ℕ) (x : Option ℕ) → Leaf N l → View (links_of N) (slot_at s.pages) l p x → Views (links_of N) (Alike L s.memory s'.memory) (slot_at s'.pages) l p x

-- half way: the entry e above (c, r) was taken out or split, and frame f, in use and standing nowhere, is to stand at (c, r)
pub record Mid (N : List ℕ) (L F : ℕ) (s s₁ : Work) (c r f : ℕ) (e : PageState) : Type 0 where
  pub pages : length s₁.pages ≡ 4096
  pub used : length s₁.used ≡ F
  pub memory : length s₁.memory ≡ F * L
  pub loose : Loose N s₁.pages s₁.used f
  pub rest : (a b : ℕ) → (a ≡ (links_of N).par c → b ≡ (links_of N).start c + r → ⊥) → slot_at s₁.pages a b ≡ slot_at s.pages a b
  pub same : Alike L s.memory s₁.memory (Some e.frame) (Some f)
  pub keep : (a b : ℕ) (u : PageState) → Holds s.pages a b u → Alike L s.memory s₁.memory (Some u.frame) (Some u.frame)
  pub sib : (n p : ℕ) → (links_of N).asks n p ≡ true → (links_of N).par n ≡ (links_of N).par c → (links_of N).start n + p ≡ (links_of N).start c + r → (n ≡ c → ⊥) → (e.tag ≡ (links_of N).side n → ⊥)
      → (u : PageState) × Holds s₁.pages ((links_of N).par c) ((links_of N).start c + r) u × (u.tag ≡ (links_of N).side n → ⊥) × Alike L s.memory s₁.memory (Some e.frame) (Some u.frame)

module _ (N : List ℕ) (G : Ground N) (L F : ℕ) where
  pub climbs : Climbs (links_of N) (Leaf N) (λ n p. Unit {0})
  climbs =
      record {
        inner = λ n p a l. leaf_kind N G ((links_of N).par n) l (asked N G n p a).hidden;
        sided = λ n p a e. side_owned (asked N G n p a).sided e;
        reach_leaf = λ n p l. tt;
        reach_up = λ n p a y. tt;
      }

  pub step_same : (s : Work) (t : Told) → Ok N L F s → Step N L F s (with_told s t)
  step_same s t o =
      record {
        ok = record { few = o.few; pages = o.pages; used = o.used; memory = o.memory; entries = o.entries };
        views = λ l p x f d. (x, d, λ k h. refl);
      }

  pub step_then : (s s₁ s₂ : Work) → Step N L F s s₁ → Step N L F s₁ s₂ → Step N L F s s₂
  step_then s s₁ s₂ a b =
      record {
        ok = b.ok;
        views = λ l p x f d.
            let u = a.views l p x f d in
            let v = b.views l p u.0 f u.1 in
            (v.0, v.1, λ k h. v.2 k h ∙ u.2 k h);
      }

  -- frame f kept at (c, r)
  pub kept_wrote : (s : Work) (c r f : ℕ) → length s.pages ≡ 4096 → r < (node_of N c).size → f < 1024 → Wrote s.pages (kept s c r f).pages c r (Some (new_state f))
  kept_wrote s c r f len l m = wrote_state s.pages c r (page_low N G.base c r l) (node_low N G.base c r l) len (new_state f) (omega arith) (omega arith)

  pub not_par : (c r : ℕ) → (links_of N).asks c r ≡ true → (links_of N).par c ≡ c → ⊥
  not_par c r a e = let h = lower N G c r a in let j = ap (height N G) e in omega arith

  module _ (s s₁ : Work) (c r f : ℕ) (e : PageState) (o : Ok N L F s) (a : (links_of N).asks c r ≡ true) (over : Holds s.pages ((links_of N).par c) ((links_of N).start c + r) e) (bare : slot_at s.pages c r ≡ None) (m : Mid N L F s s₁ c r f e) where
    pub low_frame : f < 1024
    low_frame = let h = o.few in let k = m.loose.frame in let u = m.used in omega arith

    wrote : Wrote s₁.pages (kept s₁ c r f).pages c r (Some (new_state f))
    wrote = kept_wrote s₁ c r f m.pages (asked N G c r a).size low_frame

    pass : Pass (links_of N) (λ n p. Unit {0}) (Alike L s.memory s₁.memory) (slot_at s.pages) (slot_at (kept s₁ c r f).pages) c r e (new_state f)
    pass =
        record {
          asked = a;
          over = over;
          bare = bare;
          given = wrote.same;
          owned = refl;
          same = m.same;
          zeros = λ k h. refl;
          rest = λ x y u v. others wrote x y v ∙ m.rest x y u;
          keep = m.keep;
          sib = λ n p y x i j d t.
              let g = m.sib n p x i j d t in
              (g.0, others wrote ((links_of N).par c) ((links_of N).start c + r) (λ u v. not_par c r a u) ∙ g.1, g.2, g.3);
        }

    pub mid_step : Step N L F s (kept s₁ c r f)
    mid_step =
        record {
          ok = record {
            few = o.few;
            pages = wrote.size ∙ m.pages;
            used = m.used;
            memory = m.memory;
            entries = put_in m.loose (m.rest c r (λ u v. not_par c r a (sym u)) ∙ bare) (asked N G c r a).size wrote;
          };
          views = views (links_of N) (Leaf N) (λ n p. Unit {0}) climbs (Alike L s.memory s₁.memory) (slot_at s.pages) (slot_at (kept s₁ c r f).pages) c r e (new_state f) pass;
        }
