-- The walk, turn by turn. Assumes nothing.
use Rattle.std.specs.Prelude.{Option, None, Some}
use mathlib.Core.Path.{◌≡◌, refl, sym, ap, ◌∙◌}
use mathlib.Core.Bool.{Bool, true, false, ◌&&◌}
use mathlib.Core.List.{List}
use Prim.Native.Nat.{ℕ, zero, suc, ◌+◌, ◌-◌, ◌*◌, ◌≤◌, ◌<◌}
use native.Mathlib.Omega.{arith}
use native.Mathlib.Numerals.{add-one}
use Rattle.entry.specs.declared.PageState.{PageState}
use Rattle.node.specs.Node.{hidden_of}
use Rattle.tables.specs.Tables.{node_of, slot_at}
use Rattle.lookup.specs.declared.Place.{Place}
use Rattle.lookup.specs.declared.End.{End}
use Rattle.lookup.specs.declared.End.TheVariants.{Tired}
use Rattle.lookup.specs.declared.Turn.{Turn}
use Rattle.lookup.specs.declared.Turn.TheVariants.{Ends, Climbs}
use Rattle.lookup.specs.Mode.{Mode, today, up, ups, asks}
use Rattle.lookup.specs.Descent.{Way, way, further, turn_by, turn, walk_by, walk, hidden_up}

pub climbs_one : {a b : Place} → Climbs a ≡ Climbs b → a ≡ b
climbs_one h = cc

pub ends_not : {x : End} {q : Place} {A : Type 0} → Ends x ≡ Climbs q → A
ends_not h = let z : ◌≡◌ {A = ℕ} 0 1 = cc in absurd (omega arith)

-- what follows a turn
ups-next : (m : Mode) (k : ℕ) (p : Place) → ups m (suc k) p ≡ up m (ups m k p)
unfolding ups
ups-next m zero p = refl
ups-next m (suc k) p = ups-next m k (up m p)

module _ (m : Mode) (P : List ℕ) (p : Place) where
  turn-up_by : (s : Option PageState) (a : Bool) (q : Place) → turn_by s a (up m p) ≡ Climbs q → q ≡ up m p
  turn-up_by (Some s) a q h = ends_not h
  turn-up_by None true q h = sym (climbs_one h)
  turn-up_by None false q h = ends_not h

  turn_up : (q : Place) → turn m P p ≡ Climbs q → q ≡ up m p
  turn_up q h = turn-up_by (slot_at P p.node p.page) (asks m p) q h

  goes_by : (s : Option PageState) (a : Bool) (q : Place) (y : Way) → turn_by s a (up m p) ≡ Climbs q → walk_by s a y ≡ y
  goes_by (Some s) a q y h = ends_not h
  goes_by None true q y h = refl
  goes_by None false q y h = ends_not h

  ends_one : {x y : End} → Ends x ≡ Ends y → x ≡ y
  ends_one h = cc

  ends_by : (s : Option PageState) (a : Bool) (x : End) (y : Way) → turn_by s a (up m p) ≡ Ends x → walk_by s a y ≡ way 0 x
  ends_by (Some s) a x y h = rw (← ends_one h)
  ends_by None true x y h = ends_not (sym h)
  ends_by None false x y h = rw (← ends_one h)

  walk_goes : (k : ℕ) (q : Place) → turn m P p ≡ Climbs q → walk m (suc k) P p ≡ further (walk m k P q)
  unfolding walk
  walk_goes k q h = goes_by (slot_at P p.node p.page) (asks m p) q _ h ∙ rw (turn_up q h)

  pub walk_stops : (q : Place) → turn m P p ≡ Climbs q → way 0 Tired ≡ walk m 0 P p
  unfolding walk
  walk_stops q h = sym (goes_by (slot_at P p.node p.page) (asks m p) q _ h)

  pub walk_ended : (k : ℕ) (x : End) → turn m P p ≡ Ends x → walk m k P p ≡ way 0 x
  unfolding walk
  walk_ended zero x h = ends_by (slot_at P p.node p.page) (asks m p) x _ h
  walk_ended (suc k) x h = ends_by (slot_at P p.node p.page) (asks m p) x _ h

-- k levels more
abbrev pub raised : ℕ → Way → Way
raised k y = way (k + y.levels) y.end

-- k levels of the walk from p are gone, and it stands at q
pub record Climbed (N P : List ℕ) (p : Place) (k : ℕ) (q : Place) (hidden : Bool) : Type 0 where
  pub few : k ≤ 64
  pub low : q.page ≤ 4294967296 + k * 4294967296
  pub there : (M : List ℕ) → q ≡ ups (today 4096 N M) k p
  pub veiled : (M : List ℕ) → hidden ≡ hidden_up (today 4096 N M) k p
  pub rest : (M : List ℕ) → walk (today 4096 N M) 64 P p ≡ raised k (walk (today 4096 N M) (64 - k) P q)

pub climbed_start : (N P : List ℕ) (p : Place) → p.page ≤ 4294967296 → Climbed N P p 0 p true
unfolding ups hidden_up
climbed_start N P p l =
    record { few = omega arith; low = omega arith; there = λ M. refl; veiled = λ M. refl; rest = λ M. let z : (n : ℕ) → n ≡ 0 + n = (λ n. omega arith) in ap (λ n. way n (walk (today 4096 N M) 64 P p).end) (z _) }

module _ {N P : List ℕ} {p : Place} {k : ℕ} {q : Place} {h : Bool} (c : Climbed N P p k q h) where
  pub climbed_next : {t : Turn} {r : Place} {b : Bool} → k < 64 → ((M : List ℕ) → t ≡ turn (today 4096 N M) P q) → t ≡ Climbs r → r.page ≤ q.page + 4294967296 → b ≡ hidden_of (node_of N r.node) → Climbed N P p (k + 1) r (h && b)
  unfolding hidden_up
  climbed_next {t} {r} {b} l e g near v =
      let w = c.low in
      let there : (M : List ℕ) → r ≡ ups (today 4096 N M) (suc k) p = λ M.
      turn_up (today 4096 N M) P q r (sym (e M) ∙ g) ∙ ap (up (today 4096 N M)) (c.there M) ∙ sym (ups-next (today 4096 N M) k p)
      in
      record {
        few = omega arith;
        low = omega arith;
        there = λ M. rw add-one (there M);
        veiled = λ M. rw (add-one, c.veiled M, v, ← there M);
        rest = λ M.
            let one : 64 - k ≡ suc (64 - (k + 1)) = omega arith in
            let sum : (n : ℕ) → k + suc n ≡ k + 1 + n = λ n. omega arith in
            c.rest M ∙ ap (raised k) (rw one (walk_goes (today 4096 N M) P q (64 - (k + 1)) r (sym (e M) ∙ g)))
            ∙ ap (λ n. way n (walk (today 4096 N M) (64 - (k + 1)) P r).end) (sum _);
      }

  pub climbed_ends : {t : Turn} {x : End} → ((M : List ℕ) → t ≡ turn (today 4096 N M) P q) → t ≡ Ends x → (M : List ℕ) → way k x ≡ walk (today 4096 N M) 64 P p
  climbed_ends {t} {x} e g M =
      let z : k + 0 ≡ k = omega arith in
      sym (c.rest M ∙ ap (raised k) (walk_ended (today 4096 N M) P q (64 - k) x (sym (e M) ∙ g)) ∙ ap (λ n. way n x) z)
