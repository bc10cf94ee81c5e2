-- The calls start, new, len, append_mapping, remove_mapping, forecast and create_child leave a sound pool sound, whatever their arguments and
-- answers. Assumes nothing.
use Rattle.std.specs.Prelude.{Ok}
use Rattle.outcome.specs.Answers.{Answer}
use mathlib.Core.Path.{◌≡◌, refl}
use mathlib.Core.Bool.{Bool, true, false}
use mathlib.Core.List.{List, []}
use Prim.Native.Nat.{ℕ}
use lib.Dec.{leb}
use borrow.Author.Tests.{leb-true}
use Rattle.logic.specs.Pick.{pick}
use Rattle.tables.specs.Pool.{Pool}
use Rattle.sound.specs.Sound.{lengths_ok, sound}
use Rattle.sound.specs.Facts.{Leaf, Sound}
use Rattle.soundness.proofs.Soundness.{sound_facts, facts_sound}
use Rattle.outcome.specs.declared.answer.Refusal.{Refusal}
use Rattle.outcome.specs.declared.answer.Refusal.TheVariants.{InvalidArgs, BadPool, NoObject}
use Rattle.outcome.specs.Outcome.{Outcome, refused}
use Rattle.pool.specs.Calls.{saying, fresh_pool, start, new_leaf, new, on_object, len}
use Rattle.pool.proofs.Laws.{on_leaf}
use Rattle.mapped.specs.Mapped.{append_at, remove_at, append_mapping, remove_mapping}
use Rattle.forecast.specs.Forecast.{forecast}
use Rattle.child.specs.Child.{child_at, create_child}
use Rattle.births.proofs.Fresh.{fresh-sound}
use Rattle.births.proofs.New.{new_facts}
use Rattle.births.proofs.Remap.{append_facts, remove_facts}
use Rattle.births.proofs.Bear.{child_facts}

-- a call on an object: what holds of its refusals and of what it does with a live leaf holds of it
module _ {A : Type 0} (L : ℕ) (p : Pool) (object : ℕ) (refuse : Refusal → A) (does : ℕ → A) (B : A → Type 0) (stay : (r : Refusal) → B (refuse r))
    (go : Leaf p.nodes object → B (does object)) where
  pub on_node : B (on_object L p object refuse does)
  on_node = on_leaf B L p object refuse does (λ s. stay BadPool) (stay NoObject) (λ s l h. go h)

-- soundness

-- of any pool, sound or not, whose tables have their lengths, start makes a sound one
pub start_done : (L : ℕ) (p : Pool) → lengths_ok L p ≡ true → sound L (start L p).pool ≡ true
unfolding start
start_done L p h = rw h (fresh-sound L p h)

pub start-sound : (L : ℕ) (p : Pool) → sound L p ≡ true → sound L (start L p).pool ≡ true
unfolding start
start-sound L p s = by (lengths_ok L p) refl
  where
    by : (b : Bool) → lengths_ok L p ≡ b → sound L (pick b (saying (Ok 0) (fresh_pool p)) (refused p [] [] BadPool)).pool ≡ true
    by true h = fresh-sound L p h
    by false h = s

module _ (L : ℕ) (p : Pool) (s : sound L p ≡ true) where
  S : Sound L p
  S = sound_facts L p s

  pub new-sound : (size : ℕ) → sound L (new L p size).pool ≡ true
  unfolding new
  new-sound size = by (sound L p) (leb size 64) refl
    where
      by : (a b : Bool) → leb size 64 ≡ b → sound L (pick a (pick b (new_leaf p size) (refused p [] [] InvalidArgs)) (refused p [] [] BadPool)).pool ≡ true
      by true true h = facts_sound L (new_leaf p size).pool (new_facts L p size (leb-true size 64 h) S)
      by true false h = s
      by false b h = s

  abbrev Fine : Outcome Answer → Type 0
  Fine c = sound L c.pool ≡ true

  pub len-sound : (object : ℕ) → Fine (len L p object)
  len-sound object = on_node L p object (refused p [] []) _ Fine (λ r. s) (λ l. s)

  pub forecast-sound : (object offset bytes : ℕ) → Fine (forecast L p object offset bytes)
  forecast-sound object offset bytes = on_node L p object (refused p [] []) _ Fine (λ r. s) (λ l. s)

  pub append-sound : (object first count : ℕ) → Fine (append_mapping L p object first count)
  append-sound object first count =
      on_node L p object (refused p [] []) (λ n. append_at p n first count) Fine (λ r. s)
      (λ l. facts_sound L (append_at p object first count).pool (append_facts L p object first count l S))

  pub remove_sound : (object mapping : ℕ) → Fine (remove_mapping L p object mapping)
  remove_sound object mapping =
      on_node L p object (refused p [] []) (λ n. remove_at p n mapping) Fine (λ r. s)
      (λ l. facts_sound L (remove_at p object mapping).pool (remove_facts L p object mapping S))

  pub child_sound : (list : List ℕ) (object offset bytes : ℕ) → sound L (create_child L p list object offset bytes).pool ≡ true
  child_sound list object offset bytes =
      on_node L p object (refused p list []) (λ n. child_at L p list n offset bytes) (λ c. sound L c.pool ≡ true) (λ r. s)
      (λ l. facts_sound L (child_at L p list object offset bytes).pool (child_facts L p list object offset bytes l S))
