-- The same calls keep every object's array; a new object reads zeros, and a child a part of its object's array. Assumes nothing.
use Rattle.outcome.specs.Answers.{Answer}
use mathlib.Core.Path.{◌≡◌, refl}
use mathlib.Core.Bool.{Bool, true, false}
use mathlib.Core.List.{List, []}
use Prim.Native.Nat.{ℕ, ◌/◌}
use lib.Dec.{leb}
use borrow.Author.Tests.{leb-true}
use Rattle.logic.specs.Pick.{pick}
use Rattle.tables.specs.Pool.{Pool}
use Rattle.sound.specs.Sound.{lengths_ok, sound}
use Rattle.outcome.specs.declared.answer.Refusal.TheVariants.{InvalidArgs, BadPool}
use Rattle.outcome.specs.Outcome.{Outcome, refused}
use Rattle.pool.specs.Calls.{start, new_leaf, new, len}
use Rattle.mapped.specs.Mapped.{append_at, remove_at, append_mapping, remove_mapping}
use Rattle.forecast.specs.Forecast.{forecast}
use Rattle.child.specs.Child.{child_at, create_child}
use Rattle.isolation.specs.Private.{Private}
use Rattle.births.specs.Births.{Gave, BlankBorn, CloneBorn}
use Rattle.births.proofs.Fresh.{fresh_private}
use Rattle.births.proofs.New.{new_gave}
use Rattle.births.proofs.Remap.{append_private, remove_private}
use Rattle.births.proofs.Bear.{child_gave}
use Rattle.births.proofs.Calls.{on_node}

-- a started pool has no object, so its arrays are any
pub start-arrays : (L : ℕ) (A : ℕ → ℕ → ℕ → ℕ) (p : Pool) → lengths_ok L p ≡ true → Private L A (start L p).pool
unfolding start
start-arrays L A p h = rw h (fresh_private L p h A)

-- these change nothing
module _ (L : ℕ) (p : Pool) where
  abbrev Same : Outcome Answer → Type 0
  Same c = c.pool ≡ p

  pub len_same : (object : ℕ) → Same (len L p object)
  len_same object = on_node L p object (refused p [] []) _ Same (λ r. refl) (λ l. refl)

  pub forecast_same : (object offset bytes : ℕ) → Same (forecast L p object offset bytes)
  forecast_same object offset bytes = on_node L p object (refused p [] []) _ Same (λ r. refl) (λ l. refl)

module _ (L : ℕ) (A : ℕ → ℕ → ℕ → ℕ) (p : Pool) (P : Private L A p) where
  abbrev Blank : ℕ → Outcome Answer → Type 0
  Blank size c = Gave p (BlankBorn L A p size) c.answer c.pool

  pub new-arrays : (size : ℕ) → Blank size (new L p size)
  unfolding new
  new-arrays size = by (sound L p) (leb size 64) refl
    where
      by : (a b : Bool) → leb size 64 ≡ b → Blank size (pick a (pick b (new_leaf p size) (refused p [] [] InvalidArgs)) (refused p [] [] BadPool))
      by true true h = new_gave L p size (leb-true size 64 h) A P
      by true false h = refl
      by false b h = refl

  -- these change the list of mappings

  abbrev Keeps : Outcome Answer → Type 0
  Keeps c = Private L A c.pool

  pub append-arrays : (object first count : ℕ) → Keeps (append_mapping L p object first count)
  append-arrays object first count =
      on_node L p object (refused p [] []) (λ n. append_at p n first count) Keeps (λ r. P) (λ l. append_private L p A object first count l P)

  pub remove_arrays : (object mapping : ℕ) → Keeps (remove_mapping L p object mapping)
  remove_arrays object mapping =
      on_node L p object (refused p [] []) (λ n. remove_at p n mapping) Keeps (λ r. P) (λ l. remove_private L p A object mapping P)

  -- a child of `bytes` bytes from byte `offset` on

  abbrev Clone : ℕ → ℕ → ℕ → Outcome Answer → Type 0
  Clone object offset bytes c = Gave p (CloneBorn L A p object (offset / L) (bytes / L)) c.answer c.pool

  pub child_arrays : (list : List ℕ) (object offset bytes : ℕ) → Clone object offset bytes (create_child L p list object offset bytes)
  child_arrays list object offset bytes =
      on_node L p object (refused p list []) (λ n. child_at L p list n offset bytes) (Clone object offset bytes) (λ r. refl)
      (λ l. child_gave L p list object offset bytes l A P)
