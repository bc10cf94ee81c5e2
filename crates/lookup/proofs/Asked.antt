-- An object that asks for a page of its own. Assumes nothing.
use mathlib.Core.Path.{◌≡◌, subst}
use mathlib.Core.Bool.{Bool}
use mathlib.Core.List.{List}
use Prim.Native.Nat.{ℕ, ◌≤◌}
use Rattle.lookup.specs.declared.Ask.{Ask}
use Rattle.lookup.specs.Work.{Work}
use Rattle.lookup.specs.Mode.{today}
use Rattle.lookup.specs.Lookup.{look_in}
use Rattle.lookup.specs.Commit.{ask_of, Committing, committing, commit_leaf}

module _ {n i : ℕ} {write : Bool} {a : Ask} (e : a ≡ ask_of n i write) where
  pub asked_low : i ≤ 4294967296 → a.place.page ≤ 4294967296
  asked_low l = rw e l

  pub asked_leaf : (N M : List ℕ) (w : Work) {r : Committing} → r ≡ committing (look_in (today 4096 N M) 64 a.write w a.place) → r ≡ commit_leaf 4096 N M w n i write
  unfolding commit_leaf
  asked_leaf N M w {r} h = subst (λ (x : Ask). r ≡ committing (look_in (today 4096 N M) 64 x.write w x.place)) e h
