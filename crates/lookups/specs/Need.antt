-- How many frames a write of a page takes: a count over the walk's levels.
use Rattle.std.specs.Prelude.{ℕ, zero, suc, ◌+◌, ◌<◌, ◌≡◌, Bool, ◌&&◌, not, List, [], Err, Ok}
use Rattle.logic.specs.Pick.{pick}
use Rattle.entry.specs.declared.PageState.{PageState}
use Rattle.entry.specs.Entry.{split_of}
use Rattle.frames.specs.Frames.{free_count}
use Rattle.lookup.specs.declared.CommitResult.TheVariants.{Ref}
use Rattle.lookup.specs.declared.LookupError.TheVariants.{NoMemory, Stopped}
use Rattle.lookup.specs.declared.Place.{Place}
use Rattle.lookup.specs.declared.End.{End}
use Rattle.lookup.specs.declared.End.TheVariants.{Has, Bare, Tired}
use Rattle.lookup.specs.Work.{Work, Looking, looking_of}
use Rattle.lookup.specs.Mode.{Mode, today, place_of, up, both_at}
use Rattle.lookup.specs.Descent.{walk}

abbrev pub one_if : Bool → ℕ
one_if b = pick b 1 0

-- the copies that are made where entry s comes down d levels to p and on: the node that has it makes none if it is split already
unfoldable pub due_of : Mode → PageState → ℕ → Place → ℕ
due_of m s zero p = one_if (both_at m p && not (split_of s.tag))
due_of m s (suc d) p = one_if (both_at m p) + due_of m s d (up m p)

-- a leaf's own page takes none; a page that nothing reaches takes a cleared frame
unfoldable pub price_of : Mode → Place → ℕ → End → ℕ
price_of m p zero (Has s) = 0
price_of m p (suc d) (Has s) = due_of m s d (up m p)
price_of m p zero Bare = 1
price_of m p (suc d) Bare = 1
price_of m p zero Tired = 1
price_of m p (suc d) Tired = 1

unfoldable pub need_in : Mode → List ℕ → Place → ℕ
need_in m P p = price_of m p (walk m 64 P p).levels (walk m 64 P p).end

-- the frames that a write of page i of object n takes; no byte and no mapping counts
abbrev pub need : List ℕ → List ℕ → ℕ → ℕ → ℕ
need N P n i = need_in (today 0 N []) P (place_of n i n)

-- a lookup for writing takes n frames, or n are more than were free, or it stops and takes none
pub data Pays (n : ℕ) (w : Work) (r : Looking) : Type 0 where
  gives : (f : ℕ) (v : Work) → r ≡ looking_of (Ok (Ref f)) v → free_count w.used ≡ free_count v.used + n → Pays n w r
  refuses : (v : Work) → r ≡ looking_of (Err NoMemory) v → free_count w.used < n → free_count v.used ≡ 0 → Pays n w r
  stops : (v : Work) → r ≡ looking_of (Err Stopped) v → free_count v.used ≡ free_count w.used → Pays n w r
