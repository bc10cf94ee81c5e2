-- What a lookup works on, in a sound pool.
use mathlib.Core.Path.{◌≡◌}
use mathlib.Core.List.{List}
use Prim.Native.Nat.{ℕ, ◌*◌, ◌≤◌}
use lib.ListN.{length}
use Rattle.lookup.specs.Work.{Work}
use Rattle.sound.specs.Facts.{Entries}

-- F frames; the tables have their lengths, and the entries are sound
pub record Ok (N : List ℕ) (L F : ℕ) (s : Work) : Type 0 where
  pub few : F ≤ 1024
  pub pages : length s.pages ≡ 4096
  pub used : length s.used ≡ F
  pub memory : length s.memory ≡ F * L
  pub entries : Entries N s.pages s.used
