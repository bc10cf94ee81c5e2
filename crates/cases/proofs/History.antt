-- A history computed by the rules, and the arrays, the deeds and the reads that the definitions of runs make of it. Assumes nothing.
use Rattle.std.specs.Prelude.{Ok, Err}
use mathlib.Core.Path.{◌≡◌, refl, ap, ◌∙◌}
use mathlib.Core.Bool.{true, false}
use mathlib.Core.List.{List, [], ◌∷◌}
use lib.ListN.{replicate}
use Rattle.tables.specs.Pool.{Pool}
use Rattle.sound.specs.Sound.{lengths_ok, sound}
use Rattle.pool.specs.Calls.{start, fresh_pool}
use Rattle.outcome.specs.declared.answer.Refusal.TheVariants.{OutOfRange, NoMemory, NoObject, NoRoom}
use Rattle.births.proofs.Calls.{start_done}
use Rattle.runs.specs.Runs.{Command, result_of, Event, event_of, history_of}
use Rattle.runs.specs.Runs.Aside.{Len, Append}
use Rattle.runs.specs.Runs.Command.{New, Child, Read, Write, Also}
use Rattle.runs.specs.Arrays.{nobody, arrays_after, arrays_of, lives}
use Rattle.runs.specs.Own.{deeds, reads_of}
use Rattle.runs.specs.Own.Deed.{Asked, Overwrites}
use Rattle.cases.proofs.Quick.{quick, quick_aside, quickly-goes, quick-history}
use Rattle.cases.proofs.Cases.{lent}

-- a pool of two frames of 4 bytes
two : Pool
unfolding lent start fresh_pool lengths_ok
two = (start 4 (lent 2)).pool

two-sound : sound 4 two ≡ true
unfolding two
two-sound = start_done 4 (lent 2) refl

-- object 0 of two pages gets a mapping, so that a write without room for notices is refused; it is written, object 1 copies its second page, and a
-- write over both its pages gets as far as the first; then object 1 is measured and read, inside and past its end, and a hidden node asked for
pub run : List Command
run =
    New 2
    ∷ Also (Append 0 0 2)
    ∷ Write [] 0 3 (1 ∷ 2 ∷ 3 ∷ [])
    ∷ Write (replicate 8 6) 0 3 (1 ∷ 2 ∷ 3 ∷ [])
    ∷ Child (replicate 4 6) 0 4 4
    ∷ Write (replicate 8 6) 0 2 (7 ∷ 8 ∷ 9 ∷ [])
    ∷ Also (Len 1)
    ∷ Read 1 0 (5 ∷ 5 ∷ 5 ∷ [])
    ∷ Read 1 2 (5 ∷ 5 ∷ 5 ∷ [])
    ∷ Read 2 0 (5 ∷ [])
    ∷ []

pub told : List Event
told =
    event_of (New 2) (result_of (Ok 0) 0 [])
    ∷ event_of (Also (Append 0 0 2)) (result_of (Ok 0) 0 [])
    ∷ event_of (Write [] 0 3 (1 ∷ 2 ∷ 3 ∷ [])) (result_of (Err NoRoom) 0 [])
    ∷ event_of (Write (replicate 8 6) 0 3 (1 ∷ 2 ∷ 3 ∷ [])) (result_of (Ok 3) 3 [])
    ∷ event_of (Child (replicate 4 6) 0 4 4) (result_of (Ok 1) 0 [])
    ∷ event_of (Write (replicate 8 6) 0 2 (7 ∷ 8 ∷ 9 ∷ [])) (result_of (Err NoMemory) 2 [])
    ∷ event_of (Also (Len 1)) (result_of (Ok 4) 0 [])
    ∷ event_of (Read 1 0 (5 ∷ 5 ∷ 5 ∷ [])) (result_of (Ok 0) 0 (2 ∷ 3 ∷ 0 ∷ []))
    ∷ event_of (Read 1 2 (5 ∷ 5 ∷ 5 ∷ [])) (result_of (Err OutOfRange) 0 (5 ∷ 5 ∷ 5 ∷ []))
    ∷ event_of (Read 2 0 (5 ∷ [])) (result_of (Err NoObject) 0 (5 ∷ []))
    ∷ []

computed : quickly-goes 4 two run ≡ told
unfolding two run told quickly-goes quick quick_aside
computed = refl

pub is_told : history_of 4 (lent 2) run ≡ told
unfolding two
is_told = quick-history 4 two two-sound run ∙ computed

-- the arrays, each with its length: object 0 has what its refused write had done, and object 1 the page copied; 2 is nobody
arrays_told : (arrays_after 4 nobody told 0 ≡ 0 ∷ 0 ∷ 7 ∷ 8 ∷ 2 ∷ 3 ∷ 0 ∷ 0 ∷ [])
    × (arrays_after 4 nobody told 1 ≡ 2 ∷ 3 ∷ 0 ∷ 0 ∷ []) × (arrays_after 4 nobody told 2 ≡ [])
unfolding told arrays_after
arrays_told = (refl, refl, refl)

pub arrays_are : arrays_of 4 (lent 2) run 1 ≡ 2 ∷ 3 ∷ 0 ∷ 0 ∷ []
arrays_are = ap (λ (es : List Event). arrays_after 4 nobody es 1) is_told ∙ arrays_told.1

-- an object's own are its reads and writes, accepted or not
deeds_told : deeds 1 told ≡ Asked 0 3 ∷ Asked 2 3 ∷ []
unfolding told deeds
deeds_told = refl

writes_told : deeds 0 told
    ≡ Overwrites 3 (1 ∷ 2 ∷ 3 ∷ []) (Err NoRoom) 0 ∷ Overwrites 3 (1 ∷ 2 ∷ 3 ∷ []) (Ok 3) 3
    ∷ Overwrites 2 (7 ∷ 8 ∷ 9 ∷ []) (Err NoMemory) 2 ∷ []
unfolding told deeds
writes_told = refl

reads_told : reads_of 1 told ≡ result_of (Ok 0) 0 (2 ∷ 3 ∷ 0 ∷ []) ∷ result_of (Err OutOfRange) 0 [] ∷ []
unfolding told reads_of
reads_told = refl

-- who lives
lives_told : (lives 0 false told ≡ true) × (lives 1 false told ≡ true) × (lives 2 false told ≡ false)
unfolding told lives
lives_told = (refl, refl, refl)
