-- Document 01's worked cases over the definitions, with pages of 4 bytes: each line of calls beside its answer. Later calls add their own
-- lines. Assumes nothing.
use mathlib.Core.Path.{◌≡◌, refl}
use mathlib.Core.Bool.{true}
use mathlib.Core.List.{[], ◌∷◌}
use Prim.Native.Nat.{ℕ, ◌*◌}
use lib.ListN.{replicate}
use Rattle.tables.specs.Pool.{Pool, pool_of}
use Rattle.sound.specs.Sound.{lengths_ok, sound}
use Rattle.pool.specs.Calls.{start, fresh_pool}
use Rattle.births.proofs.Calls.{start_done}
use Rattle.cases.specs.Script.{says, reads, Row, ◌⇒◌, Table, step_by, replies_by, replies_in}
use Rattle.cases.specs.Script.Line.{New, Child, Write, Read, Free}
use Rattle.cases.proofs.Quick.{quick, quickly}

-- tables and memory full of sevens, lent for so many frames; a pool started on them, of six frames and of one
unfoldable pub lent : ℕ → Pool
lent frames = pool_of (replicate 1024 7) (replicate 4096 7) (replicate frames 7) (replicate 256 7) (replicate 4 7) (replicate (frames * 4) 7)

pub six : Pool
unfolding lent start fresh_pool lengths_ok
six = (start 4 (lent 6)).pool

pub one : Pool
unfolding lent start fresh_pool lengths_ok
one = (start 4 (lent 1)).pool

six_sound : sound 4 six ≡ true
unfolding six
six_sound = start_done 4 (lent 6) refl

one-sound : sound 4 one ≡ true
unfolding one
one-sound = start_done 4 (lent 1) refl

-- P1 new(1), read: zeros, no frame taken
P1 : Table 4 six (
    New 1 ⇒ says 0 0
    ∷ Free ⇒ says 0 6
    ∷ Read 0 0 4 ⇒ reads (0 ∷ 0 ∷ 0 ∷ 0 ∷ [])
    ∷ Free ⇒ says 0 6
    ∷ [])
unfolding six replies_by replies_in step_by quick
P1 = quickly 4 six six_sound refl

-- P2 the script of cowlines, up to its first zero
P2 : Table 4 six (
    New 1 ⇒ says 0 0
    ∷ Write 0 0 1 4 ⇒ says 0 4
    ∷ Child 0 0 1 ⇒ says 0 1
    ∷ Child 0 0 1 ⇒ says 0 3
    ∷ Write 0 0 2 4 ⇒ says 0 4
    ∷ Read 3 0 4 ⇒ reads (1 ∷ 1 ∷ 1 ∷ 1 ∷ [])
    ∷ [])
unfolding six replies_by replies_in step_by quick
P2 = quickly 4 six six_sound refl

-- P3 R written, child X, X written: R unchanged
P3 : Table 4 six (
    New 1 ⇒ says 0 0
    ∷ Write 0 0 1 4 ⇒ says 0 4
    ∷ Child 0 0 1 ⇒ says 0 1
    ∷ Write 1 0 2 4 ⇒ says 0 4
    ∷ Read 0 0 4 ⇒ reads (1 ∷ 1 ∷ 1 ∷ 1 ∷ [])
    ∷ Read 1 0 4 ⇒ reads (2 ∷ 2 ∷ 2 ∷ 2 ∷ [])
    ∷ [])
unfolding six replies_by replies_in step_by quick
P3 = quickly 4 six six_sound refl

-- P8 first write with one frame in all: OK; a child's write then: NO_MEMORY, done 0
P8 : Table 4 one (
    New 1 ⇒ says 0 0
    ∷ Write 0 0 1 4 ⇒ says 0 4
    ∷ Child 0 0 1 ⇒ says 0 1
    ∷ Write 1 0 2 4 ⇒ says 4 0
    ∷ [])
unfolding one replies_by replies_in step_by quick
P8 = quickly 4 one one-sound refl

-- 64 pages OK, 65 INVALID_ARGS
limits : Table 4 six (New 64 ⇒ says 0 0 ∷ New 65 ⇒ says 3 0 ∷ [])
unfolding six replies_by replies_in step_by quick
limits = quickly 4 six six_sound refl

-- the 32nd child of one object: NO_NODE
abbrev kid : ℕ → Row
kid number = Child 0 0 1 ⇒ says 0 number

children : Table 4 six (
    New 1 ⇒ says 0 0
    ∷ kid 1 ∷ kid 3 ∷ kid 5 ∷ kid 7 ∷ kid 9 ∷ kid 11 ∷ kid 13 ∷ kid 15
    ∷ kid 17 ∷ kid 19 ∷ kid 21 ∷ kid 23 ∷ kid 25 ∷ kid 27 ∷ kid 29 ∷ kid 31
    ∷ kid 33 ∷ kid 35 ∷ kid 37 ∷ kid 39 ∷ kid 41 ∷ kid 43 ∷ kid 45 ∷ kid 47
    ∷ kid 49 ∷ kid 51 ∷ kid 53 ∷ kid 55 ∷ kid 57 ∷ kid 59 ∷ kid 61
    ∷ Child 0 0 1 ⇒ says 9 0
    ∷ [])
unfolding six replies_by replies_in step_by quick
children = quickly 4 six six_sound refl
