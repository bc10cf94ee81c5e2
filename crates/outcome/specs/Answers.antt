-- What a call can say, by document 01's numbers.
use Rattle.std.specs.Prelude.{ℕ, Result, Ok, Err, ⊤}
use Rattle.outcome.specs.declared.answer.Refusal.{Refusal}
use Rattle.outcome.specs.declared.answer.Refusal.TheVariants.{OutOfRange, BadState, InvalidArgs, NoMemory, NotSupported, Unavailable, BadPool, NoObject, NoNode, NoRoom, Stopped, PinLedger}

-- a call's answer: its value, or why it is refused
abbrev pub Answer : Type 0
Answer = Result ℕ Refusal

-- what a call's tests say: nothing against it, or why it is refused
abbrev pub Checked : Type 0
Checked = Result ⊤ Refusal

abbrev pub refusal_number : Refusal → ℕ
refusal_number OutOfRange = 1
refusal_number BadState = 2
refusal_number InvalidArgs = 3
refusal_number NoMemory = 4
refusal_number NotSupported = 5
refusal_number Unavailable = 6
refusal_number BadPool = 7
refusal_number NoObject = 8
refusal_number NoNode = 9
refusal_number NoRoom = 10
refusal_number Stopped = 11
refusal_number PinLedger = 12

abbrev pub code_of : Answer → ℕ
code_of (Ok v) = 0
code_of (Err r) = refusal_number r

-- the value of an answer and the bytes done; where it is refused these, which are 0 for every call but write
abbrev pub value_of : Answer → ℕ → ℕ
value_of (Ok v) done = v
value_of (Err r) done = done

-- a call's tests found why it is refused, or it does its work
abbrev pub unless : {A : Type 0} → Checked → (Refusal → A) → A → A
unless (Err r) refuse does = refuse r
unless (Ok u) refuse does = does
