-- The one outcome of a call, and of its export.
use Rattle.std.specs.Prelude.{ℕ, List, Result, Ok, Err}
use Rattle.tables.specs.Pool.{Pool}
use Rattle.outcome.specs.declared.answer.Refusal.{Refusal}
use Rattle.outcome.specs.declared.reply.Reply.{Reply}
use Rattle.outcome.specs.Answers.{code_of, value_of, Answer}
use Rattle.outcome.specs.Told.{Told, told_of}

-- the answer; the pool; the notice list and how many notices are in it; the bytes done; the frames taken; the buffer.
-- A call that is lent no list or no buffer has [] there
pub record Outcome (A : Type 0) : Type 0 where
  pub answer : A
  pub pool : Pool
  pub told : Told
  pub done : ℕ
  pub taken : ℕ
  pub buf : List ℕ

abbrev pub outcome_of : {A : Type 0} → A → Pool → Told → ℕ → ℕ → List ℕ → Outcome A
outcome_of a p t d k b = record { answer = a; pool = p; told = t; done = d; taken = k; buf = b }

abbrev pub reply_of : Answer → Reply
reply_of a = record { answer = a; done = 0; taken = 0; count = 0 }

-- a call's reply, or the refusal before its work
abbrev pub reply_by : Result Reply Refusal → Reply
reply_by (Ok r) = r
reply_by (Err r) = reply_of (Err r)

-- a reply with the pool, the list and the buffer at exit
abbrev pub outcome : Reply → Pool → List ℕ → List ℕ → Outcome Answer
outcome r p list buf = outcome_of r.answer p (told_of list r.count) r.done r.taken buf

-- a refusal leaves the pool, the list and the buffer as they were; nothing is done
abbrev pub refused : Pool → List ℕ → List ℕ → Refusal → Outcome Answer
refused p list buf r = outcome (reply_of (Err r)) p list buf

-- an answer in document 01's numbers
pub record Numbers : Type 0 where
  pub code : ℕ
  pub value : ℕ

abbrev pub numbers_of : ℕ → ℕ → Numbers
numbers_of c v = record { code = c; value = v }

-- an export's outcome: the bytes done are in the value
abbrev pub in_numbers : Outcome Answer → Outcome Numbers
in_numbers o = outcome_of (numbers_of (code_of o.answer) (value_of o.answer o.done)) o.pool o.told 0 o.taken o.buf
