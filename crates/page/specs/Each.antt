-- for_each_page, 500, and the loop of commit, 301: a step for each page, up to the first that is refused.
use Rattle.std.specs.Prelude.{ℕ, zero, suc, Err, Ok}
use Rattle.outcome.specs.Answers.{Checked}

-- what stands against the next page; where the next page is; what the pages so far have left
pub record Part (C S : Type 0) : Type 0 where
  pub why : Checked
  pub rest : C
  pub state : S

abbrev pub part_of : {C S : Type 0} → Checked → C → S → Part C S
part_of a c s = record { why = a; rest = c; state = s }

unfoldable pub onward : {C S : Type 0} → Checked → Part C S → (C → S → Part C S) → Part C S
onward (Err r) p go = p
onward (Ok u) p go = go p.rest p.state

unfoldable pub each : {C S : Type 0} → (C → S → Part C S) → ℕ → C → S → Part C S
each step zero c s = part_of (Ok tt) c s
each step (suc k) c s = onward (step c s).why (step c s) (each step k)
