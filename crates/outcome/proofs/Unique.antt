-- Two outcomes that one rule allows are equal: of a call, and of an export. Assumes nothing.
use mathlib.Core.Path.{◌≡◌, sym, ◌∙◌}
use Rattle.outcome.specs.Outcome.{Outcome}

pub unique : {A : Type 0} {rule a b : Outcome A} → a ≡ rule → b ≡ rule → a ≡ b
unique e f = e ∙ sym f
