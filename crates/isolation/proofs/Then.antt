-- A node's answer to its child, where the node was itself handed the frame just before. Assumes nothing.
use Rattle.std.specs.Prelude.{Option, ℕ, Some, None, Err, Ok}
use mathlib.Core.Path.{◌≡◌, ◌∙◌}
use mathlib.Core.Bool.{Bool, false}
use mathlib.Core.List.{List}
use Prim.Native.Nat.{ℕ}
use native.Mathlib.Omega.{arith}
use Rattle.lookup.specs.Work.{Looked, Work}
use Rattle.lookup.specs.declared.CommitResult.TheVariants.{Ref, Zero, CopyOnWrite, NewPage}
use Rattle.lookup.specs.declared.LookupError.TheVariants.{NoMemory, Stopped}
use Rattle.lookup.specs.Level.{kept}
use Rattle.isolation.proofs.Wood.{Ground}
use Rattle.isolation.proofs.State.{Alike, Step, step_then}
use Rattle.isolation.proofs.Done.{Done}

at_not : {A : Type 0} {f : ℕ} → Some f ≡ None → A
at_not e = let z : ◌≡◌ {A = ℕ} 0 1 = cc in absurd (omega arith)

-- what comes from a state to which a frame was handed: the frame f of p stood at the node, and the node then answered its child
module _ (N : List ℕ) (G : Ground N) (L F : ℕ) (s s₁ : Work) (x : Option ℕ) (w : Bool) (f c r : ℕ) (step : Step N L F s s₁) (bytes : Alike L s.memory s₁.memory x (Some f))
    (untaken : w ≡ false → s₁.used ≡ s.used) where
  pub done_then : (z : Looked) (s₂ : Work) → Done N L F s₁ c r (Some f) w z s₂ → Done N L F s c r x w z s₂
  done_then (Ok (Ref g)) s₂ d =
      record {
        reading = d.reading;
        step = step_then N G L F s s₁ s₂ step d.step;
        bytes = λ k l. d.bytes k l ∙ bytes k l;
        frame = d.frame;
        untaken = d.untaken ∙ untaken d.reading;
      }
  done_then (Ok (CopyOnWrite g u)) s₂ d =
      record {
        step = step_then N G L F s s₁ (kept s₂ c r g) step d.step;
        pages = d.pages;
        bytes = λ k l. d.bytes k l ∙ bytes k l;
        frame = d.frame;
        untaken = λ k. d.untaken k ∙ untaken k;
      }
  done_then (Ok (NewPage g)) s₂ d = at_not d.nothing
  done_then (Ok Zero) s₂ d = at_not d.nothing
  done_then (Err NoMemory) s₂ d = record { writing = d.writing; step = step_then N G L F s s₁ s₂ step d.step; no_frame = d.no_frame }
  done_then (Err Stopped) s₂ d = absurd d
