-- Nodes below a node: those whose parent chain passes it. Nodes below two children of one node are different ones. Assumes nothing.
use mathlib.Core.Path.{◌≡◌, refl, sym, ap, ◌∙◌}
use mathlib.Core.List.{List}
use Prim.Native.Nat.{ℕ, suc, ◌+◌, ◌-◌, ◌<◌}
use native.Mathlib.Omega.{arith}
use Rattle.logic.proofs.Means.{less, split}
use Rattle.soundness.proofs.Ancestors.{above, above_add}
use Rattle.bounds.proofs.Ranges.{Under}
use Rattle.lookups.proofs.Chain.{Short, above-next, no_return}

-- n is c, or below it
pub record Below (N : List ℕ) (c n : ℕ) : Type 0 where
  pub far : ℕ
  pub reach : above N far (n + 1) ≡ c + 1

pub self : {N : List ℕ} (n : ℕ) → Below N n n
unfolding above
self n = record { far = 0; reach = refl }

module _ {N : List ℕ} (s : Short N) where
  above_child : (h c : ℕ) → Under N h c → above N 1 (c + 1) ≡ h + 1
  unfolding above
  above_child h c u = above-next s 0 c ∙ u

  -- up from a node d parents below c, whose parent is h

  pass : (d n h c : ℕ) → above N d (n + 1) ≡ c + 1 → Under N h c → above N (suc d) (n + 1) ≡ h + 1
  pass d n h c e u = let z : suc d ≡ d + 1 = omega arith in rw z (above_add N d 1 (n + 1) ∙ ap (above N 1) e ∙ above_child h c u)

  pub below_parent : (h c n : ℕ) → Under N h c → Below N c n → Below N h n
  below_parent h c n u b = record { far = suc b.far; reach = pass b.far n h c b.reach u }

  -- no node is below its child
  pub not_above : (h c : ℕ) → Under N h c → Below N c h → ⊥
  not_above h c u b = let z = no_return s b.far (h + 1) (pass b.far h h c b.reach u) in omega arith

  apart_by : (h a c n : ℕ) → Under N h a → Under N h c → (d e : ℕ) → d < e → above N d (n + 1) ≡ a + 1 → above N e (n + 1) ≡ c + 1 → ⊥
  apart_by h a c n u v d e l p q =
      let k = e - suc d in
      let x : e ≡ suc d + k = omega arith in
      let y = above_add N (suc d) k (n + 1) ∙ ap (above N k) (pass d n h a p u) in
      not_above h c v (record { far = k; reach = sym y ∙ rw x at q })

  pub apart : (h a c : ℕ) → Under N h a → Under N h c → (a ≡ c → ⊥) → (n : ℕ) → Below N a n → Below N c n → ⊥
  apart h a c u v ne n x y =
      split (less x.far y.far)
      (λ l. apart_by h a c n u v x.far y.far l x.reach y.reach)
      (λ not.
      split (less y.far x.far)
      (λ l. apart_by h c a n v u y.far x.far l y.reach x.reach)
      (λ nor. ne (let e : x.far ≡ y.far = omega arith in let p = x.reach in let q = rw (← e) at y.reach in omega arith)))
