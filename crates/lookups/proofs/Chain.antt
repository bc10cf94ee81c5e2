-- In a sound pool no link has a 64th parent; so no chain comes back to a node. Assumes nothing.
use mathlib.Core.Path.{◌≡◌, sym, ap, ◌∙◌}
use mathlib.Core.Bool.{◌&&◌}
use mathlib.Core.List.{List}
use Prim.Native.Nat.{ℕ, zero, suc, ◌+◌, ◌*◌}
use native.Mathlib.Omega.{arith}
use lib.ListN.{get_or}
use Rattle.tables.specs.Pool.{Pool}
use Rattle.tables.specs.Tables.{node_of}
use Rattle.sound.specs.Tree.{linked_of, nodes_ok, chains_end, starts_ok}
use Rattle.sound.specs.Sound.{head_ok}
use Rattle.sound.specs.Facts.{Sound}
use Rattle.logic.proofs.Laws.{and_left, and_right}
use Rattle.soundness.proofs.Records.{linked}
use Rattle.soundness.proofs.Ancestors.{above, above-none, above_add, chains_mean}
use Rattle.soundness.proofs.Trees.{tree_means}

pub record Short (N : List ℕ) : Type 0 where
  pub parent : (n : ℕ) → linked_of N (n + 1) 1 ≡ (node_of N n).parent
  pub ends : (l : ℕ) → above N 64 l ≡ 0

pub sound-short : (L : ℕ) (p : Pool) → Sound L p → Short p.nodes
sound-short L p s =
    let next = get_or p.head 0 0 in
    let t = (tree_means p.nodes next s.lengths.nodes).test s.tree in
    let c = and_right (head_ok next && nodes_ok p.nodes next) (chains_end p.nodes) (and_left _ (starts_ok p.nodes next) t) in
    record { parent = λ n. (linked p.nodes s.lengths.nodes n).parent; ends = (chains_mean p.nodes s.lengths.nodes).fact c }

module _ {N : List ℕ} (s : Short N) where
  pub above-next : (d n : ℕ) → above N (suc d) (n + 1) ≡ above N d (node_of N n).parent
  unfolding above
  above-next d n = ap (above N d) (s.parent n)

  -- a chain that came back once would come back for ever

  again : (d l j : ℕ) → above N d l ≡ l → above N (j * d) l ≡ l
  unfolding above
  again d l zero e = let z : 0 * d ≡ 0 = omega arith in rw z
  again d l (suc j) e = let z : suc j * d ≡ d + j * d = omega arith in rw z (above_add N d (j * d) l ∙ rw e (again d l j e))

  pub no_return : (d l : ℕ) → above N (suc d) l ≡ l → l ≡ 0
  no_return d l e =
      let z : 64 * suc d ≡ 64 + 64 * d = omega arith in
      let a = above_add N 64 (64 * d) l in
      let b = ap (above N (64 * d)) (s.ends l) ∙ above-none N (64 * d) in
      sym (rw z at (again (suc d) l 64 e)) ∙ a ∙ b

pub ends_by_65 : {N : List ℕ} → Short N → (l : ℕ) → above N 65 l ≡ 0
ends_by_65 {N} s l = above_add N 64 1 l ∙ ap (above N 1) (s.ends l) ∙ above-none N 1
