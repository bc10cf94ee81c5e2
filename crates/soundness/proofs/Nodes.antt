-- What the test of one node means. Assumes nothing.
use mathlib.Core.Path.{◌≡◌}
use mathlib.Core.Bool.{true}
use mathlib.Core.List.{List}
use mathlib.Core.Logic.{◌⊎◌}
use Prim.Native.Nat.{ℕ, ◌+◌, ◌≤◌, ◌<◌}
use lib.ListN.{length}
use borrow.Author.Tests.{lt-ltb}
use Rattle.node.specs.declared.Node.{Node}
use Rattle.node.specs.Node.{free_node}
use Rattle.sound.proofs.TreeLaws.{blank_means}
use Rattle.tables.specs.Tables.{node_of}
use Rattle.sound.specs.Tree.{numbers_ok, linked_of, named_ok, below_ok, links_ok, node_ok, nodes_ok}
use Rattle.logic.proofs.Means.{Means, equal, most, less, both, nay, either, unless, implies, choose, every}
use Rattle.soundness.proofs.Records.{node_out}

-- the record of a free node

free_ok : (N : List ℕ) (next : ℕ) → length N ≡ 1024 → 1 ≤ next → (n : ℕ) → 64 ≤ n → node_ok N next n ≡ true
unfolding node_ok numbers_ok links_ok
free_ok N next len pos n l = rw (node_out N len n l, lt-ltb 0 next pos)

-- the words of a record, all but its links

abbrev pub Numbers : Node → ℕ → Type 0
Numbers r next =
    (((((((r.kind ≤ 3) × (r.kind ≡ 0 → r ≡ free_node)) × (r.parent_offset ≤ r.parent_limit)) × (r.parent_limit ≤ r.parent_offset + r.size))
    × (r.size ≤ 64)) × (r.owner < next)) × (r.cache_policy ≤ 3)) × (r.pin_count ≤ 4294967295)

numbers_mean : (r : Node) (next : ℕ) → Means (numbers_ok r next) (Numbers r next)
unfolding numbers_ok
numbers_mean r next =
    both (both (both (both (both (both (both (most _ _) (implies (equal _ _) (blank_means r))) (most _ _)) (most _ _)) (most _ _)) (less _ _)) (most _ _)) (most _ _)

-- its links: children, no children, parent

abbrev pub Links : List ℕ → ℕ → Node → Type 0
Links N n r =
    ((r.kind ≡ 3 → ((linked_of N r.left 1 ≡ n + 1) × (linked_of N r.right 1 ≡ n + 1)) × (r.left ≡ r.right → ⊥))
    × ((r.kind ≡ 3 → ⊥) → (r.left ≡ 0) × (r.right ≡ 0)))
    × ((r.parent ≡ 0 → ⊥) → (linked_of N r.parent 0 ≡ 3) × ((linked_of N r.parent 2 ≡ n + 1) ⊎ (linked_of N r.parent 3 ≡ n + 1)))

links_mean : (N : List ℕ) (n : ℕ) (r : Node) → Means (links_ok N n r) (Links N n r)
unfolding links_ok named_ok below_ok
links_mean N n r =
    both
    (choose (equal _ _) (either (both (equal _ _) (both (both (equal _ _) (equal _ _)) (nay (equal _ _)))) (both (nay (equal _ _)) (both (equal _ _) (equal _ _)))))
    (unless (equal _ _) (both (equal _ _) (either (equal _ _) (equal _ _))))

-- so of all nodes, those past the table being free

pub nodes_mean : (N : List ℕ) (next : ℕ) → length N ≡ 1024 → 1 ≤ next → Means (nodes_ok N next) ((n : ℕ) → Numbers (node_of N n) next × Links N n (node_of N n))
unfolding nodes_ok node_ok
nodes_mean N next len pos =
    every (node_ok N next) 64 (λ n l. free_ok N next len pos n l) (λ n. both (numbers_mean (node_of N n) next) (links_mean N n (node_of N n)))
