-- What the test of the mappings means. Assumes nothing.
use mathlib.Core.Path.{◌≡◌, ap}
use mathlib.Core.Bool.{true}
use mathlib.Core.List.{List}
use Prim.Native.Nat.{ℕ, ◌+◌, ◌≤◌, ◌<◌}
use native.Mathlib.Omega.{arith}
use lib.ListN.{length, get_or, replicate, get_or-replicate}
use Rattle.node.specs.Node.{leaf_of}
use Rattle.tables.specs.declared.Mapping.{Mapping}
use Rattle.tables.specs.Tables.{node_of, mapping_of, mapping_by, number_of}
use Rattle.sound.specs.Rows.{mark_run}
use Rattle.sound.specs.Maps.{mapping_ok, blank_of, place_ok, places_ok, once_at, mappings_ok}
use Rattle.sound.specs.Facts.{LiveAt, Mappings}
use Rattle.logic.proofs.Means.{Means, says, itself, equal, most, less, both, split, picked, below, every}
use Rattle.sound.proofs.MapLaws.{mapping_out}
use Rattle.soundness.proofs.Marks.{Tally, Shows, run_tally}

abbrev blank : Mapping
blank = mapping_by 0 0 0 0

blank_by : (n o f p : ℕ) → n ≡ 0 → o ≡ 0 → f ≡ 0 → p ≡ 0 → mapping_by n o f p ≡ blank
blank_by n o f p a b c d = cc

blank_means : (m : Mapping) → Means (blank_of m) (m ≡ blank)
blank_means m =
    let z = both (both (both (equal m.number 0) (equal m.object 0)) (equal m.first 0)) (equal m.pages 0) in
    record { fact = λ h. let (((a, b), c), d) = z.fact h in blank_by _ _ _ _ a b c d; test = λ e. rw e }

-- one place

abbrev Goes : List ℕ → Mapping → Type 0
Goes N m = ((((1 ≤ m.number) × (m.number ≤ 64)) × (leaf_of (node_of N m.object) ≡ true)) × (1 ≤ m.pages)) × (m.first + m.pages ≤ 64)

goes_means : (N : List ℕ) (m : Mapping) → Means (mapping_ok N m) (Goes N m)
unfolding mapping_ok
goes_means N m = both (both (both (both (most _ _) (most _ _)) (itself _)) (most _ _)) (most _ _)

abbrev Place : List ℕ → List ℕ → ℕ → Type 0
Place N M i =
    (mapping_of M i ≡ blank → (mapping_of M (i + 1)).number ≡ 0) × ((mapping_of M i ≡ blank → ⊥) → Goes N (mapping_of M i))

module _ (N M : List ℕ) (len : length M ≡ 256) where
  place_means : (i : ℕ) → Means (place_ok N M i) (Place N M i)
  unfolding place_ok number_of
  place_means i = picked (blank_means (mapping_of M i)) (equal _ _) (goes_means N (mapping_of M i))

  number_out : (i : ℕ) → 64 ≤ i → (mapping_of M i).number ≡ 0
  number_out i l = ap (λ (m : Mapping). m.number) (mapping_out M len i l)

  places_mean : Means (places_ok N M) ((i : ℕ) → Place N M i)
  unfolding places_ok
  places_mean =
      every (place_ok N M) 64 (λ i l. (place_means i).test (λ e. number_out (i + 1) (omega arith), λ ne. absurd (ne (mapping_out M len i l)))) place_means

  -- their numbers

  abbrev marks : List ℕ
  marks = mark_run (number_of M) 64 (replicate 65 0)

  abbrev Once : Type 0
  Once = (v : ℕ) → v < 65 → get_or marks v 0 ≤ 1

  abbrev Own : Type 0
  Own = (i j : ℕ) → LiveAt M i → (mapping_of M i).number ≡ (mapping_of M j).number → i ≡ j

  tally : (v : ℕ) → v < 65 → Tally (λ a. Shows (number_of M a) v) 64 (get_or marks v 0)
  tally v l = run_tally (number_of M) v (replicate 65 0) l (get_or-replicate 65 v 0 0 l) 64

  module _ (low : (i : ℕ) → (mapping_of M i).number ≤ 64) where
    inside : (i : ℕ) → LiveAt M i → i < 64
    inside i live = split (less i 64) (λ l. l) (λ out. absurd (live (number_out i (omega arith))))

    own : Once → Own
    unfolding number_of
    own once i j live e =
        let l = low i in
        let v = (mapping_of M i).number in
        (tally v (omega arith)).one_place (once v (omega arith)) i j (inside i live) (inside j (λ z. live (omega arith)))
        (live, omega arith) (λ z. live (omega arith), omega arith)

    once : Own → Once
    unfolding number_of
    once own v l = (tally v l).once (λ a b x y s u. own a b s.0 (let p = low a in let q = low b in omega arith))

  -- all of them

  module _ (places : (i : ℕ) → Place N M i) where
    goes : (i : ℕ) → LiveAt M i → Goes N (mapping_of M i)
    goes i live = (places i).1 (λ e. live (ap (λ (m : Mapping). m.number) e))

    free : (i : ℕ) → (mapping_of M i).number ≡ 0 → mapping_of M i ≡ blank
    free i z = split (blank_means (mapping_of M i)) (λ e. e) (λ ne. let q = (places i).1 ne in absurd (omega arith))

    low : (i : ℕ) → (mapping_of M i).number ≤ 64
    low i = split (equal (mapping_of M i).number 0) (λ z. omega arith) (λ live. (goes i live).0.0.0.1)

  place_back : Mappings N M → (i : ℕ) → Place N M i
  place_back s i = (
    λ e. s.in_order i (ap (λ (m : Mapping). m.number) e),
    λ ne.
        let live : LiveAt M i = λ z. ne (s.free i z) in
        ((((omega arith, s.numbers i), s.leaf i live), s.some_page i live), s.ends i live),
  )

  pub mappings_mean : Means (mappings_ok N M) (Mappings N M)
  unfolding mappings_ok
  mappings_mean =
      says (both places_mean (below (once_at marks) 65 (λ v. most _ _)))
      (λ (places, single). record {
        leaf = λ i live. (goes places i live).0.0.1;
        some_page = λ i live. (goes places i live).0.1;
        ends = λ i live. (goes places i live).1;
        numbers = low places;
        own = own (low places) single;
        free = free places;
        in_order = λ i z. (places i).0 (free places i z);
      })
      (λ s. (place_back s, once s.numbers s.own))
