-- A place of the mappings, free or held; and blank places at the end of the list. Assumes nothing.
use mathlib.Core.Path.{◌≡◌, refl, sym, ap, ◌∙◌}
use mathlib.Core.Bool.{Bool, true, false, ◌&&◌, and_assoc, and-true}
use mathlib.Core.List.{List}
use Prim.Native.Nat.{ℕ, ◌+◌, ◌*◌, ◌≤◌, ◌<◌}
use native.Mathlib.Omega.{arith}
use lib.Dec.{eqb}
use lib.ListN.{length, replicate}
use borrow.Author.Tests.{lt-leb}
use Rattle.logic.specs.Below.{all_below}
use Rattle.logic.proofs.Laws.{run_rest}
use Rattle.logic.proofs.Means.{less, split}
use Rattle.tables.specs.declared.Mapping.{Mapping}
use Rattle.tables.specs.Tables.{mapping_of, mapping_by, number_of}
use Rattle.sound.specs.Maps.{mapping_ok, place_ok, places_ok, once_at, mappings_ok}
use Rattle.sound.specs.Rows.{mark_run}
use Rattle.sound.proofs.RowLaws.{mark-none}

-- four tests, however they are grouped
four : (a b c d : Bool) → (a && (b && (c && d))) ≡ (a && b && c && d)
four true b c d = sym (and_assoc b c d)
four false b c d = refl

-- a mapping is the blank one, as derived
abbrev same_blank : Mapping → Bool
same_blank m = eqb m.number 0 && (eqb m.object 0 && (eqb m.first 0 && eqb m.pages 0))

module _ (nodes mappings : List ℕ) (i : ℕ) {m : Mapping} {b : Bool} where
  pub place-blank : {w : ℕ} → m ≡ mapping_of mappings i → b ≡ same_blank m → b ≡ true → w ≡ number_of mappings (i + 1) → eqb w 0 ≡ place_ok nodes mappings i
  unfolding place_ok
  place-blank e h t n = rw (n, ← e, sym (h ∙ four (eqb m.number 0) (eqb m.object 0) (eqb m.first 0) (eqb m.pages 0)) ∙ t)

  pub place_held : {r : Bool} → m ≡ mapping_of mappings i → b ≡ same_blank m → b ≡ false → r ≡ mapping_ok nodes m → r ≡ place_ok nodes mappings i
  unfolding place_ok
  place_held e h t n = rw (n, ← e, sym (h ∙ four (eqb m.number 0) (eqb m.object 0) (eqb m.first 0) (eqb m.pages 0)) ∙ t)

-- a table of 256 words has no place 64
pub mapping_out : (M : List ℕ) → length M ≡ 256 → (i : ℕ) → 64 ≤ i → mapping_of M i ≡ mapping_by 0 0 0 0
unfolding mapping_of
mapping_out M e i l = rw (lt-leb (i * 4 + 4) (length M) (omega arith))

module _ (M : List ℕ) (k : ℕ) (e : length M ≡ 256) (l : k ≤ 64) (rest : (i : ℕ) → k ≤ i → i < 64 → mapping_of M i ≡ mapping_by 0 0 0 0) where
  number_rest : (i : ℕ) → k ≤ i → number_of M i ≡ 0
  unfolding number_of
  number_rest i a = ap (λ (m : Mapping). m.number) (split (less i 64) (rest i a) (λ m. mapping_out M e i (omega arith)))

  marks_rest : (marks : List ℕ) → mark_run (number_of M) k marks ≡ mark_run (number_of M) 64 marks
  unfolding mark_run
  marks_rest marks = run_rest (λ n. mark_run (number_of M) n marks) k 64 l (λ j a b. sym (mark-none (mark_run (number_of M) j marks) (number_of M j) (number_rest j a)))

  places_rest : (N : List ℕ) → all_below (place_ok N M) k ≡ places_ok N M
  unfolding places_ok all_below place_ok
  places_rest N = run_rest (all_below (place_ok N M)) k 64 l (λ j a b. rw (rest j a b, number_rest (j + 1) (omega arith)) (and-true (all_below (place_ok N M) j)))

  pub mappings_by : (N : List ℕ) {marks : List ℕ} {p o : Bool} → marks ≡ mark_run (number_of M) k (replicate 65 0) → p ≡ all_below (place_ok N M) k → o ≡ all_below (once_at marks) 65 → (p && o) ≡ mappings_ok N M
  unfolding mappings_ok
  mappings_by N m p o = rw (o, p, m, marks_rest (replicate 65 0), places_rest N)
