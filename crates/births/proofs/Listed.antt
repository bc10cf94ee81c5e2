-- The list of mappings stays sound as one is appended or removed. Assumes nothing.
use Rattle.std.specs.Prelude.{Option, ℕ, Some, None}
use mathlib.Core.Path.{◌≡◌, refl, sym, ap, ◌∙◌}
use mathlib.Core.Bool.{true, false}
use mathlib.Core.List.{List}
use Prim.Native.Nat.{ℕ, ◌+◌, ◌≤◌, ◌<◌}
use native.Mathlib.Omega.{arith}
use lib.Dec.{eqb}
use lib.ListN.{length}
use borrow.Author.Tests.{eqb-true, eqb-false, not-true}
use Rattle.logic.proofs.Laws.{all_below_lem}
use Rattle.logic.proofs.Means.{equal, less, split}
use Rattle.tables.specs.declared.Mapping.{Mapping}
use Rattle.tables.specs.Tables.{mapping_of, mapping_by, number_of}
use Rattle.mappings.specs.Mappings.{is_free_at, free_place, not_at, unused, free_number, with_mapping, append_by, append, is_at, place_of, closed_up, removed_by, removed}
use Rattle.sound.specs.Facts.{Leaf, LiveAt, Mappings}
use Rattle.sound.proofs.MapLaws.{mapping_out}
use Rattle.births.proofs.First.{First, first_is}
use Rattle.births.proofs.Places.{place-length, place_away, place_same, skip, skip_low, skip_high, closed_length, closed_reads}

-- a list of full length whose mappings are sound
pub record Listing (N M : List ℕ) : Type 0 where
  pub size : length M ≡ 256
  pub mappings : Mappings N M

free_number_lem : (M : List ℕ) (i : ℕ) → is_free_at M i ≡ true → (mapping_of M i).number ≡ 0
unfolding is_free_at number_of
free_number_lem M i h = eqb-true (mapping_of M i).number 0 h

live_number : (M : List ℕ) (i : ℕ) → is_free_at M i ≡ false → (mapping_of M i).number ≡ 0 → ⊥
unfolding is_free_at number_of
live_number M i h = eqb-false (mapping_of M i).number 0 h

module _ (N M : List ℕ) (ok : Listing N M) where
  abbrev m : Mappings N M
  m = ok.mappings

  -- a number that no place has
  unused_is : (k j : ℕ) → unused M k ≡ true → (mapping_of M j).number ≡ k + 1 → ⊥
  unfolding unused not_at number_of
  unused_is k j h e =
      split (less j 64)
      (λ l. eqb-false (mapping_of M j).number (k + 1) (not-true (eqb (mapping_of M j).number (k + 1)) (all_below_lem (not_at M k) 64 h j l)) e)
      (λ out. let q = ap (λ (x : Mapping). x.number) (mapping_out M ok.size j (omega arith)) in omega arith)

  module _ (object first pages : ℕ) (leaf : Leaf N object) (some : 1 ≤ pages) (ends : first + pages ≤ 64) where
    module _ (i k : ℕ) (f : First (is_free_at M) 0 64 i) (g : First (unused M) 0 64 k) where
      abbrev new : Mapping
      new = mapping_by (k + 1) object first pages

      abbrev M' : List ℕ
      M' = with_mapping M i new

      at_new : mapping_of M' i ≡ new
      at_new = let l = f.below in place_same M i new ok.size (omega arith)

      at_old : (j : ℕ) → (j ≡ i → ⊥) → mapping_of M' j ≡ mapping_of M j
      at_old j ne = place_away M i j new ok.size ne

      -- what holds of the new mapping and of each old one
      each : (B : Mapping → Type 0) (j : ℕ) → B new → ((j ≡ i → ⊥) → B (mapping_of M j)) → B (mapping_of M' j)
      each B j x y = split (equal j i) (λ e. rw (e, at_new) x) (λ ne. rw (at_old j ne) (y ne))

      number_new : (j : ℕ) → j ≡ i → (mapping_of M' j).number ≡ k + 1
      number_new j e = rw (e, at_new)

      number_old : (j : ℕ) → (j ≡ i → ⊥) → (mapping_of M' j).number ≡ (mapping_of M j).number
      number_old j ne = ap (λ (x : Mapping). x.number) (at_old j ne)

      own_by : (a b : ℕ) → LiveAt M' a → (mapping_of M' a).number ≡ (mapping_of M' b).number → a ≡ b
      own_by a b live e =
          split (equal a i)
          (λ x. split (equal b i) (λ y. x ∙ sym y) (λ ne. absurd (unused_is k b g.holds (sym (number_old b ne) ∙ sym e ∙ number_new a x))))
          (λ ne.
          split (equal b i)
          (λ y. absurd (unused_is k a g.holds (sym (number_old a ne) ∙ e ∙ number_new b y)))
          (λ no. m.own a b (λ z. live (number_old a ne ∙ z)) (sym (number_old a ne) ∙ e ∙ number_old b no)))

      order_by : (j : ℕ) → (mapping_of M' j).number ≡ 0 → (mapping_of M' (j + 1)).number ≡ 0
      order_by j z =
          split (equal j i)
          (λ e. let q = number_new j e in absurd (omega arith))
          (λ ne.
          let y = sym (number_old j ne) ∙ z in
          split (equal (j + 1) i)
          (λ e. absurd (live_number M j (f.before j (omega arith) (omega arith)) y))
          (λ no. number_old (j + 1) no ∙ m.in_order j y))

      pub append_done : Listing N M'
      append_done =
          record {
            size = place-length M i new ∙ ok.size;
            mappings = record {
              leaf = λ j. each (λ x. (x.number ≡ 0 → ⊥) → Leaf N x.object) j (λ live. leaf) (λ ne. m.leaf j);
              some_page = λ j. each (λ x. (x.number ≡ 0 → ⊥) → 1 ≤ x.pages) j (λ live. some) (λ ne. m.some_page j);
              ends = λ j. each (λ x. (x.number ≡ 0 → ⊥) → x.first + x.pages ≤ 64) j (λ live. ends) (λ ne. m.ends j);
              numbers = λ j. each (λ x. x.number ≤ 64) j (let l = g.below in omega arith) (λ ne. m.numbers j);
              own = own_by;
              free = λ j. each (λ x. x.number ≡ 0 → x ≡ mapping_by 0 0 0 0) j (λ z. absurd (omega arith)) (λ ne. m.free j);
              in_order = order_by;
            };
          }

    append_by_lem : (f g : Option ℕ) → free_place M ≡ f → free_number M ≡ g → Listing N (append_by f g M object first pages).mappings
    unfolding append_by free_place free_number
    append_by_lem None g a b = ok
    append_by_lem (Some i) None a b = ok
    append_by_lem (Some i) (Some k) a b = append_done i k (first_is (is_free_at M) 0 64 i a) (first_is (unused M) 0 64 k b)

    pub append_listing : Listing N (append M object first pages).mappings
    unfolding append
    append_listing = append_by_lem (free_place M) (free_number M) refl refl

  -- one is taken out

  skip_one : (i a b : ℕ) → skip i a ≡ skip i b → a ≡ b
  skip_one i a b e =
      split (less a i)
      (λ x.
      let p = skip_low i a x in
      split (less b i) (λ y. let q = skip_low i b y in omega arith) (λ y. let q = skip_high i b (omega arith) in omega arith))
      (λ x.
      let p = skip_high i a (omega arith) in
      split (less b i) (λ y. let q = skip_low i b y in omega arith) (λ y. let q = skip_high i b (omega arith) in omega arith))

  order_skip : (i j : ℕ) → (mapping_of M (skip i j)).number ≡ 0 → (mapping_of M (skip i (j + 1))).number ≡ 0
  order_skip i j z =
      split (less j i)
      (λ l.
      let y = m.in_order j (rw (skip_low i j l) at z) in
      split (less (j + 1) i) (λ h. rw (skip_low i (j + 1) h) y) (λ h. rw (skip_high i (j + 1) (omega arith)) (m.in_order (j + 1) y)))
      (λ h. rw (skip_high i (j + 1) (omega arith)) (m.in_order (j + 1) (rw (skip_high i j (omega arith)) at z)))

  removed_done : (i : ℕ) → i < 64 → Listing N (closed_up M i)
  removed_done i low =
      let r = closed_reads M i ok.size low in
      record {
        size = closed_length M i ok.size low;
        mappings = record {
          leaf = λ j. rw (r j) (m.leaf (skip i j));
          some_page = λ j. rw (r j) (m.some_page (skip i j));
          ends = λ j. rw (r j) (m.ends (skip i j));
          numbers = λ j. rw (r j) (m.numbers (skip i j));
          own = λ a b. rw (r a, r b) (λ live e. skip_one i a b (m.own (skip i a) (skip i b) live e));
          free = λ j. rw (r j) (m.free (skip i j));
          in_order = λ j. rw (r j, r (j + 1)) (order_skip i j);
        };
      }

  removed_by_lem : (object k : ℕ) (f : Option ℕ) → place_of M object k ≡ f → Listing N (removed_by f M)
  unfolding removed_by place_of
  removed_by_lem object k (Some i) e = let l = (first_is (is_at M object k) 0 64 i e).below in removed_done i (omega arith)
  removed_by_lem object k None e = ok

  pub removed_listing : (object k : ℕ) → Listing N (removed M object k)
  unfolding removed
  removed_listing object k = removed_by_lem object k (place_of M object k) refl
