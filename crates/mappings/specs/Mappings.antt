-- The list of mappings (append_mapping, 332; remove_mapping, 336): live ones stand first, in the order of appending.
use Rattle.std.specs.Prelude.{ℕ, ◌+◌, ◌-◌, ◌*◌, Bool, ◌&&◌, not, List, eqb, set, Option, Some, None}
use Rattle.logic.specs.Below.{all_below, first_from, copied}
use Rattle.tables.specs.declared.Mapping.{Mapping}
use Rattle.tables.specs.Tables.{mapping_of, mapping_by, number_of}

unfoldable pub is_free_at : List ℕ → ℕ → Bool
is_free_at M i = eqb (number_of M i) 0

unfoldable pub free_place : List ℕ → Option ℕ
free_place M = first_from (is_free_at M) 0 64

-- no place holds mapping k
unfoldable pub not_at : List ℕ → ℕ → ℕ → Bool
not_at M k i = not (eqb (number_of M i) (k + 1))

unfoldable pub unused : List ℕ → ℕ → Bool
unused M k = all_below (not_at M k) 64

unfoldable pub free_number : List ℕ → Option ℕ
free_number M = first_from (unused M) 0 64

unfoldable pub with_mapping : List ℕ → ℕ → Mapping → List ℕ
with_mapping M i m =
    set (set (set (set M (i * 4) m.number) (i * 4 + 1) m.object) (i * 4 + 2) m.first) (i * 4 + 3) m.pages

pub record Listed : Type 0 where
  pub found : Option ℕ
  pub mappings : List ℕ

abbrev pub listed_of : Option ℕ → List ℕ → Listed
listed_of f m = record { found = f; mappings = m }

-- the lowest free number, at the first free place; Nothing where all are live
unfoldable pub append_by : Option ℕ → Option ℕ → List ℕ → ℕ → ℕ → ℕ → Listed
append_by None number M object first pages = listed_of None M
append_by (Some i) None M object first pages = listed_of None M
append_by (Some i) (Some k) M object first pages = listed_of (Some k) (with_mapping M i (mapping_by (k + 1) object first pages))

unfoldable pub append : List ℕ → ℕ → ℕ → ℕ → Listed
append M object first pages = append_by (free_place M) (free_number M) M object first pages

-- the place of an object's mapping
unfoldable pub is_at : List ℕ → ℕ → ℕ → ℕ → Bool
is_at M object k i = eqb (mapping_of M i).number (k + 1) && eqb (mapping_of M i).object object

unfoldable pub place_of : List ℕ → ℕ → ℕ → Option ℕ
place_of M object k = first_from (is_at M object k) 0 64

-- the places after i move up, and the last becomes free
unfoldable pub closed_up : List ℕ → ℕ → List ℕ
closed_up M i = with_mapping (copied M (i * 4) M (i * 4 + 4) (252 - i * 4)) 63 (mapping_by 0 0 0 0)

unfoldable pub removed_by : Option ℕ → List ℕ → List ℕ
removed_by (Some i) M = closed_up M i
removed_by None M = M

unfoldable pub removed : List ℕ → ℕ → ℕ → List ℕ
removed M object k = removed_by (place_of M object k) M
