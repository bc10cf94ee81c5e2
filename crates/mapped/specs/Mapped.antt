-- The calls append_mapping and remove_mapping on a pool of pages of L bytes, refused ones too.
use Rattle.std.specs.Prelude.{ℕ, ◌+◌, Bool, ◌&&◌, List, [], leb, ltb, Option, Some, None, Ok, Err}
use Rattle.outcome.specs.Answers.{Answer}
use Rattle.logic.specs.Pick.{pick}
use Rattle.outcome.specs.declared.answer.Refusal.TheVariants.{InvalidArgs, NoRoom}
use Rattle.outcome.specs.Outcome.{Outcome, refused}
use Rattle.tables.specs.Pool.{Pool, pool_of}
use Rattle.mappings.specs.Mappings.{Listed, append, removed}
use Rattle.pool.specs.Calls.{saying, on_object}

abbrev pub with_mappings : Pool → List ℕ → Pool
with_mappings p m = pool_of p.nodes p.pages p.used m p.head p.memory

-- at least one page, and none past page 64
unfoldable pub shows_of : ℕ → ℕ → Bool
shows_of first count = leb 1 count && leb (first + count) 64

abbrev pub mapping_number : Option ℕ → Answer
mapping_number (Some k) = Ok k
mapping_number None = Err NoRoom

abbrev pub appended : Pool → Listed → Outcome Answer
appended p l = saying (mapping_number l.found) (with_mappings p l.mappings)

unfoldable pub append_at : Pool → ℕ → ℕ → ℕ → Outcome Answer
append_at p n first count = pick (shows_of first count) (appended p (append p.mappings n first count)) (refused p [] [] InvalidArgs)

abbrev pub append_mapping : ℕ → Pool → ℕ → ℕ → ℕ → Outcome Answer
append_mapping L p object first count = on_object L p object (refused p [] []) (λ n. append_at p n first count)

-- one that isn't live, or isn't the object's, changes nothing
unfoldable pub remove_at : Pool → ℕ → ℕ → Outcome Answer
remove_at p n mapping = pick (ltb mapping 64) (saying (Ok 0) (with_mappings p (removed p.mappings n mapping))) (saying (Ok 0) p)

abbrev pub remove_mapping : ℕ → Pool → ℕ → ℕ → Outcome Answer
remove_mapping L p object mapping = on_object L p object (refused p [] []) (λ n. remove_at p n mapping)
