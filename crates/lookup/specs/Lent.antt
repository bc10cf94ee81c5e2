-- What a caller lends to page lookup, and what is in it.
use Rattle.std.specs.Prelude.{◌≡◌, ℕ, List}
use Rattle.tables.specs.declared.lent.Tree.{Tree}
use Rattle.tables.specs.Pool.{Pool, pool_of}
use Rattle.outcome.specs.Told.{Told}
use Rattle.lookup.specs.declared.Store.{Store}
use Rattle.lookup.specs.Work.{Work, work_of}
use Rattle.lookup.specs.Mode.{Mode, today}

abbrev pub mode_in : Tree → Mode
mode_in t = today 4096 t.nodes.now t.mappings.now

abbrev pub work_in : Store → Told → Work
work_in s t = work_of s.pages.now s.used.now s.memory.now t

abbrev pub pool_with : Tree → List ℕ → Store → Pool
pool_with t head s = pool_of t.nodes.now s.pages.now s.used.now t.mappings.now head s.memory.now

-- the same lent slices
pub record SameStore (old new : Store) : Type 0 where
  pub pages : new.pages.ghost_name ≡ old.pages.ghost_name
  pub used : new.used.ghost_name ≡ old.used.ghost_name
  pub memory : new.memory.ghost_name ≡ old.memory.ghost_name
