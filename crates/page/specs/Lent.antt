-- What a read may change of what a caller lends.
use Rattle.std.specs.Prelude.{ℕ, List}
use Rattle.lookup.specs.declared.Store.{Store}
use Rattle.lookup.specs.Commit.{Committed}
use Rattle.page.specs.Pages.{Read, read_of, Glance, glance_of}

abbrev pub read_in : Store → List ℕ → Read
read_in s buf = read_of s.pages.now s.used.now s.memory.now buf

abbrev pub glance_in : Committed → Store → Glance
glance_in r s = glance_of r s.pages.now s.used.now s.memory.now
