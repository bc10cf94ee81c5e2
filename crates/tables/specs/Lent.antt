-- What a caller lends, as values.
use Rattle.tables.specs.declared.lent.View.{View}
use Rattle.tables.specs.Pool.{Pool, pool_of}

abbrev pub pool_in : View → Pool
pool_in v = pool_of v.nodes.now v.pages.now v.used.now v.mappings.now v.head.now v.memory.now
