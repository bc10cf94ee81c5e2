-- A lent list of notices, and what is in it.
use Rattle.std.specs.Prelude.{◌≡◌}
use Rattle.outcome.specs.declared.notice.Notices.{Notices}
use Rattle.outcome.specs.Told.{Told, told_of}

abbrev pub told_at : Notices → Told
told_at n = told_of n.list.now n.count

-- the same lent list
abbrev pub SameList : Notices → Notices → Type 0
SameList old new = new.list.ghost_name ≡ old.list.ghost_name
