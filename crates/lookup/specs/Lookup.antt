-- Page lookup (commit_page_internal, 531): the source's function, in the source's shape.
use Rattle.std.specs.Prelude.{ℕ, zero, suc, Bool, false, List, Option, None, Some, Err}
use Rattle.entry.specs.declared.PageState.{PageState}
use Rattle.logic.specs.Pick.{pick}
use Rattle.lookup.specs.declared.LookupError.TheVariants.{Stopped}
use Rattle.lookup.specs.declared.Place.{Place}
use Rattle.lookup.specs.Work.{Work, Looking, looking_of}
use Rattle.lookup.specs.Mode.{Mode, today, place_of, up, asks}
use Rattle.lookup.specs.Level.{slot_in, fresh, serve, pass}

-- one node's step, with what the parent would answer
unfoldable pub enter_by : Mode → Bool → Work → Place → Option PageState → Looking → Looking
enter_by m write w p (Some s) above = serve m write p s false w
enter_by m write w p None above = pick (asks m p) (pass m write p above) (fresh m write w p)

abbrev pub enter : Mode → Bool → Work → Place → Looking → Looking
enter m write w p above = enter_by m write w p (slot_in w p) above

-- `left` parents may still be asked; on a sound pool the chain's end comes first
unfoldable pub look_in : Mode → ℕ → Bool → Work → Place → Looking
look_in m zero write w p = enter m write w p (looking_of (Err Stopped) w)
look_in m (suc left) write w p = enter m write w p (look_in m left write w (up m p))

abbrev pub look : ℕ → ℕ → List ℕ → List ℕ → Work → ℕ → ℕ → Bool → ℕ → Looking
look L left N M w node i write asker = look_in (today L N M) left write w (place_of node i asker)
