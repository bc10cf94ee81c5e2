-- Page lookup in two halves, which is the same: a walk that moves nothing, and the descent of what it found.
use Rattle.std.specs.Prelude.{ℕ, zero, suc, Bool, true, false, ◌&&◌, List, Option, None, Some, Err}
use Rattle.entry.specs.declared.PageState.{PageState}
use Rattle.logic.specs.Pick.{pick}
use Rattle.node.specs.Node.{hidden_of}
use Rattle.tables.specs.Tables.{slot_at}
use Rattle.lookup.specs.declared.LookupError.TheVariants.{Stopped}
use Rattle.lookup.specs.declared.Place.{Place}
use Rattle.lookup.specs.declared.End.{End}
use Rattle.lookup.specs.declared.End.TheVariants.{Has, Bare, Tired}
use Rattle.lookup.specs.declared.Turn.{Turn}
use Rattle.lookup.specs.declared.Turn.TheVariants.{Ends, Climbs}
use Rattle.lookup.specs.Work.{Work, Looking, looking_of}
use Rattle.lookup.specs.Mode.{Mode, node_at, up, ups, asks}
use Rattle.lookup.specs.Level.{fresh, serve, pass}

-- a walk ends so many levels up: at a node that has the page, at one that has no parent to ask, or for want of steps
pub record Way : Type 0 where
  pub levels : ℕ
  pub end : End

abbrev pub way : ℕ → End → Way
way d x = record { levels = d; end = x }

abbrev pub further : Way → Way
further y = way (suc y.levels) y.end

-- one node's turn: the walk ends here, or the parent is asked
abbrev pub turn_by : Option PageState → Bool → Place → Turn
turn_by (Some s) asked q = Ends (Has s)
turn_by None asked q = pick asked (Climbs q) (Ends Bare)

abbrev pub turn : Mode → List ℕ → Place → Turn
turn m P p = turn_by (slot_at P p.node p.page) (asks m p) (up m p)

abbrev pub walk_by : Option PageState → Bool → Way → Way
walk_by (Some s) asked above = way 0 (Has s)
walk_by None asked above = pick asked above (way 0 Bare)

-- `left` parents may still be asked
unfoldable pub walk : Mode → ℕ → List ℕ → Place → Way
walk m zero P p = walk_by (slot_at P p.node p.page) (asks m p) (way 0 Tired)
walk m (suc left) P p = walk_by (slot_at P p.node p.page) (asks m p) (further (walk m left P (up m p)))

-- what the node at the walk's end answers
unfoldable pub top : Mode → Bool → Work → Place → End → Looking
top m write w p (Has s) = serve m write p s false w
top m write w p Bare = fresh m write w p
top m write w p Tired = looking_of (Err Stopped) w

-- an answer given so many levels up comes down to p: the parent's part first, then the node's
unfoldable pub descent : Mode → Bool → ℕ → Place → Looking → Looking
descent m write zero p g = g
descent m write (suc d) p g = pass m write p (descent m write d (up m p) g)

abbrev pub along : Mode → Bool → Work → Place → Way → Looking
along m write w p y = descent m write y.levels p (top m write w (ups m y.levels p) y.end)

abbrev pub lookup : Mode → ℕ → Bool → Work → Place → Looking
lookup m left write w p = along m write w p (walk m left w.pages p)

-- all nodes above p, so many levels up, are hidden
unfoldable pub hidden_up : Mode → ℕ → Place → Bool
hidden_up m zero p = true
hidden_up m (suc d) p = hidden_up m d p && hidden_of (node_at m (ups m (suc d) p))
