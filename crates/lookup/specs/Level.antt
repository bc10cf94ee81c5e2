-- One node's part of page lookup, in the source's order: an absent page that no parent is asked for, what a parent answered, the page at the node.
use Rattle.std.specs.Prelude.{ℕ, ◌+◌, Bool, true, false, ◌&&◌, List, Option, Some, None, Err, Ok}
use Rattle.logic.specs.Pick.{pick}
use Rattle.entry.specs.declared.PageState.{PageState}
use Rattle.entry.specs.declared.PageStateTag.{PageStateTag}
use Rattle.entry.specs.Entry.{split_of, new_state, tagged_of}
use Rattle.node.specs.Node.{hidden_of, side_of}
use Rattle.tables.specs.Tables.{slot_at, with_state, without_state}
use Rattle.frames.specs.Frames.{free_frame_in, taken_of, given_of, cleared_at, copied_at}
use Rattle.outcome.specs.Told.{Told, unmap}
use Rattle.notices.specs.Notices.{tell_object, range_change}
use Rattle.lookup.specs.Work.{Looked, Work, work_of, Looking, looking_of}
use Rattle.lookup.specs.declared.CommitResult.TheVariants.{Ref, Zero, CopyOnWrite, NewPage}
use Rattle.lookup.specs.declared.LookupError.TheVariants.{NoMemory, Stopped}
use Rattle.lookup.specs.declared.Place.{Place}
use Rattle.lookup.specs.Mode.{Mode, node_at, other, both_at, halts_at}

abbrev pub slot_in : Work → Place → Option PageState
slot_in w p = slot_at w.pages p.node p.page

abbrev pub with_pages : Work → List ℕ → Work
with_pages w p = work_of p w.used w.memory w.told

abbrev pub with_told : Work → Told → Work
with_told w t = work_of w.pages w.used w.memory t

-- the frame kept by the node, 563, 579 and 593
abbrev pub kept : Work → ℕ → ℕ → ℕ → Work
kept w n i f = with_pages w (with_state w.pages n i (new_state f))

abbrev pub kept_at : Work → Place → ℕ → Work
kept_at w p f = kept w p.node p.page f

-- the frame taken out of the node, 609 and 629
abbrev pub without : Work → ℕ → ℕ → Work
without w n i = with_pages w (without_state w.pages n i)

abbrev pub out_at : Place → Work → Work
out_at p w = without w p.node p.page

-- a frame taken and cleared, 556; and given back
unfoldable pub cleared : ℕ → Work → ℕ → Work
cleared L w f = work_of w.pages (taken_of (Some f) w.used) (cleared_at L w.memory f) w.told

abbrev pub back_at : ℕ → Work → ℕ → Work
back_at L w f = work_of w.pages (given_of f (taken_of (Some f) w.used)) (cleared_at L w.memory f) w.told

-- an absent page outside, or with no parent, 550: zeros for reading; for writing a cleared frame, which a hidden node doesn't keep, and which
-- goes back where the write stops
unfoldable pub fresh_by : ℕ → Option ℕ → Work → Place → Bool → Bool → Looking
fresh_by L None w p hidden halts = looking_of (Err NoMemory) w
fresh_by L (Some f) w p true true = looking_of (Err Stopped) (back_at L w f)
fresh_by L (Some f) w p true false = looking_of (Ok (NewPage f)) (cleared L w f)
fresh_by L (Some f) w p false true = looking_of (Ok (Ref f)) (kept_at (cleared L w f) p f)
fresh_by L (Some f) w p false false = looking_of (Ok (Ref f)) (kept_at (cleared L w f) p f)

unfoldable pub fresh_in : ℕ → Bool → Work → Place → Bool → Bool → Looking
fresh_in L write w p hidden halts = pick write (fresh_by L (free_frame_in w.used) w p hidden halts) (looking_of (Ok Zero) w)

abbrev pub fresh : Mode → Bool → Work → Place → Looking
fresh m write w p = fresh_in m.bytes write w p (hidden_of (node_at m p)) (halts_at m p)

-- an Unmap that is due goes to the other child, 612; and, where the copy is refused, to the asking one in a mode that tells it
unfoldable pub child_told : Mode → ℕ → ℕ → Bool → Told → Told
child_told m child i due t = pick due (range_change 64 m.nodes m.mappings child i (i + 1) unmap t) t

abbrev pub told_at : Mode → Place → Bool → Work → Work
told_at m p u w = with_told w (child_told m (other (node_at m p) p.asker) p.page u w.told)

abbrev pub denied_at : Mode → Place → Bool → Work → Work
denied_at m p u w = with_told w (child_told m p.asker p.page (m.tells && u) w.told)

-- copy-on-write, 631: the copy goes to the asker, and the page is tagged with its side
abbrev pub split_at : ℕ → Place → PageState → PageStateTag → ℕ → Work → Work
split_at L p s tag g w =
    work_of (with_state w.pages p.node p.page (tagged_of s tag)) (taken_of (Some g) w.used) (copied_at L w.memory g s.frame) w.told

abbrev pub copy_at : Mode → Place → PageState → ℕ → Work → Work
copy_at m p s g w = split_at m.bytes p s (side_of (node_at m p) p.asker).tag g w

unfoldable pub copy_by : Mode → Place → PageState → Bool → Option ℕ → Work → Looking
copy_by m p s u None w = looking_of (Err NoMemory) (denied_at m p u w)
copy_by m p s u (Some g) w = looking_of (Ok (CopyOnWrite g true)) (copy_at m p s g w)

-- a page that the other child has too, 626: a split one goes to the asker; for writing the asker gets a copy; else the frame is shared
unfoldable pub share_in : Mode → Bool → Place → PageState → Bool → Work → Looking
share_in m write p s u w =
    pick (split_of s.tag) (looking_of (Ok (CopyOnWrite s.frame u)) (out_at p w))
    (pick (write && split_of (side_of (node_at m p) p.asker).tag) (copy_by m p s u (free_frame_in w.used) w) (looking_of (Ok (Ref s.frame)) w))

-- a leaf that has the page, 619: its mappings are told of a frame that was handed down
unfoldable pub leaf_told : List ℕ → ℕ → ℕ → Bool → Told → Told
leaf_told M node i due t = pick due (tell_object M t 64 node i (i + 1) unmap) t

abbrev pub leaf_step : List ℕ → PageState → Work → ℕ → ℕ → Bool → Looking
leaf_step M s w node i due = looking_of (Ok (Ref s.frame)) (with_told w (leaf_told M node i due w.told))

-- the page at the node, 598 to 639: what only the asking child can reach goes to it
unfoldable pub serve : Mode → Bool → Place → PageState → Bool → Work → Looking
serve m write p s due w =
    pick (hidden_of (node_at m p))
    (pick (both_at m p) (share_in m write p s due (told_at m p due w)) (looking_of (Ok (CopyOnWrite s.frame due)) (out_at p w)))
    (leaf_step m.mappings s w p.node p.page due)

-- what the parent answered, taken apart, 575 to 595: a shared frame and a refusal leave early; what was handed over is kept and served; a
-- cleared frame passes hidden nodes
unfoldable pub pass_by : Mode → Bool → Place → Looked → Work → Looking
pass_by m write p (Ok (Ref f)) w = looking_of (Ok (Ref f)) w
pass_by m write p (Ok Zero) w = looking_of (Ok Zero) w
pass_by m write p (Err r) w = looking_of (Err r) w
pass_by m write p (Ok (NewPage f)) w = pick (hidden_of (node_at m p)) (looking_of (Ok (NewPage f)) w) (looking_of (Ok (Ref f)) (kept_at w p f))
pass_by m write p (Ok (CopyOnWrite f u)) w = serve m write p (new_state f) u (kept_at w p f)

abbrev pub pass : Mode → Bool → Place → Looking → Looking
pass m write p r = pass_by m write p r.answer r.work
