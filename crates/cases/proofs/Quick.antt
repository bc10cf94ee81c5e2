-- Runs on a sound pool, without its test at each call: calls keep the pool sound, and what is left computes. Assumes nothing.
use Rattle.std.specs.Prelude.{Ok, Err}
use Rattle.outcome.specs.Answers.{Answer}
use mathlib.Core.Path.{◌≡◌, refl, ap, ◌∙◌}
use mathlib.Core.Bool.{true, ◌&&◌}
use mathlib.Core.List.{List, [], ◌∷◌}
use Prim.Native.Nat.{ℕ, ◌*◌}
use lib.Dec.{leb, ltb}
use lib.ListN.{replicate}
use Rattle.logic.specs.Pick.{pick}
use Rattle.logic.specs.Below.{all_below, sum_below, first_from, copied, zeroed}
use Rattle.entry.specs.Entry.{tag_of, state_of, slot_of, entry_word}
use Rattle.node.specs.Node.{leaf_of, cached_of, contains_of, out_of, side_of}
use Rattle.blocks.specs.Blocks.{pages_of, block_end, next_by, next_of, count_of}
use Rattle.tables.specs.Pool.{Pool}
use Rattle.tables.specs.Tables.{word_of, with_word, record_of, node_of, with_five, with_node, entry_of, slot_at, with_entry, with_state, without_state, row_moved, mapping_of, number_of, is_free, free_node_in, free_node_from}
use Rattle.frames.specs.Frames.{idle_of, one_idle, free_count, free_frame_in, pasted_at, blank_at, cleared_at, copied_at}
use Rattle.outcome.specs.Told.{put_notice}
use Rattle.outcome.specs.Room.{live_one, live_count, room_of}
use Rattle.outcome.specs.Outcome.{Outcome, refused}
use Rattle.notices.specs.Notices.{overlap_of, tell_place, tell_object, child_of, range_change}
use Rattle.lookup.specs.Mode.{asks}
use Rattle.lookup.specs.Level.{cleared, fresh_by, fresh_in, child_told, copy_by, share_in, leaf_told, serve, pass_by}
use Rattle.lookup.specs.Lookup.{enter_by, look_in}
use Rattle.lookup.specs.Commit.{commit_leaf}
use Rattle.sound.specs.Sound.{sound}
use Rattle.outcome.specs.declared.answer.Refusal.{Refusal}
use Rattle.outcome.specs.declared.answer.Refusal.TheVariants.{InvalidArgs, NoObject}
use Rattle.pool.specs.Calls.{saying, leaf_at, new_leaf, new, entered, on_entered, on_object, len_of}
use Rattle.child.specs.Child.{relinked, born_nodes, born, against_child, with_both, with_child, number_child, child_at}
use Rattle.page.specs.Each.{onward, each}
use Rattle.page.specs.Pages.{stored_by, wrote_page, write_by, write_page, fetched_by, look_read, read_through, read_by, read_page}
use Rattle.ranges.specs.Ranges.{ranged_by, against_writing, write_range, written, write_through, write_at, against_reading, read_range, filled, read_at}
use Rattle.mappings.specs.Mappings.{is_free_at, free_place, not_at, unused, free_number, with_mapping, append}
use Rattle.mappings.specs.Mappings as M
use Rattle.mapped.specs.Mapped.{shows_of, append_at}
use Rattle.runs.specs.Runs.{Aside, Command, aside_effect, effect, result_in, Event, event_of, history}
use Rattle.runs.specs.Runs.Aside.{Commit, CommitPage, Len, Peek, Forecast, Append, Remove}
use Rattle.runs.specs.Runs.Command.{New, Child, Read, Write, Also}
use Rattle.runs.specs.Theorems.AnyCall.{Of}
use Rattle.runs.proofs.Theorems.{keeps_sound}
use Rattle.cases.specs.Script.{Line, Printed, blot, step_by, step, Row, replies_by, replies_in, Table}
use Rattle.cases.specs.Script.Line.{New as Newly, Child as Cloned, Write as Writes, Read as Reads, Free}

-- a call as its rule has it after the sound test; those that no case makes as they are
abbrev at_object : {A : Type 0} → Pool → ℕ → (Refusal → A) → (ℕ → A) → A
at_object p object refuse does =
    on_entered refuse does (pick (ltb object 64 && leaf_of (node_of p.nodes object)) (Ok object) (Err NoObject))

unfoldable pub quick_aside : ℕ → Pool → Aside → Outcome Answer
unfolding on_entered append_at shows_of append M.append_by free_place is_free_at free_number unused not_at with_mapping len_of node_of record_of word_of mapping_of number_of first_from all_below
quick_aside L p (Len n) = at_object p n (refused p [] []) (λ m. saying (len_of L p.nodes m) p)
quick_aside L p (Append n first pages) = at_object p n (refused p [] []) (λ m. append_at p m first pages)
quick_aside L p (Commit list n offset bytes) = aside_effect L p (Commit list n offset bytes)
quick_aside L p (CommitPage list n page writing) = aside_effect L p (CommitPage list n page writing)
quick_aside L p (Peek zero n page) = aside_effect L p (Peek zero n page)
quick_aside L p (Forecast n offset bytes) = aside_effect L p (Forecast n offset bytes)
quick_aside L p (Remove n mapping) = aside_effect L p (Remove n mapping)

unfoldable pub quick : ℕ → Pool → Command → Outcome Answer
unfolding leaf_at new_leaf on_entered child_at against_child number_child with_child with_both born born_nodes relinked room_of live_count live_one write_at against_writing write_through written write_range write_page write_by wrote_page stored_by ranged_by read_at against_reading read_range read_page read_by look_read read_through fetched_by filled contains_of cached_of each onward pages_of block_end next_by next_of count_of commit_leaf look_in enter_by asks serve share_in copy_by child_told leaf_told pass_by fresh_in fresh_by cleared range_change child_of tell_object tell_place overlap_of put_notice free_count one_idle idle_of free_frame_in pasted_at blank_at cleared_at copied_at node_of record_of word_of with_node with_five with_word entry_of slot_at with_entry with_state without_state row_moved mapping_of number_of is_free free_node_in free_node_from tag_of state_of slot_of entry_word out_of side_of sum_below first_from copied zeroed
quick L p (New pages) = pick (leb pages 64) (new_leaf p pages) (refused p [] [] InvalidArgs)
quick L p (Child list n offset bytes) = at_object p n (refused p list []) (λ m. child_at L p list m offset bytes)
quick L p (Write list n offset bytes) = at_object p n (refused p list []) (λ m. write_at L p list m offset bytes)
quick L p (Read n offset buf) = at_object p n (refused p [] buf) (λ m. read_at L p m offset buf)
quick L p (Also c) = quick_aside L p c

module _ (L : ℕ) where
  aside_is : (p : Pool) → sound L p ≡ true → (c : Aside) → aside_effect L p c ≡ quick_aside L p c
  unfolding aside_effect quick_aside on_object entered
  aside_is p s (Len n) = rw s
  aside_is p s (Append n first pages) = rw s
  aside_is p s (Commit list n offset bytes) = refl
  aside_is p s (CommitPage list n page writing) = refl
  aside_is p s (Peek zero n page) = refl
  aside_is p s (Forecast n offset bytes) = refl
  aside_is p s (Remove n mapping) = refl

  quick_is : (p : Pool) → sound L p ≡ true → (c : Command) → effect L p c ≡ quick L p c
  unfolding effect quick new on_object entered
  quick_is p s (New pages) = rw s
  quick_is p s (Child list n offset bytes) = rw s
  quick_is p s (Write list n offset bytes) = rw s
  quick_is p s (Read n offset buf) = rw s
  quick_is p s (Also c) = aside_is p s c

  -- histories

  unfoldable pub quickly-goes : Pool → List Command → List Event
  quickly-goes p [] = []
  quickly-goes p (c ∷ cs) = let t = quick L p c in event_of c (result_in t) ∷ quickly-goes t.pool cs

  pub quick-history : (p : Pool) → sound L p ≡ true → (run : List Command) → history L p run ≡ quickly-goes p run
  unfolding history quickly-goes
  quick-history p s [] = refl
  quick-history p s (c ∷ cs) =
      let e = quick_is p s c in
      rw (← e) (ap (λ (es : List Event). event_of c (result_in (effect L p c)) ∷ es) (quick-history (effect L p c).pool (keeps_sound L p s (Of c)) cs))

  -- lines

  line_is : (p : Pool) → sound L p ≡ true → (l : Line) → step L p l ≡ step_by L (quick L) p l
  unfolding step_by
  line_is p s (Newly pages) = rw (quick_is p s (New pages))
  line_is p s (Cloned object first count) = rw (quick_is p s (Child [] object (first * L) (count * L)))
  line_is p s (Writes object offset byte len) = rw (quick_is p s (Write [] object offset (replicate len byte)))
  line_is p s (Reads object offset len) = rw (quick_is p s (Read object offset (blot len)))
  line_is p s Free = refl

  line_sound : (p : Pool) → sound L p ≡ true → (l : Line) → sound L (step L p l).pool ≡ true
  unfolding step_by
  line_sound p s (Newly pages) = keeps_sound L p s (Of (New pages))
  line_sound p s (Cloned object first count) = keeps_sound L p s (Of (Child [] object (first * L) (count * L)))
  line_sound p s (Writes object offset byte len) = keeps_sound L p s (Of (Write [] object offset (replicate len byte)))
  line_sound p s (Reads object offset len) = keeps_sound L p s (Of (Read object offset (blot len)))
  line_sound p s Free = s

  quick_replies : (p : Pool) → sound L p ≡ true → (rows : List Row) → replies_by (step L) p rows ≡ replies_by (step_by L (quick L)) p rows
  unfolding replies_by
  quick_replies p s [] = refl
  quick_replies p s (r ∷ rows) =
      let e = line_is p s r.line in
      rw (← e) (ap (λ (rs : List Printed). (step L p r.line).reply ∷ rs) (quick_replies (step L p r.line).pool (line_sound p s r.line) rows))

  pub quickly : (p : Pool) → sound L p ≡ true → {rows : List Row} → replies_by (step_by L (quick L)) p rows ≡ replies_in rows → Table L p rows
  quickly p s {rows} e = record { answered = quick_replies p s rows ∙ e }
