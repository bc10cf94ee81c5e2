-- A write and a read computed on small tables, with the numbers that the theorems speak of: a guard against a wrong word. Assumes nothing.
use Rattle.std.specs.Prelude.{Err}
use Rattle.outcome.specs.Answers.{Answer}
use mathlib.Core.Path.{◌≡◌, refl}
use mathlib.Core.List.{[], ◌∷◌}
use Prim.Native.Nat.{ℕ}
use lib.ListN.{replicate}
use Rattle.logic.specs.Below.{sum_below, first_from, copied, zeroed}
use Rattle.node.specs.Node.{out_of, side_of}
use Rattle.entry.specs.Entry.{tag_of, state_of, slot_of, entry_word}
use Rattle.tables.specs.Pool.{Pool, pool_of}
use Rattle.tables.specs.Tables.{word_of, record_of, node_of, entry_of, slot_at, with_entry, with_state}
use Rattle.blocks.specs.Blocks.{pages_of, block_end, next_by, next_of, count_of}
use Rattle.frames.specs.Frames.{idle_of, one_idle, free_count, free_frame_in, pasted_at, blank_at, cleared_at}
use Rattle.notices.specs.Notices.{child_of}
use Rattle.lookup.specs.Mode.{asks}
use Rattle.lookup.specs.Level.{cleared, fresh_by, fresh_in, leaf_told, serve, pass_by}
use Rattle.lookup.specs.Lookup.{enter_by, look_in}
use Rattle.lookup.specs.Descent.{walk}
use Rattle.lookup.specs.Commit.{commit_leaf}
use Rattle.outcome.specs.declared.answer.Refusal.TheVariants.{NoMemory}
use Rattle.outcome.specs.Outcome.{Outcome}
use Rattle.page.specs.Each.{onward, each}
use Rattle.page.specs.Pages.{stored_by, wrote_page, write_by, write_page, read_of, fetched_by, look_read, read_through, read_by, read_page}
use Rattle.ranges.specs.Ranges.{ranged_by, write_range, written, write_through, filled, read_range}
use Rattle.lookups.specs.Need.{due_of, price_of, need_in}
use Rattle.arrays.specs.Arrays.{write_array, touched, needs}

-- object 0 of four pages of 4 bytes, and two free frames
pub pool : Pool
pool = pool_of (1 ∷ 0 ∷ 0 ∷ 0 ∷ 0 ∷ 0 ∷ 4 ∷ 1 ∷ 0 ∷ 0 ∷ 0 ∷ 0 ∷ 0 ∷ 0 ∷ 0 ∷ 0 ∷ []) (replicate 64 0) (0 ∷ 0 ∷ []) [] (2 ∷ 0 ∷ 0 ∷ 0 ∷ []) (replicate 8 7)

-- nine bytes from byte 3 on touch three pages, which need three frames: the first two pages are written
pub run : Outcome Answer
run = write_through 4 pool [] 0 3 (1 ∷ 2 ∷ 3 ∷ 4 ∷ 5 ∷ 6 ∷ 7 ∷ 8 ∷ 9 ∷ [])

three-pages : touched 4 3 9 ≡ 3
unfolding count_of pages_of
three-pages = refl

three_frames : needs pool.nodes pool.pages 0 0 3 ≡ 3
unfolding pool needs sum_below need_in price_of due_of walk asks node_of record_of word_of slot_at slot_of state_of tag_of entry_of out_of side_of child_of
three_frames = refl

two-written : (run.answer ≡ Err NoMemory) × (◌≡◌ {A = ℕ} run.done 5) × (◌≡◌ {A = ℕ} run.taken 2) × (run.pool.memory ≡ 0 ∷ 0 ∷ 0 ∷ 1 ∷ 2 ∷ 3 ∷ 4 ∷ 5 ∷ [])
unfolding run pool write_through written ranged_by write_range each onward write_page write_by wrote_page stored_by next_of next_by block_end count_of pages_of commit_leaf look_in enter_by asks fresh_in fresh_by cleared serve leaf_told pass_by node_of record_of word_of slot_at slot_of state_of tag_of entry_of with_entry with_state entry_word out_of idle_of one_idle free_count free_frame_in first_from sum_below pasted_at copied blank_at cleared_at zeroed
two-written = (refl, refl, refl, refl)

-- what is read of it again: the bytes written, and zeros
abbrev pub after : Pool
after = run.pool

read_again : (filled after (read_range 4 after.nodes after.mappings 0 2 (read_of after.pages after.used after.memory (9 ∷ 9 ∷ 9 ∷ 9 ∷ 9 ∷ 9 ∷ 9 ∷ 9 ∷ [])))).buf ≡ 0 ∷ 1 ∷ 2 ∷ 3 ∷ 4 ∷ 5 ∷ 0 ∷ 0 ∷ []
unfolding run pool write_through written ranged_by write_range each onward write_page write_by wrote_page stored_by next_of next_by block_end count_of pages_of commit_leaf look_in enter_by asks fresh_in fresh_by cleared serve leaf_told pass_by node_of record_of word_of slot_at slot_of state_of tag_of entry_of with_entry with_state entry_word out_of idle_of one_idle free_count free_frame_in first_from sum_below pasted_at copied cleared_at zeroed filled read_range read_page read_by read_through look_read fetched_by blank_at
read_again = refl

-- byte 1 of page 1 is byte 5 of the object, the third of those given; byte 0 of page 2 was not reached
as_array : (write_array 4 (λ n i k. 0) 0 3 (1 ∷ 2 ∷ 3 ∷ 4 ∷ 5 ∷ 6 ∷ 7 ∷ 8 ∷ 9 ∷ []) 5 0 1 1 ≡ 3) × (write_array 4 (λ n i k. 0) 0 3 (1 ∷ 2 ∷ 3 ∷ 4 ∷ 5 ∷ 6 ∷ 7 ∷ 8 ∷ 9 ∷ []) 5 0 2 0 ≡ 0)
unfolding write_array
as_array = (refl, refl)
