-- The call forecast on a pool of pages of L bytes, refused ones too.
use Rattle.std.specs.Prelude.{ℕ, ◌+◌, ◌/◌, List, [], leb, Option, None, Some, Ok, Err}
use Rattle.outcome.specs.Answers.{Answer}
use Rattle.entry.specs.declared.PageState.{PageState}
use Rattle.logic.specs.Pick.{pick}
use Rattle.logic.specs.Below.{sum_below}
use Rattle.node.specs.Node.{contains_of}
use Rattle.blocks.specs.declared.BlockIter.{BlockIter}
use Rattle.blocks.specs.Blocks.{iter_of, count_of}
use Rattle.tables.specs.Pool.{Pool}
use Rattle.tables.specs.Tables.{node_of, slot_at}
use Rattle.frames.specs.Frames.{free_count}
use Rattle.outcome.specs.declared.answer.Refusal.TheVariants.{OutOfRange}
use Rattle.outcome.specs.Outcome.{Outcome, refused}
use Rattle.pool.specs.Calls.{saying, on_object}

abbrev pub one_absent : Option PageState → ℕ
one_absent None = 1
one_absent (Some s) = 0

-- the node holds no frame for the page
unfoldable pub absent_at : List ℕ → ℕ → ℕ → ℕ
absent_at pages n i = one_absent (slot_at pages n i)

unfoldable pub absent_from : List ℕ → ℕ → ℕ → ℕ → ℕ
absent_from pages n first k = absent_at pages n (first + k)

unfoldable pub absent_in : List ℕ → ℕ → ℕ → ℕ → ℕ
absent_in pages n first count = sum_below (absent_from pages n first) count

-- 1 if the free frames are at least as many as the absent pages of the range, else 0
unfoldable pub yes_of : ℕ → List ℕ → List ℕ → ℕ → BlockIter → ℕ
yes_of L pages used n range = pick (leb (absent_in pages n (range.begin / L) (count_of L range)) (free_count used)) 1 0

unfoldable pub forecast_answer : ℕ → List ℕ → List ℕ → List ℕ → ℕ → ℕ → ℕ → Answer
forecast_answer L nodes pages used n offset len =
    pick (contains_of L (node_of nodes n) offset len) (Ok (yes_of L pages used n (iter_of offset (offset + len)))) (Err OutOfRange)

abbrev pub forecast : ℕ → Pool → ℕ → ℕ → ℕ → Outcome Answer
forecast L p object offset len =
    on_object L p object (refused p [] []) (λ n. saying (forecast_answer L p.nodes p.pages p.used n offset len) p)
