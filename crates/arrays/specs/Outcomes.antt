-- What an accepted read, write or commit of a private array answers and leaves. Each page of a range is counted from 0, in order.
use Rattle.std.specs.Prelude.{◌≡◌, List, ◌⊎◌, ℕ, ◌+◌, ◌-◌, ◌*◌, ◌/◌, ◌%◌, ◌≤◌, ◌<◌, length, get_or, Ok, Err}
use Rattle.outcome.specs.Answers.{Answer}
use Rattle.tables.specs.Pool.{Pool}
use Rattle.frames.specs.Frames.{free_count}
use Rattle.outcome.specs.declared.answer.Refusal.TheVariants.{NoMemory}
use Rattle.outcome.specs.Outcome.{Outcome}
use Rattle.isolation.specs.Private.{Private}
use Rattle.arrays.specs.Arrays.{write_array, touched, needs}

-- the nodes, the mappings and the head stay
pub record Stays (p q : Pool) : Type 0 where
  pub nodes : q.nodes ≡ p.nodes
  pub mappings : q.mappings ≡ p.mappings
  pub head : q.head ≡ p.head

-- a read gives the array's bytes, and takes no frame; a page may move
pub record Reads (L : ℕ) (A : ℕ → ℕ → ℕ → ℕ) (p : Pool) (n offset : ℕ) (buf : List ℕ) (r : Outcome Answer) : Type 0 where
  pub answer : r.answer ≡ Ok 0
  pub private : Private L A r.pool
  pub stays : Stays p r.pool
  pub used : r.pool.used ≡ p.used
  pub memory : r.pool.memory ≡ p.memory
  pub size : length r.buf ≡ length buf
  pub bytes : (j : ℕ) → j < length buf → get_or r.buf j 0 ≡ A n ((offset + j) / L) ((offset + j) % L)

-- the pages from `first` on need no more frames than are free: they are taken, and the call is done
pub record Granted (p : Pool) (n first pages value : ℕ) (r : Outcome Answer) : Type 0 where
  pub answer : r.answer ≡ Ok value
  pub done : r.done ≡ value
  pub enough : needs p.nodes p.pages n first pages ≤ free_count p.used
  pub taken : r.taken ≡ needs p.nodes p.pages n first pages

-- they need more: all free frames are taken, and the call ends at the first page for which there are too few
pub record Short (p : Pool) (n first pages : ℕ) (doneBy : ℕ → ℕ) (r : Outcome Answer) : Type 0 where
  pub answer : r.answer ≡ Err NoMemory
  pub short : free_count p.used < needs p.nodes p.pages n first pages
  pub page : ℕ
  pub among : page < pages
  pub before : needs p.nodes p.pages n first page ≤ free_count p.used
  pub here : free_count p.used < needs p.nodes p.pages n first (page + 1)
  pub done : r.done ≡ doneBy page
  pub taken : r.taken ≡ free_count p.used
  pub none : free_count r.pool.used ≡ 0

-- a commit changes no array
pub record Commits (L : ℕ) (A : ℕ → ℕ → ℕ → ℕ) (p : Pool) (n offset len : ℕ) (r : Outcome Answer) : Type 0 where
  pub private : Private L A r.pool
  pub stays : Stays p r.pool
  pub taken : r.taken ≡ free_count p.used - free_count r.pool.used
  pub ends : Granted p n (offset / L) (len / L) 0 r ⊎ Short p n (offset / L) (len / L) (λ page. 0) r

-- a write changes the object's own bytes, from the offset on as many as it says; a refused one has done the bytes of the pages before the one
-- for which there were too few frames
pub record Writes (L : ℕ) (A : ℕ → ℕ → ℕ → ℕ) (p : Pool) (n offset : ℕ) (bytes : List ℕ) (r : Outcome Answer) : Type 0 where
  pub private : Private L (write_array L A n offset bytes r.done) r.pool
  pub stays : Stays p r.pool
  pub taken : r.taken ≡ free_count p.used - free_count r.pool.used
  pub ends : Granted p n (offset / L) (touched L offset (length bytes)) (length bytes) r
      ⊎ ((r.done < length bytes) × Short p n (offset / L) (touched L offset (length bytes)) (λ page. (offset / L + page) * L - offset) r)
