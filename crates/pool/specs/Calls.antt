-- The calls start, new and len on a pool of pages of L bytes, refused ones too, and how a call on an object is entered.
use Rattle.std.specs.Prelude.{ℕ, ◌+◌, ◌*◌, ◌&&◌, List, [], leb, ltb, length, get_or, set, replicate, Option, Some, None, Ok, Result, Err}
use Rattle.outcome.specs.Answers.{Answer}
use Rattle.logic.specs.Pick.{pick}
use Rattle.node.specs.Node.{last_owner, leaf_of, origin_node}
use Rattle.outcome.specs.declared.answer.Refusal.{Refusal}
use Rattle.outcome.specs.declared.answer.Refusal.TheVariants.{InvalidArgs, BadPool, NoObject, NoNode}
use Rattle.outcome.specs.Outcome.{Outcome, outcome, reply_of, refused}
use Rattle.tables.specs.Pool.{Pool, pool_of}
use Rattle.tables.specs.Tables.{node_of, with_node, free_node_in}
use Rattle.sound.specs.Sound.{lengths_ok, sound}

-- an answer that sends nothing, and the pool
abbrev pub saying : Answer → Pool → Outcome Answer
saying a p = outcome (reply_of a) p [] []

-- a fresh pool: every node, frame and mapping free, the next owner number 1, the memory as it was
unfoldable pub fresh_pool : Pool → Pool
fresh_pool p =
    pool_of (replicate (length p.nodes) 0) (replicate (length p.pages) 0) (replicate (length p.used) 0)
    (replicate (length p.mappings) 0) (set (replicate (length p.head) 0) 0 1) p.memory

unfoldable pub start : ℕ → Pool → Outcome Answer
start L p = pick (lengths_ok L p) (saying (Ok 0) (fresh_pool p)) (refused p [] [] BadPool)

-- new, 163: the lowest free node becomes an origin, and new_owner_id, 1083, gives its owner
unfoldable pub leaf_at : Pool → ℕ → Option ℕ → Outcome Answer
leaf_at p size (Some i) =
    saying (Ok i)
    (pool_of (with_node p.nodes i (origin_node size (get_or p.head 0 0))) p.pages p.used p.mappings
    (set p.head 0 (get_or p.head 0 0 + 1)) p.memory)
leaf_at p size None = refused p [] [] NoNode

unfoldable pub new_leaf : Pool → ℕ → Outcome Answer
new_leaf p size = pick (leb (get_or p.head 0 0) last_owner) (leaf_at p size (free_node_in p.nodes)) (refused p [] [] NoNode)

unfoldable pub new : ℕ → Pool → ℕ → Outcome Answer
new L p size = pick (sound L p) (pick (leb size 64) (new_leaf p size) (refused p [] [] InvalidArgs)) (refused p [] [] BadPool)

-- the node of an object's number, which is a live leaf: BAD_POOL, then NO_OBJECT
unfoldable pub entered : ℕ → Pool → ℕ → Result ℕ Refusal
entered L p object =
    pick (sound L p) (pick (ltb object 64 && leaf_of (node_of p.nodes object)) (Ok object) (Err NoObject)) (Err BadPool)

unfoldable pub on_entered : {A : Type 0} → (Refusal → A) → (ℕ → A) → Result ℕ Refusal → A
on_entered refuse does (Ok n) = does n
on_entered refuse does (Err r) = refuse r

-- a call on an object: entered, then what the call does with the object's node
unfoldable pub on_object : {A : Type 0} → ℕ → Pool → ℕ → (Refusal → A) → (ℕ → A) → A
on_object L p object refuse does = on_entered refuse does (entered L p object)

-- len, 272, in bytes
unfoldable pub len_of : ℕ → List ℕ → ℕ → Answer
len_of L nodes n = Ok ((node_of nodes n).size * L)

abbrev pub len : ℕ → Pool → ℕ → Outcome Answer
len L p object = on_object L p object (refused p [] []) (λ n. saying (len_of L p.nodes n) p)
