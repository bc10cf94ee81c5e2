pub mod Spots  -- entries and where they stand
pub mod Table  -- an entry written: one slot changes
pub mod Rows  -- a sound table of entries, with an entry taken out or put in
pub mod Frames  -- the lowest free frame taken; how many are free
pub mod Bytes  -- bytes of a frame cleared or copied
pub mod Sides  -- the two children of a hidden node
pub mod Ok  -- what a lookup works on
pub mod Chain  -- no chain of parents is longer than 64
pub mod Base  -- a sound table of nodes, whatever its windows
pub mod Loose  -- a frame on its way to an entry
pub mod Leaves  -- a leaf isn't hidden
pub mod Taken  -- a lookup for writing takes what the walk counts
pub mod Exact  -- so on every sound pool it takes exactly `need` frames
pub mod Served  -- a node that serves its entry keeps a pool sound
pub mod Walk  -- what the walk alone tells; it ends in time
pub mod Sound  -- a lookup keeps a pool sound
pub mod Quiet  -- a lookup for reading takes nothing, tells nothing and answers
pub mod Shown  -- a leaf's page is read from the entry that the walk ends at
