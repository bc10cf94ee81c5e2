pub mod Ranges  -- a range change goes down at most as far as chains go up: 64 steps do what any more do
pub mod Adding  -- notices put where there is room for all of them all stand in the list
pub mod Once  -- notices counted by the places of the mappings list: at most one for each live mapping
pub mod Family  -- nodes below a node: those whose parent chain passes it. Nodes below two children of one node are different ones
pub mod Heard  -- an object's mappings, and the mappings of all leaves below a node, hear of a change at most once each
pub mod Sent  -- a page lookup tells each live mapping at most once: at every node the other child's leaves, and at last its own
pub mod Walk  -- on the way up the parent chain each step tells leaves that no step below tells
pub mod Room  -- no notice is lost: a lookup sends at most one for each live mapping, and a list with room for these takes them all
pub mod Commits  -- commit_page loses no notice, and for reading a page of a live object it is never refused
