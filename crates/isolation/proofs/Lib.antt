pub mod Pass  -- walks across one step that passes an entry down from a parent to its child
pub mod Wood  -- the table of nodes in a sound pool whose windows are whole, as a lookup relies on it
pub mod State  -- what a lookup changes, as one state; and the step that passes a frame from a parent's entry to its child's
pub mod Done  -- what a node's answer to its child means, for every answer
pub mod Then  -- a node's answer to its child, where the node was itself handed the frame just before
pub mod Move  -- halfway down: the entry above a page is taken out, or copied into a free frame and split
pub mod Hand  -- a hidden node that has the page serves its child: the entry moves down, or is copied and split, or is shared
pub mod Ask  -- the lookup lemma for a node that its child asks, by the exits of lookup
pub mod Fresh  -- the step that gives a cleared frame to a leaf's page that nothing reaches
pub mod Leaf  -- a leaf's own lookup: every leaf reads as before, and a frame given for writing is the leaf's own
pub mod Look  -- page lookup keeps every object's array, and answers what the array says
pub mod Put  -- bytes put into a frame that an object holds change that object's page alone
pub mod Needs  -- what a lookup of one page leaves of the needs of the object's other pages; and when it is granted
pub mod Cases  -- needs computed on small tables: a guard against a wrong rule
