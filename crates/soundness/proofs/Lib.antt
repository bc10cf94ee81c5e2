pub mod Records  -- what is read of tables of full length: records and rows past the last are blank, and a field is its word
pub mod Nodes  -- what the test of one node means
pub mod Sums  -- sums compared term by term
pub mod Ancestors  -- the test of the parent chains reads each link's 64th parent
pub mod Chains  -- every parent chain ends exactly if no link has a 64th parent: a chain that ends is no longer than there are nodes
pub mod Trees  -- what the tests of the node table mean: the facts of the tree
pub mod Slots  -- an entry's word and what a page holds by it
pub mod Entries  -- what the test of a row of page entries means
pub mod Marks  -- a table of marks tells how often each number stands in a run of words: not at all, once, or more than once
pub mod Frames  -- what the tests of the page entries and of the frames in use mean
pub mod Mapped  -- what the test of the mappings means
pub mod Soundness  -- the test holds exactly if the facts of a sound pool do
