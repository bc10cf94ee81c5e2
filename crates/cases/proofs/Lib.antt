pub mod Quick  -- runs on a sound pool, without its test at each call: calls keep the pool sound, and what is left computes
pub mod Cases  -- document 01's worked cases over the definitions, with pages of 4 bytes
pub mod History  -- a history computed by the rules, and the arrays, the deeds and the reads that the definitions of runs make of it
