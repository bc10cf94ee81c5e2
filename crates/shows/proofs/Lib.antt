pub mod Walk  -- what the walk for reading finds is what page lookup for reading answers, in every sound pool
pub mod Bytes  -- a buffer filled whole is the frame's bytes, or the zero page
pub mod Whole  -- a read of one whole page is one step, and it gives what the walk shows
pub mod Peeks  -- peek shows the bytes that a read of the page gives; it shows none exactly where that read is refused or the zero page isn't L zeros
pub mod Arrays  -- peek shows the page of the object's own array
pub mod Cases  -- a page that a read would move, computed on small tables: a guard against a wrong word
