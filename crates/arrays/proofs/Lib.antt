pub mod Each  -- what holds before each page and what it leads to hold of a whole run of pages
pub mod Blocks  -- the cut of a range at page boundaries: blocks lie inside their pages, touch one another and end where the range does
pub mod Spent  -- frames taken page by page: so far as many as the pages need, and the pages to come need what they needed
pub mod Close  -- the answer of a call by how its run of pages ended
pub mod Commit  -- a commit of pages keeps every array, and is refused exactly if the pages need more frames than are free
pub mod Bytes  -- the bytes of the arrays after a block of them was written
pub mod Store  -- the bytes of a block stored in its page's frame are the next bytes of the array
pub mod Write  -- a write changes its object's array alone, by the bytes that it has done
pub mod Fill  -- the bytes of a buffer after a block of it was filled
pub mod Read  -- a read gives the bytes of its object's array and changes none
pub mod Called  -- a call on an object of a sound pool: refused by its tests, or it goes on with the object
pub mod Calls  -- the calls read, write and commit on any object and range: what they answer, and that every array is kept but for the bytes written
pub mod Page  -- commit_page keeps every array; it is refused exactly if the page is to be written and needs more frames than are free
pub mod Tested  -- commit_page with what its tests found, and where they hold
pub mod Exact  -- when the calls are done and when they are refused, and that none is ever STOPPED
pub mod Filled  -- a refused read fills no byte, in every pool
pub mod Fits  -- reads, writes and commits of pages keep a sound pool's tables sound, refused or not
pub mod Sound  -- every call keeps a pool sound: read, write, commit and commit_page, on any object and range, refused or not
pub mod Cases  -- a write and a read computed on small tables, with the numbers that the theorems speak of: a guard against a wrong word
pub mod Sending  -- pages one after the other send no more notices than each may send, times the pages, and which these are doesn't depend on the list
pub mod Told  -- the room that write, commit and create_child test is enough: no notice is lost, and no word past the count is written
