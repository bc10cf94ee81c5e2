pub mod Laws  -- what the arrays after a birth read
pub mod Words  -- what is read of the node table after one record was written
pub mod First  -- what a search found
pub mod Fresh  -- a fresh pool is sound, and as it has no object, its arrays are any
pub mod Origin  -- a free node becomes an object without parent: the facts of a sound pool are kept
pub mod New  -- new: the pool stays sound, the new object reads zeros, and every other object what it read
pub mod Places  -- what is read of the list of mappings after one was written, or taken out
pub mod Listed  -- the list of mappings stays sound as one is appended or removed
pub mod Remap  -- append_mapping and remove_mapping keep pools sound and every object's array: they change the list of mappings alone
pub mod Cloned  -- a child c is born of the object n: a hidden node x takes the object's place and has the two below it
pub mod Offspring  -- a birth keeps the facts of the tree
pub mod Growth  -- a birth adds the child's start to the window starts, and keeps the other numbers of the tree
pub mod Handed  -- at a birth the object's row of entries goes to the hidden node: the facts of the entries and of the mappings are kept
pub mod Walked  -- walks after a birth: the hidden node has the object's entries, and both leaves below it read what the object read
pub mod Kin  -- the nodes as walks see them before and after a birth
pub mod Windowed  -- a birth keeps the windows whole and inside
pub mod Relinked  -- the record of a node whose link to a child moved to another
pub mod Written  -- the node table as create_child writes it: child, hidden node, its parent, the object
pub mod Moved  -- the page table as create_child writes it: the object's row goes to the hidden node
pub mod Fitting  -- what create_child's tests say of the child's pages
pub mod Child  -- a pool in which a child was born is sound
pub mod Shown  -- a born child reads a part of the object's array, and every other object what it read
pub mod Bear  -- the steps of create_child: refused they leave the pool, done they give birth
pub mod Calls  -- start, new, len, append_mapping, remove_mapping, forecast and create_child leave a sound pool sound, whatever they answer
pub mod Arrays  -- the same calls keep every object's array; a new object reads zeros, and a child a part of its object's array
