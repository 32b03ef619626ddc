-- what the rows of the table are
pub mod Opcodes
-- what instructions do to a state is the step of the definition
pub mod Meaning
-- what is left of memory and globals, and whether there is an effect
pub mod Writing
-- what leaves more words than there may be
pub mod Overfull
