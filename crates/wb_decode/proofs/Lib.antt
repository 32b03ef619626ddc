-- numbers as bytes
pub mod Widths
-- lists of values
pub mod Values
-- reading by the first byte
pub mod Cases
-- the table by ranges of opcodes
pub mod Rows
-- bodies
pub mod Bodies
-- locals, names
pub mod Locals
pub mod Names
-- sections, functions
pub mod Joining
pub mod Pairing
