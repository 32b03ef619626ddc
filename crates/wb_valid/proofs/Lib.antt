-- what effects mean
mod Meaning
-- which stacks fit what is known of them, and what each instruction makes of it
pub mod Fitting
pub mod Plain
-- typed code up to the end of a construct
pub mod Levels
pub mod Constructs
-- the steps of a body are its typing
pub mod Rests
-- loops over types
pub mod Pops
-- locals by running sums
pub mod LocalTypes
-- rows by opcode
pub mod Opcodes
-- the end of a body
pub mod Bodies
-- scans over parts of one kind
pub mod Scanning
-- names of exports, and validity from all parts
pub mod Kept
pub mod Parts
-- laws
pub mod One
