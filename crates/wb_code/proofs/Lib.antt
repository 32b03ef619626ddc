-- going back over an instruction
pub mod Passed
