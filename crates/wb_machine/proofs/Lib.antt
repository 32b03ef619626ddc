-- the function main
pub mod Mains
-- a step and the rest of a run
pub mod Steps
-- what a machine begins with
pub mod First
-- what is known of the inside of a machine
pub mod Truths
