-- the lowest of a pile
pub mod Lowest
-- levels of code, and the labels that they are
pub mod Levels
-- words between floors
pub mod Floors
-- the ends of functions and branches are steps of the definition
pub mod Leaving
-- branches are steps of the definition
pub mod Branching
-- entering constructs, calls, and all control instructions are steps of the definition
pub mod Entering
pub mod Calling
pub mod Jumps
pub mod Controls
-- the locals and the arguments of a call
pub mod Arguments
-- the words of a configuration, and a step of a run
pub mod Counting
pub mod Kept
pub mod Advanced
-- constants that are put, and how a run begins
pub mod Constants
pub mod First
-- runs of the definition, and what is carried out in them
pub mod Running
pub mod Carried
