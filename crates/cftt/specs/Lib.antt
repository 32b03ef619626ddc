pub mod Answers
pub mod Commands
pub mod Correct
pub mod Moments
