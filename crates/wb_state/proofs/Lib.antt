-- numbers that are read and written in halves
pub mod Halves
-- what is left of words
pub mod Cuts
-- a word set in place of another
pub mod Places
