-- Lemmas on the table of operations.
pub mod Between
pub mod Rows
