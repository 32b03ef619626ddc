pub mod Answers
pub mod Redexes
pub mod Goals
pub mod Bulk
pub mod Scopes
pub mod ScopeFalls
pub mod Writing
