pub mod SourceRuns
pub mod ModuleRuns
pub mod Alike
pub mod Valid
pub mod Encodable
pub mod Sums
pub mod RunEnds
