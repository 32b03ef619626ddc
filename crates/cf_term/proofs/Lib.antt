pub mod Places
pub mod Rebuilt
pub mod Renaming
pub mod UnderBinders
pub mod Walked
pub mod Below
pub mod Closed
pub mod Measured
pub mod Compared
pub mod Rooted
pub mod Equal
mod Examples
