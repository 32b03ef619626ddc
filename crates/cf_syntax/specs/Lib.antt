pub mod Tokens
pub mod Numbers
pub mod Places
pub mod Source
pub mod Checks
pub mod Refusals
