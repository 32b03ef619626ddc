pub mod Cases
pub mod Closing
pub mod Decimals
pub mod Judged
pub mod Places
pub mod Ranges
pub mod Refusing
