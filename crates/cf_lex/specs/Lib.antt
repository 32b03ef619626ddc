pub mod Spelling
pub mod Tokens
pub mod Names
pub mod Fronts
pub mod Naming
pub mod Reading
pub mod Lexed
pub mod Laws
