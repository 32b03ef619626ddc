-- What the contracts cite.
pub mod Piles
pub mod Changes
pub mod Calls
pub mod Steps
pub mod Stands
pub mod Advances
