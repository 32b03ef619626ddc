-- What the public contracts cite.
pub mod Model
pub mod Ends
pub mod Opening
-- What the contracts of private functions cite.
pub mod Entry
pub mod Inside
pub mod Steps
