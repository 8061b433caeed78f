pub mod Counted
pub mod Entries
pub mod Levels
pub mod Rounds
pub mod Surviving
pub mod Text
pub mod Values
