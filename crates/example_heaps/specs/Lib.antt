pub mod Ending
pub mod Locking
pub mod Pairs
