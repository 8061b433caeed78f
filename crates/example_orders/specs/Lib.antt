pub mod Variables
pub mod Orders
pub mod Open
pub mod Threads
pub mod Fours
pub mod Rounds
