mod Rows
pub mod Due
pub mod Few
pub mod Positions
pub mod Causes
pub mod Refills
pub mod Stops
pub mod Telling
