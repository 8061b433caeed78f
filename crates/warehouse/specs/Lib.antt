pub mod Storing
pub mod Pacing
pub mod Playing
pub mod Commands
pub mod Turns
pub mod Ending
