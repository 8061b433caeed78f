pub mod Few
pub mod Joined
pub mod Quiet
pub mod OneStep
pub mod Carried
pub mod Hand
pub mod InStop
pub mod Moves
pub mod Moments
pub mod Whole
pub mod Searched
pub mod RootScans
pub mod Recycled
pub mod Emptied
pub mod TraceRows
mod Spills
