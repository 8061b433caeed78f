pub mod Owned
mod Steps
mod Stopped
mod Between
mod Learning
pub mod Drawing
pub mod CardLooks
mod Rooting
mod Searched
pub mod Leavings
pub mod Takings
pub mod Cleared
pub mod Few
pub mod Staying
pub mod Drawn
pub mod DrainEnds
mod RootReads
pub mod Paying
mod Settling
mod Spilled
pub mod NextCards
