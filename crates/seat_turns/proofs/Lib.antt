mod Clearing
mod Coming
pub mod Done
pub mod Held
mod Fulls
mod Passing
pub mod Leaving
mod Naming
pub mod Seats
mod Uncatalogued
pub mod TracerStanding
pub mod Tending
mod Cards
mod CardPass
mod Sparing
mod Tallying
mod Visiting
mod TracerTurns
mod Helped
pub mod Telling
