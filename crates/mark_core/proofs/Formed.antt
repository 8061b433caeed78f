-- The files on words and records in range.
pub mod FormedSlots
pub mod FormedGrasps
pub mod FormedSeats
pub mod FormedLearns
pub mod FormedWords
pub mod FormedKept
