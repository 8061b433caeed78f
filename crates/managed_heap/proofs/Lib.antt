mod Beginning
mod Doing
pub mod FirstSeason
pub mod Runs
pub mod Threads
pub mod Starting
pub mod SeatsGathered
pub mod Ends
pub mod Moments
pub mod Working
