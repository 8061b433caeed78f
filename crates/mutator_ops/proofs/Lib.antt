pub mod Creating
pub mod Few
pub mod Holdings
pub mod Knowing
mod ShareCreating
mod Stepping
pub mod Storing
pub mod Walking
pub mod Upgraded
pub mod WeakTaken
pub mod Flushed
