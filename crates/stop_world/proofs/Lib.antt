pub mod Standing
pub mod Passing
pub mod Waits
pub mod Flagged
