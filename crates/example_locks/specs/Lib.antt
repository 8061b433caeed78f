pub mod Visits
pub mod Guarding
pub mod Pairs
pub mod Open
