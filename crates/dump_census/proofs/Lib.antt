pub mod Found
pub mod Rounding
pub mod Leveling
pub mod Tally
pub mod Adding
