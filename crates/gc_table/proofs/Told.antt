-- What the rule tells of each section: where its objects lie, its position, its turns, and whether it found the heap full.
pub mod ApartHeaps
pub mod ApartKept
pub mod SeasonsKept
pub mod TurnsKept
pub mod SettledKept
pub mod FullKept
pub mod PlacedLeft
pub mod PlacedKept
