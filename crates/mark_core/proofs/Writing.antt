-- Which step writes which region, and in which range.
pub mod Slices
pub mod Places
pub mod Frames
pub mod Ranges
pub mod Writes
pub mod RegionWrites
pub mod SeatBoundsKept
pub mod CellBits
