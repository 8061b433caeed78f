-- The files on used cells.
pub mod UsedKept
pub mod UsedSeats
