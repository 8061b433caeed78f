-- The files on exact cycles.
pub mod ExactsDrain
pub mod ExactsMoves
pub mod ExactsKept
