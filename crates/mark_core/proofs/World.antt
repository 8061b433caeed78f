-- The files on the number of seats, the stop and the phase.
pub mod WorldMoves
pub mod WorldNumbers
pub mod WorldReading
pub mod WorldLocals
pub mod WorldPhases
pub mod WorldPhaseKept
pub mod WorldPhaseMoves
pub mod WorldKept
pub mod WorldStart
