-- The files on the count of empty packets.
pub mod CountWork
pub mod CountMoves
