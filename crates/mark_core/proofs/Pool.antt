-- The files on the pools of packets.
pub mod PoolSlots
pub mod PoolPlaces
pub mod PoolMoves
pub mod PoolLengths
pub mod PoolsKept
pub mod PoolStart
