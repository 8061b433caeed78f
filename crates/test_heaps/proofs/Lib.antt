pub mod FirstSeason
pub mod LastMoves
