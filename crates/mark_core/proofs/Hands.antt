-- The files on what a seat has in hand.
pub mod HandsCleaning
pub mod HandsRight
pub mod HandsApart
