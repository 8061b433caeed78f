pub mod Rows
pub mod Seats
pub mod States
pub mod Turns
pub mod Excesses
pub mod Reading
pub mod Telling
