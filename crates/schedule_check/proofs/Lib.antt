mod Rows
mod PlayedRows
pub mod Lines
pub mod Short
pub mod Accepting
