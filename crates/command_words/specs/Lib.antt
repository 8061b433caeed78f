pub mod Words
pub mod Commands
pub mod Parsing
pub mod Building
