pub mod Garbage
pub mod OpenTables
pub mod Calls
