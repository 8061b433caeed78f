mod Rows
mod Runs
pub mod Owned
