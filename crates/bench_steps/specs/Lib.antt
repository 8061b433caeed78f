pub mod Making
pub mod Records
pub mod Standing
pub mod Taken
