pub mod Trees
pub mod Standing
pub mod Counts
pub mod Playing
pub mod Words
