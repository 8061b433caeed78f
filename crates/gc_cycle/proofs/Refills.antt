-- A mutator on its way to a cache: what it claims, pays and answers.
pub mod KnownFull
pub mod Retired
pub mod Answered
pub mod OneCycle
pub mod Collected
