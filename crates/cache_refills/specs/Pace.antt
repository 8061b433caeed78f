-- When a cycle is due, what a mutator owes, and what it pays.
pub mod Quota
pub mod Pacing
pub mod Early
pub mod Others
pub mod Paying
pub mod Deferring
pub mod Payment
pub mod StepBounds
