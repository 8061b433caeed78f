-- What follows from the rule.
pub mod QuietReading
pub mod Closing
pub mod SomePasses
pub mod WeakKept
pub mod WeakFound
pub mod WeakTold
