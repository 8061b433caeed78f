-- The files on blocks that were swept.
pub mod SweptKept
pub mod SweptStart
pub mod SweptDone
