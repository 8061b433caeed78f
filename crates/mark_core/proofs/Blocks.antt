-- The files on blocks that are swept or cleared.
pub mod BlocksWords
pub mod BlocksStopped
pub mod BlocksStretch
pub mod BlocksSteps
pub mod BlocksFacts
