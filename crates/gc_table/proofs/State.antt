-- The state that the rule speaks of: at the start, and after each step.
pub mod StateKept
pub mod StateStart
pub mod StateSteps
pub mod StateStores
pub mod StateReads
