-- The files on marked cells.
pub mod MarksIdle
pub mod MarksQueues
pub mod MarksHands
pub mod MarksBefore
pub mod MarksComes
