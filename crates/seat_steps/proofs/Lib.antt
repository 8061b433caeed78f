mod Amounts
mod Answered
mod AtTurn
mod Counted
mod Dying
pub mod Few
mod LookedAt
pub mod Places
mod ReadFull
mod Refilled
mod SinceAsked
mod Sparing
mod Stages
mod Undrawn
mod Paced
mod PaidCounts
mod Doing
mod Filled
mod Gates
mod Helped
pub mod Found
pub mod Searched
pub mod Stamped
pub mod Taken
mod Known
mod Entered
mod Received
pub mod Whoever
