mod Counting
mod Dealt
pub mod Deaths
pub mod Finding
mod Keeping
pub mod Logs
mod Lost
mod Once
mod RootFields
pub mod RootRead
mod Rooted
mod Rooting
pub mod Stamped
mod Telling
mod Passed
