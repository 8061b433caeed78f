mod Joined
mod Ended
mod Own
