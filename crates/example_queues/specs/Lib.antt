pub mod Fifo
pub mod Lines
pub mod Logs
pub mod Open
pub mod Queueing
pub mod Teams
