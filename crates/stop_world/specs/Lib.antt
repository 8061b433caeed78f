pub mod Gates
pub mod StopRecords
pub mod Waiting
