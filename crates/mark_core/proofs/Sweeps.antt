-- The files on the sweep.
pub mod SweepsBounds
pub mod SweepsSpared
pub mod SweepsSteps
pub mod SweepsClosed
pub mod SweepsKept
