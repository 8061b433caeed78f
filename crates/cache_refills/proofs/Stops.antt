-- A stop: how it is asked for, waited for, opened to helpers and left.
pub mod StopsAgain
pub mod Visits
pub mod StopEnds
pub mod InStops
pub mod InStop
pub mod AfterStop
pub mod Told
