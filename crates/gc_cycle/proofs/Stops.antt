-- A stop: how it is asked for, waited for, opened to helpers and left.
pub mod Opened
pub mod OutAndIn
pub mod Outside
pub mod Popping
pub mod FlagRaised
pub mod Waits
pub mod Admitted
pub mod HelperDrains
pub mod Unopened
pub mod Beside
pub mod Spared
