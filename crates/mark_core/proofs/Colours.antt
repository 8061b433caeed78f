-- The files on the colour rule.
pub mod ColoursQueued
pub mod ColoursHands
pub mod ColoursWaits
pub mod ColoursUnpublished
pub mod ColoursFields
pub mod ColoursScanned
pub mod ColoursPublished
