-- What the words stand for, and how each step changes it.
pub mod StandsAgree
pub mod StandsFrame
pub mod StandsSeat
pub mod StandsReads
pub mod StandsRoots
pub mod StandsObjects
pub mod StandsStores
pub mod StandsMaking
pub mod StandsNew
pub mod StandsKept
pub mod StandsStart
pub mod StandsReached
