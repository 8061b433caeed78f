pub mod Uses
pub mod LongWords
pub mod LeafTurns
pub mod LeafRefused
pub mod LeafWalk
pub mod LeafMatches
pub mod TopWalk
pub mod Refusing
pub mod CommandTable
pub mod Builders
pub mod InRange
mod WordRows
