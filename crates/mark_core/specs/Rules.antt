-- The parts of the rule, by what they speak of.
pub mod PacketRules
pub mod WorldRules
pub mod HeapRules
pub mod ColourRules
