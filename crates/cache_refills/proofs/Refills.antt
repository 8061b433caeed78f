-- A mutator on its way to a cache: what it claims, pays and answers.
pub mod Payment
pub mod PaidFor
pub mod Early
pub mod Apart
pub mod Paced
pub mod Popping
pub mod Rounds
pub mod Visiting
pub mod Claimed
pub mod RoundsSoFar
pub mod PaysOnly
pub mod Refilled
pub mod Filling
pub mod Passed
pub mod Leaves
pub mod Pieced
pub mod Together
