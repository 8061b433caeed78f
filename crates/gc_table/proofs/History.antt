-- The history in the rule, and what it shows of runs.
pub mod Past
pub mod Moments
pub mod PastRows
pub mod OneSeat
pub mod Log
