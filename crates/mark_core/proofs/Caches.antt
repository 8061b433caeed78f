-- The files on blocks in which cells are made.
pub mod CachesSeat
pub mod CachesClaims
pub mod CachesSteps
pub mod CachesStores
pub mod CachesPublish
pub mod CachesAt
pub mod CachesKept
