-- The files on references go to cells in use.
pub mod ReferencesRoots
pub mod ReferencesEnv
pub mod ReferencesNow
pub mod ReferencesFields
pub mod ReferencesKept
