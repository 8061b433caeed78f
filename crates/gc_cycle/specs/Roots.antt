-- The scan of a section's roots.
pub use Rattle.tracer.specs.Roots.{root_marked, roots_scanned, shows_root}
