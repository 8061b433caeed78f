use Rattle.std.proofs.Common.{ℕ, ◌≡◌, Option, None}
use Rattle.gc_table.specs.Seats.{view_of}
use Rattle.gc_table.specs.declared.view.View.{View}
use Rattle.alloc_cache.specs.declared.cache.Cache.{Cache}
use Rattle.cache_refills.specs.Trying.{PassesTo}
use Rattle.cache_refills.specs.declared.trying.Pass.{Pass}
use Rattle.cache_refills.specs.declared.trying.Pass.TheVariants as passes
use Rattle.test_collector.proofs.tests.stepping.passes_point.Goals as goal

-- a mutator that came without a cache has none
none-kept : (p : Pass) (kept : Option Cache) (done : ℕ) (v w : View) → PassesTo p None kept done v w → kept ≡ None
none-kept passes.Going kept done v w h = h.same
none-kept passes.Full kept done v w h = h.none
none-kept passes.Out kept done v w h = h.none

pub spends_none-requires : goal.spends_none-requires
spends_none-requires c = none-kept c.try_safe_point-pass.result c.try_safe_point-pass.new.cache 0 (view_of c.args.seat.now) (view_of c.try_safe_point-pass.new.seat) c.try_safe_point-pass.ensures.passes
