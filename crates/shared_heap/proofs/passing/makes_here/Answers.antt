use Rattle.std.proofs.Common.{Option, subst}
use Rattle.std.specs.Prelude.{IfSome}
use Rattle.alloc_cache.specs.Caching.{IsCached}
use Rattle.alloc_cache.specs.declared.cache.Cache.{Cache}
use Rattle.gc_table.specs.Seats.{view_of}
use Rattle.shared_heap.proofs.passing.makes_here.Goals as goal

pub make_shared_in-requires-clause-cache : goal.make_shared_in-requires-clause-cache
make_shared_in-requires-clause-cache c = subst (λ (o : Option Cache). IfSome o (λ k. IsCached k (view_of c.args.seat.now))) c.in-Ok.ensures.ok.0 c.cache_of.ensures.some
