use Rattle.std.proofs.Common.{refl, subst, Option}
use Rattle.std.specs.Prelude.{IfSome}
use Rattle.alloc_cache.specs.Caching.{IsCached}
use Rattle.alloc_cache.specs.declared.cache.Cache.{Cache}
use Rattle.gc_table.specs.Seats.{view_of}
use Rattle.gc_table.specs.declared.view.View.{View}
use Rattle.seat_steps.proofs.Doing.{makes-after}
use Rattle.seat_steps.proofs.Found.{lacked-before}
use Rattle.seat_steps.proofs.Paced.{carries-keeps, keeps-last}
use Rattle.seat_steps.proofs.Searched.{arrives-leaves, had-free, makes-own, misses, missed}
use Rattle.seat_steps.proofs.seeking.make_here.Goals as goal

pub returns-in-Ok-clause-makes : goal.returns-in-Ok-clause-makes
returns-in-Ok-clause-makes c =
    (c.makes.ensures.turn, makes-after _ c.args.v c.args.value c.args.heap.now c.args.seat.now c.pass_once.new.seat c.makes.new.seat refl c.pass_once.ensures.leaves c.pass_once.ensures.same c.makes.ensures.ran c.makes.ensures.made)

pub returns-in-Ok-clause-leaves : goal.returns-in-Ok-clause-leaves
returns-in-Ok-clause-leaves c = λ other. absurd (other refl)

pub returns-in-Ok-clause-found : goal.returns-in-Ok-clause-found
returns-in-Ok-clause-found c =
    let v : View = view_of c.pass_once.new.seat in
    let e = c.in-Ok.ensures in
    makes-own c.args.heap.now c.args.seat.now v (view_of c.makes.new.seat) c.requires.turn.holds.sits c.makes.ensures.ran c.in-Done.ensures.found (had-free c.cache_of.result c.in-Ok.free v c.cache_of.ensures.some e.ok.0 e.ok.1) c.makes.ensures.few
    (keeps-last (view_of c.args.seat.now) v (view_of c.makes.new.seat) (carries-keeps (view_of c.args.seat.now) v c.pass_once.ensures.paces) c.makes.ensures.quiet c.makes.ensures.numbers)

pub returns-in-Err-clause-found : goal.returns-in-Err-clause-found
returns-in-Err-clause-found c =
    let u : View = view_of c.args.seat.now in
    let v : View = view_of c.pass_once.new.seat in
    let p = c.in-Done.ensures.found in
    (p, lacked-before c.cache_of.result c.in-Err.none u v p c.cache_of.ensures.some c.cache_of.ensures.none c.in-Err.ensures.err c.in-Err.ensures.lacks)

pub returns-in_default-clause-makes : goal.returns-in_default-clause-makes
returns-in_default-clause-makes c =
    missed _ c.pass_once.result c.args.heap.now c.args.seat.now c.pass_once.new.seat (arrives-leaves c.pass_once.result c.args.heap.now c.pass_once.new.seat c.in_default.not-Done c.pass_once.ensures.arrives) c.pass_once.ensures.same

pub returns-in_default-clause-found : goal.returns-in_default-clause-found
returns-in_default-clause-found c = misses c.pass_once.result (view_of c.args.seat.now) (view_of c.pass_once.new.seat) c.in_default.not-Done c.pass_once.ensures.found

pub makes-requires-clause-turn : goal.makes-requires-clause-turn
makes-requires-clause-turn c = c.in-Done.ensures.arrives

pub makes-requires-clause-cache : goal.makes-requires-clause-cache
makes-requires-clause-cache c = subst (λ (o : Option Cache). IfSome o (λ k. IsCached k (view_of c.pass_once.new.seat))) c.in-Ok.ensures.ok.0 c.cache_of.ensures.some
