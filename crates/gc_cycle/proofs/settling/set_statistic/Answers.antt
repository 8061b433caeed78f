use Rattle.std.proofs.Common.{◌≡◌, ◌+◌, ◌%◌, [], ◌∷◌, false, subst, arith}
use Rattle.gc_table.specs.Seats.{view_of}
use Rattle.gc_table.specs.declared.view.View.{View}
use Rattle.gc_cycle.specs.Settling.{Sets}
use Rattle.gc_cycle.proofs.Ends.Sets.{may-add, may-clear, sets-add, sets-clear, sets-join}
use Rattle.mark_core.specs.declared.kinds.Step.TheVariants.{AddStat, Reset}
use Rattle.gc_cycle.proofs.Changes.{by-join, add-changes, reset-changes}
use Rattle.gc_cycle.proofs.Few.{few-after, few-join}
use Rattle.gc_cycle.proofs.settling.set_statistic.Goals as goal

pub reset-requires-clause-may : goal.reset-requires-clause-may
reset-requires-clause-may c = may-clear c.args.which (view_of c.args.seat.now) c.requires.which.1 c.requires.alone

pub add_stat-requires-clause-may : goal.add_stat-requires-clause-may
add_stat-requires-clause-may c =
    let s = sets-clear c.args.which (view_of c.args.seat.now) (view_of c.reset.new.seat) c.reset.ensures.view c.requires.alone in
    may-add c.args.which c.args.number (view_of c.reset.new.seat) s.part.alone.rest c.requires.which.0 c.requires.which.1

pub returns-clause-sets : goal.returns-clause-sets
returns-clause-sets c =
    let u : View = view_of c.args.seat.now in
    let v : View = view_of c.reset.new.seat in
    let w : View = view_of c.add_stat.new.seat in
    let which = c.args.which in
    let number = c.args.number in
    let s = sets-clear which u v c.reset.ensures.view c.requires.alone in
    let t = sets-add which number v w 0 c.requires.which.1 c.add_stat.ensures.view s.part.alone s.known in
    let fits = c.ranges.number.fits in
    let same : (0 + number) % 18446744073709551616 ≡ number = omega (arith, fits) in
    sets-join which 0 number u v w s (subst (λ n. Sets which n v w) same t)

pub returns-clause-numbers : goal.returns-clause-numbers
returns-clause-numbers c =
    let u : View = view_of c.args.seat.now in
    let v : View = view_of c.reset.new.seat in
    let w : View = view_of c.add_stat.new.seat in
    let which = c.args.which in
    let number = c.args.number in
    by-join (Reset which ∷ []) (AddStat which number false ∷ []) u v w (reset-changes which u v c.reset.ensures.view) (add-changes which number v w c.add_stat.ensures.view)

pub returns-clause-few : goal.returns-clause-few
returns-clause-few c =
    let u : View = view_of c.args.seat.now in
    let v : View = view_of c.reset.new.seat in
    let w : View = view_of c.add_stat.new.seat in
    let a = c.add_stat.ensures.view in
    few-join 1 1 u v w (reset-changes c.args.which u v c.reset.ensures.view).ran (add-changes c.args.which c.args.number v w a).ran (few-after u v (Reset c.args.which) 0 c.reset.ensures.view) (few-after v w (AddStat c.args.which c.args.number false) a.0 a.1.0)
