-- No plain heap sees how the tracers are told that they are dismissed.
use Rattle.std.proofs.Common.{ap, refl, false}
use Rattle.mark_core.specs.Numbers.{done_count}
use Rattle.mark_core.specs.declared.kinds.Step.TheVariants.{AddStat, LeaveStep}
use Rattle.gc_table.specs.Log.{Only, all_steps}
use Rattle.gc_table.specs.Running.{Ran}
use Rattle.gc_table.specs.Seats.{Took}
use Rattle.gc_table.specs.declared.view.View.{View}
use Rattle.gc_table.proofs.History.Log.{only-after, only-more}
use Rattle.gc_table.proofs.Running.{ran-join, ran-only, ran-took}
use Rattle.stop_world.specs.Gates.{Enters, TurnsBack}
use Rattle.gc_cycle.specs.Sparing.{spares_part}
use Rattle.seat_turns.specs.Sharing.{spares_heap}
use Rattle.seat_turns.proofs.Leaving.{spared as part_spares}

pub part-heap : (v w : View) → Only spares_part v w → Only spares_heap v w
part-heap v w o = only-more spares_part spares_heap part_spares v w o

pub told-ran : (u v w x : View) → Ran u v → Took (AddStat done_count 1 false) v w → Ran w x → Ran u x
told-ran u v w x a t b = ran-join u v x a (ran-join v w x (ran-took v w (AddStat done_count 1 false) refl t) b)

pub told-spares : (u v w x : View) → Ran u v → Took (AddStat done_count 1 false) v w → Ran w x → Only spares_heap u v → Only spares_heap w x → Only spares_heap u x
told-spares u v w x a t b o p =
    let tells = ran-took v w (AddStat done_count 1 false) refl t in
    ran-only spares_heap u v x a (ran-join v w x tells b) o (ran-only spares_heap v w x tells b (only-after spares_heap v w (AddStat done_count 1 false) t.0 refl t.1.0) p)

pub enters-spares : (v w : View) → Enters v w → Only spares_heap v w
enters-spares v w e = ap (all_steps spares_heap) e.events

pub leaves-spares : (v w : View) → Took LeaveStep v w → Only spares_heap v w
leaves-spares v w t = only-after spares_heap v w LeaveStep t.0 refl t.1.0

pub back-spares : (v w : View) → TurnsBack v w → Only spares_heap v w
back-spares v w t = ap (all_steps spares_heap) t.events
