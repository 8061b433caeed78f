use Rattle.std.proofs.Common.{refl, sym, ap, ◌∙◌, arith}
use Rattle.mark_core.specs.declared.kinds.Phase.TheVariants.{Drain, Marking}
use Rattle.gc_table.specs.Seats.{view_of}
use Rattle.gc_table.specs.declared.view.View.{View}
use Rattle.gc_table.specs.Log.{all_steps, events}
use Rattle.gc_table.proofs.Running.{ran-join, ran-only}
use Rattle.gc_cycle.specs.Events.{since_last}
use Rattle.gc_cycle.specs.Finishing.{finishes}
use Rattle.gc_cycle.specs.Sorts.{moves_to}
use Rattle.card_clean.specs.Leaving.{rescans}
use Rattle.sweeper.specs.Freeing.{frees}
use Rattle.gc_cycle.proofs.Ends.Finishes.{cycle-help, cycle-not-full, cycle-once, cycle-ordinary, cycle-total, cycle-unbegun}
use Rattle.gc_cycle.proofs.Ends.Spared.{finish-calm, finish-keeps, finish-position, finish-spares, untold-fills, untold-sees}
use Rattle.gc_cycle.proofs.Sequences.{freed-same}
use Rattle.gc_cycle.proofs.finishing.finish_cycle.Goals as goal

pub returns-clause-ends : goal.returns-clause-ends
returns-clause-ends g c =
    let u : View = view_of c.args.seat.now in
    let v : View = view_of c.begin_drain.new.seat in
    let w : View = view_of c.complete.new.seat in
    let b = c.begin_drain.ensures in
    let r = c.complete.ensures in
    let k = r.completes in
    let begun = b.events Marking c.requires.alone in
    let ran = ran-join u v w b.ran k.ran in
    let only = ran-only finishes u v w b.ran k.ran (ap (all_steps finishes) begun) k.only in
    let untold = cycle-not-full u v w b.ran begun k in
    let fills = untold-fills (events u w) untold in
    let rescanned = cycle-total u v w b.ran begun k rescans (λ s. refl) (λ s. refl) in
    let freed = cycle-total u v w b.ran begun k frees (λ s. refl) (λ s. refl) in
    record {
      alone = c.requires.alone.rest;
      idle = k.alone;
      keeps = finish-keeps u w ran only;
      position = finish-position u w ran only;
      ran = ran;
      only = only;
      drains = record { begun = v; begins = (b.ran, ap (since_last (moves_to Drain)) begun); drains = r.drains };
      help = cycle-help u v w b.ran begun k;
      once = cycle-once u v w b.ran begun k;
      spares = finish-spares u w only fills;
      not_full = fills;
      unbegun = cycle-unbegun u v w b.ran begun k;
      calm = finish-calm u w only;
      going = untold-sees (events u w) untold;
      end = r.end;
      rescanned = let n = r.rescanned in omega (arith, rescanned, n);
      freed = r.freed ∙ (sym (freed-same (events v w) v) ∙ (sym freed ∙ freed-same (events u w) u));
    }

pub returns-clause-ordinary : goal.returns-clause-ordinary
returns-clause-ordinary g c =
    let b = c.begin_drain.ensures in cycle-ordinary (view_of c.args.seat.now) (view_of c.begin_drain.new.seat) (view_of c.complete.new.seat) b.ran (b.events Marking c.requires.alone) c.complete.ensures.completes
