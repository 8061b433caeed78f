use Rattle.std.proofs.Common.{sym, ap, ◌∙◌}
use Rattle.mark_core.specs.Seats.{saw}
use Rattle.mark_core.specs.declared.kinds.Phase.TheVariants.{Full}
use Rattle.gc_table.specs.Seats.{view_of}
use Rattle.gc_table.specs.declared.view.View.{View}
use Rattle.std.specs.Prelude.{Some}
use Rattle.gc_cycle.proofs.Refills.KnownFull.{goes-on, mutates-still, not-full}
use Rattle.gc_cycle.proofs.collecting.reads_full.Goals as goal

pub returns-in_default : goal.returns-in_default
returns-in_default c =
    let v : View = view_of c.args.seat.now in
    let w : View = view_of c.read_phase.new.seat in
    let t = c.read_phase.ensures.view in
    let m = c.requires.seat.1 in
    let low = ap (λ p. saw (Some p) Full) (sym t.3) ∙ not-full c.read_phase.result c.in_default.not-Full in
    record {
      seat = (c.read_phase.ensures.seat, mutates-still v w t.0 (t.1, t.2) m);
      read = (t.0, (t.1, t.2));
      full = tt;
      going = λ u r o. goes-on u v w t.0 r o (t.1, t.2) m low;
    }
