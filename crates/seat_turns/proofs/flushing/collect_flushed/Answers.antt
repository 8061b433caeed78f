use Rattle.std.proofs.Common.{◌≡◌, ◌∙◌, ap, true}
use Rattle.std.proofs.lemmas.Result.{IfErr-weaker, IfOk-weaker}
use Rattle.gc_table.specs.Seats.{view_of}
use Rattle.gc_table.specs.declared.view.View.{View}
use Rattle.seat_turns.proofs.Leaving.{leaves-join}
use Rattle.gc_table.proofs.Running.{ran-events}
use Rattle.gc_table.specs.Log.{events}
use Rattle.gc_cycle.specs.Cycles.{collects}
use Rattle.gc_cycle.specs.Sorts.{begins_exactly, ends_cycle}
use Rattle.gc_cycle.proofs.Sequences.{followed-later}
use Rattle.seat_turns.proofs.flushing.collect_flushed.Goals as goal

pub flush_turn-requires : goal.flush_turn-requires
flush_turn-requires g c = record { holds = c.requires.turn.holds }

pub collect_turn-requires : goal.collect_turn-requires
collect_turn-requires g c = record { turn = c.flush_turn.ensures.turn c.requires.turn.phase }

pub returns : goal.returns
returns g c =
    let u : View = view_of c.args.seat.now in
    let v : View = view_of c.flush_turn.new.seat in
    let w : View = view_of c.collect_turn.new.seat in
    let f = c.flush_turn.ensures in
    let p = c.collect_turn.ensures in
    let later : collects (events v w) ≡ true → collects (events u w) ≡ true =
    λ e. ap collects (ran-events u v w f.flushes.ran p.leaves.ran) ∙ followed-later begins_exactly ends_cycle (events u v) (events v w) e in
    record {
      ok = IfOk-weaker c.collect_turn.result _ _ (λ _ k. (k.0, later k.1)) p.ok;
      err = p.err;
      same = p.same ∙ f.same;
      leaves = leaves-join u v w f.leaves p.leaves;
      collects = IfOk-weaker c.collect_turn.result _ _ (λ _ k. record { flushed = v; flushes = f.flushes; later = k }) p.collects;
      none = IfErr-weaker c.collect_turn.result _ _ (λ _ k. record { flushed = v; flushes = f.flushes; later = k }) p.none;
    }
