use Rattle.std.proofs.Common.{◌∙◌, Some, ap, subst, sym}
use Rattle.std.proofs.lemmas.Result.{IfOk-weaker}
use Rattle.mark_core.specs.declared.seat.SeatState.{SeatState}
use Rattle.gc_table.specs.Seats.{view_of}
use Rattle.gc_table.specs.declared.view.View.{View}
use Rattle.gc_table.proofs.Running.{ran-join}
use Rattle.gc_cycle.proofs.Refills.Answered.{cached-still}
use Rattle.seat_turns.specs.Standing.{flush_steps}
use Rattle.seat_turns.proofs.Held.{plays-holds}
use Rattle.seat_turns.proofs.Leaving.{leaves-join}
use Rattle.seat_turns.proofs.Seats.{whole-cache}
use Rattle.seat_steps.proofs.Filled.{fills-flushed, tries-first}
use Rattle.seat_steps.proofs.Found.{err-weaker}
use Rattle.seat_steps.proofs.Paced.{carries-flushed, paces-first}
use Rattle.seat_steps.proofs.PaidCounts.{counts-first}
use Rattle.seat_steps.proofs.getting.fill_flushed.Goals as goal

pub flush_turn-requires : goal.flush_turn-requires
flush_turn-requires c = record { holds = c.requires.turn.holds }

pub fill-requires : goal.fill-requires
fill-requires c =
    let f = c.flush_turn.ensures in
    record {
      works = f.works;
      cache = cached-still c.args.cache (view_of c.args.seat.now) (view_of c.flush_turn.new.seat) (ap (λ (s : SeatState). s.cache) f.flushes.state) c.requires.cache;
    }

pub returns : goal.returns
returns c =
    let u : View = view_of c.args.seat.now in
    let v : View = view_of c.flush_turn.new.seat in
    let w : View = view_of c.fill.new.seat in
    let f = c.flush_turn.ensures in
    let e = c.fill.ensures in
    let r = f.flushes.ran in
    let k = flush_steps u in
    record {
      ok = IfOk-weaker c.fill.result _ _ (λ free p. (plays-holds c.args.heap.now c.fill.new.seat p.0 (whole-cache (Some free) w p.1), p.1)) e.ok;
      free = e.free;
      err = e.err;
      same = e.same ∙ f.same;
      leaves = leaves-join u v w f.leaves e.leaves;
      ran = ran-join u v w r e.ran;
      besides = IfOk-weaker c.fill.result _ _ (λ free t. (t.0, tries-first k 3 3 t.0 u v w r f.few t.1)) e.besides;
      found = err-weaker c.fill.result _ _ (λ came g. fills-flushed 3 k came u v w r f.few e.ran g) e.found;
      pays = counts-first k 3 8 c.args.paid.now c.fill.new.paid u v w r f.few e.pays;
      paces = paces-first u v w (carries-flushed u v f.flushes) e.paces;
    }
