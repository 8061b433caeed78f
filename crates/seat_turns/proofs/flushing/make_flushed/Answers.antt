use Rattle.std.proofs.lemmas.Result.{IfErr-weaker, IfOk-weaker}
use Rattle.gc_table.specs.Seats.{view_of}
use Rattle.gc_table.specs.declared.view.View.{View}
use Rattle.seat_turns.proofs.Leaving.{leaves-join}
use Rattle.std.proofs.Common.{false}
use Rattle.mark_core.specs.declared.kinds.Shape.{Shape}
use Rattle.cache_refills.proofs.Telling.{told-more}
use Rattle.seat_turns.specs.Telling.{TellsFills}
use Rattle.seat_turns.proofs.Telling.{fills-first, flushed-untold}
use Rattle.seat_turns.proofs.flushing.make_flushed.Goals as goal

pub flush_turn-requires : goal.flush_turn-requires
flush_turn-requires g c = record { holds = c.requires.turn.holds }

pub make_shared-requires : goal.make_shared-requires
make_shared-requires g c = record { turn = c.flush_turn.ensures.turn c.requires.turn.phase; shared = c.requires.shared; range = c.requires.range }

pub returns : goal.returns
returns g c =
    let u : View = view_of c.args.seat.now in
    let v : View = view_of c.flush_turn.new.seat in
    let w : View = view_of c.make_shared.new.seat in
    let sh : Shape = c.args.heap.now.shape in
    let f = c.flush_turn.ensures in
    let p = c.make_shared.ensures in
    record {
      ok = IfOk-weaker c.make_shared.result _ _ (λ _ k. (k.0, record { came = k.1.came; leaves = leaves-join u v k.1.came f.leaves k.1.leaves; makes = k.1.makes })) p.ok;
      err = p.err;
      leaves = IfErr-weaker c.make_shared.result _ _ (λ _ k. leaves-join u v w f.leaves k) p.leaves;
      made = IfOk-weaker c.make_shared.result _ _ (λ _ k. record { flushed = v; flushes = f.flushes; later = k }) p.made;
      none = IfErr-weaker c.make_shared.result _ _ (λ e k. record { flushed = v; flushes = f.flushes; later = k }) p.none;
      told = told-more g.W.Watch.hears (λ ns. TellsFills false sh ns v w) (λ ns. TellsFills false sh ns u w) c.args.watch.now c.make_shared.new.watch (λ ns k. fills-first false sh ns u v w (flushed-untold u v f.flushes) k) p.told;
    }
