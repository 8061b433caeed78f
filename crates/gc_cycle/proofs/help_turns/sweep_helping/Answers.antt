use Rattle.std.proofs.Common.{ap, inr, sym, ◌∙◌, ◌≡◌, ◌≤◌, ◌+◌, ◌*◌, length, subst, true}
use Rattle.std.proofs.lemmas.Bool.{and_from}
use Rattle.mark_core.specs.Layout.{block_count}
use Rattle.mark_core.specs.Seats.{saw}
use Rattle.mark_core.specs.declared.kinds.Phase.TheVariants.{Sweep}
use Rattle.mark_core.specs.declared.kinds.Shape.{Shape}
use Rattle.mark_core.specs.declared.seat.SeatState.{SeatState}
use Rattle.gc_table.specs.Log.{events}
use Rattle.gc_table.specs.Seats.{view_of}
use Rattle.gc_table.specs.declared.view.View.{View}
use Rattle.packet_pools.specs.Counts.{count_of}
use Rattle.packet_pools.specs.Seeking.{some_event}
use Rattle.gc_cycle.specs.Sorts.{draws_block, sees_last_block}
use Rattle.gc_cycle.proofs.OpenSteps.{swept-nothing}
use Rattle.gc_cycle.proofs.Stops.Beside.{sweeps-beside}
use Rattle.gc_cycle.proofs.Stops.OutAndIn.{is-done}
use Rattle.gc_cycle.proofs.help_turns.sweep_helping.Goals as goal

pub sweep_some-requires-clause-sweeps : goal.sweep_some-requires-clause-sweeps
sweep_some-requires-clause-sweeps c = inr (and_from _ _ c.requires.seat.1.admitted (ap (λ o. saw o Sweep) c.requires.sweep))

pub sweep_some-requires-clause-block : goal.sweep_some-requires-clause-block
sweep_some-requires-clause-block c = (is-done (view_of c.args.seat.now) c.requires.seat.1.rest).block

pub returns : goal.returns
returns c =
    let v : View = view_of c.args.seat.now in
    let w : View = view_of c.sweep_some.new.seat in
    let e = c.sweep_some.ensures in
    let r = c.sweep_some.result in
    let shape = sym c.requires.seat.0.1 in
    record {
      seat = (e.seat, record { admitted = ap (λ (s : SeatState). s.admitted) e.sweeps.record_is ∙ c.requires.seat.1.admitted; rest = swept-nothing v w e.sweeps c.requires.seat.1.rest });
      stays = sweeps-beside v w e.sweeps.ran e.sweeps.only;
      sweeps =
          record {
            only = e.sweeps.only;
            drawn = subst (λ (sh : Shape). count_of (draws_block (block_count sh)) (events v w) ≡ r.stretches) shape e.stretches.1;
            within = e.stretches.0;
            end = λ n. subst (λ (sh : Shape). some_event (sees_last_block (block_count sh)) (events v w) ≡ true) shape (e.end n).0;
            few = subst (λ (sh : Shape). length (events v w) ≤ c.args.stretches * (2 + 4 * sh.stretch)) shape e.few;
          };
    }
