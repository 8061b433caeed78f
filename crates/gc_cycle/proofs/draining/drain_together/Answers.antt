use Rattle.std.proofs.Common.{ℕ, ◌≡◌, ◌<◌, ◌+◌, refl, sym, ap, ◌∙◌, arith, subst, true, inr}
use Rattle.std.proofs.lemmas.Bool.{false≢true}
use Rattle.mark_core.specs.Numbers.{empty_offset}
use Rattle.mark_core.specs.declared.kinds.Phase.TheVariants.{Drain}
use Rattle.mark_core.specs.declared.kinds.Shape.{Shape}
use Rattle.mark_core.specs.declared.kinds.Step.{Step}
use Rattle.mark_core.specs.declared.kinds.Step.TheVariants.{CloseStep, SeeHelp}
use Rattle.mark_core.specs.declared.seat.SeatState.{SeatState}
use Rattle.gc_table.specs.Seats.{view_of}
use Rattle.gc_table.specs.declared.view.View.{View}
use Rattle.packet_pools.specs.Seeking.{some_event}
use Rattle.stop_world.specs.Waiting.{closes}
use Rattle.gc_table.specs.Log.{events}
use Rattle.gc_table.proofs.Noticing.{alone-phase}
use Rattle.card_clean.specs.DirtyCards.{CleansRound}
use Rattle.card_clean.specs.Leaving.{rescans}
use Rattle.gc_cycle.specs.Finishing.{IsOpen}
use Rattle.gc_cycle.specs.Sorts.{sees_all_empty}
use Rattle.gc_cycle.specs.Standing.{is_at_rest}
use Rattle.gc_cycle.proofs.Ends.Completing.{total-run}
use Rattle.gc_cycle.proofs.Turns.{has-traced}
use Rattle.gc_cycle.proofs.Stops.Opened.{closed, open-part, open-total, opened}
use Rattle.gc_cycle.proofs.Stops.Unopened.{openable}
use Rattle.gc_cycle.proofs.Traced.{drains-on, drains-rest, drains-trace, traced-open}
use Rattle.gc_cycle.proofs.draining.drain_together.Goals as goal

closes-none : (s : SeatState) (step : Step) (n : ℕ) → closes step ≡ true → rescans s step n ≡ 0
closes-none s CloseStep n e = refl
closes-none s SeeHelp n e = refl
closes-none s step n e = absurd (false≢true e)

pub open_help-requires-clause-openable : goal.open_help-requires-clause-openable
open_help-requires-clause-openable g c = openable Drain (view_of c.args.seat.now) c.args.seat.now.possible c.requires.alone refl

pub clean_dirty_round-rescanned-requires-clause-seat : goal.clean_dirty_round-rescanned-requires-clause-seat
clean_dirty_round-rescanned-requires-clause-seat g c =
    let v : View = view_of c.args.seat.now in
    let w : View = view_of c.open_help.new.seat in
    let o = c.open_help.ensures in
    (o.seat, drains-trace w (inr (opened Drain v w c.requires.alone o.step (o.phase Drain (alone-phase Drain v c.requires.alone.alone)))))

pub clean_dirty_round-rescanned-requires-clause-rest : goal.clean_dirty_round-rescanned-requires-clause-rest
clean_dirty_round-rescanned-requires-clause-rest g c =
    let v : View = view_of c.args.seat.now in
    let w : View = view_of c.open_help.new.seat in
    let o = c.open_help.ensures in
    ap (λ (sh : Shape). is_at_rest sh w.state) (sym o.seat.1) ∙ drains-rest w (inr (opened Drain v w c.requires.alone o.step (o.phase Drain (alone-phase Drain v c.requires.alone.alone))))

pub scan_all_roots-requires-clause-drains : goal.scan_all_roots-requires-clause-drains
scan_all_roots-requires-clause-drains g c =
    let v : View = view_of c.args.seat.now in
    let w : View = view_of c.open_help.new.seat in
    let o = c.open_help.ensures in
    drains-on w (view_of c.clean_dirty_round-rescanned.new.seat) (inr (opened Drain v w c.requires.alone o.step (o.phase Drain (alone-phase Drain v c.requires.alone.alone)))) c.clean_dirty_round-rescanned.ensures.traced

pub trace_to_end-requires-clause-drains : goal.trace_to_end-requires-clause-drains
trace_to_end-requires-clause-drains g c =
    let v : View = view_of c.args.seat.now in
    let w : View = view_of c.open_help.new.seat in
    let x : View = view_of c.clean_dirty_round-rescanned.new.seat in
    let o = c.open_help.ensures in
    drains-on x (view_of c.scan_all_roots.new.seat) (drains-on w x (inr (opened Drain v w c.requires.alone o.step (o.phase Drain (alone-phase Drain v c.requires.alone.alone)))) c.clean_dirty_round-rescanned.ensures.traced) c.scan_all_roots.ensures.traced

pub returns-clause-rescanned : goal.returns-clause-rescanned
returns-clause-rescanned g c =
    let v : View = view_of c.args.seat.now in
    let w : View = view_of c.open_help.new.seat in
    let x : View = view_of c.clean_dirty_round-rescanned.new.seat in
    let y : View = view_of c.scan_all_roots.new.seat in
    let z : View = view_of c.trace_to_end.new.seat in
    let t1 = c.clean_dirty_round-rescanned.ensures.traced in
    let t2 = c.scan_all_roots.ensures.traced in
    let t3 = c.trace_to_end.ensures.traced in
    let t23 = has-traced x y z t2 t3 in
    let q = c.close_help.ensures in
    let all = open-total rescans (λ s n. refl) closes-none v w z (view_of c.close_help.new.seat) c.open_help.ensures.step (has-traced w x z t1 t23).ran q.ran q.only in
    let one = total-run rescans w x z t1.ran t23.ran in
    let two = total-run rescans x y z t2.ran t3.ran in
    let a = c.clean_dirty_round-rescanned.ensures.rescanned in
    let b = c.scan_all_roots.ensures.rescanned in
    let d = c.trace_to_end.ensures.rescanned in
    omega (arith, all, one, two, a, b, d)

pub returns-clause-drains : goal.returns-clause-drains
returns-clause-drains g c =
    let v : View = view_of c.args.seat.now in
    let w : View = view_of c.open_help.new.seat in
    let x : View = view_of c.clean_dirty_round-rescanned.new.seat in
    let y : View = view_of c.scan_all_roots.new.seat in
    let z : View = view_of c.trace_to_end.new.seat in
    let q : View = view_of c.close_help.new.seat in
    let h = c.open_help.ensures in
    let t1 = c.clean_dirty_round-rescanned.ensures in
    let t2 = c.scan_all_roots.ensures in
    let t3 = c.trace_to_end.ensures in
    let e = c.close_help.ensures in
    let let_in : IsOpen Drain w = opened Drain v w c.requires.alone h.step (h.phase Drain (alone-phase Drain v c.requires.alone.alone)) in
    let o = traced-open w z let_in (has-traced w x z t1.traced (has-traced x y z t2.traced t3.traced)) in
    record {
      let_in = w;
      cleaned = x;
      rooted = y;
      traced = z;
      part = open-part Drain v w z q h.step o.ran o.only e.ran e.only (closed Drain z q o.still e.ran e.state e.phase);
      opens = h.step;
      cleans = t1.traced.ran;
      cards = (c.clean_dirty_round-rescanned.result, subst (λ (sh : Shape). CleansRound sh c.clean_dirty_round-rescanned.result (events w x)) (sym c.requires.seat.1) t1.cleans);
      sees = t2.traced.ran;
      roots = λ s l. t2.roots s (subst (λ (sh : Shape). s < sh.sections) c.requires.seat.1 l);
      traces = t3.traced.ran;
      worked = t3.worked;
      brings = t3.brings;
      emptied = subst (λ (sh : Shape). some_event (sees_all_empty (empty_offset + sh.packets)) (events y z) ≡ true) (sym c.requires.seat.1) t3.empty;
      closes = (e.ran, e.only);
    }
