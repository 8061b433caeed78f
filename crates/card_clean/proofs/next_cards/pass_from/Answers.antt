use Rattle.std.proofs.Common.{arith, ap, ◌∙◌, false, subst, sym}
use Rattle.std.specs.Prelude.{◌==◌}
use Rattle.std.proofs.Math.Nat.{mul-le-mul_right}
use Rattle.mark_core.specs.Cards.{card_cells}
use Rattle.mark_core.specs.Held.{drop_packet, has_free_slot}
use Rattle.mark_core.specs.declared.kinds.Shape.{Shape}
use Rattle.mark_core.specs.declared.seat.SeatState.{SeatState}
use Rattle.gc_table.specs.Log.{events}
use Rattle.gc_table.specs.Seats.{view_of}
use Rattle.gc_table.specs.declared.view.View.{View}
use Rattle.packet_pools.specs.Seeking.{output_pools}
use Rattle.packet_pools.specs.StepBounds.{give_steps, room_left, scan_steps}
use Rattle.packet_pools.specs.declared.search.Search.{Search}
use Rattle.packet_pools.proofs.Counting.{given-moves}
use Rattle.packet_pools.proofs.Exchanged.{drop-with}
use Rattle.packet_pools.proofs.Few.{few-steps, few-sum, given-few}
use Rattle.packet_pools.proofs.RoomLeft.{room-whole}
use Rattle.packet_pools.specs.Tried.{OverflowsLast}
use Rattle.packet_pools.proofs.Overflows.{overflows-begun, overflows-join}
use Rattle.gc_table.proofs.Running.{ran-events}
use Rattle.card_clean.specs.Cleaning.{Cleans}
use Rattle.card_clean.proofs.NextCards.{passed-join, passed-traced}
use Rattle.card_clean.proofs.Takings.{some-free, with-free}
use Rattle.card_clean.proofs.next_cards.pass_from.Goals as goal

pub take_output-requires-clause-free : goal.take_output-requires-clause-free
take_output-requires-clause-free c = some-free (view_of c.args.seat.now).state.held (omega (arith, c.requires.free))

pub clean_card_on-requires-clause-out : goal.clean_card_on-requires-clause-out
clean_card_on-requires-clause-out c =
    let h = c.in-Some.out in
    let t = c.in-Some.ensures.some.0 in
    (t.held, ap (λ (s : SeatState). has_free_slot s.held) t.state ∙ with-free (view_of c.args.seat.now).state.held h.packet h.length c.requires.free)

pub pass_on-left-requires-clause-out : goal.pass_on-left-requires-clause-out
pass_on-left-requires-clause-out c = let f = c.clean_card_on.ensures.out in (f.held, f.free)

pub returns-in_default-clause-only : goal.returns-in_default-clause-only
returns-in_default-clause-only c = passed-traced (view_of c.args.seat.now) (view_of c.take_output.new.seat) c.take_output.ensures.only

pub returns-in_default-clause-none : goal.returns-in_default-clause-none
returns-in_default-clause-none c = let e = c.in_default.ensures.none in (e.1, e.2)

pub returns-in_default-clause-few : goal.returns-in_default-clause-few
returns-in_default-clause-few c = (tt, c.in_default.ensures.few)

pub returns-clause-only : goal.returns-clause-only
returns-clause-only c =
    let v : View = view_of c.args.seat.now in
    let w : View = view_of c.take_output.new.seat in
    let x : View = view_of c.clean_card_on.new.seat in
    let y : View = view_of c.pass_on-left.new.seat in
    let z : View = view_of c.give.new.seat in
    passed-join v w z (passed-traced v w c.take_output.ensures.only)
    (passed-join w x z (passed-traced w x c.clean_card_on.ensures.only) (passed-join x y z c.pass_on-left.ensures.only (passed-traced y z c.give.ensures.only)))

pub returns-clause-held : goal.returns-clause-held
returns-clause-held c =
    let v : View = view_of c.args.seat.now in
    let h = c.in-Some.out in
    let t = c.in-Some.ensures.some.0 in
    ap (λ (s : SeatState). s.held) c.give.ensures.state
    ∙ (c.pass_on-left.ensures.out.slots ∙ (c.clean_card_on.ensures.out.slots ∙ (ap (λ (s : SeatState). drop_packet s.held h.packet) t.state ∙ drop-with v.state.held h.packet h.length t.unheld)))

pub returns-clause-some : goal.returns-clause-some
returns-clause-some c =
    let w : View = view_of c.take_output.new.seat in
    let x : View = view_of c.clean_card_on.new.seat in
    let y : View = view_of c.pass_on-left.new.seat in
    let z : View = view_of c.give.new.seat in
    let k = c.pass_on-left.new.out in
    let d = c.clean_card_on.ensures in
    record {
      taken = w;
      took = c.take_output.ensures.only.ran;
      takes = c.in-Some.ensures.some.0.moves;
      cleaned = x;
      result = c.clean_card_on.result;
      cleaning = d.only.ran;
      cleans = subst (λ (sh : Shape). Cleans sh c.args.card c.clean_card_on.result (events w x)) (sym c.requires.seat.0.1) d.cleans;
      passed = y;
      passes = c.pass_on-left.ensures.passes;
      tried =
          subst (λ (sh : Shape). OverflowsLast sh (events w y)) (sym c.requires.seat.0.1)
          (overflows-begun c.args.heap.now.shape c.open-search.result c.pass_on-left.new.search c.in-Some.out k (events w y) c.open-search.ensures
          (overflows-join c.args.heap.now.shape c.open-search.result c.clean_card_on.new.search c.pass_on-left.new.search c.in-Some.out c.clean_card_on.new.out k (events w x) (events x y) (events w y) (ran-events w x y d.only.ran c.pass_on-left.ensures.only.ran) d.tried c.pass_on-left.ensures.tried));
      gave = c.give.ensures.only.ran;
      gives = given-moves output_pools k.packet (k.length == 0) (events y z) c.give.ensures.steps;
    }

pub returns-clause-few : goal.returns-clause-few
returns-clause-few c =
    let sh : Shape = c.args.heap.now.shape in
    let v : View = view_of c.args.seat.now in
    let w : View = view_of c.take_output.new.seat in
    let x : View = view_of c.clean_card_on.new.seat in
    let y : View = view_of c.pass_on-left.new.seat in
    let z : View = view_of c.give.new.seat in
    let h = c.in-Some.out in
    let k = c.pass_on-left.new.out in
    let a = c.take_output.ensures in
    let d = c.clean_card_on.ensures in
    let p = c.pass_on-left.ensures in
    let g = c.give.ensures in
    let begun = ap (λ (s : Search). room_left sh s h.length) c.open-search.ensures in
    let fits = c.in-Some.ensures.some.0.held.fits in
    let entries = ap (λ (s : Shape). s.entries) a.seat.0.1 in
    let most = room-whole sh h.length (omega (arith, fits, entries)) in
    let cells = mul-le-mul_right {m = c.clean_card_on.result.rescanned} {n = card_cells} (scan_steps sh.fields sh) d.most in
    let first = few-sum v w z a.only.ran (passed-join w x z (passed-traced w x d.only) (passed-join x y z p.only (passed-traced y z g.only))).ran in
    let second = few-sum w x z d.only.ran (passed-join x y z p.only (passed-traced y z g.only)).ran in
    let third = few-sum x y z p.only.ran g.only.ran in
    let last = few-steps give_steps y z _ g.steps (given-few k.packet false (k.length == 0)) in
    let taken = a.few in
    let cleaned = d.few in
    let passed = p.few.1 in
    ((p.few.0, omega (arith, first, second, third, last, taken, cleaned, passed, begun, most, cells)), tt)
