use Rattle.std.proofs.Common.{◌≡◌, ◌++◌, ◌==◌, arith, ap, ◌∙◌, ℕ, ◌+◌, false}
use Rattle.packet_pools.specs.Seeking.{output_pools}
use Rattle.mark_core.specs.Held.{has_free_slot, drop_packet}
use Rattle.mark_core.specs.declared.seat.SeatState.{SeatState}
use Rattle.gc_table.specs.declared.view.View.{View}
use Rattle.gc_table.specs.Seats.{view_of}
use Rattle.gc_table.specs.Log.{events}
use Rattle.gc_table.proofs.History.Log.{events-join}
use Rattle.packet_pools.proofs.Counting.{given-moves}
use Rattle.packet_pools.proofs.Exchanged.{drop-with}
use Rattle.packet_pools.proofs.TracedSteps.{cleaned-join, traced-cleaned}
use Rattle.card_clean.specs.Leaving.{rescanned_in}
use Rattle.card_clean.proofs.Leavings.{rescanned-join, rescanned-moves}
use Rattle.card_clean.proofs.Takings.{some-free, with-free}
use Rattle.mark_core.specs.declared.kinds.Shape.{Shape}
use Rattle.packet_pools.specs.StepBounds.{give_steps, output_steps, room_steps}
use Rattle.card_clean.specs.StepBounds.{clean_steps}
use Rattle.packet_pools.proofs.Few.{few-join, few-steps, given-few}
use Rattle.packet_pools.specs.Counts.{count_of, dirties}
use Rattle.packet_pools.proofs.Counting.{count-join}
use Rattle.card_clean.proofs.one_card.clean_one.Goals as goal

pub take_output-requires-clause-free : goal.take_output-requires-clause-free
take_output-requires-clause-free c = some-free (view_of c.args.seat.now).state.held (omega (arith, c.requires.free))

pub clean_card-cleaned-requires-clause-out : goal.clean_card-cleaned-requires-clause-out
clean_card-cleaned-requires-clause-out c =
    let h = c.in-Some.out in
    let t = c.in-Some.ensures.some.0 in
    (t.held, ap (λ (s : SeatState). has_free_slot s.held) t.state ∙ with-free (view_of c.args.seat.now).state.held h.packet h.length c.requires.free)

pub returns-clause-only : goal.returns-clause-only
returns-clause-only c =
    let v : View = view_of c.args.seat.now in
    let w : View = view_of c.take_output.new.seat in
    let x : View = view_of c.clean_card-cleaned.new.seat in
    let y : View = view_of c.give.new.seat in
    cleaned-join v w y (traced-cleaned v w c.take_output.ensures.only) (cleaned-join w x y c.clean_card-cleaned.ensures.only (traced-cleaned x y c.give.ensures.only))

pub returns-clause-held : goal.returns-clause-held
returns-clause-held c =
    let v : View = view_of c.args.seat.now in
    let h = c.in-Some.out in
    let t = c.in-Some.ensures.some.0 in
    ap (λ (s : SeatState). s.held) c.give.ensures.state ∙ (c.clean_card-cleaned.ensures.out.slots ∙ (ap (λ (s : SeatState). drop_packet s.held h.packet) t.state ∙ drop-with v.state.held h.packet h.length t.unheld))

pub returns-clause-some : goal.returns-clause-some
returns-clause-some c =
    let v : View = view_of c.args.seat.now in
    let w : View = view_of c.take_output.new.seat in
    let x : View = view_of c.clean_card-cleaned.new.seat in
    let y : View = view_of c.give.new.seat in
    let k = c.clean_card-cleaned.new.out in
    let t = c.in-Some.ensures.some.0 in
    let a = c.take_output.ensures.only in
    let d = c.clean_card-cleaned.ensures in
    let g = c.give.ensures in
    let gives = given-moves output_pools k.packet (k.length == 0) (events x y) g.steps in
    let end = cleaned-join w x y d.only (traced-cleaned x y g.only) in
    let first : rescanned_in v (events v w) ≡ 0 = rescanned-moves output_pools (events v w) v t.moves in
    let last : rescanned_in x (events x y) ≡ 0 = rescanned-moves output_pools (events x y) x gives in
    let i = rescanned-join v w y a.ran end.ran in
    let j = rescanned-join w x y d.only.ran g.only.ran in (
      record {
        taking = events v w;
        cleaning = events w x;
        giving = events x y;
        events_are = events-join v w y a.log end.log ∙ ap (λ es. events v w ++ es) (events-join w x y d.only.log g.only.log);
        takes = t.moves;
        cleans = d.cleans;
        tried = d.tried;
        gives = gives;
      },
      d.most,
      omega (arith, i, j, first, last, d.left),
    )

pub returns-in_default-clause-none : goal.returns-in_default-clause-none
returns-in_default-clause-none c =
    let v : View = view_of c.args.seat.now in
    let e = c.in_default.ensures.none in
    (e.0, e.1, e.2, rescanned-moves output_pools (events v (view_of c.take_output.new.seat)) v e.2)

pub returns-in_default-clause-few : goal.returns-in_default-clause-few
returns-in_default-clause-few c = (tt, c.in_default.ensures.few)

pub returns-clause-few : goal.returns-clause-few
returns-clause-few c =
    let sh : Shape = c.args.heap.now.shape in
    let v : View = view_of c.args.seat.now in
    let w : View = view_of c.take_output.new.seat in
    let x : View = view_of c.clean_card-cleaned.new.seat in
    let y : View = view_of c.give.new.seat in
    let k = c.clean_card-cleaned.new.out in
    let n : ℕ = clean_steps c.clean_card-cleaned.result.rescanned sh + room_steps sh in
    let a = c.take_output.ensures in
    let d = c.clean_card-cleaned.ensures in
    let g = c.give.ensures in
    let first = few-join (output_steps sh) n v w x a.only.ran d.only.ran a.few d.few in
    let both = cleaned-join v w x (traced-cleaned v w a.only) d.only in
    let all = few-join (output_steps sh + n) give_steps v x y both.ran g.only.ran first (few-steps give_steps x y _ g.steps (given-few k.packet false (k.length == 0))) in
    (omega (arith, all), tt)

pub returns-clause-clean : goal.returns-clause-clean
returns-clause-clean c = λ still dirty.
    let v : View = view_of c.args.seat.now in
    let w : View = view_of c.take_output.new.seat in
    let x : View = view_of c.clean_card-cleaned.new.seat in
    let y : View = view_of c.give.new.seat in
    let a = c.take_output.ensures.only in
    let d = c.clean_card-cleaned.ensures in
    let g = c.give.ensures.only in
    let most = d.clean (ap (λ (s : SeatState). s.active) a.rest ∙ still) dirty in
    let p = ap (count_of dirties) (events-join v w y a.log (cleaned-join w x y d.only (traced-cleaned x y g)).log) ∙ count-join dirties (events v w) (events w y) in
    let q = ap (count_of dirties) (events-join w x y d.only.log g.log) ∙ count-join dirties (events w x) (events x y) in
    omega (arith, most, p, q)
