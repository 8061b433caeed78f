use Rattle.std.proofs.Common.{◌≡◌, ◌++◌, arith, ap, ◌∙◌, ℕ, ◌+◌, ◌-◌, false}
use Rattle.std.specs.Prelude.{◌==◌}
use Rattle.mark_core.specs.Held.{has_free_slot, drop_packet}
use Rattle.mark_core.specs.declared.seat.SeatState.{SeatState}
use Rattle.gc_table.specs.declared.view.View.{View}
use Rattle.gc_table.specs.Seats.{view_of}
use Rattle.gc_table.specs.Log.{events}
use Rattle.gc_table.proofs.History.Log.{events-join}
use Rattle.packet_pools.proofs.Counting.{given-moves}
use Rattle.packet_pools.proofs.Exchanged.{drop-with}
use Rattle.packet_pools.proofs.TracedSteps.{cleaned-join, traced-cleaned}
use Rattle.card_clean.specs.Leaving.{rescanned_in}
use Rattle.packet_pools.specs.Seeking.{output_pools}
use Rattle.card_clean.proofs.Cleared.{cleared-join, cleared-moves}
use Rattle.card_clean.proofs.Leavings.{rescanned-join, rescanned-moves}
use Rattle.card_clean.proofs.Takings.{some-free, with-free}
use Rattle.mark_core.specs.declared.kinds.Shape.{Shape}
use Rattle.packet_pools.specs.StepBounds.{any_steps, give_steps, room_left, room_steps}
use Rattle.packet_pools.specs.declared.search.Search.{Search}
use Rattle.packet_pools.proofs.RoomLeft.{room-whole}
use Rattle.packet_pools.proofs.Overflows.{overflows-begun}
use Rattle.card_clean.specs.StepBounds.{pass_steps}
use Rattle.packet_pools.proofs.Few.{few-join, few-steps, given-few}
use Rattle.card_clean.proofs.dirty_cards.clean_some.Goals as goal

pub take_some-requires-clause-free : goal.take_some-requires-clause-free
take_some-requires-clause-free c = some-free (view_of c.args.seat.now).state.held (omega (arith, c.requires.free))

pub clean_between-cleaned-requires-clause-out : goal.clean_between-cleaned-requires-clause-out
clean_between-cleaned-requires-clause-out c =
    let v : View = view_of c.args.seat.now in
    let h = c.in-Some.out in
    let s = c.in-Some.ensures.some in
    (s.1, ap (λ (t : SeatState). has_free_slot t.held) s.2 ∙ with-free v.state.held h.packet h.length c.requires.free)

pub returns-clause-only : goal.returns-clause-only
returns-clause-only c =
    let v : View = view_of c.args.seat.now in
    let x : View = view_of c.take_some.new.seat in
    let y : View = view_of c.clean_between-cleaned.new.seat in
    let z : View = view_of c.give.new.seat in
    cleaned-join v x z (traced-cleaned v x c.take_some.ensures.only) (cleaned-join x y z c.clean_between-cleaned.ensures.only (traced-cleaned y z c.give.ensures.only))

pub returns-clause-held : goal.returns-clause-held
returns-clause-held c =
    let v : View = view_of c.args.seat.now in
    let h = c.in-Some.out in
    let s = c.in-Some.ensures.some in
    ap (λ (t : SeatState). t.held) c.give.ensures.state
    ∙ (c.clean_between-cleaned.ensures.out.slots ∙ (ap (λ (t : SeatState). drop_packet t.held h.packet) s.2 ∙ drop-with v.state.held h.packet h.length s.0))

pub returns-in_default-clause-none : goal.returns-in_default-clause-none
returns-in_default-clause-none c =
    let v : View = view_of c.args.seat.now in
    let m = c.take_some.ensures.moves in
    (c.in_default.ensures.none.1, m, rescanned-moves output_pools (events v (view_of c.take_some.new.seat)) v m)

pub returns-clause-some : goal.returns-clause-some
returns-clause-some c =
    let v : View = view_of c.args.seat.now in
    let x : View = view_of c.take_some.new.seat in
    let y : View = view_of c.clean_between-cleaned.new.seat in
    let z : View = view_of c.give.new.seat in
    let k = c.clean_between-cleaned.new.out in
    let b = c.take_some.ensures in
    let d = c.clean_between-cleaned.ensures in
    let g = c.give.ensures in
    let end = cleaned-join x y z d.only (traced-cleaned y z g.only) in
    let none : rescanned_in v (events v x) ≡ 0 = rescanned-moves output_pools (events v x) v b.moves in
    let last : rescanned_in y (events y z) ≡ 0 = rescanned-moves output_pools (events y z) y (given-moves output_pools k.packet (k.length == 0) (events y z) g.steps) in
    let j = rescanned-join v x z b.only.ran end.ran in
    let l = rescanned-join x y z d.only.ran g.only.ran in (
      d.most.0,
      omega (arith, j, l, none, last, d.left),
      record {
        taking = events v x;
        cleaning = events x y;
        giving = events y z;
        events_are = events-join v x z b.only.log end.log ∙ ap (λ es. events v x ++ es) (events-join x y z d.only.log g.only.log);
        takes = b.moves;
        cleans = d.cleans;
        tried = overflows-begun c.args.heap.now.shape c.open.result c.clean_between-cleaned.new.search c.in-Some.out c.clean_between-cleaned.new.out (events x y) c.open.ensures d.tried;
        gives = given-moves output_pools k.packet (k.length == 0) (events y z) g.steps;
      },
    )

pub returns-clause-cleared : goal.returns-clause-cleared
returns-clause-cleared c =
    let v : View = view_of c.args.seat.now in
    let x : View = view_of c.take_some.new.seat in
    let y : View = view_of c.clean_between-cleaned.new.seat in
    let z : View = view_of c.give.new.seat in
    let k = c.clean_between-cleaned.new.out in
    let b = c.take_some.ensures in
    let d = c.clean_between-cleaned.ensures in
    let g = c.give.ensures in
    let none = cleared-moves output_pools (events v x) b.moves in
    let last = cleared-moves output_pools (events y z) (given-moves output_pools k.packet (k.length == 0) (events y z) g.steps) in
    let j = cleared-join v x z b.only.ran (cleaned-join x y z d.only (traced-cleaned y z g.only)).ran in
    let l = cleared-join x y z d.only.ran g.only.ran in
    (d.most.1, omega (arith, j, l, none, last, d.cleared))

pub returns-in_default-clause-few : goal.returns-in_default-clause-few
returns-in_default-clause-few c = (tt, c.take_some.ensures.few)

pub returns-clause-few : goal.returns-clause-few
returns-clause-few c =
    let sh : Shape = c.args.heap.now.shape in
    let v : View = view_of c.args.seat.now in
    let x : View = view_of c.take_some.new.seat in
    let y : View = view_of c.clean_between-cleaned.new.seat in
    let z : View = view_of c.give.new.seat in
    let k = c.clean_between-cleaned.new.out in
    let n : ℕ = pass_steps (c.args.end - c.args.first) c.clean_between-cleaned.result.rescanned sh in
    let b = c.take_some.ensures in
    let d = c.clean_between-cleaned.ensures in
    let g = c.give.ensures in
    let h = c.in-Some.out in
    let begun = ap (λ (s : Search). room_left sh s h.length) c.open.ensures in
    let fits = c.in-Some.ensures.some.1.fits in
    let entries = ap (λ (s : Shape). s.entries) b.seat.0.1 in
    let most = room-whole sh h.length (omega (arith, fits, entries)) in
    let cleaned = d.few in
    let first = few-join (any_steps sh) (n + room_steps sh) v x y b.only.ran d.only.ran b.few (omega (arith, cleaned, begun, most)) in
    let both = cleaned-join v x y (traced-cleaned v x b.only) d.only in
    let all = few-join (any_steps sh + (n + room_steps sh)) give_steps v y z both.ran g.only.ran first (few-steps give_steps y z _ g.steps (given-few k.packet false (k.length == 0))) in
    (omega (arith, all), tt)
