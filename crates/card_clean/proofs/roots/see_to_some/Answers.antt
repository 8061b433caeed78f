use Rattle.std.proofs.Common.{◌≡◌, ◌-◌, arith, ap, ◌∙◌, true, ℕ, ◌+◌, ◌*◌, false, [], subst, sym}
use Rattle.std.specs.List.{range_with_len}
use Rattle.mark_core.specs.Held.{has_free_slot, drop_packet}
use Rattle.mark_core.specs.declared.seat.SeatState.{SeatState}
use Rattle.gc_table.specs.declared.view.View.{View}
use Rattle.gc_table.specs.Seats.{view_of}
use Rattle.packet_pools.proofs.Exchanged.{drop-with}
use Rattle.packet_pools.proofs.TracedSteps.{traced-join}
use Rattle.card_clean.proofs.Staying.{root-stays}
use Rattle.card_clean.proofs.Takings.{some-free, with-free}
use Rattle.std.specs.Prelude.{◌==◌}
use Rattle.packet_pools.specs.Seeking.{output_pools}
use Rattle.gc_table.specs.Log.{events}
use Rattle.gc_table.proofs.History.Log.{events-join}
use Rattle.packet_pools.specs.Tried.{IsTried}
use Rattle.packet_pools.proofs.Counting.{given-moves, quiet}
use Rattle.packet_pools.proofs.TriedFirst.{last-join, last-none}
use Rattle.card_clean.specs.Leaving.{rescanned_in}
use Rattle.card_clean.proofs.Leavings.{rescanned-join, rescanned-moves, moves-see}
use Rattle.gc_table.proofs.Running.{ran-only}
use Rattle.card_clean.specs.Drained.{sees_roots}
use Rattle.card_clean.proofs.RootReads.{reads-between}
use Rattle.mark_core.specs.declared.kinds.Shape.{Shape}
use Rattle.packet_pools.specs.StepBounds.{any_steps, follow_steps, give_steps, room_left, room_steps}
use Rattle.packet_pools.specs.declared.search.Search.{Search}
use Rattle.packet_pools.proofs.RoomLeft.{room-whole}
use Rattle.packet_pools.proofs.Few.{few-join, few-steps, given-few}
use Rattle.card_clean.proofs.roots.see_to_some.Goals as goal

pub take_some-requires-clause-free : goal.take_some-requires-clause-free
take_some-requires-clause-free c = some-free (view_of c.args.seat.now).state.held (omega (arith, c.requires.free))

pub mark_between-requires-clause-out : goal.mark_between-requires-clause-out
mark_between-requires-clause-out c =
    let h = c.in-Some.out in
    let s = c.in-Some.ensures.some in
    (s.1, ap (λ (t : SeatState). has_free_slot t.held) s.2 ∙ with-free (view_of c.args.seat.now).state.held h.packet h.length c.requires.free)

pub returns-clause-only : goal.returns-clause-only
returns-clause-only c =
    let v : View = view_of c.args.seat.now in
    let w : View = view_of c.take_some.new.seat in
    let x : View = view_of c.mark_between.new.seat in
    let y : View = view_of c.give.new.seat in
    traced-join v w y c.take_some.ensures.only (traced-join w x y c.mark_between.ensures.only c.give.ensures.only)

pub returns-clause-held : goal.returns-clause-held
returns-clause-held c =
    let v : View = view_of c.args.seat.now in
    let h = c.in-Some.out in
    let s = c.in-Some.ensures.some in
    ap (λ (t : SeatState). t.held) c.give.ensures.state ∙ (c.mark_between.ensures.out.slots ∙ (ap (λ (t : SeatState). drop_packet t.held h.packet) s.2 ∙ drop-with v.state.held h.packet h.length s.0))

pub returns-clause-noted : goal.returns-clause-noted
returns-clause-noted c found =
    let w : View = view_of c.take_some.new.seat in
    let x : View = view_of c.mark_between.new.seat in
    let y : View = view_of c.give.new.seat in
    let a : w.state.alone ≡ true = ap (λ (s : SeatState). s.alone) c.take_some.ensures.only.rest ∙ c.requires.ready.drains.alone in
    let b : x.state.alone ≡ true = ap (λ (s : SeatState). s.alone) c.mark_between.ensures.only.rest ∙ a in
    λ i low high. root-stays x y c.give.ensures.only.ran c.give.ensures.only.only i b (c.mark_between.ensures.noted a i low high)

pub returns-clause-reads : goal.returns-clause-reads
returns-clause-reads c found =
    let v : View = view_of c.args.seat.now in
    let w : View = view_of c.take_some.new.seat in
    let x : View = view_of c.mark_between.new.seat in
    let y : View = view_of c.give.new.seat in
    let k = c.mark_between.new.out in
    let b = c.mark_between.ensures in
    let g = c.give.ensures in
    reads-between c.args.heap.now.shape (range_with_len c.args.from (c.args.end - c.args.from)) v w x y c.take_some.ensures.only b.only g.only (traced-join w x y b.only g.only) c.take_some.ensures.moves b.reads
    (given-moves output_pools k.packet (k.length == 0) (events x y) g.steps)

pub returns-in_default-clause-left : goal.returns-in_default-clause-left
returns-in_default-clause-left c =
    let v : View = view_of c.args.seat.now in
    rescanned-moves output_pools (events v (view_of c.take_some.new.seat)) v c.take_some.ensures.moves

pub returns-clause-left : goal.returns-clause-left
returns-clause-left c =
    let v : View = view_of c.args.seat.now in
    let w : View = view_of c.take_some.new.seat in
    let x : View = view_of c.mark_between.new.seat in
    let y : View = view_of c.give.new.seat in
    let k = c.mark_between.new.out in
    let a = c.take_some.ensures in
    let b = c.mark_between.ensures in
    let g = c.give.ensures in
    let first : rescanned_in v (events v w) ≡ 0 = rescanned-moves output_pools (events v w) v a.moves in
    let last : rescanned_in x (events x y) ≡ 0 = rescanned-moves output_pools (events x y) x (given-moves output_pools k.packet (k.length == 0) (events x y) g.steps) in
    let end = traced-join w x y b.only g.only in
    let i = rescanned-join v w y a.only.ran end.ran in
    let j = rescanned-join w x y b.only.ran g.only.ran in
    omega (arith, i, j, first, last, b.left)

pub returns-in_default-clause-steps : goal.returns-in_default-clause-steps
returns-in_default-clause-steps c = moves-see (events (view_of c.args.seat.now) (view_of c.take_some.new.seat)) c.take_some.ensures.moves

pub returns-clause-steps : goal.returns-clause-steps
returns-clause-steps c =
    let v : View = view_of c.args.seat.now in
    let w : View = view_of c.take_some.new.seat in
    let x : View = view_of c.mark_between.new.seat in
    let y : View = view_of c.give.new.seat in
    let k = c.mark_between.new.out in
    let a = c.take_some.ensures in
    let b = c.mark_between.ensures in
    let g = c.give.ensures in
    let end = traced-join w x y b.only g.only in
    ran-only sees_roots v w y a.only.ran end.ran (moves-see (events v w) a.moves)
    (ran-only sees_roots w x y b.only.ran g.only.ran b.steps (moves-see (events x y) (given-moves output_pools k.packet (k.length == 0) (events x y) g.steps)))

pub returns-in_default-clause-few : goal.returns-in_default-clause-few
returns-in_default-clause-few c = let few = c.take_some.ensures.few in omega (arith, few)

pub returns-clause-few : goal.returns-clause-few
returns-clause-few c =
    let sh : Shape = c.args.heap.now.shape in
    let v : View = view_of c.args.seat.now in
    let w : View = view_of c.take_some.new.seat in
    let x : View = view_of c.mark_between.new.seat in
    let y : View = view_of c.give.new.seat in
    let k = c.mark_between.new.out in
    let n : ℕ = (c.args.end - c.args.from) * follow_steps sh in
    let a = c.take_some.ensures in
    let b = c.mark_between.ensures in
    let g = c.give.ensures in
    let h = c.in-Some.out in
    let begun = ap (λ (s : Search). room_left sh s h.length) c.open.ensures in
    let fits = c.in-Some.ensures.some.1.fits in
    let entries = ap (λ (s : Shape). s.entries) a.seat.0.1 in
    let most = room-whole sh h.length (omega (arith, fits, entries)) in
    let marked = b.few in
    let first = few-join (any_steps sh) (n + room_steps sh) v w x a.only.ran b.only.ran a.few (omega (arith, marked, begun, most)) in
    let all = few-join (any_steps sh + (n + room_steps sh)) give_steps v x y (traced-join v w x a.only b.only).ran g.only.ran first (few-steps give_steps x y _ g.steps (given-few k.packet false (k.length == 0))) in
    omega (arith, all)

pub returns-in_default-clause-pooled : goal.returns-in_default-clause-pooled
returns-in_default-clause-pooled c = λ none deferred. c.in_default.ensures.pooled c.requires.ready.drains.alone none deferred

pub returns-in_default-clause-tried : goal.returns-in_default-clause-tried
returns-in_default-clause-tried c =
    let es = events (view_of c.args.seat.now) (view_of c.take_some.new.seat) in
    last-none c.args.heap.now.shape es (quiet es c.take_some.ensures.moves)

pub returns-clause-tried : goal.returns-clause-tried
returns-clause-tried c =
    let sh : Shape = c.args.heap.now.shape in
    let v : View = view_of c.args.seat.now in
    let w : View = view_of c.take_some.new.seat in
    let x : View = view_of c.mark_between.new.seat in
    let y : View = view_of c.give.new.seat in
    let k = c.mark_between.new.out in
    let a = c.take_some.ensures in
    let b = c.mark_between.ensures in
    let g = c.give.ensures in
    let marks = b.tried.cause (λ p. false) [] (subst (λ (s : Search). IsTried sh (λ p. false) s c.in-Some.out []) (sym c.open.ensures) tt) in
    last-join sh (events v w) (events w y) (events v y) (events-join v w y a.only.log (traced-join w x y b.only g.only).log) (last-none sh (events v w) (quiet (events v w) a.moves))
    (last-join sh (events w x) (events x y) (events w y) (events-join w x y b.only.log g.only.log) marks
    (last-none sh (events x y) (quiet (events x y) (given-moves output_pools k.packet (k.length == 0) (events x y) g.steps))))
