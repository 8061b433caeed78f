use Rattle.std.proofs.Common.{◌≡◌, ◌++◌, ◌-◌, ◌≤◌, ◌==◌, arith, refl, sym, ap, ◌∙◌, subst, inl, inr, ℕ, ◌+◌, ◌<◌, true, false, length, List}
use Rattle.std.proofs.lemmas.Bool.{false≢true}
use Rattle.gc_table.specs.declared.view.Entry.{Entry}
use Rattle.packet_pools.specs.OnlyTraced.{OnlyTraced, OnlyCleaned}
use Rattle.card_clean.specs.Looking.{looks_dirty}
use Rattle.card_clean.specs.Taking.{CleansWithPacket}
use Rattle.mark_core.specs.Numbers.{deferred_pool_number}
use Rattle.mark_core.specs.Held.{has_free_slot, holds_any, drop_packet}
use Rattle.mark_core.specs.Layout.{card_count}
use Rattle.mark_core.specs.declared.kinds.Shape.{Shape}
use Rattle.mark_core.specs.declared.seat.SeatState.{SeatState}
use Rattle.card_clean.specs.DirtyCards.{CleanedFrom}
use Rattle.gc_table.specs.declared.view.View.{View}
use Rattle.gc_table.specs.Seats.{view_of}
use Rattle.gc_table.specs.Log.{events}
use Rattle.gc_table.proofs.History.Log.{events-join}
use Rattle.packet_pools.proofs.Counting.{given-moves}
use Rattle.packet_pools.proofs.Doing.{traces-on}
use Rattle.packet_pools.proofs.Exchanged.{drop-with}
use Rattle.packet_pools.proofs.TracedSteps.{cleaned-join, traced-cleaned, traced-join}
use Rattle.card_clean.specs.Leaving.{rescanned_in}
use Rattle.packet_pools.specs.Hands.{free_slots}
use Rattle.packet_pools.specs.Seeking.{only_moves, output_pools}
use Rattle.card_clean.proofs.Leavings.{rescanned-join, rescanned-moves}
use Rattle.card_clean.proofs.Takings.{some-free, with-free}
use Rattle.card_clean.proofs.CardLooks.{outside-kept, rescanned-clean, rescanned-dirty}
use Rattle.packet_pools.specs.StepBounds.{any_steps, give_steps, room_left, room_steps}
use Rattle.packet_pools.specs.declared.search.Search.{Search}
use Rattle.packet_pools.specs.Tried.{OverflowsLast}
use Rattle.packet_pools.proofs.Overflows.{overflows-begun}
use Rattle.packet_pools.proofs.RoomLeft.{room-whole}
use Rattle.card_clean.specs.StepBounds.{pass_steps}
use Rattle.packet_pools.proofs.Few.{few-join, few-steps, given-few}
use Rattle.card_clean.specs.Cleaning.{SpillsWhite}
use Rattle.card_clean.proofs.Spilled.{spills-clean, spills-dirty, spills-join, spills-moves}
use Rattle.card_clean.proofs.dirty_cards.clean_dirty.Goals as goal

pub returns-in_default-clause-seat : goal.returns-in_default-clause-seat
returns-in_default-clause-seat c =
    let e = c.first_dirty.ensures in
    (e.seat, traces-on (view_of c.args.seat.now) (view_of c.first_dirty.new.seat) e.only c.requires.seat.1 (ap (λ (s : SeatState). s.reserved) e.state) (ap (λ (s : SeatState). s.credit) e.state))

pub returns-in_default-clause-left : goal.returns-in_default-clause-left
returns-in_default-clause-left c =
    let v : View = view_of c.args.seat.now in
    rescanned-clean v (view_of c.first_dirty.new.seat) 0 (card_count c.args.heap.now.shape) c.in_default.ensures.clean

pub take_some-requires-clause-seat : goal.take_some-requires-clause-seat
take_some-requires-clause-seat c =
    let e = c.first_dirty.ensures in
    (e.seat, traces-on (view_of c.args.seat.now) (view_of c.first_dirty.new.seat) e.only c.requires.seat.1 (ap (λ (s : SeatState). s.reserved) e.state) (ap (λ (s : SeatState). s.credit) e.state))

pub take_some-requires-clause-free : goal.take_some-requires-clause-free
take_some-requires-clause-free c =
    let v : View = view_of c.args.seat.now in
    ap (λ (s : SeatState). has_free_slot s.held) c.first_dirty.ensures.state ∙ some-free v.state.held (omega (arith, c.requires.free))

pub returns-in_default-take_some-clause-only : goal.returns-in_default-take_some-clause-only
returns-in_default-take_some-clause-only c =
    let v : View = view_of c.args.seat.now in
    let x : View = view_of c.take_some.new.seat in
    traced-cleaned v x (traced-join v (view_of c.first_dirty.new.seat) x c.first_dirty.ensures.only c.take_some.ensures.only)

pub returns-in_default-clause-only : goal.returns-in_default-clause-only
returns-in_default-clause-only c = traced-cleaned (view_of c.args.seat.now) (view_of c.first_dirty.new.seat) c.first_dirty.ensures.only

pub returns-in_default-take_some-clause-left : goal.returns-in_default-take_some-clause-left
returns-in_default-take_some-clause-left c =
    let v : View = view_of c.args.seat.now in
    let w : View = view_of c.first_dirty.new.seat in
    let x : View = view_of c.take_some.new.seat in
    let first : rescanned_in v (events v w) ≡ 0 = rescanned-dirty v w 0 c.in-Some.card c.in-Some.ensures.dirty.2 in
    let second : rescanned_in w (events w x) ≡ 0 = rescanned-moves output_pools (events w x) w c.take_some.ensures.moves in
    let j = rescanned-join v w x c.first_dirty.ensures.only.ran c.take_some.ensures.only.ran in
    omega (arith, j, first, second)

pub clean_between-cleaned-requires-clause-out : goal.clean_between-cleaned-requires-clause-out
clean_between-cleaned-requires-clause-out c =
    let v : View = view_of c.args.seat.now in
    let w : View = view_of c.first_dirty.new.seat in
    let h = c.in-Some-take_some.out in
    let s = c.in-Some-take_some.ensures.some in
    let many : 2 ≤ free_slots w.state.held = subst (λ (t : SeatState). 2 ≤ free_slots t.held) (sym c.first_dirty.ensures.state) c.requires.free in
    (s.1, ap (λ (t : SeatState). has_free_slot t.held) s.2 ∙ with-free w.state.held h.packet h.length many)

pub returns-clause-only : goal.returns-clause-only
returns-clause-only c =
    let v : View = view_of c.args.seat.now in
    let w : View = view_of c.first_dirty.new.seat in
    let x : View = view_of c.take_some.new.seat in
    let y : View = view_of c.clean_between-cleaned.new.seat in
    let z : View = view_of c.give.new.seat in
    cleaned-join v w z (traced-cleaned v w c.first_dirty.ensures.only)
    (cleaned-join w x z (traced-cleaned w x c.take_some.ensures.only) (cleaned-join x y z c.clean_between-cleaned.ensures.only (traced-cleaned y z c.give.ensures.only)))

pub returns-clause-held : goal.returns-clause-held
returns-clause-held c =
    let w : View = view_of c.first_dirty.new.seat in
    let h = c.in-Some-take_some.out in
    let s = c.in-Some-take_some.ensures.some in
    ap (λ (t : SeatState). t.held) c.give.ensures.state
    ∙ (c.clean_between-cleaned.ensures.out.slots
    ∙ (ap (λ (t : SeatState). drop_packet t.held h.packet) s.2 ∙ (drop-with w.state.held h.packet h.length s.0 ∙ ap (λ (t : SeatState). t.held) c.first_dirty.ensures.state)))

pub returns-clause-left : goal.returns-clause-left
returns-clause-left c =
    let v : View = view_of c.args.seat.now in
    let w : View = view_of c.first_dirty.new.seat in
    let x : View = view_of c.take_some.new.seat in
    let y : View = view_of c.clean_between-cleaned.new.seat in
    let z : View = view_of c.give.new.seat in
    let k = c.clean_between-cleaned.new.out in
    let a = c.first_dirty.ensures.only in
    let b = c.take_some.ensures.only in
    let d = c.clean_between-cleaned.ensures in
    let g = c.give.ensures in
    let end = cleaned-join x y z d.only (traced-cleaned y z g.only) in
    let first : rescanned_in v (events v w) ≡ 0 = rescanned-dirty v w 0 c.in-Some.card c.in-Some.ensures.dirty.2 in
    let second : rescanned_in w (events w x) ≡ 0 = rescanned-moves output_pools (events w x) w c.take_some.ensures.moves in
    let last : rescanned_in y (events y z) ≡ 0 = rescanned-moves output_pools (events y z) y (given-moves output_pools k.packet (k.length == 0) (events y z) g.steps) in
    let i = rescanned-join v w z a.ran (cleaned-join w x z (traced-cleaned w x b) end).ran in
    let j = rescanned-join w x z b.ran end.ran in
    let l = rescanned-join x y z d.only.ran g.only.ran in
    omega (arith, i, j, l, first, second, last, d.left)

pub returns-in_default-clause-cleans : goal.returns-in_default-clause-cleans
returns-in_default-clause-cleans c = inl (refl, c.in_default.ensures.clean)

pub returns-in_default-take_some-clause-cleans : goal.returns-in_default-take_some-clause-cleans
returns-in_default-take_some-clause-cleans c =
    let v : View = view_of c.args.seat.now in
    let w : View = view_of c.first_dirty.new.seat in
    let x : View = view_of c.take_some.new.seat in
    let d = c.in-Some.ensures.dirty in
    inr (c.in-Some.card, d.1, events w x, events-join v w x c.first_dirty.ensures.only.log c.take_some.ensures.only.log ∙ ap (λ es. es ++ events w x) d.2, inl (refl, c.in_default-take_some.ensures.none.1, c.take_some.ensures.moves))

-- a packet was taken, the cards were passed, and the packet was given back
passed : (sh : Shape) (card n : ℕ) (v w x y z : View) → card < card_count sh → OnlyTraced v w → OnlyTraced w x → OnlyCleaned x y → OnlyTraced y z → events v w ≡ looks_dirty 0 card → only_moves output_pools (events w x) ≡ true → CleanedFrom sh card (card_count sh - card) n (events x y) → OverflowsLast sh (events x y) → only_moves output_pools (events y z) ≡ true
    → (k : ℕ) × (k < card_count sh) × (rest : List Entry) × (events v z ≡ looks_dirty 0 k ++ rest) × CleansWithPacket sh (CleanedFrom sh k (card_count sh - k) n) rest
passed sh card n v w x y z l a b d g dirty takes cleans tried gives =
    let end = cleaned-join x y z d (traced-cleaned y z g) in
    let rest = cleaned-join w x z (traced-cleaned w x b) end in (
      card,
      l,
      events w z,
      events-join v w z a.log rest.log ∙ ap (λ es. es ++ events w z) dirty,
      record {
        taking = events w x;
        cleaning = events x y;
        giving = events y z;
        events_are = events-join w x z b.log end.log ∙ ap (λ es. events w x ++ es) (events-join x y z d.log g.log);
        takes = takes;
        cleans = cleans;
        tried = tried;
        gives = gives;
      },
    )

pub returns-clause-packet : goal.returns-clause-packet
returns-clause-packet c = λ alone none deferred.
    let sh : Shape = c.args.heap.now.shape in
    let y : View = view_of c.clean_between-cleaned.new.seat in
    let z : View = view_of c.give.new.seat in
    let n : ℕ = c.clean_between-cleaned.result.rescanned in
    let k = c.clean_between-cleaned.new.out in
    let b = c.take_some.ensures in
    let d = c.clean_between-cleaned.ensures in
    let g = c.give.ensures in
    let first = c.in-Some.ensures.dirty in
    inr (passed sh c.in-Some.card n (view_of c.args.seat.now) (view_of c.first_dirty.new.seat) (view_of c.take_some.new.seat) y z first.1 c.first_dirty.ensures.only b.only d.only g.only first.2 b.moves
    (subst (λ (s : Shape). CleanedFrom sh c.in-Some.card (card_count s - c.in-Some.card) n (events (view_of c.take_some.new.seat) y)) c.shape.ensures d.cleans)
    (overflows-begun sh c.open.result c.clean_between-cleaned.new.search c.in-Some-take_some.out k (events (view_of c.take_some.new.seat) y) c.open.ensures d.tried)
    (given-moves output_pools k.packet (k.length == 0) (events y z) g.steps))

pub returns-clause-cleans : goal.returns-clause-cleans
returns-clause-cleans c =
    let sh : Shape = c.args.heap.now.shape in
    let y : View = view_of c.clean_between-cleaned.new.seat in
    let z : View = view_of c.give.new.seat in
    let n : ℕ = c.clean_between-cleaned.result.rescanned in
    let k = c.clean_between-cleaned.new.out in
    let b = c.take_some.ensures in
    let d = c.clean_between-cleaned.ensures in
    let g = c.give.ensures in
    let first = c.in-Some.ensures.dirty in
    let all =
    passed sh c.in-Some.card n (view_of c.args.seat.now) (view_of c.first_dirty.new.seat) (view_of c.take_some.new.seat) y z first.1 c.first_dirty.ensures.only b.only d.only g.only first.2 b.moves
    (subst (λ (s : Shape). CleanedFrom sh c.in-Some.card (card_count s - c.in-Some.card) n (events (view_of c.take_some.new.seat) y)) c.shape.ensures d.cleans)
    (overflows-begun sh c.open.result c.clean_between-cleaned.new.search c.in-Some-take_some.out k (events (view_of c.take_some.new.seat) y) c.open.ensures d.tried)
    (given-moves output_pools k.packet (k.length == 0) (events y z) g.steps) in
    inr (all.0, all.1, all.2, all.3, inr all.4)

pub returns-in_default-clause-few : goal.returns-in_default-clause-few
returns-in_default-clause-few c = let few = c.first_dirty.ensures.few in omega (arith, few)

pub returns-in_default-take_some-clause-few : goal.returns-in_default-take_some-clause-few
returns-in_default-take_some-clause-few c =
    let sh : Shape = c.args.heap.now.shape in
    let a = c.first_dirty.ensures in
    let b = c.take_some.ensures in
    let all = few-join (card_count sh - 0) (any_steps sh) (view_of c.args.seat.now) (view_of c.first_dirty.new.seat) (view_of c.take_some.new.seat) a.only.ran b.only.ran a.few b.few in
    omega (arith, all)

pub returns-clause-few : goal.returns-clause-few
returns-clause-few c =
    let sh : Shape = c.args.heap.now.shape in
    let v : View = view_of c.args.seat.now in
    let w : View = view_of c.first_dirty.new.seat in
    let x : View = view_of c.take_some.new.seat in
    let y : View = view_of c.clean_between-cleaned.new.seat in
    let z : View = view_of c.give.new.seat in
    let k = c.clean_between-cleaned.new.out in
    let n : ℕ = pass_steps (card_count sh - c.in-Some.card) c.clean_between-cleaned.result.rescanned sh in
    let a = c.first_dirty.ensures in
    let b = c.take_some.ensures in
    let d = c.clean_between-cleaned.ensures in
    let g = c.give.ensures in
    let h = c.in-Some-take_some.out in
    let begun = ap (λ (s : Search). room_left sh s h.length) c.open.ensures in
    let fits = c.in-Some-take_some.ensures.some.1.fits in
    let entries = ap (λ (s : Shape). s.entries) b.seat.0.1 in
    let most = room-whole sh h.length (omega (arith, fits, entries)) in
    let cleaned = d.few in
    let cells = ap (λ (s : Shape). pass_steps (card_count s - c.in-Some.card) c.clean_between-cleaned.result.rescanned sh) c.shape.ensures in
    let passed : length (events x y) ≤ n + room_steps sh = omega (arith, cleaned, begun, most, cells) in
    let one = few-join (card_count sh - 0) (any_steps sh) v w x a.only.ran b.only.ran a.few b.few in
    let two = cleaned-join v w x (traced-cleaned v w a.only) (traced-cleaned w x b.only) in
    let three = cleaned-join v x y two d.only in
    let part = few-join (card_count sh - 0 + any_steps sh) (n + room_steps sh) v x y two.ran d.only.ran one passed in
    let all = few-join (card_count sh - 0 + any_steps sh + (n + room_steps sh)) give_steps v y z three.ran g.only.ran part (few-steps give_steps y z _ g.steps (given-few k.packet false (k.length == 0))) in
    omega (arith, all)

pub returns-in_default-clause-packet : goal.returns-in_default-clause-packet
returns-in_default-clause-packet c = λ alone none deferred. inl (refl, c.in_default.ensures.clean)

-- a packet is found
pub returns-in_default-take_some-clause-packet : goal.returns-in_default-take_some-clause-packet
returns-in_default-take_some-clause-packet c = λ alone none deferred.
    let v : View = view_of c.args.seat.now in
    let w : View = view_of c.first_dirty.new.seat in
    let e = c.first_dirty.ensures in
    absurd (false≢true (c.in_default-take_some.ensures.pooled (ap (λ (t : SeatState). t.alone) e.state ∙ alone) (ap (λ (t : SeatState). holds_any t.held) e.state ∙ none) (outside-kept deferred_pool_number v w e.only.shape e.notes deferred)))

pub returns-in_default-clause-spills : goal.returns-in_default-clause-spills
returns-in_default-clause-spills c = λ still. subst SpillsWhite (sym c.in_default.ensures.clean) (spills-clean 0 (card_count c.args.heap.now.shape))

pub returns-in_default-take_some-clause-spills : goal.returns-in_default-take_some-clause-spills
returns-in_default-take_some-clause-spills c = λ still.
    let v : View = view_of c.args.seat.now in
    let w : View = view_of c.first_dirty.new.seat in
    let x : View = view_of c.take_some.new.seat in
    spills-join (events v w) (events w x) (events v x) (events-join v w x c.first_dirty.ensures.only.log c.take_some.ensures.only.log)
    (subst SpillsWhite (sym c.in-Some.ensures.dirty.2) (spills-dirty 0 c.in-Some.card))
    (spills-moves c.args.heap.now.shape (events w x) c.take_some.ensures.moves)

pub returns-clause-spills : goal.returns-clause-spills
returns-clause-spills c = λ still.
    let sh : Shape = c.args.heap.now.shape in
    let v : View = view_of c.args.seat.now in
    let w : View = view_of c.first_dirty.new.seat in
    let x : View = view_of c.take_some.new.seat in
    let y : View = view_of c.clean_between-cleaned.new.seat in
    let z : View = view_of c.give.new.seat in
    let k = c.clean_between-cleaned.new.out in
    let a = c.first_dirty.ensures.only in
    let b = c.take_some.ensures.only in
    let d = c.clean_between-cleaned.ensures in
    let g = c.give.ensures in
    let end = cleaned-join x y z d.only (traced-cleaned y z g.only) in
    let rest = cleaned-join w x z (traced-cleaned w x b) end in
    let quiet = ap (λ (s : SeatState). s.active) b.rest ∙ (ap (λ (s : SeatState). s.active) a.rest ∙ still) in
    spills-join (events v w) (events w z) (events v z) (events-join v w z a.log rest.log)
    (subst SpillsWhite (sym c.in-Some.ensures.dirty.2) (spills-dirty 0 c.in-Some.card))
    (spills-join (events w x) (events x z) (events w z) (events-join w x z b.log end.log)
    (spills-moves sh (events w x) c.take_some.ensures.moves)
    (spills-join (events x y) (events y z) (events x z) (events-join x y z d.only.log g.only.log)
    (d.spills quiet)
    (spills-moves sh (events y z) (given-moves output_pools k.packet (k.length == 0) (events y z) g.steps))))
