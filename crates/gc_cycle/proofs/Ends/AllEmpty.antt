-- Once a seat that is alone, with no packet in hand, has noted that none is in a pool for packets with entries, the count says that all are empty.
use Rattle.std.proofs.Common.{ℕ, ◌≡◌, ◌+◌, ◌<◌, ◌≤◌, ◌/◌, ◌%◌, List, length, get_or, arith, refl, sym, ap, ◌∙◌, subst, Bool, true, false, Some, ⊎_elim, zero, suc}
use Rattle.std.specs.Prelude.{IsFalse, ◌&&◌, not, slice_get}
use Rattle.std.specs.List.{All, count_by, range_with_len}
use Rattle.std.proofs.lemmas.Bool.{and_parts, cases_eq}
use Rattle.std.proofs.lemmas.List.{get_or-map, get_or_default, length-map}
use Rattle.mark_core.specs.Cells.{empty_packets, holder_count, in_pool, pool_count}
use Rattle.mark_core.specs.Bits.{has_bit}
use Rattle.mark_core.specs.Held.{Slots, holds, holds_any}
use Rattle.mark_core.specs.Layout.{words_of}
use Rattle.mark_core.specs.Laws.{IsCore}
use Rattle.mark_core.specs.Numbers.{empty_offset, word_bits}
use Rattle.mark_core.specs.Places.{pool_at}
use Rattle.mark_core.specs.Rules.PacketRules.{has_credit, has_reservation}
use Rattle.mark_core.specs.Rules.WorldRules.{IsEmpty}
use Rattle.mark_core.specs.Seats.{empty_handed, takes_part}
use Rattle.mark_core.specs.Steps.{Core}
use Rattle.mark_core.specs.Views.{hands}
use Rattle.mark_core.specs.declared.kinds.Shape.{Shape}
use Rattle.mark_core.specs.declared.kinds.Step.TheVariants.{ReadCount}
use Rattle.mark_core.specs.declared.seat.SeatState.{SeatState}
use Rattle.mark_core.proofs.Count.CountMoves.{bit, bit-one, count-cons, count-none}
use Rattle.mark_core.proofs.Pool.PoolSlots.{none-held}
use Rattle.mark_core.proofs.Notes.NotesBeside.{Sits, sits, of-sits, beside}
use Rattle.mark_core.proofs.Notes.NotesKept.{single-word}
use Rattle.gc_table.specs.Rule.{Agrees}
use Rattle.gc_table.specs.TableState.{TableState}
use Rattle.gc_table.specs.Taking.{Finds}
use Rattle.gc_table.specs.declared.view.View.{View}
use Rattle.packet_pools.specs.Outside.{AreNotedOutside, IsNotedOutside}

not-true : (b : Bool) → not b ≡ true → b ≡ false
not-true true e = sym e
not-true false e = refl

-- while a seat is alone, what no empty seat has, and it hasn't, no seat has
none-has : (c : Core) (i : ℕ) (s : SeatState) (f : SeatState → Bool) → ((t : SeatState) → IsEmpty c.shape t → f t ≡ false) → IsCore c → slice_get c.seats i ≡ Some s → s.alone ≡ true → f s ≡ false → All (λ (t : SeatState). f t ≡ false) c.seats
none-has c i s f empty core got alone none j d h =
    let t : SeatState = get_or c.seats j s in
    let here : get_or c.seats j d ≡ t = get_or_default c.seats j d s h in
    let k : Sits c i s = sits c i s got in
    let is : f t ≡ false =
    ⊎_elim
    (λ (e : i ≡ j). ap f (subst (λ n. get_or c.seats n s ≡ s) e k.is) ∙ none)
    (λ (n : i ≡ j → ⊥).
    let l : Sits c j t = record { within = h; is = get_or_default c.seats j t s h } in
    let out : takes_part t ≡ false = (beside c i j s t core n k l).alone_quiet alone in
    empty t (of-sits (λ (x : SeatState). IsFalse (takes_part x) → IsEmpty c.shape x) c j t l core.sound.world.outside_empty out))
    (cases_eq i j) in
    ap f here ∙ is

-- so none holds a packet
none-holds : (seats : List SeatState) (s : SeatState) (p : ℕ) → All (λ (t : SeatState). holds t.held p ≡ false) seats → holder_count (hands seats) p ≡ 0
none-holds seats s p a =
    count-none (λ (h : Slots). holds h p) (hands seats) (λ j d h.
    let within : j < length seats = rw length-map at h in
    ap (λ (x : Slots). holds x p) (get_or-map (λ (x : SeatState). x.held) seats j s d within) ∙ a j s within)

-- what is noted of a packet is so
not-in : (x : TableState) (i : ℕ) (v : View) (q p : ℕ) → Agrees x i v → IsNotedOutside q p v → in_pool x.core.shape (words_of x.core.shape x.core.words).pools q p ≡ false
not-in x i v q p a k =
    let word = (a.noted (pool_at v.shape q (p / word_bits)) k.0 k.1).1 in
    ap (λ (sh : Shape). in_pool sh (words_of x.core.shape x.core.words).pools q p) (sym a.shape) ∙ (ap (λ n. has_bit n (p % word_bits)) word ∙ k.2)

all-count : (f : ℕ → Bool) (a n : ℕ) → ((x : ℕ) → a ≤ x → x < a + n → f x ≡ true) → count_by f (range_with_len a n) ≡ n
all-count f a zero h = refl
all-count f a (suc n) h =
    let rest = all-count f (a + 1) n (λ x l k. h x (omega (arith, l)) (omega (arith, k))) in
    let one = ap bit (h a (omega arith) (omega arith)) in
    omega (arith, count-cons f a (range_with_len (a + 1) n), rest, one)

-- what the count is then
pub settled-count : (v : View) (n : ℕ) → Finds ReadCount n v → v.state.alone ≡ true → empty_handed v.state ≡ true → AreNotedOutside 1 v → AreNotedOutside 2 v → AreNotedOutside 3 v → n ≡ empty_offset + v.shape.packets
settled-count v n f alone idle low high deferred =
    let c : Core = f.state.core in
    let i : ℕ = f.index in
    let core : IsCore c = f.whole.core in
    let pools : List ℕ = (words_of c.shape c.words).pools in
    let p1 = and_parts (not (holds_any v.state.held) && not v.state.reserved) (not v.state.credit) idle in
    let p2 = and_parts (not (holds_any v.state.held)) (not v.state.reserved) p1.0 in
    let reserved = count-none has_reservation c.seats (none-has c i v.state has_reservation (λ t e. e.no_reservation) core f.agrees.seat alone (not-true v.state.reserved p2.1)) in
    let credit = count-none has_credit c.seats (none-has c i v.state has_credit (λ t e. e.no_credit) core f.agrees.seat alone (not-true v.state.credit p1.1)) in
    let empty : holds_any v.state.held ≡ false = not-true (holds_any v.state.held) p2.0 in
    let each : (p : ℕ) → p < c.shape.packets → in_pool c.shape pools 0 p ≡ true = λ p l.
    let there : p < v.shape.packets = subst (λ (sh : Shape). p < sh.packets) (sym f.agrees.shape) l in
    let one : pool_count c.shape pools p + holder_count (hands c.seats) p ≡ 1 = core.sound.pools.one_place p l in
    let unheld : holder_count (hands c.seats) p ≡ 0 = none-holds c.seats v.state p (none-has c i v.state (λ (t : SeatState). holds t.held p) (λ t e. none-held t.held p e.no_packet) core f.agrees.seat alone (none-held v.state.held p empty)) in
    let out = λ (q : ℕ) (k : AreNotedOutside q v). ap bit (not-in f.state i v q p f.agrees (k p there)) in
    bit-one (in_pool c.shape pools 0 p) (omega (arith, one, unheld, out 1 low, out 2 high, out 3 deferred)) in
    let all : empty_packets c.shape pools ≡ c.shape.packets = all-count (in_pool c.shape pools 0) 0 c.shape.packets (λ p a l. each p (omega (arith, l))) in
    let word : (words_of c.shape c.words).empty ≡ n = sym (single-word c.shape c.words 2 (omega arith)) ∙ f.word in
    let shape : v.shape.packets ≡ c.shape.packets = ap (λ (sh : Shape). sh.packets) f.agrees.shape in
    omega (arith, core.sound.counts.counted, reserved, credit, all, word, shape)
