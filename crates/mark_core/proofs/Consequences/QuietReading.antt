-- If the count says that all packets are empty, no packet has an entry, and no seat has work in hand.
use Rattle.std.proofs.Common.{ℕ, ◌≡◌, ◌+◌, ◌<◌, ◌≤◌, [], ◌∷◌, get_or, length, arith, refl, sym, ap, ◌∙◌, subst, Bool, true, false, Some, None}
use Rattle.std.specs.Prelude.{IfSome, IsFalse, slice_index}
use Rattle.std.specs.List.{All, range_with_len}
use Rattle.std.proofs.lemmas.Bool.{eq-eqb, true≢false, false≢true}
use Rattle.std.proofs.lemmas.List.{length-map, get_or-map}
use Rattle.std.proofs.lemmas.List.Elements.{All-head, All-tail}
use Rattle.std.proofs.lemmas.List.FromFn.{length-range_with_len, get_or-range_with_len}
use Rattle.std.proofs.lemmas.Option.{slice_get-get_or}
use Rattle.mark_core.specs.Shapes.{EachPacket}
use Rattle.mark_core.specs.Layout.{Words, words_of}
use Rattle.mark_core.specs.Held.{Slot, Slots, holds, holds_any}
use Rattle.mark_core.specs.Seats.{work_in_hand}
use Rattle.mark_core.specs.Views.{hands}
use Rattle.mark_core.specs.Cells.{in_pool, holder_count, empty_packets}
use Rattle.mark_core.specs.Steps.{Core}
use Rattle.mark_core.specs.WellFormed.{IsWellFormed}
use Rattle.mark_core.specs.Laws.{ArePacketsSound, CountShowsQuiet}
use Rattle.mark_core.proofs.Count.CountMoves.{bit, all-pass}
use Rattle.mark_core.proofs.Pool.PoolPlaces.{holder-counts, among-unheld}
use Rattle.mark_core.specs.declared.kinds.Shape.{Shape}
use Rattle.mark_core.specs.declared.seat.SeatState.{SeatState}

-- the packet in the slot exists
abbrev Within : Shape → Slot → Type 0
Within sh x = IfSome x (λ h. h.0 < sh.packets)

-- a packet that is held, if one is
some_held : (sh : Shape) (hs : Slots) → All (Within sh) hs → holds_any hs ≡ true → (p : ℕ) × (p < sh.packets) × (holds hs p ≡ true)
some_held sh [] a e = absurd (false≢true e)
some_held sh (None ∷ hs) a e = some_held sh hs (All-tail (Within sh) None hs a) e
some_held sh (Some x ∷ hs) a e = (x.0, All-head (Within sh) (Some x) hs a, rw (eq-eqb x.0 x.0 refl) refl)

idle : (b : Bool) → (b ≡ true → ⊥) → b ≡ false
idle true h = absurd (h refl)
idle false h = refl

-- if the count shows it, each packet is in the empty pool
all_empty : (c : Core) → ArePacketsSound c → (words_of c.shape c.words).empty ≡ 64 + c.shape.packets → (p : ℕ) → p < c.shape.packets → in_pool c.shape (words_of c.shape c.words).pools 0 p ≡ true
all_empty c k e p h =
    let sh : Shape = c.shape in
    let w : Words = words_of sh c.words in
    let test : ℕ → Bool = in_pool sh w.pools 0 in
    let long : length (range_with_len 0 sh.packets) ≡ sh.packets = length-range_with_len 0 sh.packets in
    let full : length (range_with_len 0 sh.packets) ≤ empty_packets sh w.pools = omega (arith, k.counts.counted, e, long) in
    let at : get_or (range_with_len 0 sh.packets) p 0 ≡ p = get_or-range_with_len 0 sh.packets p 0 h ∙ omega arith in
    subst (λ (x : ℕ). test x ≡ true) at (all-pass test (range_with_len 0 sh.packets) full p 0 (omega (arith, long, h)))

-- no seat holds a packet of the empty pool
unheld : (c : Core) → ArePacketsSound c → (p : ℕ) → p < c.shape.packets → in_pool c.shape (words_of c.shape c.words).pools 0 p ≡ true → holder_count (hands c.seats) p ≡ 0
unheld c k p h e = let one : bit (in_pool c.shape (words_of c.shape c.words).pools 0 p) ≡ 1 = ap bit e in omega (arith, k.pools.one_place p h, one)

-- no seat holds a packet
pub quiet-hands : (c : Core) → IsWellFormed c → ArePacketsSound c → (words_of c.shape c.words).empty ≡ 64 + c.shape.packets → All (λ (s : SeatState). IsFalse (holds_any s.held)) c.seats
quiet-hands c formed k e i d l =
    let sh : Shape = c.shape in
    let s : SeatState = get_or c.seats i d in
    idle (holds_any s.held)
    (λ f.
    let within : All (Within sh) s.held = (formed.seats i s (slice_get-get_or c.seats i d l)).held.within in
    let one = some_held sh s.held within f in
    let long : i < length (hands c.seats) = rw length-map l in
    let at : get_or (hands c.seats) i s.held ≡ s.held = get_or-map (λ (t : SeatState). t.held) c.seats i d s.held l in
    let holder : 1 ≤ holder_count (hands c.seats) one.0 = holder-counts (hands c.seats) i one.0 s.held long (rw at one.2) in
    omega (arith, holder, unheld c k one.0 one.1 (all_empty c k e one.0 one.1)))

-- no head names an entry
pub quiet-heads : (c : Core) → ArePacketsSound c → (words_of c.shape c.words).empty ≡ 64 + c.shape.packets → EachPacket c.shape (λ p. slice_index (words_of c.shape c.words).heads p ≡ 0)
quiet-heads c k e p h = k.pools.empty_pool p h (all_empty c k e p h)

pub quiet : CountShowsQuiet
quiet c formed k e =
    record {
      no_packet = λ p h. rw (among-unheld (hands c.seats) p (unheld c k p h (all_empty c k e p h))) (quiet-heads c k e p h);
      no_seat =
          λ i d l.
          idle (work_in_hand c.shape.fields (get_or c.seats i d))
          (λ f. true≢false (sym (k.counts.work_holds i d l f) ∙ quiet-hands c formed k e i d l));
    }
