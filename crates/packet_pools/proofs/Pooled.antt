-- While a seat is alone and has no packet in hand each packet is in a pool.
use Rattle.std.proofs.Common.{ℕ, ◌≡◌, ◌≢◌, ◌<◌, ◌+◌, ◌/◌, ◌%◌, List, length, get_or, Some, arith, sym, ap, ◌∙◌, subst, ⊎_elim, true, false}
use Rattle.std.specs.Prelude.{IsFalse, slice_get}
use Rattle.std.specs.List.{All}
use Rattle.std.proofs.lemmas.Bool.{cases_eq}
use Rattle.std.proofs.lemmas.List.{length-map, get_or-map, get_or_default}
use Rattle.mark_core.specs.Bits.{has_bit}
use Rattle.mark_core.specs.Cells.{in_pool, pool_count, holder_count}
use Rattle.mark_core.specs.Held.{Slots, holds, holds_any}
use Rattle.mark_core.specs.Layout.{words_of}
use Rattle.mark_core.specs.Laws.{IsCore}
use Rattle.mark_core.specs.Numbers.{word_bits}
use Rattle.mark_core.specs.Places.{pool_at}
use Rattle.mark_core.specs.Rules.WorldRules.{IsEmpty}
use Rattle.mark_core.specs.Seats.{takes_part}
use Rattle.mark_core.specs.Steps.{Core}
use Rattle.mark_core.specs.Views.{hands}
use Rattle.mark_core.specs.declared.kinds.Shape.{Shape}
use Rattle.mark_core.specs.declared.seat.SeatState.{SeatState}
use Rattle.mark_core.proofs.Count.CountMoves.{bit, count-none}
use Rattle.mark_core.proofs.Notes.NotesBeside.{Sits, sits, of-sits, beside}
use Rattle.mark_core.proofs.Pool.PoolSlots.{none-held}
use Rattle.gc_table.specs.Rule.{Agrees, IsState}
use Rattle.gc_table.specs.TableState.{TableState}
use Rattle.gc_table.specs.declared.view.View.{View}
use Rattle.packet_pools.specs.Outside.{IsNotedOutside, AreNotedOutside}

-- the others hold no packet while a seat is alone
others-hold : (c : Core) (i : ℕ) (s : SeatState) (p : ℕ) → IsCore c → slice_get c.seats i ≡ Some s → s.alone ≡ true → holds_any s.held ≡ false → All (λ (h : Slots). holds h p ≡ false) (hands c.seats)
others-hold c i s p core got alone none j d h =
    let within : j < length c.seats = rw length-map at h in
    let t : SeatState = get_or c.seats j s in
    let k : Sits c i s = sits c i s got in
    let here : get_or (hands c.seats) j d ≡ t.held = get_or-map (λ (x : SeatState). x.held) c.seats j s d within in
    let held : holds t.held p ≡ false =
    ⊎_elim
    (λ (e : i ≡ j). ap (λ (x : SeatState). holds x.held p) (subst (λ n. get_or c.seats n s ≡ s) e k.is) ∙ none-held s.held p none)
    (λ (n : i ≢ j).
    let l : Sits c j t = record { within = within; is = get_or_default c.seats j t s within } in
    let out : takes_part t ≡ false = (beside c i j s t core n k l).alone_quiet alone in
    none-held t.held p (of-sits (λ (x : SeatState). IsFalse (takes_part x) → IsEmpty c.shape x) c j t l core.sound.world.outside_empty out).no_packet)
    (cases_eq i j) in
    ap (λ (x : Slots). holds x p) here ∙ held

-- what is noted of a packet is so
is-outside : (x : TableState) (i : ℕ) (v : View) (q p : ℕ) → Agrees x i v → IsNotedOutside q p v → in_pool x.core.shape (words_of x.core.shape x.core.words).pools q p ≡ false
is-outside x i v q p a k =
    let at : ℕ × ℕ = pool_at v.shape q (p / word_bits) in
    let word = (a.noted at k.0 k.1).1 in
    ap (λ (sh : Shape). in_pool sh (words_of x.core.shape x.core.words).pools q p) (sym a.shape) ∙ (ap (λ n. has_bit n (p % word_bits)) word ∙ k.2)

-- so a packet that is noted to be in no pool can't be
pub alone-pooled : (x : TableState) (i : ℕ) (v : View) → IsState x → Agrees x i v → v.state.alone ≡ true → holds_any v.state.held ≡ false → AreNotedOutside 0 v → AreNotedOutside 1 v → AreNotedOutside 2 v → AreNotedOutside 3 v → ⊥
alone-pooled x i v w a alone none empty low high deferred =
    let c : Core = x.core in
    let pools : List ℕ = (words_of c.shape c.words).pools in
    let there : 0 < v.shape.packets = subst (λ (sh : Shape). 0 < sh.packets) (sym a.shape) (let two = w.core.formed.shaped.packets.0 in omega (arith, two)) in
    let one : pool_count c.shape pools 0 + holder_count (hands c.seats) 0 ≡ 1 = w.core.sound.pools.one_place 0 (subst (λ (sh : Shape). 0 < sh.packets) a.shape there) in
    let unheld : holder_count (hands c.seats) 0 ≡ 0 = count-none (λ (h : Slots). holds h 0) (hands c.seats) (others-hold c i v.state 0 w.core a.seat alone none) in
    let out = λ (q : ℕ) (k : AreNotedOutside q v). ap bit (is-outside x i v q 0 a (k 0 there)) in
    omega (arith, one, unheld, out 0 empty, out 1 low, out 2 high, out 3 deferred)
