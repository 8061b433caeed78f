use Rattle.std.proofs.Common.{arith, ◌-◌, ◌≡◌, ◌+◌, ◌%◌, [], ◌∷◌, ◌++◌, List, refl, sym, ap, ◌∙◌, subst, Bool, true, false, not, cond, ◌≤◌}
use mir.Val.{bool_byte}
use Rattle.std.proofs.lemmas.Bool.{true≢false, false≢true}
use Rattle.mark_core.specs.Bits.{has_bit}
use Rattle.mark_core.specs.Cards.{block_cells}
use Rattle.mark_core.specs.declared.kinds.Shape.{Shape}
use Rattle.mark_core.specs.declared.kinds.Step.TheVariants.{SetMark}
use Rattle.gc_table.specs.declared.view.Entry.{Entry}
use Rattle.gc_table.specs.declared.view.View.{View}
use Rattle.gc_table.specs.Seats.{view_of}
use Rattle.gc_table.specs.Log.{events}
use Rattle.packet_pools.specs.OnlyTraced.{IsNotedMarked}
use Rattle.packet_pools.specs.Counts.{CountsMarked}
use Rattle.gc_table.proofs.History.Log.{entry_of, events-after, events-join}
use Rattle.packet_pools.proofs.TracedSteps.{marked-stays, traced-join, marks-noted}
use Rattle.packet_pools.proofs.Doing.{traces-on}
use Rattle.packet_pools.proofs.ScanSteps.{may-set_mark, traced-set_mark}
use Rattle.packet_pools.specs.Counts.{dirties}
use Rattle.packet_pools.specs.Seeking.{some_event, was_got}
use Rattle.packet_pools.proofs.Few.{few-after, few-sum}
use Rattle.packet_pools.proofs.Tried.{searches-join, searches-still}
use Rattle.packet_pools.proofs.Counting.{counts-join, counts-mark}
use Rattle.packet_pools.specs.Fields.{AsksToMark}
use Rattle.packet_pools.proofs.Reading.{asks-join}
use Rattle.packet_pools.proofs.Pushed.{black, white, pushes-after}
use Rattle.packet_pools.proofs.marking.mark_cell.Goals as goal

from_not : (b d : Bool) → not b ≡ not d → b ≡ d
from_not true true e = refl
from_not true false e = absurd (false≢true e)
from_not false true e = absurd (true≢false e)
from_not false false e = refl

one-byte : (b : Bool) → 0 + cond b 1 0 ≡ bool_byte b
one-byte true = refl
one-byte false = refl

byte-most : (b : Bool) → bool_byte b ≤ 1
byte-most true = omega arith
byte-most false = omega arith

pub returns-clause-most : goal.returns-clause-most
returns-clause-most c =
    let most = byte-most c.push_marked-overflowed.result in
    let byte = c.from.ensures in
    (omega (arith, most, byte), omega arith)

one-less : (b : Bool) → 0 + cond b 0 1 ≡ 1 - bool_byte b
one-less true = refl
one-less false = refl

pub set_mark-requires-clause-may : goal.set_mark-requires-clause-may
set_mark-requires-clause-may c = may-set_mark (view_of c.args.seat.now) c.args.cell c.requires.seat.1.may c.requires.hand.value

pub returns-then-not-set_mark-clause-seat : goal.returns-then-not-set_mark-clause-seat
returns-then-not-set_mark-clause-seat c =
    let v : View = view_of c.args.seat.now in
    let w : View = view_of c.set_mark.new.seat in
    let e = c.set_mark.ensures.view.1 in
    (c.set_mark.ensures.seat, traces-on v w (traced-set_mark v w _ c.args.cell c.set_mark.ensures.view.2 c.requires.hand.fresh e) c.requires.seat.1 (ap (λ (z : View). z.state.reserved) e) (ap (λ (z : View). z.state.credit) e))

pub returns-then-not-set_mark-clause-only : goal.returns-then-not-set_mark-clause-only
returns-then-not-set_mark-clause-only c = traced-set_mark (view_of c.args.seat.now) (view_of c.set_mark.new.seat) _ c.args.cell c.set_mark.ensures.view.2 c.requires.hand.fresh c.set_mark.ensures.view.1

pub returns-then-not-set_mark-clause-pushes : goal.returns-then-not-set_mark-clause-pushes
returns-then-not-set_mark-clause-pushes c =
    let v : View = view_of c.args.seat.now in
    let w : View = view_of c.set_mark.new.seat in
    let s = c.set_mark.ensures.view in
    let bit : has_bit s.0 (c.args.cell % block_cells) ≡ true = from_not _ true (sym s.3 ∙ c.if-not-set_mark.true) in
    black v w c.args.out.now c.args.cell s.0 s.1 bit c.requires.hand c.requires.out.0 c.requires.out.1

pub returns-then-not-set_mark-clause-counts : goal.returns-then-not-set_mark-clause-counts
returns-then-not-set_mark-clause-counts c =
    let sh : Shape = c.args.heap.now.shape in
    let v : View = view_of c.args.seat.now in
    let w : View = view_of c.set_mark.new.seat in
    let s = c.set_mark.ensures.view in
    let bit : has_bit s.0 (c.args.cell % block_cells) ≡ true = from_not _ true (sym s.3 ∙ c.if-not-set_mark.true) in
    subst (λ z. CountsMarked sh z.marked (z.marked - z.overflowed) z.overflowed (events v w)) (sym c.none.ensures)
    (subst (CountsMarked sh 0 0 0) (sym (events-after v w (SetMark c.args.cell) s.0 s.1)) (counts-mark sh c.args.cell s.0 true bit))

pub push_marked-overflowed-requires-clause-seat : goal.push_marked-overflowed-requires-clause-seat
push_marked-overflowed-requires-clause-seat c =
    let v : View = view_of c.args.seat.now in
    let w : View = view_of c.set_mark.new.seat in
    let e = c.set_mark.ensures.view.1 in
    (c.set_mark.ensures.seat, traces-on v w (traced-set_mark v w _ c.args.cell c.set_mark.ensures.view.2 c.requires.hand.fresh e) c.requires.seat.1 (ap (λ (z : View). z.state.reserved) e) (ap (λ (z : View). z.state.credit) e))

pub push_marked-overflowed-requires-clause-hand : goal.push_marked-overflowed-requires-clause-hand
push_marked-overflowed-requires-clause-hand c =
    let s = c.set_mark.ensures.view in
    white (view_of c.args.seat.now) (view_of c.set_mark.new.seat) c.args.cell s.0 s.1 (from_not _ false (sym s.3 ∙ c.if-not-set_mark.false)) c.requires.hand

pub returns-clause-only : goal.returns-clause-only
returns-clause-only c =
    let v : View = view_of c.args.seat.now in
    let w : View = view_of c.set_mark.new.seat in
    traced-join v w (view_of c.push_marked-overflowed.new.seat) (traced-set_mark v w _ c.args.cell c.set_mark.ensures.view.2 c.requires.hand.fresh c.set_mark.ensures.view.1) c.push_marked-overflowed.ensures.only

pub returns-clause-pushes : goal.returns-clause-pushes
returns-clause-pushes c =
    pushes-after (view_of c.args.seat.now) (view_of c.set_mark.new.seat) (view_of c.push_marked-overflowed.new.seat) c.args.out.now c.push_marked-overflowed.new.out c.args.cell _ c.set_mark.ensures.view.1 c.push_marked-overflowed.ensures.pushes

pub returns-clause-counts : goal.returns-clause-counts
returns-clause-counts c =
    let sh : Shape = c.args.heap.now.shape in
    let v : View = view_of c.args.seat.now in
    let w : View = view_of c.set_mark.new.seat in
    let x : View = view_of c.push_marked-overflowed.new.seat in
    let s = c.set_mark.ensures.view in
    let p = c.push_marked-overflowed.ensures in
    let bit : has_bit s.0 (c.args.cell % block_cells) ≡ false = from_not _ false (sym s.3 ∙ c.if-not-set_mark.false) in
    counts-join sh 1 0 1 0 _ _ 0 _ _ (entry_of (SetMark c.args.cell) s.0 ∷ []) (events w x) (events v x)
    (events-join v w x (traced-set_mark v w _ c.args.cell s.2 c.requires.hand.fresh s.1).log p.only.log ∙ ap (λ (l : List Entry). l ++ events w x) (events-after v w _ _ s.1))
    refl
    (one-less c.push_marked-overflowed.result ∙ ap (λ n. 1 - n) (sym c.from.ensures))
    (one-byte c.push_marked-overflowed.result ∙ sym c.from.ensures)
    (counts-mark sh c.args.cell s.0 false bit)
    p.counts

pub returns-then-not-set_mark-clause-asks : goal.returns-then-not-set_mark-clause-asks
returns-then-not-set_mark-clause-asks c =
    let v : View = view_of c.args.seat.now in
    let w : View = view_of c.set_mark.new.seat in
    subst (AsksToMark (c.args.cell ∷ [])) (sym (events-after v w (SetMark c.args.cell) _ c.set_mark.ensures.view.1)) (record { read = refl; named = refl; asked = refl })

pub returns-clause-asks : goal.returns-clause-asks
returns-clause-asks c =
    let v : View = view_of c.args.seat.now in
    let w : View = view_of c.set_mark.new.seat in
    let x : View = view_of c.push_marked-overflowed.new.seat in
    let s = c.set_mark.ensures.view in
    let p = c.push_marked-overflowed.ensures in
    asks-join (c.args.cell ∷ []) [] (entry_of (SetMark c.args.cell) s.0 ∷ []) (events w x) (events v x)
    (events-join v w x (traced-set_mark v w _ c.args.cell s.2 c.requires.hand.fresh s.1).log p.only.log ∙ ap (λ (l : List Entry). l ++ events w x) (events-after v w _ _ s.1))
    (record { read = refl; named = refl; asked = refl })
    p.asks

pub returns-then-not-set_mark-clause-noted : goal.returns-then-not-set_mark-clause-noted
returns-then-not-set_mark-clause-noted c alone =
    let v : View = view_of c.args.seat.now in
    let s = c.set_mark.ensures.view in
    subst (λ (z : View). IsNotedMarked z c.args.cell) (sym s.1) (marks-noted v c.args.cell s.0 alone)

pub returns-clause-noted : goal.returns-clause-noted
returns-clause-noted c alone =
    let v : View = view_of c.args.seat.now in
    let s = c.set_mark.ensures.view in
    marked-stays (view_of c.set_mark.new.seat) (view_of c.push_marked-overflowed.new.seat) c.push_marked-overflowed.ensures.only.ran c.push_marked-overflowed.ensures.only.only c.args.cell (ap (λ (z : View). z.state.alone) s.1 ∙ alone) (subst (λ (z : View). IsNotedMarked z c.args.cell) (sym s.1) (marks-noted v c.args.cell s.0 alone))

pub returns-then-not-set_mark-clause-few : goal.returns-then-not-set_mark-clause-few
returns-then-not-set_mark-clause-few c = let one = few-after (view_of c.args.seat.now) (view_of c.set_mark.new.seat) (SetMark c.args.cell) _ c.set_mark.ensures.view.1 in omega (arith, one)

pub returns-clause-few : goal.returns-clause-few
returns-clause-few c =
    let v : View = view_of c.args.seat.now in
    let w : View = view_of c.set_mark.new.seat in
    let x : View = view_of c.push_marked-overflowed.new.seat in
    let s = c.set_mark.ensures.view in
    let p = c.push_marked-overflowed.ensures in
    let all = few-sum v w x (traced-set_mark v w _ c.args.cell s.2 c.requires.hand.fresh s.1).ran p.only.ran in
    let one = few-after v w _ _ s.1 in
    let rest = p.few in
    omega (arith, all, one, rest)

pub returns-then-not-set_mark-clause-tried : goal.returns-then-not-set_mark-clause-tried
returns-then-not-set_mark-clause-tried c =
    let e = events-after (view_of c.args.seat.now) (view_of c.set_mark.new.seat) (SetMark c.args.cell) _ c.set_mark.ensures.view.1 in
    searches-still c.args.heap.now.shape c.args.search.now c.args.out.now (events (view_of c.args.seat.now) (view_of c.set_mark.new.seat)) (ap (some_event dirties) e) (λ p. ap (was_got p) e)

pub returns-clause-tried : goal.returns-clause-tried
returns-clause-tried c =
    let sh : Shape = c.args.heap.now.shape in
    let v : View = view_of c.args.seat.now in
    let w : View = view_of c.set_mark.new.seat in
    let x : View = view_of c.push_marked-overflowed.new.seat in
    let t = c.args.search.now in
    let h = c.args.out.now in
    let s = c.set_mark.ensures.view in
    let p = c.push_marked-overflowed.ensures in
    let e = events-after v w (SetMark c.args.cell) _ s.1 in
    searches-join sh t t c.push_marked-overflowed.new.search h h c.push_marked-overflowed.new.out (events v w) (events w x) (events v x)
    (events-join v w x (traced-set_mark v w _ c.args.cell s.2 c.requires.hand.fresh s.1).log p.only.log)
    (searches-still sh t h (events v w) (ap (some_event dirties) e) (λ z. ap (was_got z) e))
    p.tried
