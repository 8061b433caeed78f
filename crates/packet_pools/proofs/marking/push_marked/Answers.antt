use Rattle.std.proofs.Common.{ℕ, ◌≡◌, ◌≤◌, ◌+◌, [], ◌∷◌, ◌++◌, List, refl, sym, ap, ◌∙◌, subst, arith, Some, None}
use Rattle.mark_core.specs.declared.kinds.Shape.{Shape}
use Rattle.mark_core.specs.declared.kinds.Step.TheVariants.{Push, DirtyCard}
use Rattle.mark_core.specs.declared.seat.SeatState.{SeatState}
use Rattle.gc_table.specs.declared.view.Entry.{Entry}
use Rattle.gc_table.specs.declared.view.View.{View}
use Rattle.gc_table.specs.Seats.{view_of}
use Rattle.gc_table.specs.Taking.{after, May}
use Rattle.packet_pools.specs.declared.held.Held.{Held}
use Rattle.gc_table.specs.Log.{events}
use Rattle.packet_pools.specs.Scanning.{InHand, Pushes}
use Rattle.gc_table.proofs.History.Log.{entry_of, events-after, events-join}
use Rattle.packet_pools.proofs.TracedSteps.{traced-join}
use Rattle.packet_pools.proofs.Doing.{traces-on}
use Rattle.packet_pools.proofs.ScanSteps.{fresh-answers, may-dirty_card, traced-dirty_card}
use Rattle.packet_pools.specs.declared.search.Search.{Search}
use Rattle.packet_pools.specs.StepBounds.{room_left}
use Rattle.packet_pools.specs.Tried.{SearchesOn}
use Rattle.packet_pools.proofs.Few.{few-after, few-sum}
use Rattle.packet_pools.proofs.RoomLeft.{room-push}
use Rattle.packet_pools.proofs.Tried.{searches-join, searches-lost, searches-push, searches-quiet}
use Rattle.packet_pools.proofs.Counting.{counts-dirty, counts-join, counts-moves, counts-push, quiet}
use Rattle.packet_pools.proofs.Reading.{asks-join, asks-moves}
use Rattle.packet_pools.proofs.Pushed.{dirtied, pushed, pushes-from}
use Rattle.mark_core.specs.Cards.{card_of}
use Rattle.packet_pools.proofs.marking.push_marked.Goals as goal

-- the hand is as before if nothing but slots changed
same-hand : (v w : View) (c : ℕ) → w.state ≡ record v.state { held = w.state.held } → InHand None (Some c) v.state → InHand None (Some c) w.state
same-hand v w c e h = record { popped = ap (λ (s : SeatState). s.popped) e ∙ h.popped; value = ap (λ (s : SeatState). s.value) e ∙ h.value; fresh = ap (λ (s : SeatState). s.fresh) e ∙ h.fresh }

pub returns-in-Ok-clause-only : goal.returns-in-Ok-clause-only
returns-in-Ok-clause-only c = traced-join (view_of c.args.seat.now) (view_of c.make_room.new.seat) (view_of c.push.new.seat) c.make_room.ensures.only c.in-Ok.ensures.only

pub returns-in-Ok-clause-pushes : goal.returns-in-Ok-clause-pushes
returns-in-Ok-clause-pushes c =
    let v : View = view_of c.args.seat.now in
    let w : View = view_of c.make_room.new.seat in
    let x : View = view_of c.push.new.seat in
    let h : Held = c.args.out.now in
    let k : Held = c.make_room.new.out in
    let m = c.make_room.ensures in
    let p = c.in-Ok.ensures.pushed in
    let fits : k.length + 1 ≤ w.shape.entries = subst (λ (s : Shape). k.length + 1 ≤ s.entries) (sym m.seat.0.1) (let l = p.0 in omega (arith, l)) in
    subst (λ (s : SeatState). Pushes h c.push.new.held s.scan s.cleaning v x) m.state
    (subst (λ (l : Held). Pushes h l w.state.scan w.state.cleaning v x) (sym p.1)
    (pushes-from v w x h k (record k { length = k.length + 1 }) w.state.scan w.state.cleaning m.out (ap (λ (s : SeatState). s.owes) m.state)
    (pushed w x k c.args.cell _ p.2 (same-hand v w c.args.cell m.state c.requires.hand) fits m.out.held m.out.free)))

pub returns-in-Ok-clause-counts : goal.returns-in-Ok-clause-counts
returns-in-Ok-clause-counts c =
    let sh : Shape = c.args.heap.now.shape in
    let v : View = view_of c.args.seat.now in
    let w : View = view_of c.make_room.new.seat in
    let x : View = view_of c.push.new.seat in
    let m = c.make_room.ensures in
    let p = c.in-Ok.ensures.pushed in
    counts-join sh 0 0 0 0 1 1 0 0 0 (events v w) (entry_of (Push c.make_room.new.out.packet c.args.cell) _ ∷ []) (events v x)
    (events-join v w x m.only.log c.in-Ok.ensures.only.log ∙ ap (λ (l : List Entry). events v w ++ l) (events-after w x _ _ p.2))
    refl
    refl
    refl
    (counts-moves sh (events v w) m.moves)
    (counts-push sh _ _ _)

pub dirty_card-requires-clause-may : goal.dirty_card-requires-clause-may
dirty_card-requires-clause-may c =
    let v : View = view_of c.args.seat.now in
    let w : View = view_of c.make_room.new.seat in
    let x : View = view_of c.push.new.seat in
    let e = c.in-Err.ensures in
    let fresh = ap (λ (z : View). z.state.fresh) e.full.2 ∙ (same-hand v w c.args.cell c.make_room.ensures.state c.requires.hand).fresh in
    subst (λ k. May (DirtyCard k) x) (sym c.card_of.ensures) (may-dirty_card x c.args.cell e.seat.1.may fresh)

-- the card was dirtied after the search for a packet
lost-step : (w x y : View) (k card : ℕ) (n : ℕ) → x ≡ w → k ≡ card → y ≡ after (DirtyCard k) n x → y ≡ after (DirtyCard card) n w
lost-step w x y k card n a b e = e ∙ (λ i. after (DirtyCard (b i)) n (a i))

pub returns-in-Err-clause-only : goal.returns-in-Err-clause-only
returns-in-Err-clause-only c =
    let v : View = view_of c.args.seat.now in
    let w : View = view_of c.make_room.new.seat in
    let y : View = view_of c.dirty_card.new.seat in
    traced-join v w y c.make_room.ensures.only (traced-dirty_card w y _ (card_of c.args.cell) refl (fresh-answers w.state c.args.cell (card_of c.args.cell) (same-hand v w c.args.cell c.make_room.ensures.state c.requires.hand).fresh refl) (lost-step w (view_of c.push.new.seat) y c.card_of.result (card_of c.args.cell) _ c.in-Err.ensures.full.2 c.card_of.ensures c.dirty_card.ensures.view))

pub returns-in-Err-clause-seat : goal.returns-in-Err-clause-seat
returns-in-Err-clause-seat c =
    let x : View = view_of c.push.new.seat in
    let y : View = view_of c.dirty_card.new.seat in
    let e = c.dirty_card.ensures.view in
    let fresh = ap (λ (z : View). z.state.fresh) c.in-Err.ensures.full.2 ∙ (same-hand (view_of c.args.seat.now) (view_of c.make_room.new.seat) c.args.cell c.make_room.ensures.state c.requires.hand).fresh in
    (c.dirty_card.ensures.seat, traces-on x y (traced-dirty_card x y _ c.card_of.result refl (fresh-answers x.state c.args.cell c.card_of.result fresh (sym c.card_of.ensures)) e) c.in-Err.ensures.seat.1 (ap (λ (z : View). z.state.reserved) e) (ap (λ (z : View). z.state.credit) e))

pub returns-in-Err-clause-pushes : goal.returns-in-Err-clause-pushes
returns-in-Err-clause-pushes c =
    let v : View = view_of c.args.seat.now in
    let w : View = view_of c.make_room.new.seat in
    let y : View = view_of c.dirty_card.new.seat in
    let h : Held = c.args.out.now in
    let k : Held = c.make_room.new.out in
    let m = c.make_room.ensures in
    let f = c.in-Err.ensures.full in
    let e = lost-step w (view_of c.push.new.seat) y c.card_of.result (card_of c.args.cell) _ f.2 c.card_of.ensures c.dirty_card.ensures.view in
    subst (λ (s : SeatState). Pushes h c.push.new.held s.scan s.cleaning v y) m.state
    (subst (λ (l : Held). Pushes h l w.state.scan w.state.cleaning v y) (sym f.1)
    (pushes-from v w y h k k w.state.scan w.state.cleaning m.out (ap (λ (s : SeatState). s.owes) m.state)
    (dirtied w y k c.args.cell _ e (same-hand v w c.args.cell m.state c.requires.hand) m.out.held m.out.free)))

pub returns-in-Err-clause-counts : goal.returns-in-Err-clause-counts
returns-in-Err-clause-counts c =
    let sh : Shape = c.args.heap.now.shape in
    let v : View = view_of c.args.seat.now in
    let w : View = view_of c.make_room.new.seat in
    let y : View = view_of c.dirty_card.new.seat in
    let m = c.make_room.ensures in
    let f = c.in-Err.ensures.full in
    let e = lost-step w (view_of c.push.new.seat) y c.card_of.result (card_of c.args.cell) _ f.2 c.card_of.ensures c.dirty_card.ensures.view in
    counts-join sh 0 0 0 0 0 0 0 1 1 (events v w) (entry_of (DirtyCard (card_of c.args.cell)) _ ∷ []) (events v y)
    (events-join v w y m.only.log (traced-dirty_card w y _ (card_of c.args.cell) refl (fresh-answers w.state c.args.cell (card_of c.args.cell) (same-hand v w c.args.cell m.state c.requires.hand).fresh refl) e).log ∙ ap (λ (l : List Entry). events v w ++ l) (events-after w y _ _ e))
    refl
    refl
    refl
    (counts-moves sh (events v w) m.moves)
    (counts-dirty sh _ _)

pub returns-in-Ok-clause-asks : goal.returns-in-Ok-clause-asks
returns-in-Ok-clause-asks c =
    let v : View = view_of c.args.seat.now in
    let w : View = view_of c.make_room.new.seat in
    let x : View = view_of c.push.new.seat in
    let m = c.make_room.ensures in
    asks-join [] [] (events v w) (entry_of (Push c.make_room.new.out.packet c.args.cell) _ ∷ []) (events v x)
    (events-join v w x m.only.log c.in-Ok.ensures.only.log ∙ ap (λ (l : List Entry). events v w ++ l) (events-after w x _ _ c.in-Ok.ensures.pushed.2))
    (asks-moves (events v w) m.moves)
    (record { read = refl; named = refl; asked = refl })

pub returns-in-Err-clause-asks : goal.returns-in-Err-clause-asks
returns-in-Err-clause-asks c =
    let v : View = view_of c.args.seat.now in
    let w : View = view_of c.make_room.new.seat in
    let y : View = view_of c.dirty_card.new.seat in
    let m = c.make_room.ensures in
    let e = lost-step w (view_of c.push.new.seat) y c.card_of.result (card_of c.args.cell) _ c.in-Err.ensures.full.2 c.card_of.ensures c.dirty_card.ensures.view in
    asks-join [] [] (events v w) (entry_of (DirtyCard (card_of c.args.cell)) _ ∷ []) (events v y)
    (events-join v w y m.only.log (traced-dirty_card w y _ (card_of c.args.cell) refl (fresh-answers w.state c.args.cell (card_of c.args.cell) (same-hand v w c.args.cell m.state c.requires.hand).fresh refl) e).log ∙ ap (λ (l : List Entry). events v w ++ l) (events-after w y _ _ e))
    (asks-moves (events v w) m.moves)
    (record { read = refl; named = refl; asked = refl })

pub returns-in-Ok-clause-few : goal.returns-in-Ok-clause-few
returns-in-Ok-clause-few c =
    let sh : Shape = c.args.heap.now.shape in
    let v : View = view_of c.args.seat.now in
    let w : View = view_of c.make_room.new.seat in
    let x : View = view_of c.push.new.seat in
    let t : Search = c.make_room.new.search in
    let m = c.make_room.ensures in
    let e = c.in-Ok.ensures in
    let all = few-sum v w x m.only.ran e.only.ran in
    let first = m.few in
    let one = few-after w x _ _ e.pushed.2 in
    let same = ap (λ (l : Held). room_left sh t l.length) e.pushed.1 in
    let more = room-push sh t c.make_room.new.out.length in
    omega (arith, all, first, one, same, more)

pub returns-in-Err-clause-few : goal.returns-in-Err-clause-few
returns-in-Err-clause-few c =
    let sh : Shape = c.args.heap.now.shape in
    let v : View = view_of c.args.seat.now in
    let w : View = view_of c.make_room.new.seat in
    let y : View = view_of c.dirty_card.new.seat in
    let m = c.make_room.ensures in
    let f = c.in-Err.ensures.full in
    let e = lost-step w (view_of c.push.new.seat) y c.card_of.result (card_of c.args.cell) _ f.2 c.card_of.ensures c.dirty_card.ensures.view in
    let last = traced-dirty_card w y _ (card_of c.args.cell) refl (fresh-answers w.state c.args.cell (card_of c.args.cell) (same-hand v w c.args.cell m.state c.requires.hand).fresh refl) e in
    let all = few-sum v w y m.only.ran last.ran in
    let first = m.few in
    let one = few-after w y _ _ e in
    let same = ap (λ (l : Held). room_left sh c.make_room.new.search l.length) f.1 in
    omega (arith, all, first, one, same)

pub returns-in-Ok-clause-tried : goal.returns-in-Ok-clause-tried
returns-in-Ok-clause-tried c =
    let sh : Shape = c.args.heap.now.shape in
    let v : View = view_of c.args.seat.now in
    let w : View = view_of c.make_room.new.seat in
    let x : View = view_of c.push.new.seat in
    let s : Search = c.args.search.now in
    let t : Search = c.make_room.new.search in
    let h : Held = c.args.out.now in
    let k : Held = c.make_room.new.out in
    let m = c.make_room.ensures in
    let p = c.in-Ok.ensures.pushed in
    subst (λ (l : Held). SearchesOn sh s t h l (events v x)) (sym p.1)
    (searches-join sh s t t h k (record k { length = k.length + 1 }) (events v w) (entry_of (Push k.packet c.args.cell) _ ∷ []) (events v x)
    (events-join v w x m.only.log c.in-Ok.ensures.only.log ∙ ap (λ (l : List Entry). events v w ++ l) (events-after w x _ _ p.2))
    (searches-quiet sh s t h k (events v w) (quiet (events v w) m.moves) m.leads)
    (searches-push sh t k c.args.cell _))

pub returns-in-Err-clause-tried : goal.returns-in-Err-clause-tried
returns-in-Err-clause-tried c =
    let sh : Shape = c.args.heap.now.shape in
    let v : View = view_of c.args.seat.now in
    let w : View = view_of c.make_room.new.seat in
    let y : View = view_of c.dirty_card.new.seat in
    let s : Search = c.args.search.now in
    let t : Search = c.make_room.new.search in
    let h : Held = c.args.out.now in
    let k : Held = c.make_room.new.out in
    let m = c.make_room.ensures in
    let f = c.in-Err.ensures.full in
    let e = lost-step w (view_of c.push.new.seat) y c.card_of.result (card_of c.args.cell) _ f.2 c.card_of.ensures c.dirty_card.ensures.view in
    subst (λ (l : Held). SearchesOn sh s t h l (events v y)) (sym f.1)
    (searches-join sh s t t h k k (events v w) (entry_of (DirtyCard (card_of c.args.cell)) _ ∷ []) (events v y)
    (events-join v w y m.only.log (traced-dirty_card w y _ (card_of c.args.cell) refl (fresh-answers w.state c.args.cell (card_of c.args.cell) (same-hand v w c.args.cell m.state c.requires.hand).fresh refl) e).log ∙ ap (λ (l : List Entry). events v w ++ l) (events-after w y _ _ e))
    (searches-quiet sh s t h k (events v w) (quiet (events v w) m.moves) m.leads)
    (subst (λ (z : Search). SearchesOn sh z z k k (entry_of (DirtyCard (card_of c.args.cell)) _ ∷ [])) (sym (m.full f.0)) (searches-lost sh k (card_of c.args.cell) _ f.0)))
