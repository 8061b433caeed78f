use Rattle.std.proofs.Common.{◌≡◌, ◌≢◌, ◌<◌, ◌≤◌, ◌∷◌, ◌++◌, [], arith, sym, ap, ◌∙◌, refl, subst, eqb-true, eq-eqb, inl, inr, ⊎_elim}
use Rattle.std.proofs.lemmas.Bool.{true≢false}
use Rattle.mark_core.specs.Layout.{card_count}
use Rattle.mark_core.specs.Seats.{work_in_hand, scan_left}
use Rattle.mark_core.specs.declared.kinds.Shape.{Shape}
use Rattle.mark_core.specs.declared.kinds.Step.TheVariants.{ClearCard}
use Rattle.gc_table.specs.declared.view.View.{View}
use Rattle.gc_table.specs.Seats.{view_of}
use Rattle.gc_table.specs.Log.{events, event}
use Rattle.packet_pools.proofs.Doing.{traces-on}
use Rattle.packet_pools.proofs.TracedSteps.{cleaned-join, traced-cleaned}
use Rattle.gc_table.proofs.History.Log.{events-after, events-join}
use Rattle.card_clean.specs.declared.cleaned.Cleaned.{Cleaned}
use Rattle.card_clean.specs.Leaving.{rescanned_in}
use Rattle.card_clean.proofs.Leavings.{rescanned-join}
use Rattle.card_clean.proofs.Steps.{may-clear_card, traced-clear_card, card-small, idle-hand}
use Rattle.packet_pools.proofs.Few.{few-after, few-sum}
use Rattle.packet_pools.proofs.Overflows.{overflows-join}
use Rattle.card_clean.proofs.Searched.{overflows-still}
use Rattle.std.proofs.lemmas.Bool.{false≢true}
use Rattle.mark_core.specs.declared.seat.SeatState.{SeatState}
use Rattle.packet_pools.specs.Counts.{count_of, dirties}
use Rattle.packet_pools.proofs.Counting.{count-join}
use Rattle.card_clean.proofs.Spilled.{card-spills, spills-clear}
use Rattle.card_clean.proofs.cleaning.clean_card_on.Goals as goal

pub clear_card-requires-clause-may : goal.clear_card-requires-clause-may
clear_card-requires-clause-may c =
    let v : View = view_of c.args.seat.now in
    let shape : v.shape ≡ c.args.heap.now.shape = c.requires.seat.0.1 in
    may-clear_card v c.args.card c.args.out.now c.requires.seat.1.may (subst (λ (sh : Shape). c.args.card < card_count sh) (sym shape) c.requires.card) c.requires.out.0 (ap (λ (sh : Shape). work_in_hand sh.fields v.state) shape ∙ c.requires.work)

pub returns-then-not-clear_card-clause-only : goal.returns-then-not-clear_card-clause-only
returns-then-not-clear_card-clause-only c =
    let e = c.clear_card.ensures.view in
    traced-cleaned (view_of c.args.seat.now) (view_of c.clear_card.new.seat) (traced-clear_card (view_of c.args.seat.now) (view_of c.clear_card.new.seat) e.0 c.args.card e.2 e.1)

pub returns-then-not-clear_card-clause-seat : goal.returns-then-not-clear_card-clause-seat
returns-then-not-clear_card-clause-seat c =
    let v : View = view_of c.args.seat.now in
    let w : View = view_of c.clear_card.new.seat in
    let e = c.clear_card.ensures.view in
    (c.clear_card.ensures.seat, traces-on v w (traced-clear_card v w e.0 c.args.card e.2 e.1) c.requires.seat.1 (ap (λ (z : View). z.state.reserved) e.1) (ap (λ (z : View). z.state.credit) e.1))

pub returns-then-not-clear_card-clause-cleans : goal.returns-then-not-clear_card-clause-cleans
returns-then-not-clear_card-clause-cleans c =
    let v : View = view_of c.args.seat.now in
    let w : View = view_of c.clear_card.new.seat in
    let e = c.clear_card.ensures.view in
    let f = e.2 in
    let below : c.args.card < card_count f.state.core.shape = subst (λ (sh : Shape). c.args.card < card_count sh) (sym c.requires.seat.0.1 ∙ f.agrees.shape) c.requires.card in
    let small : e.0 ≤ 1 = card-small f.state c.args.card e.0 f.whole below f.word in
    let other : e.0 ≢ 1 = λ o. true≢false (sym (eq-eqb e.0 1 o) ∙ (sym e.3 ∙ c.if-not-clear_card.true)) in
    let none : e.0 ≡ 0 = omega (arith, small, other) in
    inl (record { result = c.nothing.ensures; events_are = events-after v w (ClearCard c.args.card) e.0 e.1 ∙ ap (λ n. event (ClearCard c.args.card) n ∷ []) none })

pub rescan_card-requires-clause-seat : goal.rescan_card-requires-clause-seat
rescan_card-requires-clause-seat c =
    let v : View = view_of c.args.seat.now in
    let w : View = view_of c.clear_card.new.seat in
    let e = c.clear_card.ensures.view in
    (c.clear_card.ensures.seat, traces-on v w (traced-clear_card v w e.0 c.args.card e.2 e.1) c.requires.seat.1 (ap (λ (z : View). z.state.reserved) e.1) (ap (λ (z : View). z.state.credit) e.1))

pub rescan_card-requires-clause-hand : goal.rescan_card-requires-clause-hand
rescan_card-requires-clause-hand c =
    let e = c.clear_card.ensures.view.1 in
    let h = idle-hand c.args.heap.now.shape.fields (view_of c.args.seat.now).state c.requires.work in
    record { popped = ap (λ (z : View). z.state.popped) e ∙ h.0.popped; value = ap (λ (z : View). z.state.value) e ∙ h.0.value; fresh = ap (λ (z : View). z.state.fresh) e ∙ h.0.fresh }

pub rescan_card-requires-clause-over : goal.rescan_card-requires-clause-over
rescan_card-requires-clause-over c =
    ap (λ (z : View). scan_left c.args.heap.now.shape.fields z.state.scan) c.clear_card.ensures.view.1 ∙ (idle-hand c.args.heap.now.shape.fields (view_of c.args.seat.now).state c.requires.work).1

pub returns-clause-only : goal.returns-clause-only
returns-clause-only c =
    let v : View = view_of c.args.seat.now in
    let w : View = view_of c.clear_card.new.seat in
    let e = c.clear_card.ensures.view in
    cleaned-join v w (view_of c.rescan_card.new.seat) (traced-cleaned v w (traced-clear_card v w e.0 c.args.card e.2 e.1)) c.rescan_card.ensures.only

pub returns-clause-owes : goal.returns-clause-owes
returns-clause-owes c =
    let e = c.clear_card.ensures.view.1 in
    ⊎_elim (λ o. inl (o ∙ ap (λ (z : View). z.state.owes) e)) (λ o. inr o) c.rescan_card.ensures.owes

pub returns-clause-cleans : goal.returns-clause-cleans
returns-clause-cleans c =
    let v : View = view_of c.args.seat.now in
    let w : View = view_of c.clear_card.new.seat in
    let x : View = view_of c.rescan_card.new.seat in
    let e = c.clear_card.ensures.view in
    let one : e.0 ≡ 1 = eqb-true e.0 1 (sym e.3 ∙ c.if-not-clear_card.false) in
    inr (
      events w x,
      events-join v w x (traced-clear_card v w e.0 c.args.card e.2 e.1).log c.rescan_card.ensures.only.log ∙ (λ i. (events-after v w (ClearCard c.args.card) e.0 e.1 ∙ ap (λ n. event (ClearCard c.args.card) n ∷ []) one) i ++ events w x),
      c.rescan_card.ensures.rescans,
    )

pub returns-then-not-clear_card-clause-left : goal.returns-then-not-clear_card-clause-left
returns-then-not-clear_card-clause-left c =
    let v : View = view_of c.args.seat.now in
    let e = c.clear_card.ensures.view in
    ap (rescanned_in v) (events-after v (view_of c.clear_card.new.seat) (ClearCard c.args.card) e.0 e.1) ∙ sym (ap (λ (r : Cleaned). r.rescanned) c.nothing.ensures)

pub returns-clause-left : goal.returns-clause-left
returns-clause-left c =
    let v : View = view_of c.args.seat.now in
    let w : View = view_of c.clear_card.new.seat in
    let x : View = view_of c.rescan_card.new.seat in
    let e = c.clear_card.ensures.view in
    let first : rescanned_in v (events v w) ≡ 0 = ap (rescanned_in v) (events-after v w (ClearCard c.args.card) e.0 e.1) in
    let j = rescanned-join v w x (traced-clear_card v w e.0 c.args.card e.2 e.1).ran c.rescan_card.ensures.only.ran in
    omega (arith, j, first, c.rescan_card.ensures.left)

pub returns-then-not-clear_card-clause-few : goal.returns-then-not-clear_card-clause-few
returns-then-not-clear_card-clause-few c = let one = few-after (view_of c.args.seat.now) (view_of c.clear_card.new.seat) (ClearCard c.args.card) _ c.clear_card.ensures.view.1 in omega (arith, one)

pub returns-clause-few : goal.returns-clause-few
returns-clause-few c =
    let v : View = view_of c.args.seat.now in
    let w : View = view_of c.clear_card.new.seat in
    let e = c.clear_card.ensures.view in
    let r = c.rescan_card.ensures in
    let all = few-sum v w (view_of c.rescan_card.new.seat) (traced-clear_card v w e.0 c.args.card e.2 e.1).ran r.only.ran in
    let one = few-after v w _ _ e.1 in
    let rest = r.few in
    omega (arith, all, one, rest)

pub returns-then-not-clear_card-clause-tried : goal.returns-then-not-clear_card-clause-tried
returns-then-not-clear_card-clause-tried c =
    let v : View = view_of c.args.seat.now in
    let w : View = view_of c.clear_card.new.seat in
    let e = c.clear_card.ensures.view in
    overflows-still c.args.heap.now.shape c.args.search.now c.args.out.now (ClearCard c.args.card) e.0 v w e.1 refl (λ p. refl)

pub returns-clause-tried : goal.returns-clause-tried
returns-clause-tried c =
    let sh : Shape = c.args.heap.now.shape in
    let v : View = view_of c.args.seat.now in
    let w : View = view_of c.clear_card.new.seat in
    let x : View = view_of c.rescan_card.new.seat in
    let s = c.args.search.now in
    let h = c.args.out.now in
    let e = c.clear_card.ensures.view in
    let r = c.rescan_card.ensures in
    overflows-join sh s s c.rescan_card.new.search h h c.rescan_card.new.out (events v w) (events w x) (events v x)
    (events-join v w x (traced-clear_card v w e.0 c.args.card e.2 e.1).log r.only.log)
    (overflows-still sh s h (ClearCard c.args.card) e.0 v w e.1 refl (λ p. refl))
    r.tried

pub returns-then-not-clear_card-clause-clean : goal.returns-then-not-clear_card-clause-clean
returns-then-not-clear_card-clause-clean c = λ still dirty. absurd (false≢true (sym (ap (λ (r : Cleaned). r.redirtied) c.nothing.ensures) ∙ dirty))

pub returns-clause-clean : goal.returns-clause-clean
returns-clause-clean c = λ still dirty.
    let v : View = view_of c.args.seat.now in
    let w : View = view_of c.clear_card.new.seat in
    let x : View = view_of c.rescan_card.new.seat in
    let e = c.clear_card.ensures.view in
    let first = traced-clear_card v w e.0 c.args.card e.2 e.1 in
    let most = c.rescan_card.ensures.clean (ap (λ (s : SeatState). s.active) first.rest ∙ still) dirty in
    let all = ap (count_of dirties) (events-join v w x first.log c.rescan_card.ensures.only.log) ∙ count-join dirties (events v w) (events w x) in
    omega (arith, most, all)

pub returns-then-not-clear_card-clause-spills : goal.returns-then-not-clear_card-clause-spills
returns-then-not-clear_card-clause-spills c = λ still.
    let v : View = view_of c.args.seat.now in
    let w : View = view_of c.clear_card.new.seat in
    let e = c.clear_card.ensures.view in
    spills-clear c.args.card e.0 (events v w) (events-after v w (ClearCard c.args.card) e.0 e.1)

pub returns-clause-spills : goal.returns-clause-spills
returns-clause-spills c = λ still.
    card-spills c.args.heap.now.shape c.args.card c.rescan_card.result (events (view_of c.args.seat.now) (view_of c.rescan_card.new.seat)) (returns-clause-cleans c) (returns-clause-clean c still)
