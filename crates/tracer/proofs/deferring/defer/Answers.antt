use Rattle.std.proofs.Common.{ℕ, ◌≡◌, None, Option, [], ◌∷◌, sym, ap, ◌∙◌, subst, refl, false, arith}
use Rattle.std.proofs.lemmas.Bool.{false≢true}
use Rattle.mark_core.specs.Seats.{work_in_hand}
use Rattle.mark_core.specs.declared.kinds.Shape.{Shape}
use Rattle.mark_core.specs.declared.kinds.Step.TheVariants.{DirtyCard}
use Rattle.mark_core.specs.declared.seat.SeatState.{SeatState}
use Rattle.gc_table.specs.Taking.{May}
use Rattle.packet_pools.proofs.Doing.{traces-on}
use Rattle.packet_pools.proofs.TracedSteps.{traced-join}
use Rattle.packet_pools.proofs.ScanSteps.{traced-dirty_card}
use Rattle.tracer.specs.declared.packets.Packets.{Packets}
use Rattle.tracer.specs.Hands.{Carries, HasCellAndRoom, in_front, packet_of, packets_of}
use Rattle.tracer.specs.Parts.{Did}
use Rattle.tracer.proofs.Carried.{deferred-back}
use Rattle.tracer.proofs.Hand.{dirtied-work, may-dirty_popped, popped-answers}
use Rattle.tracer.proofs.Joined.{did-then}
use Rattle.tracer.proofs.Quiet.{did-moves}
use Rattle.tracer.proofs.OneStep.{did-spill}
use Rattle.gc_table.specs.declared.view.View.{View}
use Rattle.gc_table.specs.Seats.{view_of}
use Rattle.packet_pools.specs.declared.held.Held.{Held}
use Rattle.gc_table.specs.Log.{events}
use Rattle.tracer.specs.StepBounds.{deferring_left, filled_length, put_aside}
use Rattle.gc_table.proofs.History.Log.{events-after, events-join}
use Rattle.packet_pools.proofs.Few.{few-after, few-sum}
use Rattle.tracer.proofs.Searched.{quiet-of, searches-join, searches-spill, searches-still}
use Rattle.tracer.proofs.Few.{given-nothing}
use Rattle.tracer.proofs.deferring.defer.Goals as goal

pub dirty_card-requires-clause-may : goal.dirty_card-requires-clause-may
dirty_card-requires-clause-may c =
    let w : View = view_of c.take_deferring.new.seat in
    let e = c.in_default.ensures in
    subst (λ k. May (DirtyCard k) w) (sym c.card_of.ensures) (may-dirty_popped w c.args.cell _ e.seat.1.may (ap (λ (s : SeatState). s.popped) e.state ∙ c.requires.cell.popped))

pub returns-in_default-clause-seat : goal.returns-in_default-clause-seat
returns-in_default-clause-seat c =
    let w : View = view_of c.take_deferring.new.seat in
    let y : View = view_of c.dirty_card.new.seat in
    let e = c.in_default.ensures in
    let d = c.dirty_card.ensures.view in
    let answers = popped-answers w.state c.args.cell c.card_of.result (ap (λ (s : SeatState). s.popped) e.state ∙ c.requires.cell.popped) (sym c.card_of.ensures) in
    (c.dirty_card.ensures.seat, traces-on w y (traced-dirty_card w y _ c.card_of.result refl answers d) e.seat.1 (ap (λ (z : View). z.state.reserved) d) (ap (λ (z : View). z.state.credit) d))

pub returns-in_default-clause-only : goal.returns-in_default-clause-only
returns-in_default-clause-only c =
    let w : View = view_of c.take_deferring.new.seat in
    let y : View = view_of c.dirty_card.new.seat in
    let e = c.in_default.ensures in
    let answers = popped-answers w.state c.args.cell c.card_of.result (ap (λ (s : SeatState). s.popped) e.state ∙ c.requires.cell.popped) (sym c.card_of.ensures) in
    traced-join (view_of c.args.seat.now) w y e.only (traced-dirty_card w y _ c.card_of.result refl answers c.dirty_card.ensures.view)

pub returns-in_default-clause-work : goal.returns-in_default-clause-work
returns-in_default-clause-work c =
    let w : View = view_of c.take_deferring.new.seat in
    let y : View = view_of c.dirty_card.new.seat in
    let e = c.in_default.ensures in
    let others : work_in_hand w.shape.fields (record w.state { popped = None }) ≡ false =
    ap (λ (s : SeatState). work_in_hand w.shape.fields (record s { popped = None })) e.state ∙ (ap (λ (s : Shape). work_in_hand s.fields (record (view_of c.args.seat.now).state { popped = None })) e.only.shape ∙ c.requires.cell.others) in
    ap (λ (s : Shape). work_in_hand s.fields y.state) (sym c.dirty_card.ensures.seat.1)
    ∙ dirtied-work w y c.args.cell c.card_of.result _ (ap (λ (s : SeatState). s.popped) e.state ∙ c.requires.cell.popped) (sym c.card_of.ensures) others c.dirty_card.ensures.view

pub returns-in_default-clause-part : goal.returns-in_default-clause-part
returns-in_default-clause-part c =
    let v : View = view_of c.args.seat.now in
    let w : View = view_of c.take_deferring.new.seat in
    let y : View = view_of c.dirty_card.new.seat in
    let o : Option ℕ = packet_of c.args.packets.now.deferred in
    let e = c.in_default.ensures in
    let answers = popped-answers w.state c.args.cell c.card_of.result (ap (λ (s : SeatState). s.popped) e.state ∙ c.requires.cell.popped) (sym c.card_of.ensures) in
    subst (λ q. Did o q 0 0 1 v (events v y)) (ap packet_of e.none.0 ∙ sym (ap (λ (x : Packets). packet_of x.deferred) e.packets.0))
    (did-spill o c.card_of.result _ v w y e.only (traced-dirty_card w y _ c.card_of.result refl answers c.dirty_card.ensures.view) e.moves c.dirty_card.ensures.view)

pub returns-clause-only : goal.returns-clause-only
returns-clause-only c =
    let w : View = view_of c.take_deferring.new.seat in
    let x : View = view_of c.put_into-rest.new.seat in
    let y : View = view_of c.give_some.new.seat in
    traced-join (view_of c.args.seat.now) w y c.in-Some.ensures.only (traced-join w x y c.put_into-rest.ensures.only c.give_some.ensures.only)

pub returns-clause-packets : goal.returns-clause-packets
returns-clause-packets c =
    let w : View = view_of c.take_deferring.new.seat in
    let x : View = view_of c.put_into-rest.new.seat in
    let y : View = view_of c.give_some.new.seat in
    let t : Packets = c.take_deferring.new.packets in
    let rest : Option Held = c.put_into-rest.result in
    let e = c.in-Some.ensures in
    let p = c.put_into-rest.ensures in
    let none : t.deferred ≡ None = ap (λ (x : Packets). x.deferred) e.packets.0 in
    let nothing : c.replace-nothing.result ≡ None = c.replace-nothing.ensures.value ∙ none in
    let all : Carries (in_front rest (packets_of t)) y = c.give_some.ensures.packets (in_front rest (packets_of t)) (subst (λ r. Carries (in_front r (in_front rest (packets_of t))) x) (sym nothing) (p.packets (packets_of t) e.packets.1)) in (
      subst (λ r. Carries (t.input ∷ in_front t.output (in_front r [])) y) (sym c.replace-nothing.ensures.after)
          (deferred-back t.input t.output rest y (subst (λ d. Carries (in_front rest (t.input ∷ in_front t.output (in_front d []))) y) none all)),
      subst (HasCellAndRoom c.args.heap.now.shape) (sym c.replace-nothing.ensures.after) p.room,
    )

pub returns-clause-part : goal.returns-clause-part
returns-clause-part c =
    let v : View = view_of c.args.seat.now in
    let w : View = view_of c.take_deferring.new.seat in
    let x : View = view_of c.put_into-rest.new.seat in
    let y : View = view_of c.give_some.new.seat in
    let o : Option ℕ = packet_of c.args.packets.now.deferred in
    let q : Option ℕ = packet_of c.put_into-rest.result in
    let e = c.in-Some.ensures in
    let p = c.put_into-rest.ensures in
    let g = c.give_some.ensures in
    subst (λ r. Did o (packet_of r) 0 1 0 v (events v y)) (sym c.replace-nothing.ensures.after)
    (did-then o o q 0 0 0 1 0 0 0 1 0 v w y e.only (traced-join w x y p.only g.only) refl refl refl
    (did-moves o v (events v w) e.moves)
    (did-then o q q 0 0 1 0 0 0 0 1 0 w x y p.only g.only refl refl refl (p.part o e.some.1) (g.part q (λ d. absurd (false≢true d)))))

pub returns-in_default-clause-tried : goal.returns-in_default-clause-tried
returns-in_default-clause-tried c =
    let sh : Shape = c.args.heap.now.shape in
    let v : View = view_of c.args.seat.now in
    let w : View = view_of c.take_deferring.new.seat in
    let y : View = view_of c.dirty_card.new.seat in
    let s = c.args.search.now in
    let t = c.take_deferring.new.search in
    let e = c.in_default.ensures in
    let d = c.dirty_card.ensures.view in
    let answers = popped-answers w.state c.args.cell c.card_of.result (ap (λ (s : SeatState). s.popped) e.state ∙ c.requires.cell.popped) (sym c.card_of.ensures) in
    searches-join sh s t t (events v w) (events w y) (events v y) (events-join v w y e.only.log (traced-dirty_card w y _ c.card_of.result refl answers d).log) e.tried
    (searches-spill sh t c.card_of.result _ (events w y) e.none.1 (events-after w y (DirtyCard c.card_of.result) _ d))

pub returns-clause-tried : goal.returns-clause-tried
returns-clause-tried c =
    let sh : Shape = c.args.heap.now.shape in
    let v : View = view_of c.args.seat.now in
    let w : View = view_of c.take_deferring.new.seat in
    let x : View = view_of c.put_into-rest.new.seat in
    let y : View = view_of c.give_some.new.seat in
    let s = c.args.search.now in
    let t = c.take_deferring.new.search in
    let e = c.in-Some.ensures in
    let p = c.put_into-rest.ensures in
    let g = c.give_some.ensures in
    let later = traced-join w x y p.only g.only in
    let last = did-then _ _ _ 0 0 1 0 0 0 0 1 0 w x y p.only g.only refl refl refl (p.part _ e.some.1) (g.part _ (λ d. absurd (false≢true d))) in
    searches-join sh s t t (events v w) (events w y) (events v y) (events-join v w y e.only.log later.log) e.tried (searches-still sh t (events w y) (quiet-of (events w y) last.dirtied))

pub returns-in_default-clause-few : goal.returns-in_default-clause-few
returns-in_default-clause-few c =
    let sh : Shape = c.args.heap.now.shape in
    let v : View = view_of c.args.seat.now in
    let w : View = view_of c.take_deferring.new.seat in
    let y : View = view_of c.dirty_card.new.seat in
    let e = c.in_default.ensures in
    let d = c.dirty_card.ensures.view in
    let answers = popped-answers w.state c.args.cell c.card_of.result (ap (λ (s : SeatState). s.popped) e.state ∙ c.requires.cell.popped) (sym c.card_of.ensures) in
    let all = few-sum v w y e.only.ran (traced-dirty_card w y _ c.card_of.result refl answers d).ran in
    let one = few-after w y _ _ d in
    let few = e.few in
    let filled = ap (λ (x : Packets). put_aside sh (filled_length x)) e.packets.0 in
    let none = ap (λ (x : Packets). deferring_left sh x.deferred) e.packets.0 in
    omega (arith, all, one, few, filled, none)

pub returns-clause-few : goal.returns-clause-few
returns-clause-few c =
    let sh : Shape = c.args.heap.now.shape in
    let v : View = view_of c.args.seat.now in
    let w : View = view_of c.take_deferring.new.seat in
    let x : View = view_of c.put_into-rest.new.seat in
    let y : View = view_of c.give_some.new.seat in
    let e = c.in-Some.ensures in
    let p = c.put_into-rest.ensures in
    let g = c.give_some.ensures in
    let nothing = given-nothing c.replace-nothing.result (c.replace-nothing.ensures.value ∙ ap (λ (x : Packets). x.deferred) e.packets.0) in
    let first = few-sum v w x e.only.ran p.only.ran in
    let all = few-sum v x y (traced-join v w x e.only p.only).ran g.only.ran in
    let taken = e.few in
    let pushed = p.few in
    let given = g.few in
    let filled = ap (λ (x : Packets). put_aside sh (filled_length x)) e.packets.0 in
    let rest = ap (deferring_left sh) c.replace-nothing.ensures.after in
    omega (arith, first, all, taken, pushed, given, nothing, filled, rest)
