-- A seat that marks stays one.
use Rattle.std.proofs.Common.{◌≡◌, length, refl, sym, ap, ◌∙◌, Bool, true, false, not, ◌&&◌, Some, None, Option}
use Rattle.std.specs.Prelude.{is_none, ◌==◌}
use Rattle.std.proofs.Math.Logic.{∥∥₁_elim}
use Rattle.std.proofs.Props.{props}
use Rattle.std.proofs.lemmas.Bool.{true≢false, and_parts, and_from, or_left, not_from_false}
use Rattle.mark_core.specs.Held.{holds_any}
use Rattle.mark_core.specs.Seats.{empty_handed, saw, work_in_hand}
use Rattle.mark_core.specs.Steps.WorldSteps.{has_nothing}
use Rattle.mark_core.specs.declared.kinds.Phase.TheVariants.{Marking}
use Rattle.mark_core.specs.declared.kinds.Shape.{Shape}
use Rattle.mark_core.specs.declared.seat.SeatState.{SeatState}
use Rattle.gc_table.specs.Rule.{IsPossible}
use Rattle.gc_table.specs.Seats.{Sits, view_of}
use Rattle.gc_table.specs.declared.seat.Heap.{Heap}
use Rattle.gc_table.specs.declared.seat.HeapSeat.{HeapSeat}
use Rattle.gc_table.specs.declared.view.View.{View}
use Rattle.packet_pools.specs.OnlyTraced.{OnlyTracedBy, rest_of}
use Rattle.packet_pools.specs.Tracing.{Traces as MayTrace}
use Rattle.card_clean.specs.NextCards.{OnlyPassed}
use Rattle.tracer.specs.Hands.{IsIdle}
use Rattle.seat_turns.specs.TracerStanding.{GoesMarking}
use Rattle.gc_cycle.proofs.Idling.{four-none, owes-passed}
use Rattle.gc_cycle.proofs.Ends.Swept.{unless}

-- what a seat with nothing in hand hasn't
pub record Empty (sh : Shape) (s : SeatState) : Type 0 where
  pub handed : empty_handed s ≡ true
  pub held : holds_any s.held ≡ false
  pub reserved : s.reserved ≡ false
  pub credit : s.credit ≡ false
  pub work : work_in_hand sh.fields s ≡ false
  pub owes : is_none s.owes ≡ true
  pub cache : is_none s.cache ≡ true
  pub block : is_none s.block ≡ true
  pub got : (s.got == 0) ≡ true
  pub lags : (s.lags == 0) ≡ true

pub empty-of : (sh : Shape) (s : SeatState) → has_nothing sh s ≡ true → Empty sh s
empty-of sh s e =
    let p = and_parts (empty_handed s && not (work_in_hand sh.fields s) && is_none s.owes && is_none s.cache && is_none s.block) ((s.got == 0) && (s.lags == 0)) e in
    let l = and_parts (s.got == 0) (s.lags == 0) p.1 in
    let q = and_parts (empty_handed s && not (work_in_hand sh.fields s) && is_none s.owes && is_none s.cache) (is_none s.block) p.0 in
    let r = and_parts (empty_handed s && not (work_in_hand sh.fields s) && is_none s.owes) (is_none s.cache) q.0 in
    let t = and_parts (empty_handed s && not (work_in_hand sh.fields s)) (is_none s.owes) r.0 in
    let u = and_parts (empty_handed s) (not (work_in_hand sh.fields s)) t.0 in
    let a = and_parts (not (holds_any s.held) && not s.reserved) (not s.credit) u.0 in
    let b = and_parts (not (holds_any s.held)) (not s.reserved) a.0 in
    record {
      handed = u.0;
      held = unless (holds_any s.held) b.0;
      reserved = unless s.reserved b.1;
      credit = unless s.credit a.1;
      work = unless (work_in_hand sh.fields s) u.1;
      owes = t.1;
      cache = r.1;
      block = q.1;
      got = l.0;
      lags = l.1;
    }

nothing_of : (sh : Shape) (s : SeatState) → empty_handed s ≡ true → work_in_hand sh.fields s ≡ false → is_none s.owes ≡ true → is_none s.cache ≡ true → is_none s.block ≡ true → (s.got == 0) ≡ true → (s.lags == 0) ≡ true → has_nothing sh s ≡ true
nothing_of sh s handed work owes cache block got lags =
    and_from _ _ (and_from _ _ (and_from _ _ (and_from _ _ (and_from _ _ handed (not_from_false _ work)) owes) cache) block) (and_from _ _ got lags)

handed_of : (s : SeatState) → holds_any s.held ≡ false → s.reserved ≡ false → s.credit ≡ false → empty_handed s ≡ true
handed_of s held reserved credit = and_from _ _ (and_from _ _ (not_from_false _ held) (not_from_false _ reserved)) (not_from_false _ credit)

-- a seat that marks may trace
pub marks-trace : (h : Heap) (x : HeapSeat) → GoesMarking h x → MayTrace (view_of x)
marks-trace h x m =
    let s = (view_of x).state in
    let e = empty-of h.shape s m.goes.idle in
    record { may = or_left _ _ (or_left _ _ (and_from s.active (saw s.phase_seen Marking) m.goes.active m.marking)); unreserved = e.reserved; uncredited = e.credit }

four-slots : (v : View) → ∥ IsPossible v ∥₁ → length v.state.held ≡ 4
four-slots v p = ∥∥₁_elim p (Prim.hlevel props) (λ (q : IsPossible v). (q.whole.core.formed.seats q.index v.state q.agrees.seat).held.four)

pub is-none : {X : Type 0} (o : Option X) → is_none o ≡ true → o ≡ None
is-none None e = refl
is-none (Some x) e = absurd (true≢false (sym e))

pub marks-idle : (h : Heap) (x : HeapSeat) → ∥ IsPossible (view_of x) ∥₁ → GoesMarking h x → IsIdle (view_of x)
marks-idle h x p m =
    let v : View = view_of x in
    let e = empty-of h.shape v.state m.goes.idle in
    record {
      held = four-none v.state.held (four-slots v p) e.held;
      work = ap (λ (sh : Shape). work_in_hand sh.fields v.state) m.goes.sits.1 ∙ e.work;
      block = is-none v.state.block e.block;
    }

-- the record without what tracing changes, and without what is known of the counters
abbrev pub standing : SeatState → SeatState
standing s = record (rest_of s) { below_card = false; below_block = false }

-- after a call that leaves nothing in hand the seat still marks
pub marks-on :
    (h : Heap) (x y : HeapSeat) → GoesMarking h x → standing (view_of y).state ≡ standing (view_of x).state → Sits h y → MayTrace (view_of y) → holds_any (view_of y).state.held ≡ false → work_in_hand h.shape.fields (view_of y).state ≡ false
    → is_none (view_of y).state.owes ≡ true → GoesMarking h y
marks-on h x y m same sits t held work owes =
    let w : View = view_of y in
    let e = empty-of h.shape (view_of x).state m.goes.idle in
    record {
      goes =
          record {
            sits = sits;
            counted = ap (λ (s : SeatState). s.counted) same ∙ m.goes.counted;
            active = ap (λ (s : SeatState). s.active) same ∙ m.goes.active;
            unraised = ap (λ (s : SeatState). s.raised) same ∙ m.goes.unraised;
            unhelping = ap (λ (s : SeatState). s.helping) same ∙ m.goes.unhelping;
            idle =
                nothing_of h.shape w.state (handed_of w.state held t.unreserved t.uncredited) work owes (ap (λ (s : SeatState). is_none s.cache) same ∙ e.cache) (ap (λ (s : SeatState). is_none s.block) same ∙ e.block)
                (ap (λ (s : SeatState). s.got == 0) same ∙ e.got)
                (ap (λ (s : SeatState). s.lags == 0) same ∙ e.lags);
          };
      marking = ap (λ (s : SeatState). saw s.phase_seen Marking) same ∙ m.marking;
    }

pub marks-later :
    {b : Bool} (h : Heap) (x y : HeapSeat) → GoesMarking h x → OnlyTracedBy b (view_of x) (view_of y) → Sits h y → MayTrace (view_of y) → holds_any (view_of y).state.held ≡ false → work_in_hand h.shape.fields (view_of y).state ≡ false
    → is_none (view_of y).state.owes ≡ true → GoesMarking h y
marks-later h x y m k sits t held work owes = marks-on h x y m (ap (λ (s : SeatState). record s { below_card = false; below_block = false }) k.rest) sits t held work owes

-- after it passed cards the seat still marks
pub marks-passed : (h : Heap) (x y : HeapSeat) → GoesMarking h x → OnlyPassed (view_of x) (view_of y) → Sits h y → MayTrace (view_of y) → (view_of y).state.held ≡ (view_of x).state.held → work_in_hand h.shape.fields (view_of y).state ≡ false → GoesMarking h y
marks-passed h x y m k sits t held work =
    let n = empty-of h.shape (view_of x).state m.goes.idle in
    marks-on h x y m (ap (λ (s : SeatState). record s { below_card = false; below_block = false }) k.rest) sits t (ap holds_any held ∙ n.held) work (ap is_none (owes-passed (view_of x) (view_of y) k (is-none (view_of x).state.owes n.owes)))

-- after numbers were read the seat still marks
pub marks-same : (h : Heap) (x y : HeapSeat) → GoesMarking h x → Sits h y → (view_of y).state ≡ (view_of x).state → GoesMarking h y
marks-same h x y m sits same =
    record {
      goes =
          record {
            sits = sits;
            counted = ap (λ (s : SeatState). s.counted) same ∙ m.goes.counted;
            active = ap (λ (s : SeatState). s.active) same ∙ m.goes.active;
            unraised = ap (λ (s : SeatState). s.raised) same ∙ m.goes.unraised;
            unhelping = ap (λ (s : SeatState). s.helping) same ∙ m.goes.unhelping;
            idle = ap (has_nothing h.shape) same ∙ m.goes.idle;
          };
      marking = ap (λ (s : SeatState). saw s.phase_seen Marking) same ∙ m.marking;
    }
