-- The word of a step exists and there is room for what it counts; and the record and word of a store.
use Rattle.std.proofs.Common.{ℕ, ◌≡◌, ◌<◌, sym, ap, ◌∙◌, subst}
use Rattle.std.specs.Prelude.{IsFalse}
use Rattle.std.proofs.Math.Logic.{∥∥₁_elim}
use mathlib.Core.Bool.{Bool-set}
use Rattle.std.proofs.Props.{props}
use Rattle.mark_core.specs.Layout.{words_of, address, region_sizes, total_words}
use Rattle.mark_core.specs.Effects.{place, written, seat_after}
use Rattle.mark_core.specs.Steps.{Core}
use Rattle.mark_core.specs.Room.{HasNumber, HasRoom}
use Rattle.mark_core.proofs.Doing.{has-number, has-room}
use Rattle.mark_core.proofs.Blocks.BlocksStopped.{in-place}
use Rattle.mark_core.proofs.Writing.Ranges.{IsPlace}
use Rattle.mark_core.proofs.Writing.Places.{address-lt-total}
use Rattle.mark_core.specs.declared.kinds.Shape.{Shape}
use Rattle.mark_core.specs.declared.kinds.Step.{Step}
use Rattle.mark_core.specs.declared.kinds.Step.TheVariants.{Push, ReadField, StoreRoot, StoreNew, HoldRoot, FlushRoot}
use Rattle.mark_core.specs.declared.seat.SeatState.{SeatState}
use Rattle.gc_table.specs.declared.view.View.{View}
use Rattle.gc_table.specs.Rule.{IsPossible}
use Rattle.gc_table.specs.Operations.{MayTake}
use Rattle.gc_table.specs.Seats.{Sits, view_of}
use Rattle.gc_table.specs.Taking.{after, Asked, IsBlind, IsOwn, May}
use Rattle.gc_table.specs.declared.seat.Heap.{Heap}
use Rattle.gc_table.specs.declared.seat.HeapSeat.{HeapSeat}

-- the word that the step touches exists, and there is room for what it counts
takes_within : (v : View) (step : Step) → IsPossible v → May step v → address v.shape (place v.shape v.state step) < total_words (region_sizes v.shape)
takes_within v step p may =
    let c : Core = p.state.core in
    let there : IsPlace c.shape (place c.shape v.state step) = in-place c p.index v.state step (record { core = p.whole.core; got = p.agrees.seat; live = p.live; ok = may p.state p.index p.whole p.agrees }) in
    subst (λ (sh : Shape). address sh (place sh v.state step) < total_words (region_sizes sh)) (sym p.agrees.shape) (address-lt-total (region_sizes c.shape) (place c.shape v.state step).0 (place c.shape v.state step).1 there)

takes_room : (v : View) (step : Step) → IsPossible v → May step v → HasRoom v.state step
takes_room v step p may =
    let c : Core = p.state.core in
    has-room c.shape (words_of c.shape c.words) c.seats v.state step p.whole.core.formed.shaped (may p.state p.index p.whole p.agrees)

takes_number : (v : View) (step : Step) → IsPossible v → May step v → HasNumber v.shape v.state step
takes_number v step p may =
    let c : Core = p.state.core in
    subst (λ (sh : Shape). HasNumber sh v.state step) (sym p.agrees.shape) (has-number c.shape (words_of c.shape c.words) c.seats v.state step p.whole.core.formed.shaped (may p.state p.index p.whole p.agrees))

room-prop : (s : SeatState) (step : Step) → IsProp (HasRoom s step)
room-prop s (Push p c) = Prim.hlevel props
room-prop s (ReadField c i) = Prim.hlevel props
room-prop s (StoreRoot v r) = Prim.hlevel props
room-prop s (HoldRoot v r) = Prim.hlevel props
room-prop s (FlushRoot v) = Prim.hlevel props
room-prop s (StoreNew c part word) = Prim.hlevel props
room-prop s step = Prim.hlevel props

number-prop : (sh : Shape) (s : SeatState) (step : Step) → IsProp (HasNumber sh s step)
number-prop sh s (StoreNew c part word) = Prim.hlevel props
number-prop sh s step = Prim.hlevel props

pub possible-live : (v : View) → ∥ IsPossible v ∥₁ → IsFalse v.state.spent
possible-live v h = ∥∥₁_elim h (Bool-set _ _) (λ p. p.live)

pub takes-within : (v : View) (step : Step) → ∥ IsPossible v ∥₁ → May step v → address v.shape (place v.shape v.state step) < total_words (region_sizes v.shape)
takes-within v step h may = ∥∥₁_elim h (Prim.hlevel props) (λ p. takes_within v step p may)

pub takes-room : (v : View) (step : Step) → ∥ IsPossible v ∥₁ → May step v → HasRoom v.state step
takes-room v step h may = ∥∥₁_elim h (room-prop v.state step) (λ p. takes_room v step p may)

-- the word of the step is there, if its address was worked out by the seat's record beside its view, in a heap of this shape
pub step-word : (sh : Shape) (s : SeatState) (v : View) (step : Step) (at words : ℕ) → at ≡ address sh (place sh s step) → s ≡ v.state → v.shape ≡ sh → words ≡ total_words (region_sizes sh) → ∥ IsPossible v ∥₁ → May step v
    → (at < words) × (at ≡ address v.shape (place v.shape v.state step))
step-word sh s v step at words is same shaped sized h may =
    let there : at ≡ address v.shape (place v.shape v.state step) = is ∙ (λ x. address (sym shaped x) (place (sym shaped x) (same x) step)) in
    let long : words ≡ total_words (region_sizes v.shape) = sized ∙ ap (λ (x : Shape). total_words (region_sizes x)) (sym shaped) in
    (subst (λ (x : ℕ × ℕ). x.0 < x.1) (λ y. (sym there y, sym long y)) (takes-within v step h may), there)

-- so a seat of the heap may take a step at its word
pub may-take : (h : Heap) (s : HeapSeat) (step : Step) (word : ℕ) → word ≡ address h.shape (place h.shape s.state step) → Sits h s → May step (view_of s) → IsOwn step → Asked step (view_of s) → MayTake h s.token word step
may-take h s step word is sits may own asked =
    let at = step-word h.shape s.state (s.token.me.0.view) step word h.table.shared.table_id.words is s.agrees sits.1 h.sized s.possible may in
    record { table = sits.0; bare = s.bare; seated = s.seated; shape = sits.1; live = possible-live (s.token.me.0.view) s.possible; within = at.0; there = at.1; may = may; own = own; asked = asked }

pub step-room : (s : SeatState) (v : View) (step : Step) → s ≡ v.state → ∥ IsPossible v ∥₁ → May step v → HasRoom s step
step-room s v step same h may = subst (λ (x : SeatState). HasRoom x step) (sym same) (takes-room v step h may)

pub step-number : (sh : Shape) (s : SeatState) (v : View) (step : Step) → s ≡ v.state → v.shape ≡ sh → ∥ IsPossible v ∥₁ → May step v → HasNumber sh s step
step-number sh s v step same shaped h may =
    subst (λ (x : Shape). HasNumber x s step) shaped (subst (λ (x : SeatState). HasNumber v.shape x step) (sym same) (∥∥₁_elim h (number-prop v.shape v.state step) (λ p. takes_number v step p may)))

-- a store's record and word, by what the step makes of the word 0
pub stored-word : (sh : Shape) (s : SeatState) (v : View) (step : Step) (new n : ℕ) → new ≡ written sh s step 0 → s ≡ v.state → v.shape ≡ sh → IsBlind step v → written v.shape v.state step n ≡ new
stored-word sh s v step new n is same shaped blind = (blind n 0).1 ∙ ((λ x. written (shaped x) (sym same x) step 0) ∙ sym is)

pub stored-view : (sh : Shape) (s t : SeatState) (v : View) (step : Step) (new : ℕ) → t ≡ seat_after sh s step 0 → s ≡ v.state → v.shape ≡ sh → IsBlind step v → t ≡ (after step new v).state
stored-view sh s t v step new is same shaped blind = is ∙ ((λ x. seat_after (sym shaped x) (same x) step 0) ∙ (blind 0 new).0)
