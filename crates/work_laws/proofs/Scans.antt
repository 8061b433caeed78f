-- Over every run: what is read of cells, and what is marked of what was read.
use Rattle.std.proofs.Common.{ℕ, ◌≡◌, ◌+◌, ◌*◌, ◌≤◌, List, arith, refl, sym, subst}
use Rattle.std.specs.List.{count_by, sum_by}
use Rattle.mark_core.specs.Steps.{Core, run_of}
use Rattle.mark_core.specs.Laws.{IsCore, AllNumbersFit}
use Rattle.mark_core.specs.declared.kinds.Event.{Event}
use Rattle.mark_core.specs.declared.kinds.Shape.{Shape}
use Rattle.mark_core.proofs.Count.CountMoves.{bit}
use Rattle.mark_core.proofs.Blocks.BlocksStopped.{kept-after}
use Rattle.work_laws.specs.Counting.{one_in, sum_events, count_events}
use Rattle.work_laws.specs.Queueing.{pops}
use Rattle.work_laws.specs.Scanning.{reads_field, reads_root, marks, cleans, fields_left, fields_in_hand, has_value, values_in_hand, ReadsAreBounded}
use Rattle.work_laws.proofs.Sums.{Pays, paid, times, plus, one-is, same-shape}
use Rattle.work_laws.proofs.Seats.{IsOfHands, seats-move}
use Rattle.work_laws.proofs.ScanSteps.{fields-paid, value-paid}

-- a heap of these sizes: the fields that seats are to read
abbrev hand_fields : ℕ → Core → ℕ
hand_fields f c = sum_by (fields_left f) c.seats

pub field_hands : (f : ℕ) → IsOfHands (fields_left f)
field_hands f = record { start = λ sh k. omega arith; spent = λ sh k. omega arith }

-- what the pops and the cards that are cleaned bring
abbrev brought : ℕ → Core → Event → ℕ
brought f c e = f * one_in pops c e + 16 * f * one_in cleans c e

fields_pay : (sh : Shape) → Pays (one_in reads_field) (brought sh.fields) (hand_fields sh.fields) sh
fields_pay sh c e k is f =
    kept-after (λ z w seats. one_in reads_field c e + sum_by (fields_left sh.fields) seats ≤ hand_fields sh.fields c + brought sh.fields c e) c e k f
    (λ s acted t.
    let moved = seats-move (fields_left c.shape.fields) c e.seat s e.step (field_hands c.shape.fields) t in
    let own = fields-paid c e.seat s e.step t in
    rw (one-is reads_field c e s acted.seat, one-is pops c e s acted.seat, one-is cleans c e s acted.seat, ← is) (omega (arith, moved, own)))

fields_bound : (c : Core) (es : List Event) → IsCore c → AllNumbersFit es
    → count_events reads_field es c + hand_fields c.shape.fields (run_of es c) ≤ fields_in_hand c + (c.shape.fields * count_events pops es c + 16 * c.shape.fields * count_events cleans es c)
fields_bound c es k fit =
    let f : ℕ = c.shape.fields in
    let all : count_events reads_field es c + hand_fields f (run_of es c) ≤ hand_fields f c + sum_events (λ d e. f * one_in pops d e + 16 * f * one_in cleans d e) es c =
    paid (one_in reads_field) (brought f) (hand_fields f) c.shape (fields_pay c.shape) es c k refl fit in
    let two : sum_events (λ d e. f * one_in pops d e + 16 * f * one_in cleans d e) es c ≡ sum_events (λ d e. f * one_in pops d e) es c + sum_events (λ d e. 16 * f * one_in cleans d e) es c =
    plus (λ d e. f * one_in pops d e) (λ d e. 16 * f * one_in cleans d e) es c in
    omega (arith, all, two, times f (one_in pops) es c, times (16 * f) (one_in cleans) es c)

pub value_hands : IsOfHands (λ s. bit (has_value s))
value_hands = record { start = λ sh k. refl; spent = λ sh k. refl }

-- what is loaded
abbrev loaded : Core → Event → ℕ
loaded c e = one_in reads_field c e + one_in reads_root c e

value_pay : (sh : Shape) → Pays (one_in marks) loaded values_in_hand sh
value_pay sh c e k is f =
    kept-after (λ z w seats. one_in marks c e + count_by has_value seats ≤ values_in_hand c + loaded c e) c e k f
    (λ s acted t.
    let moved = seats-move (λ x. bit (has_value x)) c e.seat s e.step value_hands t in
    omega (arith, one-is marks c e s acted.seat, one-is reads_field c e s acted.seat, one-is reads_root c e s acted.seat, moved, value-paid c e.seat s e.step t))

value_bound : (c : Core) (es : List Event) → IsCore c → AllNumbersFit es → count_events marks es c + values_in_hand (run_of es c) ≤ values_in_hand c + (count_events reads_field es c + count_events reads_root es c)
value_bound c es k fit =
    let all : count_events marks es c + values_in_hand (run_of es c) ≤ values_in_hand c + sum_events (λ d e. one_in reads_field d e + one_in reads_root d e) es c = paid (one_in marks) loaded values_in_hand c.shape (value_pay c.shape) es c k refl fit in
    let two : sum_events (λ d e. one_in reads_field d e + one_in reads_root d e) es c ≡ count_events reads_field es c + count_events reads_root es c = plus (one_in reads_field) (one_in reads_root) es c in
    omega (arith, all, two)

-- a run keeps the shape
pub reads_bounded : ReadsAreBounded
reads_bounded =
    record {
      fields = λ c es k fit. subst (λ (sh : Shape). count_events reads_field es c + hand_fields sh.fields (run_of es c) ≤ fields_in_hand c + (c.shape.fields * count_events pops es c + 16 * c.shape.fields * count_events cleans es c)) (sym (same-shape es c)) (fields_bound c es k fit);
      marks = value_bound;
    }
