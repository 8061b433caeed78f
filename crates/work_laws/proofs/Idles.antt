-- While nothing is marked, nothing is in hand and no packet has a cell.
use Rattle.std.proofs.Common.{ℕ, ◌≡◌, ◌*◌, get_or, arith, refl, ap, Bool, true, false, not, ◌||◌, cond, eqb, Option, Some, None}
use Rattle.std.specs.Prelude.{is_some}
use Rattle.std.specs.List.{count_by, sum_by, range_with_len}
use Rattle.std.proofs.lemmas.Bool.{false_from_ne_true, false≢true, ltb-false, not-false, or_parts, true≢false}
use Rattle.mark_core.specs.Layout.{words_of}
use Rattle.mark_core.specs.Seats.{cleaning_left, left_in, scan_left, work_in_hand}
use Rattle.mark_core.specs.Rules.WorldRules.{is_tracing}
use Rattle.mark_core.specs.Steps.{Core}
use Rattle.mark_core.specs.Laws.{IsCore}
use Rattle.mark_core.specs.declared.seat.Cleaning.{Cleaning}
use Rattle.mark_core.specs.declared.seat.SeatState.{SeatState}
use Rattle.mark_core.proofs.Count.CountMoves.{bit}
use Rattle.mark_core.proofs.Marks.MarksIdle.{idle-seats, left-works}
use Rattle.work_laws.specs.Marking.{cells_to_mark, fresh_in_hand, has_fresh}
use Rattle.work_laws.specs.Queueing.{deferred_in_hand, has_deferred, is_deferred, queued}
use Rattle.work_laws.specs.Scanning.{fields_in_hand, fields_left, has_value, left_of_card, left_of_scan, values_in_hand}
use Rattle.work_laws.specs.Dirtying.{again_in_hand, has_again, owes_again, unseen_in_hand}
use Rattle.work_laws.specs.Bringing.{has_new, is_new, new_in_hand, ready_cells, Waits}
use Rattle.work_laws.proofs.Starts.{range-none, sum-none}

-- what a seat without work in hand lacks
pub record Lacks (fields : ℕ) (s : SeatState) : Type 0 where
  pub popped : is_some s.popped ≡ false
  pub scan : scan_left fields s.scan ≡ false
  pub value : is_some s.value ≡ false
  pub fresh : is_some s.fresh ≡ false
  pub cleaning : cleaning_left s.cleaning ≡ false

lacks_from : (fields : ℕ) (s : SeatState) → work_in_hand fields s ≡ false → Lacks fields s
lacks_from fields s e =
    let four = or_parts (is_some s.popped || scan_left fields s.scan || is_some s.value || is_some s.fresh) (cleaning_left s.cleaning) e in
    let three = or_parts (is_some s.popped || scan_left fields s.scan || is_some s.value) (is_some s.fresh) four.0 in
    let two = or_parts (is_some s.popped || scan_left fields s.scan) (is_some s.value) three.0 in
    let one = or_parts (is_some s.popped) (scan_left fields s.scan) two.0 in
    record { popped = one.0; scan = one.1; value = two.1; fresh = three.1; cleaning = four.1 }

-- a sum over seats that lack all this
module _ (c : Core) (k : IsCore c) (p : is_tracing (words_of c.shape c.words).phase ≡ false) where
  none_of : (f : SeatState → ℕ) → ((s : SeatState) → Lacks c.shape.fields s → f s ≡ 0) → sum_by f c.seats ≡ 0
  none_of f h = sum-none f c.seats (λ j d l. h (get_or c.seats j d) (lacks_from c.shape.fields (get_or c.seats j d) (idle-seats c k p j d l)))

  pub idle-fresh : fresh_in_hand c ≡ 0
  idle-fresh = none_of (λ s. bit (has_fresh s)) (λ s l. ap bit l.fresh)

  pub idle-values : values_in_hand c ≡ 0
  idle-values = none_of (λ s. bit (has_value s)) (λ s l. ap bit l.value)

  not_deferred : (o : Option (ℕ × Bool)) → is_some o ≡ false → bit (is_deferred o) ≡ 0
  not_deferred None e = refl
  not_deferred (Some x) e = absurd (true≢false e)

  pub idle-deferred : deferred_in_hand c ≡ 0
  idle-deferred = none_of (λ s. bit (has_deferred s)) (λ s l. not_deferred s.popped l.popped)

  not_new : (o : Option (ℕ × Bool)) → is_some o ≡ false → bit (is_new o) ≡ 0
  not_new None e = refl
  not_new (Some x) e = absurd (true≢false e)

  pub idle-new : new_in_hand c ≡ 0
  idle-new = none_of (λ s. bit (has_new s)) (λ s l. not_new s.popped l.popped)

  not_again : (o : Option Cleaning) → cleaning_left o ≡ false → bit (owes_again o) ≡ 0
  not_again None e = refl
  not_again (Some x) e = ap bit (or_parts (not x.known || not (eqb x.left 0)) x.redirty e).1

  pub idle-again : again_in_hand c ≡ 0
  idle-again = none_of (λ s. bit (has_again s)) (λ s l. not_again s.cleaning l.cleaning)

  pub idle-unseen : unseen_in_hand c ≡ 0
  idle-unseen = rw (or_parts (eqb (words_of c.shape c.words).phase 1) _ p).0 refl

  pub idle-white : cells_to_mark c ≡ 0
  idle-white = rw p refl

  no_scan : (o : Option (ℕ × ℕ)) → scan_left c.shape.fields o ≡ false → left_of_scan c.shape.fields o ≡ 0
  no_scan None e = refl
  no_scan (Some x) e = omega (arith, ltb-false x.1 c.shape.fields e)

  known_by : (x : Cleaning) (b : Bool) (n : ℕ) → b ≡ true → n ≡ 0 → cond b n 16 ≡ 0
  known_by x true n e h = h
  known_by x false n e h = absurd (false≢true e)

  no_card : (o : Option Cleaning) → cleaning_left o ≡ false → left_of_card o ≡ 0
  no_card None e = refl
  no_card (Some x) e =
      let two = or_parts (not x.known || not (eqb x.left 0)) x.redirty e in
      let one = or_parts (not x.known) (not (eqb x.left 0)) two.0 in
      known_by x x.known (count_by (left_in (Some x)) (range_with_len (16 * x.card) 16)) (not-false x.known one.0)
      (range-none (λ y. bit (left_in (Some x) y)) (16 * x.card) 16 (λ y l. ap bit (false_from_ne_true (left_in (Some x) y) (λ f. left-works (Some x) y _ e f))))

  no_fields : (s : SeatState) → Lacks c.shape.fields s → fields_left c.shape.fields s ≡ 0
  no_fields s l = rw (no_scan s.scan l.scan, l.popped, no_card s.cleaning l.cleaning) (omega arith)

  pub idle-fields : fields_in_hand c ≡ 0
  idle-fields = none_of (fields_left c.shape.fields) no_fields

  pub idle-queued : queued c ≡ 0
  idle-queued = range-none _ 0 c.shape.packets (λ x h. k.sound.phases.packets_empty p x (omega (arith, h)))

  no_term : (b : Bool) (n : ℕ) → n ≡ 0 → cond b 0 n ≡ 0
  no_term true n e = refl
  no_term false n e = e

  pub idle-ready : (waits : Waits) → ready_cells c waits ≡ 0
  idle-ready waits = range-none _ 0 c.shape.packets (λ x h. no_term _ _ (k.sound.phases.packets_empty p x (omega (arith, h))))
