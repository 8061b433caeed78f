-- What a seat has in hand for tracing fits together: kept by each step of the seat that is allowed.
use Rattle.std.proofs.Common.{ℕ, ◌≡◌, ◌/◌, ◌%◌, List, refl, sym, ◌∙◌, Bool, true, false, not, cond, eqb, ◌&&◌, ◌||◌, Option, Some, None}
use Rattle.std.specs.Prelude.{IsTrue, IsFalse, IfSome, is_some}
use Rattle.std.proofs.lemmas.Bool.{true≢false, false≢true, and_right, or_parts, not-true}
use Rattle.mark_core.specs.Layout.{Words}
use Rattle.mark_core.specs.Bits.{has_bit, cell_named}
use Rattle.mark_core.specs.Seats.{scan_left, left_in, work_in_hand, is_the}
use Rattle.mark_core.specs.Steps.ColourSteps.{popped_after, scan_after, fresh_off, popped_off}
use Rattle.mark_core.specs.Start.{start_seat, spent_seat}
use Rattle.mark_core.specs.Parts.{parts}
use Rattle.mark_core.specs.Effects.{seat_after}
use Rattle.mark_core.specs.Steps.{AllTrue}
use Rattle.mark_core.proofs.Hands.HandsCleaning.{IsOfCard, in_set-none, card-read, card-without, card-dirtied, card-known}
use Rattle.mark_core.specs.declared.kinds.Shape.{Shape}
use Rattle.mark_core.specs.declared.kinds.Step.{Step}
use Rattle.mark_core.specs.declared.kinds.Step.TheVariants.{Push, Pop, ReadAlloc, ReadField, ReadRoot, SetMark, DirtyCard, ClearCard, ReadMarks, LoadSlot}
use Rattle.mark_core.specs.declared.seat.SeatState.{SeatState}
use Rattle.mark_core.specs.declared.seat.Cleaning.{Cleaning}
use Rattle.mark_core.specs.Cards.{block_of_card, card_of}

-- what a seat has in hand, by its fields
pub record HandRight (sh : Shape) (s : SeatState) : Type 0 where
  pub popped_alone : IsTrue (is_some s.popped) → IsFalse (scan_left sh.fields s.scan)
  pub value_or_fresh : IsFalse (is_some s.value && is_some s.fresh)
  pub left_of_the_card : IfSome s.cleaning (λ (x : Cleaning). (c : ℕ) → IsTrue (left_in (Some x) c) → card_of c ≡ x.card)

-- what a seat without work doesn't have
pub record IsFree (fields : ℕ) (s : SeatState) : Type 0 where
  pub popped : is_some s.popped ≡ false
  pub scan : scan_left fields s.scan ≡ false
  pub value : is_some s.value ≡ false
  pub fresh : is_some s.fresh ≡ false

pub free-from : (fields : ℕ) (s : SeatState) → work_in_hand fields s ≡ false → IsFree fields s
free-from fields s e =
    let d = or_parts (is_some s.popped || scan_left fields s.scan || is_some s.value || is_some s.fresh) _ e in
    let c = or_parts (is_some s.popped || scan_left fields s.scan || is_some s.value) (is_some s.fresh) d.0 in
    let b = or_parts (is_some s.popped || scan_left fields s.scan) (is_some s.value) c.0 in
    let a = or_parts (is_some s.popped) (scan_left fields s.scan) b.0 in
    record { popped = a.0; scan = a.1; value = b.1; fresh = c.1 }

-- a popped cell that is read either stays without a scan, or is scanned
alone_seen : (fields : ℕ) (x : ℕ × Bool) (b h : Bool) (scan : Option (ℕ × ℕ)) → scan_left fields scan ≡ false → is_some (cond b (cond h None (Some (x.0, true))) (Some x)) ≡ true → scan_left fields (cond (b && h) (Some (x.0, 0)) scan) ≡ false
alone_seen fields x true true scan k e = absurd (false≢true e)
alone_seen fields x true false scan k e = k
alone_seen fields x false h scan k e = k

alone_read : (fields : ℕ) (o : Option (ℕ × Bool)) (scan : Option (ℕ × ℕ)) (b word : ℕ) → (is_some o ≡ true → scan_left fields scan ≡ false) → is_some (popped_after o b word) ≡ true → scan_left fields (scan_after o scan b word) ≡ false
alone_read fields None scan b word k e = absurd (false≢true e)
alone_read fields (Some x) scan b word k e = alone_seen fields x (eqb (x.0 / 64) b) (has_bit word (x.0 % 64)) scan (k refl) e

-- a step may take the popped cell away
some_before : {A : Type 0} (b : Bool) (o : Option A) → is_some (cond b o None) ≡ true → is_some o ≡ true
some_before true o e = e
some_before false o e = absurd (false≢true e)

pub popped-before : (o : Option (ℕ × Bool)) (card : ℕ) → is_some (popped_off o card) ≡ true → is_some o ≡ true
popped-before None card e = e
popped-before (Some x) card e = refl

-- if no value is beside a fresh cell, none is beside what is left of it
lone : (v f g : Bool) → (g ≡ true → f ≡ true) → (v && f) ≡ false → (v && g) ≡ false
lone false f g k e = refl
lone true f false k e = refl
lone true f true k e = absurd (true≢false (sym (k refl) ∙ e))

fresh_before : (b : Bool) (o : Option ℕ) → is_some (cond b None o) ≡ true → is_some o ≡ true
fresh_before true o e = absurd (false≢true e)
fresh_before false o e = e

fresh_left : (o : Option ℕ) (card : ℕ) → is_some (fresh_off o card) ≡ true → is_some o ≡ true
fresh_left None card e = e
fresh_left (Some c) card e = refl

unfresh : (a b f : Bool) → not (a || b || f) ≡ true → f ≡ false
unfresh a b f e = (or_parts (a || b) f (not-true _ e)).1

unpopped : (a b f : Bool) → not (a || b || f) ≡ true → a ≡ false
unpopped a b f e = (or_parts a b (or_parts (a || b) f (not-true _ e)).0).0

new_card : (b : Bool) (card : ℕ) (o : Option Cleaning) → IfSome o IsOfCard → IfSome (cond b (Some (record { card = card; known = false; left = 0; published = 0; redirty = false })) o) IsOfCard
new_card true card o k = λ c e. in_set-none (block_of_card card) c _ e
new_card false card o k = k

-- the seat's facts after its step
pub hand-right : (sh : Shape) (w : Words) (seats : List SeatState) (s : SeatState) (step : Step) (old : ℕ) → HandRight sh s → AllTrue (parts sh w seats s step) → HandRight sh (seat_after sh s step old)
hand-right sh w seats s (Push p c) old k ok =
    record {
      popped_alone = λ e. k.popped_alone (some_before (is_the s.fresh c) s.popped e);
      value_or_fresh = lone (is_some s.value) (is_some s.fresh) _ (fresh_before (is_the s.fresh c) s.fresh) k.value_or_fresh;
      left_of_the_card = k.left_of_the_card;
    }
hand-right sh w seats s (Pop p) old k ok =
    let free = free-from sh.fields s (not-true _ ok.1.1.0) in
    record { popped_alone = λ e. free.scan; value_or_fresh = k.value_or_fresh; left_of_the_card = k.left_of_the_card }
hand-right sh w seats s (ReadAlloc b) old k ok =
    record {
      popped_alone = alone_read sh.fields s.popped s.scan b old k.popped_alone;
      value_or_fresh = k.value_or_fresh;
      left_of_the_card = card-read s.cleaning b old k.left_of_the_card;
    }
hand-right sh w seats s (ReadField c i) old k ok =
    record {
      popped_alone = λ e. absurd (true≢false (sym e ∙ unpopped (is_some s.popped) (is_some s.value) (is_some s.fresh) ok.1.0));
      value_or_fresh = and_right (is_some (cell_named old)) (is_some s.fresh) (unfresh (is_some s.popped) (is_some s.value) (is_some s.fresh) ok.1.0);
      left_of_the_card = card-without s.cleaning c k.left_of_the_card;
    }
hand-right sh w seats s (ReadRoot section v) old k ok =
    let free = free-from sh.fields s (not-true _ ok.1.0) in
    record { popped_alone = k.popped_alone; value_or_fresh = and_right (is_some (cell_named old)) (is_some s.fresh) free.fresh; left_of_the_card = k.left_of_the_card }
hand-right sh w seats s (LoadSlot section j) old k ok =
    let free = free-from sh.fields s (not-true _ ok.1.0) in
    record { popped_alone = k.popped_alone; value_or_fresh = and_right (is_some (cell_named old)) (is_some s.fresh) free.fresh; left_of_the_card = k.left_of_the_card }
hand-right sh w seats s (SetMark c) old k ok = record { popped_alone = k.popped_alone; value_or_fresh = refl; left_of_the_card = k.left_of_the_card }
hand-right sh w seats s (DirtyCard card) old k ok =
    record {
      popped_alone = λ e. k.popped_alone (popped-before s.popped card e);
      value_or_fresh = lone (is_some s.value) (is_some s.fresh) _ (fresh_left s.fresh card) k.value_or_fresh;
      left_of_the_card = card-dirtied s.cleaning card k.left_of_the_card;
    }
hand-right sh w seats s (ClearCard card) old k ok =
    record { popped_alone = k.popped_alone; value_or_fresh = k.value_or_fresh; left_of_the_card = new_card (eqb old 1) card s.cleaning k.left_of_the_card }
hand-right sh w seats s (ReadMarks b) old k ok =
    record { popped_alone = k.popped_alone; value_or_fresh = k.value_or_fresh; left_of_the_card = card-known s.cleaning b old k.left_of_the_card }
hand-right sh w seats s step old k ok = record { popped_alone = k.popped_alone; value_or_fresh = k.value_or_fresh; left_of_the_card = k.left_of_the_card }

pub new-right : (sh : Shape) (k : ℕ) → HandRight sh (start_seat sh k)
new-right sh k = record { popped_alone = λ e. refl; value_or_fresh = refl; left_of_the_card = tt }

pub ended-right : (sh : Shape) (k : ℕ) → HandRight sh (spent_seat sh k)
ended-right sh k = record { popped_alone = λ e. refl; value_or_fresh = refl; left_of_the_card = tt }
