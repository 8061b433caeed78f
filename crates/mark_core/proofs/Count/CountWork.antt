-- If a seat without work in hand takes a step of tracing, it has none afterwards.
use Rattle.std.proofs.Common.{ℕ, ◌≡◌, ◌%◌, ◌<◌, ◌&&◌, ◌||◌, arith, refl, sym, ap, ◌∙◌, Bool, true, false, not, cond, eqb, Option, Some, None, ⊎_elim, ◌+◌, ◌≤◌, List, set}
use Rattle.std.specs.Prelude.{is_some, IsTrue, nat_lt}
use Rattle.std.proofs.lemmas.Bool.{cases_Bool, true≢false, false≢true, and_parts, or_cases, eqb-true, lt-ltb, ltb-true}
use Rattle.std.specs.Int.Bits.{and_zero_l}
use Rattle.mark_core.specs.Bits.{complement}
use Rattle.mark_core.specs.Seats.{work_in_hand, scan_left, cleaning_left, scans, may_scan, is_the}
use Rattle.mark_core.specs.Steps.ColourSteps.{popped_after, scan_after, cleaning_after, seen_in, may_read_field, fresh_off, popped_off, redirty_off, known_in}
use Rattle.mark_core.specs.Effects.{seat_after, place, written}
use Rattle.mark_core.proofs.Writing.CellBits.{some-bit}
use Rattle.mark_core.proofs.Basics.{some-number}
use Rattle.mark_core.specs.declared.kinds.Shape.{Shape}
use Rattle.mark_core.specs.declared.kinds.Step.TheVariants.{ReadAlloc, DirtyCard, ReadMarks, Reserve, Credit, ReadField, ReadRoot, SetMark, ClearCard, LoadSlot}
use Rattle.mark_core.specs.declared.seat.SeatState.{SeatState}
use Rattle.mark_core.specs.declared.seat.Cleaning.{Cleaning}
use Rattle.mark_core.specs.Cards.{block_of_card}
use Rattle.mark_core.specs.Layout.{Words, put_word}
use Rattle.mark_core.specs.Held.{holds_any}
use Rattle.mark_core.specs.Views.{Grasp}
use Rattle.mark_core.specs.Parts.{parts}
use Rattle.mark_core.specs.Steps.{AllTrue}
use Rattle.mark_core.specs.Laws.{PacketsSound}
use Rattle.mark_core.proofs.Count.CountMoves.{bit, neither, count-above, count-below}
use Rattle.mark_core.proofs.Writing.Frames.{held_of, debts_of, changes_held, changes_debts, changes_grasp, held-kept, debts-kept, grasp-kept}
use Rattle.mark_core.proofs.Writing.Writes.{touches_empty, empty-kept}
use Rattle.mark_core.proofs.Writing.RegionWrites.{touches_heads, touches_pools, heads-kept, pools-kept}
use Rattle.mark_core.proofs.Pool.PoolLengths.{At, sound-still, one-debt, work-holds}
use Rattle.mark_core.specs.declared.kinds.Step.{Step}

-- no part of the work that a seat may have
pub record IsIdle (fields : ℕ) (s : SeatState) : Type 0 where
  pub popped : is_some s.popped ≡ false
  pub scan : scan_left fields s.scan ≡ false
  pub value : is_some s.value ≡ false
  pub fresh : is_some s.fresh ≡ false
  pub cleaning : cleaning_left s.cleaning ≡ false

none_of : (a b c d e : Bool) → (a || b || c || d || e) ≡ false → (a ≡ false) × (b ≡ false) × (c ≡ false) × (d ≡ false) × (e ≡ false)
none_of true b c d e h = absurd (true≢false h)
none_of false true c d e h = absurd (true≢false h)
none_of false false true d e h = absurd (true≢false h)
none_of false false false true e h = absurd (true≢false h)
none_of false false false false e h = (refl, refl, refl, refl, h)

pub idle-from : (fields : ℕ) (s : SeatState) → work_in_hand fields s ≡ false → IsIdle fields s
idle-from fields s h =
    let a = none_of (is_some s.popped) (scan_left fields s.scan) (is_some s.value) (is_some s.fresh) (cleaning_left s.cleaning) h in
    record { popped = a.0; scan = a.1; value = a.2; fresh = a.3; cleaning = a.4 }

idle_work : (fields : ℕ) (s : SeatState) → IsIdle fields s → work_in_hand fields s ≡ false
idle_work fields s h = rw (h.popped, h.scan, h.value, h.fresh, h.cleaning) refl

-- work that is there after a step was there before it, if an idle seat stays idle
pub work-before : (fields : ℕ) (s t : SeatState) → (IsIdle fields s → IsIdle fields t) → work_in_hand fields t ≡ true → work_in_hand fields s ≡ true
work-before fields s t f h =
    ⊎_elim
    (λ (e : work_in_hand fields s ≡ true). e)
    (λ (e : work_in_hand fields s ≡ false). absurd (true≢false (sym h ∙ idle_work fields t (f (idle-from fields s e)))))
    (cases_Bool (work_in_hand fields s))

popped_read : (o : Option (ℕ × Bool)) (b word : ℕ) → is_some o ≡ false → is_some (popped_after o b word) ≡ false
popped_read None b word e = refl
popped_read (Some x) b word e = absurd (true≢false e)

scan_read : (fields : ℕ) (o : Option (ℕ × Bool)) (scan : Option (ℕ × ℕ)) (b word : ℕ) → is_some o ≡ false → scan_left fields scan ≡ false → scan_left fields (scan_after o scan b word) ≡ false
scan_read fields None scan b word e h = h
scan_read fields (Some x) scan b word e h = absurd (true≢false e)

left_zero : (z r : Bool) → (not z || r) ≡ false → (z ≡ true) × (r ≡ false)
left_zero true r h = (refl, h)
left_zero false r h = absurd (true≢false h)

-- nothing is left of a cleaning
nothing_left : (k r : Bool) (left : ℕ) → (not k || not (eqb left 0) || r) ≡ false → (k ≡ true) × (left ≡ 0) × (r ≡ false)
nothing_left true r left h = let a = left_zero (eqb left 0) r h in (refl, eqb-true left 0 a.0, a.1)
nothing_left false r left h = absurd (true≢false h)

seen_idle : (x : Cleaning) (b : Bool) (word : ℕ) → cleaning_left (Some x) ≡ false → cleaning_left (Some (cond b (seen_in x word) x)) ≡ false
seen_idle x true word h = let a = nothing_left x.known x.redirty x.left h in rw (a.0, a.1, a.2) (ap (λ (z : ℕ). not (eqb z 0)) (and_zero_l (complement word)))
seen_idle x false word h = h

cleaning_read : (o : Option Cleaning) (b word : ℕ) → cleaning_left o ≡ false → cleaning_left (cleaning_after o b word) ≡ false
cleaning_read None b word h = h
cleaning_read (Some x) b word h = seen_idle x (x.known && eqb (block_of_card x.card) b) word h

pub idle-read_alloc : (sh : Shape) (s : SeatState) (b old : ℕ) → IsIdle sh.fields s → IsIdle sh.fields (seat_after sh s (ReadAlloc b) old)
idle-read_alloc sh s b old h =
    record {
      popped = popped_read s.popped b old h.popped;
      scan = scan_read sh.fields s.popped s.scan b old h.popped h.scan;
      value = h.value;
      fresh = h.fresh;
      cleaning = cleaning_read s.cleaning b old h.cleaning;
    }

fresh_dirtied : (o : Option ℕ) (card : ℕ) → is_some o ≡ false → is_some (fresh_off o card) ≡ false
fresh_dirtied None card e = refl
fresh_dirtied (Some c) card e = absurd (true≢false e)

popped_dirtied : (o : Option (ℕ × Bool)) (card : ℕ) → is_some o ≡ false → is_some (popped_off o card) ≡ false
popped_dirtied None card e = refl
popped_dirtied (Some x) card e = absurd (true≢false e)

cleaned_idle : (x : Cleaning) (b : Bool) → cleaning_left (Some x) ≡ false → cleaning_left (Some (cond b (record x { redirty = false }) x)) ≡ false
cleaned_idle x true h = let a = nothing_left x.known x.redirty x.left h in rw (a.0, a.1) refl
cleaned_idle x false h = h

cleaning_dirtied : (o : Option Cleaning) (card : ℕ) → cleaning_left o ≡ false → cleaning_left (redirty_off o card) ≡ false
cleaning_dirtied None card h = h
cleaning_dirtied (Some x) card h = cleaned_idle x (eqb x.card card) h

pub idle-dirty_card : (sh : Shape) (s : SeatState) (card old : ℕ) → IsIdle sh.fields s → IsIdle sh.fields (seat_after sh s (DirtyCard card) old)
idle-dirty_card sh s card old h =
    record {
      popped = popped_dirtied s.popped card h.popped;
      scan = h.scan;
      value = h.value;
      fresh = fresh_dirtied s.fresh card h.fresh;
      cleaning = cleaning_dirtied s.cleaning card h.cleaning;
    }

cleaning_known : (o : Option Cleaning) (b word : ℕ) → cleaning_left o ≡ false → cleaning_left (known_in o b word) ≡ false
cleaning_known None b word h = h
cleaning_known (Some x) b word h = let a = nothing_left x.known x.redirty x.left h in rw (a.0, a.1, a.2) refl

pub idle-read_marks : (sh : Shape) (s : SeatState) (b old : ℕ) → IsIdle sh.fields s → IsIdle sh.fields (seat_after sh s (ReadMarks b) old)
idle-read_marks sh s b old h =
    record { popped = h.popped; scan = h.scan; value = h.value; fresh = h.fresh; cleaning = cleaning_known s.cleaning b old h.cleaning }

-- a seat that may read a field has work in hand
pub scans-left : (fields : ℕ) (o : Option (ℕ × ℕ)) (c i : ℕ) → i < fields → scans o c i ≡ true → scan_left fields o ≡ true
scans-left fields None c i h e = absurd (false≢true e)
scans-left fields (Some x) c i h e = lt-ltb x.1 fields (omega (arith, h, eqb-true x.1 i (and_parts _ _ e).1))

not_done : (k z r : Bool) → z ≡ false → (not k || not z || r) ≡ true
not_done true true r e = absurd (true≢false e)
not_done true false r e = refl
not_done false z r e = refl

cleaning_on : (o : Option Cleaning) (c : ℕ) → may_scan o c ≡ true → cleaning_left o ≡ true
cleaning_on None c e = absurd (false≢true e)
cleaning_on (Some x) c e = not_done x.known (eqb x.left 0) x.redirty (some-bit x.left (c % 64) (and_parts _ _ (and_parts _ _ e).0).1)

any_scan : (a b c d e : Bool) → b ≡ true → (a || b || c || d || e) ≡ true
any_scan true b c d e h = refl
any_scan false true c d e h = refl
any_scan false false c d e h = absurd (false≢true h)

any_value : (a b c d e : Bool) → c ≡ true → (a || b || c || d || e) ≡ true
any_value true b c d e h = refl
any_value false true c d e h = refl
any_value false false true d e h = refl
any_value false false false d e h = absurd (false≢true h)

any_cleaning : (a b c d e : Bool) → e ≡ true → (a || b || c || d || e) ≡ true
any_cleaning true b c d e h = refl
any_cleaning false true c d e h = refl
any_cleaning false false true d e h = refl
any_cleaning false false false true e h = refl
any_cleaning false false false false e h = h

pub work-reads : (sh : Shape) (s : SeatState) (c i : ℕ) → i < sh.fields → may_read_field sh s c i ≡ true → work_in_hand sh.fields s ≡ true
work-reads sh s c i h e =
    ⊎_elim
    (λ (a : scans s.scan c i ≡ true). any_scan (is_some s.popped) (scan_left sh.fields s.scan) (is_some s.value) (is_some s.fresh) (cleaning_left s.cleaning) (scans-left sh.fields s.scan c i h a))
    (λ a.
    any_cleaning (is_some s.popped) (scan_left sh.fields s.scan) (is_some s.value) (is_some s.fresh) (cleaning_left s.cleaning)
    (cleaning_on s.cleaning c (and_parts (eqb i 0) (may_scan s.cleaning c) (and_parts _ _ a).0).1))
    (or_cases (scans s.scan c i) _ e)

-- a seat that may mark has work in hand
pub work-marks : (fields : ℕ) (s : SeatState) (c : ℕ) → is_the s.value c ≡ true → work_in_hand fields s ≡ true
work-marks fields s c e = any_value (is_some s.popped) (scan_left fields s.scan) (is_some s.value) (is_some s.fresh) (cleaning_left s.cleaning) (some-number s.value c e)

-- Steps that leave the packets where they are keep the rules of packets.
taken_one : (e c : ℕ) → 1 ≤ e → e < 18446744073709551616 → (e + 18446744073709551615) % 18446744073709551616 + 1 + c ≡ e + 0 + c
taken_one e c h g = omega arith

-- 1: a reservation
pub sound-reserve : (sh : Shape) (w : Words) (seats : List SeatState) (i : ℕ) (s : SeatState) → At sh w seats i s → AllTrue (parts sh w seats s Reserve)
    → PacketsSound sh (put_word (place sh s Reserve) (written sh s Reserve w.empty) w) (set seats i (seat_after sh s Reserve w.empty))
sound-reserve sh w seats i s a ok =
    let free = neither s.reserved s.credit ok.1.0 in
    let above = count-above sh w.empty w.heads w.pools seats a.packets.counts a.few in
    let below = count-below sh w.empty w.heads w.pools seats a.packets.counts in
    sound-still sh w (put_word (place sh s Reserve) (written sh s Reserve w.empty) w) seats i s (seat_after sh s Reserve w.empty) a
    (record {
      heads = refl;
      pools = refl;
      held = refl;
      counted = rw free.0 (taken_one w.empty (bit s.credit) (omega (arith, above)) (omega (arith, below, a.shaped.packets)));
      one_debt = free.1;
      work_holds = work-holds sh w seats i s a;
    })

one_ends : (e : ℕ) (r c : Bool) → e ≤ 64 + 1024 → (c || r) ≡ true → (r && c) ≡ false → (e + 1) % 18446744073709551616 + 0 + 0 ≡ e + bit r + bit c
one_ends e true true h o n = absurd (true≢false n)
one_ends e false false h o n = absurd (false≢true o)
one_ends e true false h o n = omega arith
one_ends e false true h o n = omega arith

-- 4: a debt or a reservation ends
pub sound-credit : (sh : Shape) (w : Words) (seats : List SeatState) (i : ℕ) (s : SeatState) → At sh w seats i s → AllTrue (parts sh w seats s Credit)
    → PacketsSound sh (put_word (place sh s Credit) (written sh s Credit w.empty) w) (set seats i (seat_after sh s Credit w.empty))
sound-credit sh w seats i s a ok =
    let below = count-below sh w.empty w.heads w.pools seats a.packets.counts in
    sound-still sh w (put_word (place sh s Credit) (written sh s Credit w.empty) w) seats i s (seat_after sh s Credit w.empty) a
    (record {
      heads = refl;
      pools = refl;
      held = refl;
      counted = one_ends w.empty s.reserved s.credit (omega (arith, below, a.shaped.packets)) ok.0 (one-debt sh w seats i s a);
      one_debt = refl;
      work_holds = work-holds sh w seats i s a;
    })

-- a step of tracing, which leaves all but the work in hand
pub sound-work : (sh : Shape) (w w' : Words) (seats : List SeatState) (i : ℕ) (s t : SeatState) → At sh w seats i s → (w'.empty ≡ w.empty) × (w'.heads ≡ w.heads) × (w'.pools ≡ w.pools)
    → held_of t ≡ held_of s → debts_of t ≡ debts_of s → (IsTrue (work_in_hand sh.fields t) → IsTrue (holds_any s.held)) → PacketsSound sh w' (set seats i t)
sound-work sh w w' seats i s t a same held debts work =
    let r : t.reserved ≡ s.reserved = ap (λ (x : Bool × Bool). x.0) debts in
    let c : t.credit ≡ s.credit = ap (λ (x : Bool × Bool). x.1) debts in
    sound-still sh w w' seats i s t a
    (record {
      heads = same.1;
      pools = same.2;
      held = held;
      counted = rw (same.0, r, c) refl;
      one_debt = rw (r, c) (one-debt sh w seats i s a);
      work_holds = work;
    })

-- the work that a seat has
abbrev work_of : ℕ → Grasp → Bool
work_of fields g = is_some g.popped || scan_left fields g.scan || is_some g.value || is_some g.fresh || cleaning_left g.cleaning

-- a step that leaves what the rules read
pub sound-other : (sh : Shape) (w : Words) (seats : List SeatState) (i : ℕ) (s : SeatState) (step : Step) (v old : ℕ) → At sh w seats i s → touches_empty step ≡ false → touches_heads step ≡ false → touches_pools step ≡ false
    → changes_held step ≡ false → changes_debts step ≡ false → changes_grasp step ≡ false → PacketsSound sh (put_word (place sh s step) v w) (set seats i (seat_after sh s step old))
sound-other sh w seats i s step v old a e h p held debts grasp =
    let same : work_in_hand sh.fields (seat_after sh s step old) ≡ work_in_hand sh.fields s = ap (work_of sh.fields) (grasp-kept sh s step old grasp) in
    sound-work sh w (put_word (place sh s step) v w) seats i s (seat_after sh s step old) a (empty-kept sh s step v w e, heads-kept sh s step v w h, pools-kept sh s step v w p) (held-kept sh s step old held) (debts-kept sh s step old debts)
    (λ f. work-holds sh w seats i s a (sym same ∙ f))

-- the steps that change the work in hand, and leave the packets in hand
abbrev pub is_tracing : Step → Bool
is_tracing (ReadAlloc b) = true
is_tracing (ReadField c i) = true
is_tracing (ReadRoot section v) = true
is_tracing (LoadSlot section k) = true
is_tracing (SetMark c) = true
is_tracing (DirtyCard card) = true
is_tracing (ClearCard card) = true
is_tracing (ReadMarks b) = true
is_tracing step = false

-- a seat that has work in hand after such a step holds a packet before it
pub work-after : (sh : Shape) (w : Words) (seats : List SeatState) (i : ℕ) (s : SeatState) (step : Step) (old : ℕ) → At sh w seats i s → AllTrue (parts sh w seats s step) → is_tracing step ≡ true
    → IsTrue (work_in_hand sh.fields (seat_after sh s step old)) → IsTrue (holds_any s.held)
work-after sh w seats i s (ReadAlloc b) old a ok _ e = work-holds sh w seats i s a (work-before sh.fields s (seat_after sh s (ReadAlloc b) old) (idle-read_alloc sh s b old) e)
work-after sh w seats i s (ReadField c f) old a ok _ e =
    let range = and_parts (nat_lt c sh.cells && nat_lt f sh.fields) (may_read_field sh s c f) ok.0 in
    let cell = and_parts (nat_lt c sh.cells) (nat_lt f sh.fields) range.0 in
    work-holds sh w seats i s a (work-reads sh s c f (ltb-true f sh.fields cell.1) range.1)
work-after sh w seats i s (ReadRoot section v) old a ok _ e = (and_parts _ _ ok.0).1
work-after sh w seats i s (LoadSlot section k) old a ok _ e = (and_parts _ _ ok.0).1
work-after sh w seats i s (SetMark c) old a ok _ e = work-holds sh w seats i s a (work-marks sh.fields s c (and_parts _ _ ok.0).1)
work-after sh w seats i s (DirtyCard card) old a ok _ e = work-holds sh w seats i s a (work-before sh.fields s (seat_after sh s (DirtyCard card) old) (idle-dirty_card sh s card old) e)
work-after sh w seats i s (ClearCard card) old a ok _ e = (and_parts _ _ ok.0).1
work-after sh w seats i s (ReadMarks b) old a ok _ e = work-holds sh w seats i s a (work-before sh.fields s (seat_after sh s (ReadMarks b) old) (idle-read_marks sh s b old) e)
work-after sh w seats i s step old a ok t e = absurd (false≢true t)
