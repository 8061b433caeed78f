-- A seat's scan and its cleaning don't share a cell that is half read: kept by each step of the seat that is allowed.
use Rattle.std.proofs.Common.{ℕ, ◌≡◌, ◌+◌, ◌/◌, ◌%◌, ◌<◌, List, arith, refl, sym, ◌∙◌, Bool, true, false, not, cond, eqb, ◌&&◌, ◌||◌, Option, Some, None, ⊎_elim}
use Rattle.std.specs.Prelude.{IsFalse, IfSome, is_some, bit_and}
use Rattle.std.proofs.lemmas.Bool.{true≢false, false≢true, and_parts, not-true, or_cases, false_from_ne_true, and_left, and_right, lt-ltb}
use Rattle.mark_core.specs.Layout.{Words, words_of}
use Rattle.mark_core.specs.Bits.{has_bit, without_bit}
use Rattle.mark_core.specs.Seats.{scan_left, left_in, may_scan, scans, is_the, cleaning_left}
use Rattle.mark_core.specs.Steps.ColourSteps.{popped_after, scan_after, popped_off, cleaning_after, seen_in, without_cell, redirty_off, known_in}
use Rattle.mark_core.specs.Start.{start_seat, spent_seat, start_seats}
use Rattle.mark_core.specs.Parts.{parts}
use Rattle.mark_core.specs.Effects.{seat_after}
use Rattle.mark_core.specs.Steps.{AllTrue, Core, failing_part, after_event}
use Rattle.mark_core.proofs.Hands.HandsCleaning.{in_set-none, scan-left, left-read, left-dirtied}
use Rattle.mark_core.proofs.Hands.HandsRight.{free-from, popped-before, HandRight, hand-right, new-right, ended-right}
use Rattle.mark_core.proofs.Marks.MarksIdle.{idle-cleaning, at-seat}
use Rattle.mark_core.proofs.Marks.MarksHands.{may-load}
use Rattle.mark_core.proofs.Writing.CellBits.{without_same}
use Rattle.mark_core.proofs.Count.CountWork.{scans-left}
use Rattle.mark_core.specs.declared.kinds.Shape.{Shape}
use Rattle.mark_core.specs.declared.kinds.Step.{Step}
use Rattle.mark_core.specs.declared.kinds.Step.TheVariants.{Push, Pop, ReadAlloc, ReadField, DirtyCard, ClearCard, ReadMarks}
use Rattle.mark_core.specs.declared.seat.SeatState.{SeatState}
use Rattle.mark_core.specs.declared.seat.Cleaning.{Cleaning}
use Rattle.mark_core.specs.Cards.{block_of_card, card_bits}
use Rattle.std.specs.List.{All}
use Rattle.mark_core.specs.Laws.{IsCore}
use Rattle.mark_core.proofs.Known.{found}
use Rattle.mark_core.proofs.Doing.{local-kept}
use Rattle.mark_core.proofs.Pool.PoolStart.{each-seat}
use Rattle.mark_core.proofs.Blocks.BlocksStopped.{kept-after}
use Rattle.mark_core.specs.declared.kinds.Event.{Event}

-- nothing is popped, scanned or left while the cleaning isn't known
abbrev pub IsAlone : ℕ → Option (ℕ × Bool) → Option (ℕ × ℕ) → Cleaning → Type 0
IsAlone fields popped scan x = IsFalse x.known → IsFalse (is_some popped) × IsFalse (scan_left fields scan) × (x.left ≡ 0)

-- the cell that the scan stands in isn't left
abbrev pub IsOnce : ℕ → Option (ℕ × ℕ) → Option Cleaning → Type 0
IsOnce fields scan o = IfSome scan (λ x. 0 < x.1 → x.1 < fields → IsFalse (left_in o x.0))

-- both facts of a seat
pub record HandApart (sh : Shape) (s : SeatState) : Type 0 where
  pub unknown_alone : IfSome s.cleaning (IsAlone sh.fields s.popped s.scan)
  pub scanned_once : IsOnce sh.fields s.scan s.cleaning

-- less is left, or there is no such cell
once_less : (fields : ℕ) (scan : Option (ℕ × ℕ)) (o o' : Option Cleaning) → ((c : ℕ) → left_in o' c ≡ true → left_in o c ≡ true) → IsOnce fields scan o → IsOnce fields scan o'
once_less fields None o o' f k = tt
once_less fields (Some x) o o' f k = λ a b. false_from_ne_true (left_in o' x.0) (λ e. true≢false (sym (f x.0 e) ∙ k a b))

once_over : (fields : ℕ) (scan : Option (ℕ × ℕ)) (o : Option Cleaning) → scan_left fields scan ≡ false → IsOnce fields scan o
once_over fields None o e = tt
once_over fields (Some x) o e = λ a b. absurd (true≢false (sym (lt-ltb x.1 fields b) ∙ e))

-- 5, 12: what is popped may go
alone_less : (fields : ℕ) (o : Option Cleaning) (p q : Option (ℕ × Bool)) (scan : Option (ℕ × ℕ)) → (is_some q ≡ true → is_some p ≡ true) → IfSome o (IsAlone fields p scan) → IfSome o (IsAlone fields q scan)
alone_less fields None p q scan f k = tt
alone_less fields (Some x) p q scan f k = λ e. let a = k e in (false_from_ne_true (is_some q) (λ h. true≢false (sym (f h) ∙ a.0)), a.1, a.2)

popped_some : (b : Bool) (o : Option (ℕ × Bool)) → is_some (cond b o None) ≡ true → is_some o ≡ true
popped_some true o e = e
popped_some false o e = absurd (false≢true e)

-- a cleaning that is done is known
known_done : (k z r : Bool) → (not k || not z || r) ≡ false → k ≡ true
known_done true z r e = refl
known_done false z r e = absurd (true≢false e)

alone_known : (fields : ℕ) (o : Option Cleaning) (p : Option (ℕ × Bool)) (scan : Option (ℕ × ℕ)) → cleaning_left o ≡ false → IfSome o (IsAlone fields p scan)
alone_known fields None p scan e = tt
alone_known fields (Some x) p scan e = λ u. absurd (true≢false (sym (known_done x.known (eqb x.left 0) x.redirty e) ∙ u))

-- 9: a cleaning that is known may lose cells, and a popped cell may be scanned
read_none : (o : Option (ℕ × Bool)) (scan : Option (ℕ × ℕ)) (b word : ℕ) → is_some o ≡ false → (is_some (popped_after o b word) ≡ false) × (scan_after o scan b word ≡ scan)
read_none None scan b word e = (refl, refl)
read_none (Some x) scan b word e = absurd (true≢false e)

alone_seen : (fields : ℕ) (x : Cleaning) (t : Bool) (b word : ℕ) (p : Option (ℕ × Bool)) (scan : Option (ℕ × ℕ)) → (t ≡ true → x.known ≡ true) → IsAlone fields p scan x → IsAlone fields (popped_after p b word) (scan_after p scan b word) (cond t (seen_in x word) x)
alone_seen fields x true b word p scan f k = λ u. absurd (true≢false (sym (f refl) ∙ u))
alone_seen fields x false b word p scan f k = λ u. let a = k u in let n = read_none p scan b word a.0 in (n.0, rw n.1 a.1, a.2)

alone_read : (fields : ℕ) (o : Option Cleaning) (b word : ℕ) (p : Option (ℕ × Bool)) (scan : Option (ℕ × ℕ)) → IfSome o (IsAlone fields p scan) → IfSome (cleaning_after o b word) (IsAlone fields (popped_after p b word) (scan_after p scan b word))
alone_read fields None b word p scan k = tt
alone_read fields (Some x) b word p scan k = alone_seen fields x (x.known && eqb (block_of_card x.card) b) b word p scan (λ t. (and_parts x.known (eqb (block_of_card x.card) b) t).0) k

once_now : (fields : ℕ) (t : Bool) (c : ℕ) (scan : Option (ℕ × ℕ)) (o : Option Cleaning) → IsOnce fields scan o → IsOnce fields (cond t (Some (c, 0)) scan) o
once_now fields true c scan o k = λ a b. absurd (omega (arith, a))
once_now fields false c scan o k = k

once_read : (fields : ℕ) (p : Option (ℕ × Bool)) (scan : Option (ℕ × ℕ)) (b word : ℕ) (o : Option Cleaning) → IsOnce fields scan o → IsOnce fields (scan_after p scan b word) o
once_read fields None scan b word o k = k
once_read fields (Some x) scan b word o k = once_now fields (eqb (x.0 / 64) b && has_bit word (x.0 % 64)) x.0 scan o k

-- 10: a field is loaded only if the cleaning is known
loads_known : (fields : ℕ) (x : Cleaning) (p : Option (ℕ × Bool)) (scan : Option (ℕ × ℕ)) (c i : ℕ) (b : Bool) (P : Type 0) → i < fields → IsAlone fields p scan x → (scans scan c i || (eqb i 0 && may_scan (Some x) c && b)) ≡ true → IsFalse x.known → P
loads_known fields x p scan c i b P h k e u =
    let a = k u in
    ⊎_elim
    (λ (f : scans scan c i ≡ true). absurd (true≢false (sym (scans-left fields scan c i h f) ∙ a.1)))
    (λ (f : (eqb i 0 && may_scan (Some x) c && b) ≡ true).
    let l = scan-left (Some x) c (and_parts (eqb i 0) (may_scan (Some x) c) (and_parts (eqb i 0 && may_scan (Some x) c) b f).0).1 in
    in_set-none (block_of_card x.card) c P (rw a.2 at l))
    (or_cases (scans scan c i) (eqb i 0 && may_scan (Some x) c && b) e)

gone_known : (x : Cleaning) (t : Bool) (u v : ℕ) → (cond t (record x { left = u; published = v }) x).known ≡ x.known
gone_known x true u v = refl
gone_known x false u v = refl

alone_loads : (fields : ℕ) (o : Option Cleaning) (p : Option (ℕ × Bool)) (scan next : Option (ℕ × ℕ)) (c i : ℕ) (b : Bool) → i < fields → IfSome o (IsAlone fields p scan) → (scans scan c i || (eqb i 0 && may_scan o c && b)) ≡ true
    → IfSome (without_cell o c) (IsAlone fields p next)
alone_loads fields None p scan next c i b h k e = tt
alone_loads fields (Some x) p scan next c i b h k e = λ u. loads_known fields x p scan c i b _ h k e (sym (gone_known x (eqb (block_of_card x.card) (c / 64)) _ _) ∙ u)

-- the cell is gone from the list
left_gone : (x : Cleaning) (t : Bool) (c v : ℕ) → (t ≡ false → eqb (block_of_card x.card) (c / 64) ≡ false) → left_in (Some (cond t (record x { left = without_bit x.left (c % 64); published = v }) x)) c ≡ false
left_gone x true c v f = and_right (eqb (block_of_card x.card) (c / 64)) _ (without_same x.left (c % 64) (omega arith))
left_gone x false c v f = and_left (eqb (block_of_card x.card) (c / 64)) (has_bit x.left (c % 64)) (f refl)

gone : (o : Option Cleaning) (c : ℕ) → left_in (without_cell o c) c ≡ false
gone None c = refl
gone (Some x) c = left_gone x (eqb (block_of_card x.card) (c / 64)) c _ (λ e. e)

-- 12: a debt ends
dirtied_known : (x : Cleaning) (t : Bool) → ((cond t (record x { redirty = false }) x).known ≡ x.known) × ((cond t (record x { redirty = false }) x).left ≡ x.left)
dirtied_known x true = (refl, refl)
dirtied_known x false = (refl, refl)

alone_dirtied : (fields : ℕ) (o : Option Cleaning) (card : ℕ) (p : Option (ℕ × Bool)) (scan : Option (ℕ × ℕ)) → IfSome o (IsAlone fields p scan) → IfSome (redirty_off o card) (IsAlone fields p scan)
alone_dirtied fields None card p scan k = tt
alone_dirtied fields (Some x) card p scan k = λ u. let s = dirtied_known x (eqb x.card card) in let a = k (sym s.0 ∙ u) in (a.0, a.1, s.1 ∙ a.2)

-- 13: a cleaning begins
alone_new : (fields : ℕ) (b : Bool) (card : ℕ) (o : Option Cleaning) (p : Option (ℕ × Bool)) (scan : Option (ℕ × ℕ)) → is_some p ≡ false → scan_left fields scan ≡ false → IfSome o (IsAlone fields p scan)
    → IfSome (cond b (Some (record { card = card; known = false; left = 0; published = 0; redirty = false })) o) (IsAlone fields p scan)
alone_new fields true card o p scan e f k = λ u. (e, f, refl)
alone_new fields false card o p scan e f k = k

-- 14: the cells that are left become known
alone_found : (fields : ℕ) (x : Cleaning) (t : Bool) (u : ℕ) (p : Option (ℕ × Bool)) (scan : Option (ℕ × ℕ)) → IsAlone fields p scan x → IsAlone fields p scan (cond t (record x { known = true; left = u; published = 0 }) x)
alone_found fields x true u p scan k = λ e. absurd (true≢false e)
alone_found fields x false u p scan k = k

once_found : (fields : ℕ) (x : Cleaning) (t : Bool) (u : ℕ) (p : Option (ℕ × Bool)) (scan : Option (ℕ × ℕ)) → (t ≡ true → x.known ≡ false) → IsAlone fields p scan x → IsOnce fields scan (Some x) → IsOnce fields scan (Some (cond t (record x { known = true; left = u; published = 0 }) x))
once_found fields x true u p scan f a k = once_over fields scan (Some (record x { known = true; left = u; published = 0 })) (a (f refl)).1
once_found fields x false u p scan f a k = k

known_both : (fields : ℕ) (o : Option Cleaning) (b word : ℕ) (p : Option (ℕ × Bool)) (scan : Option (ℕ × ℕ)) → IfSome o (IsAlone fields p scan) → IsOnce fields scan o → IfSome (known_in o b word) (IsAlone fields p scan) × IsOnce fields scan (known_in o b word)
known_both fields None b word p scan a k = (tt, k)
known_both fields (Some x) b word p scan a k =
    let t : Bool = not x.known && eqb (block_of_card x.card) b in
    (alone_found fields x t (bit_and word (card_bits x.card)) p scan a, once_found fields x t (bit_and word (card_bits x.card)) p scan (λ e. not-true x.known (and_parts (not x.known) (eqb (block_of_card x.card) b) e).0) a k)

-- the seat's facts after its step
pub hand-apart : (sh : Shape) (w : Words) (seats : List SeatState) (s : SeatState) (step : Step) (old : ℕ) → HandApart sh s → AllTrue (parts sh w seats s step) → HandApart sh (seat_after sh s step old)
hand-apart sh w seats s (Push p c) old k ok = record { unknown_alone = alone_less sh.fields s.cleaning s.popped (seat_after sh s (Push p c) old).popped s.scan (popped_some (is_the s.fresh c) s.popped) k.unknown_alone; scanned_once = k.scanned_once }
hand-apart sh w seats s (Pop p) old k ok = record { unknown_alone = alone_known sh.fields s.cleaning (seat_after sh s (Pop p) old).popped s.scan (idle-cleaning sh.fields s (not-true _ ok.1.1.0)); scanned_once = k.scanned_once }
hand-apart sh w seats s (ReadAlloc b) old k ok =
    record {
      unknown_alone = alone_read sh.fields s.cleaning b old s.popped s.scan k.unknown_alone;
      scanned_once = once_less sh.fields (scan_after s.popped s.scan b old) s.cleaning (cleaning_after s.cleaning b old) (left-read s.cleaning b old) (once_read sh.fields s.popped s.scan b old s.cleaning k.scanned_once);
    }
hand-apart sh w seats s (ReadField c i) old k ok =
    let a = may-load sh s c i ok.0 in
    record { unknown_alone = alone_loads sh.fields s.cleaning s.popped s.scan (Some (c, i + 1)) c i (not (scan_left sh.fields s.scan)) a.1 k.unknown_alone a.2; scanned_once = λ _ _. gone s.cleaning c }
hand-apart sh w seats s (DirtyCard card) old k ok =
    record {
      unknown_alone = alone_dirtied sh.fields s.cleaning card (popped_off s.popped card) s.scan (alone_less sh.fields s.cleaning s.popped (popped_off s.popped card) s.scan (popped-before s.popped card) k.unknown_alone);
      scanned_once = once_less sh.fields s.scan s.cleaning (redirty_off s.cleaning card) (λ c e. sym (left-dirtied s.cleaning card c) ∙ e) k.scanned_once;
    }
hand-apart sh w seats s (ClearCard card) old k ok =
    let free = free-from sh.fields s (not-true _ ok.1.0) in
    record { unknown_alone = alone_new sh.fields (eqb old 1) card s.cleaning s.popped s.scan free.popped free.scan k.unknown_alone; scanned_once = once_over sh.fields s.scan (seat_after sh s (ClearCard card) old).cleaning free.scan }
hand-apart sh w seats s (ReadMarks b) old k ok = let a = known_both sh.fields s.cleaning b old s.popped s.scan k.unknown_alone k.scanned_once in record { unknown_alone = a.0; scanned_once = a.1 }
hand-apart sh w seats s step old k ok = record { unknown_alone = k.unknown_alone; scanned_once = k.scanned_once }

pub new-apart : (sh : Shape) (k : ℕ) → HandApart sh (start_seat sh k)
new-apart sh k = record { unknown_alone = tt; scanned_once = tt }

pub ended-apart : (sh : Shape) (k : ℕ) → HandApart sh (spent_seat sh k)
ended-apart sh k = record { unknown_alone = tt; scanned_once = tt }

-- Each event that is allowed keeps what seats have in hand for tracing, and the state in which nothing has happened has it.
-- what all seats have, before
pub hands-now : (c : Core) → IsCore c → All (HandRight c.shape) c.seats
hands-now c k i d h =
    let strong = k.strong.seats_strong i d h in
    record { popped_alone = strong.popped_alone; value_or_fresh = strong.value_or_fresh; left_of_the_card = strong.left_of_the_card }

pub apart-now : (c : Core) → IsCore c → All (HandApart c.shape) c.seats
apart-now c k i d h = let strong = k.strong.seats_strong i d h in record { unknown_alone = strong.unknown_alone; scanned_once = strong.scanned_once }

-- a rule of one seat is kept by each event that is allowed, if it is kept by each step of the seat
kept_by : (P : Shape → SeatState → Type 0) → ((sh : Shape) (k : ℕ) → P sh (start_seat sh k)) → ((sh : Shape) (k : ℕ) → P sh (spent_seat sh k))
    → ((sh : Shape) (w : Words) (seats : List SeatState) (s : SeatState) (step : Step) (old : ℕ) → P sh s → AllTrue (parts sh w seats s step) → P sh (seat_after sh s step old)) → ((c : Core) → IsCore c → All (P c.shape) c.seats)
    → (c : Core) (e : Event) → IsCore c → failing_part c e ≡ None → All (P (after_event c e).shape) (after_event c e).seats
kept_by P new ended step now c e k f =
    kept-after (λ sh w seats. All (P sh) seats) c e k f
    (λ s _ t.
    let all : All (P c.shape) c.seats = now c k in
    let old : ℕ = found c s e.step in
    local-kept (P c.shape) c.shape e.step c.seats e.seat (seat_after c.shape s e.step old) (new c.shape) (ended c.shape) all (step c.shape (words_of c.shape c.words) c.seats s e.step old (at-seat (P c.shape) c e.seat s t.got all) t.ok))

-- each event that is allowed keeps these facts of the seats
pub hands-kept_by : (c : Core) (e : Event) → IsCore c → failing_part c e ≡ None → All (HandRight (after_event c e).shape) (after_event c e).seats
hands-kept_by c e k f = kept_by HandRight new-right ended-right hand-right hands-now c e k f

pub apart-kept_by : (c : Core) (e : Event) → IsCore c → failing_part c e ≡ None → All (HandApart (after_event c e).shape) (after_event c e).seats
apart-kept_by c e k f = kept_by HandApart new-apart ended-apart hand-apart apart-now c e k f

pub hands-starts : (sh : Shape) (n : ℕ) → All (HandRight sh) (start_seats sh n)
hands-starts sh n = each-seat (HandRight sh) sh n (new-right sh)

pub apart-starts : (sh : Shape) (n : ℕ) → All (HandApart sh) (start_seats sh n)
apart-starts sh n = each-seat (HandApart sh) sh n (new-apart sh)
