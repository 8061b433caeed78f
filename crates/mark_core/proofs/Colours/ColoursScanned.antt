-- A black cell stays black over each step of tracing, or its card is owed; and a grey one that a seat begins to scan becomes so.
use Rattle.mark_core.specs.Steps.MutatorSteps.{seat_variable, variable_or_nil}
use Rattle.std.proofs.Common.{ℕ, ◌≡◌, ◌+◌, ◌-◌, ◌*◌, ◌/◌, ◌%◌, ◌<◌, List, set, arith, refl, sym, ap, ◌∙◌, subst, Bool, true, false, not, eqb, ◌&&◌, Option, Some, None, ⊎_elim, cond}
use Rattle.std.specs.Prelude.{IsTrue, IfSome, nat_le}
use Rattle.std.proofs.lemmas.Bool.{true≢false, false≢true, cases_eq, and_parts, and_from, or_cases, eqb-true, eq-eqb, le-leb}
use Rattle.std.proofs.lemmas.List.{set-get_or}
use Rattle.mark_core.specs.Layout.{Words, words_of}
use Rattle.mark_core.specs.Bits.{has_bit, cell_of}
use Rattle.mark_core.specs.Seats.{scans, scan_left, left_in, may_scan}
use Rattle.mark_core.specs.Views.{grasps, hands}
use Rattle.mark_core.specs.Cells.{field}
use Rattle.mark_core.specs.Rules.WorldRules.{is_tracing}
use Rattle.mark_core.specs.Rules.ColourRules.{popped_is, will_read, is_unread_by, IsScanned, IsAccounted}
use Rattle.mark_core.specs.Steps.ColourSteps.{scan_after}
use Rattle.mark_core.specs.Effects.{written}
use Rattle.mark_core.specs.Steps.{Core}
use Rattle.mark_core.proofs.Known.{found, words_left, seats_left}
use Rattle.mark_core.proofs.Writing.RegionWrites.{fields-kept}
use Rattle.mark_core.proofs.Hands.HandsApart.{HandApart, IsOnce, apart-now}
use Rattle.mark_core.proofs.Marks.MarksIdle.{at-seat, found-word, marks-grow}
use Rattle.mark_core.proofs.Marks.MarksHands.{may-load}
use Rattle.mark_core.proofs.Colours.ColoursFields.{grasp-new, seat_left, is_done, done-cases, done-nil, done-marked, done-valued, done-read, value-after, read-after, Loads, loaded-done}
use Rattle.mark_core.proofs.Colours.ColoursWaits.{Leaves}
use Rattle.mark_core.proofs.Blocks.BlocksStopped.{Taken}
use Rattle.mark_core.specs.declared.kinds.Shape.{Shape}
use Rattle.mark_core.specs.declared.kinds.Step.{Step}
use Rattle.mark_core.specs.declared.kinds.Step.TheVariants.{ReadAlloc, ReadField, ReadOwn, StoreField, StoreNew, ExchangeField}
use Rattle.mark_core.specs.declared.seat.SeatState.{SeatState}

-- what accounts for a cell, and after a step
abbrev pub AccountedNow : Core → ℕ → Type 0
AccountedNow c x = IsAccounted c.shape (words_of c.shape c.words).marks (words_of c.shape c.words).cards (words_of c.shape c.words).heads (words_of c.shape c.words).entries (words_of c.shape c.words).fields (hands c.seats) (grasps c.seats) x

abbrev pub AccountedAfter : Core → ℕ → SeatState → Step → ℕ → Type 0
AccountedAfter c i s step x =
    IsAccounted c.shape (words_left c s step).marks (words_left c s step).cards (words_left c s step).heads (words_left c s step).entries (words_left c s step).fields (hands (seats_left c i s step)) (grasps (seats_left c i s step)) x

abbrev pub ScannedNow : Core → ℕ → Type 0
ScannedNow c x = IsScanned c.shape (words_of c.shape c.words).marks (words_of c.shape c.words).fields (grasps c.seats) x

abbrev pub ScannedAfter : Core → ℕ → SeatState → Step → ℕ → Type 0
ScannedAfter c i s step x = IsScanned c.shape (words_left c s step).marks (words_left c s step).fields (grasps (seats_left c i s step)) x

-- the step stores a field
abbrev pub writes_field : Step → Bool
writes_field (StoreField v j r) = true
writes_field (ExchangeField v j r q) = true
writes_field (StoreNew y part word) = true
writes_field step = false

-- no other step changes one
pub fields-stay : (c : Core) (i : ℕ) (s : SeatState) (step : Step) → Taken c i s step → writes_field step ≡ false → (words_left c s step).fields ≡ (words_of c.shape c.words).fields
fields-stay c i s (StoreField v j r) a f = absurd (true≢false f)
fields-stay c i s (ExchangeField v j r q) a f = absurd (true≢false f)
fields-stay c i s (StoreNew y part word) a f = absurd (true≢false f)
fields-stay c i s (ReadField y j) a f =
    let fields : List ℕ = (words_of c.shape c.words).fields in
    let at : ℕ = y * c.shape.fields + j in
    subst (λ (v : ℕ). set fields at v ≡ fields) (sym (found-word c i s (ReadField y j) a.core a.got a.ok)) (set-get_or fields at 0)
fields-stay c i s (ReadOwn y j) a f =
    let fields : List ℕ = (words_of c.shape c.words).fields in
    let at : ℕ = y * c.shape.fields + j in
    subst (λ (v : ℕ). set fields at v ≡ fields) (sym (found-word c i s (ReadOwn y j) a.core a.got a.ok)) (set-get_or fields at 0)
fields-stay c i s step a f = fields-kept c.shape s step (written c.shape s step (found c s step)) (words_of c.shape c.words) refl

-- an exchange that finds another word than the expected one changes none
pub lost-fields : (c : Core) (i : ℕ) (s : SeatState) (v j : ℕ) (r q : Option ℕ) → Taken c i s (ExchangeField v j r q) → eqb (found c s (ExchangeField v j r q)) (variable_or_nil s r) ≡ false → (words_left c s (ExchangeField v j r q)).fields ≡ (words_of c.shape c.words).fields
lost-fields c i s v j r q a lost =
    let fields : List ℕ = (words_of c.shape c.words).fields in
    let step : Step = ExchangeField v j r q in
    let at : ℕ = cell_of (seat_variable s v) * c.shape.fields + j in
    ap (λ (b : Bool). set fields at (cond b (variable_or_nil s q) (found c s step))) lost
    ∙ subst (λ (word : ℕ). set fields at word ≡ fields) (sym (found-word c i s step a.core a.got a.ok)) (set-get_or fields at 0)

-- a field that stays is done after a step, if it was before
pub field-after : (c : Core) (i : ℕ) (s : SeatState) (step : Step) (x j word : ℕ) → Taken c i s step → IsTrue (is_tracing (words_left c s step).phase) → j < c.shape.fields → (Loads step x j → is_done (words_left c s step).marks (seats_left c i s step) word x j ≡ true)
    → is_done (words_of c.shape c.words).marks c.seats word x j ≡ true → is_done (words_left c s step).marks (seats_left c i s step) word x j ≡ true
field-after c i s step x j word a t h loads e =
    let w : Words = words_of c.shape c.words in
    let marks : List ℕ = (words_left c s step).marks in
    let seats : List SeatState = seats_left c i s step in
    let D : Type 0 = is_done marks seats word x j ≡ true in
    done-cases w.marks c.seats word x j D (λ n. done-nil marks seats word x j n) (λ m. done-marked marks seats word x j (marks-grow c i s step a.core a.got a.ok t (word - 1) m))
    (λ v. value-after c i s step (word - 1) D a (λ k. done-valued marks seats word x j k) (λ k. done-marked marks seats word x j k) v)
    (λ r. read-after c i s step x j D a h (λ k. done-read marks seats word x j k) loads r)
    e

-- a field that the step loads
loads_done : (c : Core) (i : ℕ) (s : SeatState) (step : Step) (x j : ℕ) → Taken c i s step → Loads step x j → is_done (words_left c s step).marks (seats_left c i s step) (field c.shape (words_of c.shape c.words).fields x j) x j ≡ true
loads_done c i s (ReadField y k) x j a l = rw (l.0, l.1) (loaded-done c i s y k (words_left c s (ReadField y k)).marks a)
loads_done c i s step x j a l = absurd l

-- a scanned cell stays so, if the step stores no field
pub scanned-stays : (c : Core) (i : ℕ) (s : SeatState) (step : Step) (x : ℕ) → Taken c i s step → IsTrue (is_tracing (words_left c s step).phase) → writes_field step ≡ false → ScannedNow c x → ScannedAfter c i s step x
scanned-stays c i s step x a t f k j h =
    let w : Words = words_of c.shape c.words in
    rw (fields-stay c i s step a f) (field-after c i s step x j (field c.shape w.fields x j) a t h (loads_done c i s step x j a) (k j h))

-- 9: a cell that was popped is scanned from its first field on
scan_starts : (p : Option (ℕ × Bool)) (scan : Option (ℕ × ℕ)) (b word x j : ℕ) → popped_is p x ≡ true → x / 64 ≡ b → has_bit word (x % 64) ≡ true → is_unread_by (scan_after p scan b word) x j ≡ true
scan_starts None scan b word x j e f h = absurd (false≢true e)
scan_starts (Some y) scan b word x j e f h =
    let same : y.0 ≡ x = eqb-true y.0 x e in
    let starts : (eqb (y.0 / 64) b && has_bit word (y.0 % 64)) ≡ true = rw same (and_from (eqb (x / 64) b) (has_bit word (x % 64)) (eq-eqb (x / 64) b f) h) in
    rw starts (and_from (eqb y.0 x) (nat_le 0 j) e (le-leb 0 j (omega arith)))

-- 10: a cell that leaves the list is read from its first field on
first_field : (fields : ℕ) (o : Option (ℕ × ℕ)) (y k : ℕ) (l : Bool) → IfSome o (λ z. 0 < z.1 → z.1 < fields → l ≡ false) → k < fields → l ≡ true → scans o y k ≡ true → k ≡ 0
first_field fields None y k l f h e s = absurd (false≢true s)
first_field fields (Some z) y k l f h e s =
    let at : z.1 ≡ k = eqb-true z.1 k (and_parts (eqb z.0 y) (eqb z.1 k) s).1 in
    ⊎_elim (λ (n : k ≡ 0). n) (λ (n : k ≡ 0 → ⊥). absurd (true≢false (sym e ∙ f (omega (arith, at, n)) (omega (arith, at, h))))) (cases_eq k 0)

once_at : (fields : ℕ) (scan : Option (ℕ × ℕ)) (s : SeatState) (y k : ℕ) → IsOnce fields scan s.cleaning → scans scan y k ≡ true → IfSome scan (λ z. 0 < z.1 → z.1 < fields → left_in s.cleaning y ≡ false)
once_at fields None s y k f e = tt
once_at fields (Some z) s y k f e = let same : z.0 ≡ y = eqb-true z.0 y (and_parts (eqb z.0 y) (eqb z.1 k) e).0 in λ a b. ap (left_in s.cleaning) (sym same) ∙ f a b

read_first : (c : Core) (i : ℕ) (s : SeatState) (y k : ℕ) → Taken c i s (ReadField y k) → left_in s.cleaning y ≡ true → k ≡ 0
read_first c i s y k a l =
    let sh : Shape = c.shape in
    let r = may-load sh s y k a.ok.0 in
    let once = (at-seat (HandApart sh) c i s a.got (apart-now c a.core)).scanned_once in
    ⊎_elim
    (λ (f : scans s.scan y k ≡ true). first_field sh.fields s.scan y k (left_in s.cleaning y) (once_at sh.fields s.scan s y k once f) r.1 l f)
    (λ (f : (eqb k 0 && may_scan s.cleaning y && not (scan_left sh.fields s.scan)) ≡ true). eqb-true k 0 (and_parts (eqb k 0) (may_scan s.cleaning y) (and_parts (eqb k 0 && may_scan s.cleaning y) _ f).0).0)
    (or_cases (scans s.scan y k) (eqb k 0 && may_scan s.cleaning y && not (scan_left sh.fields s.scan)) r.2)

field_from : (c : Core) (i : ℕ) (s : SeatState) (y k j : ℕ) → Taken c i s (ReadField y k) → k ≡ 0 → is_done (words_left c s (ReadField y k)).marks (seats_left c i s (ReadField y k)) (field c.shape (words_of c.shape c.words).fields y j) y j ≡ true
field_from c i s y k j a z =
    let step : Step = ReadField y k in
    let marks : List ℕ = (words_left c s step).marks in
    let word : ℕ = field c.shape (words_of c.shape c.words).fields y j in
    ⊎_elim
    (λ (e : j ≡ k). rw e (loaded-done c i s y k marks a))
    (λ (d : j ≡ k → ⊥).
    done-read marks (seats_left c i s step) word y j (grasp-new (will_read y j) c.seats i s (seat_left c s step) a.got (and_from (eqb y y) (nat_le (k + 1) j) (eq-eqb y y refl) (le-leb (k + 1) j (omega (arith, d, z))))))
    (cases_eq j k)

-- a cell that is no longer tended is scanned
pub leaves-scanned : (c : Core) (i : ℕ) (s : SeatState) (step : Step) (x : ℕ) → Taken c i s step → Leaves c s step x → ScannedAfter c i s step x
leaves-scanned c i s (ReadAlloc b) x a l j h =
    let step : Step = ReadAlloc b in
    let t : SeatState = seat_left c s step in
    done-read (words_left c s step).marks (seats_left c i s step) (field c.shape (words_of c.shape c.words).fields x j) x j (grasp-new (will_read x j) c.seats i s t a.got (scan_starts s.popped s.scan b (found c s step) x j l.0 l.1 l.2))
leaves-scanned c i s (ReadField y k) x a l j h =
    let step : Step = ReadField y k in
    let first : k ≡ 0 = read_first c i s y k a (rw l.0 at l.1) in
    rw (fields-stay c i s step a refl) (rw l.0 (field_from c i s y k j a first))
leaves-scanned c i s step x a l j h = absurd l
