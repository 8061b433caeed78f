-- A field of a scanned cell is nil, goes to a marked cell or to a value in hand, or is still to be read: by what step this changes.
use Rattle.std.proofs.Common.{ℕ, ◌≡◌, ◌+◌, ◌-◌, ◌<◌, ◌≤◌, List, arith, refl, sym, ap, ◌∙◌, Bool, true, false, not, cond, eqb, ◌&&◌, ◌||◌, Option, Some, None, ⊎_elim, set, get_or}
use Rattle.std.specs.Prelude.{is_some, nat_le, slice_get, slice_index}
use Rattle.std.specs.List.{list_any}
use Rattle.std.proofs.lemmas.Bool.{true≢false, false≢true, cases_eq, cases_Bool, and_parts, and_from, not-true, or_cases, or_left, or_right, or_parts, eqb-true, eq-eqb, leb-true, le-leb, lt-ltb, false_from_ne_true}
use Rattle.mark_core.specs.Layout.{Words, words_of}
use Rattle.mark_core.specs.Bits.{cell_bit, nil_or, cell_of}
use Rattle.mark_core.specs.Seats.{is_the, scans, scan_left, may_scan, left_in, work_in_hand}
use Rattle.mark_core.specs.Views.{grasps, makers, grasp_of, hands, Grasp}
use Rattle.mark_core.specs.Cells.{field, in_use}
use Rattle.mark_core.specs.Rules.ColourRules.{is_marked_soon, has_value, will_read, is_unread_by, tends, cleans_card, IsWaiting, popped_is}
use Rattle.mark_core.specs.Steps.ColourSteps.{scan_after}
use Rattle.mark_core.specs.Steps.{Core, AllTrue, others_after}
use Rattle.mark_core.proofs.Known.{found, words_left, seats_left}
use Rattle.mark_core.proofs.Hands.HandsRight.{HandRight, free-from}
use Rattle.mark_core.proofs.Hands.HandsApart.{hands-now}
use Rattle.mark_core.proofs.Marks.MarksIdle.{at-seat, lacks-from, found-word, left-works, idle-cleaning}
use Rattle.mark_core.proofs.Marks.MarksHands.{may-load}
use Rattle.mark_core.proofs.Marks.MarksComes.{comes-marked, use-below, loaded-field}
use Rattle.mark_core.proofs.Colours.ColoursHands.{same-number, tends-cases, some-popped}
use Rattle.mark_core.proofs.Basics.{some-number}
use Rattle.mark_core.proofs.Blocks.BlocksStopped.{Taken}
use Rattle.mark_core.specs.declared.kinds.Shape.{Shape}
use Rattle.mark_core.specs.declared.kinds.Step.{Step}
use Rattle.mark_core.specs.declared.kinds.Step.TheVariants.{ReadAlloc, ReadField, ReadRoot, SetMark, LoadSlot, Join}
use Rattle.mark_core.specs.declared.seat.SeatState.{SeatState}
use Rattle.mark_core.specs.Rules.ColourRules.IsWaiting.{queued, tended, dirty, cleaned}
use Rattle.mark_core.specs.Effects.{written, seat_after}
use Rattle.mark_core.proofs.Writing.Frames.{changes_grasp, grasp-kept}
use Rattle.mark_core.proofs.Writing.RegionWrites.{touches_cards, cards-kept}
use Rattle.mark_core.proofs.Marks.MarksQueues.{fills}
use Rattle.mark_core.proofs.Colours.ColoursQueued.{QueuedNow, queued-stays}
use Rattle.mark_core.specs.Cards.{card_of}
use Rattle.std.proofs.lemmas.Option.{slice_get_within, get_or_from_slice_get}
use Rattle.mark_core.specs.Steps.WorldSteps.{has_nothing, other_has_nothing}
use Rattle.mark_core.specs.Parts.{parts}
use Rattle.mark_core.proofs.Consequences.SomePasses.{any-after, EndsUntested, any-map, any-new, any-old}
use Rattle.mark_core.proofs.Hands.HandsCleaning.{done-cleans}

-- What follows from each way in which a grey cell waits, when the record of one seat is replaced.
-- Some seat tends a cell or cleans its card, when one seat is replaced, and a seat without work does neither.
-- a test that some grasp passes: that of the seat which is replaced, or that of one that stays
pub grasp-moved : (f : Grasp → Bool) (seats : List SeatState) (i : ℕ) (s t : SeatState) (P : Type 0) → slice_get seats i ≡ Some s → (f (grasp_of s) ≡ true → P) → (list_any f (grasps (set seats i t)) ≡ true → P) → list_any f (grasps seats) ≡ true → P
grasp-moved f seats i s t P g own other e =
    ⊎_elim
    (λ (a : f (grasp_of (get_or seats i s)) ≡ true). own (ap (λ (x : SeatState). f (grasp_of x)) (sym (get_or_from_slice_get seats i s s g)) ∙ a))
    (λ (b : list_any (λ (x : SeatState). f (grasp_of x)) (set seats i t) ≡ true). other (any-map f grasp_of (set seats i t) ∙ b))
    (any-old (λ (x : SeatState). f (grasp_of x)) seats i t s (sym (any-map f grasp_of seats) ∙ e))

pub grasp-new : (f : Grasp → Bool) (seats : List SeatState) (i : ℕ) (s t : SeatState) → slice_get seats i ≡ Some s → f (grasp_of t) ≡ true → list_any f (grasps (set seats i t)) ≡ true
grasp-new f seats i s t g e = any-map f grasp_of (set seats i t) ∙ any-new (λ (x : SeatState). f (grasp_of x)) seats i t (slice_get_within seats i s g) e

pub grasp-after : (f : Grasp → Bool) (sh : Shape) (step : Step) (seats : List SeatState) (i : ℕ) (s t : SeatState) → slice_get seats i ≡ Some s → (f (grasp_of s) ≡ true → f (grasp_of t) ≡ true) → EndsUntested (λ (x : SeatState). f (grasp_of x)) seats s t step
    → list_any f (grasps seats) ≡ true → list_any f (grasps (others_after sh step (set seats i t))) ≡ true
grasp-after f sh step seats i s t g k u e =
    any-map f grasp_of (others_after sh step (set seats i t))
    ∙ any-after (λ (x : SeatState). f (grasp_of x)) sh step seats i s t (slice_get_within seats i s g) (get_or_from_slice_get seats i s s g) k u (sym (any-map f grasp_of seats) ∙ e)

-- a seat without work tends no cell
pub idle-tends : (fields : ℕ) (s : SeatState) (x : ℕ) (P : Type 0) → work_in_hand fields s ≡ false → tends x (grasp_of s) ≡ true → P
idle-tends fields s x P e =
    let free = free-from fields s e in
    tends-cases P (popped_is s.popped x) (is_the s.fresh x) (left_in s.cleaning x)
    (λ h. absurd (true≢false (sym (some-popped s.popped x h) ∙ free.popped)))
    (λ h. absurd (true≢false (sym (some-number s.fresh x h) ∙ free.fresh)))
    (λ h. left-works s.cleaning x P (idle-cleaning fields s e) h)

-- a seat without work cleans no card
pub idle-cleans : (fields : ℕ) (s : SeatState) (card : ℕ) (P : Type 0) → work_in_hand fields s ≡ false → cleans_card card (grasp_of s) ≡ true → P
idle-cleans fields s card P e f = absurd (true≢false (sym f ∙ done-cleans s.cleaning card (idle-cleaning fields s e)))

-- a seat that is joined into another passes no test that takes work or a debt
pub ends-untested : (f : Grasp → Bool) (c : Core) (s : SeatState) (step : Step) (old : ℕ) → ((o : SeatState) → has_nothing c.shape o ≡ true → f (grasp_of o) ≡ true → ⊥) → AllTrue (parts c.shape (words_of c.shape c.words) c.seats s step)
    → EndsUntested (λ (x : SeatState). f (grasp_of x)) c.seats s (seat_after c.shape s step old) step
ends-untested f c s (Join other) old k ok = (refl, λ o g. false_from_ne_true (f (grasp_of o)) (k o (ap (other_has_nothing c.shape) (sym g) ∙ (and_parts (has_nothing c.shape s) _ ok.1.0).1)))
ends-untested f c s step old k ok = tt

-- the cell waits, and waits after a step
abbrev pub WaitsNow : Core → ℕ → Type 0
WaitsNow c x = IsWaiting c.shape (words_of c.shape c.words).cards (words_of c.shape c.words).heads (words_of c.shape c.words).entries (hands c.seats) (grasps c.seats) x

abbrev pub WaitsAfter : Core → ℕ → SeatState → Step → ℕ → Type 0
WaitsAfter c i s step x = IsWaiting c.shape (words_left c s step).cards (words_left c s step).heads (words_left c s step).entries (hands (seats_left c i s step)) (grasps (seats_left c i s step)) x

-- the seat's record after its step
abbrev pub seat_left : Core → SeatState → Step → SeatState
seat_left c s step = seat_after c.shape s step (found c s step)

-- what follows from each way to wait, when the record of seat i becomes t
pub waits-moved : (c : Core) (i : ℕ) (s t : SeatState) (x : ℕ) (P : Type 0) → slice_get c.seats i ≡ Some s → (QueuedNow c x → P) → (tends x (grasp_of s) ≡ true → P) → (list_any (tends x) (grasps (set c.seats i t)) ≡ true → P)
    → (slice_index (words_of c.shape c.words).cards (card_of x) ≡ 1 → P) → (cleans_card (card_of x) (grasp_of s) ≡ true → P) → (list_any (cleans_card (card_of x)) (grasps (set c.seats i t)) ≡ true → P) → WaitsNow c x → P
waits-moved c i s t x P g fq ft fo fd fc fr (queued q) = fq q
waits-moved c i s t x P g fq ft fo fd fc fr (tended e) = grasp-moved (tends x) c.seats i s t P g ft fo e
waits-moved c i s t x P g fq ft fo fd fc fr (dirty e) = fd e
waits-moved c i s t x P g fq ft fo fd fc fr (cleaned e) = grasp-moved (cleans_card (card_of x)) c.seats i s t P g fc fr e

-- a step of one seat that leaves the packets and the cards
pub waits-handed : (c : Core) (i : ℕ) (s : SeatState) (step : Step) (x : ℕ) (P : Type 0) → Taken c i s step → fills step ≡ false → touches_cards step ≡ false → seats_left c i s step ≡ set c.seats i (seat_left c s step) → (WaitsAfter c i s step x → P)
    → (tends x (grasp_of s) ≡ true → P) → (cleans_card (card_of x) (grasp_of s) ≡ true → P) → WaitsNow c x → P
waits-handed c i s step x P a f d same done own clean =
    waits-moved c i s (seat_left c s step) x P a.got
    (λ q. done (queued (queued-stays c i s step a.core a.got a.ok f x q)))
    own
    (λ e. done (tended (rw same e)))
    (λ e. done (dirty (rw (cards-kept c.shape s step (written c.shape s step (found c s step)) (words_of c.shape c.words) d) e)))
    clean
    (λ e. done (cleaned (rw same e)))

-- the seat tends the cell, or cleans its card, after its step
pub tends-now : (c : Core) (i : ℕ) (s : SeatState) (step : Step) (x : ℕ) → Taken c i s step → seats_left c i s step ≡ set c.seats i (seat_left c s step) → tends x (grasp_of (seat_left c s step)) ≡ true → WaitsAfter c i s step x
tends-now c i s step x a same e = tended (rw same (grasp-new (tends x) c.seats i s (seat_left c s step) a.got e))

pub cleans-now : (c : Core) (i : ℕ) (s : SeatState) (step : Step) (x : ℕ) → Taken c i s step → seats_left c i s step ≡ set c.seats i (seat_left c s step) → cleans_card (card_of x) (grasp_of (seat_left c s step)) ≡ true → WaitsAfter c i s step x
cleans-now c i s step x a same e = cleaned (rw same (grasp-new (cleans_card (card_of x)) c.seats i s (seat_left c s step) a.got e))

-- a step that leaves the packets, the cards, and what its seat has in hand
pub waits-still : (c : Core) (i : ℕ) (s : SeatState) (step : Step) (x : ℕ) → Taken c i s step → fills step ≡ false → touches_cards step ≡ false → changes_grasp step ≡ false → WaitsNow c x → WaitsAfter c i s step x
waits-still c i s step x a f d g (queued q) = queued (queued-stays c i s step a.core a.got a.ok f x q)
waits-still c i s step x a f d g (tended e) =
    let same = grasp-kept c.shape s step (found c s step) g in
    tended (grasp-after (tends x) c.shape step c.seats i s (seat_left c s step) a.got (λ h. ap (tends x) same ∙ h) (ends-untested (tends x) c s step (found c s step) (λ o n h. idle-tends c.shape.fields o x ⊥ (lacks-from c.shape o n).work h) a.ok) e)
waits-still c i s step x a f d g (dirty e) = dirty (rw (cards-kept c.shape s step (written c.shape s step (found c s step)) (words_of c.shape c.words) d) e)
waits-still c i s step x a f d g (cleaned e) =
    let same = grasp-kept c.shape s step (found c s step) g in
    cleaned
    (grasp-after (cleans_card (card_of x)) c.shape step c.seats i s (seat_left c s step) a.got (λ h. ap (cleans_card (card_of x)) same ∙ h)
    (ends-untested (cleans_card (card_of x)) c s step (found c s step) (λ o n h. idle-cleans c.shape.fields o (card_of x) ⊥ (lacks-from c.shape o n).work h) a.ok)
    e)

-- field j of cell x, which holds this word, is done or will be read
abbrev pub is_done : List ℕ → List SeatState → ℕ → ℕ → ℕ → Bool
is_done marks seats word x j = nil_or (is_marked_soon marks (grasps seats)) word || list_any (will_read x j) (grasps seats)

-- the four ways
pub done-cases : (marks : List ℕ) (seats : List SeatState) (word x j : ℕ) (P : Type 0) → (word ≡ 0 → P) → (cell_bit marks (word - 1) ≡ true → P) → (list_any (has_value (word - 1)) (grasps seats) ≡ true → P) → (list_any (will_read x j) (grasps seats) ≡ true → P)
    → is_done marks seats word x j ≡ true → P
done-cases marks seats word x j P fn fm fv fr e =
    ⊎_elim
    (λ (a : nil_or (is_marked_soon marks (grasps seats)) word ≡ true).
    ⊎_elim
    (λ (n : eqb word 0 ≡ true). fn (eqb-true word 0 n))
    (λ (s : is_marked_soon marks (grasps seats) (word - 1) ≡ true). ⊎_elim fm fv (or_cases (cell_bit marks (word - 1)) (list_any (has_value (word - 1)) (grasps seats)) s))
    (or_cases (eqb word 0) (is_marked_soon marks (grasps seats) (word - 1)) a))
    fr
    (or_cases (nil_or (is_marked_soon marks (grasps seats)) word) (list_any (will_read x j) (grasps seats)) e)

pub done-nil : (marks : List ℕ) (seats : List SeatState) (word x j : ℕ) → word ≡ 0 → is_done marks seats word x j ≡ true
done-nil marks seats word x j e = or_left _ (list_any (will_read x j) (grasps seats)) (or_left (eqb word 0) (is_marked_soon marks (grasps seats) (word - 1)) (eq-eqb word 0 e))

pub done-soon : (marks : List ℕ) (seats : List SeatState) (word x j : ℕ) → is_marked_soon marks (grasps seats) (word - 1) ≡ true → is_done marks seats word x j ≡ true
done-soon marks seats word x j e = or_left _ (list_any (will_read x j) (grasps seats)) (or_right (eqb word 0) (is_marked_soon marks (grasps seats) (word - 1)) e)

pub done-marked : (marks : List ℕ) (seats : List SeatState) (word x j : ℕ) → cell_bit marks (word - 1) ≡ true → is_done marks seats word x j ≡ true
done-marked marks seats word x j e = done-soon marks seats word x j (or_left (cell_bit marks (word - 1)) _ e)

pub done-valued : (marks : List ℕ) (seats : List SeatState) (word x j : ℕ) → list_any (has_value (word - 1)) (grasps seats) ≡ true → is_done marks seats word x j ≡ true
done-valued marks seats word x j e = done-soon marks seats word x j (or_right (cell_bit marks (word - 1)) _ e)

pub done-read : (marks : List ℕ) (seats : List SeatState) (word x j : ℕ) → list_any (will_read x j) (grasps seats) ≡ true → is_done marks seats word x j ≡ true
done-read marks seats word x j e = or_right (nil_or (is_marked_soon marks (grasps seats)) word) _ e

no_value : (a b d : Bool) → not (a || b || d) ≡ true → b ≡ false
no_value a b d e = (or_parts a b (or_parts (a || b) d (not-true _ e)).0).1

-- a value in hand stays there, or is marked
pub value-after : (c : Core) (i : ℕ) (s : SeatState) (step : Step) (y : ℕ) (P : Type 0) → Taken c i s step → (list_any (has_value y) (grasps (seats_left c i s step)) ≡ true → P) → (cell_bit (words_left c s step).marks y ≡ true → P) → list_any (has_value y) (grasps c.seats) ≡ true → P
value-after c i s (SetMark m) y P a stays marked e =
    let value : is_the s.value m ≡ true = (and_parts _ _ a.ok.0).1 in
    grasp-moved (has_value y) c.seats i s (seat_left c s (SetMark m)) P a.got (λ h. let same : y ≡ m = same-number s.value y m h value in marked (rw same (comes-marked c i s (SetMark m) a.core a.got a.ok))) stays e
value-after c i s (ReadField x j) y P a stays marked e =
    let none : is_some s.value ≡ false = no_value (is_some s.popped) (is_some s.value) (is_some s.fresh) a.ok.1.0 in
    grasp-moved (has_value y) c.seats i s (seat_left c s (ReadField x j)) P a.got (λ h. absurd (true≢false (sym (some-number s.value y h) ∙ none))) stays e
value-after c i s (ReadRoot section v) y P a stays marked e =
    let none : is_some s.value ≡ false = (free-from c.shape.fields s (not-true _ a.ok.1.0)).value in
    grasp-moved (has_value y) c.seats i s (seat_left c s (ReadRoot section v)) P a.got (λ h. absurd (true≢false (sym (some-number s.value y h) ∙ none))) stays e
value-after c i s (LoadSlot section k) y P a stays marked e =
    let none : is_some s.value ≡ false = (free-from c.shape.fields s (not-true _ a.ok.1.0)).value in
    grasp-moved (has_value y) c.seats i s (seat_left c s (LoadSlot section k)) P a.got (λ h. absurd (true≢false (sym (some-number s.value y h) ∙ none))) stays e
value-after c i s step y P a stays marked e =
    stays
    (grasp-after (has_value y) c.shape step c.seats i s (seat_left c s step) a.got (λ h. h)
    (ends-untested (has_value y) c s step (found c s step) (λ o n h. true≢false (sym (some-number o.value y h) ∙ (free-from c.shape.fields o (lacks-from c.shape o n).work).value)) a.ok)
    e)

-- a scan that has a field left
unread_left : (fields : ℕ) (o : Option (ℕ × ℕ)) (x j : ℕ) → j < fields → is_unread_by o x j ≡ true → scan_left fields o ≡ true
unread_left fields None x j h e = absurd (false≢true e)
unread_left fields (Some y) x j h e = lt-ltb y.1 fields (omega (arith, h, leb-true y.1 j (and_parts (eqb y.0 x) (nat_le y.1 j) e).1))

-- 9: a scan goes on, if nothing is popped
scan_on : (fields : ℕ) (p : Option (ℕ × Bool)) (scan : Option (ℕ × ℕ)) (b word x j : ℕ) → (is_some p ≡ true → scan_left fields scan ≡ false) → scan_left fields scan ≡ true → is_unread_by scan x j ≡ true → is_unread_by (scan_after p scan b word) x j ≡ true
scan_on fields None scan b word x j k l e = e
scan_on fields (Some y) scan b word x j k l e = absurd (true≢false (sym l ∙ k refl))

-- the step loads this field
abbrev pub Loads : Step → ℕ → ℕ → Type 0
Loads (ReadField y k) x j = (x ≡ y) × (j ≡ k)
Loads step x j = ⊥

scans_on : (o : Option (ℕ × ℕ)) (y k x j : ℕ) → scans o y k ≡ true → is_unread_by o x j ≡ true → (x ≡ y) × (k ≤ j)
scans_on None y k x j e f = absurd (false≢true e)
scans_on (Some z) y k x j e f =
    let a = and_parts (eqb z.0 y) (eqb z.1 k) e in
    let b = and_parts (eqb z.0 x) (nat_le z.1 j) f in
    (sym (eqb-true z.0 x b.0) ∙ eqb-true z.0 y a.0, omega (arith, eqb-true z.1 k a.1, leb-true z.1 j b.1))

unread_next : (x y k j : ℕ) → x ≡ y → k + 1 ≤ j → is_unread_by (Some (y, k + 1)) x j ≡ true
unread_next x y k j e h = and_from (eqb y x) (nat_le (k + 1) j) (eq-eqb y x (sym e)) (le-leb (k + 1) j h)

-- a field that was still to be read is so, or is loaded
pub read-after : (c : Core) (i : ℕ) (s : SeatState) (step : Step) (x j : ℕ) (P : Type 0) → Taken c i s step → j < c.shape.fields → (list_any (will_read x j) (grasps (seats_left c i s step)) ≡ true → P) → (Loads step x j → P) → list_any (will_read x j) (grasps c.seats) ≡ true → P
read-after c i s (ReadAlloc b) x j P a h stays loads e =
    let n : ℕ = c.shape.fields in
    let t : SeatState = seat_left c s (ReadAlloc b) in
    let alone = (at-seat (HandRight c.shape) c i s a.got (hands-now c a.core)).popped_alone in
    grasp-moved (will_read x j) c.seats i s t P a.got (λ u. stays (grasp-new (will_read x j) c.seats i s t a.got (scan_on n s.popped s.scan b (found c s (ReadAlloc b)) x j alone (unread_left n s.scan x j h u) u))) stays e
read-after c i s (ReadField y k) x j P a h stays loads e =
    let sh : Shape = c.shape in
    let t : SeatState = seat_left c s (ReadField y k) in
    let r = may-load sh s y k a.ok.0 in
    grasp-moved (will_read x j) c.seats i s t P a.got
    (λ u.
    ⊎_elim
    (λ (f : scans s.scan y k ≡ true).
    let on = scans_on s.scan y k x j f u in
    ⊎_elim
    (λ (z : j ≡ k). loads (on.0, z))
    (λ (z : j ≡ k → ⊥). stays (grasp-new (will_read x j) c.seats i s t a.got (unread_next x y k j on.0 (omega (arith, z, on.1)))))
    (cases_eq j k))
    (λ (f : (eqb k 0 && may_scan s.cleaning y && not (scan_left sh.fields s.scan)) ≡ true).
    absurd (true≢false (sym (unread_left sh.fields s.scan x j h u) ∙ not-true (scan_left sh.fields s.scan) (and_parts (eqb k 0 && may_scan s.cleaning y) _ f).1)))
    (or_cases (scans s.scan y k) (eqb k 0 && may_scan s.cleaning y && not (scan_left sh.fields s.scan)) r.2))
    stays
    e
read-after c i s step x j P a h stays loads e =
    stays
    (grasp-after (will_read x j) c.shape step c.seats i s (seat_left c s step) a.got (λ u. u)
    (ends-untested (will_read x j) c s step (found c s step)
    (λ o n u. true≢false (sym (unread_left c.shape.fields o.scan x j h u) ∙ (free-from c.shape.fields o (lacks-from c.shape o n).work).scan))
    a.ok)
    e)

-- the field that is loaded is nil, or goes to the value in hand
named_value : (word : ℕ) (b : Bool) → b ≡ false → word - 1 < 16777216 → is_the (cond b None (Some (cell_of word))) (word - 1) ≡ true
named_value word true e h = absurd (true≢false e)
named_value word false e h = eq-eqb (cell_of word) (word - 1) (omega (arith, h))

pub loaded-done : (c : Core) (i : ℕ) (s : SeatState) (x j : ℕ) (marks : List ℕ) → Taken c i s (ReadField x j) → is_done marks (seats_left c i s (ReadField x j)) (field c.shape (words_of c.shape c.words).fields x j) x j ≡ true
loaded-done c i s x j marks a =
    let step : Step = ReadField x j in
    let w : Words = words_of c.shape c.words in
    let word : ℕ = field c.shape w.fields x j in
    let seats : List SeatState = seats_left c i s step in
    let here : found c s step ≡ word = found-word c i s step a.core a.got a.ok in
    let u : ℕ → Bool = in_use w.allocs (makers c.seats) in
    let goes : nil_or u word ≡ true = ap (nil_or u) (sym here) ∙ loaded-field c i s x j a.core a.got a.ok in
    ⊎_elim
    (λ (z : eqb word 0 ≡ true). done-nil marks seats word x j (eqb-true word 0 z))
    (λ (z : eqb word 0 ≡ false).
    let there : u (word - 1) ≡ true = ⊎_elim (λ (n : eqb word 0 ≡ true). absurd (true≢false (sym n ∙ z))) (λ n. n) (or_cases (eqb word 0) (u (word - 1)) goes) in
    done-valued marks seats word x j (grasp-new (has_value (word - 1)) c.seats i s (seat_left c s step) a.got (rw here (named_value word (eqb word 0) z (use-below c a.core (word - 1) there)))))
    (cases_Bool (eqb word 0))
