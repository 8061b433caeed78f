-- A grey cell waits after each step of tracing as it did before, unless the seat that steps scans it now.
use Rattle.std.proofs.Common.{ℕ, ◌≡◌, ◌/◌, ◌%◌, ◌<◌, ◌≤◌, List, set, get_or, length, arith, refl, sym, ap, ◌∙◌, Bool, true, false, not, eqb, ◌&&◌, ◌||◌, Option, Some, None, ⊎_elim}
use Rattle.std.specs.Prelude.{IsTrue, IfSome, is_some, slice_get}
use Rattle.std.proofs.lemmas.Bool.{true≢false, false≢true, cases_eq, cases_lt, cases_Bool, and_parts, and_from, not-true, or_cases, or_parts, eqb-true, eq-eqb}
use Rattle.std.proofs.lemmas.List.{get_or_past, get_or-set_same, get_or-set_other, set-get_or}
use Rattle.std.proofs.lemmas.List.Elements.{All-get_or}
use Rattle.mark_core.specs.Layout.{words_of, address, region_sizes, card_count}
use Rattle.mark_core.specs.Bits.{has_bit, cell_bit, cell_of}
use Rattle.mark_core.specs.Seats.{left_in, is_the, is_unpublished, is_phase, may_sweep, may_clear, saw, phase_number, work_in_hand}
use Rattle.mark_core.specs.Held.{holds, has_length, length_in_hand}
use Rattle.mark_core.specs.Views.{grasp_of}
use Rattle.mark_core.specs.Rules.WorldRules.{is_tracing}
use Rattle.mark_core.specs.Rules.ColourRules.{popped_is, tends}
use Rattle.mark_core.specs.Rules.ColourRules.IsWaiting.{queued, tended, dirty, cleaned}
use Rattle.mark_core.specs.Effects.{place}
use Rattle.mark_core.specs.Steps.{Core}
use Rattle.mark_core.specs.Laws.{IsCore}
use Rattle.mark_core.proofs.Writing.Places.{region-length}
use Rattle.mark_core.proofs.Writing.Ranges.{placed}
use Rattle.mark_core.proofs.Known.{in_range, found, words_left}
use Rattle.mark_core.proofs.Hands.HandsRight.{HandRight}
use Rattle.mark_core.proofs.Hands.HandsCleaning.{left-dirtied}
use Rattle.mark_core.proofs.Hands.HandsApart.{hands-now}
use Rattle.mark_core.proofs.Marks.MarksIdle.{at-seat, found-word}
use Rattle.mark_core.proofs.Marks.MarksQueues.{pushed-packet}
use Rattle.mark_core.proofs.Marks.MarksHands.{HandPublished, field-cell, may-load}
use Rattle.mark_core.proofs.Marks.MarksBefore.{published-now}
use Rattle.mark_core.proofs.Colours.ColoursQueued.{queued-stays, queued-pushed, queued-new, queued-popped}
use Rattle.mark_core.proofs.Colours.ColoursHands.{tends-cases, tends-popped, tends-left, same-number, some-popped, same-popped, popped-read, left-seen, cleans-read, left-other, cleans-without, fresh-other, popped-other, cleans-other, found-cleans, found-left}
use Rattle.mark_core.proofs.Colours.ColoursFields.{idle-tends, idle-cleans, WaitsNow, WaitsAfter, seat_left, waits-moved, waits-handed, tends-now, cleans-now, waits-still}
use Rattle.mark_core.proofs.Basics.{some-number, or-second}
use Rattle.mark_core.proofs.Blocks.BlocksStopped.{Taken}
use Rattle.mark_core.specs.declared.kinds.Shape.{Shape}
use Rattle.mark_core.specs.declared.kinds.Phase.{Phase}
use Rattle.mark_core.specs.declared.kinds.Phase.TheVariants.{Sweep}
use Rattle.mark_core.specs.declared.kinds.Step.{Step}
use Rattle.mark_core.specs.declared.kinds.Step.TheVariants.{Push, Pop, ReadAlloc, ReadField, ReadRoot, SetMark, DirtyCard, ClearCard, ReadMarks, ReadCard, StoreField, WipeCard, ExchangeField, LoadSlot, CheckCard}
use Rattle.mark_core.specs.declared.seat.SeatState.{SeatState}
use Rattle.mark_core.specs.Cards.{card_of}

-- the ways in which a seat tends the cell
popped_tends : (t : SeatState) (x : ℕ) → popped_is t.popped x ≡ true → tends x (grasp_of t) ≡ true
popped_tends t x e = tends-popped (popped_is t.popped x) (is_the t.fresh x) (left_in t.cleaning x) e

pub fresh-tends : (t : SeatState) (x : ℕ) → is_the t.fresh x ≡ true → tends x (grasp_of t) ≡ true
fresh-tends t x e = or-second (popped_is t.popped x) (is_the t.fresh x) (left_in t.cleaning x) e

left_tends : (t : SeatState) (x : ℕ) → left_in t.cleaning x ≡ true → tends x (grasp_of t) ≡ true
left_tends t x e = tends-left (popped_is t.popped x) (is_the t.fresh x) (left_in t.cleaning x) e

tends_by : (P : Type 0) (s : SeatState) (x : ℕ) → (popped_is s.popped x ≡ true → P) → (is_the s.fresh x ≡ true → P) → (left_in s.cleaning x ≡ true → P) → tends x (grasp_of s) ≡ true → P
tends_by P s x f g h e = tends-cases P (popped_is s.popped x) (is_the s.fresh x) (left_in s.cleaning x) f g h e

-- what the seat's own facts are
own_right : (c : Core) (i : ℕ) (s : SeatState) → IsCore c → slice_get c.seats i ≡ Some s → HandRight c.shape s
own_right c i s k g = at-seat (HandRight c.shape) c i s g (hands-now c k)

-- the cell is scanned now, and no longer tended
abbrev pub Leaves : Core → SeatState → Step → ℕ → Type 0
Leaves c s (ReadAlloc b) x = (popped_is s.popped x ≡ true) × (x / 64 ≡ b) × (has_bit (found c s (ReadAlloc b)) (x % 64) ≡ true)
Leaves c s (ReadField y j) x = (x ≡ y) × (left_in s.cleaning x ≡ true)
Leaves c s step x = ⊥

-- 5: a fresh or popped cell is pushed
pushed_popped : (c : Core) (i : ℕ) (s : SeatState) (p y x : ℕ) → Taken c i s (Push p y) → popped_is s.popped x ≡ true → WaitsAfter c i s (Push p y) x
pushed_popped c i s p y x a e =
    ⊎_elim
    (λ (h : is_the s.fresh y ≡ true). tends-now c i s (Push p y) x a refl (popped_tends (seat_left c s (Push p y)) x (rw h e)))
    (λ (h : is_the s.fresh y ≡ false).
    let un : is_unpublished s.popped y ≡ true = ⊎_elim (λ (z : is_the s.fresh y ≡ true). absurd (true≢false (sym z ∙ h))) (λ z. z) (or_cases (is_the s.fresh y) (is_unpublished s.popped y) a.ok.1.1.0) in
    let first = pushed-packet c.shape p y (length_in_hand s.held p) (holds s.held p) (has_length s.held p) a.ok.0 a.ok.1.0 in
    rw (same-popped s.popped x y e un) (queued (queued-new c i s p y a.core a.got a.ok first.0)))
    (cases_Bool (is_the s.fresh y))

pushed_fresh : (c : Core) (i : ℕ) (s : SeatState) (p y x : ℕ) → Taken c i s (Push p y) → is_the s.fresh x ≡ true → WaitsAfter c i s (Push p y) x
pushed_fresh c i s p y x a e =
    ⊎_elim
    (λ (h : is_the s.fresh y ≡ true).
    let first = pushed-packet c.shape p y (length_in_hand s.held p) (holds s.held p) (has_length s.held p) a.ok.0 a.ok.1.0 in
    rw (same-number s.fresh x y e h) (queued (queued-new c i s p y a.core a.got a.ok first.0)))
    (λ (h : is_the s.fresh y ≡ false). tends-now c i s (Push p y) x a refl (fresh-tends (seat_left c s (Push p y)) x (rw h e)))
    (cases_Bool (is_the s.fresh y))

pushed_waits : (c : Core) (i : ℕ) (s : SeatState) (p y x : ℕ) → Taken c i s (Push p y) → WaitsNow c x → WaitsAfter c i s (Push p y) x
pushed_waits c i s p y x a =
    let step : Step = Push p y in
    waits-moved c i s (seat_left c s step) x (WaitsAfter c i s step x) a.got (λ q. queued (queued-pushed c i s p y x a.core a.got a.ok q))
    (tends_by (WaitsAfter c i s step x) s x (pushed_popped c i s p y x a) (pushed_fresh c i s p y x a) (λ h. tends-now c i s step x a refl (left_tends (seat_left c s step) x h)))
    tended
    dirty
    (λ h. cleans-now c i s step x a refl h)
    cleaned

-- 6: a cell is popped
popped_waits : (c : Core) (i : ℕ) (s : SeatState) (p x : ℕ) → Taken c i s (Pop p) → x < 16777216 → WaitsNow c x → WaitsAfter c i s (Pop p) x
popped_waits c i s p x a h =
    let step : Step = Pop p in
    let idle : work_in_hand c.shape.fields s ≡ false = not-true _ a.ok.1.1.0 in
    let W : Type 0 = WaitsAfter c i s step x in
    waits-moved c i s (seat_left c s step) x W a.got
    (λ q. ⊎_elim (λ r. queued r) (λ (e : cell_of (found c s step) ≡ x). tends-now c i s step x a refl (popped_tends (seat_left c s step) x (eq-eqb (cell_of (found c s step)) x e))) (queued-popped c i s p x a.core a.got a.ok h q))
    (idle-tends c.shape.fields s x W idle)
    tended
    dirty
    (idle-cleans c.shape.fields s (card_of x) W idle)
    cleaned

-- a word that is found is one of sixty-four bits
found_range : (c : Core) (s : SeatState) (step : Step) → IsCore c → found c s step < 18446744073709551616
found_range c s step k =
    let at : ℕ = address c.shape (place c.shape s step) in
    ⊎_elim
    (λ (h : at < length c.words). All-get_or (λ x. x < 18446744073709551616) c.words at 0 h k.formed.words_in_range)
    (λ (h : length c.words ≤ at). omega (arith, get_or_past c.words at 0 h))
    (cases_lt at (length c.words))

-- 9: allocation bits are read
alloc_waits : (c : Core) (i : ℕ) (s : SeatState) (b x : ℕ) (P : Type 0) → Taken c i s (ReadAlloc b) → (WaitsAfter c i s (ReadAlloc b) x → P) → (cell_bit (words_of c.shape c.words).allocs x ≡ true → Leaves c s (ReadAlloc b) x → P) → WaitsNow c x → P
alloc_waits c i s b x P a done out =
    let step : Step = ReadAlloc b in
    let allocs : List ℕ = (words_of c.shape c.words).allocs in
    let old : ℕ = found c s step in
    let t : SeatState = seat_left c s step in
    let here : old ≡ get_or allocs b 0 = found-word c i s step a.core a.got a.ok in
    waits-handed c i s step x P a refl refl refl done
    (tends_by P s x
    (λ h.
    ⊎_elim
    (λ r. done (tends-now c i s step x a refl (popped_tends t x r)))
    (λ (r : (x / 64 ≡ b) × (has_bit old (x % 64) ≡ true)). out (rw r.0 (rw here at r.1)) (h, r.0, r.1))
    (popped-read s.popped b old x h))
    (λ h. done (tends-now c i s step x a refl (fresh-tends t x h)))
    (λ h.
    ⊎_elim
    (λ r. done (tends-now c i s step x a refl (left_tends t x r)))
    (λ r. done (cleans-now c i s step x a refl r))
    (left-seen s.cleaning b old x (found_range c s step a.core) (own_right c i s a.core a.got).left_of_the_card h)))
    (λ h. done (cleans-now c i s step x a refl (cleans-read s.cleaning b old (card_of x) h)))

-- 10: a field is loaded
none_in_hand : (a b d : Bool) → not (a || b || d) ≡ true → (a ≡ false) × (b ≡ false) × (d ≡ false)
none_in_hand a b d e = let p = or_parts (a || b) d (not-true _ e) in let q = or_parts a b p.0 in (q.0, q.1, p.1)

field_waits : (c : Core) (i : ℕ) (s : SeatState) (y j x : ℕ) (P : Type 0) → Taken c i s (ReadField y j) → (WaitsAfter c i s (ReadField y j) x → P) → (cell_bit (words_of c.shape c.words).allocs x ≡ true → Leaves c s (ReadField y j) x → P) → WaitsNow c x → P
field_waits c i s y j x P a done out =
    let sh : Shape = c.shape in
    let step : Step = ReadField y j in
    let allocs : List ℕ = (words_of sh c.words).allocs in
    let none = none_in_hand (is_some s.popped) (is_some s.value) (is_some s.fresh) a.ok.1.0 in
    let r = may-load sh s y j a.ok.0 in
    let mine : HandPublished sh.fields (cell_bit allocs) s = at-seat (HandPublished sh.fields (cell_bit allocs)) c i s a.got (published-now c a.core) in
    let published : cell_bit allocs y ≡ true = field-cell sh (λ z. IsTrue (cell_bit allocs z)) s y j r.1 mine.scan (mine.left y) r.2 in
    waits-handed c i s step x P a refl refl refl done
    (tends_by P s x
    (λ h. absurd (true≢false (sym (some-popped s.popped x h) ∙ none.0)))
    (λ h. absurd (true≢false (sym (some-number s.fresh x h) ∙ none.2)))
    (λ h.
    ⊎_elim
    (λ (e : x ≡ y). out (rw e published) (e, h))
    (λ (d : x ≡ y → ⊥). done (tends-now c i s step x a refl (left_tends (seat_left c s step) x (left-other s.cleaning y x d h))))
    (cases_eq x y)))
    (λ h. done (cleans-now c i s step x a refl (cleans-without s.cleaning y (card_of x) ∙ h)))

-- 11: a cell is marked
mark_waits : (c : Core) (i : ℕ) (s : SeatState) (m x : ℕ) → Taken c i s (SetMark m) → WaitsNow c x → WaitsAfter c i s (SetMark m) x
mark_waits c i s m x a =
    let step : Step = SetMark m in
    let t : SeatState = seat_left c s step in
    let value : is_some s.value ≡ true = some-number s.value m (and_parts _ _ a.ok.0).1 in
    waits-handed c i s step x (WaitsAfter c i s step x) a refl refl refl (λ w. w)
    (tends_by (WaitsAfter c i s step x) s x
    (λ h. tends-now c i s step x a refl (popped_tends t x h))
    (λ h. absurd (true≢false (sym (and_from (is_some s.value) (is_some s.fresh) value (some-number s.fresh x h)) ∙ (own_right c i s a.core a.got).value_or_fresh)))
    (λ h. tends-now c i s step x a refl (left_tends t x h)))
    (λ h. cleans-now c i s step x a refl h)

-- 14: the marks of the cleaned card are read
found_waits : (c : Core) (i : ℕ) (s : SeatState) (b x : ℕ) → Taken c i s (ReadMarks b) → cell_bit (words_of c.shape c.words).marks x ≡ true → WaitsNow c x → WaitsAfter c i s (ReadMarks b) x
found_waits c i s b x a m =
    let step : Step = ReadMarks b in
    let old : ℕ = found c s step in
    let t : SeatState = seat_left c s step in
    let here : old ≡ get_or (words_of c.shape c.words).marks b 0 = found-word c i s step a.core a.got a.ok in
    let bit : b ≡ x / 64 → has_bit old (x % 64) ≡ true = λ e. rw here (rw e m) in
    waits-handed c i s step x (WaitsAfter c i s step x) a refl refl refl (λ w. w)
    (tends_by (WaitsAfter c i s step x) s x
    (λ h. tends-now c i s step x a refl (popped_tends t x h))
    (λ h. tends-now c i s step x a refl (fresh-tends t x h))
    (λ h. tends-now c i s step x a refl (left_tends t x (found-left s.cleaning b old x bit (own_right c i s a.core a.got).left_of_the_card h))))
    (λ h. ⊎_elim (λ r. tends-now c i s step x a refl (left_tends t x r)) (λ r. cleans-now c i s step x a refl r) (found-cleans s.cleaning b old x bit h))

-- 12: a card becomes dirty
dirtied_waits : (c : Core) (i : ℕ) (s : SeatState) (card x : ℕ) → Taken c i s (DirtyCard card) → WaitsNow c x → WaitsAfter c i s (DirtyCard card) x
dirtied_waits c i s card x a k =
    let step : Step = DirtyCard card in
    let sh : Shape = c.shape in
    let cards : List ℕ = (words_of sh c.words).cards in
    let t : SeatState = seat_left c s step in
    let long : length cards ≡ card_count sh = region-length (region_sizes sh) 6 c.words (omega (arith, a.core.formed.words)) in
    let range : card < length cards = rw long (placed sh (words_of sh c.words) c.seats s step (in_range c i s a.core a.got) a.ok) in
    ⊎_elim
    (λ (e : card_of x ≡ card). dirty (rw e (get_or-set_same cards card 1 0 range)))
    (λ (d : card_of x ≡ card → ⊥).
    waits-moved c i s t x (WaitsAfter c i s step x) a.got (λ q. queued (queued-stays c i s step a.core a.got a.ok refl x q))
    (tends_by (WaitsAfter c i s step x) s x
    (λ h. tends-now c i s step x a refl (popped_tends t x (popped-other s.popped card x d h)))
    (λ h. tends-now c i s step x a refl (fresh-tends t x (fresh-other s.fresh card x d h)))
    (λ h. tends-now c i s step x a refl (left_tends t x (left-dirtied s.cleaning card x ∙ h))))
    tended
    (λ h. dirty (get_or-set_other cards card (card_of x) 1 0 d ∙ h))
    (λ h. cleans-now c i s step x a refl (cleans-other s.cleaning card (card_of x) d h))
    cleaned
    k)
    (cases_eq (card_of x) card)

-- 13: a card is cleaned
cleared_waits : (c : Core) (i : ℕ) (s : SeatState) (card x : ℕ) → Taken c i s (ClearCard card) → WaitsNow c x → WaitsAfter c i s (ClearCard card) x
cleared_waits c i s card x a =
    let step : Step = ClearCard card in
    let W : Type 0 = WaitsAfter c i s step x in
    let cards : List ℕ = (words_of c.shape c.words).cards in
    let here : found c s step ≡ get_or cards card 0 = found-word c i s step a.core a.got a.ok in
    let idle : work_in_hand c.shape.fields s ≡ false = not-true _ a.ok.1.0 in
    waits-moved c i s (seat_left c s step) x W a.got (λ q. queued (queued-stays c i s step a.core a.got a.ok refl x q)) (idle-tends c.shape.fields s x W idle) tended
    (λ h.
    ⊎_elim
    (λ (e : card_of x ≡ card).
    let one : found c s step ≡ 1 = here ∙ rw e at h in
    cleans-now c i s step x a refl (rw one (and_from (eqb card (card_of x)) _ (eq-eqb card (card_of x) (sym e)) refl)))
    (λ (d : card_of x ≡ card → ⊥). dirty (get_or-set_other cards card (card_of x) 0 0 d ∙ h))
    (cases_eq (card_of x) card))
    (idle-cleans c.shape.fields s (card_of x) W idle)
    cleaned

-- 15: a card is looked at
read_waits : (c : Core) (i : ℕ) (s : SeatState) (card x : ℕ) → Taken c i s (ReadCard card) → WaitsNow c x → WaitsAfter c i s (ReadCard card) x
read_waits c i s card x a =
    let step : Step = ReadCard card in
    let cards : List ℕ = (words_of c.shape c.words).cards in
    let back : set cards card (found c s step) ≡ cards = rw (found-word c i s step a.core a.got a.ok) (set-get_or cards card 0) in
    waits-moved c i s (seat_left c s step) x (WaitsAfter c i s step x) a.got (λ q. queued (queued-stays c i s step a.core a.got a.ok refl x q)) (λ h. tends-now c i s step x a refl h) tended
    (λ h. dirty (ap (λ ws. get_or ws (card_of x) 0) back ∙ h))
    (λ h. cleans-now c i s step x a refl h)
    cleaned

-- 55: a card is checked
checked_waits : (c : Core) (i : ℕ) (s : SeatState) (card x : ℕ) → Taken c i s (CheckCard card) → WaitsNow c x → WaitsAfter c i s (CheckCard card) x
checked_waits c i s card x a =
    let step : Step = CheckCard card in
    let cards : List ℕ = (words_of c.shape c.words).cards in
    let back : set cards card (found c s step) ≡ cards = rw (found-word c i s step a.core a.got a.ok) (set-get_or cards card 0) in
    waits-moved c i s (seat_left c s step) x (WaitsAfter c i s step x) a.got (λ q. queued (queued-stays c i s step a.core a.got a.ok refl x q)) (λ h. tends-now c i s step x a refl h) tended
    (λ h. dirty (ap (λ ws. get_or ws (card_of x) 0) back ∙ h))
    (λ h. cleans-now c i s step x a refl h)
    cleaned

-- 37: cards are wiped outside tracing
saw_sweep : (o : Option Phase) (phase : ℕ) → saw o Sweep ≡ true → IfSome o (λ p. phase ≡ phase_number p) → phase ≡ 3
saw_sweep None phase e k = absurd (false≢true e)
saw_sweep (Some p) phase e k = k ∙ eqb-true (phase_number p) 3 e

wiper_phase : (c : Core) (i : ℕ) (s : SeatState) → IsCore c → slice_get c.seats i ≡ Some s → (may_sweep (words_of c.shape c.words).phase s || may_clear (words_of c.shape c.words).phase s) ≡ true → is_tracing (words_of c.shape c.words).phase ≡ false
wiper_phase c i s k g e =
    let phase : ℕ = (words_of c.shape c.words).phase in
    let in_sweep : phase ≡ 3 → is_tracing phase ≡ false = λ h. ap is_tracing h in
    let helper = at-seat (λ (t : SeatState). IsTrue t.admitted → IfSome t.phase_seen (λ p. phase ≡ phase_number p)) c i s g k.sound.phases.helper_seen in
    ⊎_elim
    (λ (a : may_sweep phase s ≡ true).
    ⊎_elim
    (λ (b : (s.knows && is_phase phase Sweep) ≡ true). in_sweep (eqb-true phase 3 (and_parts s.knows (is_phase phase Sweep) b).1))
    (λ (b : (s.admitted && saw s.phase_seen Sweep) ≡ true). let p = and_parts s.admitted (saw s.phase_seen Sweep) b in in_sweep (saw_sweep s.phase_seen phase p.1 (helper p.0)))
    (or_cases (s.knows && is_phase phase Sweep) (s.admitted && saw s.phase_seen Sweep) a))
    (λ (a : may_clear phase s ≡ true). ap is_tracing (eqb-true phase 4 (and_parts s.knows _ a).1))
    (or_cases (may_sweep phase s) (may_clear phase s) e)

-- the cell waits after the step, or is scanned by the seat and published
pub waiting-after : (c : Core) (i : ℕ) (s : SeatState) (step : Step) (x : ℕ) (P : Type 0) → Taken c i s step → IsTrue (is_tracing (words_left c s step).phase) → x < 16777216 → cell_bit (words_of c.shape c.words).marks x ≡ true → (WaitsAfter c i s step x → P)
    → (cell_bit (words_of c.shape c.words).allocs x ≡ true → Leaves c s step x → P) → WaitsNow c x → P
waiting-after c i s (Push p y) x P a t h m done out k = done (pushed_waits c i s p y x a k)
waiting-after c i s (Pop p) x P a t h m done out k = done (popped_waits c i s p x a h k)
waiting-after c i s (ReadAlloc b) x P a t h m done out k = alloc_waits c i s b x P a done out k
waiting-after c i s (ReadField y j) x P a t h m done out k = field_waits c i s y j x P a done out k
waiting-after c i s (ReadRoot section v) x P a t h m done out k =
    let step : Step = ReadRoot section v in
    done (waits-handed c i s step x (WaitsAfter c i s step x) a refl refl refl (λ w. w) (λ e. tends-now c i s step x a refl e) (λ e. cleans-now c i s step x a refl e) k)
waiting-after c i s (LoadSlot section j) x P a t h m done out k =
    let step : Step = LoadSlot section j in
    done (waits-handed c i s step x (WaitsAfter c i s step x) a refl refl refl (λ w. w) (λ e. tends-now c i s step x a refl e) (λ e. cleans-now c i s step x a refl e) k)
waiting-after c i s (SetMark y) x P a t h m done out k = done (mark_waits c i s y x a k)
waiting-after c i s (DirtyCard card) x P a t h m done out k = done (dirtied_waits c i s card x a k)
waiting-after c i s (ClearCard card) x P a t h m done out k = done (cleared_waits c i s card x a k)
waiting-after c i s (ReadMarks b) x P a t h m done out k = done (found_waits c i s b x a m k)
waiting-after c i s (ReadCard card) x P a t h m done out k = done (read_waits c i s card x a k)
waiting-after c i s (CheckCard card) x P a t h m done out k = done (checked_waits c i s card x a k)
waiting-after c i s (StoreField v j r) x P a t h m done out k =
    let step : Step = StoreField v j r in
    done (waits-handed c i s step x (WaitsAfter c i s step x) a refl refl refl (λ w. w) (λ e. tends-now c i s step x a refl e) (λ e. cleans-now c i s step x a refl e) k)
waiting-after c i s (ExchangeField v j r q) x P a t h m done out k =
    let step : Step = ExchangeField v j r q in
    done (waits-handed c i s step x (WaitsAfter c i s step x) a refl refl refl (λ w. w) (λ e. tends-now c i s step x a refl e) (λ e. cleans-now c i s step x a refl e) k)
waiting-after c i s (WipeCard card) x P a t h m done out k = absurd (true≢false (sym t ∙ wiper_phase c i s a.core a.got (and_parts _ _ a.ok.0).1))
waiting-after c i s step x P a t h m done out k = done (waits-still c i s step x a refl refl refl k)
