-- Each event that is allowed keeps the colour of published cells, and the state in which nothing has happened has it.
use Rattle.std.proofs.Common.{ℕ, ◌≡◌, ◌≢◌, ◌+◌, ◌*◌, ◌/◌, ◌<◌, ◌≤◌, List, set, get_or, length, arith, refl, sym, ap, ◌∙◌, subst, ◌⊎◌, inl, inr, Bool, true, false, cond, eqb, ◌&&◌, Option, Some, None, ⊎_elim}
use Rattle.std.specs.Prelude.{IsTrue, is_none, slice_get, nat_lt}
use Rattle.std.specs.List.{list_any}
use Rattle.std.proofs.lemmas.Bool.{true≢false, false≢true, cases_eq, cases_lt, cases_Bool, and_parts, or_right, eqb-true, eq-eqb, ltb-true, false_from_ne_true}
use Rattle.std.proofs.lemmas.Nat.{div-mul-add}
use Rattle.std.proofs.lemmas.List.{set_past, set-get_or, get_or-set_same, get_or-set_other, length-map, get_or-map}
use Rattle.std.proofs.lemmas.Option.{slice_get_within, get_or_from_slice_get}
use Rattle.mark_core.specs.Shapes.{IsShape}
use Rattle.mark_core.specs.Layout.{Words, words_of, put_word, region_sizes, card_count}
use Rattle.mark_core.specs.Bits.{cell_bit, cell_of}
use Rattle.mark_core.specs.Seats.{is_the, free_in, used_in, may_mutate}
use Rattle.mark_core.specs.Views.{makers, maker_of, grasps, hands}
use Rattle.mark_core.specs.Cells.{field}
use Rattle.mark_core.specs.Rules.HeapRules.{CachesUnpublished}
use Rattle.mark_core.specs.Rules.WorldRules.{is_tracing}
use Rattle.mark_core.specs.Steps.MutatorSteps.{seat_variable, variable_or_nil, in_variables}
use Rattle.mark_core.specs.Rules.ColourRules.{owes_card, PublishedColour}
use Rattle.mark_core.specs.Rules.ColourRules.IsWaiting.{dirty}
use Rattle.mark_core.specs.Rules.ColourRules.IsAccounted.{waiting, owed, scanned}
use Rattle.mark_core.specs.Start.{start_words, start_seats}
use Rattle.mark_core.specs.Steps.{Core, failing_part, after_event}
use Rattle.mark_core.specs.Laws.{IsCore}
use Rattle.mark_core.proofs.Writing.Places.{region-length}
use Rattle.mark_core.proofs.Writing.Ranges.{placed}
use Rattle.mark_core.proofs.Known.{in_range, found, words_left, seats_left}
use Rattle.mark_core.proofs.Marks.MarksIdle.{found-word, lacks-from, marks-from}
use Rattle.mark_core.proofs.Colours.ColoursHands.{same-number}
use Rattle.mark_core.proofs.Colours.ColoursFields.{grasp-moved, grasp-new, grasp-after, ends-untested, seat_left, done-nil}
use Rattle.mark_core.proofs.Colours.ColoursWaits.{waiting-after}
use Rattle.mark_core.proofs.Colours.ColoursUnpublished.{tracing-before, waits-new}
use Rattle.mark_core.proofs.Colours.ColoursScanned.{AccountedNow, AccountedAfter, ScannedNow, ScannedAfter, field-after, scanned-stays, leaves-scanned, lost-fields}
use Rattle.mark_core.proofs.Blocks.BlocksStopped.{Taken, kept-after}
use Rattle.mark_core.specs.declared.kinds.Shape.{Shape}
use Rattle.mark_core.specs.declared.kinds.Event.{Event}
use Rattle.mark_core.specs.declared.kinds.Step.{Step}
use Rattle.mark_core.specs.declared.kinds.Step.TheVariants.{DirtyCard, StoreField, StoreNew, ExchangeField, CheckCard}
use Rattle.mark_core.specs.declared.seat.SeatState.{SeatState}
use Rattle.mark_core.specs.Cards.{card_of}

none_is : (o : Option ℕ) (x : ℕ) → is_none o ≡ true → is_the o x ≡ true → ⊥
none_is None x e f = false≢true f
none_is (Some y) x e f = false≢true e

-- a card that a seat owes is owed after a step, or dirty
owed_after : (c : Core) (i : ℕ) (s : SeatState) (step : Step) (x : ℕ) → Taken c i s step → list_any (owes_card (card_of x)) (grasps c.seats) ≡ true → AccountedAfter c i s step x
owed_after c i s (DirtyCard card) x a e =
    let step : Step = DirtyCard card in
    let sh : Shape = c.shape in
    let cards : List ℕ = (words_of sh c.words).cards in
    let t : SeatState = seat_left c s step in
    let long : length cards ≡ card_count sh = region-length (region_sizes sh) 6 c.words (omega (arith, a.core.formed.words)) in
    let range : card < length cards = rw long (placed sh (words_of sh c.words) c.seats s step (in_range c i s a.core a.got) a.ok) in
    ⊎_elim
    (λ (h : card_of x ≡ card). waiting (dirty (rw h (get_or-set_same cards card 1 0 range))))
    (λ (d : card_of x ≡ card → ⊥).
    grasp-moved (owes_card (card_of x)) c.seats i s t (AccountedAfter c i s step x) a.got
    (λ h.
    let other : is_the s.owes card ≡ false = false_from_ne_true (is_the s.owes card) (λ f. d (same-number s.owes (card_of x) card h f)) in
    owed (grasp-new (owes_card (card_of x)) c.seats i s t a.got (rw other h)))
    owed
    e)
    (cases_eq (card_of x) card)
owed_after c i s (CheckCard card) x a e =
    let step : Step = CheckCard card in
    let cards : List ℕ = (words_of c.shape c.words).cards in
    let old : ℕ = found c s step in
    let here : old ≡ get_or cards card 0 = found-word c i s step a.core a.got a.ok in
    let back : set cards card old ≡ cards = rw here (set-get_or cards card 0) in
    let t : SeatState = seat_left c s step in
    ⊎_elim
    (λ (paid : (is_the s.owes card && eqb old 1) ≡ true).
    let p = and_parts (is_the s.owes card) (eqb old 1) paid in
    ⊎_elim
    (λ (h : card_of x ≡ card). waiting (dirty (ap (λ ws. get_or ws (card_of x) 0) back ∙ rw h (sym here ∙ eqb-true old 1 p.1))))
    (λ (d : card_of x ≡ card → ⊥). grasp-moved (owes_card (card_of x)) c.seats i s t (AccountedAfter c i s step x) a.got (λ h. absurd (d (same-number s.owes (card_of x) card h p.0))) owed e)
    (cases_eq (card_of x) card))
    (λ (unpaid : (is_the s.owes card && eqb old 1) ≡ false).
    grasp-moved (owes_card (card_of x)) c.seats i s t (AccountedAfter c i s step x) a.got (λ h. owed (grasp-new (owes_card (card_of x)) c.seats i s t a.got (rw unpaid h))) owed e)
    (cases_Bool (is_the s.owes card && eqb old 1))
owed_after c i s (StoreField v j r) x a e =
    grasp-moved (owes_card (card_of x)) c.seats i s (seat_left c s (StoreField v j r)) (AccountedAfter c i s (StoreField v j r) x) a.got (λ h. absurd (none_is s.owes (card_of x) a.ok.1.1.0 h)) owed e
owed_after c i s (ExchangeField v j r q) x a e =
    grasp-moved (owes_card (card_of x)) c.seats i s (seat_left c s (ExchangeField v j r q)) (AccountedAfter c i s (ExchangeField v j r q) x) a.got (λ h. absurd (none_is s.owes (card_of x) a.ok.1.1.0 h)) owed e
owed_after c i s step x a e =
    owed
    (grasp-after (owes_card (card_of x)) c.shape step c.seats i s (seat_left c s step) a.got (λ h. h)
    (ends-untested (owes_card (card_of x)) c s step (found c s step) (λ o n h. none_is o.owes (card_of x) (lacks-from c.shape o n).owes h) a.ok)
    e)

-- a used cell isn't published
used_unpublished : (c : Core) (i : ℕ) (s : SeatState) (x : ℕ) (P : Type 0) → IsCore c → slice_get c.seats i ≡ Some s → x < c.shape.cells → used_in s.cache x ≡ true → cell_bit (words_of c.shape c.words).allocs x ≡ true → P
used_unpublished c i s x P k g h u e =
    let allocs : List ℕ = (words_of c.shape c.words).allocs in
    let l : i < length c.seats = slice_get_within c.seats i s g in
    let at : get_or (makers c.seats) i (maker_of s) ≡ maker_of s = get_or-map maker_of c.seats i s (maker_of s) l ∙ ap maker_of (get_or_from_slice_get c.seats i s s g) in
    let mine : CachesUnpublished c.shape allocs (maker_of s) = subst (CachesUnpublished c.shape allocs) at (k.sound.caches.unpublished i (maker_of s) (rw length-map l)) in
    absurd (true≢false (sym e ∙ mine x h (or_right (free_in s.cache x) (used_in s.cache x) u)))

-- fields of different cells have different places
other_field : (n x y j k : ℕ) → j < n → k < n → x ≢ y → x * n + j ≢ y * n + k
other_field n x y j k hj hk d e = d (sym (div-mul-add x n j hj) ∙ (ap (λ z. z / n) e ∙ div-mul-add y n k hk))

-- 18: the card of the cell whose field is stored is owed, and other cells stay scanned
stored_field : (c : Core) (i : ℕ) (s : SeatState) (v k : ℕ) (r : Option ℕ) (x : ℕ) → Taken c i s (StoreField v k r) → IsTrue (is_tracing (words_left c s (StoreField v k r)).phase) → x < c.shape.cells → cell_bit (words_of c.shape c.words).allocs x ≡ true → ScannedNow c x → AccountedAfter c i s (StoreField v k r) x
stored_field c i s v k r x a t h p f =
    let step : Step = StoreField v k r in
    let sh : Shape = c.shape in
    let w : Words = words_of sh c.words in
    let y : ℕ = cell_of (seat_variable s v) in
    let first = and_parts (nat_lt v 32 && nat_lt k sh.fields) (in_variables r) (and_parts (nat_lt v 32 && nat_lt k sh.fields && in_variables r) (may_mutate s) a.ok.0).0 in
    let hk : k < sh.fields = ltb-true k sh.fields (and_parts (nat_lt v 32) (nat_lt k sh.fields) first.0).1 in
    ⊎_elim
    (λ (e : x ≡ y).
    ⊎_elim
    (λ (u : used_in s.cache y ≡ true). used_unpublished c i s x (AccountedAfter c i s step x) a.core a.got h (rw e u) p)
    (λ (u : used_in s.cache y ≡ false). owed (grasp-new (owes_card (card_of x)) c.seats i s (seat_left c s step) a.got (rw u (eq-eqb (card_of y) (card_of x) (ap card_of (sym e))))))
    (cases_Bool (used_in s.cache y)))
    (λ (d : x ≡ y → ⊥).
    scanned
    (λ j hj.
    let same : field sh (words_left c s step).fields x j ≡ field sh w.fields x j = get_or-set_other w.fields (y * sh.fields + k) (x * sh.fields + j) (variable_or_nil s r) 0 (other_field sh.fields x y j k hj hk d) in
    rw same (field-after c i s step x j (field sh w.fields x j) a t hj (λ l. absurd l) (f j hj))))
    (cases_eq x y)

-- 50: the same if the exchange was won, and else no field changed
exchanged_field : (c : Core) (i : ℕ) (s : SeatState) (v k : ℕ) (r q : Option ℕ) (x : ℕ) → Taken c i s (ExchangeField v k r q) → IsTrue (is_tracing (words_left c s (ExchangeField v k r q)).phase) → x < c.shape.cells → cell_bit (words_of c.shape c.words).allocs x ≡ true → ScannedNow c x
    → AccountedAfter c i s (ExchangeField v k r q) x
exchanged_field c i s v k r q x a t h p f =
    let step : Step = ExchangeField v k r q in
    let sh : Shape = c.shape in
    let w : Words = words_of sh c.words in
    let y : ℕ = cell_of (seat_variable s v) in
    let first = and_parts (nat_lt v 32 && nat_lt k sh.fields) (in_variables r && in_variables q) (and_parts (nat_lt v 32 && nat_lt k sh.fields && (in_variables r && in_variables q)) (may_mutate s) a.ok.0).0 in
    let hk : k < sh.fields = ltb-true k sh.fields (and_parts (nat_lt v 32) (nat_lt k sh.fields) first.0).1 in
    ⊎_elim
    (λ (won : eqb (found c s step) (variable_or_nil s r) ≡ true).
    ⊎_elim
    (λ (e : x ≡ y).
    ⊎_elim
    (λ (u : used_in s.cache y ≡ true). used_unpublished c i s x (AccountedAfter c i s step x) a.core a.got h (rw e u) p)
    (λ (u : used_in s.cache y ≡ false). owed (grasp-new (owes_card (card_of x)) c.seats i s (seat_left c s step) a.got (rw (won, u) (eq-eqb (card_of y) (card_of x) (ap card_of (sym e))))))
    (cases_Bool (used_in s.cache y)))
    (λ (d : x ≡ y → ⊥).
    scanned
    (λ j hj.
    let same : field sh (words_left c s step).fields x j ≡ field sh w.fields x j = get_or-set_other w.fields (y * sh.fields + k) (x * sh.fields + j) _ 0 (other_field sh.fields x y j k hj hk d) in
    rw same (field-after c i s step x j (field sh w.fields x j) a t hj (λ l. absurd l) (f j hj))))
    (cases_eq x y))
    (λ (lost : eqb (found c s step) (variable_or_nil s r) ≡ false).
    scanned
    (λ j hj.
    let same : field sh (words_left c s step).fields x j ≡ field sh w.fields x j = ap (λ (fs : List ℕ). field sh fs x j) (lost-fields c i s v k r q a lost) in
    rw same (field-after c i s step x j (field sh w.fields x j) a t hj (λ l. absurd l) (f j hj))))
    (cases_Bool (eqb (found c s step) (variable_or_nil s r)))

-- 23: a part of a new cell that is a field is nil
set_or : (ws : List ℕ) (a b : ℕ) → (get_or (set ws a 0) b 0 ≡ get_or ws b 0) ⊎ (get_or (set ws a 0) b 0 ≡ 0)
set_or ws a b =
    ⊎_elim
    (λ (e : b ≡ a).
    ⊎_elim
    (λ (h : a < length ws). inr (rw e (get_or-set_same ws a 0 0 h)))
    (λ (h : length ws ≤ a). inl (ap (λ vs. get_or vs b 0) (set_past ws a 0 h)))
    (cases_lt a (length ws)))
    (λ (d : b ≡ a → ⊥). inl (get_or-set_other ws a b 0 0 d))
    (cases_eq b a)

nil_part : (b : Bool) (z r : Bool) → cond b z r ≡ true → b ≡ true → z ≡ true
nil_part true z r e f = e
nil_part false z r e f = absurd (false≢true f)

new_place : (w : Words) (word n y part : ℕ) (b d : Bool) (x j : ℕ) → (b ≡ true → word ≡ 0)
    → (get_or (put_word (cond b (11, y * n + part) (cond d (10, y) (9, y))) word w).fields (x * n + j) 0 ≡ get_or w.fields (x * n + j) 0) ⊎ (get_or (put_word (cond b (11, y * n + part) (cond d (10, y) (9, y))) word w).fields (x * n + j) 0 ≡ 0)
new_place w word n y part true d x j f = rw (f refl) (set_or w.fields (y * n + part) (x * n + j))
new_place w word n y part false true x j f = inl refl
new_place w word n y part false false x j f = inl refl

stored_part : (c : Core) (i : ℕ) (s : SeatState) (y part word x : ℕ) → Taken c i s (StoreNew y part word) → IsTrue (is_tracing (words_left c s (StoreNew y part word)).phase) → ScannedNow c x → ScannedAfter c i s (StoreNew y part word) x
stored_part c i s y part word x a t f j hj =
    let step : Step = StoreNew y part word in
    let sh : Shape = c.shape in
    let w : Words = words_of sh c.words in
    let nil : nat_lt part sh.fields ≡ true → word ≡ 0 = λ b. eqb-true word 0 (nil_part (nat_lt part sh.fields) (eqb word 0) _ a.ok.1.1.0 b) in
    ⊎_elim
    (λ (e : field sh (words_left c s step).fields x j ≡ field sh w.fields x j). rw e (field-after c i s step x j (field sh w.fields x j) a t hj (λ l. absurd l) (f j hj)))
    (λ (e : field sh (words_left c s step).fields x j ≡ 0). done-nil (words_left c s step).marks (seats_left c i s step) (field sh (words_left c s step).fields x j) x j e)
    (new_place w word sh.fields y part (nat_lt part sh.fields) (eqb part sh.fields) x j nil)

-- a scanned cell after a step
scanned_after : (c : Core) (i : ℕ) (s : SeatState) (step : Step) (x : ℕ) → Taken c i s step → IsTrue (is_tracing (words_left c s step).phase) → x < c.shape.cells → cell_bit (words_of c.shape c.words).allocs x ≡ true → ScannedNow c x → AccountedAfter c i s step x
scanned_after c i s (StoreField v k r) x a t h p f = stored_field c i s v k r x a t h p f
scanned_after c i s (ExchangeField v k r q) x a t h p f = exchanged_field c i s v k r q x a t h p f
scanned_after c i s (StoreNew y part word) x a t h p f = scanned (stored_part c i s y part word x a t f)
scanned_after c i s step x a t h p f = scanned (scanned-stays c i s step x a t refl f)

-- a marked published cell after a step
accounted_after : (c : Core) (i : ℕ) (s : SeatState) (step : Step) (x : ℕ) → Taken c i s step → IsTrue (is_tracing (words_left c s step).phase) → x < c.shape.cells → cell_bit (words_of c.shape c.words).marks x ≡ true → cell_bit (words_of c.shape c.words).allocs x ≡ true → AccountedNow c x → AccountedAfter c i s step x
accounted_after c i s step x a t h m p (waiting k) =
    waiting-after c i s step x (AccountedAfter c i s step x) a t (omega (arith, h, a.core.formed.shaped.cells.1)) m (λ z. waiting z) (λ _ l. scanned (leaves-scanned c i s step x a l)) k
accounted_after c i s step x a t h m p (owed e) = owed_after c i s step x a e
accounted_after c i s step x a t h m p (scanned f) = scanned_after c i s step x a t h p f

-- a marked cell was published before, or waited and is published now
marked_before : (c : Core) (i : ℕ) (s : SeatState) (step : Step) (x : ℕ) → Taken c i s step → IsTrue (is_tracing (words_left c s step).phase) → x < c.shape.cells → cell_bit (words_of c.shape c.words).marks x ≡ true → AccountedAfter c i s step x
marked_before c i s step x a t h m =
    let w : Words = words_of c.shape c.words in
    let before : is_tracing w.phase ≡ true = tracing-before c i s step x a t h m in
    ⊎_elim
    (λ (p : cell_bit w.allocs x ≡ true). accounted_after c i s step x a t h m p (a.core.sound.published.accounted before x h m p))
    (λ (p : cell_bit w.allocs x ≡ false).
    waiting-after c i s step x (AccountedAfter c i s step x) a t (omega (arith, h, a.core.formed.shaped.cells.1)) m (λ z. waiting z) (λ q _. absurd (true≢false (sym q ∙ p))) (a.core.sound.unpublished.waits before x h m p))
    (cases_Bool (cell_bit w.allocs x))

-- the colour of published cells, of these words and seats
abbrev pub PublishedOf : Shape → Words → List SeatState → Type 0
PublishedOf sh w seats = PublishedColour sh w.phase w.allocs w.marks w.cards w.heads w.entries w.fields (hands seats) (grasps seats)

published_at : (c : Core) (i : ℕ) (s : SeatState) (step : Step) → Taken c i s step → PublishedOf c.shape (words_left c s step) (seats_left c i s step)
published_at c i s step a =
    let marks : List ℕ = (words_of c.shape c.words).marks in
    record {
      accounted =
          λ t x h m p.
          ⊎_elim
          (λ (e : cell_bit marks x ≡ true). marked_before c i s step x a t h e)
          (λ (e : cell_bit marks x ≡ false). ⊎_elim (λ (f : cell_bit marks x ≡ true). absurd (true≢false (sym f ∙ e))) (λ f. waiting (waits-new c i s step x a e f)) (marks-from c i s step a.core a.got a.ok x m))
          (cases_Bool (cell_bit marks x));
    }

-- each event that is allowed keeps the colour of published cells
pub published-kept_by : (c : Core) (e : Event) → IsCore c → failing_part c e ≡ None → PublishedOf (after_event c e).shape (words_of (after_event c e).shape (after_event c e).words) (after_event c e).seats
published-kept_by c e k f = kept-after PublishedOf c e k f (λ s _ t. published_at c e.seat s e.step t)

pub published-starts : (sh : Shape) (n : ℕ) → IsShape sh → PublishedOf sh (words_of sh (start_words sh)) (start_seats sh n)
published-starts sh n z = record { accounted = λ t. absurd (false≢true t) }
