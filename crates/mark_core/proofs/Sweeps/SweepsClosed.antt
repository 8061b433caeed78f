-- In a drain with no work in hand, no entry and no dirty card, each field of a marked cell is nil or goes to a marked cell.
use Rattle.std.proofs.Common.{ℕ, ◌≡◌, ◌+◌, ◌-◌, ◌<◌, List, get_or, arith, refl, sym, ap, ◌∙◌, true, false, ◌||◌, Option, Some, None, ⊎_elim}
use Rattle.std.specs.Prelude.{IsTrue, IsFalse, is_some}
use Rattle.std.specs.List.{All, list_any}
use Rattle.std.proofs.lemmas.Bool.{cases_Bool, or_cases, or_parts, or_from, true≢false}
use Rattle.std.proofs.lemmas.List.Elements.{All-map}
use Rattle.std.proofs.lemmas.List.Folds.{list_any_none}
use Rattle.mark_core.specs.Shapes.{EachCell}
use Rattle.mark_core.specs.Layout.{Words, words_of}
use Rattle.mark_core.specs.Bits.{cell_bit, nil_or}
use Rattle.mark_core.specs.Seats.{work_in_hand, scan_left, cleaning_left, left_in, is_the}
use Rattle.mark_core.specs.Views.{Grasp, grasps, grasp_of, hands}
use Rattle.mark_core.specs.Cells.{packet_length, field, FieldsGo}
use Rattle.mark_core.specs.Rules.ColourRules.{IsWaiting, IsAccounted, IsScanned, queued, tended, dirty, cleaned, waiting, owed, scanned, tends, popped_is, cleans_card, owes_card, will_read, has_value, is_marked_soon}
use Rattle.mark_core.specs.Rules.WorldRules.{is_stopped_phase, is_tracing}
use Rattle.mark_core.specs.Steps.WorldSteps.{cards_clean}
use Rattle.mark_core.specs.Closed.{IsQuiet}
use Rattle.mark_core.specs.Steps.{Core}
use Rattle.mark_core.specs.Laws.{IsCore}
use Rattle.mark_core.proofs.Consequences.QuietReading.{quiet}
use Rattle.mark_core.proofs.Consequences.Closing.{clean-card}
use Rattle.mark_core.proofs.Blocks.BlocksStopped.{or-false, still-stopped}
use Rattle.mark_core.proofs.Hands.HandsCleaning.{done-left, done-cleans, done-scan}
use Rattle.mark_core.specs.declared.kinds.Shape.{Shape}
use Rattle.mark_core.specs.declared.seat.SeatState.{SeatState}
use Rattle.mark_core.specs.Cards.{card_of}

-- what a seat without work and without a card to dirty has of the colour of cells
pub record HasNone (fields : ℕ) (g : Grasp) : Type 0 where
  pub popped : g.popped ≡ None
  pub scan : IsFalse (scan_left fields g.scan)
  pub value : g.value ≡ None
  pub fresh : g.fresh ≡ None
  pub owes : g.owes ≡ None
  pub cleaning : IsFalse (cleaning_left g.cleaning)

pub no-some : {A : Type 0} (o : Option A) → is_some o ≡ false → o ≡ None
no-some None e = refl
no-some (Some x) e = absurd (true≢false e)

has_none : (fields : ℕ) (s : SeatState) → work_in_hand fields s ≡ false → s.owes ≡ None → HasNone fields (grasp_of s)
has_none fields s e o =
    let four = or_parts (is_some s.popped || scan_left fields s.scan || is_some s.value || is_some s.fresh) (cleaning_left s.cleaning) e in
    let three = or_parts (is_some s.popped || scan_left fields s.scan || is_some s.value) (is_some s.fresh) four.0 in
    let two = or_parts (is_some s.popped || scan_left fields s.scan) (is_some s.value) three.0 in
    let one = or_parts (is_some s.popped) (scan_left fields s.scan) two.0 in
    record { popped = no-some s.popped one.0; scan = one.1; value = no-some s.value two.1; fresh = no-some s.fresh three.1; owes = o; cleaning = four.1 }

-- no seat has any of these
abbrev pub NoneHas : ℕ → List Grasp → Type 0
NoneHas fields gs = All (HasNone fields) gs

none_tends : (fields : ℕ) (gs : List Grasp) (x : ℕ) → NoneHas fields gs → list_any (tends x) gs ≡ false
none_tends fields gs x a =
    list_any_none (tends x) gs
    (λ j d h.
    let g : Grasp = get_or gs j d in
    let n = a j d h in
    or_from (popped_is g.popped x || is_the g.fresh x) (left_in g.cleaning x) (or_from (popped_is g.popped x) (is_the g.fresh x) (ap (λ o. popped_is o x) n.popped) (ap (λ o. is_the o x) n.fresh)) (done-left g.cleaning x n.cleaning))

none_cleans : (fields : ℕ) (gs : List Grasp) (card : ℕ) → NoneHas fields gs → list_any (cleans_card card) gs ≡ false
none_cleans fields gs card a = list_any_none (cleans_card card) gs (λ j d h. done-cleans (get_or gs j d).cleaning card (a j d h).cleaning)

none_owes : (fields : ℕ) (gs : List Grasp) (card : ℕ) → NoneHas fields gs → list_any (owes_card card) gs ≡ false
none_owes fields gs card a = list_any_none (owes_card card) gs (λ j d h. ap (λ o. is_the o card) (a j d h).owes)

none_reads : (fields : ℕ) (gs : List Grasp) (x i : ℕ) → NoneHas fields gs → i < fields → list_any (will_read x i) gs ≡ false
none_reads fields gs x i a l = list_any_none (will_read x i) gs (λ j d h. done-scan (get_or gs j d).scan fields x i (a j d h).scan l)

none_values : (fields : ℕ) (gs : List Grasp) (x : ℕ) → NoneHas fields gs → list_any (has_value x) gs ≡ false
none_values fields gs x a = list_any_none (has_value x) gs (λ j d h. ap (λ o. is_the o x) (a j d h).value)

-- nothing waits
none_waits : (sh : Shape) (cards heads entries : List ℕ) (c : Core) (gs : List Grasp) (x : ℕ) (P : Type 0) → NoneHas sh.fields gs → ((p : ℕ) → p < sh.packets → packet_length heads (hands c.seats) p ≡ 0) → cards_clean cards ≡ true → IsWaiting sh cards heads entries (hands c.seats) gs x → P
none_waits sh cards heads entries c gs x P a empty clean (queued q) = absurd (omega (arith, empty q.0 q.2, q.3))
none_waits sh cards heads entries c gs x P a empty clean (tended e) = absurd (true≢false (sym e ∙ none_tends sh.fields gs x a))
none_waits sh cards heads entries c gs x P a empty clean (dirty e) = absurd (omega (arith, e, clean-card cards (card_of x) clean))
none_waits sh cards heads entries c gs x P a empty clean (cleaned e) = absurd (true≢false (sym e ∙ none_cleans sh.fields gs (card_of x) a))

only_scanned : (sh : Shape) (marks cards heads entries fields : List ℕ) (c : Core) (gs : List Grasp) (x : ℕ) → NoneHas sh.fields gs → ((p : ℕ) → p < sh.packets → packet_length heads (hands c.seats) p ≡ 0) → cards_clean cards ≡ true
    → IsAccounted sh marks cards heads entries fields (hands c.seats) gs x → IsScanned sh marks fields gs x
only_scanned sh marks cards heads entries fields c gs x a empty clean (waiting q) = none_waits sh cards heads entries c gs x _ a empty clean q
only_scanned sh marks cards heads entries fields c gs x a empty clean (owed e) = absurd (true≢false (sym e ∙ none_owes sh.fields gs (card_of x) a))
only_scanned sh marks cards heads entries fields c gs x a empty clean (scanned k) = k

-- a reference to a cell that is marked or soon will be, if no seat has a value
marked_now : (fields : ℕ) (marks : List ℕ) (gs : List Grasp) (r : ℕ) → NoneHas fields gs → nil_or (is_marked_soon marks gs) r ≡ true → nil_or (cell_bit marks) r ≡ true
marked_now fields marks gs r a e = rw (none_values fields gs (r - 1) a, or-false (cell_bit marks (r - 1))) at e

scanned_fields : (sh : Shape) (marks fields : List ℕ) (gs : List Grasp) (x : ℕ) → NoneHas sh.fields gs → IsScanned sh marks fields gs x → FieldsGo sh fields (cell_bit marks) x
scanned_fields sh marks fields gs x a k i h =
    let r : ℕ = field sh fields x i in
    ⊎_elim
    (λ (e : nil_or (is_marked_soon marks gs) r ≡ true). marked_now sh.fields marks gs r a e)
    (λ (e : list_any (will_read x i) gs ≡ true). absurd (true≢false (sym e ∙ none_reads sh.fields gs x i a h)))
    (or_cases (nil_or (is_marked_soon marks gs) r) (list_any (will_read x i) gs) (k i h))

-- what no seat has in the quiet of a drain
pub none-has : (c : Core) → IsCore c → is_stopped_phase (words_of c.shape c.words).phase ≡ true → IsQuiet c.shape (words_of c.shape c.words).heads c.seats → NoneHas c.shape.fields (grasps c.seats)
none-has c k e q =
    All-map (HasNone c.shape.fields) grasp_of c.seats
    (λ j d h. has_none c.shape.fields (get_or c.seats j d) (q.no_seat j d h) (k.sound.world.inactive_calm j d h (still-stopped c k e j d h)).no_card_owed)

pub quiet-fields : (c : Core) → IsCore c → (words_of c.shape c.words).phase ≡ 2 → (words_of c.shape c.words).empty ≡ 64 + c.shape.packets → cards_clean (words_of c.shape c.words).cards ≡ true
    → EachCell c.shape (λ x. IsTrue (cell_bit (words_of c.shape c.words).marks x) → FieldsGo c.shape (words_of c.shape c.words).fields (cell_bit (words_of c.shape c.words).marks) x)
quiet-fields c k p empty clean x h e =
    let sh : Shape = c.shape in
    let w : Words = words_of sh c.words in
    let gs : List Grasp = grasps c.seats in
    let q = quiet c k.formed (record { pools = k.sound.pools; counts = k.sound.counts }) empty in
    let a = none-has c k (ap is_stopped_phase p) q in
    let time : is_tracing w.phase ≡ true = ap is_tracing p in
    ⊎_elim
    (λ (f : cell_bit w.allocs x ≡ true). scanned_fields sh w.marks w.fields gs x a (only_scanned sh w.marks w.cards w.heads w.entries w.fields c gs x a q.no_packet clean (k.sound.published.accounted time x h e f)))
    (λ (f : cell_bit w.allocs x ≡ false). none_waits sh w.cards w.heads w.entries c gs x _ a q.no_packet clean (k.sound.unpublished.waits time x h e f))
    (cases_Bool (cell_bit w.allocs x))
