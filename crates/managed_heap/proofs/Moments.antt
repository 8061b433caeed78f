-- Where in what has happened an entry of a seat's log is, and what stands once it ended a cycle.
use Rattle.std.proofs.Common.{ℕ, ◌≡◌, ◌≢◌, ◌⊎◌, ◌+◌, ◌∙◌, List, [], ◌∷◌, ◌++◌, ap, append_assoc, cond, inl, inr, refl, subst, sym, ⊎_elim, Bool, Option, None, Some}
use Rattle.std.specs.Prelude.{slice_get, IsTrue}
use Rattle.std.specs.List.{All}
use Rattle.std.proofs.lemmas.Bool.{cases_eq, eq-eqb, ne_eqb}
use Rattle.std.proofs.lemmas.List.Elements.{All-head, All-tail}
use Rattle.mark_core.specs.Laws.{IsCore}
use Rattle.mark_core.specs.Layout.{Words}
use Rattle.mark_core.specs.Seats.{is_phase}
use Rattle.mark_core.specs.Steps.{Core, after_event, failing_part, first_refused, run_of}
use Rattle.mark_core.specs.declared.kinds.Event.{Event}
use Rattle.mark_core.specs.declared.kinds.Phase.TheVariants.{Idle}
use Rattle.mark_core.specs.declared.kinds.Step.{Step}
use Rattle.mark_core.specs.declared.kinds.Step.TheVariants.{Join, Split, StorePhase}
use Rattle.mark_core.specs.declared.seat.SeatState.{SeatState}
use Rattle.mark_core.proofs.Blocks.BlocksStopped.{kept-after}
use Rattle.mark_core.proofs.CoreKept.{core_kept}
use Rattle.mark_core.proofs.Known.{words_left}
use Rattle.gc_table.specs.Entries.{event}
use Rattle.gc_table.specs.Past.{adds, entries_of, log_from, word_told}
use Rattle.gc_table.specs.declared.view.Entry.{Entry}
use Rattle.gc_table.proofs.History.Past.{Fits, first-allowed, run-first}
use Rattle.work_laws.specs.Cycles.{IsIdle}

-- an event adds nothing to the log of seat i, or is its own and adds an entry of its step
record AddsOne (i : ℕ) (c : Core) (e : Event) : Type 0 where
  by : e.seat ≡ i
  entry : Entry
  tells : e.step ≡ entry.step
  added : adds i c e ≡ entry ∷ []

abbrev AddsStep : Step → List Entry → Type 0
AddsStep step l = (l ≡ []) ⊎ ((a : Entry) × (step ≡ a.step) × (l ≡ a ∷ []))

one_of : (c : Core) (s : SeatState) (step : Step) → AddsStep step (entries_of c (Some s) step)
one_of c s Split = inl refl
one_of c s (Join other) = inl refl
one_of c s step = inr (event step (word_told c s step), refl, refl)

one_step : (c : Core) (o : Option SeatState) (step : Step) → AddsStep step (entries_of c o step)
one_step c None step = inl refl
one_step c (Some s) step = one_of c s step

adds_one : (i : ℕ) (c : Core) (e : Event) → (adds i c e ≡ []) ⊎ AddsOne i c e
adds_one i c e =
    let l : List Entry = entries_of c (slice_get c.seats e.seat) e.step in
    ⊎_elim
    (λ (same : e.seat ≡ i).
    let all : adds i c e ≡ l = ap (λ (b : Bool). cond b l []) (eq-eqb e.seat i same) in
    ⊎_elim
    (λ (h : l ≡ []). inl (all ∙ h))
    (λ (h : (a : Entry) × (e.step ≡ a.step) × (l ≡ a ∷ [])). inr (record { by = same; entry = h.0; tells = h.1; added = all ∙ h.2 }))
    (one_step c (slice_get c.seats e.seat) e.step))
    (λ (far : e.seat ≢ i). inl (ap (λ (b : Bool). cond b l []) (ne_eqb e.seat i far)))
    (cases_eq e.seat i)

-- the event of an entry of a seat's log, which comes after these entries
pub record Moment (i : ℕ) (es : List Event) (c : Core) (own : List Entry) (a : Entry) : Type 0 where
  pub first : List Event
  pub event : Event
  pub since : List Event
  pub parts : es ≡ first ++ event ∷ since
  pub by : event.seat ≡ i
  pub tells : event.step ≡ a.step
  pub place : log_from i c first ≡ own
  pub added : log_from i c (first ++ event ∷ []) ≡ own ++ a ∷ []

none_left : (own later : List Entry) (a : Entry) → [] ≡ own ++ a ∷ later → ⊥
none_left [] later a is = cc
none_left (x ∷ own) later a is = cc

pub head-same : (x y : Entry) (xs ys : List Entry) → x ∷ xs ≡ y ∷ ys → x ≡ y
head-same x y xs ys is = cc

pub tail-same : (x y : Entry) (xs ys : List Entry) → x ∷ xs ≡ y ∷ ys → xs ≡ ys
tail-same x y xs ys is = cc

-- it isn't the first event's, which adds this to the log
moment_later : (i : ℕ) (x : Event) (es : List Event) (c : Core) (front own : List Entry) (a : Entry) → adds i c x ≡ front → Moment i es (after_event c x) own a → Moment i (x ∷ es) c (front ++ own) a
moment_later i x es c front own a adds_is m =
    let d : Core = after_event c x in
    record {
      first = x ∷ m.first;
      event = m.event;
      since = m.since;
      parts = ap (λ (l : List Event). x ∷ l) m.parts;
      by = m.by;
      tells = m.tells;
      place = ap (λ (l : List Entry). l ++ log_from i d m.first) adds_is ∙ ap (λ (l : List Entry). front ++ l) m.place;
      added =
          ap (λ (l : List Entry). l ++ log_from i d (m.first ++ m.event ∷ [])) adds_is
          ∙ (ap (λ (l : List Entry). front ++ l) m.added ∙ sym (append_assoc front own (a ∷ [])));
    }

-- the first event adds an entry: it is this one, or this one comes after it
moment_among : (i : ℕ) (x : Event) (es : List Event) (c : Core) → AddsOne i c x → (own later : List Entry) (a : Entry) → log_from i c (x ∷ es) ≡ own ++ a ∷ later
    → ((part : List Entry) → log_from i (after_event c x) es ≡ part ++ a ∷ later → Moment i es (after_event c x) part a) → Moment i (x ∷ es) c own a
moment_among i x es c one [] later a is rest =
    let d : Core = after_event c x in
    let same : one.entry ≡ a = head-same one.entry a (log_from i d es) later (sym (ap (λ (l : List Entry). l ++ log_from i d es) one.added) ∙ is) in
    record {
      first = [];
      event = x;
      since = es;
      parts = refl;
      by = one.by;
      tells = one.tells ∙ ap (λ (b : Entry). b.step) same;
      place = refl;
      added = ap (λ (l : List Entry). l ++ []) one.added ∙ ap (λ (b : Entry). b ∷ []) same;
    }
moment_among i x es c one (b ∷ own) later a is rest =
    let d : Core = after_event c x in
    let all : one.entry ∷ log_from i d es ≡ b ∷ (own ++ a ∷ later) = sym (ap (λ (l : List Entry). l ++ log_from i d es) one.added) ∙ is in
    let same : one.entry ≡ b = head-same one.entry b (log_from i d es) (own ++ a ∷ later) all in
    moment_later i x es c (b ∷ []) own a (one.added ∙ ap (λ (y : Entry). y ∷ []) same) (rest own (tail-same one.entry b (log_from i d es) (own ++ a ∷ later) all))

pub moment-of : (i : ℕ) (es : List Event) (c : Core) (own later : List Entry) (a : Entry) → log_from i c es ≡ own ++ a ∷ later → Moment i es c own a
moment-of i [] c own later a is = absurd (none_left own later a is)
moment-of i (x ∷ es) c own later a is =
    let d : Core = after_event c x in
    ⊎_elim
    (λ (none : adds i c x ≡ []).
    moment_later i x es c [] own a none (moment-of i es d own later a (sym (ap (λ (l : List Entry). l ++ log_from i d es) none) ∙ is)))
    (λ (one : AddsOne i c x). moment_among i x es c one own later a is (λ part whole. moment-of i es d part later a whole))
    (adds_one i c x)

-- no cycle is under way after an event that moves the phase to Idle
moved_idle : (c : Core) (e : Event) → IsCore c → failing_part c e ≡ None → e.step ≡ StorePhase Idle → IsIdle (after_event c e)
moved_idle c e core ok is =
    kept-after (λ sh (w : Words) ss. IsTrue (is_phase w.phase Idle)) c e core ok (λ s acted taken. subst (λ (step : Step). IsTrue (is_phase (words_left c s step).phase Idle)) (sym is) refl)

pub idle-after : (k : ℕ) (first since : List Event) (c : Core) (e : Event) → IsCore c → e.step ≡ StorePhase Idle → All Fits (first ++ e ∷ since) → first_refused k (first ++ e ∷ since) c ≡ None → IsIdle (run_of (first ++ e ∷ []) c)
idle-after k [] since c e core is fit ok =
    let q = first-allowed k e since c ok in
    subst IsIdle (sym (run-first c e [] q.0)) (moved_idle c e core q.0 is)
idle-after k (x ∷ first) since c e core is fit ok =
    let q = first-allowed k x (first ++ e ∷ since) c ok in
    let fits : Fits x = All-head Fits x (first ++ e ∷ since) fit in
    subst IsIdle (sym (run-first c x (first ++ e ∷ []) q.0))
    (idle-after (k + 1) first since (after_event c x) e (core_kept c x core fits q.0) is (All-tail Fits x (first ++ e ∷ since) fit) q.1)
