-- An entry of a seat's log is an event of the history, and what holds by then.
use Rattle.std.proofs.Common.{ℕ, ◌≡◌, ◌≢◌, ◌+◌, ◌∙◌, arith, List, [], ◌∷◌, ◌++◌, append_assoc, ap, refl, subst, sym, Bool, true, false, cond, ◌⊎◌, ⊎_elim, inl, inr, Option, Some, None}
use Rattle.std.specs.Prelude.{slice_get}
use Rattle.std.specs.List.{All}
use Rattle.std.proofs.lemmas.Bool.{cases_eq, eq-eqb, ne_eqb}
use Rattle.std.proofs.lemmas.List.Elements.{All-cons, All-head, All-tail}
use Rattle.mark_core.specs.Kinds.{kind_of}
use Rattle.mark_core.specs.Laws.{IsCore, NumbersFit}
use Rattle.mark_core.specs.Steps.{Core, after_event, failing_part, first_refused, refused_with, run_of}
use Rattle.mark_core.specs.declared.kinds.Event.{Event}
use Rattle.mark_core.specs.declared.kinds.Step.{Step}
use Rattle.mark_core.specs.declared.seat.SeatState.{SeatState}
use Rattle.mark_core.proofs.CoreKept.{core_kept}
use Rattle.gc_table.specs.Entries.{event, is_logged}
use Rattle.gc_table.specs.Past.{adds, entries_of, log_from, word_told}
use Rattle.gc_table.specs.declared.view.Entry.{Entry}
use Rattle.gc_table.proofs.History.Past.{Fits, first-allowed, run-first}

-- what an event adds to a log: nothing, or its entry
record AddsOne (i : ℕ) (c : Core) (e : Event) : Type 0 where
  by : e.seat ≡ i
  seat : SeatState
  there : slice_get c.seats e.seat ≡ Some seat
  added : adds i c e ≡ event e.step (word_told c seat e.step) ∷ []

one_of : (c : Core) (s : SeatState) (step : Step) (b : Bool) → is_logged step ≡ b → (entries_of c (Some s) step ≡ []) ⊎ (entries_of c (Some s) step ≡ event step (word_told c s step) ∷ [])
one_of c s step true e = inr (ap (λ (b : Bool). cond b (event step (word_told c s step) ∷ []) []) e)
one_of c s step false e = inl (ap (λ (b : Bool). cond b (event step (word_told c s step) ∷ []) []) e)

one_by : (c : Core) (e : Event) (o : Option SeatState) → slice_get c.seats e.seat ≡ o → (entries_of c o e.step ≡ []) ⊎ ((s : SeatState) × (o ≡ Some s) × (entries_of c o e.step ≡ event e.step (word_told c s e.step) ∷ []))
one_by c e None g = inl refl
one_by c e (Some s) g =
    ⊎_elim (λ (h : entries_of c (Some s) e.step ≡ []). inl h) (λ (h : entries_of c (Some s) e.step ≡ event e.step (word_told c s e.step) ∷ []). inr (s, refl, h)) (one_of c s e.step (is_logged e.step) refl)

adds_one : (i : ℕ) (c : Core) (e : Event) → (adds i c e ≡ []) ⊎ AddsOne i c e
adds_one i c e =
    let o : Option SeatState = slice_get c.seats e.seat in
    ⊎_elim
    (λ (same : e.seat ≡ i).
    let all : adds i c e ≡ entries_of c o e.step = ap (λ (b : Bool). cond b (entries_of c o e.step) []) (eq-eqb e.seat i same) in
    ⊎_elim
    (λ (h : entries_of c o e.step ≡ []). inl (all ∙ h))
    (λ (h : (s : SeatState) × (o ≡ Some s) × (entries_of c o e.step ≡ event e.step (word_told c s e.step) ∷ [])). inr (record { by = same; seat = h.0; there = h.1; added = all ∙ h.2 }))
    (one_by c e o refl))
    (λ (far : e.seat ≢ i). inl (ap (λ (b : Bool). cond b (entries_of c o e.step) []) (ne_eqb e.seat i far)))
    (cases_eq e.seat i)

head_same : {X : Type 0} (x y : X) (xs ys : List X) → x ∷ xs ≡ y ∷ ys → x ≡ y
head_same x y xs ys e = cc

tail_same : {X : Type 0} (x y : X) (xs ys : List X) → x ∷ xs ≡ y ∷ ys → xs ≡ ys
tail_same x y xs ys e = cc

pub rest_same : {X : Type 0} (xs ys zs : List X) → xs ++ ys ≡ xs ++ zs → ys ≡ zs
rest_same [] ys zs e = e
rest_same (x ∷ xs) ys zs e = rest_same xs ys zs (tail_same x x (xs ++ ys) (xs ++ zs) e)

none_inside : {X : Type 0} (xs ys : List X) (y : X) → [] ≡ xs ++ y ∷ ys → ⊥
none_inside [] ys y e = cc
none_inside (x ∷ xs) ys y e = cc

-- a history in two pieces
pub record InTwo (k i : ℕ) (xs ys : List Event) (c : Core) : Type 0 where
  pub number : ℕ
  pub first : first_refused k xs c ≡ None
  pub then : first_refused number ys (run_of xs c) ≡ None
  pub ends : run_of (xs ++ ys) c ≡ run_of ys (run_of xs c)
  pub log : log_from i c (xs ++ ys) ≡ log_from i c xs ++ log_from i (run_of xs c) ys

pub in-two : (k i : ℕ) (xs ys : List Event) (c : Core) → first_refused k (xs ++ ys) c ≡ None → InTwo k i xs ys c
in-two k i [] ys c may = record { number = k; first = refl; then = may; ends = refl; log = refl }
in-two k i (x ∷ xs) ys c may =
    let q = first-allowed k x (xs ++ ys) c may in
    let d : Core = after_event c x in
    let r : InTwo (k + 1) i xs ys d = in-two (k + 1) i xs ys d q.1 in
    let here : run_of (x ∷ xs) c ≡ run_of xs d = run-first c x xs q.0 in
    record {
      number = r.number;
      first = ap (λ (o : Option ℕ). refused_with k (kind_of x.step) o (first_refused (k + 1) xs d)) q.0 ∙ r.first;
      then = subst (λ (e : Core). first_refused r.number ys e ≡ None) (sym here) r.then;
      ends = run-first c x (xs ++ ys) q.0 ∙ (r.ends ∙ ap (λ (e : Core). run_of ys e) (sym here));
      log =
          ap (λ (l : List Entry). adds i c x ++ l) r.log
          ∙ (sym (append_assoc (adds i c x) (log_from i d xs) (log_from i (run_of xs d) ys)) ∙ ap (λ (e : Core). (adds i c x ++ log_from i d xs) ++ log_from i e ys) (sym here));
    }

pub all-front : (xs ys : List Event) → All Fits (xs ++ ys) → All Fits xs
all-front [] ys a = all-none
  where
    all-none : All Fits []
    all-none i d h = absurd (omega (arith, h))
all-front (x ∷ xs) ys a = All-cons Fits x xs (All-head Fits x (xs ++ ys) a) (all-front xs ys (All-tail Fits x (xs ++ ys) a))

pub all-back : (xs ys : List Event) → All Fits (xs ++ ys) → All Fits ys
all-back [] ys a = a
all-back (x ∷ xs) ys a = all-back xs ys (All-tail Fits x (xs ++ ys) a)

-- what each event keeps
abbrev pub IsKept : (Core → Type 0) → Type 0
IsKept R = (c : Core) (e : Event) → IsCore c → failing_part c e ≡ None → R c → R (after_event c e)

-- the event of an entry of the log of seat i, and what is true just before it
pub record EnteredBy (i : ℕ) (R : Core → Type 0) (end : Core) (a : Entry) : Type 0 where
  pub core : Core
  pub whole : IsCore core
  pub holds : R core
  pub at : Event
  pub by : at.seat ≡ i
  pub seat : SeatState
  pub there : slice_get core.seats at.seat ≡ Some seat
  pub allowed : failing_part core at ≡ None
  pub fits : NumbersFit at.step
  pub told : event at.step (word_told core seat at.step) ≡ a
  pub rest : List Event
  pub fit : All Fits rest
  pub ends : run_of rest (after_event core at) ≡ end

entered_here : (i : ℕ) (R : Core → Type 0) (x : Event) (xs : List Event) (c : Core) → IsCore c → R c → failing_part c x ≡ None → Fits x → All Fits xs → AddsOne i c x → (mid : List Entry) (a : Entry) (later : List Entry)
    → log_from i c (x ∷ xs) ≡ mid ++ a ∷ later
    → ((bs : List Entry) → log_from i (after_event c x) xs ≡ bs ++ a ∷ later → EnteredBy i R (run_of xs (after_event c x)) a)
    → EnteredBy i R (run_of xs (after_event c x)) a
entered_here i R x xs c core r ok fits fit one [] a later e next =
    let d : Core = after_event c x in
    let own : Entry = event x.step (word_told c one.seat x.step) in
    let both : own ∷ log_from i d xs ≡ a ∷ later = sym (ap (λ (l : List Entry). l ++ log_from i d xs) one.added) ∙ e in
    record {
      core = c;
      whole = core;
      holds = r;
      at = x;
      by = one.by;
      seat = one.seat;
      there = one.there;
      allowed = ok;
      fits = fits;
      told = head_same own a (log_from i d xs) later both;
      rest = xs;
      fit = fit;
      ends = refl;
    }
entered_here i R x xs c core r ok fits fit one (b ∷ bs) a later e next =
    let d : Core = after_event c x in
    let own : Entry = event x.step (word_told c one.seat x.step) in
    let both : own ∷ log_from i d xs ≡ b ∷ (bs ++ a ∷ later) = sym (ap (λ (l : List Entry). l ++ log_from i d xs) one.added) ∙ e in
    next bs (tail_same own b (log_from i d xs) (bs ++ a ∷ later) both)

pub entered-at : (i : ℕ) (R : Core → Type 0) → IsKept R → (k : ℕ) (es : List Event) (c : Core) → IsCore c → R c → first_refused k es c ≡ None → All Fits es → (mid : List Entry) (a : Entry) (later : List Entry) → log_from i c es ≡ mid ++ a ∷ later → EnteredBy i R (run_of es c) a
entered-at i R keep k [] c core r may fit mid a later e = absurd (none_inside mid later a e)
entered-at i R keep k (x ∷ xs) c core r may fit mid a later e =
    let q = first-allowed k x xs c may in
    let d : Core = after_event c x in
    let fits : Fits x = All-head Fits x xs fit in
    let rest : All Fits xs = All-tail Fits x xs fit in
    let next : (bs : List Entry) → log_from i d xs ≡ bs ++ a ∷ later → EnteredBy i R (run_of xs d) a =
    λ bs is. entered-at i R keep (k + 1) xs d (core_kept c x core fits q.0) (keep c x core q.0 r) q.1 rest bs a later is in
    subst (λ (end : Core). EnteredBy i R end a) (sym (run-first c x xs q.0))
    (⊎_elim
    (λ (none : adds i c x ≡ []). next mid (sym (ap (λ (l : List Entry). l ++ log_from i d xs) none) ∙ e))
    (λ (one : AddsOne i c x). entered_here i R x xs c core r q.0 fits rest one mid a later e next)
    (adds_one i c x))
