-- A weak reference that a log has tells for good.
use Rattle.std.proofs.Common.{ℕ, ◌≡◌, ◌≢◌, ◌+◌, ◌%◌, ◌<◌, List, [], ◌∷◌, ◌++◌, set, length, arith, refl, sym, ap, ◌∙◌, subst, Bool, true, false, ◌⊎◌, ⊎_elim, inl, inr, append_assoc, cond, Option, Some, None}
use Rattle.std.specs.Prelude.{slice_get, slice_index}
use Rattle.std.specs.List.{All}
use Rattle.std.proofs.lemmas.Bool.{cases_eq, eq-eqb, ne_eqb, true≢false}
use Rattle.std.proofs.lemmas.List.{length-set}
use Rattle.std.proofs.lemmas.List.Elements.{All-cons, All-head, All-tail}
use Rattle.std.proofs.lemmas.Option.{same_Some}
use Rattle.mark_core.specs.Bits.{has_bit}
use Rattle.mark_core.specs.Laws.{IsCore, NumbersFit}
use Rattle.mark_core.specs.Layout.{region_sizes, words_of}
use Rattle.mark_core.specs.Start.{start_seat, spent_seat}
use Rattle.mark_core.specs.Steps.MutatorSteps.{knows_cell}
use Rattle.mark_core.specs.Steps.{Core, after_event, failing_part, first_refused, run_of, start_core}
use Rattle.mark_core.specs.Weak.{IsWeak}
use Rattle.mark_core.specs.declared.kinds.Event.{Event}
use Rattle.mark_core.specs.declared.kinds.Step.{Step}
use Rattle.mark_core.specs.declared.kinds.Step.TheVariants.{Join, ReadIdent, ReadWeak, Split}
use Rattle.mark_core.specs.declared.seat.SeatState.{SeatState}
use Rattle.mark_core.proofs.Blocks.BlocksStopped.{Taken, in-place, kept-after, within}
use Rattle.mark_core.proofs.Consequences.WeakFound.{published-is_weak}
use Rattle.mark_core.proofs.Consequences.WeakKept.{published-on, seated-left, weak_stays}
use Rattle.mark_core.proofs.Consequences.WeakTold.{Holds, HoldsUsed, asked_holds, holds_kept, used_holds}
use Rattle.mark_core.proofs.CoreKept.{core_kept, core-starts}
use Rattle.mark_core.proofs.Formed.FormedLearns.{push-cases, set-here, set-there}
use Rattle.mark_core.proofs.Known.{Acted, acts, seats_left, words_left}
use Rattle.mark_core.proofs.References.ReferencesRoots.{weak-bit}
use Rattle.mark_core.proofs.Writing.Places.{words-get}
use Rattle.gc_table.specs.Entries.{event, is_logged}
use Rattle.gc_table.specs.Past.{adds, entries_of, log_from, word_told}
use Rattle.gc_table.specs.Weak.{HasWeak, HistoriesKeepWeak, WeakRemembered}
use Rattle.gc_table.specs.declared.view.Entry.{Entry}
use Rattle.gc_table.proofs.History.Past.{Fits, first-allowed, run-first}

-- what an event adds to a log: its entry, if it is of this seat and logged, or nothing
record AddsOne (i : ℕ) (c : Core) (e : Event) : Type 0 where
  by : e.seat ≡ i
  seat : SeatState
  there : slice_get c.seats e.seat ≡ Some seat
  added : adds i c e ≡ event e.step (word_told c seat e.step) ∷ []

one_of : (c : Core) (s : SeatState) (step : Step) (b : Bool) → is_logged step ≡ b → (entries_of c (Some s) step ≡ []) ⊎ (entries_of c (Some s) step ≡ event step (word_told c s step) ∷ [])
one_of c s step true e = inr (ap (λ (b : Bool). cond b (event step (word_told c s step) ∷ []) []) e)
one_of c s step false e = inl (ap (λ (b : Bool). cond b (event step (word_told c s step) ∷ []) []) e)

one_by : (c : Core) (e : Event) (o : Option SeatState) → slice_get c.seats e.seat ≡ o → (entries_of c o e.step ≡ []) ⊎ ((s : SeatState) × (o ≡ Some s) × (entries_of c o e.step ≡ event e.step (word_told c s e.step) ∷ []))
one_by c e None g = inl refl
one_by c e (Some s) g =
    ⊎_elim (λ (h : entries_of c (Some s) e.step ≡ []). inl h) (λ (h : entries_of c (Some s) e.step ≡ event e.step (word_told c s e.step) ∷ []). inr (s, refl, h)) (one_of c s e.step (is_logged e.step) refl)

adds_one : (i : ℕ) (c : Core) (e : Event) → (adds i c e ≡ []) ⊎ AddsOne i c e
adds_one i c e =
    let o : Option SeatState = slice_get c.seats e.seat in
    ⊎_elim
    (λ (same : e.seat ≡ i).
    let all : adds i c e ≡ entries_of c o e.step = ap (λ (b : Bool). cond b (entries_of c o e.step) []) (eq-eqb e.seat i same) in
    ⊎_elim
    (λ (h : entries_of c o e.step ≡ []). inl (all ∙ h))
    (λ (h : (s : SeatState) × (o ≡ Some s) × (entries_of c o e.step ≡ event e.step (word_told c s e.step) ∷ [])). inr (record { by = same; seat = h.0; there = h.1; added = all ∙ h.2 }))
    (one_by c e o refl))
    (λ (far : e.seat ≢ i). inl (ap (λ (b : Bool). cond b (entries_of c o e.step) []) (ne_eqb e.seat i far)))
    (cases_eq e.seat i)

-- what is kept by each event that adds nothing to the log of seat i
abbrev IsQuietly : ℕ → (Core → Type 0) → Type 0
IsQuietly i R = (c : Core) (e : Event) → IsCore c → NumbersFit e.step → failing_part c e ≡ None → adds i c e ≡ [] → R c → R (after_event c e)

-- the event of the next entry in the log of seat i, by its step and the word that it told, and what is true until then
record NextBy (i : ℕ) (R : Core → Type 0) (end : Core) (later : List Entry) (e : Event) (w : ℕ) : Type 0 where
  core : Core
  whole : IsCore core
  holds : R core
  by : e.seat ≡ i
  allowed : failing_part core e ≡ None
  fits : NumbersFit e.step
  told : (s : SeatState) → slice_get core.seats e.seat ≡ Some s → word_told core s e.step ≡ w
  rest : List Event
  k : ℕ
  may : first_refused k rest (after_event core e) ≡ None
  fit : All Fits rest
  log : log_from i (after_event core e) rest ≡ later
  ends : run_of rest (after_event core e) ≡ end

abbrev Next : ℕ → (Core → Type 0) → Core → Entry → List Entry → Type 0
Next i R end a later = (e : Event) × (w : ℕ) × NextBy i R end later e w × (event e.step w ≡ a)

event_same : (e : Event) (i : ℕ) (step : Step) → e.seat ≡ i → e.step ≡ step → e ≡ record { seat = i; step = step }
event_same e i step a b = λ y. record { seat = a y; step = b y }

next_step : (i : ℕ) (R : Core → Type 0) (end : Core) (later : List Entry) (step : Step) (n : ℕ) → Next i R end (event step n) later → NextBy i R end later (record { seat = i; step = step }) n
next_step i R end later step n (e, w, m, is) =
    let at : e.step ≡ step = ap (λ (a : Entry). a.step) is in
    let word : w ≡ n = ap (λ (a : Entry). a.found) is in
    subst (λ (u : Event). NextBy i R end later u n) (event_same e i step m.by at) (subst (λ (u : ℕ). NextBy i R end later e u) word m)

head_same : {X : Type 0} (x y : X) (xs ys : List X) → x ∷ xs ≡ y ∷ ys → x ≡ y
head_same x y xs ys e = cc

tail_same : {X : Type 0} (x y : X) (xs ys : List X) → x ∷ xs ≡ y ∷ ys → xs ≡ ys
tail_same x y xs ys e = cc

no_entry : {X : Type 0} (x : X) (xs : List X) → [] ≡ x ∷ xs → ⊥
no_entry x xs e = cc

next_logged : (i : ℕ) (R : Core → Type 0) → IsQuietly i R → (k : ℕ) (es : List Event) (c : Core) → IsCore c → R c → first_refused k es c ≡ None → All Fits es → (a : Entry) (later : List Entry) → log_from i c es ≡ a ∷ later → Next i R (run_of es c) a later
next_logged i R keep k [] c core r may fit a later e = absurd (no_entry a later e)
next_logged i R keep k (x ∷ xs) c core r may fit a later e =
    let q = first-allowed k x xs c may in
    let fits : Fits x = All-head Fits x xs fit in
    let rest : All Fits xs = All-tail Fits x xs fit in
    let d : Core = after_event c x in
    let run : run_of (x ∷ xs) c ≡ run_of xs d = run-first c x xs q.0 in
    ⊎_elim
    (λ (none : adds i c x ≡ []).
    let log : log_from i d xs ≡ a ∷ later = sym (ap (λ (l : List Entry). l ++ log_from i d xs) none) ∙ e in
    subst (λ (end : Core). Next i R end a later) (sym run) (next_logged i R keep (k + 1) xs d (core_kept c x core fits q.0) (keep c x core fits q.0 none r) q.1 rest a later log))
    (λ (one : AddsOne i c x).
    let w : ℕ = word_told c one.seat x.step in
    let both : event x.step w ∷ log_from i d xs ≡ a ∷ later = sym (ap (λ (l : List Entry). l ++ log_from i d xs) one.added) ∙ e in (
      x,
      w,
      record {
        core = c;
        whole = core;
        holds = r;
        by = one.by;
        allowed = q.0;
        fits = fits;
        told = λ s g. ap (λ (o : SeatState). word_told c o x.step) (same_Some s one.seat (sym g ∙ one.there));
        rest = xs;
        k = k + 1;
        may = q.1;
        fit = rest;
        log = tail_same (event x.step w) a (log_from i d xs) later both;
        ends = sym run;
      },
      head_same (event x.step w) a (log_from i d xs) later both,
    ))
    (adds_one i c x)

-- anything at all
abbrev Nothing : Core → Type 0
Nothing c = Unit {0}

-- the event of an entry of the log, after those before it
logged_at : (i : ℕ) (before : List Entry) (k : ℕ) (es : List Event) (c : Core) → IsCore c → first_refused k es c ≡ None → All Fits es → (a : Entry) (later : List Entry) → log_from i c es ≡ before ++ a ∷ later → Next i Nothing (run_of es c) a later
logged_at i [] k es c core may fit a later e = next_logged i Nothing (λ c e core fits ok none r. tt) k es c core tt may fit a later e
logged_at i (b ∷ bs) k es c core may fit a later e =
    let n : Next i Nothing (run_of es c) b (bs ++ a ∷ later) = next_logged i Nothing (λ c e core fits ok none r. tt) k es c core tt may fit b (bs ++ a ∷ later) e in
    let m : NextBy i Nothing (run_of es c) (bs ++ a ∷ later) n.0 n.1 = n.2 in
    subst (λ (end : Core). Next i Nothing end a later) m.ends
    (logged_at i bs m.k m.rest (after_event m.core n.0) (core_kept m.core n.0 m.whole m.fits m.allowed) m.may m.fit a later m.log)

-- A seat that makes or joins another keeps its record.
own_stays : (c : Core) (i : ℕ) (s t : SeatState) (step : Step) → Taken c i s step → is_logged step ≡ false → slice_get (seats_left c i s step) i ≡ Some t → t.spent ≡ false → s ≡ t
own_stays c i s t Split k quiet e live =
    let ss : List SeatState = set c.seats i s in
    let there : i < length c.seats = within c i s Split k in
    ⊎_elim
    (λ (h : (i ≡ length ss) × (start_seat c.shape (length ss) ≡ t)). absurd (omega (arith, h.0, there, length-set c.seats i s)))
    (λ (h : slice_get ss i ≡ Some t). set-here c.seats i s t h)
    (push-cases ss i (start_seat c.shape (length ss)) t e)
own_stays c i s t (Join other) k quiet e live =
    let ss : List SeatState = set c.seats i s in
    ⊎_elim
    (λ (a : i ≡ other).
    let is : spent_seat c.shape other ≡ t = set-here ss other (spent_seat c.shape other) t (subst (λ (o : ℕ). slice_get (set ss other (spent_seat c.shape other)) o ≡ Some t) a e) in
    absurd (true≢false (ap (λ (o : SeatState). o.spent) is ∙ live)))
    (λ (d : i ≢ other). set-here c.seats i s t (set-there ss other i (spent_seat c.shape other) t d e))
    (cases_eq i other)
own_stays c i s t step k quiet e live = absurd (true≢false quiet)

own_holds : (i x : ℕ) (c : Core) (s : SeatState) (step : Step) → Taken c i s step → is_logged step ≡ false → Holds i x c → HoldsUsed i x c.shape (words_left c s step) (seats_left c i s step)
own_holds i x c s step k quiet h =
    record {
      exists = omega (arith, h.exists, seated-left c i s step);
      knows =
          λ t g live.
          let is : s ≡ t = own_stays c i s t step k quiet g live in
          let a = h.knows s k.got k.live in
          (subst (λ (o : SeatState). knows_cell o x ≡ true) is a.0, λ below u. published-on c i s step x k below u a.1);
    }

logged_adds : (c : Core) (s : SeatState) (step : Step) → entries_of c (Some s) step ≡ [] → is_logged step ≡ false
logged_adds c s Split e = refl
logged_adds c s (Join other) e = refl
logged_adds c s step e = absurd (no_entry (event step (word_told c s step)) [] (sym e))

-- who knows a cell in use that is published knows it until its next step
quiet_holds : (i x : ℕ) → IsQuietly i (Holds i x)
quiet_holds i x c e core fits ok none h =
    ⊎_elim
    (λ (same : i ≡ e.seat).
    used_holds i x (after_event c e) (core_kept c e core fits ok)
    (kept-after (HoldsUsed i x) c e core ok
    (λ s acted k.
    let nothing : entries_of c (Some s) e.step ≡ [] =
    sym (ap (λ (o : Option SeatState). entries_of c o e.step) acted.seat) ∙ (sym (ap (λ (b : Bool). cond b (entries_of c (slice_get c.seats e.seat) e.step) []) (eq-eqb e.seat i (sym same))) ∙ none) in
    subst (λ (j : ℕ). HoldsUsed j x c.shape (words_left c s e.step) (seats_left c e.seat s e.step)) (sym same)
    (own_holds e.seat x c s e.step k (logged_adds c s e.step nothing) (subst (λ (j : ℕ). Holds j x c) same h)))))
    (λ (far : i ≢ e.seat). holds_kept i x c e core fits ok far h)
    (cases_eq i e.seat)

pub histories_keep_weak : HistoriesKeepWeak
histories_keep_weak sh es c i x id shaped led h =
    let start : Core = start_core sh 1 in
    let read : Entry = event (ReadIdent x) id in
    let asked : NextBy i Nothing (run_of es start) (read ∷ h.later) (record { seat = i; step = ReadWeak x }) h.bits =
    next_step i Nothing (run_of es start) (read ∷ h.later) (ReadWeak x) h.bits
    (logged_at i h.before 0 es start (core-starts sh 1 shaped (omega arith) (omega arith)) led.allowed led.fit (event (ReadWeak x) h.bits) (read ∷ h.later) h.reads) in
    let one : Event = record { seat = i; step = ReadWeak x } in
    let first : Core = after_event asked.core one in
    let sound : IsCore first = core_kept asked.core one asked.whole tt asked.allowed in
    let begun : Holds i x first =
    used_holds i x first sound
    (kept-after (HoldsUsed i x) asked.core one asked.whole asked.allowed
    (λ s acted t.
    asked_holds asked.core i s x t (sym (weak-bit asked.core i s x t) ∙ (ap (λ (w : ℕ). has_bit w (x % 64)) (asked.told s acted.seat) ∙ h.published)))) in
    let two : Event = record { seat = i; step = ReadIdent x } in
    let next : NextBy i (Holds i x) (run_of asked.rest first) h.later two id =
    next_step i (Holds i x) (run_of asked.rest first) h.later (ReadIdent x) id
    (next_logged i (Holds i x) (quiet_holds i x) asked.k asked.rest first sound begun asked.may asked.fit read h.later asked.log) in
    let d : Core = next.core in
    let acted : (s : SeatState) × Acted d two s = acts d two next.whole next.allowed in
    let taken : Taken d i acted.0 (ReadIdent x) = record { core = next.whole; got = acted.1.seat; live = acted.1.live; ok = acted.1.ok } in
    let there : slice_index (words_of d.shape d.words).identities x ≡ id = sym (words-get (region_sizes d.shape) 9 d.words x 0 (in-place d i acted.0 (ReadIdent x) taken)) ∙ next.told acted.0 acted.1.seat in
    let weak : IsWeak d id x = subst (λ (n : ℕ). IsWeak d n x) there (published-is_weak d x next.whole (next.holds.knows acted.0 acted.1.seat acted.1.live).1) in
    let later : IsWeak (run_of (two ∷ next.rest) d) id x = weak_stays.weak id x d (two ∷ next.rest) next.whole (All-cons Fits two next.rest next.fits next.fit) weak in
    let end : run_of (two ∷ next.rest) d ≡ c = run-first d two next.rest next.allowed ∙ (next.ends ∙ (asked.ends ∙ led.leads)) in
    subst (λ (e : Core). IsWeak e id x) end later

pub weak_remembered : WeakRemembered
weak_remembered step n x id v f h =
    histories_keep_weak f.state.core.shape f.past f.state.core f.index x id f.whole.core.formed.shaped f.led (subst (λ (l : List Entry). HasWeak x id l) f.logged.log h)

-- what a log has it keeps as it grows
pub weak-more : (x id : ℕ) (log more : List Entry) → HasWeak x id log → HasWeak x id (log ++ more)
weak-more x id log more h =
    let own : List Entry = event (ReadWeak x) h.bits ∷ event (ReadIdent x) id ∷ h.later in
    record {
      bits = h.bits;
      before = h.before;
      later = h.later ++ more;
      published = h.published;
      reads = ap (λ (l : List Entry). l ++ more) h.reads ∙ append_assoc h.before own more;
    }
