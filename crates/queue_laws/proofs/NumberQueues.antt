-- The numbers of what each seat puts into a queue and takes out are those that its log tells.
use Rattle.std.proofs.Common.{ℕ, ◌≡◌, ◌≢◌, ◌≤◌, zero, suc, List, [], ◌∷◌, ◌++◌, take, length, arith, refl, sym, ap, ◌∙◌, subst, Bool, true, Option, None, Some, eq-eqb, ⊎_elim}
use Rattle.std.specs.Prelude.{if◌then◌else◌, slice_get}
use Rattle.std.proofs.lemmas.Bool.{cases_eq}
use Rattle.std.proofs.lemmas.List.{append-nil}
use Rattle.plain_heap.specs.Paths.{Name}
use Rattle.mark_core.specs.Steps.{Core, run_of}
use Rattle.mark_core.specs.declared.kinds.Event.{Event}
use Rattle.mark_core.specs.declared.kinds.Step.{Step}
use Rattle.mark_core.specs.declared.kinds.Step.TheVariants.{ExchangeField}
use Rattle.mark_core.specs.declared.seat.SeatState.{SeatState}
use Rattle.gc_table.specs.Entries.{is_logged}
use Rattle.gc_table.specs.Past.{adds, entries_of, log_from}
use Rattle.gc_table.specs.RunWorlds.{World, object_of, own_section}
use Rattle.gc_table.specs.declared.view.Entry.{Entry}
use Rattle.gc_table.proofs.Counted.{other_adds, own_adds}
use Rattle.gc_table.proofs.Reading.{none-some}
use Rattle.heap_laws.proofs.SplitLogs.{split_log}
use Rattle.queue_laws.specs.NumberLogs.{Telling, puts_told, takes_told, telling_at, tellings}
use Rattle.queue_laws.specs.QueueLogs.{FitsQueue, Hands}
use Rattle.queue_laws.specs.Queues.{Item, Queue, by_seat, heap_at, item_of, put_by, put_of, puts, taken_by, taken_of, takes, value_of}
use Rattle.queue_laws.specs.TakenNumbers.{AreNumbers, NumbersByLog, NumbersTold}
use Rattle.queue_laws.proofs.Chains.{by_append, snoc_cases}
use Rattle.queue_laws.proofs.FitSteps.{At, at as at_event}
use Rattle.queue_laws.proofs.Happening.{gathered_next}
use Rattle.queue_laws.proofs.LogQueues as whole
use Rattle.queue_laws.proofs.News.{others_none}
use Rattle.queue_laws.proofs.NumberLogs.{puts_join, takes_join}
use Rattle.queue_laws.proofs.Statuses.{Status}
use Rattle.queue_laws.proofs.NumberExchanges.{put_any, taken_any}

-- two lists, one after the other
are_join : (ns ms : List (Option ℕ)) (xs ys : List Item) → AreNumbers ns xs → AreNumbers ms ys → AreNumbers (ns ++ ms) (xs ++ ys)
are_join [] ms [] ys a b = b
are_join [] ms (x ∷ xs) ys a b = absurd a
are_join (None ∷ ns) ms [] ys a b = absurd a
are_join (Some n ∷ ns) ms [] ys a b = absurd a
are_join (None ∷ ns) ms (x ∷ xs) ys a b = are_join ns ms xs ys a b
are_join (Some n ∷ ns) ms (x ∷ xs) ys a b = (a.0, are_join ns ms xs ys a.1 b)

-- an item of the seat is among its own
own_item : (i : ℕ) (w : World) (o : Option Name) → by_seat i (item_of w i o) ≡ item_of w i o
own_item i w None = refl
own_item i w (Some name) = let item : Item = record { seat = i; node = name; number = value_of (object_of w name) } in ap (λ (b : Bool). if b then item ∷ [] else []) (eq-eqb i i refl)

-- what is put in or taken out, is by a step that a log has
put_logged : (q : Queue) (w : World) (n : ℕ) (a : Step) (name : Name) → put_by q w n a ≡ Some name → is_logged a ≡ true
put_logged q w n (ExchangeField v f y z) name e = refl
put_logged q w n a name e = absurd (none-some name e)

taken_logged : (q : Queue) (w : World) (n : ℕ) (a : Step) (name : Name) → taken_by q w n a ≡ Some name → is_logged a ≡ true
taken_logged q w n (ExchangeField v f y z) name e = refl
taken_logged q w n a name e = absurd (none-some name e)

module _ (q : Queue) (c : Core) (world : World) (es : List Event) (h : Hands) (p : FitsQueue q c world es h) where
  abbrev core : ℕ → Core
  core k = run_of (take k es) c

  abbrev heap : ℕ → World
  heap k = heap_at c world es k

  abbrev log : ℕ → ℕ → List Entry
  log i k = log_from i c (take k es)

  abbrev told : ℕ → SeatState → ℕ → Telling
  told i s k = tellings c.shape.fields h (telling_at h s) (log i k)

  module _ (k : ℕ) (x : At q c world es h p k) (t : Status q c world es p.begins k) where
    abbrev put_name : Option Name
    put_name = put_by q (heap k) (own_section x.seat) x.event.step

    abbrev taken_name : Option Name
    taken_name = taken_by q (heap k) (own_section x.seat) x.event.step

    puts_next : puts q c world es (suc k) ≡ puts q c world es k ++ item_of (heap k) x.event.seat put_name
    puts_next = gathered_next (put_of q) es c world p.begins.run.allowed k x.event x.there ∙ ap (λ (o : Option SeatState). puts q c world es k ++ put_of q (heap k) x.event.seat o x.event.step) x.act.got

    takes_next : takes q c world es (suc k) ≡ takes q c world es k ++ item_of (heap k) x.event.seat taken_name
    takes_next = gathered_next (taken_of q) es c world p.begins.run.allowed k x.event x.there ∙ ap (λ (o : Option SeatState). takes q c world es k ++ taken_of q (heap k) x.event.seat o x.event.step) x.act.got

    -- what the event adds, for each seat
    put_step : (i : ℕ) (s : SeatState) → slice_get c.seats i ≡ Some s → AreNumbers (puts_told c.shape.fields h (told i s k) (adds i (core k) x.event)) (by_seat i (item_of (heap k) x.event.seat put_name))
    put_step i s at =
        ⊎_elim
        (λ (same : i ≡ x.event.seat).
        subst (λ (j : ℕ). AreNumbers (puts_told c.shape.fields h (told j s k) (adds j (core k) x.event)) (by_seat j (item_of (heap k) x.event.seat put_name))) (sym same)
        (subst (λ (l : List Entry). AreNumbers (puts_told c.shape.fields h (told x.event.seat s k) l) (by_seat x.event.seat (item_of (heap k) x.event.seat put_name))) (sym (own_adds (core k) x.event x.seat x.act.got))
        (subst (λ (l : List Item). AreNumbers (puts_told c.shape.fields h (told x.event.seat s k) (entries_of (core k) (Some x.seat) x.event.step)) l) (sym (own_item x.event.seat (heap k) put_name))
        (put_any q c world es h p k x t s (subst (λ (j : ℕ). slice_get c.seats j ≡ Some s) same at) x.event.step refl))))
        (λ (d : i ≢ x.event.seat).
        subst (λ (l : List Entry). AreNumbers (puts_told c.shape.fields h (told i s k) l) (by_seat i (item_of (heap k) x.event.seat put_name))) (sym (other_adds i (core k) x.event d))
        (subst (AreNumbers []) (sym (others_none i x.event.seat (heap k) put_name d)) tt))
        (cases_eq i x.event.seat)

    taken_step : (i : ℕ) (s : SeatState) → slice_get c.seats i ≡ Some s → AreNumbers (takes_told c.shape.fields h (told i s k) (adds i (core k) x.event)) (by_seat i (item_of (heap k) x.event.seat taken_name))
    taken_step i s at =
        ⊎_elim
        (λ (same : i ≡ x.event.seat).
        subst (λ (j : ℕ). AreNumbers (takes_told c.shape.fields h (told j s k) (adds j (core k) x.event)) (by_seat j (item_of (heap k) x.event.seat taken_name))) (sym same)
        (subst (λ (l : List Entry). AreNumbers (takes_told c.shape.fields h (told x.event.seat s k) l) (by_seat x.event.seat (item_of (heap k) x.event.seat taken_name))) (sym (own_adds (core k) x.event x.seat x.act.got))
        (subst (λ (l : List Item). AreNumbers (takes_told c.shape.fields h (told x.event.seat s k) (entries_of (core k) (Some x.seat) x.event.step)) l) (sym (own_item x.event.seat (heap k) taken_name))
        (taken_any q c world es h p k x t s (subst (λ (j : ℕ). slice_get c.seats j ≡ Some s) same at) x.event.step refl))))
        (λ (d : i ≢ x.event.seat).
        subst (λ (l : List Entry). AreNumbers (takes_told c.shape.fields h (told i s k) l) (by_seat i (item_of (heap k) x.event.seat taken_name))) (sym (other_adds i (core k) x.event d))
        (subst (AreNumbers []) (sym (others_none i x.event.seat (heap k) taken_name d)) tt))
        (cases_eq i x.event.seat)

    numbers_next : (i : ℕ) (s : SeatState) → slice_get c.seats i ≡ Some s → NumbersTold q c world es h i k s → NumbersTold q c world es h i (suc k) s
    numbers_next i s at before =
        let more = (split_log i es c p.begins.run.allowed k x.event x.there).more in
        let start : Telling = telling_at h s in
        record {
          put =
              subst (λ (ns : List (Option ℕ)). AreNumbers ns (by_seat i (puts q c world es (suc k)))) (sym (ap (puts_told c.shape.fields h start) more ∙ puts_join c.shape.fields h start (log i k) (adds i (core k) x.event)))
              (subst (AreNumbers (puts_told c.shape.fields h start (log i k) ++ puts_told c.shape.fields h (told i s k) (adds i (core k) x.event))) (sym (ap (by_seat i) puts_next ∙ by_append i (puts q c world es k) (item_of (heap k) x.event.seat put_name)))
              (are_join (puts_told c.shape.fields h start (log i k)) (puts_told c.shape.fields h (told i s k) (adds i (core k) x.event)) (by_seat i (puts q c world es k)) (by_seat i (item_of (heap k) x.event.seat put_name)) before.put (put_step i s at)));
          taken =
              subst (λ (ns : List (Option ℕ)). AreNumbers ns (by_seat i (takes q c world es (suc k)))) (sym (ap (takes_told c.shape.fields h start) more ∙ takes_join c.shape.fields h start (log i k) (adds i (core k) x.event)))
              (subst (AreNumbers (takes_told c.shape.fields h start (log i k) ++ takes_told c.shape.fields h (told i s k) (adds i (core k) x.event))) (sym (ap (by_seat i) takes_next ∙ by_append i (takes q c world es k) (item_of (heap k) x.event.seat taken_name)))
              (are_join (takes_told c.shape.fields h start (log i k)) (takes_told c.shape.fields h (told i s k) (adds i (core k) x.event)) (by_seat i (takes q c world es k)) (by_seat i (item_of (heap k) x.event.seat taken_name)) before.taken (taken_step i s at)));
        }

    -- who adds an item was there
    there_next : (xs : List Item) (o : Option Name) → ((name : Name) → o ≡ Some name → is_logged x.event.step ≡ true) → (m : ℕ) (y : Item) → slice_get (xs ++ item_of (heap k) x.event.seat o) m ≡ Some y
        → ((m : ℕ) (y : Item) → slice_get xs m ≡ Some y → (s : SeatState) × (slice_get c.seats y.seat ≡ Some s)) → (s : SeatState) × (slice_get c.seats y.seat ≡ Some s)
    there_next xs None has m y e before = before m y (subst (λ (l : List Item). slice_get l m ≡ Some y) (append-nil xs) e)
    there_next xs (Some name) has m y e before =
        ⊎_elim
        (λ (f : slice_get xs m ≡ Some y). before m y f)
        (λ (f : (m ≡ length xs) × (y ≡ record { seat = x.event.seat; node = name; number = value_of (object_of (heap k) name) })).
        (x.first, subst (λ (n : ℕ). slice_get c.seats n ≡ Some x.first) (sym (ap (λ (z : Item). z.seat) f.1)) (x.is_first (has name refl))))
        (snoc_cases xs (record { seat = x.event.seat; node = name; number = value_of (object_of (heap k) name) }) y m e)

  numbers_told : (k : ℕ) → k ≤ length es → (i : ℕ) (s : SeatState) → slice_get c.seats i ≡ Some s → NumbersTold q c world es h i k s
  numbers_told zero l i s at = record { put = tt; taken = tt }
  numbers_told (suc k) l i s at =
      numbers_next k (at_event q c world es h p k (omega (arith, l))) (whole.status q c world es h p k (omega (arith, l))) i s at (numbers_told k (omega (arith, l)) i s at)

  nothing_at : (m : ℕ) (y : Item) → slice_get [] m ≡ Some y → ⊥
  nothing_at zero y e = none-some y e
  nothing_at (suc p) y e = none-some y e

  puts_there : (k : ℕ) → k ≤ length es → (m : ℕ) (y : Item) → slice_get (puts q c world es k) m ≡ Some y → (s : SeatState) × (slice_get c.seats y.seat ≡ Some s)
  puts_there zero l m y e = absurd (nothing_at m y e)
  puts_there (suc k) l m y e =
      let x : At q c world es h p k = at_event q c world es h p k (omega (arith, l)) in
      there_next k x (whole.status q c world es h p k (omega (arith, l))) (puts q c world es k) (put_by q (heap k) (own_section x.seat) x.event.step) (put_logged q (heap k) (own_section x.seat) x.event.step) m y
      (subst (λ (z : List Item). slice_get z m ≡ Some y) (puts_next k x (whole.status q c world es h p k (omega (arith, l)))) e) (puts_there k (omega (arith, l)))

  takes_there : (k : ℕ) → k ≤ length es → (m : ℕ) (y : Item) → slice_get (takes q c world es k) m ≡ Some y → (s : SeatState) × (slice_get c.seats y.seat ≡ Some s)
  takes_there zero l m y e = absurd (nothing_at m y e)
  takes_there (suc k) l m y e =
      let x : At q c world es h p k = at_event q c world es h p k (omega (arith, l)) in
      there_next k x (whole.status q c world es h p k (omega (arith, l))) (takes q c world es k) (taken_by q (heap k) (own_section x.seat) x.event.step) (taken_logged q (heap k) (own_section x.seat) x.event.step) m y
      (subst (λ (z : List Item). slice_get z m ≡ Some y) (takes_next k x (whole.status q c world es h p k (omega (arith, l)))) e) (takes_there k (omega (arith, l)))

pub numbers_by_log : NumbersByLog
numbers_by_log = record { told = numbers_told; put_by = puts_there; taken_by = takes_there }
