-- The numbers of a queue that section 0 lends are those that the logs tell.
use Rattle.std.proofs.Common.{ℕ, zero, suc, ◌≡◌, ◌≢◌, ◌<◌, ◌≤◌, ◌==◌, ◌∙◌, List, [], ◌∷◌, ◌++◌, append_assoc, take, length, arith, refl, sym, ap, subst, ⊎_elim, Bool, true, false, Option, None, Some, eqb-true}
use Rattle.std.specs.Prelude.{if◌then◌else◌, slice_get}
use Rattle.std.proofs.lemmas.Bool.{and_from, and_parts, cases_Bool, false≢true}
use Rattle.plain_heap.specs.Paths.{Name}
use Rattle.mark_core.specs.Steps.{Core, after_event}
use Rattle.mark_core.specs.Steps.MutatorSteps.{seat_variable}
use Rattle.mark_core.specs.declared.kinds.Event.{Event}
use Rattle.mark_core.specs.declared.kinds.Shape.{Shape}
use Rattle.mark_core.specs.declared.kinds.Step.{Step}
use Rattle.mark_core.specs.declared.kinds.Step.TheVariants.{ExchangeField}
use Rattle.mark_core.specs.declared.seat.SeatState.{SeatState}
use Rattle.gc_table.specs.Log.{all_steps}
use Rattle.gc_table.specs.Past.{adds, log_from, log_of}
use Rattle.gc_table.specs.RunWorlds.{World}
use Rattle.gc_table.specs.declared.view.Entry.{Entry}
use Rattle.gc_table.proofs.Lending.{all_split}
use Rattle.gc_table.proofs.Reading.{none-some}
use Rattle.queue_laws.specs.LentQueues.{IsRecordAfter, LentQueue, NumbersSince, QueueByLending, UsesLent, core_past, heap_past, keeps_objects, log_since}
use Rattle.queue_laws.specs.NumberLogs.{Telling, puts_told, takes_told, telling_at, unnumbered}
use Rattle.queue_laws.specs.QueueLogs.{Hands}
use Rattle.queue_laws.specs.Queues.{Item, Queue, by_seat, puts, takes}
use Rattle.queue_laws.specs.TakenNumbers.{AreNumbers, NumbersTold}
use Rattle.queue_laws.proofs.Created.{spent-none, words-told}
use Rattle.queue_laws.proofs.LentQueues as lent
use Rattle.queue_laws.proofs.LogQueues.{queue_by_log}
use Rattle.queue_laws.proofs.NumberLogs.{moves_none, puts_none, takes_none}
use Rattle.queue_laws.proofs.NumberQueues.{numbers_by_log}

-- a log is a beginning of a longer one
log_begins : (i : ℕ) (es : List Event) (c : Core) (k : ℕ) → (more : List Entry) × (log_from i c es ≡ log_from i c (take k es) ++ more)
log_begins i es c zero = (log_from i c es, refl)
log_begins i [] c (suc k) = ([], refl)
log_begins i (e ∷ es) c (suc k) =
    let r = log_begins i es (after_event c e) k in (r.0, ap (λ (l : List Entry). adds i c e ++ l) r.1 ∙ sym (append_assoc (adds i c e) (log_from i (after_event c e) (take k es)) r.0))

keeps_moves : (step : Step) → keeps_objects step ≡ true → moves_none step ≡ true
keeps_moves (ExchangeField v f x y) e = absurd (false≢true e)
keeps_moves step e = refl

keeps_all : (es : List Entry) → all_steps keeps_objects es ≡ true → all_steps moves_none es ≡ true
keeps_all [] a = refl
keeps_all (e ∷ es) a = let p = and_parts (keeps_objects e.step) (all_steps keeps_objects es) a in and_from (moves_none e.step) (all_steps moves_none es) (keeps_moves e.step p.0) (keeps_all es p.1)

-- nothing is of a seat that isn't there
by_none : (i : ℕ) (xs : List Item) → ((p : ℕ) (x : Item) → slice_get xs p ≡ Some x → x.seat ≡ i → ⊥) → by_seat i xs ≡ []
by_none i [] none = refl
by_none i (x ∷ xs) none = by_test (x.seat == i) refl (by_none i xs (λ p y at same. none (suc p) y at same))
  where
    by_test : (b : Bool) → (x.seat == i) ≡ b → by_seat i xs ≡ [] → (if b then x ∷ by_seat i xs else by_seat i xs) ≡ []
    by_test true e rest = absurd (none 0 x refl (eqb-true x.seat i e))
    by_test false e rest = rest

no_items : (xs : List Item) → AreNumbers [] xs → xs ≡ []
no_items [] a = refl
no_items (x ∷ xs) a = absurd a

another : (v : ℕ) → (u : ℕ) × (u < 32) × (v ≢ u)
another zero = (1, omega arith, λ e. omega (arith, e))
another (suc v) = (0, omega arith, λ e. omega (arith, e))

-- two records of which the same is told
same_variable : (log : List Entry) (s t : SeatState) (v : ℕ) → v < 32 → IsRecordAfter log s → IsRecordAfter log t → seat_variable s v ≡ seat_variable t v
same_variable log s t v low a b = let o = another v in a v o.0 low o.1 o.2 ∙ sym (b v o.0 low o.1 o.2)

module _ (sh : Shape) (past rest : List Event) (u : ℕ) (h : Hands) (root : Name) (p : LentQueue sh past rest u h root) where
  abbrev c : Core
  c = core_past sh past

  abbrev world : World
  world = heap_past sh past

  abbrev q : Queue
  q = lent.q sh past rest u h root p

  same_telling : (log : List Entry) (s t : SeatState) → IsRecordAfter log s → IsRecordAfter log t → telling_at h s ≡ telling_at h t
  same_telling log s t a b = λ j.
      record {
        own = unnumbered (same_variable log s t h.own p.hands.exist.1 a b j);
        next = unnumbered (same_variable log s t h.next p.hands.exist.4 a b j);
        seen = same_variable log s t h.seen p.hands.exist.2 a b j;
      }

  numbers_at : (k : ℕ) → k ≤ length rest → (i : ℕ) (s : SeatState) → slice_get c.seats i ≡ Some s → NumbersTold q c world rest h i k s
  numbers_at k l i s at = numbers_by_log.told q c world rest h (lent.fits_lent sh past rest u h root p) k l i s at

  -- told of a record of the same words
  since : (k : ℕ) (i : ℕ) (s t : SeatState) → telling_at h t ≡ telling_at h s → NumbersTold q c world rest h i k t → NumbersSince sh past rest h q i k s
  since k i s t same n =
      let shape = lent.shape_is sh past rest u h root p in
      record {
        put =
            subst (λ (z : Shape). AreNumbers (puts_told z.fields h (telling_at h s) (log_from i c (take k rest))) (by_seat i (puts q c world rest k))) shape
            (subst (λ (z : Telling). AreNumbers (puts_told c.shape.fields h z (log_from i c (take k rest))) (by_seat i (puts q c world rest k))) same n.put);
        taken =
            subst (λ (z : Shape). AreNumbers (takes_told z.fields h (telling_at h s) (log_from i c (take k rest))) (by_seat i (takes q c world rest k))) shape
            (subst (λ (z : Telling). AreNumbers (takes_told c.shape.fields h z (log_from i c (take k rest))) (by_seat i (takes q c world rest k))) same n.taken);
      }

  -- of a log without an entry nothing depends on the record
  since_none : (k : ℕ) (i : ℕ) (s t : SeatState) → log_from i c (take k rest) ≡ [] → NumbersTold q c world rest h i k t → NumbersSince sh past rest h q i k s
  since_none k i s t none n =
      record {
        put =
            subst (λ (l : List Entry). AreNumbers (puts_told sh.fields h (telling_at h s) l) (by_seat i (puts q c world rest k))) (sym none)
            (subst (λ (l : List Entry). AreNumbers (puts_told c.shape.fields h (telling_at h t) l) (by_seat i (puts q c world rest k))) none n.put);
        taken =
            subst (λ (l : List Entry). AreNumbers (takes_told sh.fields h (telling_at h s) l) (by_seat i (takes q c world rest k))) (sym none)
            (subst (λ (l : List Entry). AreNumbers (takes_told c.shape.fields h (telling_at h t) l) (by_seat i (takes q c world rest k))) none n.taken);
      }

  no_front : (xs ys : List Entry) → xs ++ ys ≡ [] → xs ≡ []
  no_front [] ys e = refl
  no_front (x ∷ xs) ys e = absurd (cc)

  told : (k : ℕ) → k ≤ length rest → (i : ℕ) → UsesLent sh.fields u h (log_of sh past i) (log_since sh past rest i) → (s : SeatState) → IsRecordAfter (log_of sh past i) s → NumbersSince sh past rest h q i k s
  told k l i uses s after =
      let came = lent.came_by sh past rest u h root p i (lent.lent_some sh past rest u h root p i uses.lent) in
      let r = lent.record_of sh past rest u h root p i came in
      let n = numbers_at k l i r.0 r.1 in
      ⊎_elim
      (λ (gone : r.0.spent ≡ true).
      let run = lent.run sh past rest u h root p in
      let none = spent-none i rest c run.sound run.allowed r.0 r.1 gone in
      let b = log_begins i rest c k in
      since_none k i s r.0 (no_front (log_from i c (take k rest)) b.0 (sym b.1 ∙ none)) n)
      (λ (live : r.0.spent ≡ false).
      since k i s r.0 (same_telling (log_of sh past i) r.0 s (words-told sh past (lent.first_part sh past rest u h root p) i came r.0 r.1 live) after) n)
      (cases_Bool r.0.spent)

  idle : (k : ℕ) → k ≤ length rest → (i : ℕ) → all_steps keeps_objects (log_since sh past rest i) ≡ true → (by_seat i (puts q c world rest k) ≡ []) × (by_seat i (takes q c world rest k) ≡ [])
  idle k l i keeps = by_record (slice_get c.seats i) refl
    where
      quiet : all_steps moves_none (log_from i c (take k rest)) ≡ true
      quiet =
          let b = log_begins i rest c k in
          keeps_all (log_from i c (take k rest)) (all_split keeps_objects (log_from i c (take k rest)) b.0 (subst (λ (z : List Entry). all_steps keeps_objects z ≡ true) b.1 keeps)).0

      gone : (x : Item) (s : SeatState) → slice_get c.seats i ≡ None → slice_get c.seats x.seat ≡ Some s → x.seat ≡ i → ⊥
      gone x s none there same = none-some s (sym none ∙ subst (λ (n : ℕ). slice_get c.seats n ≡ Some s) same there)

      by_record : (o : Option SeatState) → slice_get c.seats i ≡ o → (by_seat i (puts q c world rest k) ≡ []) × (by_seat i (takes q c world rest k) ≡ [])
      by_record None none =
          let fits = lent.fits_lent sh past rest u h root p in (
            by_none i (puts q c world rest k) (λ m x at same. let r = numbers_by_log.put_by q c world rest h fits k l m x at in gone x r.0 none r.1 same),
            by_none i (takes q c world rest k) (λ m x at same. let r = numbers_by_log.taken_by q c world rest h fits k l m x at in gone x r.0 none r.1 same),
          )
      by_record (Some s) at =
          let n = numbers_at k l i s at in (
            no_items (by_seat i (puts q c world rest k)) (subst (λ (ns : List (Option ℕ)). AreNumbers ns (by_seat i (puts q c world rest k))) (puts_none c.shape.fields h (telling_at h s) (log_from i c (take k rest)) quiet) n.put),
            no_items (by_seat i (takes q c world rest k)) (subst (λ (ns : List (Option ℕ)). AreNumbers ns (by_seat i (takes q c world rest k))) (takes_none c.shape.fields h (telling_at h s) (log_from i c (take k rest)) quiet) n.taken),
          )

pub queue_by_lending : QueueByLending
queue_by_lending sh past rest u h root p = (
  lent.q sh past rest u h root p,
  refl,
  queue_by_log (lent.q sh past rest u h root p) (core_past sh past) (heap_past sh past) rest h (lent.fits_lent sh past rest u h root p),
  record { told = told sh past rest u h root p; idle = idle sh past rest u h root p },
)
