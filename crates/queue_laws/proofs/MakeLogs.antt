-- A variable has a new object of its seat, as long as the log of the seat says so.
use Rattle.std.proofs.Common.{ℕ, ◌≡◌, ◌≢◌, ◌<◌, ◌≤◌, zero, suc, List, [], ◌∷◌, ◌++◌, append_assoc, take, length, arith, refl, sym, ap, ◌∙◌, subst, not, Bool, false, true, Option, None, Some, ⊎_elim}
use Rattle.std.specs.Prelude.{slice_get}
use Rattle.std.proofs.lemmas.Bool.{and_from, and_parts, and_right, cases_Bool, cases_eq, false≢true, not_from_false, not_from_true}
use Rattle.std.proofs.lemmas.Option.{slice_get_within}
use Rattle.plain_heap.specs.Paths.{Name}
use Rattle.mark_core.specs.Layout.{words_of}
use Rattle.mark_core.specs.Steps.{Core, after_event, run_of}
use Rattle.mark_core.specs.declared.kinds.Event.{Event}
use Rattle.mark_core.specs.declared.kinds.Shape.{Shape}
use Rattle.mark_core.specs.declared.kinds.Step.{Step}
use Rattle.mark_core.specs.declared.kinds.Step.TheVariants.{ExchangeField, Join, Split}
use Rattle.mark_core.specs.declared.seat.SeatState.{SeatState}
use Rattle.mark_core.proofs.Known.{seats_left}
use Rattle.mark_core.proofs.Blocks.BlocksStopped.{Taken, kept-after}
use Rattle.mark_core.proofs.Consequences.WeakKept.{seated-left}
use Rattle.mark_core.proofs.Pool.PoolsKept.{shape-kept}
use Rattle.gc_table.specs.Agreement.{AgreesWith}
use Rattle.gc_table.specs.AgreementLaws.{world_of}
use Rattle.gc_table.specs.Past.{adds, entries_of, log_from, word_told}
use Rattle.gc_table.specs.RunWorlds.{World, object_of, world_by}
use Rattle.gc_table.specs.Runs.{AreAllowed}
use Rattle.gc_table.specs.declared.view.Entry.{Entry}
use Rattle.gc_table.proofs.Counted.{other_adds, own_adds}
use Rattle.gc_table.proofs.History.Past.{run-first}
use Rattle.gc_table.proofs.Lending.{agree-on}
use Rattle.gc_table.proofs.Reading.{none-some}
use Rattle.heap_laws.specs.Named.{IsRunOn}
use Rattle.heap_laws.proofs.Moments.{Next, next-at}
use Rattle.heap_laws.proofs.SplitLogs.{split_log}
use Rattle.queue_laws.specs.Making.{IsNew, Making, gives, gives_none, making_after, makings, nothing_made}
use Rattle.queue_laws.specs.Queues.{heap_at}
use Rattle.queue_laws.proofs.MakeSteps.{Knows, other_next, own_next}

pub makings_join : (fields o : ℕ) (known : Making) (xs ys : List Entry) → makings fields o known (xs ++ ys) ≡ makings fields o (makings fields o known xs) ys
makings_join fields o known [] ys = refl
makings_join fields o known (x ∷ xs) ys = makings_join fields o (making_after fields o known x.step x.found) xs ys

quiet_join : (o : ℕ) (xs ys : List Entry) → gives_none o xs ≡ true → gives_none o ys ≡ true → gives_none o (xs ++ ys) ≡ true
quiet_join o [] ys e f = f
quiet_join o (x ∷ xs) ys e f =
    let p = and_parts (not (gives o x.step x.found)) (gives_none o xs) e in
    and_from (not (gives o x.step x.found)) (gives_none o (xs ++ ys)) p.0 (quiet_join o xs ys p.1 f)

-- the entry of a step that doesn't give it
quiet_entry : (o : ℕ) (c : Core) (s : SeatState) (step : Step) → gives o step (word_told c s step) ≡ false → gives_none o (entries_of c (Some s) step) ≡ true
quiet_entry o c s Split e = refl
quiet_entry o c s (Join other) e = refl
quiet_entry o c s step e = and_from (not (gives o step (word_told c s step))) true (not_from_false (gives o step (word_told c s step)) e) refl

abbrev with_fresh : Bool → Making
with_fresh b = record { newest = None; fresh = b }

-- one that gives it leaves nothing known
loud_entry : (fields o : ℕ) (known : Making) (c : Core) (s : SeatState) (step : Step) → gives o step (word_told c s step) ≡ true → makings fields o known (entries_of c (Some s) step) ≡ nothing_made
loud_entry fields o known c s (ExchangeField v f x y) e =
    let step : Step = ExchangeField v f x y in
    ap (λ (z : Bool). with_fresh z) (and_right known.fresh (not (gives o step (word_told c s step))) (not_from_true (gives o step (word_told c s step)) e))
loud_entry fields o known c s step e = absurd (false≢true e)

-- a run keeps the shape
pub shape_on : (es : List Event) (c : Core) → AreAllowed c es → (k : ℕ) → (run_of (take k es) c).shape ≡ c.shape
shape_on es c ok zero = refl
shape_on [] c ok (suc k) = refl
shape_on (e ∷ es) c ok (suc k) = ap (λ (d : Core). d.shape) (run-first c e (take k es) ok.0) ∙ (shape_on es (after_event c e) ok.1 k ∙ shape-kept c e)

module _ (c : Core) (world : World) (es : List Event) (run : IsRunOn c world es) (i o : ℕ) (s : SeatState) (at : slice_get c.seats i ≡ Some s) (ho : o < 32) where
  abbrev core : ℕ → Core
  core k = run_of (take k es) c

  abbrev heap : ℕ → World
  heap k = heap_at c world es k

  abbrev New : ℕ → Name → Type 0
  New k = IsNew c world es i o k

  abbrev log : ℕ → List Entry
  log k = log_from i c (take k es)

  abbrev known : ℕ → Making
  known k = makings c.shape.fields o nothing_made (log k)

  abbrev Known : ℕ → List SeatState → World → Making → Type 0
  Known k = Knows i o ho (New k)

  -- nothing is known
  none_known : (k : ℕ) (seats : List SeatState) (w : World) → i < length seats → Known k seats w nothing_made
  none_known k seats w there = record { there = there; newest = λ x e t here live. absurd (none-some x e); fresh = λ e. absurd (false≢true e) }

  module _ (k : ℕ) (n : Next es c world k) (a : Known k (core k).seats (heap k) (known k)) where
    abbrev e : Event
    e = n.event

    agrees : AgreesWith (core k) (heap k)
    agrees = agree-on es c world run.sound run.allowed run.agrees k

    more : log (suc k) ≡ log k ++ adds i (core k) e
    more = (split_log i es c run.allowed k e n.there).more

    -- what was new is new after an event that exchanges no field for the seat
    later : gives_none o (adds i (core k) e) ≡ true → (name : Name) → New k name → New (suc k) name
    later quiet name w =
        let low = w.before in
        record {
          moment = w.moment;
          before = omega (arith, low);
          none = w.none;
          since = w.since ++ adds i (core k) e;
          log = more ∙ (ap (λ (l : List Entry). l ++ adds i (core k) e) w.log ∙ append_assoc (log w.moment) w.since (adds i (core k) e));
          quiet = quiet_join o w.since (adds i (core k) e) w.quiet quiet;
        }

    new : gives_none o (adds i (core k) e) ≡ true → (name : Name) → object_of (heap k) name ≡ None → New (suc k) name
    new quiet name none = record { moment = k; before = omega arith; none = none; since = adds i (core k) e; log = more; quiet = quiet }

    longer : gives_none o (adds i (core k) e) ≡ true → Known (suc k) (core k).seats (heap k) (known k)
    longer quiet =
        record {
          there = a.there;
          newest = λ x f t here live. let p = a.newest x f t here live in (p.0, p.1, p.2, later quiet _ p.3);
          fresh = λ f. let p = a.fresh f in (p.0, p.1, p.2, later quiet p.0 p.3);
        }

    Result : SeatState → Type 0
    Result t = Known (suc k) (seats_left (core k) e.seat t e.step) (world_by (core k).shape (words_of (core k).shape (core k).words) t e.step (heap k)) (makings c.shape.fields o (known k) (adds i (core k) e))

    by_seat : (t : SeatState) → Taken (core k) e.seat t e.step → i < length (seats_left (core k) e.seat t e.step) → Result t
    unfolding Result
    by_seat t taken there =
        ⊎_elim
        (λ (same : i ≡ e.seat).
        let mine : Taken (core k) i t e.step = subst (λ (j : ℕ). Taken (core k) j t e.step) (sym same) taken in
        let entries : adds i (core k) e ≡ entries_of (core k) (Some t) e.step = ap (λ (j : ℕ). adds j (core k) e) same ∙ own_adds (core k) e t taken.got in
        let after : World = world_by (core k).shape (words_of (core k).shape (core k).words) t e.step (heap k) in
        ⊎_elim
        (λ (q : gives o e.step (word_told (core k) t e.step) ≡ true).
        subst (λ (m : Making). Known (suc k) (seats_left (core k) e.seat t e.step) after m)
        (sym (ap (makings c.shape.fields o (known k)) entries ∙ loud_entry c.shape.fields o (known k) (core k) t e.step q))
        (none_known (suc k) (seats_left (core k) e.seat t e.step) after there))
        (λ (q : gives o e.step (word_told (core k) t e.step) ≡ false).
        let quiet : gives_none o (adds i (core k) e) ≡ true = ap (gives_none o) entries ∙ quiet_entry o (core k) t e.step q in
        let next = own_next i o ho (New (suc k)) (core k) t e.step (heap k) (known k) mine agrees (longer quiet) (new quiet) in
        subst (λ (j : ℕ). Known (suc k) (seats_left (core k) j t e.step) after (makings c.shape.fields o (known k) (adds i (core k) e))) same
        (subst (λ (l : List Entry). Known (suc k) (seats_left (core k) i t e.step) after (makings c.shape.fields o (known k) l)) (sym entries)
        (subst (λ (sh : Shape). Known (suc k) (seats_left (core k) i t e.step) after (makings sh.fields o (known k) (entries_of (core k) (Some t) e.step))) (shape_on es c run.allowed k) next)))
        (cases_Bool (gives o e.step (word_told (core k) t e.step))))
        (λ (differ : i ≢ e.seat).
        let none : adds i (core k) e ≡ [] = other_adds i (core k) e differ in
        let quiet : gives_none o (adds i (core k) e) ≡ true = ap (gives_none o) none in
        subst (λ (l : List Entry). Known (suc k) (seats_left (core k) e.seat t e.step) (world_by (core k).shape (words_of (core k).shape (core k).words) t e.step (heap k)) (makings c.shape.fields o (known k) l)) (sym none)
        (other_next i o ho (New (suc k)) (core k) e.seat t e.step (heap k) (known k) taken differ (longer quiet)))
        (cases_eq i e.seat)

    next_known : Known (suc k) (core (suc k)).seats (heap (suc k)) (known (suc k))
    unfolding Result
    next_known =
        let after : Known (suc k) (after_event (core k) e).seats (heap (suc k)) (makings c.shape.fields o (known k) (adds i (core k) e)) =
        kept-after (λ sh w seats. Known (suc k) seats (heap (suc k)) (makings c.shape.fields o (known k) (adds i (core k) e))) (core k) e (run.sound k) n.allowed
        (λ t acted taken.
        let long = seated-left (core k) e.seat t e.step in
        let there = a.there in
        subst (λ (w : World). Known (suc k) (seats_left (core k) e.seat t e.step) w (makings c.shape.fields o (known k) (adds i (core k) e)))
        (sym (n.heap ∙ ap (λ (z : Option SeatState). world_of (core k) z e.step (heap k)) acted.seat)) (by_seat t taken (omega (arith, long, there)))) in
        subst (λ (x : Core). Known (suc k) x.seats (heap (suc k)) (known (suc k))) (sym n.core)
        (subst (λ (m : Making). Known (suc k) (after_event (core k) e).seats (heap (suc k)) m)
        (sym (ap (makings c.shape.fields o nothing_made) more ∙ makings_join c.shape.fields o nothing_made (log k) (adds i (core k) e))) after)

  pub status : (k : ℕ) → k ≤ length es → Known k (core k).seats (heap k) (known k)
  status zero l = none_known 0 c.seats world (slice_get_within c.seats i s at)
  status (suc k) l = next_known k (next-at es c world run.allowed k (omega (arith, l))) (status k (omega (arith, l)))
