-- A variable has what was read in a field of another's object, as long as the log of its seat says so.
use Rattle.std.proofs.Common.{ℕ, ◌≡◌, ◌≢◌, ◌<◌, ◌≤◌, zero, suc, List, [], ◌∷◌, ◌++◌, take, length, arith, refl, sym, ap, ◌∙◌, subst, Option, Some, ⊎_elim}
use Rattle.std.specs.Prelude.{slice_get, slice_index}
use Rattle.std.proofs.lemmas.Bool.{cases_eq, false≢true}
use Rattle.std.proofs.lemmas.Option.{same_Some, slice_get_within}
use Rattle.plain_heap.specs.Paths.{Name}
use Rattle.mark_core.specs.Layout.{words_of}
use Rattle.mark_core.specs.Steps.{Core, after_event, run_of}
use Rattle.mark_core.specs.declared.kinds.Event.{Event}
use Rattle.mark_core.specs.declared.kinds.Step.{Step}
use Rattle.mark_core.specs.declared.kinds.Step.TheVariants.{Join, Split}
use Rattle.mark_core.specs.declared.seat.SeatState.{SeatState}
use Rattle.mark_core.proofs.Known.{seats_left}
use Rattle.mark_core.proofs.Blocks.BlocksStopped.{Taken, kept-after}
use Rattle.gc_table.specs.Agreement.{AgreesWith}
use Rattle.gc_table.specs.AgreementLaws.{HasReference, world_of}
use Rattle.gc_table.specs.Past.{adds, entries_of, log_from, word_told}
use Rattle.gc_table.specs.RunWorlds.{World, world_by}
use Rattle.gc_table.specs.declared.view.Entry.{Entry}
use Rattle.gc_table.proofs.Counted.{other_adds, own_adds}
use Rattle.gc_table.proofs.Lending.{agree-on}
use Rattle.gc_table.proofs.Reading.{none-some}
use Rattle.heap_laws.specs.Named.{IsRunOn}
use Rattle.heap_laws.proofs.Moments.{Next, next-at}
use Rattle.heap_laws.proofs.SplitLogs.{split_log}
use Rattle.queue_laws.specs.Orders.{Was}
use Rattle.queue_laws.specs.Queues.{heap_at}
use Rattle.queue_laws.specs.Reads.{Reading, reading_after, readings, starting}
use Rattle.queue_laws.proofs.ReadSteps.{Knows, other_next, own_next}

pub readings_join : (v u f : ℕ) (known : Reading) (xs ys : List Entry) → readings v u f known (xs ++ ys) ≡ readings v u f (readings v u f known xs) ys
readings_join v u f known [] ys = refl
readings_join v u f known (x ∷ xs) ys = readings_join v u f (reading_after v u f known x.step x.found) xs ys

-- the entries of one step tell the same
entry_reads : (v u f : ℕ) (c : Core) (s : SeatState) (step : Step) (known : Reading) → readings v u f known (entries_of c (Some s) step) ≡ reading_after v u f known step (word_told c s step)
entry_reads v u f c s Split known = refl
entry_reads v u f c s (Join other) known = refl
entry_reads v u f c s step known = refl

module _ (c : Core) (world : World) (es : List Event) (run : IsRunOn c world es) (i v u f : ℕ) (s : SeatState) (at : slice_get c.seats i ≡ Some s) (hv : v < 32) (hu : u < 32) (d : v ≢ u) where
  abbrev core : ℕ → Core
  core k = run_of (take k es) c

  abbrev heap : ℕ → World
  heap k = heap_at c world es k

  abbrev Before : ℕ → Name → Name → Type 0
  Before k from to = Was c world es k from f to

  abbrev log : ℕ → List Entry
  log k = log_from i c (take k es)

  abbrev known : ℕ → Reading
  known k = readings v u f (starting s v) (log k)

  abbrev Known : ℕ → List SeatState → World → Reading → Type 0
  Known k = Knows i v u f hv hu d (Before k)

  -- what was so before the first k events, was so before one more
  later : (k : ℕ) (from to : Name) → Before k from to → Before (suc k) from to
  later k from to w = let low = w.1 in (w.0, omega (arith, low), w.2)

  longer : (k : ℕ) (seats : List SeatState) (w : World) (r : Reading) → Known k seats w r → Known (suc k) seats w r
  longer k seats w r o =
      record {
        there = o.there;
        word = o.word;
        got = o.got;
        loaded = λ x e. let p = o.loaded x e in (p.0, p.1, p.2, p.3, later k p.0 p.1 p.4);
        held = λ e. let p = o.held e in (p.0, p.1, p.2, p.3, later k p.0 p.1 p.4);
      }

  module _ (k : ℕ) (n : Next es c world k) (o : Known k (core k).seats (heap k) (known k)) where
    abbrev e : Event
    e = n.event

    agrees : AgreesWith (core k) (heap k)
    agrees = agree-on es c world run.sound run.allowed run.agrees k

    new : (from to : Name) → HasReference (heap k) from f (Some to) → Before (suc k) from to
    new from to r = (k, omega arith, r)

    -- what the event adds to the log
    by_seat : (t : SeatState) → Taken (core k) e.seat t e.step → Known (suc k) (seats_left (core k) e.seat t e.step) (world_by (core k).shape (words_of (core k).shape (core k).words) t e.step (heap k)) (readings v u f (known k) (adds i (core k) e))
    by_seat t taken =
        let now : Known (suc k) (core k).seats (heap k) (known k) = longer k (core k).seats (heap k) (known k) o in
        ⊎_elim
        (λ (same : i ≡ e.seat).
        let mine : Taken (core k) i t e.step = subst (λ (j : ℕ). Taken (core k) j t e.step) (sym same) taken in
        let entries : adds i (core k) e ≡ entries_of (core k) (Some t) e.step = ap (λ (j : ℕ). adds j (core k) e) same ∙ own_adds (core k) e t taken.got in
        let told : reading_after v u f (known k) e.step (word_told (core k) t e.step) ≡ readings v u f (known k) (adds i (core k) e) =
        sym (ap (readings v u f (known k)) entries ∙ entry_reads v u f (core k) t e.step (known k)) in
        let after : World = world_by (core k).shape (words_of (core k).shape (core k).words) t e.step (heap k) in
        subst (λ (j : ℕ). Known (suc k) (seats_left (core k) j t e.step) after (readings v u f (known k) (adds i (core k) e))) same
        (subst (λ (r : Reading). Known (suc k) (seats_left (core k) i t e.step) after r) told (own_next i v u f hv hu d (Before (suc k)) (core k) t e.step (heap k) (known k) mine agrees now new)))
        (λ (differ : i ≢ e.seat).
        subst (λ (l : List Entry). Known (suc k) (seats_left (core k) e.seat t e.step) (world_by (core k).shape (words_of (core k).shape (core k).words) t e.step (heap k)) (readings v u f (known k) l)) (sym (other_adds i (core k) e differ))
        (other_next i v u f hv hu d (Before (suc k)) (core k) e.seat t e.step (heap k) (known k) taken differ now))
        (cases_eq i e.seat)

    next_known : Known (suc k) (core (suc k)).seats (heap (suc k)) (known (suc k))
    next_known =
        let after : Known (suc k) (after_event (core k) e).seats (heap (suc k)) (readings v u f (known k) (adds i (core k) e)) =
        kept-after (λ sh w seats. Known (suc k) seats (heap (suc k)) (readings v u f (known k) (adds i (core k) e))) (core k) e (run.sound k) n.allowed
        (λ t acted taken.
        subst (λ (w : World). Known (suc k) (seats_left (core k) e.seat t e.step) w (readings v u f (known k) (adds i (core k) e)))
        (sym (n.heap ∙ ap (λ (z : Option SeatState). world_of (core k) z e.step (heap k)) acted.seat)) (by_seat t taken)) in
        subst (λ (x : Core). Known (suc k) x.seats (heap (suc k)) (known (suc k))) (sym n.core)
        (subst (λ (r : Reading). Known (suc k) (after_event (core k) e).seats (heap (suc k)) r)
        (sym (ap (readings v u f (starting s v)) (split_log i es c run.allowed k e n.there).more ∙ readings_join v u f (starting s v) (log k) (adds i (core k) e))) after)

  pub status : (k : ℕ) → k ≤ length es → Known k (core k).seats (heap k) (known k)
  status zero l =
      record {
        there = slice_get_within c.seats i s at;
        word = λ t here live. ap (λ (x : SeatState). slice_index x.env v) (same_Some t s (sym here ∙ at));
        got = λ x e t here live. absurd (none-some x e);
        loaded = λ x e. absurd (none-some x e);
        held = λ e. absurd (false≢true e);
      }
  status (suc k) l = next_known k (next-at es c world run.allowed k (omega (arith, l))) (status k (omega (arith, l)))
