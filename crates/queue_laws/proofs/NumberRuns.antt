-- A variable's node has the value that the log of its seat tells, after each number of events.
use Rattle.std.proofs.Common.{ℕ, ◌≡◌, ◌≢◌, ◌<◌, ◌≤◌, zero, suc, List, [], ◌∷◌, ◌++◌, take, length, arith, refl, sym, ap, ◌∙◌, subst, true, false, Option, Some, ⊎_elim}
use Rattle.std.specs.Prelude.{slice_get, slice_index}
use Rattle.std.proofs.lemmas.Bool.{cases_eq}
use Rattle.std.proofs.lemmas.Option.{slice_get_within}
use Rattle.plain_heap.specs.Paths.{Name}
use Rattle.mark_core.specs.Layout.{words_of}
use Rattle.mark_core.specs.Steps.{Core, after_event, run_of}
use Rattle.mark_core.specs.Steps.MutatorSteps.{seat_variable}
use Rattle.mark_core.specs.declared.kinds.Event.{Event}
use Rattle.mark_core.specs.declared.kinds.Shape.{Shape}
use Rattle.mark_core.specs.declared.seat.SeatState.{SeatState}
use Rattle.mark_core.proofs.Known.{seats_left}
use Rattle.mark_core.proofs.Blocks.BlocksStopped.{Taken, kept-after}
use Rattle.gc_table.specs.Agreement.{AgreesWith}
use Rattle.gc_table.specs.AgreementLaws.{HasValue, found_of, world_of}
use Rattle.gc_table.specs.Past.{adds, entries_of, log_from}
use Rattle.gc_table.specs.RunWorlds.{World, variable_of, world_by}
use Rattle.gc_table.specs.declared.view.Entry.{Entry}
use Rattle.gc_table.proofs.Counted.{other_adds, own_adds}
use Rattle.gc_table.proofs.Lending.{agree-on}
use Rattle.gc_table.proofs.Reading.{none-some}
use Rattle.heap_laws.specs.Named.{IsRunOn}
use Rattle.heap_laws.specs.Variables.{FindsOf}
use Rattle.heap_laws.proofs.Moments.{Next, next-at}
use Rattle.heap_laws.proofs.SplitLogs.{split_log}
use Rattle.heap_laws.proofs.Variables.{variables_read}
use Rattle.queue_laws.specs.NumberLogs.{Numbering, numbering_after, numberings, unnumbered}
use Rattle.queue_laws.specs.Queues.{Queue, heap_at}
use Rattle.queue_laws.specs.Reads.{starting}
use Rattle.queue_laws.proofs.KindLogs.{known-at}
use Rattle.queue_laws.proofs.MakeLogs.{shape_on}
use Rattle.queue_laws.proofs.NumberLogs.{word_is}
use Rattle.queue_laws.proofs.NumberSteps.{Knows, other_next, own_next}

pub numberings_join : (fields o : ℕ) (known : Numbering) (xs ys : List Entry) → numberings fields o known (xs ++ ys) ≡ numberings fields o (numberings fields o known xs) ys
numberings_join fields o known [] ys = refl
numberings_join fields o known (x ∷ xs) ys = numberings_join fields o (numbering_after fields o known x.step x.found) xs ys

-- nodes keep their values from each event to the next
abbrev pub KeepsValues : Queue → Core → World → List Event → Type 0
KeepsValues q c world es = (k : ℕ) → k < length es → (name : Name) (n : ℕ) → q.is_node name ≡ true → HasValue (heap_at c world es k) name n → HasValue (heap_at c world es (suc k)) name n

module _ (q : Queue) (c : Core) (world : World) (es : List Event) (run : IsRunOn c world es) (keeps : KeepsValues q c world es) (i o : ℕ) (s : SeatState) (at : slice_get c.seats i ≡ Some s) (ho : o < 32) where
  abbrev core : ℕ → Core
  core k = run_of (take k es) c

  abbrev heap : ℕ → World
  heap k = heap_at c world es k

  abbrev log : ℕ → List Entry
  log k = log_from i c (take k es)

  abbrev known : ℕ → Numbering
  known k = numberings c.shape.fields o (unnumbered (seat_variable s o)) (log k)

  -- after the first k events a node has this value
  abbrev pub Valued : ℕ → Name → ℕ → Type 0
  Valued k name n = q.is_node name ≡ true → HasValue (heap k) name n

  abbrev Known : ℕ → List SeatState → World → Numbering → Type 0
  Known k = Knows i o ho (Valued k)

  other : (u : ℕ) × (u < 32) × (o ≢ u)
  other = ⊎_elim (λ (e : o ≡ 0). (1, omega arith, λ f. omega (arith, e, f))) (λ (d : o ≢ 0). (0, omega arith, d)) (cases_eq o 0)

  -- the word of the variable is told
  word_at : (k : ℕ) → k ≤ length es → (t : SeatState) → slice_get (core k).seats i ≡ Some t → t.spent ≡ false → slice_index t.env o ≡ (known k).word
  word_at k l t now live =
      known-at c world es run i o other.0 0 s at ho other.1 other.2 k l t now live
      ∙ sym (word_is c.shape.fields o other.0 0 (unnumbered (seat_variable s o)) (starting s o) (log k) refl)

  module _ (k : ℕ) (l : k < length es) (n : Next es c world k) (a : Known k (core k).seats (heap k) (known k)) where
    abbrev e : Event
    e = n.event

    agrees : AgreesWith (core k) (heap k)
    agrees = agree-on es c world run.sound run.allowed run.agrees k

    longer : Known (suc k) (core k).seats (heap k) (known k)
    longer =
        record {
          there = a.there;
          coming = a.coming;
          newest = λ x f t here live. let p = a.newest x f t here live in (p.0, p.1, p.2, λ m g node. keeps k l _ m node (p.3 m g node));
          number = λ m f. let p = a.number m f in (p.0, p.1, λ node. keeps k l p.0 m node (p.2 node));
        }

    Result : SeatState → Type 0
    Result t = Known (suc k) (seats_left (core k) e.seat t e.step) (world_by (core k).shape (words_of (core k).shape (core k).words) t e.step (heap k)) (numberings c.shape.fields o (known k) (adds i (core k) e))

    by_seat : (t : SeatState) → Taken (core k) e.seat t e.step → heap (suc k) ≡ world_by (core k).shape (words_of (core k).shape (core k).words) t e.step (heap k) → Result t
    unfolding Result
    by_seat t taken moved =
        ⊎_elim
        (λ (same : i ≡ e.seat).
        let mine : Taken (core k) i t e.step = subst (λ (j : ℕ). Taken (core k) j t e.step) (sym same) taken in
        let entries : adds i (core k) e ≡ entries_of (core k) (Some t) e.step = ap (λ (j : ℕ). adds j (core k) e) same ∙ own_adds (core k) e t taken.got in
        let after : World = world_by (core k).shape (words_of (core k).shape (core k).words) t e.step (heap k) in
        let finds : FindsOf (core k) (heap k) t e.step o (found_of (core k) (Some t) e.step) = variables_read (core k) (heap k) (record { core = run.sound k; agrees = agrees }) e t n.allowed taken.got o ho in
        let next =
        own_next i o ho (Valued (suc k)) (core k) t e.step (heap k) (known k) mine agrees longer (word_at k (omega (arith, l)) t mine.got mine.live) finds
        (λ name m v node. keeps k l name m node v) (λ name m v node. subst (λ (w : World). HasValue w name m) (sym moved) v) in
        subst (λ (j : ℕ). Known (suc k) (seats_left (core k) j t e.step) after (numberings c.shape.fields o (known k) (adds i (core k) e))) same
        (subst (λ (z : List Entry). Known (suc k) (seats_left (core k) i t e.step) after (numberings c.shape.fields o (known k) z)) (sym entries)
        (subst (λ (sh : Shape). Known (suc k) (seats_left (core k) i t e.step) after (numberings sh.fields o (known k) (entries_of (core k) (Some t) e.step))) (shape_on es c run.allowed k) next)))
        (λ (differ : i ≢ e.seat).
        subst (λ (z : List Entry). Known (suc k) (seats_left (core k) e.seat t e.step) (world_by (core k).shape (words_of (core k).shape (core k).words) t e.step (heap k)) (numberings c.shape.fields o (known k) z)) (sym (other_adds i (core k) e differ))
        (other_next i o ho (Valued (suc k)) (core k) e.seat t e.step (heap k) (known k) taken differ longer))
        (cases_eq i e.seat)

    next_known : Known (suc k) (core (suc k)).seats (heap (suc k)) (known (suc k))
    unfolding Result
    next_known =
        let after : Known (suc k) (after_event (core k) e).seats (heap (suc k)) (numberings c.shape.fields o (known k) (adds i (core k) e)) =
        kept-after (λ sh w seats. Known (suc k) seats (heap (suc k)) (numberings c.shape.fields o (known k) (adds i (core k) e))) (core k) e (run.sound k) n.allowed
        (λ t acted taken.
        let moved : heap (suc k) ≡ world_by (core k).shape (words_of (core k).shape (core k).words) t e.step (heap k) = n.heap ∙ ap (λ (z : Option SeatState). world_of (core k) z e.step (heap k)) acted.seat in
        subst (λ (w : World). Known (suc k) (seats_left (core k) e.seat t e.step) w (numberings c.shape.fields o (known k) (adds i (core k) e))) (sym moved) (by_seat t taken moved)) in
        subst (λ (x : Core). Known (suc k) x.seats (heap (suc k)) (known (suc k))) (sym n.core)
        (subst (λ (m : Numbering). Known (suc k) (after_event (core k) e).seats (heap (suc k)) m)
        (sym (ap (numberings c.shape.fields o (unnumbered (seat_variable s o))) (split_log i es c run.allowed k e n.there).more ∙ numberings_join c.shape.fields o (unnumbered (seat_variable s o)) (log k) (adds i (core k) e))) after)

  status : (k : ℕ) → k ≤ length es → Known k (core k).seats (heap k) (known k)
  status zero l =
      record {
        there = slice_get_within c.seats i s at;
        coming = λ n e. absurd (none-some n e);
        newest = λ x e t here live. absurd (none-some x e);
        number = λ n e. absurd (none-some n e);
      }
  status (suc k) l = next_known k (omega (arith, l)) (next-at es c world run.allowed k (omega (arith, l))) (status k (omega (arith, l)))

  -- what the log tells of the variable's node
  pub number_at : (k : ℕ) → k ≤ length es → (n : ℕ) → (known k).number ≡ Some n → (name : Name) × (variable_of (heap k) i o ≡ Some name) × Valued k name n
  number_at k l n e = (status k l).number n e
