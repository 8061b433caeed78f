-- The events of a run with a queue, and what is remembered of what was found in fields before.
use Rattle.std.proofs.Common.{ℕ, ◌≡◌, ◌<◌, ◌≤◌, zero, suc, List, [], ◌∷◌, ◌++◌, append_assoc, take, length, sym, ap, ◌∙◌, true, Option, Some}
use Rattle.std.specs.Prelude.{slice_get}
use Rattle.std.proofs.lemmas.List.{append-nil}
use Rattle.std.proofs.lemmas.Option.{same_Some}
use Rattle.plain_heap.specs.Paths.{Name}
use Rattle.mark_core.specs.Steps.{Core, after_event, run_of}
use Rattle.mark_core.specs.declared.kinds.Event.{Event}
use Rattle.mark_core.specs.declared.kinds.Step.{Step}
use Rattle.mark_core.specs.declared.seat.SeatState.{SeatState}
use Rattle.mark_core.proofs.Known.{Acted, acts}
use Rattle.mark_core.proofs.Blocks.BlocksStopped.{Taken}
use Rattle.gc_table.specs.Agreement.{AgreesWith}
use Rattle.gc_table.specs.AgreementLaws.{world_after, world_run}
use Rattle.gc_table.specs.RunWorlds.{World, own_section}
use Rattle.gc_table.specs.Runs.{AreAllowed}
use Rattle.gc_table.proofs.History.Past.{run-first}
use Rattle.gc_table.proofs.Lending.{agree-on, world-first}
use Rattle.gc_table.proofs.Reading.{none-some}
use Rattle.heap_laws.proofs.Moments.{Next, next-at}
use Rattle.queue_laws.specs.Orders.{Begins, KeepsAt, KeepsQueue, Was}
use Rattle.queue_laws.specs.Queues.{Item, Queue, behind, gathered, heap_at, is_in, puts, takes}
use Rattle.queue_laws.proofs.Holds.{line}

-- what the next event gives
pub gathered_next : (f : World → ℕ → Option SeatState → Step → List Item) (es : List Event) (c : Core) (world : World) → AreAllowed c es → (k : ℕ) (e : Event) → slice_get es k ≡ Some e
    → gathered f (take (suc k) es) c world ≡ gathered f (take k es) c world ++ f (world_run (take k es) c world) e.seat (slice_get (run_of (take k es) c).seats e.seat) e.step
gathered_next f [] c world ok zero e at = absurd (none-some e at)
gathered_next f [] c world ok (suc k) e at = absurd (none-some e at)
gathered_next f (x ∷ es) c world ok zero e at = append-nil (f world x.seat (slice_get c.seats x.seat) x.step) ∙ ap (λ (y : Event). f world y.seat (slice_get c.seats y.seat) y.step) (same_Some x e at)
gathered_next f (x ∷ es) c world ok (suc k) e at =
    let d : Core = after_event c x in
    let after : World = world_after c x world in
    let first : List Item = f world x.seat (slice_get c.seats x.seat) x.step in
    let front : List Item = gathered f (take k es) d after in
    let now : run_of (x ∷ take k es) c ≡ run_of (take k es) d = run-first c x (take k es) ok.0 in
    let heap : world_run (x ∷ take k es) c world ≡ world_run (take k es) d after = world-first c x (take k es) world ok.0 in
    ap (λ (l : List Item). first ++ l) (gathered_next f es d after ok.1 k e at)
    ∙ (sym (append_assoc first front (f (world_run (take k es) d after) e.seat (slice_get (run_of (take k es) d).seats e.seat) e.step))
    ∙ (ap (λ (y : Core). (first ++ front) ++ f (world_run (take k es) d after) e.seat (slice_get y.seats e.seat) e.step) (sym now)
    ∙ ap (λ (w : World). (first ++ front) ++ f w e.seat (slice_get (run_of (x ∷ take k es) c).seats e.seat) e.step) (sym heap)))

module _ (q : Queue) (c : Core) (world : World) (es : List Event) (h : Begins q c world es) where
  abbrev heap : ℕ → World
  heap k = heap_at c world es k

  abbrev core : ℕ → Core
  core k = run_of (take k es) c

  abbrev put : ℕ → List Item
  put k = puts q c world es k

  abbrev taken : ℕ → List Item
  taken k = takes q c world es k

  -- what was found in fields before is still known
  pub record Memory (k : ℕ) : Type 0 where
    pub nexts : (a b : Name) → q.is_node a ≡ true → Was c world es k a 0 b → behind (line q (put k)) a ≡ Some b
    pub lasts : (b : Name) → Was c world es k q.object 1 b → is_in (line q (put k)) b ≡ true
    pub firsts : (a : Name) → Was c world es k q.object 0 a → (p : ℕ) × (p ≤ length (taken k)) × (slice_get (line q (put k)) p ≡ Some a)

  -- the event after the first k
  pub record Here (k : ℕ) : Type 0 where
    pub event : Event
    pub there : slice_get es k ≡ Some event
    pub seat : SeatState
    pub act : Taken (core k) event.seat seat event.step
    pub agrees : AgreesWith (core k) (heap k)
    pub after : heap (suc k) ≡ world_after (core k) event (heap k)
    pub keeps : KeepsQueue q c world es k (own_section seat) event.step

  pub here : (k : ℕ) → k < length es → KeepsAt q c world es k → Here k
  here k l keeps =
      let n : Next es c world k = next-at es c world h.run.allowed k l in
      let r : (s : SeatState) × Acted (core k) n.event s = acts (core k) n.event (h.run.sound k) n.allowed in
      record {
        event = n.event;
        there = n.there;
        seat = r.0;
        act = record { core = h.run.sound k; got = r.1.seat; live = r.1.live; ok = r.1.ok };
        agrees = agree-on es c world h.run.sound h.run.allowed h.run.agrees k;
        after = n.heap;
        keeps = keeps n.event r.0 n.there r.1.seat;
      }
