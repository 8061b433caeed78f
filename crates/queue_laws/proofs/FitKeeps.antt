-- A queue whose threads' logs fit is changed only as its calls do, whatever the step.
use Rattle.std.proofs.Common.{ℕ, ◌≡◌, List, take, sym, ap, subst, true}
use Rattle.std.proofs.lemmas.Bool.{and_parts}
use Rattle.mark_core.specs.Seats.{may_mutate}
use Rattle.mark_core.specs.Steps.{Core, run_of}
use Rattle.mark_core.specs.declared.kinds.Event.{Event}
use Rattle.mark_core.specs.declared.kinds.Step.{Step}
use Rattle.mark_core.specs.declared.kinds.Step.TheVariants.{ExchangeField, ExchangeValue, StoreField, StoreValue}
use Rattle.mark_core.proofs.Blocks.BlocksStopped.{Taken}
use Rattle.gc_table.specs.Entries.{is_logged}
use Rattle.gc_table.specs.Past.{log_from}
use Rattle.gc_table.specs.RunWorlds.{World, own_section}
use Rattle.gc_table.specs.declared.view.Entry.{Entry}
use Rattle.gc_table.proofs.Frame.{mutates}
use Rattle.heap_laws.specs.Named.{through}
use Rattle.queue_laws.specs.Orders.{KeepsQueue}
use Rattle.queue_laws.specs.QueueLogs.{FitsQueue, Hands, fits, is_callers}
use Rattle.queue_laws.specs.Queues.{Queue, heap_at}
use Rattle.queue_laws.proofs.FitSteps.{At, fit}
use Rattle.queue_laws.proofs.Statuses.{Status}
use Rattle.queue_laws.proofs.Fits as queue

module _ (q : Queue) (c : Core) (world : World) (es : List Event) (h : Hands) (p : FitsQueue q c world es h) where
  abbrev core : ℕ → Core
  core k = run_of (take k es) c

  abbrev heap : ℕ → World
  heap k = heap_at c world es k

  abbrev log : ℕ → ℕ → List Entry
  log i k = log_from i c (take k es)

  module _ (k : ℕ) (x : At q c world es h p k) (t : Status q c world es p.begins k) where
    abbrev i : ℕ
    i = x.event.seat

    -- the step keeps the queue, whatever it is
    keeps_step : (a : Step) → x.event.step ≡ a → KeepsQueue q c world es k i a
    keeps_step (StoreField v f y) is = queue.beside q c world es h p k x t (ap is_logged is) v f y is
    keeps_step (StoreValue v m) is = queue.valued q c world es h p k x t (ap is_logged is) v (ap through is) (ap is_callers is) (subst (λ (s : Step). fits c.shape.fields x.first h (log i k) s ≡ true) is (fit q c world es h p k x (ap is_logged is)))
    keeps_step (ExchangeValue v m l) is = queue.valued q c world es h p k x t (ap is_logged is) v (ap through is) (ap is_callers is) (subst (λ (s : Step). fits c.shape.fields x.first h (log i k) s ≡ true) is (fit q c world es h p k x (ap is_logged is)))
    keeps_step (ExchangeField v f y z) is = λ name to won. queue.exchanging q c world es h p k x t (ap is_logged is) v f y z is name to
    keeps_step a is = tt

    act : (a : Step) → x.event.step ≡ a → Taken (core k) x.event.seat x.seat a
    act a is = subst (λ (s : Step). Taken (core k) x.event.seat x.seat s) is x.act

    -- the section of who changes an object is its seat's
    pub own_of : (a : Step) → x.event.step ≡ a → KeepsQueue q c world es k (own_section x.seat) a
    own_of (StoreField v f y) is = subst (λ (n : ℕ). KeepsQueue q c world es k n (StoreField v f y)) (sym (mutates (core k) i x.seat (StoreField v f y) (act (StoreField v f y) is) (and_parts _ (may_mutate x.seat) (act (StoreField v f y) is).ok.0).1).own) (keeps_step (StoreField v f y) is)
    own_of (StoreValue v m) is = subst (λ (n : ℕ). KeepsQueue q c world es k n (StoreValue v m)) (sym (mutates (core k) i x.seat (StoreValue v m) (act (StoreValue v m) is) (and_parts _ (may_mutate x.seat) (act (StoreValue v m) is).ok.0).1).own) (keeps_step (StoreValue v m) is)
    own_of (ExchangeValue v m l) is = subst (λ (n : ℕ). KeepsQueue q c world es k n (ExchangeValue v m l)) (sym (mutates (core k) i x.seat (ExchangeValue v m l) (act (ExchangeValue v m l) is) (and_parts _ (may_mutate x.seat) (act (ExchangeValue v m l) is).ok.0).1).own) (keeps_step (ExchangeValue v m l) is)
    own_of (ExchangeField v f y z) is = subst (λ (n : ℕ). KeepsQueue q c world es k n (ExchangeField v f y z)) (sym (mutates (core k) i x.seat (ExchangeField v f y z) (act (ExchangeField v f y z) is) (and_parts _ (may_mutate x.seat) (act (ExchangeField v f y z) is).ok.0).1).own) (keeps_step (ExchangeField v f y z) is)
    own_of a is = tt
