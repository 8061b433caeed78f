-- Nodes keep their values.
use Rattle.std.proofs.Common.{ℕ, ◌≡◌, List, take, refl, sym, ap, ◌∙◌, Bool, true, false, Option, Some}
use Rattle.std.proofs.lemmas.Bool.{true≢false}
use Rattle.plain_heap.specs.Paths.{Name}
use Rattle.mark_core.specs.Steps.{Core, run_of}
use Rattle.mark_core.specs.declared.kinds.Event.{Event}
use Rattle.mark_core.specs.declared.kinds.Step.{Step}
use Rattle.mark_core.specs.declared.kinds.Step.TheVariants.{ExchangeValue, StoreValue}
use Rattle.mark_core.specs.declared.seat.SeatState.{SeatState}
use Rattle.gc_table.specs.AgreementLaws.{world_of}
use Rattle.gc_table.specs.RunWorlds.{World, is_same, object_of, own_section, variable_of}
use Rattle.gc_table.proofs.Forgetting.{same-is}
use Rattle.heap_laws.specs.Named.{acts_on}
use Rattle.heap_laws.proofs.Values.{value-next, value_by}
use Rattle.queue_laws.specs.Orders.{KeepsQueue}
use Rattle.queue_laws.specs.QueueLogs.{FitsQueue, Hands}
use Rattle.queue_laws.specs.Queues.{Queue, heap_at}
use Rattle.queue_laws.proofs.FitSteps.{At, at}
use Rattle.queue_laws.proofs.LogQueues.{queue_by_log}
use Rattle.queue_laws.proofs.NumberRuns.{KeepsValues}

abbrev stores_value : Step → Bool
stores_value (StoreValue v n) = true
stores_value (ExchangeValue v m n) = true
stores_value step = false

same_value : (b : Bool) (step : Step) (n : ℕ) → stores_value step ≡ false → value_by b step n ≡ n
same_value false step n e = refl
same_value true (StoreValue v m) n e = absurd (true≢false e)
same_value true (ExchangeValue v m l) n e = absurd (true≢false e)
same_value true step n e = refl

module _ (q : Queue) (c : Core) (world : World) (es : List Event) (h : Hands) (p : FitsQueue q c world es h) where
  module _ (k : ℕ) (x : At q c world es h p k) (name : Name) (node : q.is_node name ≡ true) (n : ℕ) where
    -- a step through this variable, of an object that is no node
    spared : (v : ℕ) (step : Step) → ((to : Name) → variable_of (heap_at c world es k) (own_section x.seat) v ≡ Some to → q.is_node to ≡ false) → (b : Bool) → is_same (variable_of (heap_at c world es k) (own_section x.seat) v) (Some name) ≡ b → value_by b step n ≡ n
    spared v step none true e = absurd (true≢false (sym node ∙ none name (same-is (variable_of (heap_at c world es k) (own_section x.seat) v) (Some name) e)))
    spared v step none false e = refl

    kept_by : (a : Step) → KeepsQueue q c world es k (own_section x.seat) a → value_by (acts_on (heap_at c world es k) (Some x.seat) a name) a n ≡ n
    kept_by (StoreValue v m) keeps = spared v (StoreValue v m) keeps (is_same (variable_of (heap_at c world es k) (own_section x.seat) v) (Some name)) refl
    kept_by (ExchangeValue v m l) keeps = spared v (ExchangeValue v m l) keeps (is_same (variable_of (heap_at c world es k) (own_section x.seat) v) (Some name)) refl
    kept_by a keeps = same_value (acts_on (heap_at c world es k) (Some x.seat) a name) a n refl

  pub values_kept : KeepsValues q c world es
  values_kept k l name n node v =
      let x : At q c world es h p k = at q c world es h p k l in
      let r = value-next (run_of (take k es) c) x.event x.seat (heap_at c world es k) name v.0 x.act.got v.1 in
      let keeps = (queue_by_log q c world es h p).keeps k x.event x.seat x.there x.act.got in (
        r.0,
        ap (λ (z : World). object_of z name) (x.after ∙ sym (ap (λ (o : Option SeatState). world_of (run_of (take k es) c) o x.event.step (heap_at c world es k)) x.act.got)) ∙ r.1,
        r.2 ∙ (kept_by k x name node v.0.value x.event.step keeps ∙ v.2),
      )
