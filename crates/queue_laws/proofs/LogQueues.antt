-- A queue whose threads' logs fit is first in, first out.
use Rattle.std.proofs.Common.{ℕ, ◌≡◌, ◌∙◌, ◌≤◌, zero, suc, List, take, length, arith, refl, sym, subst, Some}
use Rattle.std.specs.Prelude.{slice_get}
use Rattle.std.proofs.lemmas.Option.{same_Some, slice_get_within}
use Rattle.mark_core.specs.Steps.{Core, run_of}
use Rattle.mark_core.specs.declared.kinds.Event.{Event}
use Rattle.mark_core.specs.declared.seat.SeatState.{SeatState}
use Rattle.gc_table.specs.RunWorlds.{World, own_section}
use Rattle.queue_laws.specs.Orders.{KeepsAt, KeepsQueue}
use Rattle.queue_laws.specs.QueueLogs.{FitsQueue, Hands, QueueByLog}
use Rattle.queue_laws.specs.Queues.{Queue}
use Rattle.queue_laws.proofs.FitSteps.{At, at}
use Rattle.queue_laws.proofs.FitKeeps.{own_of}
use Rattle.queue_laws.proofs.Statuses.{Status, begin, goes_on}

module _ (q : Queue) (c : Core) (world : World) (es : List Event) (h : Hands) (p : FitsQueue q c world es h) where
  keeps_at : (k : ℕ) → Status q c world es p.begins k → KeepsAt q c world es k
  keeps_at k t e s there got =
      let x : At q c world es h p k = at q c world es h p k (slice_get_within es k e there) in
      let same : x.event ≡ e = same_Some x.event e (sym x.there ∙ there) in
      let record_is : x.seat ≡ s = same_Some x.seat s (sym x.act.got ∙ subst (λ (z : Event). slice_get (run_of (take k es) c).seats z.seat ≡ Some s) (sym same) got) in
      subst (λ (z : SeatState). KeepsQueue q c world es k (own_section z) e.step) record_is
      (subst (λ (z : Event). KeepsQueue q c world es k (own_section x.seat) z.step) same (own_of q c world es h p k x t x.event.step refl))

  pub status : (k : ℕ) → k ≤ length es → Status q c world es p.begins k
  status zero l = begin q c world es p.begins
  status (suc k) l =
      let before = status k (omega (arith, l)) in
      goes_on q c world es p.begins k (omega (arith, l)) (keeps_at k before) before

pub queue_by_log : QueueByLog
queue_by_log q c world es h p =
    record {
      begins = p.begins;
      keeps = λ k e s there got. keeps_at q c world es h p k (status q c world es h p k (let l = slice_get_within es k e there in omega (arith, l))) e s there got;
    }
