-- What a call of tracing and cleaning uses up of what is left to drain, by a seat that is alone.
use Rattle.std.proofs.Common.{◌≡◌, List, [], ◌∷◌, arith, sym, ◌∙◌}
use Rattle.mark_core.specs.declared.kinds.Phase.TheVariants.{Drain}
use Rattle.mark_core.proofs.Known.{unheld-unknown}
use Rattle.mark_core.proofs.Pool.PoolSlots.{none-held}
use Rattle.gc_table.specs.Log.{Only, events}
use Rattle.gc_table.specs.Running.{Ran}
use Rattle.gc_table.specs.declared.view.Entry.{Entry}
use Rattle.gc_table.specs.declared.view.View.{View}
use Rattle.packet_pools.specs.Counts.{count_of, dirties, marks_white, pushes}
use Rattle.gc_cycle.specs.Finishing.{IsAloneIn}
use Rattle.gc_cycle.specs.LeftToDrain.{UsesUp, cards_left, cells_left, cleans_dirty, queue_left}
use Rattle.gc_cycle.specs.Lower.{traces_or_cleans}
use Rattle.gc_cycle.specs.Sorts.{pops}
use Rattle.gc_cycle.proofs.Ends.Empties.{Heads, none-some, queue-pays}
use Rattle.gc_cycle.proofs.Ends.Funds.{run-pays}
use Rattle.gc_cycle.proofs.Ends.Whitens.{IsLone, cards-pay, cells-pay, never_one}
use Rattle.gc_cycle.proofs.Idling.{rest-parts}
use Rattle.gc_cycle.proofs.Traced.{nothing-rest}

none-counted : (es : List Entry) → count_of never_one es ≡ 0
none-counted [] = omega arith
none-counted (e ∷ es) = let rest = none-counted es in omega (arith, rest)

pub uses-up : (v w : View) → Ran v w → Only traces_or_cleans v w → IsAloneIn Drain v → UsesUp v w
uses-up v w r o a =
    let lone : IsLone v = a.rest.alone in
    let empty = (rest-parts v.shape v.state (nothing-rest v.shape v.state a.rest.rest)).packets in
    let heads : Heads v = λ p n k s. absurd (none-some n (sym (unheld-unknown v.state.held p (none-held v.state.held p empty)) ∙ k)) in
    let cells = (run-pays cells_left marks_white never_one IsLone cells-pay v w r o lone).1 in
    record {
      cells = omega (arith, cells, none-counted (events v w));
      queue = (run-pays queue_left pops pushes (λ x. IsLone x × Heads x) queue-pays v w r o (lone, heads)).1;
      cards = (run-pays cards_left cleans_dirty dirties IsLone cards-pay v w r o lone).1;
    }
