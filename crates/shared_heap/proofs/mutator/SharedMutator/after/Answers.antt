use Rattle.std.proofs.Common.{◌≡◌, ◌<◌, ◌∙◌, ap, rules, subst, sym}
use Rattle.std.specs.Arc.{arc_value}
use Rattle.gc_table.specs.Seats.{Sits, view_of}
use Rattle.gc_table.specs.declared.seat.Heap.{Heap}
use Rattle.gc_table.specs.declared.seat.HeapSeat.{HeapSeat}
use Rattle.gc_cycle.specs.Standing.{IsOut, Mutates}
use Rattle.mark_core.specs.Seats.{has_turn}
use Rattle.gc_table.specs.declared.view.View.{View}
use Rattle.alloc_cache.specs.Caching.{is_whole}
use Rattle.mutator_ops.specs.Flushing.{word_of_variables}
use Rattle.seat_turns.specs.Standing.{HoldsTurn, IsMutator, IsMutatorOutside, saw_going, settled}
use Rattle.shared_heap.proofs.mutator.SharedMutator.after.Goals as goal

-- a seat that knows what it knew stands where it stood
module _ (h : Heap) (s t : HeapSeat) (sits : Sits h t) (same : view_of t ≡ view_of s) where
  rests : IsMutatorOutside h s → IsMutatorOutside h t
  rests o = record { sits = sits; out = subst IsOut (sym same) o.out; mutator = subst IsMutator (sym same) o.mutator }

  stands : HoldsTurn h s → HoldsTurn h t
  stands k =
      record {
        holds =
            record {
              sits = sits;
              mutates = subst (λ (v : View). Mutates (settled v)) (sym same) k.holds.mutates;
              mutator = subst IsMutator (sym same) k.holds.mutator;
              turn = ap (λ (v : View). has_turn v.state.section v.state.season_seen) same ∙ k.holds.turn;
              cache = ap (λ (v : View). is_whole v.state.cache) same ∙ k.holds.cache;
              few = subst (λ (v : View). v.state.lags < word_of_variables) (sym same) k.holds.few;
              own = λ alone. ap (λ (v : View). v.state.lags) same ∙ k.holds.own alone;
            };
        phase = ap (λ (v : View). saw_going v.state.phase_seen) same ∙ k.phase;
      }

pub invariant_of-self : goal.invariant_of-self
invariant_of-self c =
    let m = c.args.self.now in
    let e = c.learn.ensures in
    let h : Heap = arc_value m.heap in
    let here : c.deref-2.result.now ≡ h = search rules in
    let sits : Sits h c.learn.new.seat = subst (λ (x : Heap). Sits x c.learn.new.seat) here e.seat in
    record { shared = m.shared; outside = λ out. rests h m.seat c.learn.new.seat sits e.sees.view (m.outside out); inside = λ in_it. stands h m.seat c.learn.new.seat sits e.sees.view (m.inside in_it) }
