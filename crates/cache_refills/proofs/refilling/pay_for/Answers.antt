use Rattle.std.proofs.Common.{ℕ, ◌≡◌, ◌∙◌, [], ◌∷◌, ◌++◌, ap, inl, inr, not, refl, subst, sym, true, false, Some, arith}
use Rattle.std.proofs.lemmas.Bool.{false≢true}
use Rattle.gc_table.specs.Seats.{view_of}
use Rattle.gc_table.specs.declared.view.View.{View}
use Rattle.gc_table.proofs.History.Log.{events-none, only-more, only-none}
use Rattle.gc_table.proofs.Running.{ran-join, ran-refl, ran-shape, ran-stored, ran-found}
use Rattle.alloc_cache.specs.declared.cache.Cache.{Cache}
use Rattle.gc_cycle.specs.declared.counts.Paid.{Paid}
use Rattle.gc_cycle.specs.declared.counts.Refill.TheVariants as refills
use Rattle.gc_cycle.proofs.Few.{few-after, few-join, few-steps, giving-few}
use Rattle.gc_cycle.specs.Answering.{answers}
use Rattle.gc_cycle.specs.Mutating.{stays_calm}
use Rattle.std.specs.Int.Count.{ones}
use Rattle.cache_refills.specs.Pace.Deferring.{RecyclesLast}
use Rattle.cache_refills.specs.Pace.Early.{PassesNext}
use Rattle.cache_refills.specs.Pace.Others.{SeesToNext}
use Rattle.cache_refills.specs.Pace.Payment.{HasPaid, pays_cells}
use Rattle.gc_cycle.specs.Sparing.{spares_part}
use Rattle.gc_cycle.proofs.Refills.Answered.{answers-calm, full-later}
use Rattle.gc_cycle.proofs.Refills.Collected.{calm-spares}
use Rattle.gc_cycle.proofs.Refills.KnownFull.{mutates-still}
use Rattle.cache_refills.proofs.Refills.Refilled.{gets-free, gets-paid, gives-up, looked-calm, looked-ran, read-idle}
use Rattle.gc_cycle.proofs.Refills.Retired.{owes-none}
use Rattle.mark_core.specs.declared.kinds.Step.{Step}
use Rattle.mark_core.specs.declared.kinds.Step.TheVariants.{DropStep, EnterStep, StorePosition, ReadPhase}
use Rattle.gc_table.specs.Log.{events, Only}
use Rattle.gc_table.specs.Running.{Ran}
use Rattle.gc_table.specs.Seats.{Found}
use Rattle.gc_table.proofs.History.Log.{events-after}
use Rattle.gc_table.proofs.Running.{ran-events}
use Rattle.gc_cycle.specs.Events.{never}
use Rattle.gc_cycle.specs.Sorts.{comes_in}
use Rattle.gc_cycle.proofs.Sequences.{none-of-steps}
use Rattle.cache_refills.proofs.Stops.StopEnds.{answers-in}
use Rattle.gc_cycle.proofs.Changes.{by-join, changes-after, retire-by}
use Rattle.gc_cycle.specs.Statistics.{gives_back}
use Rattle.mark_core.specs.Steps.MutatorSteps.{used_bits}
use Rattle.mark_core.specs.declared.kinds.Shape.{Shape}
use Rattle.cache_refills.specs.Pace.Pacing.{card_looks}
use Rattle.cache_refills.specs.Pace.StepBounds.{payment_steps}
use Rattle.cache_refills.proofs.Few.{payment-fewer}
use Rattle.cache_refills.proofs.refilling.pay_for.Goals as goal

pub retire-requires-clause-owes : goal.retire-requires-clause-owes
retire-requires-clause-owes c =
    let w : View = view_of c.read_phase.new.seat in
    let t = c.read_phase.ensures.view in
    owes-none w (mutates-still (view_of c.args.seat.now) w t.0 (t.1, t.2) c.requires.seat.1)

pays-in : (step : Step) (n : ℕ) → pays_cells step ≡ true → comes_in step n ≡ false
pays-in EnterStep n e = absurd (false≢true e)
pays-in DropStep n e = absurd (false≢true e)
pays-in step n e = refl

-- a look at the phase, and what was paid after it
looked-in : (v w x : View) (n : ℕ) → Found ReadPhase n v w → Ran w x → Only pays_cells w x → never comes_in (events v x) ≡ true
looked-in v w x n f r o =
    ap (never comes_in) (ran-events v w x (ran-found v w ReadPhase n refl f) r ∙ ap (λ es. es ++ events w x) (events-after v w ReadPhase n f.0)) ∙ ap not (none-of-steps pays_cells comes_in pays-in (events w x) o)

-- a cache isn't the answer that the heap is full
unlike : {h : Cache} {p : Paid} → refills.Cache h p ≡ refills.Full → ⊥
unlike e = cc

pub returns-in-Full : goal.returns-in-Full
returns-in-Full c =
    let v : View = view_of c.args.seat.now in
    let w : View = view_of c.read_phase.new.seat in
    let x : View = view_of c.retire.new.seat in
    let y : View = view_of c.store_position.new.seat in
    let t = c.read_phase.ensures.view in
    let e = c.retire.ensures in
    let g = gives-up v (view_of c.read_phase.new.seat) (view_of c.retire.new.seat) y c.args.cache c.args.done t.0 c.requires.seat.1 (t.1, t.2) (sym t.3 ∙ c.in-Full.is) e.ran e.state e.steps c.store_position.ensures.view in
    let five =
    few-join 1 4 v w y (ran-found v w ReadPhase t.0 refl (t.1, t.2)) (ran-join w x y e.ran (ran-stored x y (StorePosition c.args.done) refl c.store_position.ensures.view)) (few-after v w ReadPhase t.0 t.1)
    (few-join 3 1 w x y e.ran (ran-stored x y (StorePosition c.args.done) refl c.store_position.ensures.view)
    (few-steps 3 w x _ e.steps (giving-few (Some c.args.cache) (used_bits w.state.cache))) (few-after x y (StorePosition c.args.done) c.args.done c.store_position.ensures.view)) in
    record {
      seat = c.store_position.ensures.seat;
      ran = g.0;
      only = only-more answers stays_calm answers-calm v y g.1;
      inside = ap not (none-of-steps answers comes_in answers-in (events v y) g.1);
      numbers =
          by-join [] (gives_back c.args.cache ∷ []) v w y (changes-after v w ReadPhase t.0 refl (ran-found v w ReadPhase t.0 refl (t.1, t.2)) t.1)
          (by-join (gives_back c.args.cache ∷ []) [] w x y (retire-by c.args.cache (used_bits w.state.cache) w x e.ran e.steps)
          (changes-after x y (StorePosition c.args.done) c.args.done refl (ran-stored x y (StorePosition c.args.done) refl c.store_position.ensures.view) c.store_position.ensures.view));
      known = g.3;
      few = λ same. five;
      longest = omega (arith, five);
      refills = λ u k. full-later c.args.done u v y k.ran g.0 g.2;
    }

pub returns-in-Marking : goal.returns-in-Marking
returns-in-Marking c =
    let sh : Shape = c.args.heap.now.shape in
    let v : View = view_of c.args.seat.now in
    let w : View = view_of c.read_phase.new.seat in
    let x : View = view_of c.pay-paid.new.seat in
    let t = c.read_phase.ensures.view in
    let q = subst (λ n. HasPaid n c.pay-paid.result w x) c.free.ensures c.pay-paid.ensures.paid in
    let calm = looked-calm v w x t.0 (t.1, t.2) q.ran q.only in
    record {
      seat = c.pay-paid.ensures.seat;
      ran = looked-ran v w x t.0 (t.1, t.2) q.ran;
      only = calm;
      numbers = (refl, inr (by-join [] _ v w x (changes-after v w ReadPhase t.0 refl (ran-found v w ReadPhase t.0 refl (t.1, t.2)) t.1) q.changed));
      inside = looked-in v w x t.0 (t.1, t.2) q.ran q.only;
      known = only-more stays_calm spares_part calm-spares v x calm;
      few = λ same. absurd (unlike same);
      longest =
          few-join 1 (payment_steps 1024 card_looks sh) v w x (ran-found v w ReadPhase t.0 refl (t.1, t.2)) q.ran (few-after v w ReadPhase t.0 t.1)
          (payment-fewer c.pay-paid.result.done 1024 card_looks sh _ (let most = q.most in let short = q.short in omega (arith, most, short)) c.pay-paid.ensures.few);
      refills =
          λ u k.
          let same : sh ≡ u.shape = sym c.requires.seat.0.1 ∙ ran-shape u v k.ran in
          gets-paid c.args.cache c.args.done u v w x t.0 k (t.1, t.2) q.ran q.only c.pay-paid.result c.requires.seat.1 c.requires.cache q (sym t.3 ∙ c.in-Marking.is)
          (subst (λ (z : Shape). PassesNext z (ones c.args.cache.cells) w x) same (subst (λ n. PassesNext sh n w x) c.free.ensures c.pay-paid.ensures.passes))
          (subst (λ (z : Shape). SeesToNext z w x) same c.pay-paid.ensures.others)
          (subst (λ (z : Shape). RecyclesLast z c.pay-paid.result w x) same c.pay-paid.ensures.defers);
    }

pub returns-in_default : goal.returns-in_default
returns-in_default c =
    let v : View = view_of c.args.seat.now in
    let w : View = view_of c.read_phase.new.seat in
    let t = c.read_phase.ensures.view in
    let m = c.requires.seat.1 in
    let calm = looked-calm v w w t.0 (t.1, t.2) (ran-refl w) (only-none pays_cells w) in
    let idle = read-idle v t.0 c.read_phase.result t.2 m.active t.3 c.in_default.not-Marking c.in_default.not-Full in
    record {
      seat = c.read_phase.ensures.seat;
      ran = looked-ran v w w t.0 (t.1, t.2) (ran-refl w);
      only = calm;
      numbers = (refl, inl (changes-after v w ReadPhase t.0 refl (ran-found v w ReadPhase t.0 refl (t.1, t.2)) t.1));
      inside = looked-in v w w t.0 (t.1, t.2) (ran-refl w) (only-none pays_cells w);
      known = only-more stays_calm spares_part calm-spares v w calm;
      few = λ same. absurd (unlike same);
      longest = let one = few-after v w ReadPhase t.0 t.1 in omega (arith, one);
      refills = λ u k. gets-free c.args.cache c.args.done u v w w t.0 k (t.1, t.2) (ran-refl w) (only-none pays_cells w) c.nothing_paid.result m c.requires.cache c.nothing_paid.ensures idle (events-none w) (mutates-still v w t.0 (t.1, t.2) m) refl refl;
    }
