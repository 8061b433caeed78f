use Rattle.std.proofs.Common.{ℕ, arith, refl, subst, sym}
use Rattle.std.proofs.lemmas.Bool.{OnFalse_at, OnFalse_from, OnTrue_at, OnTrue_from}
use Rattle.seat_turns.specs.declared.background.Tracer.{Tracer}
use Rattle.managed_heap.specs.Gathering.{AreAll}
use Rattle.managed_heap.proofs.gathered_close.are_there.Goals as goal

pub returns-then-are_all-clause-there : goal.returns-then-are_all-clause-there
returns-then-are_all-clause-there g c =
    let sections = c.sections-sections.ensures.sections in
    let count = c.tracer_count.ensures.count in
    let mutators = c.if-are_all.ensures.all in
    OnTrue_from c.are_all-then-are_all.result _
    (λ is. record {
      sections = omega (arith, sections, mutators.0, c.if-sections-eq0.false);
      mutators_are = (refl, mutators.1);
      tracers_are = subst (λ (q : ℕ × ℕ). AreAll (λ (t : Tracer). t.seat) q.0 q.1 c.args.tracers.now) (λ i. (sections i, count i)) (OnTrue_at is c.are_all-then-are_all.ensures.all);
    })

pub returns-then-are_all-clause-missing : goal.returns-then-are_all-clause-missing
returns-then-are_all-clause-missing g c =
    let sections = c.sections-sections.ensures.sections in
    let count = c.tracer_count.ensures.count in
    OnFalse_from c.are_all-then-are_all.result _
    (λ is there. OnFalse_at is c.are_all-then-are_all.ensures.missing (subst (λ (q : ℕ × ℕ). AreAll (λ (t : Tracer). t.seat) q.0 q.1 c.args.tracers.now) (λ i. (sym sections i, sym count i)) there.tracers_are))
