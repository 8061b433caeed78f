use Rattle.std.proofs.Common.{ap, arith, get_or, subst, sym, take}
use Rattle.std.proofs.lemmas.Bool.{OnFalse_at, OnTrue_at}
use Rattle.std.proofs.lemmas.Option.{slice_get-get_or}
use Rattle.seat_turns.specs.declared.weak.Weak.{Weak}
use Rattle.managed_heap_c.specs.Deaths.{GoesThrough}
use Rattle.managed_heap_c.proofs.Died.{asks-more, asks-none, stopped}
use Rattle.managed_heap_c.proofs.deaths.go_through.Goals as goal

-- what an entry beyond the table would be
abbrev no_weak : Weak
no_weak = record { world = 0; place = 0; section = 0; number = 0 }

pub loop-k-init : goal.loop-k-init
loop-k-init c =
    let a = c.args in
    record { below = omega (arith, c.requires.none); asks = asks-none a.v a.weaks.now (take a.many.now a.dead.now) a.stepper.now (ap (λ n. take n a.dead.now) c.requires.none) }

pub loop-k-preserved : goal.loop-k-preserved
loop-k-preserved c =
    let a = c.args in
    let l = c.loop-k in
    let e = c.entry_came-came in
    let n = c.counts in
    record {
      below = n.ensures.below;
      asks = asks-more l.k a.v a.weaks.now (take l.many l.dead) (take n.new.many n.new.dead) (get_or a.weaks.now l.k no_weak) e.result a.stepper.now l.stepper e.new.stepper l.invariant.asks (slice_get-get_or a.weaks.now l.k no_weak c.loop-k-test.true) e.ensures.came (OnTrue_at c.if-not-counts.false n.ensures.counts);
    }

pub returns-then-not-counts : goal.returns-then-not-counts
returns-then-not-counts c =
    let a = c.args in
    let l = c.loop-k in
    let e = c.entry_came-came in
    let n = c.counts in
    let r = OnFalse_at c.if-not-counts.true n.ensures.refused in
    record {
      goes = subst (λ ns. GoesThrough a.v a.weaks.now ns e.result a.stepper.now e.new.stepper) (sym r.1) (stopped l.k a.v a.weaks.now (take l.many l.dead) (get_or a.weaks.now l.k no_weak) e.result a.stepper.now l.stepper e.new.stepper l.invariant.asks (slice_get-get_or a.weaks.now l.k no_weak c.loop-k-test.true) r.0 e.ensures.came);
      within = omega (arith, n.ensures.below);
    }
