use Rattle.std.proofs.Common.{ℕ, List, [], arith, subst, ◌∙◌}
use Rattle.example_structures.specs.Looks.{taken_by_look}
use Rattle.example_structures.specs.Queues.{Moves}
use Rattle.example_structures.specs.declared.queue.taking.Look.{Look}
use Rattle.example_structures.proofs.Counted.{moves-before, moves-join, none-moves}
use Rattle.example_structures.proofs.FitCalls.{get-fits, same-fits}
use Rattle.example_structures.specs.Carrying.{Carried, number_looked}
use Rattle.std.specs.declared.result.Result.TheVariants.{Ok}
use Rattle.example_structures.proofs.Carried.{carried-before, carried-later, carries-by, quiet-carried, quiet-get, quiet-same}
use Rattle.example_structures.proofs.CarriedMoves.{none-taken}
use Rattle.example_structures.proofs.queue.SharedQueue.take.Goals as goal

pub loop-round-init : goal.loop-round-init
loop-round-init g c =
    let q = c.args.self.queue in
    let low = c.args.self.caller in
    record {
      inside = c.in_ok-begin.ensures.begun.1;
      world = c.begin.ensures.world;
      moves = none-moves c.args.m.now c.begin.new.m q c.begin.ensures.none;
      fits = λ ne. get-fits c.args.m.now c.begin.new.m q 20 20 1 (λ e. omega (arith, e, low)) c.in_ok-begin.ensures.follows;
      numbers = λ ne. carries-by c.args.m.now c.begin.new.m q 23 (quiet-get c.args.m.now c.begin.new.m 23 20 20 1 (λ e. omega (arith, e)) c.in_ok-begin.ensures.follows);
    }

pub loop-round-preserved : goal.loop-round-preserved
loop-round-preserved g c =
    let q = c.args.self.queue in
    let before = c.loop-round.invariant in
    record {
      inside = c.in_ok-pass-in-Again.ensures.inside;
      world = c.pass.ensures.world ∙ (c.look.ensures.world ∙ before.world);
      moves =
          moves-before c.args.m.now c.look.new.m c.pass.new.m q 0 0
          (moves-join c.args.m.now c.loop-round.m c.look.new.m q 0 0 0 0 before.moves (subst (λ (k : Look). Moves q 0 (taken_by_look k) c.loop-round.m c.look.new.m) c.in-Again.is c.in_ok-number.ensures.taken.1)) c.pass.ensures.none;
      fits = λ ne b p. same-fits c.look.new.m c.pass.new.m q c.pass.ensures.same b (c.look.ensures.fits ne b (before.fits ne b p));
      numbers =
          λ ne b p.
          let x = c.args.m.now in
          let y = c.loop-round.m in
          let z = c.look.new.m in
          let fits = before.fits ne b p in
          let looked = subst (λ (k : Look). Carried q b [] (number_looked (Ok k)) y z) c.in-Again.is (c.in_ok-number.ensures.numbers ne b fits) in
          carried-before q b x z c.pass.new.m [] [] (carried-later q b x y z [] [] (before.numbers ne b p) looked)
          (quiet-carried z c.pass.new.m q b (c.look.ensures.fits ne b fits) 20 (quiet-same z c.pass.new.m 20 c.pass.ensures.same));
    }

pub returns-in_err-pass-in-Again-clause-fits : goal.returns-in_err-pass-in-Again-clause-fits
returns-in_err-pass-in-Again-clause-fits g c = λ ne b p.
    same-fits c.look.new.m c.pass.new.m c.args.self.queue c.pass.ensures.same b (c.look.ensures.fits ne b (c.loop-round.invariant.fits ne b p))

pub returns-in_err-pass-in-Again-clause-numbers : goal.returns-in_err-pass-in-Again-clause-numbers
returns-in_err-pass-in-Again-clause-numbers g c = λ ne b p.
    let q = c.args.self.queue in
    let x = c.args.m.now in
    let y = c.loop-round.m in
    let z = c.look.new.m in
    let fits = c.loop-round.invariant.fits ne b p in
    let looked = subst (λ (k : Look). Carried q b [] (number_looked (Ok k)) y z) c.in-Again.is (c.in_ok-number.ensures.numbers ne b fits) in
    subst (λ (ns : List ℕ). Carried q b [] ns x c.pass.new.m) (none-taken c.from_residual-in_err-pass-in-Again.result c.from_residual-in_err-pass-in-Again.ensures.0)
    (carried-before q b x z c.pass.new.m [] [] (carried-later q b x y z [] [] (c.loop-round.invariant.numbers ne b p) looked)
    (quiet-carried z c.pass.new.m q b (c.look.ensures.fits ne b fits) 20 (quiet-same z c.pass.new.m 20 c.pass.ensures.same)))

pub returns-in-Taken-clause-numbers : goal.returns-in-Taken-clause-numbers
returns-in-Taken-clause-numbers g c = λ ne b p.
    let q = c.args.self.queue in
    let looked = subst (λ (k : Look). Carried q b [] (number_looked (Ok k)) c.loop-round.m c.look.new.m) c.in-Taken.is (c.in_ok-number.ensures.numbers ne b (c.loop-round.invariant.fits ne b p)) in
    carried-later q b c.args.m.now c.loop-round.m c.look.new.m [] _ (c.loop-round.invariant.numbers ne b p) looked

pub returns-in-Empty-clause-numbers : goal.returns-in-Empty-clause-numbers
returns-in-Empty-clause-numbers g c = λ ne b p.
    let q = c.args.self.queue in
    let looked = subst (λ (k : Look). Carried q b [] (number_looked (Ok k)) c.loop-round.m c.look.new.m) c.in-Empty.is (c.in_ok-number.ensures.numbers ne b (c.loop-round.invariant.fits ne b p)) in
    carried-later q b c.args.m.now c.loop-round.m c.look.new.m [] [] (c.loop-round.invariant.numbers ne b p) looked

pub returns-in_err-number-clause-numbers : goal.returns-in_err-number-clause-numbers
returns-in_err-number-clause-numbers g c = λ ne b p.
    let q = c.args.self.queue in
    subst (λ (ns : List ℕ). Carried q b [] ns c.args.m.now c.look.new.m) (none-taken c.from_residual-in_err-number.result c.from_residual-in_err-number.ensures.0)
    (carried-later q b c.args.m.now c.loop-round.m c.look.new.m [] [] (c.loop-round.invariant.numbers ne b p) (c.in_err-number.ensures.numbers ne b (c.loop-round.invariant.fits ne b p)))
