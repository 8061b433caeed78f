use Rattle.example_structures.specs.Fitting.{StaysFresh}
use Rattle.example_structures.proofs.FitCalls.{same-fits, same-fresh}
use Rattle.example_structures.proofs.FitLooks.{each-ok, if-lost, stays}
use Rattle.std.proofs.Common.{ℕ, List, [], Bool, subst}
use Rattle.std.specs.declared.result.Result.TheVariants.{Ok}
use Rattle.example_structures.proofs.Carried.{carried-before, quiet-carried, quiet-own, quiet-same, won-lost}
use Rattle.example_structures.proofs.CarriedMoves.{none-won}
use Rattle.example_structures.specs.Carrying.{Carried, NumbersPut}
use Rattle.example_structures.proofs.queue.SharedQueue.try_put.Goals as goal

pub returns-in_err-pass-clause-fits : goal.returns-in_err-pass-clause-fits
returns-in_err-pass-clause-fits g c = λ b p f.
    let q = c.args.self.queue in
    let k = c.in_ok-append.ensures.fits b p f in
    let lost = if-lost b c.append.new.m c.in_ok-append.field-0 c.if-branch.false k.1 in (
      same-fits c.append.new.m c.pass.new.m q c.pass.ensures.same b k.0,
      each-ok c.from_residual-in_err-pass.result (StaysFresh b c.pass.new.m) (stays b c.pass.new.m (same-fresh c.append.new.m c.pass.new.m q b k.0 c.pass.ensures.same lost)),
    )

pub returns-clause-fits : goal.returns-clause-fits
returns-clause-fits g c = λ b p f.
    let q = c.args.self.queue in
    let k = c.in_ok-append.ensures.fits b p f in
    let lost = if-lost b c.append.new.m c.in_ok-append.field-0 c.if-branch.false k.1 in
    (same-fits c.append.new.m c.pass.new.m q c.pass.ensures.same b k.0, same-fresh c.append.new.m c.pass.new.m q b k.0 c.pass.ensures.same lost)

pub returns-in_err-pass-clause-numbers : goal.returns-in_err-pass-clause-numbers
returns-in_err-pass-clause-numbers g c = λ b p f n had.
    let q = c.args.self.queue in
    let y = c.append.new.m in
    let z = c.pass.new.m in
    let k = c.in_ok-append.ensures.fits b p f in
    let m = c.in_ok-append.ensures.numbers b p f n had in
    let quiet = quiet-same y z 20 c.pass.ensures.same in (
      subst (λ (ns : List ℕ). Carried q b ns [] c.args.m.now z) (none-won c.from_residual-in_err-pass.result n c.from_residual-in_err-pass.ensures.0)
          (carried-before q b c.args.m.now y z [] [] (won-lost q b c.args.m.now y c.in_ok-append.field-0 n c.if-branch.false m.0) (quiet-carried y z q b k.0 20 quiet)),
      quiet-own y z q b k.0 quiet n m.1,
    )

pub returns-clause-numbers : goal.returns-clause-numbers
returns-clause-numbers g c = λ b p f n had.
    let q = c.args.self.queue in
    let y = c.append.new.m in
    let z = c.pass.new.m in
    let k = c.in_ok-append.ensures.fits b p f in
    let m = c.in_ok-append.ensures.numbers b p f n had in
    let quiet = quiet-same y z 20 c.pass.ensures.same in
    (carried-before q b c.args.m.now y z [] [] (won-lost q b c.args.m.now y c.in_ok-append.field-0 n c.if-branch.false m.0) (quiet-carried y z q b k.0 20 quiet), quiet-own y z q b k.0 quiet n m.1)

pub returns-in_err-append-clause-numbers : goal.returns-in_err-append-clause-numbers
returns-in_err-append-clause-numbers g c = λ b p f n had.
    let m = c.in_err-append.ensures.numbers b p f n had in
    (subst (λ (ns : List ℕ). Carried c.args.self.queue b ns [] c.args.m.now c.append.new.m) (none-won c.from_residual.result n c.from_residual.ensures.0) m.0, m.1)

pub returns-then-branch-clause-numbers : goal.returns-then-branch-clause-numbers
returns-then-branch-clause-numbers g c = λ b p f n had.
    subst (λ (won : Bool). NumbersPut c.args.self.queue b n (Ok won) c.args.m.now c.append.new.m) c.if-branch.true (c.in_ok-append.ensures.numbers b p f n had)
