use Rattle.std.proofs.Common.{ℕ, List, arith, subst, sym, true, false, []}
use Rattle.shared_heap.specs.declared.mutator.SharedMutator.{SharedMutator}
use Rattle.example_structures.specs.Fitting.{FitsSince, Linked, StaysFresh}
use Rattle.example_structures.proofs.FitCalls.{variable-fits, variable-fresh}
use Rattle.example_structures.proofs.FitLooks.{stays-kept}
use Rattle.example_structures.proofs.FitQueue.{may-follow-own}
use Rattle.example_structures.specs.Carrying.{NumbersPut}
use Rattle.std.specs.declared.result.Result.TheVariants.{Ok}
use Rattle.example_structures.proofs.Carried.{carried-before, quiet-carried, quiet-own, quiet-variable}
use Rattle.example_structures.proofs.CarriedMoves.{none-won}
use Rattle.example_structures.specs.Carrying.{Carried, if_won}
use Rattle.example_structures.proofs.queue.SharedQueue.link.Goals.{then-won, else-won}
use Rattle.example_structures.proofs.queue.SharedQueue.link.Goals as goal

pub returns-clause-fits : goal.returns-clause-fits
returns-clause-fits c = λ b p may.
    let q = c.args.self.queue in
    let low = c.args.self.caller in
    let m = c.come_behind.new.m in
    let won = c.in_ok-won.won in
    let k = c.in_ok-won.ensures.fits b p may in
    let r : FitsSince q b c.if-won.m × StaysFresh b c.if-won.m won = elim c.if-won.branch [
      | then-won w ↦
          let l : Linked q b m true = subst (Linked q b m) w.if-won.true k.1 in
          subst (λ (x : SharedMutator). FitsSince q b x × StaysFresh b x won) (sym w.m-is) ((w.follow.ensures.fits b k.0 (may-follow-own q b m l)).0, subst (StaysFresh b w.follow.new.m) (sym w.if-won.true) tt)
      | else-won w ↦
          let l : Linked q b m false = subst (Linked q b m) w.if-won.false k.1 in
          subst (λ (x : SharedMutator). FitsSince q b x × StaysFresh b x won) (sym w.m-is) (k.0, subst (StaysFresh b m) (sym w.if-won.false) l)
    ] in (
      variable-fits c.if-won.m c.forget.new.m q 22 0 (λ e. omega (arith, e, low)) c.forget.ensures.sets b r.0,
      stays-kept b c.if-won.m c.forget.new.m won (variable-fresh c.if-won.m c.forget.new.m q 22 0 b r.0 (λ e. omega (arith, e)) c.forget.ensures.sets) r.1,
    )

pub returns-clause-numbers : goal.returns-clause-numbers
returns-clause-numbers c = λ b p may n had.
    let q = c.args.self.queue in
    let low = c.args.self.caller in
    let x = c.args.m.now in
    let m = c.come_behind.new.m in
    let won = c.in_ok-won.won in
    let k = c.in_ok-won.ensures.fits b p may in
    let f = c.in_ok-won.ensures.numbers b p may n had in
    let r : FitsSince q b c.if-won.m × NumbersPut q b n (Ok won) x c.if-won.m = elim c.if-won.branch [
      | then-won w ↦
          let l : Linked q b m true = subst (Linked q b m) w.if-won.true k.1 in
          let moved = w.follow.ensures.numbers b k.0 in
          subst (λ (z : SharedMutator). FitsSince q b z × NumbersPut q b n (Ok won) x z) (sym w.m-is)
          ((w.follow.ensures.fits b k.0 (may-follow-own q b m l)).0, (carried-before q b x m w.follow.new.m (if_won (Ok won) n) [] f.0 moved.0, moved.1 n f.1))
      | else-won w ↦ subst (λ (z : SharedMutator). FitsSince q b z × NumbersPut q b n (Ok won) x z) (sym w.m-is) (k.0, f)
    ] in
    let gone = quiet-variable c.if-won.m c.forget.new.m 20 22 0 (λ e. omega (arith, e)) c.forget.ensures.sets in (
      carried-before q b x c.if-won.m c.forget.new.m (if_won (Ok won) n) [] r.1.0 (quiet-carried c.if-won.m c.forget.new.m q b r.0 20 gone),
      quiet-own c.if-won.m c.forget.new.m q b r.0 gone n r.1.1,
    )

pub returns-in_err-won-clause-numbers : goal.returns-in_err-won-clause-numbers
returns-in_err-won-clause-numbers c = λ b p may n had.
    let m = c.in_err-won.ensures.numbers b p may n had in
    (subst (λ (ns : List ℕ). Carried c.args.self.queue b ns [] c.args.m.now c.come_behind.new.m) (none-won c.from_residual.result n c.from_residual.ensures.0) m.0, m.1)
