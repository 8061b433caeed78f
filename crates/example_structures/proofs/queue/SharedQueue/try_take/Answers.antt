use Rattle.example_structures.proofs.FitCalls.{same-fits, variable-fits}
use Rattle.example_structures.proofs.FitLooks.{next-copied, next-kept, sees-next}
use Rattle.example_structures.proofs.FitQueue.{may-keep-next}
use Rattle.std.proofs.Common.{ℕ, List, [], ◌∷◌, arith, subst, Bool}
use Rattle.std.specs.declared.result.Result.TheVariants.{Ok}
use Rattle.example_structures.specs.Carrying.{Carried, if_won}
use Rattle.example_structures.proofs.Carried.{carried-before, carried-later, quiet-carried, quiet-same, quiet-variable}
use Rattle.example_structures.proofs.CarriedMoves.{none-looked, taking-next}
use Rattle.example_structures.proofs.queue.SharedQueue.try_take.Goals as goal

pub returns-in_err-number-clause-fits : goal.returns-in_err-number-clause-fits
returns-in_err-number-clause-fits c = λ ne b p k. same-fits c.args.m.now c.value.new.m c.args.self.queue c.in_err-number.ensures.same b p

pub returns-in_err-come_first-clause-fits : goal.returns-in_err-come_first-clause-fits
returns-in_err-come_first-clause-fits c = λ ne b p k.
    let s = sees-next c.args.self.queue c.args.self.caller c.args.m.now c.value.new.m c.get.new.m _ c.in_ok-number.ensures.finds c.get.ensures.follows b p k in
    c.come_first.ensures.fits b s.fits (s.first.behind s.next)

pub returns-then-not-branch-clause-fits : goal.returns-then-not-branch-clause-fits
returns-then-not-branch-clause-fits c = λ ne b p k.
    let s = sees-next c.args.self.queue c.args.self.caller c.args.m.now c.value.new.m c.get.new.m _ c.in_ok-number.ensures.finds c.get.ensures.follows b p k in
    c.come_first.ensures.fits b s.fits (s.first.behind s.next)

pub returns-clause-fits : goal.returns-clause-fits
returns-clause-fits c = λ ne b p k.
    let q = c.args.self.queue in
    let low = c.args.self.caller in
    let s = sees-next q low c.args.m.now c.value.new.m c.get.new.m _ c.in_ok-number.ensures.finds c.get.ensures.follows b p k in
    let t = next-kept q low c.get.new.m c.come_first.new.m c.come_first.ensures.kept b (c.come_first.ensures.fits b s.fits (s.first.behind s.next)) s in
    let u = next-copied q low c.come_first.new.m c.copy.new.m c.forget.new.m c.args.item _ c.requires.wide.0 ne c.copy.ensures.sets c.forget.ensures.sets b t in
    (c.keep.ensures.fits b u.fits (may-keep-next q b c.forget.new.m u.first u.next)).0

pub returns-in_err-number-clause-numbers : goal.returns-in_err-number-clause-numbers
returns-in_err-number-clause-numbers c = λ ne b p k u.
    let q = c.args.self.queue in
    let x = c.args.m.now in
    let y = c.value.new.m in
    subst (λ (ns : List ℕ). Carried q b [] ns x y) (none-looked c.from_residual.result c.from_residual.ensures.0) (quiet-carried x y q b p 20 (quiet-same x y 20 c.in_err-number.ensures.same))

pub returns-in_err-come_first-clause-numbers : goal.returns-in_err-come_first-clause-numbers
returns-in_err-come_first-clause-numbers c = λ ne b p k u.
    let q = c.args.self.queue in
    let x = c.args.m.now in
    let y = c.value.new.m in
    let z = c.get.new.m in
    let n = c.in_ok-number.number in
    let s = sees-next q c.args.self.caller x y z n c.in_ok-number.ensures.finds c.get.ensures.follows b p k in
    let t = taking-next q x y z n c.in_ok-number.ensures.finds c.get.ensures.follows b p u in
    subst (λ (ns : List ℕ). Carried q b [] ns x c.come_first.new.m) (none-looked c.from_residual-in_err-come_first.result c.from_residual-in_err-come_first.ensures.0)
    (carried-later q b x z c.come_first.new.m [] [] t.0 (c.in_err-come_first.ensures.numbers b s.fits n t.1))

pub returns-then-not-branch-clause-numbers : goal.returns-then-not-branch-clause-numbers
returns-then-not-branch-clause-numbers c = λ ne b p k u.
    let q = c.args.self.queue in
    let x = c.args.m.now in
    let y = c.value.new.m in
    let z = c.get.new.m in
    let n = c.in_ok-number.number in
    let s = sees-next q c.args.self.caller x y z n c.in_ok-number.ensures.finds c.get.ensures.follows b p k in
    let t = taking-next q x y z n c.in_ok-number.ensures.finds c.get.ensures.follows b p u in
    carried-later q b x z c.come_first.new.m [] [] t.0 (subst (λ (w : Bool). Carried q b [] (if_won (Ok w) n) z c.come_first.new.m) c.if-not-branch.true (c.in_ok-come_first.ensures.numbers b s.fits n t.1))

pub returns-clause-numbers : goal.returns-clause-numbers
returns-clause-numbers c = λ ne b p k u.
    let q = c.args.self.queue in
    let low = c.args.self.caller in
    let x = c.args.m.now in
    let y = c.value.new.m in
    let z = c.get.new.m in
    let w = c.come_first.new.m in
    let m1 = c.copy.new.m in
    let m2 = c.forget.new.m in
    let m3 = c.keep.new.m in
    let n = c.in_ok-number.number in
    let item = c.args.item in
    let s = sees-next q low x y z n c.in_ok-number.ensures.finds c.get.ensures.follows b p k in
    let t = taking-next q x y z n c.in_ok-number.ensures.finds c.get.ensures.follows b p u in
    let fits = c.come_first.ensures.fits b s.fits (s.first.behind s.next) in
    let p1 = variable-fits w m1 q item _ ne c.copy.ensures.sets b fits in
    let p2 = variable-fits m1 m2 q 24 0 (λ e. omega (arith, e, low)) c.forget.ensures.sets b p1 in
    let won = subst (λ (a : Bool). Carried q b [] (if_won (Ok a) n) z w) c.if-not-branch.false (c.in_ok-come_first.ensures.numbers b s.fits n t.1) in
    let below = c.requires.wide.0 in
    carried-later q b x z m3 [] (n ∷ []) t.0
    (carried-before q b z w m3 [] (n ∷ []) won
    (carried-later q b w m1 m3 [] [] (quiet-carried w m1 q b fits 23 (quiet-variable w m1 23 item _ (λ e. omega (arith, e, below)) c.copy.ensures.sets))
    (carried-later q b m1 m2 m3 [] [] (quiet-carried m1 m2 q b p1 23 (quiet-variable m1 m2 23 24 0 (λ e. omega (arith, e)) c.forget.ensures.sets)) (c.keep.ensures.numbers b p2).0)))
