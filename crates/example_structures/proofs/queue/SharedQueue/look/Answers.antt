use Rattle.std.proofs.Common.{ℕ, List, [], subst, sym, ◌∙◌}
use Rattle.shared_heap.specs.declared.mutator.SharedMutator.{SharedMutator}
use Rattle.example_structures.specs.Fitting.{FitsSince}
use Rattle.example_structures.specs.Looks.{taken_by_look}
use Rattle.example_structures.specs.Queues.{Moves}
use Rattle.example_structures.specs.declared.queue.taking.Look.{Look}
use Rattle.example_structures.proofs.Counted.{moves-before, moves-later}
use Rattle.example_structures.proofs.FitLooks.{all-forgotten, sees-first}
use Rattle.example_structures.specs.Carrying.{Carried, number_looked}
use Rattle.std.specs.declared.result.Result.TheVariants.{Ok}
use Rattle.example_structures.proofs.Carried.{carried-before, carried-later}
use Rattle.example_structures.proofs.CarriedMoves.{forgotten-carried, none-looked, seen-first}
use Rattle.example_structures.proofs.queue.SharedQueue.look.Goals.{then-same+in_ok-look, else-same+in_ok-look-2}
use Rattle.example_structures.proofs.queue.SharedQueue.look.Goals as goal

pub returns-in_err-look-clause-fits : goal.returns-in_err-look-clause-fits
returns-in_err-look-clause-fits c = λ ne b p.
    let k = sees-first c.args.self.queue c.args.self.caller c.args.m.now c.see.new.m c.get.new.m c.get-2.new.m c.see.ensures.follows c.get.ensures.follows c.get-2.ensures.follows b p in
    c.look_behind.ensures.fits b k.0 k.1

pub returns-in_err-look-2-clause-fits : goal.returns-in_err-look-2-clause-fits
returns-in_err-look-2-clause-fits c = λ ne b p.
    let k = sees-first c.args.self.queue c.args.self.caller c.args.m.now c.see.new.m c.get.new.m c.get-2.new.m c.see.ensures.follows c.get.ensures.follows c.get-2.ensures.follows b p in
    c.try_take.ensures.fits ne b k.0 k.1

pub returns-clause-fits : goal.returns-clause-fits
returns-clause-fits c = λ ne b p.
    let q = c.args.self.queue in
    let k = sees-first q c.args.self.caller c.args.m.now c.see.new.m c.get.new.m c.get-2.new.m c.see.ensures.follows c.get.ensures.follows c.get-2.ensures.follows b p in
    let r : FitsSince q b c.if-same.m = elim c.if-same.branch [
      | then-same+in_ok-look w ↦ subst (FitsSince q b) (sym w.m-is) (w.look_behind.ensures.fits b k.0 k.1)
      | else-same+in_ok-look-2 w ↦ subst (FitsSince q b) (sym w.m-is) (w.try_take.ensures.fits ne b k.0 k.1)
    ] in
    all-forgotten q c.args.self.caller c.if-same.m c.forget.new.m c.forget-2.new.m c.forget-3.new.m c.forget-4.new.m c.forget.ensures.sets c.forget-2.ensures.sets c.forget-3.ensures.sets c.forget-4.ensures.sets b r

pub returns-clause-taken : goal.returns-clause-taken
returns-clause-taken c =
    let q = c.args.self.queue in
    let x : SharedMutator = c.args.m.now in
    let y : SharedMutator = c.get-2.new.m in
    let z : SharedMutator = c.if-same.m in
    let taken : Moves q 0 (taken_by_look c.if-same.look) y z = elim c.if-same.branch [
      | then-same+in_ok-look w ↦ subst (λ (m : SharedMutator). Moves q 0 (taken_by_look c.if-same.look) y m) (sym w.m-is) (subst (λ (l : Look). Moves q 0 (taken_by_look l) y w.look_behind.new.m) (sym w.look-is) w.in_ok-look.ensures.taken.1)
      | else-same+in_ok-look-2 w ↦ subst (λ (m : SharedMutator). Moves q 0 (taken_by_look c.if-same.look) y m) (sym w.m-is) (subst (λ (l : Look). Moves q 0 (taken_by_look l) y w.try_take.new.m) (sym w.look-is) w.in_ok-look-2.ensures.taken.1)
    ] in
    let later : Moves q 0 (taken_by_look c.if-same.look) x z = moves-later x y z q 0 (taken_by_look c.if-same.look) (c.get-2.ensures.none ∙ (c.get.ensures.none ∙ c.see.ensures.none)) taken in
    (c.forget-4.ensures.inside, moves-before x z c.forget-4.new.m q 0 (taken_by_look c.if-same.look) later (c.forget-4.ensures.none ∙ (c.forget-3.ensures.none ∙ (c.forget-2.ensures.none ∙ c.forget.ensures.none))))

pub returns-in_err-look-clause-numbers : goal.returns-in_err-look-clause-numbers
returns-in_err-look-clause-numbers c = λ ne b p.
    let q = c.args.self.queue in
    let k = seen-first q c.args.self.caller c.args.m.now c.see.new.m c.get.new.m c.get-2.new.m c.see.ensures.follows c.get.ensures.follows c.get-2.ensures.follows b p in
    subst (λ (ns : List ℕ). Carried q b [] ns c.args.m.now c.look_behind.new.m) (none-looked c.from_residual.result c.from_residual.ensures.0)
    (carried-later q b c.args.m.now c.get-2.new.m c.look_behind.new.m [] [] k.carried (c.in_err-look.ensures.numbers b k.fits))

pub returns-in_err-look-2-clause-numbers : goal.returns-in_err-look-2-clause-numbers
returns-in_err-look-2-clause-numbers c = λ ne b p.
    let q = c.args.self.queue in
    let k = seen-first q c.args.self.caller c.args.m.now c.see.new.m c.get.new.m c.get-2.new.m c.see.ensures.follows c.get.ensures.follows c.get-2.ensures.follows b p in
    subst (λ (ns : List ℕ). Carried q b [] ns c.args.m.now c.try_take.new.m) (none-looked c.from_residual-in_err-look-2.result c.from_residual-in_err-look-2.ensures.0)
    (carried-later q b c.args.m.now c.get-2.new.m c.try_take.new.m [] [] k.carried (c.in_err-look-2.ensures.numbers ne b k.fits k.first k.unread))

pub returns-clause-numbers : goal.returns-clause-numbers
returns-clause-numbers c = λ ne b p.
    let q = c.args.self.queue in
    let x : SharedMutator = c.args.m.now in
    let y : SharedMutator = c.get-2.new.m in
    let z : SharedMutator = c.if-same.m in
    let l : Look = c.if-same.look in
    let k = seen-first q c.args.self.caller x c.see.new.m c.get.new.m y c.see.ensures.follows c.get.ensures.follows c.get-2.ensures.follows b p in
    let r : FitsSince q b z × Carried q b [] (number_looked (Ok l)) y z = elim c.if-same.branch [
      | then-same+in_ok-look w ↦
          subst (λ (m : SharedMutator). FitsSince q b m × Carried q b [] (number_looked (Ok l)) y m) (sym w.m-is)
          (w.look_behind.ensures.fits b k.fits k.first, subst (λ (i : Look). Carried q b [] (number_looked (Ok i)) y w.look_behind.new.m) (sym w.look-is) (w.in_ok-look.ensures.numbers b k.fits))
      | else-same+in_ok-look-2 w ↦
          subst (λ (m : SharedMutator). FitsSince q b m × Carried q b [] (number_looked (Ok l)) y m) (sym w.m-is)
          (w.try_take.ensures.fits ne b k.fits k.first, subst (λ (i : Look). Carried q b [] (number_looked (Ok i)) y w.try_take.new.m) (sym w.look-is) (w.in_ok-look-2.ensures.numbers ne b k.fits k.first k.unread))
    ] in
    carried-before q b x z c.forget-4.new.m [] (number_looked (Ok l)) (carried-later q b x y z [] (number_looked (Ok l)) k.carried r.1)
    (forgotten-carried q c.args.self.caller z c.forget.new.m c.forget-2.new.m c.forget-3.new.m c.forget-4.new.m c.forget.ensures.sets c.forget-2.ensures.sets c.forget-3.ensures.sets c.forget-4.ensures.sets b r.0)
