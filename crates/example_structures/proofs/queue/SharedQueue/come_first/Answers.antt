use Rattle.std.proofs.Common.{◌≡◌, ◌<◌, arith, []}
use Rattle.std.specs.Prelude.{if◌then◌else◌}
use Rattle.shared_heap.specs.declared.mutator.Place.TheVariants.{Inside}
use Rattle.std.proofs.Common.{subst, sym}
use Rattle.example_structures.specs.Fitting.{FitsSince, KeepsRead}
use Rattle.example_structures.proofs.FitQueue.{exchanged-read, none-read, take-fits}
use Rattle.example_structures.specs.Queues.{Moves}
use Rattle.example_structures.specs.Refusing.{GivenUp}
use Rattle.example_structures.proofs.Called.{exchanged-told}
use Rattle.example_structures.proofs.Counted.{none-moves, taken-moves}
use Rattle.example_structures.proofs.Refused.{by-result, either-way, want-inside, want-none, want-same, when-err, when-ok}
use Rattle.shared_heap.specs.declared.mutator.SharedMutator.{SharedMutator}
use Rattle.example_structures.specs.Carrying.{Carried, if_won}
use Rattle.example_structures.proofs.Carried.{carried-none}
use Rattle.example_structures.proofs.CarriedMoves.{first-carried}
use Rattle.example_structures.proofs.queue.SharedQueue.come_first.Goals as goal

pub returns-clause-taken : goal.returns-clause-taken
returns-clause-taken c =
    let x = c.args.m.now in
    let y = c.exchange.new.self in
    let q = c.args.self.queue in
    when-ok c.exchange.result _ (λ won. (y.place ≡ Inside) × Moves q 0 (if won then 1 else 0) x y) c.exchange.ensures.done (λ won s. (s.inside, taken-moves x y q won (exchanged-told x y q 0 21 23 won c.requires.told s.does)))

pub returns-clause-refused : goal.returns-clause-refused
returns-clause-refused c =
    let x = c.args.m.now in
    let y = c.exchange.new.self in
    let q = c.args.self.queue in
    let low : q < 20 = c.args.self.caller in
    when-err c.exchange.result _ (λ e. GivenUp e y × Moves q 0 0 x y) c.exchange.ensures.refused
    (λ e r. ((want-inside x y e _ q c.requires.inside (omega arith, omega (arith, c.requires.wide), omega arith, omega arith) r).1, none-moves x y q (want-none x y e _ q r)))

pub returns-clause-fits : goal.returns-clause-fits
returns-clause-fits c = λ b p had.
    let x = c.args.m.now in
    let y = c.exchange.new.self in
    let q = c.args.self.queue in
    either-way c.exchange.result (FitsSince q b y) _ _ c.exchange.ensures.done c.exchange.ensures.refused (λ won s. take-fits x y q won s.does b p had) (λ e r. subst (FitsSince q b) (sym (want-same x y e _ q r)) p)

pub returns-clause-kept : goal.returns-clause-kept
returns-clause-kept c =
    let x = c.args.m.now in
    let y = c.exchange.new.self in
    let q = c.args.self.queue in
    either-way c.exchange.result (KeepsRead q x y) _ _ c.exchange.ensures.done c.exchange.ensures.refused (λ won s. exchanged-read x y q q 0 21 23 won s.does) (λ e r. subst (KeepsRead q x) (sym (want-same x y e _ q r)) (none-read q x))

pub returns-clause-numbers : goal.returns-clause-numbers
returns-clause-numbers c = λ b p n had.
    let x = c.args.m.now in
    let y = c.exchange.new.self in
    let q = c.args.self.queue in
    by-result c.exchange.result (λ r. Carried q b [] (if_won r n) x y) _ _ c.exchange.ensures.done c.exchange.ensures.refused (λ won s. first-carried x y q b p won s.does n had)
    (λ e r. subst (λ (m : SharedMutator). Carried q b [] [] x m) (sym (want-same x y e _ q r)) (carried-none q b x))
