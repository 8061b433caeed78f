use Rattle.std.proofs.Common.{◌≡◌, arith}
use Rattle.std.specs.Prelude.{if◌then◌else◌}
use Rattle.shared_heap.specs.declared.mutator.Place.TheVariants.{Inside}
use Rattle.std.proofs.Common.{subst, sym}
use Rattle.example_structures.specs.Fitting.{FitsSince, Linked}
use Rattle.example_structures.proofs.FitQueue.{link-fits}
use Rattle.example_structures.specs.Queues.{Moves}
use Rattle.example_structures.specs.Refusing.{GivenUp}
use Rattle.example_structures.proofs.Called.{exchanged-told}
use Rattle.example_structures.proofs.Counted.{none-moves, put-moves}
use Rattle.example_structures.proofs.Refused.{by-result, either-way, want-inside, want-none, want-same, when-err, when-ok}
use Rattle.std.specs.declared.result.Result.TheVariants.{Err}
use Rattle.shared_heap.specs.declared.mutator.SharedMutator.{SharedMutator}
use Rattle.example_structures.specs.Carrying.{NumbersPut}
use Rattle.example_structures.proofs.Carried.{carried-none}
use Rattle.example_structures.proofs.CarriedMoves.{linked-carried, linked-own}
use Rattle.example_structures.proofs.queue.SharedQueue.come_behind.Goals as goal

pub returns-clause-put : goal.returns-clause-put
returns-clause-put c =
    let x = c.args.m.now in
    let y = c.exchange.new.self in
    let q = c.args.self.queue in
    when-ok c.exchange.result _ (λ won. (y.place ≡ Inside) × Moves q (if won then 1 else 0) 0 x y) c.exchange.ensures.done (λ won s. (s.inside, put-moves x y q won (exchanged-told x y 22 0 21 20 won c.requires.told s.does)))

pub returns-clause-refused : goal.returns-clause-refused
returns-clause-refused c =
    let x = c.args.m.now in
    let y = c.exchange.new.self in
    let q = c.args.self.queue in
    when-err c.exchange.result _ (λ e. GivenUp e y × Moves q 0 0 x y) c.exchange.ensures.refused
    (λ e r. ((want-inside x y e _ 22 c.requires.inside (omega arith, omega (arith, c.requires.wide), omega arith, omega arith) r).1, none-moves x y q (want-none x y e _ 22 r)))

pub returns-clause-fits : goal.returns-clause-fits
returns-clause-fits c = λ b p may.
    let x = c.args.m.now in
    let y = c.exchange.new.self in
    let q = c.args.self.queue in (
      either-way c.exchange.result (FitsSince q b y) _ _ c.exchange.ensures.done c.exchange.ensures.refused (λ won s. (link-fits x y q won s.does b p may).0) (λ e r. subst (FitsSince q b) (sym (want-same x y e _ 22 r)) p),
      when-ok c.exchange.result _ (Linked q b y) c.exchange.ensures.done (λ won s. (link-fits x y q won s.does b p may).1),
    )

pub returns-clause-numbers : goal.returns-clause-numbers
returns-clause-numbers c = λ b p may n had.
    let x = c.args.m.now in
    let y = c.exchange.new.self in
    let q = c.args.self.queue in
    by-result c.exchange.result (λ r. NumbersPut q b n r x y) _ _ c.exchange.ensures.done c.exchange.ensures.refused (λ won s. (linked-carried x y q b p won s.does may.1 n had, linked-own x y q b p won s.does may.1 n had))
    (λ e r. subst (λ (m : SharedMutator). NumbersPut q b n (Err e) x m) (sym (want-same x y e _ 22 r)) (carried-none q b x, had))
