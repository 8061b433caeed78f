use Rattle.std.proofs.Common.{subst, sym}
use Rattle.example_structures.specs.Fitting.{FitsSince, HasFresh}
use Rattle.example_structures.proofs.FitQueue.{keep-fits}
use Rattle.example_structures.specs.Queues.{Moves}
use Rattle.example_structures.proofs.Called.{set-changes}
use Rattle.example_structures.proofs.Counted.{kept-moves, none-moves}
use Rattle.example_structures.proofs.Refused.{act-none, either-way}
use Rattle.example_structures.specs.Carrying.{KeepsNumbers}
use Rattle.example_structures.proofs.Carried.{keeps-by, keeps-none, quiet-set}
use Rattle.example_structures.proofs.queue.SharedQueue.keep.Goals as goal

pub returns-clause-moves : goal.returns-clause-moves
returns-clause-moves c =
    let x = c.args.m.now in
    let y = c.set-done.new.self in
    let q = c.args.self.queue in
    either-way c.set-done.result (Moves q 0 0 x y) _ _ c.set-done.ensures.done c.set-done.ensures.refused (λ _ s. kept-moves x y q c.args.node c.args.item c.requires.node (set-changes x y c.args.node 1 c.args.item s.does))
    (λ e r. none-moves x y q (act-none x y e _ r))

pub returns-clause-fits : goal.returns-clause-fits
returns-clause-fits c = λ b p may.
    let x = c.args.m.now in
    let y = c.set-done.new.self in
    let q = c.args.self.queue in
    either-way c.set-done.result (FitsSince q b y × (HasFresh b x → HasFresh b y)) _ _ c.set-done.ensures.done c.set-done.ensures.refused (λ _ s. keep-fits x y q c.args.node c.args.item s.does b p may)
    (λ e r. (subst (FitsSince q b) (sym r.same) p, subst (HasFresh b) (sym r.same)))

pub returns-clause-numbers : goal.returns-clause-numbers
returns-clause-numbers c =
    let x = c.args.m.now in
    let y = c.set-done.new.self in
    let q = c.args.self.queue in
    either-way c.set-done.result (KeepsNumbers q x y) _ _ c.set-done.ensures.done c.set-done.ensures.refused (λ _ s. keeps-by x y q (quiet-set x y 20 c.args.node 1 c.args.item s.does)) (λ e r. subst (KeepsNumbers q x) (sym r.same) (keeps-none q x))
