use Rattle.std.proofs.Common.{subst, sym}
use Rattle.example_structures.specs.Fitting.{FitsSince, HasFresh}
use Rattle.example_structures.proofs.FitQueue.{follow-fits}
use Rattle.example_structures.specs.Queues.{Moves}
use Rattle.example_structures.proofs.Called.{exchanged-some}
use Rattle.example_structures.proofs.Counted.{last-moves, none-moves}
use Rattle.example_structures.proofs.Refused.{either-way, want-none, want-same}
use Rattle.example_structures.specs.Carrying.{KeepsNumbers}
use Rattle.example_structures.proofs.Carried.{keeps-by, keeps-none, quiet-follow}
use Rattle.example_structures.proofs.queue.SharedQueue.follow.Goals as goal

pub returns-clause-moves : goal.returns-clause-moves
returns-clause-moves c =
    let x = c.args.m.now in
    let y = c.exchange-moved.new.self in
    let q = c.args.self.queue in
    either-way c.exchange-moved.result (Moves q 0 0 x y) _ _ c.exchange-moved.ensures.done c.exchange-moved.ensures.refused (λ won s. let t = exchanged-some x y q 1 22 c.args.to won s.does in last-moves x y q c.args.to t.0 t.1)
    (λ e r. none-moves x y q (want-none x y e _ q r))

pub returns-clause-fits : goal.returns-clause-fits
returns-clause-fits c = λ b p may.
    let x = c.args.m.now in
    let y = c.exchange-moved.new.self in
    let q = c.args.self.queue in
    either-way c.exchange-moved.result (FitsSince q b y × (HasFresh b x → HasFresh b y)) _ _ c.exchange-moved.ensures.done c.exchange-moved.ensures.refused (λ won s. follow-fits x y q c.args.to won s.does b p may)
    (λ e r. let same = sym (want-same x y e _ q r) in (subst (FitsSince q b) same p, subst (HasFresh b) same))

pub returns-clause-numbers : goal.returns-clause-numbers
returns-clause-numbers c =
    let x = c.args.m.now in
    let y = c.exchange-moved.new.self in
    let q = c.args.self.queue in
    either-way c.exchange-moved.result (KeepsNumbers q x y) _ _ c.exchange-moved.ensures.done c.exchange-moved.ensures.refused (λ won s. keeps-by x y q (quiet-follow x y 20 q 22 c.args.to won s.does)) (λ e r. subst (KeepsNumbers q x) (sym (want-same x y e _ q r)) (keeps-none q x))
