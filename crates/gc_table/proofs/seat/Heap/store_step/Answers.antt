use Rattle.std.proofs.Common.{ap, sym, ◌∙◌}
use Rattle.gc_table.proofs.Fitting.{may-take, step-number, step-room, stored-word, stored-view}
use Rattle.gc_table.proofs.seat.Heap.store_step.Goals as goal

pub act-new-requires : goal.act-new-requires
act-new-requires c =
    let s = c.args.seat.now in
    record {
      room = step-room s.state (s.token.me.0.view) c.args.step s.agrees s.possible c.requires.may;
      number = step-number c.args.self.now.shape s.state (s.token.me.0.view) c.args.step s.agrees c.requires.seat.1 s.possible c.requires.may;
    }

pub store_told-requires-clause-take : goal.store_told-requires-clause-take
store_told-requires-clause-take c = let q = c.requires in may-take c.args.self.now c.args.seat.now c.args.step _ c.address-word.ensures q.seat q.may q.own q.asked

pub store_told-requires-clause-kind : goal.store_told-requires-clause-kind
store_told-requires-clause-kind c n = let s = c.args.seat.now in stored-word c.args.self.now.shape s.state (s.token.me.0.view) c.args.step _ n c.act-new.ensures.word s.agrees c.requires.seat.1 c.requires.blind

pub invariant_of-seat-clause-agrees : goal.invariant_of-seat-clause-agrees
invariant_of-seat-clause-agrees c =
    let s = c.args.seat.now in
    stored-view c.args.self.now.shape s.state _ (s.token.me.0.view) c.args.step _ c.act-new.ensures.seat s.agrees c.requires.seat.1 c.requires.blind ∙ sym (ap (λ m. m.0.view.state) c.store_told.ensures.taken.2)

pub invariant_of-seat-clause-recalls : goal.invariant_of-seat-clause-recalls
invariant_of-seat-clause-recalls c = ∣ c.store_told.ensures.taken.4 ∣₁
