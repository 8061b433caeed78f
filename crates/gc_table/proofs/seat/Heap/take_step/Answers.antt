use Rattle.gc_table.proofs.Fitting.{may-take, step-number, step-room}
use Rattle.gc_table.proofs.seat.Heap.take_step.Goals as goal

pub take_told-found-requires-clause-take : goal.take_told-found-requires-clause-take
take_told-found-requires-clause-take c = let q = c.requires in may-take c.args.self.now c.args.seat.now c.args.step _ c.address-word.ensures q.seat q.may q.own q.asked

pub act-requires : goal.act-requires
act-requires c =
    let s = c.args.seat.now in
    record {
      room = step-room s.state (s.token.me.0.view) c.args.step s.agrees s.possible c.requires.may;
      number = step-number c.args.self.now.shape s.state (s.token.me.0.view) c.args.step s.agrees c.requires.seat.1 s.possible c.requires.may;
    }
