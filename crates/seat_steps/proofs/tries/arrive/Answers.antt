use Rattle.std.proofs.Common.{None, ◌∙◌, arith, inr}
use Rattle.std.proofs.lemmas.Bool.{OnFalse_at, OnTrue_at}
use Rattle.gc_table.specs.Seats.{view_of}
use Rattle.gc_table.specs.declared.view.View.{View}
use Rattle.gc_table.proofs.Running.{ran-join}
use Rattle.mutator_ops.proofs.Few.{at-most-join, at-most-more}
use Rattle.seat_turns.proofs.Leaving.{leaves-join}
use Rattle.seat_turns.proofs.Seats.{looks-cached, looks-ran}
use Rattle.seat_steps.proofs.AtTurn.{turned-halts, turned-out}
use Rattle.seat_steps.proofs.Found.{found-other, goes-freely, turned-by, turned-found}
use Rattle.seat_steps.proofs.Paced.{carries-join, carries-looked, carries-looks, carries-out, carries-season}
use Rattle.seat_steps.proofs.tries.arrive.Goals as goal

pub comes_to_turn-requires : goal.comes_to_turn-requires
comes_to_turn-requires c = let l = c.in-Done.ensures.looked in record { going = (None, (l.0.works, l.0.cache, l.1)) }

pub returns-then-comes_to_turn : goal.returns-then-comes_to_turn
returns-then-comes_to_turn c =
    let u : View = view_of c.args.seat.now in
    let v : View = view_of c.look_in.new.seat in
    let w : View = view_of c.comes_to_turn.new.seat in
    let l = c.look_in.ensures in
    let t = c.comes_to_turn.ensures in
    let looks = c.in-Done.ensures.looks in
    let free = goes-freely u v w l.ran looks t.looks t.known in
    record {
      arrives = OnTrue_at c.if-comes_to_turn.true t.turn;
      same = t.same ∙ l.same;
      leaves = leaves-join u v w l.leaves t.leaves;
      ran = free.ran;
      found = free;
      came = free;
      paces = carries-join u v w (carries-looks u v l.ran looks) (carries-season v w (looks-ran v w t.looks) t.looks);
    }

pub leave-requires : goal.leave-requires
leave-requires c =
    let t = c.comes_to_turn.ensures in
    record { halts = record { works = t.works; cache = looks-cached None (view_of c.look_in.new.seat) (view_of c.comes_to_turn.new.seat) c.in-Done.ensures.looked.0.cache t.looks } }

pub returns-else-comes_to_turn : goal.returns-else-comes_to_turn
returns-else-comes_to_turn c =
    let u : View = view_of c.args.seat.now in
    let v : View = view_of c.look_in.new.seat in
    let w : View = view_of c.comes_to_turn.new.seat in
    let x : View = view_of c.leave.new.seat in
    let l = c.look_in.ensures in
    let t = c.comes_to_turn.ensures in
    let o = c.leave.ensures in
    let looks = c.in-Done.ensures.looks in
    let free = goes-freely u v w l.ran looks t.looks t.known in
    let other = OnFalse_at c.if-comes_to_turn.false t.other in
    record {
      arrives = o.waits;
      same = o.same ∙ (t.same ∙ l.same);
      leaves = leaves-join u v x l.leaves (leaves-join v w x t.leaves o.leaves);
      ran = ran-join u w x free.ran o.ran;
      found = (found-other u v w x l.ran t.looks other o.ran, at-most-more 5 8 u x (omega arith) (at-most-join 3 2 u w x free.ran o.ran free.few o.few));
      came = record { looked = w; looks = inr (free, other); leaves = o.out };
      paces = carries-join u w x (carries-join u v w (carries-looks u v l.ran looks) (carries-season v w (looks-ran v w t.looks) t.looks)) (carries-out w x o.ran o.out);
    }

pub leave-requires-in_default : goal.leave-requires-in_default
leave-requires-in_default c = let l = c.look_in in record { halts = turned-halts l.result c.args.heap.now l.new.seat c.in_default.not-Done l.ensures.looked }

pub returns-in_default : goal.returns-in_default
returns-in_default c =
    let u : View = view_of c.args.seat.now in
    let v : View = view_of c.look_in.new.seat in
    let w : View = view_of c.leave-in_default.new.seat in
    let came = c.look_in.result in
    let other = c.in_default.not-Done in
    let l = c.look_in.ensures in
    let o = c.leave-in_default.ensures in
    record {
      arrives = turned-out came c.args.heap.now c.look_in.new.seat c.leave-in_default.new.seat other l.looked o.waits o.full;
      same = o.same ∙ l.same;
      leaves = leaves-join u v w l.leaves o.leaves;
      ran = ran-join u v w l.ran o.ran;
      found = turned-found came u v w other l.looks l.ran o.ran o.few o.full;
      came = turned-by came u v w other l.looks o.out;
      paces = carries-join u v w (carries-looked came u v l.ran l.looks) (carries-out v w o.ran o.out);
    }
