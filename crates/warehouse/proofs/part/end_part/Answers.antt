use Rattle.std.proofs.Common.{refl}
use Rattle.gc_table.specs.Seats.{view_of}
use Rattle.gc_table.specs.declared.view.View.{View}
use Rattle.warehouse.proofs.Coming.{room-moved, says-moved}
use Rattle.warehouse.proofs.Leavings.{counted-stays, leaves-calm, leaves-counted, leaves-join, leaves-waits}
use Rattle.warehouse.proofs.Pacing.{paces-out}
use Rattle.warehouse.proofs.InTheStop.{retired-stays, retired-waits, stays-join, stays-spared}
use Rattle.warehouse.proofs.part.end_part.Goals as goal

pub returns : goal.returns
returns c =
    let m = c.args.mutator.now in
    let u : View = view_of m.seat in
    let v : View = view_of c.retire_some.new.seat in
    let w : View = view_of c.add_stat.new.seat in
    let x : View = view_of c.go_out.new.seat in
    let r = c.retire_some.ensures in
    let o = c.go_out.ensures in
    let stays = stays-join u v x (retired-stays u v r.ran r.state r.own) (stays-join v w x (counted-stays v w c.add_stat.ensures.view) (stays-spared w x o.out.ran o.spares o.out.seat)) in
    record {
      sits = o.seat.0;
      out = o.seat.1;
      stays = stays;
      says = says-moved m c.go_out.new.seat;
      position = o.position;
      leaves = leaves-join 0 1 1 u v x (leaves-waits u v (retired-waits c.args.cache u v c.requires.playing.cached r.ran r.only r.state r.numbers)) (leaves-join 1 0 1 v w x (leaves-counted v w c.add_stat.ensures.view) (leaves-calm w x o.out.ran o.spares o.out.calm (paces-out w x o.out o.numbers)) refl) refl;
      room = room-moved m c.go_out.new.seat stays;
    }
