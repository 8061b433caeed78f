use Rattle.std.proofs.Common.{◌+◌, ◌∙◌, ap}
use Rattle.alloc_cache.specs.Making.{identity_word}
use Rattle.gc_table.specs.Seats.{view_of}
use Rattle.mutator_ops.specs.Sharing.{ShareCreates}
use Rattle.mutator_ops.proofs.ShareCreating.{share-creates, share-ready}
use Rattle.mutator_ops.proofs.sharing.share_create.Goals as goal

done : (c : goal.After-hold_root) → ShareCreates c.args.v c.args.n c.in_ok-cell.cell (view_of c.args.seat.now) (view_of c.hold_root.new.seat)
done c =
    let m = c.in_ok-cell.ensures.made in
    share-creates c.args.v c.args.n c.in_ok-cell.cell (c.from.result + 1) c.next_identity-id.result (view_of c.args.seat.now) (view_of c.new_cell.new.seat) c.requires.seat.1 c.in_ok-cell.ensures.ran m.1 m.3 (ap (λ k. k + 1) (c.from.ensures ∙ c.number.ensures))
    c.hold_root.result (view_of c.hold_root.new.seat) c.hold_root.ensures.view (ap identity_word c.next_identity-id.ensures)

pub returns-clause-creates : goal.returns-clause-creates
returns-clause-creates c = (c.in_ok-cell.ensures.made.0, done c)

pub returns-clause-seat : goal.returns-clause-seat
returns-clause-seat c =
    let m = c.in_ok-cell.ensures.made in (
      c.hold_root.ensures.seat,
      share-ready c.args.v c.args.n c.in_ok-cell.cell (c.from.result + 1) c.next_identity-id.result (view_of c.args.seat.now) (view_of c.new_cell.new.seat) c.requires.seat.1 c.in_ok-cell.ensures.ran m.1 m.3 (ap (λ k. k + 1) (c.from.ensures ∙ c.number.ensures))
          (view_of c.hold_root.new.seat) (done c),
    )
