use Rattle.std.proofs.Common.{◌<◌, sym, ap, subst}
use Rattle.mark_core.specs.Layout.{pool_words}
use Rattle.mark_core.specs.declared.kinds.Shape.{Shape}
use Rattle.mark_core.specs.declared.kinds.Step.TheVariants.{Look}
use Rattle.gc_table.specs.declared.view.View.{View}
use Rattle.gc_table.specs.Seats.{view_of}
use Rattle.gc_table.proofs.History.Log.{events-after}
use Rattle.packet_pools.specs.Seeking.{only_moves}
use Rattle.packet_pools.proofs.Conditions.{may-look}
use Rattle.packet_pools.proofs.Doing.{traced-look, traces-on}
use Rattle.packet_pools.proofs.Few.{few-after}
use Rattle.tracer.proofs.sharing.is_bare.Goals as goal

pub look-requires-clause-may : goal.look-requires-clause-may
look-requires-clause-may c = may-look (view_of c.args.seat.now) c.args.q c.args.g c.requires.word.0 (subst (λ (sh : Shape). c.args.g < pool_words sh) (sym c.requires.seat.0.1) c.requires.word.1)

pub returns-clause-seat : goal.returns-clause-seat
returns-clause-seat c =
    let v : View = view_of c.args.seat.now in
    let w : View = view_of c.look.new.seat in
    let l = c.look.ensures in
    (l.seat, traces-on v w (traced-look v w _ c.args.q c.args.g l.view.1 l.view.0) c.requires.seat.1 (ap (λ (z : View). z.state.reserved) l.view.0) (ap (λ (z : View). z.state.credit) l.view.0))

pub returns-clause-only : goal.returns-clause-only
returns-clause-only c = traced-look (view_of c.args.seat.now) (view_of c.look.new.seat) _ c.args.q c.args.g c.look.ensures.view.1 c.look.ensures.view.0

pub returns-clause-state : goal.returns-clause-state
returns-clause-state c = ap (λ (z : View). z.state) c.look.ensures.view.0

pub returns-clause-moves : goal.returns-clause-moves
returns-clause-moves c = λ qs. ap (only_moves qs) (events-after (view_of c.args.seat.now) (view_of c.look.new.seat) (Look c.args.q c.args.g) _ c.look.ensures.view.0)

pub returns-clause-few : goal.returns-clause-few
returns-clause-few c = few-after (view_of c.args.seat.now) (view_of c.look.new.seat) (Look c.args.q c.args.g) _ c.look.ensures.view.0
