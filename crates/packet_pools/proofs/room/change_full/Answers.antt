use Rattle.std.proofs.Common.{arith, refl, sym, ap, ◌∙◌, subst}
use Rattle.mark_core.specs.declared.kinds.Shape.{Shape}
use Rattle.gc_table.specs.declared.view.View.{View}
use Rattle.gc_table.specs.Log.{events}
use Rattle.gc_table.specs.Seats.{view_of}
use Rattle.gc_table.proofs.History.Log.{events-join}
use Rattle.packet_pools.specs.declared.held.Held.{Held}
use Rattle.packet_pools.specs.declared.search.Search.{Search}
use Rattle.packet_pools.specs.Scanning.{Fills}
use Rattle.packet_pools.specs.Seeking.{only_moves, output_pools}
use Rattle.packet_pools.specs.StepBounds.{room_left}
use Rattle.packet_pools.specs.Tried.{Leads}
use Rattle.packet_pools.proofs.Few.{few-sum}
use Rattle.packet_pools.proofs.Filled.{apart, fills-other, kept}
use Rattle.packet_pools.proofs.Searches.{moves-join}
use Rattle.packet_pools.proofs.TracedSteps.{traced-join}
use Rattle.packet_pools.proofs.Tried.{leads-join, leads-on}
use Rattle.packet_pools.proofs.room.change_full.Goals as goal

pub change-requires-clause-out : goal.change-requires-clause-out
change-requires-clause-out c =
    let e = c.in-Some.ensures in
    kept (view_of c.args.seat.now) (view_of c.take_other.new.seat) c.args.out.now c.in-Some.other e.only.shape c.requires.out.0 e.some.0

pub change-requires-clause-other : goal.change-requires-clause-other
change-requires-clause-other c =
    let e = c.in-Some.ensures in
    (e.some.0.held, apart (view_of c.args.seat.now) (view_of c.take_other.new.seat) c.args.out.now c.in-Some.other e.only.shape c.requires.out.0 e.some.0)

pub returns-in-Some-clause-only : goal.returns-in-Some-clause-only
returns-in-Some-clause-only c = traced-join (view_of c.args.seat.now) (view_of c.take_other.new.seat) (view_of c.change.new.seat) c.in-Some.ensures.only c.change.ensures.only

pub returns-in-Some-clause-out : goal.returns-in-Some-clause-out
returns-in-Some-clause-out c =
    let v : View = view_of c.args.seat.now in
    let x : View = view_of c.change.new.seat in
    let e = c.in-Some.ensures in
    let f = c.change.ensures in
    subst (λ (k : Held). Fills c.args.out.now k v x) (sym f.out)
    (fills-other v (view_of c.take_other.new.seat) c.args.out.now c.in-Some.other e.only.shape c.requires.out.0 e.some.0 c.requires.out.1 x f.only.shape f.state)

pub returns-in-Some-clause-moves : goal.returns-in-Some-clause-moves
returns-in-Some-clause-moves c =
    let v : View = view_of c.args.seat.now in
    let w : View = view_of c.take_other.new.seat in
    let x : View = view_of c.change.new.seat in
    let e = c.in-Some.ensures in
    let f = c.change.ensures in
    ap (only_moves output_pools) (events-join v w x e.only.log f.only.log) ∙ moves-join output_pools (events v w) (events w x) e.moves f.moves

pub returns-in-Some-clause-leads : goal.returns-in-Some-clause-leads
returns-in-Some-clause-leads c =
    let sh : Shape = c.args.heap.now.shape in
    let v : View = view_of c.args.seat.now in
    let w : View = view_of c.take_other.new.seat in
    let x : View = view_of c.change.new.seat in
    let s : Search = c.args.search.now in
    let t : Search = c.take_other.new.search in
    let h : Held = c.args.out.now in
    let k : Held = c.in-Some.other in
    let e = c.in-Some.ensures in
    let f = c.change.ensures in
    subst (λ (l : Held). Leads sh s t h l (events v x)) (sym f.out)
    (leads-join sh s t t h k k (events v w) (events w x) (events v x) (events-join v w x e.only.log f.only.log) (e.some.2 h c.requires.out.2) (leads-on sh t k k (events w x) refl (omega arith) f.ungot))

pub returns-in-Some-clause-full : goal.returns-in-Some-clause-full
returns-in-Some-clause-full c = λ full.
    let same = ap (λ (l : Held). l.length) c.change.ensures.out in
    absurd (omega (arith, same, full, c.in-Some.ensures.some.1))

pub returns-in-Some-clause-few : goal.returns-in-Some-clause-few
returns-in-Some-clause-few c =
    let sh : Shape = c.args.heap.now.shape in
    let v : View = view_of c.args.seat.now in
    let w : View = view_of c.take_other.new.seat in
    let x : View = view_of c.change.new.seat in
    let t : Search = c.take_other.new.search in
    let e = c.in-Some.ensures in
    let f = c.change.ensures in
    let all = few-sum v w x e.only.ran f.only.ran in
    let first = e.few.0 in
    let back = f.few in
    let same = ap (λ (l : Held). room_left sh t l.length) f.out in
    let full = ap (room_left sh c.args.search.now) c.requires.out.2 in
    omega (arith, all, first, back, same, full)
