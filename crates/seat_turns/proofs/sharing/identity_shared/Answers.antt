use Rattle.std.proofs.Common.{◌≡◌, ◌+◌, ◌∙◌, ap, arith, length, refl, sym}
use Rattle.mark_core.specs.Steps.MutatorSteps.{seat_variable as word_in}
use Rattle.mark_core.specs.declared.kinds.Step.TheVariants.{ReadIdent}
use Rattle.mark_core.specs.declared.seat.SeatState.{SeatState}
use Rattle.gc_table.specs.Seats.{view_of}
use Rattle.gc_table.specs.declared.view.View.{View}
use Rattle.gc_table.proofs.Fitting.{possible-live}
use Rattle.gc_table.proofs.Running.{ran-found}
use Rattle.mutator_ops.proofs.Knowing.{knows-variable, may-read_ident}
use Rattle.mutator_ops.proofs.Storing.{shares-on}
use Rattle.seat_turns.proofs.Held.{held-same, holds-shares}
use Rattle.seat_turns.proofs.sharing.identity_shared.Goals as goal

pub read_ident-requires-clause-seat : goal.read_ident-requires-clause-seat
read_ident-requires-clause-seat c = c.requires.turn.holds.sits

pub read_ident-requires-clause-may : goal.read_ident-requires-clause-may
read_ident-requires-clause-may c =
    let v : View = view_of c.args.seat.now in
    let q = holds-shares c.args.heap.now c.args.seat.now c.requires.turn c.requires.shared in
    let word : word_in v.state c.args.v ≡ c.make.result + 1 = let some = c.requires.some in omega (arith, some, c.make.ensures, c.word_of-word.ensures) in
    let live = possible-live v c.args.seat.now.possible in
    may-read_ident v c.make.result live q.1.stores.turn (knows-variable v c.args.v c.make.result live c.requires.range word)

pub returns-clause-turn : goal.returns-clause-turn
returns-clause-turn c =
    let v : View = view_of c.args.seat.now in
    let w : View = view_of c.read_ident.new.seat in
    let q = holds-shares c.args.heap.now c.args.seat.now c.requires.turn c.requires.shared in
    let e = c.read_ident.ensures.view in
    let same : w.state ≡ v.state = ap (λ (y : View). y.state) e.0 in
    let ready = shares-on v w q.1 (ap (λ (y : View). y.shape) e.0) (same ∙ ap (λ (t : SeatState). record v.state { env = t.env }) (sym same)) (ap (λ (y : View). length y.own.meaning.heap.objects) e.0) in
    held-same c.args.heap.now c.args.seat.now c.read_ident.new.seat c.requires.turn (c.read_ident.ensures.seat, ready) (ran-found v w (ReadIdent c.make.result) c.read_ident.result refl e) same
