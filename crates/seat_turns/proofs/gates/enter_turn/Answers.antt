use Rattle.std.proofs.Common.{ℕ, ◌≡◌, ◌∙◌, Option, Some, None, true, refl}
use Rattle.std.specs.Prelude.{is_some}
use Rattle.std.proofs.lemmas.Bool.{false≢true}
use Rattle.std.proofs.lemmas.Result.{IfErr-weaker, IfOk-weaker}
use Rattle.mark_core.specs.Seats.{has_turn}
use Rattle.gc_table.specs.Seats.{view_of}
use Rattle.seat_turns.specs.Coming.{GoesIn}
use Rattle.seat_turns.proofs.Seats.{kept-heap, mutator-kept}
use Rattle.seat_turns.proofs.Leaving.{leaves-join, leaves-spared}
use Rattle.seat_turns.proofs.gates.enter_turn.Goals as goal

has-section : (o season : Option ℕ) → has_turn o season ≡ true → is_some o ≡ true
has-section None season e = absurd (false≢true e)
has-section (Some w) season e = refl

pub go_in-requires-clause-section : goal.go_in-requires-clause-section
go_in-requires-clause-section g c = has-section (view_of c.args.seat.now).state.section (Some 1) c.requires.waits.mutator.section

pub come_to_turn-requires-clause-works : goal.come_to_turn-requires-clause-works
come_to_turn-requires-clause-works g c =
    let e = c.go_in.ensures in
    let out = e.entered.out in
    record { sits = e.seat.0; mutates = e.seat.1; mutator = mutator-kept (view_of c.args.seat.now) (view_of c.go_in.new.seat) c.requires.waits.mutator out.ran out.seat out.section }

pub come_to_turn-requires-clause-cache : goal.come_to_turn-requires-clause-cache
come_to_turn-requires-clause-cache g c = c.go_in.ensures.entered.cache

pub returns-clause-same : goal.returns-clause-same
returns-clause-same g c = c.come_to_turn.ensures.same ∙ kept-heap (view_of c.args.seat.now) (view_of c.go_in.new.seat) c.go_in.ensures.entered.out.section

pub returns-clause-leaves : goal.returns-clause-leaves
returns-clause-leaves g c =
    let e = c.go_in.ensures in
    leaves-join (view_of c.args.seat.now) (view_of c.go_in.new.seat) (view_of c.come_to_turn.new.seat) (leaves-spared (view_of c.args.seat.now) (view_of c.go_in.new.seat) e.entered.out.ran e.spares e.entered.out.seat) c.come_to_turn.ensures.leaves

pub returns-clause-enters : goal.returns-clause-enters
returns-clause-enters g c =
    let e = c.go_in.ensures in
    let goes : GoesIn (view_of c.args.seat.now) (view_of c.go_in.new.seat) = record { entered = e.entered; numbers = e.numbers; offered = e.offered; helps = e.helps; away = e.away } in
    IfOk-weaker c.come_to_turn.result _ _ (λ _ polls. record { inside = view_of c.go_in.new.seat; enters = goes; polls = polls }) c.come_to_turn.ensures.polls

pub returns-clause-full : goal.returns-clause-full
returns-clause-full g c =
    let e = c.go_in.ensures in
    let goes : GoesIn (view_of c.args.seat.now) (view_of c.go_in.new.seat) = record { entered = e.entered; numbers = e.numbers; offered = e.offered; helps = e.helps; away = e.away } in
    IfErr-weaker c.come_to_turn.result _ _ (λ _ polls. record { inside = view_of c.go_in.new.seat; enters = goes; polls = polls }) c.come_to_turn.ensures.full
