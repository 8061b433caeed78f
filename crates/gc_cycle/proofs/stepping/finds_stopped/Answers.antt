use Rattle.std.proofs.Common.{ap, arith, refl, sym, ◌++◌, ◌∙◌, ◌∷◌}
use Rattle.mark_core.specs.declared.kinds.Step.TheVariants.{Observe, ReadPhase}
use Rattle.mark_core.specs.declared.seat.SeatState.{SeatState}
use Rattle.gc_table.specs.Log.{event, events}
use Rattle.gc_table.specs.Seats.{view_of}
use Rattle.gc_table.specs.declared.view.View.{View}
use Rattle.gc_table.proofs.History.Log.{events-after}
use Rattle.gc_table.proofs.Running.{ran-events, ran-found, ran-join}
use Rattle.gc_cycle.proofs.Stepped.{asks-still, knows-found, stopped-holds}
use Rattle.gc_cycle.proofs.Few.{few-after, few-join}
use Rattle.gc_cycle.proofs.stepping.finds_stopped.Goals as goal

pub returns-then-not-state-clause-ran : goal.returns-then-not-state-clause-ran
returns-then-not-state-clause-ran c = ran-found (view_of c.args.seat.now) (view_of c.observe.new.seat) Observe c.observe.result refl c.observe.ensures.view

pub returns-then-not-state-clause-not_yet : goal.returns-then-not-state-clause-not_yet
returns-then-not-state-clause-not_yet c =
    let v : View = view_of c.args.seat.now in
    let w : View = view_of c.observe.new.seat in
    let f = c.observe.ensures.view in
    let k = ap (λ (s : SeatState). s.knows) (sym c.state.ensures) ∙ c.if-not-state.true in (
      asks-still v w c.observe.result c.requires.asks f k,
      record { found = c.observe.result; all = events-after v w Observe c.observe.result f.0; running = sym (knows-found v w c.observe.result c.requires.asks f) ∙ k },
    )

pub returns-clause-ran : goal.returns-clause-ran
returns-clause-ran c =
    let v : View = view_of c.args.seat.now in
    let w : View = view_of c.observe.new.seat in
    let x : View = view_of c.read_phase.new.seat in
    let f = c.read_phase.ensures.view in
    ran-join v w x (ran-found v w Observe c.observe.result refl c.observe.ensures.view) (ran-found w x ReadPhase f.0 refl (f.1, f.2))

pub returns-clause-stopped : goal.returns-clause-stopped
returns-clause-stopped c =
    let v : View = view_of c.args.seat.now in
    let w : View = view_of c.observe.new.seat in
    let x : View = view_of c.read_phase.new.seat in
    let n = c.observe.result in
    let o = c.observe.ensures.view in
    let f = c.read_phase.ensures.view in
    let k = ap (λ (s : SeatState). s.knows) (sym c.state.ensures) ∙ c.if-not-state.false in
    let all = ran-events v w x (ran-found v w Observe n refl o) (ran-found w x ReadPhase f.0 refl (f.1, f.2)) in (
      stopped-holds v w x n f.0 c.requires.asks o k (f.1, f.2),
      record {
        found = n;
        phase = f.0;
        all = all ∙ (ap (λ es. es ++ events w x) (events-after v w Observe n o.0) ∙ ap (λ es. event Observe n ∷ es) (events-after w x ReadPhase f.0 f.1));
        stopped = sym (knows-found v w n c.requires.asks o) ∙ k;
      },
    )

pub returns-then-not-state-clause-few : goal.returns-then-not-state-clause-few
returns-then-not-state-clause-few c =
    let one = few-after (view_of c.args.seat.now) (view_of c.observe.new.seat) Observe c.observe.result c.observe.ensures.view.0 in omega (arith, one)

pub returns-clause-few : goal.returns-clause-few
returns-clause-few c =
    let v : View = view_of c.args.seat.now in
    let w : View = view_of c.observe.new.seat in
    let x : View = view_of c.read_phase.new.seat in
    let n = c.observe.result in
    let o = c.observe.ensures.view in
    let f = c.read_phase.ensures.view in
    few-join 1 1 v w x (ran-found v w Observe n refl o) (ran-found w x ReadPhase f.0 refl (f.1, f.2)) (few-after v w Observe n o.0) (few-after w x ReadPhase f.0 f.1)
