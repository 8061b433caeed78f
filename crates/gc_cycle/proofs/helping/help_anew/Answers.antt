use Rattle.std.proofs.Common.{◌∙◌, subst, sym}
use Rattle.mark_core.specs.declared.kinds.Shape.{Shape}
use Rattle.gc_table.specs.Log.{events}
use Rattle.gc_table.specs.Seats.{view_of}
use Rattle.gc_table.specs.declared.view.View.{View}
use Rattle.card_clean.specs.DirtyCards.{CleansRound}
use Rattle.gc_cycle.proofs.Stops.HelperDrains.{cleaned-first, traced-helps, waited-later}
use Rattle.gc_cycle.proofs.helping.help_anew.Goals as goal

pub help_drain-helped-requires-clause-seat : goal.help_drain-helped-requires-clause-seat
help_drain-helped-requires-clause-seat c =
    let e = c.clean_dirty_round-rescanned.ensures in
    (e.seat, (traced-helps (view_of c.args.seat.now) (view_of c.clean_dirty_round-rescanned.new.seat) c.requires.seat.1 e.traced).helps)

pub help_drain-helped-requires-clause-drain : goal.help_drain-helped-requires-clause-drain
help_drain-helped-requires-clause-drain c =
    (traced-helps (view_of c.args.seat.now) (view_of c.clean_dirty_round-rescanned.new.seat) c.requires.seat.1 c.clean_dirty_round-rescanned.ensures.traced).phase ∙ c.requires.drain

pub returns-clause-helps : goal.returns-clause-helps
returns-clause-helps c =
    let e = c.clean_dirty_round-rescanned.ensures in
    let h = c.help_drain-helped.ensures in
    cleaned-first c.args.quota c.clean_dirty_round-rescanned.result c.help_drain-helped.result (view_of c.args.seat.now) (view_of c.clean_dirty_round-rescanned.new.seat) (view_of c.help_drain-helped.new.seat) c.requires.seat.1 e.traced e.rescanned e.unpopped h.none h.helps

pub returns-clause-passes : goal.returns-clause-passes
returns-clause-passes c =
    let u : View = view_of c.args.seat.now in
    let v : View = view_of c.clean_dirty_round-rescanned.new.seat in
    let e = c.clean_dirty_round-rescanned.ensures in
    let h = c.help_drain-helped.ensures in
    record {
      passed = v;
      first = e.traced.ran;
      rescanned = c.clean_dirty_round-rescanned.result;
      cleans = subst (λ (sh : Shape). CleansRound sh c.clean_dirty_round-rescanned.result (events u v)) (sym c.requires.seat.0.1) e.cleans;
      later = h.helps.drained.ran;
      unpassed = h.unpassed;
    }

pub returns-clause-ends : goal.returns-clause-ends
returns-clause-ends c =
    let e = c.clean_dirty_round-rescanned.ensures in
    let h = c.help_drain-helped.ensures in
    waited-later c.help_drain-helped.result.ended (view_of c.args.seat.now) (view_of c.clean_dirty_round-rescanned.new.seat) (view_of c.help_drain-helped.new.seat) e.traced.ran h.helps.drained.ran h.ends
