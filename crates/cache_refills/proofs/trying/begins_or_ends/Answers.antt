use Rattle.std.proofs.Common.{arith, inr, inl}
use Rattle.gc_table.specs.Seats.{view_of}
use Rattle.gc_table.specs.declared.view.View.{View}
use Rattle.gc_table.proofs.History.Log.{only-more}
use Rattle.cache_refills.specs.Pace.Pacing.{kicks}
use Rattle.cache_refills.specs.Refilling.{looks_for_end, prepares}
use Rattle.cache_refills.proofs.Refills.Paced.{cycle-kept, kicked-paced, kicks-prepare, looks-prepare}
use Rattle.cache_refills.proofs.Refills.Rounds.{on-false}
use Rattle.cache_refills.proofs.Refills.Leaves.{kicks-leave, looks-leave}
use Rattle.gc_cycle.proofs.Changes.{only-changes}
use Rattle.gc_cycle.specs.Statistics.{leaves_numbers}
use Rattle.cache_refills.proofs.Due.{due-looks}
use Rattle.cache_refills.proofs.Refills.Pieced.{kicks-leaves, looks-leaves}
use Rattle.cache_refills.proofs.trying.begins_or_ends.Goals as goal

pub returns-then-has_seen_marking-clause-only : goal.returns-then-has_seen_marking-clause-only
returns-then-has_seen_marking-clause-only c = only-more looks_for_end prepares looks-prepare (view_of c.args.seat.now) (view_of c.marking_is_done.new.seat) c.marking_is_done.ensures.only

pub returns-then-has_seen_marking-clause-paced : goal.returns-then-has_seen_marking-clause-paced
returns-then-has_seen_marking-clause-paced c =
    let v : View = view_of c.args.seat.now in
    let w : View = view_of c.marking_is_done.new.seat in
    let m = c.marking_is_done.ensures in
    on-false c.marking_is_done.result (inr (cycle-kept v w m.ran (only-more looks_for_end prepares looks-prepare v w m.only) c.requires.seat.1.active (inl (c.requires.marking c.if-has_seen_marking.ensures.seen))))

pub returns-clause-only : goal.returns-clause-only
returns-clause-only c = only-more kicks prepares kicks-prepare (view_of c.args.seat.now) (view_of c.begin_due.new.seat) c.begin_due.ensures.only

pub returns-clause-paced : goal.returns-clause-paced
returns-clause-paced c = let k = c.begin_due.ensures in kicked-paced c.begin_due.result (view_of c.args.seat.now) (view_of c.begin_due.new.seat) k.ran k.only c.requires.seat.1.active k.begins

pub returns-then-has_seen_marking-clause-numbers : goal.returns-then-has_seen_marking-clause-numbers
returns-then-has_seen_marking-clause-numbers c =
    let m = c.marking_is_done.ensures in
    only-changes (view_of c.args.seat.now) (view_of c.marking_is_done.new.seat) m.ran (only-more looks_for_end leaves_numbers looks-leave (view_of c.args.seat.now) (view_of c.marking_is_done.new.seat) m.only)

pub returns-clause-numbers : goal.returns-clause-numbers
returns-clause-numbers c =
    let k = c.begin_due.ensures in only-changes (view_of c.args.seat.now) (view_of c.begin_due.new.seat) k.ran (only-more kicks leaves_numbers kicks-leave (view_of c.args.seat.now) (view_of c.begin_due.new.seat) k.only)

pub returns-then-has_seen_marking-clause-due : goal.returns-then-has_seen_marking-clause-due
returns-then-has_seen_marking-clause-due c = due-looks (view_of c.args.seat.now) (view_of c.marking_is_done.new.seat) c.marking_is_done.ensures.only

pub returns-then-has_seen_marking-clause-leaves : goal.returns-then-has_seen_marking-clause-leaves
returns-then-has_seen_marking-clause-leaves c = looks-leaves (view_of c.args.seat.now) (view_of c.marking_is_done.new.seat) c.marking_is_done.ensures.only

pub returns-clause-leaves : goal.returns-clause-leaves
returns-clause-leaves c = kicks-leaves (view_of c.args.seat.now) (view_of c.begin_due.new.seat) c.begin_due.ensures.only

pub returns-then-has_seen_marking-clause-few : goal.returns-then-has_seen_marking-clause-few
returns-then-has_seen_marking-clause-few c = let few = c.marking_is_done.ensures.few in omega (arith, few)
