use Rattle.std.proofs.Common.{◌≤◌, ◌+◌, ℕ, arith, ap, subst, sym}
use Rattle.mark_core.specs.Layout.{card_count}
use Rattle.mark_core.specs.declared.kinds.Phase.TheVariants.{Drain}
use Rattle.mark_core.specs.declared.kinds.Shape.{Shape}
use Rattle.gc_table.specs.Log.{events}
use Rattle.gc_table.specs.Seats.{view_of}
use Rattle.gc_table.specs.declared.view.View.{View}
use Rattle.gc_table.proofs.History.Log.{only-more}
use Rattle.gc_cycle.specs.Lower.{HasTraced, traces_or_cleans}
use Rattle.gc_cycle.specs.Statistics.{leaves_numbers}
use Rattle.gc_cycle.proofs.CardPieces.{alone-of, clean-few, dirty-few, drains-part, drains-still, looked-all, looked-traced, looks-further}
use Rattle.gc_cycle.proofs.Exactly.{exact-part}
use Rattle.gc_cycle.proofs.Leaving.{traces-leave}
use Rattle.gc_cycle.proofs.Stepped.{part-keeps}
use Rattle.gc_cycle.proofs.card_steps.look_step.Goals.{After-dirty_between}
use Rattle.gc_cycle.proofs.Ends.Stepwise.{clean-neither, dirty-neither, looked-dirty, looks-down, still-traced}
use Rattle.gc_cycle.proofs.card_steps.look_step.Goals as goal

traced : (c : After-dirty_between) → HasTraced (view_of c.args.seat.now) (view_of c.dirty_between.new.seat)
traced c = looked-traced (view_of c.args.seat.now) (view_of c.dirty_between.new.seat) c.requires.looks.drains c.dirty_between.ensures.only c.dirty_between.ensures.state

pub returns-in-Some-clause-part : goal.returns-in-Some-clause-part
returns-in-Some-clause-part c = drains-part (view_of c.args.seat.now) (view_of c.dirty_between.new.seat) c.requires.looks.drains (traced c.before)

pub returns-in-Some-clause-exact : goal.returns-in-Some-clause-exact
unfolding returns-in-Some-clause-part
returns-in-Some-clause-exact c u k = exact-part Drain u (view_of c.args.seat.now) (view_of c.dirty_between.new.seat) (returns-in-Some-clause-part c) k

pub returns-in-Some-clause-numbers : goal.returns-in-Some-clause-numbers
returns-in-Some-clause-numbers c = only-more traces_or_cleans leaves_numbers traces-leave (view_of c.args.seat.now) (view_of c.dirty_between.new.seat) (traced c.before).only

pub returns-in-Some-clause-keeps : goal.returns-in-Some-clause-keeps
unfolding returns-in-Some-clause-part
returns-in-Some-clause-keeps c = part-keeps Drain (view_of c.args.seat.now) (view_of c.dirty_between.new.seat) (returns-in-Some-clause-part c)

pub returns-in-None-clause-part : goal.returns-in-None-clause-part
returns-in-None-clause-part c = drains-part (view_of c.args.seat.now) (view_of c.dirty_between.new.seat) c.requires.looks.drains (traced c.before)

pub returns-in-None-clause-exact : goal.returns-in-None-clause-exact
unfolding returns-in-None-clause-part
returns-in-None-clause-exact c u k = exact-part Drain u (view_of c.args.seat.now) (view_of c.dirty_between.new.seat) (returns-in-None-clause-part c) k

pub returns-in-None-clause-numbers : goal.returns-in-None-clause-numbers
returns-in-None-clause-numbers c = only-more traces_or_cleans leaves_numbers traces-leave (view_of c.args.seat.now) (view_of c.dirty_between.new.seat) (traced c.before).only

pub returns-in-None-clause-keeps : goal.returns-in-None-clause-keeps
unfolding returns-in-None-clause-part
returns-in-None-clause-keeps c = part-keeps Drain (view_of c.args.seat.now) (view_of c.dirty_between.new.seat) (returns-in-None-clause-part c)

pub returns-in-Some-clause-stands : goal.returns-in-Some-clause-stands
returns-in-Some-clause-stands c = drains-still (view_of c.args.seat.now) (view_of c.dirty_between.new.seat) c.requires.looks.drains (traced c.before)

pub returns-in-Some-clause-few : goal.returns-in-Some-clause-few
returns-in-Some-clause-few c =
    let d = c.in-Some.ensures.dirty in
    let n = c.at_most-number.ensures in
    dirty-few c.args.from c.in-Some.card c.args.most (events (view_of c.args.seat.now) (view_of c.dirty_between.new.seat)) d.2 d.0 (let high = d.1 in omega (arith, n, high))

pub returns-in-None-clause-stands : goal.returns-in-None-clause-stands
returns-in-None-clause-stands c =
    let v : View = view_of c.args.seat.now in
    let w : View = view_of c.dirty_between.new.seat in
    let n : ℕ = c.at_most-number.result in
    let e = c.dirty_between.ensures in
    let l = looks-further c.args.from (c.args.from + n) v w c.requires.looks (traced c.before) e.notes (c.in-None.ensures.noted c.requires.looks.drains.rest.alone) in (
      l,
      λ some.
          looked-all (c.args.from + n) w l
          (subst (λ (sh : Shape). card_count sh ≤ c.args.from + n) (sym e.seat.1) (let cells = ap (λ (s : Shape). s.cells) c.shape.ensures in let many = c.at_most-number.ensures in omega (arith, some, many, cells))),
    )

pub returns-in-None-clause-few : goal.returns-in-None-clause-few
returns-in-None-clause-few c =
    let n = c.at_most-number.ensures in
    clean-few c.args.from c.at_most-number.result c.args.most (events (view_of c.args.seat.now) (view_of c.dirty_between.new.seat)) c.in-None.ensures.clean (omega (arith, n))

pub returns-in-Some-clause-falls : goal.returns-in-Some-clause-falls
returns-in-Some-clause-falls c =
    let v : View = view_of c.args.seat.now in
    let w : View = view_of c.dirty_between.new.seat in
    let none = dirty-neither c.args.from c.in-Some.card (events v w) c.in-Some.ensures.dirty.2 in
    looks-down v w (alone-of v c.requires.looks.drains) (traced c.before) none.0 none.1

pub returns-in-None-clause-falls : goal.returns-in-None-clause-falls
returns-in-None-clause-falls c =
    let v : View = view_of c.args.seat.now in
    let w : View = view_of c.dirty_between.new.seat in
    let none = clean-neither c.args.from (c.args.from + c.at_most-number.result) (events v w) c.in-None.ensures.clean in
    looks-down v w (alone-of v c.requires.looks.drains) (traced c.before) none.0 none.1

pub returns-in-Some-clause-all : goal.returns-in-Some-clause-all
returns-in-Some-clause-all c = let e = c.dirty_between.ensures in still-traced (view_of c.args.seat.now) (view_of c.dirty_between.new.seat) e.only.shape e.state e.notes

pub returns-in-None-clause-all : goal.returns-in-None-clause-all
returns-in-None-clause-all c = let e = c.dirty_between.ensures in still-traced (view_of c.args.seat.now) (view_of c.dirty_between.new.seat) e.only.shape e.state e.notes

pub returns-in-Some-clause-dirty : goal.returns-in-Some-clause-dirty
returns-in-Some-clause-dirty c =
    let v : View = view_of c.args.seat.now in
    looked-dirty c.args.from c.in-Some.card v (view_of c.dirty_between.new.seat) (alone-of v c.requires.looks.drains) (traced c.before) c.in-Some.ensures.dirty.2
