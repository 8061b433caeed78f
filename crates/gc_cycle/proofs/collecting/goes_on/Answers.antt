use Rattle.std.proofs.Common.{None, refl, ap, sym, subst}
use Rattle.mark_core.specs.declared.kinds.Step.TheVariants.{ReadPhase, StorePosition}
use Rattle.gc_table.specs.Seats.{view_of}
use Rattle.gc_table.specs.declared.view.View.{View}
use Rattle.gc_table.proofs.Running.{ran-join, ran-took, ran-stored}
use Rattle.mark_core.specs.declared.seat.SeatState.{SeatState}
use Rattle.gc_cycle.specs.Answering.{HasCache}
use Rattle.gc_cycle.specs.Statistics.{GivesUp}
use Rattle.gc_cycle.proofs.Refills.Answered.{cached-still, ends-full}
use Rattle.gc_cycle.proofs.Changes.{changes-after, gives-join, keeps-up}
use Rattle.std.proofs.Common.{arith}
use Rattle.gc_cycle.proofs.Few.{few-after, few-join}
use Rattle.gc_cycle.proofs.collecting.goes_on.Goals as goal

pub returns-then-not-reads_full-clause-ran : goal.returns-then-not-reads_full-clause-ran
returns-then-not-reads_full-clause-ran c = ran-took (view_of c.args.seat.now) (view_of c.reads_full.new.seat) ReadPhase refl c.reads_full.ensures.read

pub returns-then-not-reads_full-clause-going : goal.returns-then-not-reads_full-clause-going
returns-then-not-reads_full-clause-going c =
    let v : View = view_of c.args.seat.now in
    let w : View = view_of c.reads_full.new.seat in
    let t = c.reads_full.ensures.read in
    record { same = refl; cached = cached-still c.args.cache.now v w (ap (λ (x : View). x.state.cache) t.1.0) c.requires.cache; looked = t; going = c.if-not-reads_full.ensures.going }

pub retire_some-requires-clause-cache : goal.retire_some-requires-clause-cache
retire_some-requires-clause-cache c =
    let v : View = view_of c.args.seat.now in
    let w : View = view_of c.reads_full.new.seat in
    subst (λ o. HasCache o w) (sym c.take.ensures.value) (cached-still c.args.cache.now v w (ap (λ (x : View). x.state.cache) c.reads_full.ensures.read.1.0) c.requires.cache)

pub returns-clause-ran : goal.returns-clause-ran
returns-clause-ran c =
    let f = c.if-not-reads_full.ensures.full in
    let r = c.retire_some.ensures in
    (ends-full (view_of c.args.seat.now) (view_of c.reads_full.new.seat) (view_of c.retire_some.new.seat) (view_of c.store_position.new.seat) c.args.done c.reads_full.ensures.read f.1 f.0 r.ran r.only r.seat.1 (ap (λ (s : SeatState). s.cache) r.state) (ap (λ (s : SeatState). s.phase_seen) r.state) c.store_position.ensures.view).0

pub returns-clause-only : goal.returns-clause-only
returns-clause-only c =
    let f = c.if-not-reads_full.ensures.full in
    let r = c.retire_some.ensures in
    (ends-full (view_of c.args.seat.now) (view_of c.reads_full.new.seat) (view_of c.retire_some.new.seat) (view_of c.store_position.new.seat) c.args.done c.reads_full.ensures.read f.1 f.0 r.ran r.only r.seat.1 (ap (λ (s : SeatState). s.cache) r.state) (ap (λ (s : SeatState). s.phase_seen) r.state) c.store_position.ensures.view).1

pub returns-clause-full : goal.returns-clause-full
returns-clause-full c =
    let f = c.if-not-reads_full.ensures.full in
    let r = c.retire_some.ensures in
    let e = ends-full (view_of c.args.seat.now) (view_of c.reads_full.new.seat) (view_of c.retire_some.new.seat) (view_of c.store_position.new.seat) c.args.done c.reads_full.ensures.read f.1 f.0 r.ran r.only r.seat.1 (ap (λ (s : SeatState). s.cache) r.state) (ap (λ (s : SeatState). s.phase_seen) r.state) c.store_position.ensures.view in
    ((e.2, e.3), c.take.ensures.after)

pub returns-then-not-reads_full-clause-numbers : goal.returns-then-not-reads_full-clause-numbers
returns-then-not-reads_full-clause-numbers c =
    let v : View = view_of c.args.seat.now in
    let w : View = view_of c.reads_full.new.seat in
    let t = c.reads_full.ensures.read in
    keeps-up c.args.cache.now v w (changes-after v w ReadPhase t.0 refl (ran-took v w ReadPhase refl t) t.1.0)

pub returns-clause-numbers : goal.returns-clause-numbers
returns-clause-numbers c =
    let v : View = view_of c.args.seat.now in
    let w : View = view_of c.reads_full.new.seat in
    let x : View = view_of c.retire_some.new.seat in
    let y : View = view_of c.store_position.new.seat in
    let t = c.reads_full.ensures.read in
    let s = c.store_position.ensures.view in
    let done = c.args.done in
    let old = c.args.cache.now in
    let given = subst (λ k. GivesUp k None w x) c.take.ensures.value c.retire_some.ensures.numbers in
    subst (λ k. GivesUp old k v y) (sym c.take.ensures.after)
    (gives-join old old None v w y (keeps-up old v w (changes-after v w ReadPhase t.0 refl (ran-took v w ReadPhase refl t) t.1.0))
    (gives-join old None None w x y given (keeps-up None x y (changes-after x y (StorePosition done) done refl (ran-stored x y (StorePosition done) refl s) s))))

pub returns-then-not-reads_full-clause-few : goal.returns-then-not-reads_full-clause-few
returns-then-not-reads_full-clause-few c =
    let t = c.reads_full.ensures.read in let one = few-after (view_of c.args.seat.now) (view_of c.reads_full.new.seat) ReadPhase t.0 t.1.0 in omega (arith, one)

pub returns-clause-few : goal.returns-clause-few
returns-clause-few c =
    let v : View = view_of c.args.seat.now in
    let w : View = view_of c.reads_full.new.seat in
    let x : View = view_of c.retire_some.new.seat in
    let y : View = view_of c.store_position.new.seat in
    let t = c.reads_full.ensures.read in
    let r = c.retire_some.ensures in
    let s = c.store_position.ensures.view in
    let done = c.args.done in
    let stored = ran-stored x y (StorePosition done) refl s in
    few-join 1 4 v w y (ran-took v w ReadPhase refl t) (ran-join w x y r.ran stored) (few-after v w ReadPhase t.0 t.1.0) (few-join 3 1 w x y r.ran stored r.few (few-after x y (StorePosition done) done s))
