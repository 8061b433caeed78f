use Rattle.std.proofs.Common.{◌∙◌, None, arith, refl, ap, []}
use Rattle.mark_core.specs.declared.kinds.Step.TheVariants.{ReadPhase, StorePosition}
use Rattle.gc_table.specs.Seats.{view_of}
use Rattle.gc_table.specs.declared.view.View.{View}
use Rattle.gc_table.proofs.History.Log.{only-none}
use Rattle.gc_table.proofs.Running.{ran-refl, ran-took, ran-stored}
use Rattle.gc_cycle.specs.Answering.{retires}
use Rattle.gc_cycle.proofs.Refills.Answered.{cached-still, ends-full}
use Rattle.gc_cycle.proofs.Changes.{by-join, changes-after}
use Rattle.gc_cycle.proofs.Few.{few-after, few-join}
use Rattle.gc_cycle.proofs.collecting.stores_if_full.Goals as goal

pub returns-then-not-reads_full-clause-ran : goal.returns-then-not-reads_full-clause-ran
returns-then-not-reads_full-clause-ran c = ran-took (view_of c.args.seat.now) (view_of c.reads_full.new.seat) ReadPhase refl c.reads_full.ensures.read

pub returns-then-not-reads_full-clause-going : goal.returns-then-not-reads_full-clause-going
returns-then-not-reads_full-clause-going c =
    let v : View = view_of c.args.seat.now in
    let w : View = view_of c.reads_full.new.seat in
    let t = c.reads_full.ensures.read in
    record { same = refl; cached = cached-still None v w (ap (λ (x : View). x.state.cache) t.1.0) c.requires.cache; looked = t; going = c.if-not-reads_full.ensures.going }

pub returns-clause-ran : goal.returns-clause-ran
returns-clause-ran c =
    let v : View = view_of c.args.seat.now in
    let w : View = view_of c.reads_full.new.seat in
    let t = c.reads_full.ensures.read in
    let f = c.if-not-reads_full.ensures.full in
    (ends-full v w w (view_of c.store_position.new.seat) c.args.done t f.1 f.0 (ran-refl w) (only-none retires w) c.reads_full.ensures.seat.1 (ap (λ (x : View). x.state.cache) t.1.0 ∙ c.requires.cache) refl c.store_position.ensures.view).0

pub returns-clause-full : goal.returns-clause-full
returns-clause-full c =
    let v : View = view_of c.args.seat.now in
    let w : View = view_of c.reads_full.new.seat in
    let t = c.reads_full.ensures.read in
    let f = c.if-not-reads_full.ensures.full in
    let e = ends-full v w w (view_of c.store_position.new.seat) c.args.done t f.1 f.0 (ran-refl w) (only-none retires w) c.reads_full.ensures.seat.1 (ap (λ (x : View). x.state.cache) t.1.0 ∙ c.requires.cache) refl c.store_position.ensures.view in
    (e.2, e.3)

pub returns-then-not-reads_full-clause-numbers : goal.returns-then-not-reads_full-clause-numbers
returns-then-not-reads_full-clause-numbers c =
    let v : View = view_of c.args.seat.now in
    let w : View = view_of c.reads_full.new.seat in
    let t = c.reads_full.ensures.read in
    changes-after v w ReadPhase t.0 refl (ran-took v w ReadPhase refl t) t.1.0

pub returns-clause-numbers : goal.returns-clause-numbers
returns-clause-numbers c =
    let v : View = view_of c.args.seat.now in
    let w : View = view_of c.reads_full.new.seat in
    let x : View = view_of c.store_position.new.seat in
    let t = c.reads_full.ensures.read in
    let s = c.store_position.ensures.view in
    by-join [] [] v w x (changes-after v w ReadPhase t.0 refl (ran-took v w ReadPhase refl t) t.1.0)
    (changes-after w x (StorePosition c.args.done) c.args.done refl (ran-stored w x (StorePosition c.args.done) refl s) s)

pub returns-then-not-reads_full-clause-few : goal.returns-then-not-reads_full-clause-few
returns-then-not-reads_full-clause-few c =
    let t = c.reads_full.ensures.read in let one = few-after (view_of c.args.seat.now) (view_of c.reads_full.new.seat) ReadPhase t.0 t.1.0 in omega (arith, one)

pub returns-clause-few : goal.returns-clause-few
returns-clause-few c =
    let v : View = view_of c.args.seat.now in
    let w : View = view_of c.reads_full.new.seat in
    let x : View = view_of c.store_position.new.seat in
    let t = c.reads_full.ensures.read in
    let s = c.store_position.ensures.view in
    let done = c.args.done in
    few-join 1 1 v w x (ran-took v w ReadPhase refl t) (ran-stored w x (StorePosition done) refl s) (few-after v w ReadPhase t.0 t.1.0) (few-after w x (StorePosition done) done s)
