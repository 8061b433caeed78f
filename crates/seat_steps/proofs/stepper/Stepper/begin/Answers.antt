use Rattle.std.proofs.Common.{◌∙◌, Bool, ap, inl, refl, subst, sym}
use Rattle.std.specs.Prelude.{◌&&◌, ◌||◌, if◌then◌else◌, not}
use Rattle.gc_table.specs.Seats.{state_of, view_of}
use Rattle.mark_core.specs.Seats.{saw}
use Rattle.mark_core.specs.declared.kinds.Phase.TheVariants.{Marking}
use Rattle.gc_table.proofs.Running.{ran-join}
use Rattle.mutator_ops.specs.Few.{AtMost}
use Rattle.seat_turns.proofs.Leaving.{leaves-join}
use Rattle.seat_steps.specs.Asked.{MarksSinceAsked, WaitsSinceAsked}
use Rattle.seat_steps.specs.declared.stepper.Stage.TheVariants as stages
use Rattle.seat_steps.proofs.Amounts.{few-join, looks-once, out-few, stopped-few, course-few, sees-first}
use Rattle.seat_steps.proofs.Sparing.{Kept, course-kept, goes-on, keeps-rest, kept-join, looks-kept, runs-again, sits-in, sits-on}
use Rattle.seat_steps.proofs.ReadFull.{begins-full}
use Rattle.seat_steps.proofs.SinceAsked.{marks-begun, waits-looked}
use Rattle.seat_steps.proofs.Stages.{bounded-on, step-on}
use Rattle.seat_steps.proofs.Undrawn.{holds-apart}
use Rattle.seat_steps.proofs.stepper.Stepper.begin.Goals as goal
use Rattle.seat_steps.proofs.stepper.Stepper.begin.Goals.{After-finds_stopped}

-- the look at the world
kept : (c : After-finds_stopped) → Kept c.args.self.now.seat c.finds_stopped.new.seat
kept c = let s = c.finds_stopped.ensures in looks-kept c.finds_stopped.result _ _ c.args.self.now.seat c.finds_stopped.new.seat s.ran s.stopped s.not_yet s.keeps

waits : (c : After-finds_stopped) → WaitsSinceAsked (view_of c.finds_stopped.new.seat)
waits c =
    let x = c.args.self.now in
    let s = c.finds_stopped.ensures in
    waits-looked c.finds_stopped.result _ _ (view_of x.seat) (view_of c.finds_stopped.new.seat) s.stopped s.not_yet s.ran (x.stopping c.requires.stopping).since

pub finds_stopped-requires : goal.finds_stopped-requires
finds_stopped-requires c = let x = c.args.self.now in let s = x.stopping c.requires.stopping in record { seat = sits-in _ _ x.seat c.deref.ensures s.sits; asks = s.stands }

pub returns-then-not-finds_stopped : goal.returns-then-not-finds_stopped
returns-then-not-finds_stopped c =
    let x = c.args.self.now in
    let running = c.if-not-finds_stopped.ensures.not_yet.1 in
    record {
      collects = λ precise most. step-on precise most x _ stages.Stopping stages.Stopping c.requires.stopping c.requires.stopping (refl, refl, (refl, (refl, refl, refl), refl, refl, refl)) (running, refl) (keeps-rest x _ (kept (goal.at.returns-then-not-finds_stopped c).After-finds_stopped) refl refl);
      bounded = λ most. bounded-on most x _ stages.Stopping stages.Stopping c.requires.stopping c.requires.stopping (looks-once (view_of x.seat) (view_of c.finds_stopped.new.seat) running);
    }

pub invariant_of-self-clause-stopping : goal.invariant_of-self-clause-stopping
invariant_of-self-clause-stopping c = λ is.
    let x = c.args.self.now in
    let here = (goal.at.invariant_of-self-clause-stopping c).After-finds_stopped in
    goes-on _ _ x.seat c.finds_stopped.new.seat c.deref.ensures (x.stopping c.requires.stopping).mutator (kept here) c.finds_stopped.ensures.seat c.if-not-finds_stopped.ensures.not_yet.0 (waits here)

pub returns-then-begin_collection : goal.returns-then-begin_collection
returns-then-begin_collection c =
    let x = c.args.self.now in
    let u = view_of x.seat in
    let v = view_of c.finds_stopped.new.seat in
    let w = view_of c.begin_collection.new.seat in
    let stopped = c.if-not-finds_stopped.ensures.stopped in
    let b = c.begin_collection.ensures in
    let course = c.if-begin_collection.ensures.course in
    let found = kept (goal.at.returns-then-begin_collection c).After-finds_stopped in
    let read = c.read_marking-marking.ensures.marking in
    let begun = course-kept c.finds_stopped.new.seat c.begin_collection.new.seat b.ran course.only b.keeps in
    record {
      collects = λ precise most.
          step-on precise most x _ stages.Stopping stages.Rooting c.requires.stopping refl (refl, refl)
          (record { stopped = v; finds = stopped.1; course = course; once_more = c.marks_again-self.ensures.again ∙ ap (λ (m : Bool). x.precise && m) read; exactly = c.leaves_none-self.ensures.exact ∙ ap (λ (m : Bool). x.precise || not m) read }, refl, refl, (refl, refl, refl), refl)
          (keeps-rest x _ (kept-join x.seat c.finds_stopped.new.seat c.begin_collection.new.seat found begun) refl refl);
      bounded = λ most.
          bounded-on most x _ stages.Stopping stages.Rooting c.requires.stopping refl
          (few-join 2 3 u v w found.leaves.ran b.ran (stopped-few u v stopped.1) (course-few 3 _ _ v w refl course (holds-apart v stopped.0) (subst (λ (is : Bool). AtMost (if is then 3 else 1) v w) c.if-begin_collection.true b.few)));
    }

pub invariant_of-self-then-begin_collection-clause-rooting : goal.invariant_of-self-then-begin_collection-clause-rooting
invariant_of-self-then-begin_collection-clause-rooting c = λ is.
    let x = c.args.self.now in
    let y = c.finds_stopped.new.seat in
    let z = c.begin_collection.new.seat in
    let here = (goal.at.invariant_of-self-then-begin_collection-clause-rooting c).After-finds_stopped in
    let b = c.begin_collection.ensures in
    let i = c.if-begin_collection.ensures in
    let marks = marks-begun x.precise _ (view_of y) (view_of z) c.if-not-finds_stopped.ensures.stopped.0 i.begun.1 (waits here) i.course i.exact in
    goes-on _ _ x.seat z c.deref-2.ensures (x.stopping c.requires.stopping).mutator (kept-join x.seat y z (kept here) (course-kept y z b.ran i.course.only b.keeps)) b.seat (sees-first (view_of z) i.begun.0)
    (subst (λ (a : Bool). MarksSinceAsked c.leaves_none-self.result a (view_of z)) (sym (c.marks_again-self.ensures.again ∙ ap (λ (m : Bool). x.precise && m) c.read_marking-marking.ensures.marking))
    (subst (λ (e : Bool). MarksSinceAsked e (x.precise && saw (state_of y).phase_seen Marking) (view_of z)) (sym (c.leaves_none-self.ensures.exact ∙ ap (λ (m : Bool). x.precise || not m) c.read_marking-marking.ensures.marking)) marks))

pub leave-requires : goal.leave-requires
leave-requires c =
    let x = c.args.self.now in
    let y = c.finds_stopped.new.seat in
    let z = c.begin_collection.new.seat in
    let b = c.begin_collection.ensures in
    let i = c.if-begin_collection.ensures in
    let found = kept (goal.at.leave-requires c).After-finds_stopped in
    record {
      halts = runs-again _ x.seat z (x.stopping c.requires.stopping).mutator (kept-join x.seat y z found (course-kept y z b.ran i.over.only b.keeps)) (sits-in _ _ z c.deref-3.ensures (sits-on _ _ z c.deref-2.ensures b.seat)) i.full.0;
    }

pub returns : goal.returns
returns c =
    let x = c.args.self.now in
    let t = view_of x.seat in
    let u = view_of c.finds_stopped.new.seat in
    let v = view_of c.begin_collection.new.seat in
    let w = view_of c.leave.new.seat in
    let b = c.begin_collection.ensures in
    let l = c.leave.ensures in
    let stopped = c.if-not-finds_stopped.ensures.stopped in
    let i = c.if-begin_collection.ensures in
    let known = i.full.1 in
    let read = c.read_marking-marking.ensures.marking in
    let found = kept (goal.at.returns c).After-finds_stopped in
    let all = kept-join x.seat c.finds_stopped.new.seat c.begin_collection.new.seat found (course-kept c.finds_stopped.new.seat c.begin_collection.new.seat b.ran i.over.only b.keeps) in
    record {
      collects = λ precise most. (
        inl (
          c.requires.stopping,
          record {
            stopped = u;
            finds = stopped.1;
            resumed = v;
            course = i.over;
            leaves = l.out;
            full = begins-full t u v w found.leaves.ran stopped.1 i.over known l.ran (l.full known);
            once_more = c.marks_again-self.ensures.again ∙ ap (λ (m : Bool). x.precise && m) read;
            exactly = c.leaves_none-self.ensures.exact ∙ ap (λ (m : Bool). x.precise || not m) read;
          },
          refl,
          (refl, (refl, refl, refl), refl, refl, refl),
        ),
        l.full known,
        refl,
        record { heap = l.same ∙ all.same; leaves = leaves-join t v w all.leaves l.leaves; world = refl; name_is = refl; stops = refl; search = record { paid_is = refl; block = refl; seen = refl } },
      );
      bounded = λ most.
          bounded-on most x _ stages.Stopping stages.Outside c.requires.stopping refl
          (few-join 2 3 t u w found.leaves.ran (ran-join u v w b.ran l.ran) (stopped-few t u stopped.1)
          (few-join 1 2 u v w b.ran l.ran (course-few 1 _ _ u v refl i.over (holds-apart u stopped.0) (subst (λ (is : Bool). AtMost (if is then 3 else 1) u v) c.if-begin_collection.false b.few)) (out-few v w l.out)));
    }
