use Rattle.std.proofs.Common.{ℕ, ◌≡◌, List, [], ◌∷◌, ◌++◌, append_assoc, refl, sym, ap, ◌∙◌, true, false, not}
use Rattle.mark_core.specs.declared.kinds.Step.TheVariants.{EnterStep, LeaveStep}
use Rattle.gc_table.specs.Log.{event, events, all_steps}
use Rattle.gc_table.specs.Running.{Ran}
use Rattle.gc_table.specs.declared.view.Entry.{Entry}
use Rattle.gc_table.proofs.History.Log.{events-none, only-more, only-none}
use Rattle.gc_table.proofs.Running.{ran-events, ran-join, ran-only}
use Rattle.gc_cycle.specs.Answering.{waits_helping}
use Rattle.gc_cycle.specs.Events.{each_after, never}
use Rattle.gc_cycle.specs.Mutating.{is_in_stop, stays_calm}
use Rattle.gc_cycle.specs.Polling.{offered_help}
use Rattle.gc_cycle.specs.Sorts.{joins, leaves, pops_or_clears, resumes}
use Rattle.gc_cycle.specs.Sparing.{spares_part}
use Rattle.gc_cycle.proofs.Refills.Collected.{calm-spares}
use Rattle.gc_cycle.proofs.Stops.Waits.{entered-waits, offered-join, turned-waits}
use Rattle.std.specs.Prelude.{is_some}
use Rattle.gc_table.specs.Seats.{view_of}
use Rattle.gc_table.specs.declared.view.View.{View}
use Rattle.gc_cycle.proofs.SectionKept.{goes-out, out-join, out-none}
use Rattle.packet_pools.specs.Seeking.{some_event}
use Rattle.gc_cycle.specs.Standing.{IsOut}
use Rattle.gc_cycle.proofs.Sequences.{some-none}
use Rattle.gc_cycle.proofs.Stops.OutAndIn.{enters-in, turns-out}
use Rattle.packet_pools.proofs.Counting.{after-join, after-none}
use Rattle.std.proofs.lemmas.List.{append-nil}
use Rattle.gc_cycle.proofs.Stops.Outside.{works-on, turned-stop, stayed-out, unresumed-out}
use Rattle.gc_cycle.proofs.Turns.{apart-none, turns-join, turns-none, turns-waited}
use Rattle.gc_cycle.specs.Statistics.{leaves_numbers}
use Rattle.gc_cycle.proofs.stopping.go_in.Goals as goal

goes-waiting : (u v w x : View) (n m : ℕ) → Ran u v → Ran v w → Ran w x → events w x ≡ event EnterStep n ∷ event LeaveStep m ∷ [] → ((ys : List Entry) → waits_helping ys ≡ true → offered_help ys ≡ true → waits_helping (events u v ++ ys) ≡ true) → never leaves (events v w) ≡ true → offered_help (events v w) ≡ true → (ys : List Entry) → waits_helping ys ≡ true → offered_help ys ≡ true → waits_helping (events u x ++ ys) ≡ true
goes-waiting u v w x n m r q p e h s o ys a b =
    let later = ran-join v w x q p in
    let t = turned-waits (events v w) n m ys s o a b in
    let tail : events v x ++ ys ≡ events v w ++ (event EnterStep n ∷ event LeaveStep m ∷ ys) =
    ap (λ es. es ++ ys) (ran-events v w x q p ∙ ap (λ es. events v w ++ es) e) ∙ append_assoc (events v w) (event EnterStep n ∷ event LeaveStep m ∷ []) ys in
    let all : events u x ++ ys ≡ events u v ++ (events v w ++ (event EnterStep n ∷ event LeaveStep m ∷ ys)) =
    ap (λ es. es ++ ys) (ran-events u v x r later) ∙ (append_assoc (events u v) (events v x) ys ∙ ap (λ es. events u v ++ es) tail) in
    ap waits_helping all ∙ h (events v w ++ (event EnterStep n ∷ event LeaveStep m ∷ ys)) t.0 t.1

-- it waited outside, and then took steps that resume nothing
unresumed-on : (u v w x : View) → Ran u v → Ran v w → Ran w x → some_event resumes (events u v) ≡ false → never leaves (events v w) ≡ true → IsOut w → some_event resumes (events w x) ≡ false → some_event resumes (events u x) ≡ false
unresumed-on u v w x r q p a n o b =
    ap (some_event resumes) (ran-events u v x r (ran-join v w x q p))
    ∙ some-none resumes (events u v) (events v x) a
    (ap (some_event resumes) (ran-events v w x q p) ∙ some-none resumes (events v w) (events w x) (unresumed-out (events v w) (stayed-out v w q n o)) b)

-- it waited outside, and then took a step or two, by which it pops and clears nothing
waited-works : (before : List Entry) (u v w x : View) → Ran u v → Ran v w → Ran w x → (each_after is_in_stop pops_or_clears before (events u v) ≡ true) × (is_in_stop (before ++ events u v) ≡ true) → never leaves (events v w) ≡ true → IsOut w → some_event pops_or_clears (events w x) ≡ false → each_after is_in_stop pops_or_clears before (events u x) ≡ true
waited-works before u v w x r q p i n o b =
    let first : List Entry = before ++ events u v in
    ap (each_after is_in_stop pops_or_clears before) (ran-events u v x r (ran-join v w x q p) ∙ ap (λ es. events u v ++ es) (ran-events v w x q p))
    ∙ after-join is_in_stop pops_or_clears before (events u v) (events v w ++ events w x) i.0
    (after-join is_in_stop pops_or_clears first (events v w) (events w x) (works-on first (events v w) (stayed-out v w q n o) i.1) (after-none is_in_stop pops_or_clears (first ++ events v w) (events w x) b))

turned-back : (before : List Entry) (u v w x : View) (n m : ℕ) → Ran u v → Ran v w → Ran w x → events w x ≡ event EnterStep n ∷ event LeaveStep m ∷ [] → is_in_stop (before ++ events u x) ≡ true
turned-back before u v w x n m r q p e =
    ap is_in_stop
    (ap (λ es. before ++ es) (ran-events u w x (ran-join u v w r q) p ∙ ap (λ es. events u w ++ es) e) ∙ sym (append_assoc before (events u w) (event EnterStep n ∷ event LeaveStep m ∷ [])))
    ∙ turned-stop (before ++ events u w) n m

pub loop-init : goal.loop-init
loop-init g c =
    let u : View = view_of c.args.seat.now in
    record {
      next = tt;
      finite = tt;
      sits = c.requires.seat.0;
      out = c.requires.seat.1;
      goes = out-none u;
      own = refl;
      waits = λ ys p q. ap (λ es. waits_helping (es ++ ys)) (events-none u) ∙ p;
      offered = ap offered_help (events-none u);
      numbers = only-none leaves_numbers u;
      helps = turns-none u u (apart-none u);
      away = λ before h. (ap (each_after is_in_stop pops_or_clears before) (events-none u), ap is_in_stop (ap (λ es. before ++ es) (events-none u) ∙ append-nil before) ∙ h);
      unresumed = ap (some_event resumes) (events-none u);
    }

pub loop-preserved : goal.loop-preserved
loop-preserved g c =
    let u : View = view_of c.args.seat.now in
    let v : View = view_of c.loop.seat in
    let w : View = view_of c.await_resumed_helping.new.seat in
    let x : View = view_of c.enter.new.seat in
    let i = c.loop.invariant in
    let a = c.await_resumed_helping.ensures in
    let b = c.if-enter.ensures.turns in
    let t = turns-out w x a.seat.1 c.enter.ensures.ran b in
    record {
      next = tt;
      finite = tt;
      sits = c.enter.ensures.seat;
      out = t.0;
      goes = out-join u v x i.goes (out-join v w x (goes-out v w a.ran a.only) t.1);
      own = t.2 ∙ (a.own ∙ i.own);
      waits = λ ys p q. goes-waiting u v w x b.word b.left i.goes.ran a.ran c.enter.ensures.ran b.events i.waits a.inside a.offered ys p q;
      offered =
          ap offered_help (ran-events u v x i.goes.ran (ran-join v w x a.ran c.enter.ensures.ran))
          ∙ offered-join (events u v) (events v x) i.offered
          (ap offered_help (ran-events v w x a.ran c.enter.ensures.ran ∙ ap (λ es. events v w ++ es) b.events) ∙ (turned-waits (events v w) b.word b.left [] a.inside a.offered refl refl).1);
      numbers = ran-only leaves_numbers u v x i.goes.ran (ran-join v w x a.ran c.enter.ensures.ran) i.numbers (ran-only leaves_numbers v w x a.ran c.enter.ensures.ran a.numbers (ap (all_steps leaves_numbers) b.events));
      helps = turns-join u v x i.helps (turns-join v w x (turns-waited v w a.helps) (turns-none w x (record { ran = c.enter.ensures.ran; apart = ap (never joins) b.events })));
      away = λ before h. (waited-works before u v w x i.goes.ran a.ran c.enter.ensures.ran (i.away before h) a.inside a.seat.1 (ap (some_event pops_or_clears) b.events), turned-back before u v w x b.word b.left i.goes.ran a.ran c.enter.ensures.ran b.events);
      unresumed = unresumed-on u v w x i.goes.ran a.ran c.enter.ensures.ran i.unresumed a.inside a.seat.1 (ap (some_event resumes) b.events);
    }

pub returns-then-enter-clause-seat : goal.returns-then-enter-clause-seat
returns-then-enter-clause-seat g c =
    let u : View = view_of c.args.seat.now in
    let v : View = view_of c.loop.seat in
    let w : View = view_of c.await_resumed_helping.new.seat in
    let x : View = view_of c.enter.new.seat in
    let i = c.loop.invariant in
    let a = c.await_resumed_helping.ensures in
    let here : is_some w.state.section ≡ true = ap (λ o. is_some o) (a.keeps.section ∙ i.goes.seat.section) ∙ c.requires.section in
    (c.enter.ensures.seat, (enters-in w x a.seat.1 here c.enter.ensures.ran c.if-enter.ensures.enters).0)

pub returns-then-enter-clause-entered : goal.returns-then-enter-clause-entered
returns-then-enter-clause-entered g c =
    let u : View = view_of c.args.seat.now in
    let v : View = view_of c.loop.seat in
    let w : View = view_of c.await_resumed_helping.new.seat in
    let x : View = view_of c.enter.new.seat in
    let i = c.loop.invariant in
    let a = c.await_resumed_helping.ensures in
    let here : is_some w.state.section ≡ true = ap (λ o. is_some o) (a.keeps.section ∙ i.goes.seat.section) ∙ c.requires.section in
    let t = enters-in w x a.seat.1 here c.enter.ensures.ran c.if-enter.ensures.enters in
    record { out = out-join u v x i.goes (out-join v w x (goes-out v w a.ran a.only) t.1); cache = t.3; position = ap (λ s. s.position) (t.2 ∙ (a.own ∙ i.own)) }

pub returns-then-enter-clause-waits : goal.returns-then-enter-clause-waits
returns-then-enter-clause-waits g c =
    let u : View = view_of c.args.seat.now in
    let v : View = view_of c.loop.seat in
    let w : View = view_of c.await_resumed_helping.new.seat in
    let x : View = view_of c.enter.new.seat in
    let i = c.loop.invariant in
    let a = c.await_resumed_helping.ensures in
    let b = c.if-enter.ensures.enters in
    let t = entered-waits (events v w) b.word a.inside a.offered in
    ap waits_helping (ran-events u v x i.goes.ran (ran-join v w x a.ran c.enter.ensures.ran) ∙ ap (λ es. events u v ++ es) (ran-events v w x a.ran c.enter.ensures.ran ∙ ap (λ es. events v w ++ es) b.events))
    ∙ i.waits (events v w ++ event EnterStep b.word ∷ []) t.0 t.1

pub returns-then-enter-clause-offered : goal.returns-then-enter-clause-offered
returns-then-enter-clause-offered g c =
    let u : View = view_of c.args.seat.now in
    let v : View = view_of c.loop.seat in
    let w : View = view_of c.await_resumed_helping.new.seat in
    let x : View = view_of c.enter.new.seat in
    let i = c.loop.invariant in
    let a = c.await_resumed_helping.ensures in
    let b = c.if-enter.ensures.enters in
    let t = entered-waits (events v w) b.word a.inside a.offered in
    ap offered_help (ran-events u v x i.goes.ran (ran-join v w x a.ran c.enter.ensures.ran) ∙ ap (λ es. events u v ++ es) (ran-events v w x a.ran c.enter.ensures.ran ∙ ap (λ es. events v w ++ es) b.events))
    ∙ offered-join (events u v) (events v w ++ event EnterStep b.word ∷ []) i.offered t.1

pub returns-then-enter-clause-spares : goal.returns-then-enter-clause-spares
returns-then-enter-clause-spares g c =
    let u : View = view_of c.args.seat.now in
    let v : View = view_of c.loop.seat in
    let w : View = view_of c.await_resumed_helping.new.seat in
    let x : View = view_of c.enter.new.seat in
    let i = c.loop.invariant in
    let a = c.await_resumed_helping.ensures in
    let here : is_some w.state.section ≡ true = ap (λ o. is_some o) (a.keeps.section ∙ i.goes.seat.section) ∙ c.requires.section in
    let t = enters-in w x a.seat.1 here c.enter.ensures.ran c.if-enter.ensures.enters in
    only-more stays_calm spares_part calm-spares u x (out-join u v x i.goes (out-join v w x (goes-out v w a.ran a.only) t.1)).only

pub returns-then-enter-clause-helps : goal.returns-then-enter-clause-helps
returns-then-enter-clause-helps g c =
    let v : View = view_of c.loop.seat in
    let w : View = view_of c.await_resumed_helping.new.seat in
    let x : View = view_of c.enter.new.seat in
    turns-join (view_of c.args.seat.now) v x c.loop.invariant.helps
    (turns-join v w x (turns-waited v w c.await_resumed_helping.ensures.helps) (turns-none w x (record { ran = c.enter.ensures.ran; apart = ap (never joins) c.if-enter.ensures.enters.events })))

pub returns-then-enter-clause-numbers : goal.returns-then-enter-clause-numbers
returns-then-enter-clause-numbers g c =
    let u : View = view_of c.args.seat.now in
    let v : View = view_of c.loop.seat in
    let w : View = view_of c.await_resumed_helping.new.seat in
    let x : View = view_of c.enter.new.seat in
    let i = c.loop.invariant in
    let a = c.await_resumed_helping.ensures in
    ran-only leaves_numbers u v x i.goes.ran (ran-join v w x a.ran c.enter.ensures.ran) i.numbers
    (ran-only leaves_numbers v w x a.ran c.enter.ensures.ran a.numbers (ap (all_steps leaves_numbers) c.if-enter.ensures.enters.events))

pub returns-then-enter-clause-unresumed : goal.returns-then-enter-clause-unresumed
returns-then-enter-clause-unresumed g c =
    let i = c.loop.invariant in
    let a = c.await_resumed_helping.ensures in
    ap not
    (unresumed-on (view_of c.args.seat.now) (view_of c.loop.seat) (view_of c.await_resumed_helping.new.seat) (view_of c.enter.new.seat) i.goes.ran a.ran c.enter.ensures.ran i.unresumed a.inside a.seat.1
    (ap (some_event resumes) c.if-enter.ensures.enters.events))

pub returns-then-enter-clause-away : goal.returns-then-enter-clause-away
returns-then-enter-clause-away g c = λ before h.
    let i = c.loop.invariant in
    let a = c.await_resumed_helping.ensures in
    waited-works before (view_of c.args.seat.now) (view_of c.loop.seat) (view_of c.await_resumed_helping.new.seat) (view_of c.enter.new.seat) i.goes.ran a.ran c.enter.ensures.ran (i.away before h) a.inside a.seat.1
    (ap (some_event pops_or_clears) c.if-enter.ensures.enters.events)
