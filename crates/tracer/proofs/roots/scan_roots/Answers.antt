use Rattle.std.proofs.Common.{ℕ, ◌≡◌, ◌+◌, [], ◌∷◌, sym, ap, ◌∙◌, subst, refl, arith, ◌*◌, false}
use Rattle.std.specs.Prelude.{◌==◌}
use Rattle.mark_core.specs.Numbers.{section_variables}
use Rattle.mark_core.specs.Seats.{work_in_hand}
use Rattle.mark_core.specs.declared.kinds.Shape.{Shape}
use Rattle.mark_core.specs.declared.seat.SeatState.{SeatState}
use Rattle.packet_pools.proofs.Counting.{after-join, given-moves, quiet}
use Rattle.packet_pools.proofs.TracedSteps.{traced-join}
use Rattle.gc_table.proofs.History.Log.{events-join}
use Rattle.tracer.specs.Hands.{IsIdle}
use Rattle.tracer.specs.Roots.{FollowsRoots, roots_of}
use Rattle.tracer.proofs.Carried.{carries-give, carries-head}
use Rattle.tracer.proofs.RootScans.{roots-join, roots-moves, roots-next, roots-owe, seen-all, seen-next}
use Rattle.tracer.proofs.Whole.{append-none, keeps-record}
use Rattle.gc_table.specs.declared.view.View.{View}
use Rattle.gc_table.specs.Seats.{view_of}
use Rattle.packet_pools.specs.OnlyTraced.{OnlyTraced}
use Rattle.packet_pools.specs.Seeking.{output_pools}
use Rattle.gc_table.specs.Log.{events}
use Rattle.packet_pools.specs.declared.search.Search.{Search}
use Rattle.packet_pools.specs.Counts.{dirties}
use Rattle.packet_pools.specs.Orders.{some_end}
use Rattle.packet_pools.specs.StepBounds.{follow_steps, give_steps, room_left}
use Rattle.packet_pools.specs.Tried.{DirtiesLast, IsTried, all_tried}
use Rattle.packet_pools.proofs.Few.{another, few-steps, few-sum, given-few}
use Rattle.packet_pools.proofs.RoomLeft.{room-whole}
use Rattle.packet_pools.proofs.TriedFirst.{last-join, last-none}
use Rattle.tracer.proofs.roots.scan_roots.Goals as goal

pub returns-in_default-clause-cause : goal.returns-in_default-clause-cause
returns-in_default-clause-cause c =
    let es = events (view_of c.args.seat.now) (view_of c.take_either.new.seat) in
    last-none c.args.heap.now.shape es (quiet es c.in_default.ensures.moves)

pub loop-variable-init : goal.loop-variable-init
loop-variable-init c =
    let v : View = view_of c.args.seat.now in
    let w : View = view_of c.take_either.new.seat in
    let e = c.in-Some.ensures in
    let sh : Shape = c.args.heap.now.shape in
    let h = c.in-Some.out in
    record {
      sits = e.seat.0;
      traces = e.seat.1;
      only = e.only;
      out = e.some;
      work = e.work;
      most = omega arith;
      follows = (0, omega arith, roots-moves c.args.heap.now.shape (events v w) e.moves);
      seen = λ v l. absurd (omega (arith, l));
      tried = subst (λ (x : Search). IsTried sh (λ p. false) x h (events v w)) (sym c.open-search.ensures) tt;
      cause = last-none sh (events v w) (quiet (events v w) e.moves);
      few =
          (let few = e.few in
          let fits = (carries-head h [] w e.some).fits in
          let entries = ap (λ (x : Shape). x.entries) e.seat.0.1 in
          let most = room-whole sh h.length (omega (arith, fits, entries)) in
          let begun = ap (λ (x : Search). room_left sh x h.length) c.open-search.ensures in
          omega (arith, few, most, begun));
    }

pub loop-variable-preserved : goal.loop-variable-preserved
loop-variable-preserved c =
    let sh : Shape = c.args.heap.now.shape in
    let v : View = view_of c.args.seat.now in
    let w : View = view_of c.loop-variable.seat in
    let x : View = view_of c.scan_root-marked.new.seat in
    let n : ℕ = c.loop-variable.variable in
    let i = c.loop-variable.invariant in
    let e = c.scan_root-marked.ensures in
    record {
      sits = e.seat.0;
      traces = e.seat.1;
      only = traced-join v w x i.only e.only;
      out = e.out;
      work = e.work;
      most = omega (arith, i.most, e.most.1);
      follows = (
        i.follows.0 + c.scan_root-marked.result.overflowed,
        (let a = i.follows.1 in let b = e.most.0 in omega (arith, a, b)),
        subst (λ l. FollowsRoots sh l (c.loop-variable.marked + c.scan_root-marked.result.marked) (i.follows.0 + c.scan_root-marked.result.overflowed) (events v x)) (roots-next c.args.section n)
            (roots-join sh (roots_of c.args.section n) ((c.args.section, n) ∷ []) _ _ _ _ _ _ (events v w) (events w x) (events v x) (events-join v w x i.only.log e.only.log) refl refl i.follows.2 e.follows),
      );
      seen = seen-next c.args.section n (events v w) (events w x) (events v x) (events-join v w x i.only.log e.only.log) i.seen e.seen;
      tried = subst (IsTried sh (λ p. false) c.scan_root-marked.new.search c.scan_root-marked.new.out) (sym (events-join v w x i.only.log e.only.log)) (e.tried.leads (λ p. false) (events v w) i.tried);
      cause =
          subst (DirtiesLast sh) (sym (events-join v w x i.only.log e.only.log))
          (after-join (some_end (all_tried sh (λ p. false))) dirties [] (events v w) (events w x) i.cause (e.tried.cause (λ p. false) (events v w) i.tried));
      few =
          (let all = few-sum v w x i.only.ran e.only.ran in
          let before = i.few in
          let one = e.few in
          let grown = another n (follow_steps sh) in
          omega (arith, all, before, one, grown));
    }

pub returns-clause-only : goal.returns-clause-only
returns-clause-only c = traced-join (view_of c.args.seat.now) (view_of c.loop-variable.seat) (view_of c.give.new.seat) c.loop-variable.invariant.only c.give.ensures.only

-- all roots were scanned, and the packet was given back
ended : (sh : Shape) (section n marked lost : ℕ) (v w x : View) → OnlyTraced v w → OnlyTraced w x → n ≡ section_variables → FollowsRoots sh (roots_of section n) marked lost (events v w) → FollowsRoots sh [] 0 0 (events w x) → FollowsRoots sh (roots_of section section_variables) marked lost (events v x)
ended sh section n marked lost v w x a b all f g =
    subst (λ l. FollowsRoots sh l marked lost (events v x)) (sym (append-none (roots_of section n)) ∙ ap (roots_of section) all)
    (roots-join sh (roots_of section n) [] marked 0 marked lost 0 lost (events v w) (events w x) (events v x) (events-join v w x a.log b.log) (omega arith) (omega arith) f g)

pub returns-clause-scanned : goal.returns-clause-scanned
returns-clause-scanned c =
    let sh : Shape = c.args.heap.now.shape in
    let v : View = view_of c.args.seat.now in
    let w : View = view_of c.loop-variable.seat in
    let x : View = view_of c.give.new.seat in
    let i = c.loop-variable.invariant in
    let g = c.give.ensures in
    let past = c.loop-variable-test.false in
    let most = c.loop-variable.auto.variable-end in
    let all : c.loop-variable.variable ≡ section_variables = omega (arith, past, most) in (
      i.follows.0,
      i.follows.1,
      subst (λ s. FollowsRoots s (roots_of c.args.section section_variables) c.loop-variable.marked i.follows.0 (events v x)) (sym c.requires.seat.0.1)
          (ended sh c.args.section c.loop-variable.variable c.loop-variable.marked i.follows.0 v w x i.only g.only all i.follows.2
          (roots-moves sh (events w x) (given-moves output_pools c.loop-variable.out.packet (c.loop-variable.out.length == 0) (events w x) g.steps))),
    )

pub returns-clause-idle : goal.returns-clause-idle
returns-clause-idle c =
    let v : View = view_of c.args.seat.now in
    let w : View = view_of c.loop-variable.seat in
    let x : View = view_of c.give.new.seat in
    let i = c.loop-variable.invariant in
    let g = c.give.ensures in
    let later : OnlyTraced v x = traced-join v w x i.only g.only in
    record {
      held = (carries-give w x g.only.shape c.loop-variable.out [] (ap (λ (s : SeatState). s.held) g.state) i.out).held;
      work = ap (λ (s : Shape). work_in_hand s.fields x.state) g.seat.0.1 ∙ (ap (work_in_hand c.args.heap.now.shape.fields) g.state ∙ i.work);
      block = ap (λ (s : SeatState). s.block) later.rest ∙ c.requires.idle.block;
    }

pub returns-clause-state : goal.returns-clause-state
returns-clause-state c =
    let sh : Shape = c.args.heap.now.shape in
    let v : View = view_of c.args.seat.now in
    let w : View = view_of c.loop-variable.seat in
    let x : View = view_of c.give.new.seat in
    let i = c.loop-variable.invariant in
    let g = c.give.ensures in
    let later : OnlyTraced v x = traced-join v w x i.only g.only in
    let idle : IsIdle x =
    record {
      held = (carries-give w x g.only.shape c.loop-variable.out [] (ap (λ (s : SeatState). s.held) g.state) i.out).held;
      work = ap (λ (s : Shape). work_in_hand s.fields x.state) g.seat.0.1 ∙ (ap (work_in_hand sh.fields) g.state ∙ i.work);
      block = ap (λ (s : SeatState). s.block) later.rest ∙ c.requires.idle.block;
    } in
    let past = c.loop-variable-test.false in
    let most = c.loop-variable.auto.variable-end in
    let all : c.loop-variable.variable ≡ section_variables = omega (arith, past, most) in
    keeps-record v x later c.requires.seat.1 g.seat.1 c.requires.idle idle
    (roots-owe v x later
    (ended sh c.args.section c.loop-variable.variable c.loop-variable.marked i.follows.0 v w x i.only g.only all i.follows.2
    (roots-moves sh (events w x) (given-moves output_pools c.loop-variable.out.packet (c.loop-variable.out.length == 0) (events w x) g.steps))).steps)

pub returns-clause-seen : goal.returns-clause-seen
returns-clause-seen c =
    let v : View = view_of c.args.seat.now in
    let w : View = view_of c.loop-variable.seat in
    let x : View = view_of c.give.new.seat in
    let i = c.loop-variable.invariant in
    let past = c.loop-variable-test.false in
    let most = c.loop-variable.auto.variable-end in
    seen-all c.args.section c.loop-variable.variable (events v w) (events w x) (events v x) (events-join v w x i.only.log c.give.ensures.only.log) (omega (arith, past, most)) i.seen

pub returns-clause-cause : goal.returns-clause-cause
returns-clause-cause c =
    let sh : Shape = c.args.heap.now.shape in
    let v : View = view_of c.args.seat.now in
    let w : View = view_of c.loop-variable.seat in
    let x : View = view_of c.give.new.seat in
    let i = c.loop-variable.invariant in
    let g = c.give.ensures in
    last-join sh (events v w) (events w x) (events v x) (events-join v w x i.only.log g.only.log) i.cause
    (last-none sh (events w x) (quiet (events w x) (given-moves output_pools c.loop-variable.out.packet (c.loop-variable.out.length == 0) (events w x) g.steps)))

pub returns-clause-few : goal.returns-clause-few
returns-clause-few c =
    let sh : Shape = c.args.heap.now.shape in
    let v : View = view_of c.args.seat.now in
    let w : View = view_of c.loop-variable.seat in
    let x : View = view_of c.give.new.seat in
    let i = c.loop-variable.invariant in
    let g = c.give.ensures in
    let past = c.loop-variable-test.false in
    let most = c.loop-variable.auto.variable-end in
    let end : c.loop-variable.variable ≡ section_variables = omega (arith, past, most) in
    let scanned = i.few in
    let each = ap (λ n. n * follow_steps sh) end in
    let all = few-sum v w x i.only.ran g.only.ran in
    let last = few-steps give_steps w x _ g.steps (given-few c.loop-variable.out.packet false (c.loop-variable.out.length == 0)) in
    omega (arith, scanned, each, all, last)
