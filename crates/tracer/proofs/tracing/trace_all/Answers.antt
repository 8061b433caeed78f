use Rattle.std.proofs.Common.{ℕ, ◌≡◌, ◌+◌, ◌-◌, ◌%◌, ◌<◌, ◌≤◌, inr, length, Option, None, sym, ap, ◌∙◌, subst, refl, arith, ⊎_elim}
use Rattle.std.proofs.lemmas.Bool.{cases_eq}
use Rattle.mark_core.specs.Seats.{is_the}
use Rattle.mark_core.specs.declared.kinds.Shape.{Shape}
use Rattle.mark_core.specs.declared.seat.SeatState.{SeatState}
use Rattle.gc_table.proofs.History.Log.{events-join}
use Rattle.packet_pools.proofs.TracedSteps.{traced-join}
use Rattle.tracer.specs.declared.packets.Packets.{Packets}
use Rattle.tracer.specs.Deferral.{waits}
use Rattle.tracer.specs.Hands.{Carries, HasCellAndRoom, HasNoCell, packet_of, packets_of}
use Rattle.tracer.specs.Parts.{SearchedInVain, NothingFound, Did}
use Rattle.tracer.proofs.Joined.{did-then}
use Rattle.gc_table.specs.declared.view.View.{View}
use Rattle.gc_table.specs.Seats.{view_of}
use Rattle.packet_pools.specs.OnlyTraced.{OnlyTraced}
use Rattle.gc_table.specs.Log.{events}
use Rattle.packet_pools.specs.declared.search.Search.{Search}
use Rattle.packet_pools.specs.StepBounds.{room_left, room_steps}
use Rattle.packet_pools.proofs.Few.{few-sum}
use Rattle.tracer.specs.StepBounds.{aside_steps, deferring_left, each_steps, filled_length, find_steps, hand_left, object_steps, share_each, share_steps}
use Rattle.tracer.proofs.Few.{filled-fits, room-any, room-most, turn}
use Rattle.tracer.proofs.Searched.{quiet-of, searches-join, searches-still}
use Rattle.tracer.proofs.tracing.trace_all.Goals as goal

pub share_in_turn-requires-clause-seat : goal.share_in_turn-requires-clause-seat
share_in_turn-requires-clause-seat c = let i = c.loop-turn.invariant in (i.sits, i.traces)

pub share_in_turn-requires-clause-packets : goal.share_in_turn-requires-clause-packets
share_in_turn-requires-clause-packets c = c.loop-turn.invariant.packets

pub share_in_turn-requires-clause-work : goal.share_in_turn-requires-clause-work
share_in_turn-requires-clause-work c = c.loop-turn.invariant.work

pub next_cell-requires-clause-packets : goal.next_cell-requires-clause-packets
next_cell-requires-clause-packets c = c.share_in_turn.ensures.packets.0

pub next_cell-requires-clause-idle : goal.next_cell-requires-clause-idle
next_cell-requires-clause-idle c =
    let i = c.loop-turn.invariant in
    let g = c.share_in_turn.ensures in
    (g.work, ap (λ (s : SeatState). s.block) g.only.rest ∙ (ap (λ (s : SeatState). s.block) i.only.rest ∙ c.requires.idle.1))

pub trace_cell-passed-requires-clause-packets : goal.trace_cell-passed-requires-clause-packets
trace_cell-passed-requires-clause-packets c =
    let e = c.in-Some.ensures in
    (e.packets.0, subst (HasCellAndRoom c.args.heap.now.shape) (sym (e.packets.1 ∙ c.share_in_turn.ensures.packets.1)) c.loop-turn.invariant.room)

-- what the searches may still take, once an input was looked for
hand-kept : (sh : Shape) (s t : Search) (p q : Packets) (x : View) → x.shape.entries ≡ sh.entries → t ≡ s → q.deferred ≡ p.deferred → Carries (packets_of q) x → hand_left sh t q ≤ hand_left sh s p + aside_steps sh
hand-kept sh s t p q x shape same kept c =
    let fits = filled-fits q x c in
    let most = room-any sh s (filled_length q) (filled_length p) (omega (arith, fits, shape)) in
    let on = ap (λ y. room_left sh y (filled_length q)) same in
    let rest = ap (deferring_left sh) kept in
    omega (arith, most, on, rest)

hand-anew : (sh : Shape) (s t : Search) (p q : Packets) (x : View) → x.shape.entries ≡ sh.entries → q.deferred ≡ p.deferred → Carries (packets_of q) x → hand_left sh t q ≤ hand_left sh s p + room_steps sh
hand-anew sh s t p q x shape kept c =
    let fits = filled-fits q x c in
    let most = room-most sh t (filled_length q) (omega (arith, fits, shape)) in
    let rest = ap (deferring_left sh) kept in
    omega (arith, most, rest)

pub returns-in_default-clause-only : goal.returns-in_default-clause-only
returns-in_default-clause-only c =
    let v : View = view_of c.args.seat.now in
    let w : View = view_of c.loop-turn.seat in
    let u : View = view_of c.share_in_turn.new.seat in
    let x : View = view_of c.next_cell.new.seat in
    traced-join v w x c.loop-turn.invariant.only (traced-join w u x c.share_in_turn.ensures.only c.in_default.ensures.only)

zero-plus : (n : ℕ) → 0 + n ≡ n
zero-plus n = omega arith

plus-none : (n : ℕ) → n + 0 ≡ n
plus-none n = omega arith

pub returns-in_default-clause-part : goal.returns-in_default-clause-part
returns-in_default-clause-part c =
    let v : View = view_of c.args.seat.now in
    let w : View = view_of c.loop-turn.seat in
    let u : View = view_of c.share_in_turn.new.seat in
    let x : View = view_of c.next_cell.new.seat in
    let i = c.loop-turn.invariant in
    let g = c.share_in_turn.ensures in
    let e = c.in_default.ensures in
    let o : Option ℕ = packet_of c.args.packets.now.deferred in
    let q : Option ℕ = packet_of c.loop-turn.packets.deferred in
    subst (λ r. Did o r c.loop-turn.traced.done c.loop-turn.traced.deferred c.loop-turn.traced.overflowed v (events v x)) (sym (ap packet_of (e.packets.1 ∙ g.packets.1)))
    (did-then o q q c.loop-turn.traced.done 0 c.loop-turn.traced.deferred 0 c.loop-turn.traced.overflowed 0 _ _ _ v w x i.only (traced-join w u x g.only e.only) (plus-none _) (plus-none _) (plus-none _) i.part
    (did-then q q q 0 0 0 0 0 0 0 0 0 w u x g.only e.only refl refl refl (g.part q) (e.none.1 q)))

ended : (sh : Shape) (p q : Packets) (v w x : View) → OnlyTraced v w → OnlyTraced w x → NothingFound sh p q w x → ((o : Option ℕ) → Did o o 0 0 0 w (events w x)) → SearchedInVain sh q v x
ended sh p q v w x a b n parts =
    record {
      before = events v w;
      search = events w x;
      all = events-join v w x a.log b.log;
      none = n.taken.none;
      moves = n.taken.moves;
      state = ap (λ (z : View). z.state) (sym a.ran.steps) ∙ sym n.taken.state;
      still = λ o p. ap (λ z. waits p z (events w x) (is_the o p)) (sym a.ran.steps) ∙ (parts o).waiting p;
      input = ap (λ (y : Packets). y.input.length) n.taken.packets ∙ n.input;
      output = subst (λ (y : Packets). HasNoCell y.output) (sym n.taken.packets) n.output;
    }

pub returns-in_default-clause-stopped : goal.returns-in_default-clause-stopped
returns-in_default-clause-stopped c =
    let i = c.loop-turn.invariant in
    let e = c.in_default.ensures in
    let test = c.loop-turn-test.true in
    let v : View = view_of c.args.seat.now in
    let w : View = view_of c.loop-turn.seat in
    let u : View = view_of c.share_in_turn.new.seat in
    inr (refl, omega (arith, test, i.done), ended c.args.heap.now.shape c.share_in_turn.new.packets c.next_cell.new.packets v u (view_of c.next_cell.new.seat) (traced-join v w u i.only c.share_in_turn.ensures.only) e.only e.none.0 e.none.1)

pub loop-turn-preserved : goal.loop-turn-preserved
loop-turn-preserved c =
    let sh : Shape = c.args.heap.now.shape in
    let v : View = view_of c.args.seat.now in
    let w : View = view_of c.loop-turn.seat in
    let u : View = view_of c.share_in_turn.new.seat in
    let x : View = view_of c.next_cell.new.seat in
    let y : View = view_of c.trace_cell-passed.new.seat in
    let i = c.loop-turn.invariant in
    let g = c.share_in_turn.ensures in
    let e = c.in-Some.ensures in
    let f = c.trace_cell-passed.ensures in
    let o : Option ℕ = packet_of c.args.packets.now.deferred in
    let q : Option ℕ = packet_of c.loop-turn.packets.deferred in
    let r : Option ℕ = packet_of c.trace_cell-passed.new.packets.deferred in
    let p : Option ℕ = packet_of c.share_in_turn.new.packets.deferred in
    let same : p ≡ q = ap packet_of g.packets.1 in
    let found : Did q q 1 0 0 u (events u x) = subst (λ z. Did z z 1 0 0 u (events u x)) same e.some.1 in
    let last : Did q r 0 c.trace_cell-passed.result.deferred c.trace_cell-passed.result.overflowed x (events x y) = subst (λ z. Did z r 0 c.trace_cell-passed.result.deferred c.trace_cell-passed.result.overflowed x (events x y)) (ap packet_of e.packets.1 ∙ same) f.part in
    let on = traced-join u x y e.only f.only in
    let whole = traced-join w u y g.only on in
    let k = c.trace_cell-passed.new in
    let kept : c.next_cell.new.packets.deferred ≡ c.loop-turn.packets.deferred = e.packets.1 ∙ g.packets.1 in
    let fits : x.shape.entries ≡ sh.entries = ap (λ (s : Shape). s.entries) e.seat.0.1 in
    record {
      sits = f.seat.0;
      traces = f.seat.1;
      only = traced-join v w y i.only whole;
      packets = f.packets.0;
      room = f.packets.1;
      work = f.work;
      done = omega (arith, i.done);
      stopped = i.stopped;
      first = λ e. absurd (omega (arith, e));
      undeferred =
          λ still.
          let before = i.undeferred still in
          let now = f.undeferred (ap (λ (s : SeatState). s.active) (traced-join v w x i.only (traced-join w u x g.only e.only)).rest ∙ still) in
          omega (arith, before, now);
      most = (omega (arith, i.most.0, f.most.0), omega (arith, i.most.1, f.most.1, c.from.ensures));
      part =
          did-then o q r c.loop-turn.traced.done 1 c.loop-turn.traced.deferred c.trace_cell-passed.result.deferred c.loop-turn.traced.overflowed c.trace_cell-passed.result.overflowed _ _ _ v w y i.only whole refl refl (ap (λ n. c.loop-turn.traced.overflowed + n) (sym c.from.ensures)) i.part
          (did-then q q r 0 1 0 _ 0 _ 1 _ _ w u y g.only on refl (zero-plus _) (zero-plus _) (g.part q)
          (did-then q q r 1 0 0 _ 0 _ 1 _ _ u x y e.only f.only refl (zero-plus _) (zero-plus _) found last));
      tried =
          searches-join sh c.args.search.now c.loop-turn.search k.search (events v w) (events w y) (events v y) (events-join v w y i.only.log whole.log) i.tried
          (searches-join sh c.loop-turn.search c.share_in_turn.new.search k.search (events w u) (events u y) (events w y) (events-join w u y g.only.log on.log) g.tried
          (searches-join sh c.share_in_turn.new.search c.share_in_turn.new.search k.search (events u x) (events x y) (events u y) (events-join u x y e.only.log f.only.log)
          (searches-still sh c.share_in_turn.new.search (events u x) (quiet-of (events u x) found.dirtied))
          f.tried));
      few =
          let first = few-sum v w y i.only.ran whole.ran in
          let second = few-sum w u y g.only.ran on.ran in
          let third = few-sum u x y e.only.ran f.only.ran in
          let done = i.few in
          let all =
          turn c.loop-turn.traced.done (hand_left sh c.args.search.now c.args.packets.now) (each_steps sh) (find_steps sh + 1) (object_steps sh) (aside_steps sh) (share_steps sh) (room_steps sh) (length (events v w)) (length (events w u)) (length (events u x)) (length (events x y)) (hand_left sh c.loop-turn.search c.loop-turn.packets) (hand_left sh c.share_in_turn.new.search c.next_cell.new.packets) (hand_left sh k.search k.packets) refl done
          (λ l.
          let rest = g.unshared (subst (λ n. n % share_each < share_each - 1) i.done l) in
          (rest.0, hand-kept sh c.loop-turn.search c.share_in_turn.new.search c.loop-turn.packets c.next_cell.new.packets x fits rest.2 kept e.packets.0))
          g.few
          (hand-anew sh c.loop-turn.search c.share_in_turn.new.search c.loop-turn.packets c.next_cell.new.packets x fits kept e.packets.0)
          e.few
          f.few in
          omega (arith, first, second, third, all);
    }

pub returns-in_default-clause-tried : goal.returns-in_default-clause-tried
returns-in_default-clause-tried c =
    let sh : Shape = c.args.heap.now.shape in
    let v : View = view_of c.args.seat.now in
    let w : View = view_of c.loop-turn.seat in
    let u : View = view_of c.share_in_turn.new.seat in
    let x : View = view_of c.next_cell.new.seat in
    let t = c.share_in_turn.new.search in
    let i = c.loop-turn.invariant in
    let g = c.share_in_turn.ensures in
    let e = c.in_default.ensures in
    let later = traced-join w u x g.only e.only in
    searches-join sh c.args.search.now c.loop-turn.search t (events v w) (events w x) (events v x) (events-join v w x i.only.log later.log) i.tried
    (searches-join sh c.loop-turn.search t t (events w u) (events u x) (events w x) (events-join w u x g.only.log e.only.log) g.tried (searches-still sh t (events u x) (quiet-of (events u x) (e.none.1 None).dirtied)))

pub returns-in_default-clause-few : goal.returns-in_default-clause-few
returns-in_default-clause-few c =
    let v : View = view_of c.args.seat.now in
    let w : View = view_of c.loop-turn.seat in
    let u : View = view_of c.share_in_turn.new.seat in
    let x : View = view_of c.next_cell.new.seat in
    let i = c.loop-turn.invariant in
    let g = c.share_in_turn.ensures in
    let e = c.in_default.ensures in
    let last = few-sum w u x g.only.ran e.only.ran in
    let all = few-sum v w x i.only.ran (traced-join w u x g.only e.only).ran in
    let done = i.few in
    let shared = g.few in
    let found = e.few in
    omega (arith, last, all, done, shared, found)

pub returns-clause-few : goal.returns-clause-few
returns-clause-few c = let few = c.loop-turn.invariant.few in omega (arith, few)

-- the first turn finds the input as it was
pub returns-in_default-clause-works : goal.returns-in_default-clause-works
returns-in_default-clause-works c = λ some many.
    let i = c.loop-turn.invariant in
    ⊎_elim
    (λ (z : c.loop-turn.turn ≡ 0).
    let none : c.loop-turn.turn % share_each < share_each - 1 = omega (arith, z) in
    let same = (c.share_in_turn.ensures.unshared none).1 ∙ i.first z in
    let full = ap (λ (x : Packets). x.input.length) same in
    let bare = c.in_default.ensures.none.0.input in
    absurd (omega (arith, some, full, bare)))
    (λ (d : c.loop-turn.turn ≡ 0 → ⊥). let done = i.done in let on : 0 < c.loop-turn.turn = grind (arith, d) in omega (arith, done, on))
    (cases_eq c.loop-turn.turn 0)
