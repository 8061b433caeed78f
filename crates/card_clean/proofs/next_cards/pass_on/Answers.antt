use Rattle.std.specs.Bool.{OnFalse, OnTrue}
use Rattle.std.proofs.Common.{Bool, None, ◌≡◌, ◌+◌, ◌-◌, ◌*◌, [], ◌∷◌, arith, refl, ap, inl, inr, subst}
use Rattle.std.proofs.Math.Nat.{mul-le-mul_right}
use Rattle.mark_core.specs.declared.kinds.Shape.{Shape}
use Rattle.gc_table.specs.Log.{events}
use Rattle.gc_table.specs.Seats.{view_of}
use Rattle.gc_table.specs.declared.view.View.{View}
use Rattle.gc_table.proofs.History.Log.{events-none}
use Rattle.gc_table.proofs.Running.{ran-events}
use Rattle.packet_pools.specs.Counts.{dirties}
use Rattle.packet_pools.specs.Seeking.{some_event, was_got}
use Rattle.packet_pools.specs.StepBounds.{room_left}
use Rattle.packet_pools.proofs.Few.{another, few-none}
use Rattle.packet_pools.proofs.Filled.{fills-join, fills-same}
use Rattle.packet_pools.proofs.RoomLeft.{room-join}
use Rattle.packet_pools.proofs.Overflows.{overflows-join, overflows-none}
use Rattle.card_clean.specs.NextCards.{PassesNext}
use Rattle.card_clean.specs.Passing.{DrawsCard}
use Rattle.card_clean.specs.StepBounds.{next_steps}
use Rattle.card_clean.proofs.NextCards.{passed-join, passed-none}
use Rattle.card_clean.proofs.Searched.{leads-still}
use Rattle.card_clean.proofs.next_cards.pass_on.Goals as goal

pub loop-look-init : goal.loop-look-init
loop-look-init c =
    let v : View = view_of c.args.seat.now in
    let none = few-none v in
    record {
      sits = c.requires.seat.0;
      traces = c.requires.seat.1;
      only = passed-none v;
      packet = fills-same v v c.args.out.now refl refl c.requires.out.0 c.requires.out.1;
      work = c.requires.work;
      passes = ([], refl, refl);
      tried =
          overflows-none c.args.heap.now.shape c.args.search.now c.args.search.now c.args.out.now c.args.out.now (events v v) (ap (some_event dirties) (events-none v))
          (leads-still c.args.heap.now.shape c.args.search.now c.args.out.now (events v v) (λ p. ap (was_got p) (events-none v)));
      few = omega (arith, none);
    }

pub pass_next-requires-clause-out : goal.pass_next-requires-clause-out
pass_next-requires-clause-out c = let i = c.loop-look.invariant in (i.packet.held, i.packet.free)

pub returns-then-is_enough-clause-passes : goal.returns-then-is_enough-clause-passes
returns-then-is_enough-clause-passes c =
    let i = c.loop-look.invariant in
    let one = i.passes.1 in
    let test = c.loop-look-test.true in
    record { rounds = i.passes.0; last = view_of c.loop-look.seat; passes = i.passes.2; ends = inl (refl, omega (arith, one, test), inr (c.is_enough.ensures c.if-is_enough.true)) }

pub returns-then-is_enough-clause-few : goal.returns-then-is_enough-clause-few
returns-then-is_enough-clause-few c =
    let sh : Shape = c.args.heap.now.shape in
    let i = c.loop-look.invariant in
    let test = c.loop-look-test.true in
    let same : c.loop-look.look ≡ c.args.looks - (c.args.looks - c.loop-look.look) = omega (arith, test) in
    let all = ap (λ n. n * next_steps sh) same in
    let few = i.few in
    (omega arith, omega (arith, few, all))

pub returns-then-not-pass_next-clause-only : goal.returns-then-not-pass_next-clause-only
returns-then-not-pass_next-clause-only c = passed-join (view_of c.args.seat.now) (view_of c.loop-look.seat) (view_of c.pass_next.new.seat) c.loop-look.invariant.only c.pass_next.ensures.only

pub returns-then-not-pass_next-clause-out : goal.returns-then-not-pass_next-clause-out
returns-then-not-pass_next-clause-out c =
    fills-join (view_of c.args.seat.now) (view_of c.loop-look.seat) (view_of c.pass_next.new.seat) c.args.out.now c.loop-look.out c.pass_next.new.out c.loop-look.invariant.packet c.pass_next.ensures.out

pub returns-then-not-pass_next-clause-passes : goal.returns-then-not-pass_next-clause-passes
returns-then-not-pass_next-clause-passes c =
    let w : View = view_of c.loop-look.seat in
    let x : View = view_of c.pass_next.new.seat in
    let i = c.loop-look.invariant in
    let one = i.passes.1 in
    let test = c.loop-look-test.true in
    record {
      rounds = i.passes.0;
      last = w;
      passes = i.passes.2;
      ends = inr (subst (λ (b : Bool). OnFalse b (DrawsCard None w x)) c.if-not-pass_next.true c.pass_next.ensures.over, omega (arith, one, test), refl);
    }

pub returns-then-not-pass_next-clause-tried : goal.returns-then-not-pass_next-clause-tried
returns-then-not-pass_next-clause-tried c =
    let v : View = view_of c.args.seat.now in
    let w : View = view_of c.loop-look.seat in
    let x : View = view_of c.pass_next.new.seat in
    let i = c.loop-look.invariant in
    let e = c.pass_next.ensures in
    overflows-join c.args.heap.now.shape c.args.search.now c.loop-look.search c.pass_next.new.search c.args.out.now c.loop-look.out c.pass_next.new.out (events v w) (events w x) (events v x) (ran-events v w x i.only.ran e.only.ran) i.tried e.tried

pub returns-then-not-pass_next-clause-few : goal.returns-then-not-pass_next-clause-few
returns-then-not-pass_next-clause-few c =
    let sh : Shape = c.args.heap.now.shape in
    let i = c.loop-look.invariant in
    let e = c.pass_next.ensures in
    let test = c.loop-look-test.true in
    let all =
    room-join (room_left sh c.args.search.now c.args.out.now.length) (room_left sh c.loop-look.search c.loop-look.out.length) (room_left sh c.pass_next.new.search c.pass_next.new.out.length) (c.loop-look.look * next_steps sh) (next_steps sh) (view_of c.args.seat.now) (view_of c.loop-look.seat) (view_of c.pass_next.new.seat)
    i.only.ran e.only.ran i.few e.few
    in
    let grown = another c.loop-look.look (next_steps sh) in
    let most = mul-le-mul_right {m = c.loop-look.look + 1} {n = c.args.looks - 0} (next_steps sh) (omega (arith, test)) in
    (omega arith, omega (arith, all, grown, most))

pub loop-look-preserved : goal.loop-look-preserved
loop-look-preserved c =
    let sh : Shape = c.args.heap.now.shape in
    let v : View = view_of c.args.seat.now in
    let w : View = view_of c.loop-look.seat in
    let x : View = view_of c.pass_next.new.seat in
    let i = c.loop-look.invariant in
    let e = c.pass_next.ensures in
    let one = i.passes.1 in
    let all =
    room-join (room_left sh c.args.search.now c.args.out.now.length) (room_left sh c.loop-look.search c.loop-look.out.length) (room_left sh c.pass_next.new.search c.pass_next.new.out.length) (c.loop-look.look * next_steps sh) (next_steps sh) v w x i.only.ran e.only.ran i.few e.few
    in
    let grown = another c.loop-look.look (next_steps sh) in
    record {
      sits = e.seat.0;
      traces = e.seat.1;
      only = passed-join v w x i.only e.only;
      packet = fills-join v w x c.args.out.now c.loop-look.out c.pass_next.new.out i.packet e.out;
      work = e.work;
      passes = (w ∷ i.passes.0, omega (arith, one), (i.passes.2, subst (λ (b : Bool). OnTrue b (PassesNext w x)) c.if-not-pass_next.false e.passes));
      tried =
          overflows-join sh c.args.search.now c.loop-look.search c.pass_next.new.search c.args.out.now c.loop-look.out c.pass_next.new.out (events v w) (events w x) (events v x) (ran-events v w x i.only.ran e.only.ran) i.tried e.tried;
      few = omega (arith, all, grown);
    }

pub returns-clause-passes : goal.returns-clause-passes
returns-clause-passes c =
    let i = c.loop-look.invariant in
    let one = i.passes.1 in
    let most = c.loop-look.auto in
    let least = c.loop-look-test.false in
    record { rounds = i.passes.0; last = view_of c.loop-look.seat; passes = i.passes.2; ends = inl (refl, omega (arith, one, most, least), inl refl) }

pub returns-clause-few : goal.returns-clause-few
returns-clause-few c =
    let few = c.loop-look.invariant.few in
    let end = c.loop-look.auto in
    let most = mul-le-mul_right {m = c.loop-look.look} {n = c.args.looks - 0} (next_steps c.args.heap.now.shape) (omega (arith, end)) in
    (omega arith, omega (arith, few, most))
