use Rattle.std.proofs.Common.{ℕ, suc, ◌≡◌, ◌+◌, ◌-◌, ◌%◌, ◌<◌, ⊎_elim, inl, inr, List, ◌∷◌, length, sym, ap, ◌∙◌, subst, arith}
use Rattle.std.specs.Prelude.{vec_len}
use Rattle.play_report.specs.declared.report.Part.{Part}
use Rattle.gc_table.specs.Rule.{KnowsFull}
use Rattle.gc_table.specs.Seats.{view_of}
use Rattle.gc_table.specs.declared.seat.HeapSeat.{HeapSeat}
use Rattle.warehouse.specs.declared.mutator.Mutator.{Mutator}
use Rattle.gc_play.specs.declared.workers.Worker.{Worker}
use Rattle.gc_play.specs.Crews.{AreAfter, AreSaid, IsSeatLeftBy, Numbered, SaysOfSection, SomeKnows, SomeSeatKnows, WarehouseEndsAt}
use Rattle.gc_play.specs.Dealing.{IsDealt, seat_number}
use Rattle.gc_play.proofs.Parts.{one-before, warehouse-count, numbered-front}
use Rattle.gc_play.proofs.Handing.{each-left, last-too, none-left, some-ahead, some-first, some-taken}
use Rattle.gc_play.proofs.Leaving.{said-front, warehouse-left, warehouse-says}
use Rattle.gc_play.proofs.gathering.gather.Goals as goal

pub take_back-mutator-requires-clause-dealt : goal.take_back-mutator-requires-clause-dealt
take_back-mutator-requires-clause-dealt c =
    let i = c.loop-taken.invariant in
    let w = warehouse-count c.args.script.now.sections c.warehouses-warehouses.result.now c.warehouses-warehouses.ensures.same in
    subst (λ n. IsDealt n (length c.warehouses-warehouses.result.now - 1 - c.loop-taken.taken + 1) c.loop-taken.workers.items) (sym i.same)
    (subst (λ k. IsDealt (vec_len c.args.workers.now) k c.loop-taken.workers.items) (omega (arith, w, c.loop-taken-test.true)) i.dealt)

knows : HeapSeat → Type 0
knows x = KnowsFull (view_of x)

pub loop-taken-preserved : goal.loop-taken-preserved
unfolding knows
loop-taken-preserved c =
    let i = c.loop-taken.invariant in
    let t = c.take_back-mutator.ensures in
    let f = c.finish-seat.ensures in
    let o = c.in-Ok.ensures in
    let h = c.args.heap.now in
    let s = c.args.script.now.sections in
    let z = c.args.season in
    let taken = c.loop-taken.taken in
    let wh = length s.warehouses in
    let w = warehouse-count s c.warehouses-warehouses.result.now c.warehouses-warehouses.ensures.same in
    let few : taken < wh = omega (arith, w, c.loop-taken-test.true) in
    let m : Mutator = c.take_back-mutator.result in
    let before : List Worker = c.loop-taken.workers.items in
    let after : List Worker = c.take_back-mutator.new.workers.items in
    let turn : ℕ = (length c.warehouses-warehouses.result.now - 1 - taken) % vec_len c.loop-taken.workers in
    let ends : Mutator → Type 0 = WarehouseEndsAt c.args.ended h s z in
    let one : ends m = last-too ends turn m before after t.takes i.ends in
    let x : HeapSeat = c.finish-seat.result.0 in
    let part : Part = record { said = c.finish-seat.result.1; dropped = c.finish-seat.result.3; places = c.finish-seat.result.2 } in
    let P : ℕ → HeapSeat → Type 0 = IsSeatLeftBy c.args.ended h s z in
    let n = wh - (taken + 1) in
    let num : seat_number m ≡ suc n = t.number ∙ omega (arith, w, few) in
    let front : suc n ≡ 1 + n = omega arith in
    record {
      same = omega (arith, c.take_back-mutator.new.workers.ok, c.loop-taken.workers.ok, t.dealt.count, i.same);
      dealt = subst (λ k. IsDealt k n c.take_back-mutator.new.workers.items) i.same (subst (λ k. IsDealt (vec_len c.loop-taken.workers) k c.take_back-mutator.new.workers.items) (omega (arith, w, few)) t.dealt);
      ends = each-left ends turn m before after t.takes i.ends;
      seats =
          subst (Numbered P (1 + n)) (sym o.seats)
          (numbered-front P (1 + n) x c.loop-taken.seats.items (subst (λ k. P k x) front (warehouse-left c.args.ended h s z n m x c.requires.season f.0 num one))
          (subst (λ k. Numbered P k c.loop-taken.seats.items) (let e : 1 + (wh - taken) ≡ 1 + n + 1 = omega (arith, few) in e) i.seats));
      count = omega (arith, ap length o.seats, c.hand_over.new.seats.ok, c.loop-taken.seats.ok, i.count);
      tracers = one-before x taken c.args.seats.now.items c.loop-taken.seats.items c.hand_over.new.seats.items i.tracers o.seats;
      parts = omega (arith, ap length o.parts, i.parts);
      said =
          subst (λ xs. AreSaid c.args.ended s z (1 + n) xs c.hand_over.new.parts.items) (sym o.seats)
          (subst (AreSaid c.args.ended s z (1 + n) (x ∷ c.loop-taken.seats.items)) (sym o.parts)
          (said-front c.args.ended s z (1 + n) x part c.loop-taken.seats.items c.loop-taken.parts.items
          (subst (λ k. SaysOfSection c.args.ended s z k x part) front (warehouse-says c.args.ended h s z n m x part f.0 (ap (λ v. v.items) f.1) (ap (λ v. v.items) f.2) f.3 num one))
          (subst (λ k. AreSaid c.args.ended s z k c.loop-taken.seats.items c.loop-taken.parts.items) (let e : 1 + (wh - taken) ≡ 1 + n + 1 = omega (arith, few) in e) i.said)));
      knows =
          λ k.
          ⊎_elim
          (λ (left : SomeKnows c.loop-taken.workers.items).
          ⊎_elim (λ (more : SomeKnows c.take_back-mutator.new.workers.items). inl more)
          (λ (here : KnowsFull (view_of m.seat)).
          inr (subst SomeSeatKnows (sym o.seats) (some-first knows x c.loop-taken.seats.items (subst knows (sym f.0) here))))
          (some-taken (λ (y : Mutator). knows y.seat) turn m before after t.takes left))
          (λ (there : SomeSeatKnows c.loop-taken.seats.items). inr (subst SomeSeatKnows (sym o.seats) (some-ahead knows x c.loop-taken.seats.items there)))
          (i.knows k);
    }

all-taken : (c : goal.After-loop-taken) → c.loop-taken.taken ≡ length c.args.script.now.sections.warehouses
all-taken c = omega (arith, c.loop-taken-test.false, c.loop-taken.auto.taken-end, warehouse-count c.args.script.now.sections c.warehouses-warehouses.result.now c.warehouses-warehouses.ensures.same)

none-more : (c : goal.After-loop-taken) → length c.args.script.now.sections.warehouses - c.loop-taken.taken ≡ 0
none-more c = omega (arith, all-taken c)

pub returns-clause-seats : goal.returns-clause-seats
returns-clause-seats c = subst (λ k. Numbered (IsSeatLeftBy c.args.ended c.args.heap.now c.args.script.now.sections c.args.season) (1 + k) c.loop-taken.seats.items) (none-more c) c.loop-taken.invariant.seats

pub returns-clause-tracers : goal.returns-clause-tracers
returns-clause-tracers c = subst (λ n. AreAfter n c.args.seats.now.items c.loop-taken.seats.items) (all-taken c) c.loop-taken.invariant.tracers

pub returns-clause-count : goal.returns-clause-count
returns-clause-count c = omega (arith, all-taken c, c.loop-taken.invariant.count)

pub returns-clause-parts : goal.returns-clause-parts
returns-clause-parts c = omega (arith, all-taken c, c.loop-taken.invariant.parts)

pub returns-clause-said : goal.returns-clause-said
returns-clause-said c = subst (λ k. AreSaid c.args.ended c.args.script.now.sections c.args.season (1 + k) c.loop-taken.seats.items c.loop-taken.parts.items) (none-more c) c.loop-taken.invariant.said

pub returns-clause-knows : goal.returns-clause-knows
returns-clause-knows c = λ k.
    ⊎_elim
    (λ (left : SomeKnows c.loop-taken.workers.items). absurd (none-left (vec_len c.args.workers.now) c.loop-taken.workers.items (subst (λ n. IsDealt (vec_len c.args.workers.now) n c.loop-taken.workers.items) (none-more c) c.loop-taken.invariant.dealt) left))
    (λ (there : SomeSeatKnows c.loop-taken.seats.items). there)
    (c.loop-taken.invariant.knows k)
