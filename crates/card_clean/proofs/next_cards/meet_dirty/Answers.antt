use Rattle.std.proofs.Common.{◌*◌, [], ◌∷◌, Bool, false, arith, refl, ap, ◌∙◌, inl, inr, subst}
use Rattle.mark_core.specs.declared.seat.SeatState.{SeatState}
use Rattle.gc_table.specs.Seats.{view_of}
use Rattle.gc_table.specs.declared.view.View.{View}
use Rattle.packet_pools.proofs.Few.{few-join, few-none}
use Rattle.card_clean.specs.NextCards.{SeesNext}
use Rattle.card_clean.proofs.NextCards.{passed-join, passed-none}
use Rattle.card_clean.proofs.next_cards.meet_dirty.Goals as goal

pub loop-look-init : goal.loop-look-init
loop-look-init c =
    let v : View = view_of c.args.seat.now in
    let none = few-none v in
    record { sits = c.requires.seat.0; traces = c.requires.seat.1; only = passed-none v; state = refl; clean = ([], refl, refl); few = omega (arith, none) }

pub returns-in_default-clause-only : goal.returns-in_default-clause-only
returns-in_default-clause-only c = passed-join (view_of c.args.seat.now) (view_of c.loop-look.seat) (view_of c.see_next.new.seat) c.loop-look.invariant.only c.see_next.ensures.only

pub returns-in_default-clause-state : goal.returns-in_default-clause-state
returns-in_default-clause-state c = ap (λ (s : SeatState). record s { below_card = false }) c.see_next.ensures.state ∙ c.loop-look.invariant.state

pub returns-in_default-clause-none : goal.returns-in_default-clause-none
returns-in_default-clause-none c =
    let i = c.loop-look.invariant in
    let one = i.clean.1 in
    let test = c.loop-look-test.true in
    record { clean = i.clean.0; met = view_of c.loop-look.seat; before = i.clean.2; ends = inr (omega (arith, one, test), c.in_default.ensures.none) }

pub returns-in_default-clause-few : goal.returns-in_default-clause-few
returns-in_default-clause-few c =
    let i = c.loop-look.invariant in
    let e = c.see_next.ensures in
    let all = few-join (3 * c.loop-look.look) 3 (view_of c.args.seat.now) (view_of c.loop-look.seat) (view_of c.see_next.new.seat) i.only.ran e.only.ran i.few e.few in
    let test = c.loop-look-test.true in
    (tt, omega (arith, all, test))

pub returns-then-dirty-clause-only : goal.returns-then-dirty-clause-only
returns-then-dirty-clause-only c = passed-join (view_of c.args.seat.now) (view_of c.loop-look.seat) (view_of c.see_next.new.seat) c.loop-look.invariant.only c.see_next.ensures.only

pub returns-then-dirty-clause-state : goal.returns-then-dirty-clause-state
returns-then-dirty-clause-state c = ap (λ (s : SeatState). record s { below_card = false }) c.see_next.ensures.state ∙ c.loop-look.invariant.state

pub returns-then-dirty-clause-some : goal.returns-then-dirty-clause-some
returns-then-dirty-clause-some c =
    let w : View = view_of c.loop-look.seat in
    let x : View = view_of c.see_next.new.seat in
    let i = c.loop-look.invariant in
    let one = i.clean.1 in
    let test = c.loop-look-test.true in
    record {
      clean = i.clean.0;
      met = w;
      before = i.clean.2;
      sees = subst (λ (b : Bool). SeesNext b c.in-Some.card w x) c.if-dirty.true c.in-Some.ensures.some;
      looked = omega (arith, one, test);
    }

pub returns-then-dirty-clause-few : goal.returns-then-dirty-clause-few
returns-then-dirty-clause-few c =
    let i = c.loop-look.invariant in
    let e = c.see_next.ensures in
    let all = few-join (3 * c.loop-look.look) 3 (view_of c.args.seat.now) (view_of c.loop-look.seat) (view_of c.see_next.new.seat) i.only.ran e.only.ran i.few e.few in
    let test = c.loop-look-test.true in
    (omega (arith, all, test), tt)

pub loop-look-preserved : goal.loop-look-preserved
loop-look-preserved c =
    let v : View = view_of c.args.seat.now in
    let w : View = view_of c.loop-look.seat in
    let x : View = view_of c.see_next.new.seat in
    let i = c.loop-look.invariant in
    let e = c.see_next.ensures in
    let one = i.clean.1 in
    let all = few-join (3 * c.loop-look.look) 3 v w x i.only.ran e.only.ran i.few e.few in
    record {
      sits = e.seat.0;
      traces = e.seat.1;
      only = passed-join v w x i.only e.only;
      state = ap (λ (s : SeatState). record s { below_card = false }) e.state ∙ i.state;
      clean = (w ∷ i.clean.0, omega (arith, one), (i.clean.2, (c.in-Some.card, subst (λ (b : Bool). SeesNext b c.in-Some.card w x) c.if-dirty.false c.in-Some.ensures.some)));
      few = omega (arith, all);
    }

pub returns-clause-none : goal.returns-clause-none
returns-clause-none c =
    let i = c.loop-look.invariant in
    let one = i.clean.1 in
    let most = c.loop-look.auto in
    let least = c.loop-look-test.false in
    record { clean = i.clean.0; met = view_of c.loop-look.seat; before = i.clean.2; ends = inl (omega (arith, one, most, least), refl) }

pub returns-clause-few : goal.returns-clause-few
returns-clause-few c =
    let few = c.loop-look.invariant.few in
    let most = c.loop-look.auto in
    (tt, omega (arith, few, most))
