use Rattle.std.proofs.Common.{ℕ, ◌≡◌, ◌<◌, ◌+◌, arith, refl, sym, ap, ◌∙◌, subst, ◌≤◌, ◌-◌, ⊎_elim, eqb-true}
use Rattle.mark_core.specs.Places.{card_at}
use Rattle.gc_table.proofs.Noticing.{found-noted}
use Rattle.mark_core.specs.Layout.{card_count}
use Rattle.mark_core.specs.declared.kinds.Shape.{Shape}
use Rattle.mark_core.specs.declared.kinds.Step.TheVariants.{ReadCard}
use Rattle.mark_core.specs.declared.seat.SeatState.{SeatState}
use Rattle.gc_table.specs.declared.view.View.{View}
use Rattle.gc_table.specs.Seats.{view_of}
use Rattle.packet_pools.specs.OnlyTraced.{OnlyTraced}
use Rattle.packet_pools.proofs.TracedSteps.{place-again, traced-join}
use Rattle.card_clean.specs.Drained.{AreNotedClean}
use Rattle.card_clean.specs.Looking.{KeepsAllNotes}
use Rattle.card_clean.proofs.CardLooks.{clean-look, clean-more, dirty-look, look-keeps, keeps-join}
use Rattle.card_clean.proofs.Steps.{traced-read_card}
use Rattle.std.proofs.lemmas.Bool.{cases_lt}
use Rattle.packet_pools.proofs.Few.{few-after, few-join}
use Rattle.card_clean.proofs.dirty_cards.dirty_between.Goals as goal

pub returns-then-read_card-clause-only : goal.returns-then-read_card-clause-only
returns-then-read_card-clause-only c =
    let e = c.read_card.ensures.view in
    let w : View = view_of c.loop-card.seat in
    let x : View = view_of c.read_card.new.seat in
    traced-join (view_of c.args.seat.now) w x c.loop-card.invariant.only (traced-read_card w x e.0 c.loop-card.card e.2 e.1)

pub returns-then-read_card-clause-notes : goal.returns-then-read_card-clause-notes
returns-then-read_card-clause-notes c =
    let e = c.read_card.ensures.view in
    let w : View = view_of c.loop-card.seat in
    keeps-join (view_of c.args.seat.now) w (view_of c.read_card.new.seat) c.loop-card.invariant.notes (subst (KeepsAllNotes w) (sym e.1) (look-keeps w (ReadCard c.loop-card.card) e.0 refl refl e.2))

pub returns-then-read_card-clause-dirty : goal.returns-then-read_card-clause-dirty
returns-then-read_card-clause-dirty c =
    let e = c.read_card.ensures.view in
    let i = c.loop-card.invariant in
    let w : View = view_of c.loop-card.seat in
    let x : View = view_of c.read_card.new.seat in (
      i.order,
      c.loop-card-test.true,
      dirty-look (view_of c.args.seat.now) w x c.args.from c.loop-card.card e.0 i.only (traced-read_card w x e.0 c.loop-card.card e.2 e.1) e.1 i.looked (sym e.3 ∙ c.if-read_card.true),
    )

pub loop-card-preserved : goal.loop-card-preserved
loop-card-preserved c =
    let e = c.read_card.ensures.view in
    let i = c.loop-card.invariant in
    let card : ℕ = c.loop-card.card in
    let v : View = view_of c.args.seat.now in
    let w : View = view_of c.loop-card.seat in
    let x : View = view_of c.read_card.new.seat in
    let k : OnlyTraced w x = traced-read_card w x e.0 card e.2 e.1 in
    let last = c.requires.cards (omega (arith, c.loop-card-test.true, i.order)) in
    let below : card < card_count c.args.heap.now.shape = omega (arith, c.loop-card-test.true, last) in
    let there : card < card_count w.shape = subst (λ (sh : Shape). card < card_count sh) (sym i.sits.1) below in
    record {
      sits = c.read_card.ensures.seat;
      order = omega (arith, i.order);
      still = λ l. absurd (omega (arith, c.loop-card-test.true, l, i.order));
      only = traced-join v w x i.only k;
      state = ap (λ (z : View). z.state) e.1 ∙ i.state;
      notes = keeps-join v w x i.notes (subst (KeepsAllNotes w) (sym e.1) (look-keeps w (ReadCard card) e.0 refl refl e.2));
      looked = clean-look v w x c.args.from card e.0 i.only k e.1 i.looked i.order there e.2 (sym e.3 ∙ c.if-read_card.false);
      clean =
          λ alone.
          subst (AreNotedClean c.args.from (card + 1)) (sym e.1)
          (clean-more w c.args.from card e.0 there e.2 (sym e.3 ∙ c.if-read_card.false) (ap (λ (s : SeatState). s.alone) i.state ∙ alone) (i.clean alone));
      few = let all = few-join (card - c.args.from) 1 v w x i.only.ran k.ran i.few (few-after w x _ _ e.1) in omega (arith, all, i.order);
    }

pub returns-then-read_card-clause-few : goal.returns-then-read_card-clause-few
returns-then-read_card-clause-few c =
    let e = c.read_card.ensures.view in
    let i = c.loop-card.invariant in
    let w : View = view_of c.loop-card.seat in
    let x : View = view_of c.read_card.new.seat in
    let all = few-join (c.loop-card.card - c.args.from) 1 (view_of c.args.seat.now) w x i.only.ran (traced-read_card w x e.0 c.loop-card.card e.2 e.1).ran i.few (few-after w x _ _ e.1) in
    omega (arith, all, i.order, c.loop-card-test.true)

pub returns-clause-few : goal.returns-clause-few
returns-clause-few c =
    let i = c.loop-card.invariant in
    let few = i.few in
    ⊎_elim
    (λ (l : c.args.end < c.args.from). let still = i.still (omega (arith, l)) in omega (arith, few, still))
    (λ (l : c.args.from ≤ c.args.end). let most = c.loop-card.auto.card-end l in omega (arith, few, most))
    (cases_lt c.args.end c.args.from)

-- a card that is noted as clean isn't found dirty
pub returns-then-read_card-clause-unnoted : goal.returns-then-read_card-clause-unnoted
returns-then-read_card-clause-unnoted c = λ clean.
    let e = c.read_card.ensures.view in
    let i = c.loop-card.invariant in
    let w : View = view_of c.loop-card.seat in
    let one : e.0 ≡ 1 = eqb-true e.0 1 (sym e.3 ∙ c.if-read_card.true) in
    let none : e.0 ≡ 0 = found-noted w (ReadCard c.loop-card.card) e.0 0 (card_at c.loop-card.card) e.2 (place-again (card_at c.loop-card.card)) (i.notes (card_at c.loop-card.card) 0 clean) in
    absurd (omega (arith, one, none))
