use Rattle.std.proofs.Common.{Bool, ◌≡◌, ◌≢◌, ◌<◌, ◌≤◌, ◌∷◌, ◌++◌, [], arith, refl, sym, ap, ◌∙◌, subst, eqb-true, eq-eqb, inl, inr}
use Rattle.std.proofs.lemmas.Bool.{true≢false}
use Rattle.mark_core.specs.Layout.{card_count}
use Rattle.mark_core.specs.declared.kinds.Shape.{Shape}
use Rattle.mark_core.specs.declared.kinds.Step.TheVariants.{ReadCard}
use Rattle.gc_table.specs.declared.view.View.{View}
use Rattle.gc_table.specs.Seats.{view_of}
use Rattle.gc_table.specs.Log.{events, event}
use Rattle.packet_pools.proofs.Doing.{traces-on}
use Rattle.packet_pools.proofs.TracedSteps.{cleaned-join, traced-cleaned}
use Rattle.gc_table.proofs.History.Log.{events-after, events-join}
use Rattle.packet_pools.specs.Counts.{count_of}
use Rattle.card_clean.specs.Cleaning.{Cleans, clears}
use Rattle.card_clean.specs.NextCards.{CleansIf}
use Rattle.card_clean.specs.Leaving.{rescanned_in}
use Rattle.card_clean.proofs.Cleared.{cleared-join, cleared-one}
use Rattle.card_clean.proofs.Leavings.{rescanned-join}
use Rattle.card_clean.proofs.Steps.{traced-read_card, card-small}
use Rattle.packet_pools.proofs.Few.{few-after, few-sum}
use Rattle.packet_pools.proofs.Overflows.{overflows-join}
use Rattle.card_clean.proofs.Searched.{overflows-still}
use Rattle.card_clean.proofs.Spilled.{spills-join, spills-look}
use Rattle.card_clean.proofs.dirty_cards.clean_where_dirty.Goals as goal

pub returns-then-not-read_card-clause-only : goal.returns-then-not-read_card-clause-only
returns-then-not-read_card-clause-only c =
    let e = c.read_card.ensures.view in
    traced-cleaned (view_of c.args.seat.now) (view_of c.read_card.new.seat) (traced-read_card (view_of c.args.seat.now) (view_of c.read_card.new.seat) e.0 c.args.card e.2 e.1)

pub returns-then-not-read_card-clause-seat : goal.returns-then-not-read_card-clause-seat
returns-then-not-read_card-clause-seat c =
    let v : View = view_of c.args.seat.now in
    let w : View = view_of c.read_card.new.seat in
    let e = c.read_card.ensures.view in
    (c.read_card.ensures.seat, traces-on v w (traced-read_card v w e.0 c.args.card e.2 e.1) c.requires.seat.1 (ap (λ (z : View). z.state.reserved) e.1) (ap (λ (z : View). z.state.credit) e.1))

pub returns-then-not-read_card-clause-cleans : goal.returns-then-not-read_card-clause-cleans
returns-then-not-read_card-clause-cleans c =
    let v : View = view_of c.args.seat.now in
    let w : View = view_of c.read_card.new.seat in
    let e = c.read_card.ensures.view in
    let f = e.2 in
    let below : c.args.card < card_count f.state.core.shape = subst (λ (sh : Shape). c.args.card < card_count sh) (sym c.requires.seat.0.1 ∙ f.agrees.shape) c.requires.card in
    let small : e.0 ≤ 1 = card-small f.state c.args.card e.0 f.whole below f.word in
    let other : e.0 ≢ 1 = λ o. true≢false (sym (eq-eqb e.0 1 o) ∙ (sym e.3 ∙ c.if-not-read_card.true)) in
    let none : e.0 ≡ 0 = omega (arith, small, other) in
    record { cleaning = []; told = inl (refl, events-after v w (ReadCard c.args.card) e.0 e.1 ∙ ap (λ n. event (ReadCard c.args.card) n ∷ []) none, refl) }

pub clean_card_on-cleaned-requires-clause-seat : goal.clean_card_on-cleaned-requires-clause-seat
clean_card_on-cleaned-requires-clause-seat c =
    let v : View = view_of c.args.seat.now in
    let w : View = view_of c.read_card.new.seat in
    let e = c.read_card.ensures.view in
    (c.read_card.ensures.seat, traces-on v w (traced-read_card v w e.0 c.args.card e.2 e.1) c.requires.seat.1 (ap (λ (z : View). z.state.reserved) e.1) (ap (λ (z : View). z.state.credit) e.1))

pub returns-clause-only : goal.returns-clause-only
returns-clause-only c =
    let v : View = view_of c.args.seat.now in
    let w : View = view_of c.read_card.new.seat in
    let e = c.read_card.ensures.view in
    cleaned-join v w (view_of c.clean_card_on-cleaned.new.seat) (traced-cleaned v w (traced-read_card v w e.0 c.args.card e.2 e.1)) c.clean_card_on-cleaned.ensures.only

pub returns-clause-cleans : goal.returns-clause-cleans
returns-clause-cleans c =
    let v : View = view_of c.args.seat.now in
    let w : View = view_of c.read_card.new.seat in
    let x : View = view_of c.clean_card_on-cleaned.new.seat in
    let e = c.read_card.ensures.view in
    let one : e.0 ≡ 1 = eqb-true e.0 1 (sym e.3 ∙ c.if-not-read_card.false) in
    record {
      cleaning = events w x;
      told =
          inr (
            c.clean_card_on-cleaned.result,
            refl,
            events-join v w x (traced-read_card v w e.0 c.args.card e.2 e.1).log c.clean_card_on-cleaned.ensures.only.log
                ∙ (λ i. (events-after v w (ReadCard c.args.card) e.0 e.1 ∙ ap (λ n. event (ReadCard c.args.card) n ∷ []) one) i ++ events w x),
            c.clean_card_on-cleaned.ensures.cleans,
          );
    }

pub returns-then-not-read_card-clause-left : goal.returns-then-not-read_card-clause-left
returns-then-not-read_card-clause-left c =
    let v : View = view_of c.args.seat.now in
    let e = c.read_card.ensures.view in
    ap (rescanned_in v) (events-after v (view_of c.read_card.new.seat) (ReadCard c.args.card) e.0 e.1)

pub returns-clause-left : goal.returns-clause-left
returns-clause-left c =
    let v : View = view_of c.args.seat.now in
    let w : View = view_of c.read_card.new.seat in
    let x : View = view_of c.clean_card_on-cleaned.new.seat in
    let e = c.read_card.ensures.view in
    let first : rescanned_in v (events v w) ≡ 0 = ap (rescanned_in v) (events-after v w (ReadCard c.args.card) e.0 e.1) in
    let j = rescanned-join v w x (traced-read_card v w e.0 c.args.card e.2 e.1).ran c.clean_card_on-cleaned.ensures.only.ran in
    omega (arith, j, first, c.clean_card_on-cleaned.ensures.left)

pub returns-then-not-read_card-clause-cleared : goal.returns-then-not-read_card-clause-cleared
returns-then-not-read_card-clause-cleared c = let e = c.read_card.ensures.view in ap (count_of clears) (events-after (view_of c.args.seat.now) (view_of c.read_card.new.seat) (ReadCard c.args.card) e.0 e.1)

pub returns-clause-cleared : goal.returns-clause-cleared
returns-clause-cleared c =
    let v : View = view_of c.args.seat.now in
    let w : View = view_of c.read_card.new.seat in
    let x : View = view_of c.clean_card_on-cleaned.new.seat in
    let e = c.read_card.ensures.view in
    let d = c.clean_card_on-cleaned.ensures in
    let first : count_of clears (events v w) ≡ 0 = ap (count_of clears) (events-after v w (ReadCard c.args.card) e.0 e.1) in
    let one = cleared-one c.args.heap.now.shape c.args.card c.clean_card_on-cleaned.result (events w x) d.cleans in
    let both = cleared-join v w x (traced-read_card v w e.0 c.args.card e.2 e.1).ran d.only.ran in
    omega (arith, both, first, one)

pub returns-then-not-read_card-clause-few : goal.returns-then-not-read_card-clause-few
returns-then-not-read_card-clause-few c = let one = few-after (view_of c.args.seat.now) (view_of c.read_card.new.seat) (ReadCard c.args.card) _ c.read_card.ensures.view.1 in omega (arith, one)

pub returns-clause-few : goal.returns-clause-few
returns-clause-few c =
    let v : View = view_of c.args.seat.now in
    let w : View = view_of c.read_card.new.seat in
    let e = c.read_card.ensures.view in
    let d = c.clean_card_on-cleaned.ensures in
    let all = few-sum v w (view_of c.clean_card_on-cleaned.new.seat) (traced-read_card v w e.0 c.args.card e.2 e.1).ran d.only.ran in
    let one = few-after v w _ _ e.1 in
    let rest = d.few in
    omega (arith, all, one, rest)

pub returns-then-not-read_card-clause-tried : goal.returns-then-not-read_card-clause-tried
returns-then-not-read_card-clause-tried c =
    let v : View = view_of c.args.seat.now in
    let w : View = view_of c.read_card.new.seat in
    let e = c.read_card.ensures.view in
    overflows-still c.args.heap.now.shape c.args.search.now c.args.out.now (ReadCard c.args.card) e.0 v w e.1 refl (λ p. refl)

pub returns-clause-tried : goal.returns-clause-tried
returns-clause-tried c =
    let sh : Shape = c.args.heap.now.shape in
    let v : View = view_of c.args.seat.now in
    let w : View = view_of c.read_card.new.seat in
    let x : View = view_of c.clean_card_on-cleaned.new.seat in
    let s = c.args.search.now in
    let h = c.args.out.now in
    let e = c.read_card.ensures.view in
    let d = c.clean_card_on-cleaned.ensures in
    overflows-join sh s s c.clean_card_on-cleaned.new.search h h c.clean_card_on-cleaned.new.out (events v w) (events w x) (events v x)
    (events-join v w x (traced-read_card v w e.0 c.args.card e.2 e.1).log d.only.log)
    (overflows-still sh s h (ReadCard c.args.card) e.0 v w e.1 refl (λ p. refl))
    d.tried

pub returns-then-not-read_card-clause-spills : goal.returns-then-not-read_card-clause-spills
returns-then-not-read_card-clause-spills c = λ still.
    let v : View = view_of c.args.seat.now in
    let w : View = view_of c.read_card.new.seat in
    let e = c.read_card.ensures.view in
    spills-look c.args.card e.0 (events v w) (events-after v w (ReadCard c.args.card) e.0 e.1)

pub returns-clause-spills : goal.returns-clause-spills
returns-clause-spills c = λ still.
    let v : View = view_of c.args.seat.now in
    let w : View = view_of c.read_card.new.seat in
    let x : View = view_of c.clean_card_on-cleaned.new.seat in
    let e = c.read_card.ensures.view in
    let f = c.clean_card_on-cleaned.ensures in
    spills-join (events v w) (events w x) (events v x) (events-join v w x (traced-read_card v w e.0 c.args.card e.2 e.1).log f.only.log)
    (spills-look c.args.card e.0 (events v w) (events-after v w (ReadCard c.args.card) e.0 e.1))
    (f.spills (ap (λ (z : View). z.state.active) e.1 ∙ still))

pub returns-then-not-read_card-clause-looks : goal.returns-then-not-read_card-clause-looks
returns-then-not-read_card-clause-looks c =
    let w : View = view_of c.read_card.new.seat in
    record { dirty = c.read_card.result; read = w; reads = c.read_card.ensures.view; cleans = subst (λ (b : Bool). CleansIf b c.args.card w w) (sym c.if-not-read_card.true) refl }

pub returns-clause-looks : goal.returns-clause-looks
returns-clause-looks c =
    let w : View = view_of c.read_card.new.seat in
    let x : View = view_of c.clean_card_on-cleaned.new.seat in
    let e = c.clean_card_on-cleaned.ensures in
    record {
      dirty = c.read_card.result;
      read = w;
      reads = c.read_card.ensures.view;
      cleans =
          subst (λ (b : Bool). CleansIf b c.args.card w x) (sym c.if-not-read_card.false)
          (e.only.ran, (c.clean_card_on-cleaned.result, subst (λ (sh : Shape). Cleans sh c.args.card c.clean_card_on-cleaned.result (events w x)) (sym c.read_card.ensures.seat.1) e.cleans));
    }
