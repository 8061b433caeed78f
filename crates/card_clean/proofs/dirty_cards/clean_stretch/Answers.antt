use Rattle.std.proofs.Common.{ℕ, ◌≡◌, ◌*◌, ◌+◌, ◌-◌, ◌/◌, refl, ap, ◌∙◌, subst, inl, inr, arith}
use Rattle.std.specs.Prelude.{min}
use Rattle.mark_core.specs.Layout.{card_count}
use Rattle.mark_core.specs.declared.kinds.Shape.{Shape}
use Rattle.gc_table.specs.Log.{events}
use Rattle.gc_table.specs.Seats.{view_of}
use Rattle.card_clean.specs.DirtyCards.{CleanedFrom, stretch_cards}
use Rattle.card_clean.specs.Taking.{CleansWithPacket}
use Rattle.card_clean.proofs.Few.{some-fewer, stretch-few}
use Rattle.card_clean.proofs.dirty_cards.clean_stretch.Goals as goal

pub returns-in-Some-clause-left : goal.returns-in-Some-clause-left
returns-in-Some-clause-left c = c.in-Some.ensures.some.1

pub returns-in-Some-clause-cleans : goal.returns-in-Some-clause-cleans
returns-in-Some-clause-cleans c =
    let sh : Shape = c.args.heap.now.shape in
    let es = events (view_of c.args.seat.now) (view_of c.clean_some.new.seat) in
    let from : ℕ = c.args.s * stretch_cards in
    let cells : c.shape.result.cells ≡ sh.cells = ap (λ (s : Shape). s.cells) c.shape.ensures in
    let same : c.min-end.result ≡ min (from + stretch_cards) (card_count sh) = c.min-end.ensures ∙ ap (λ n. min (from + stretch_cards) (n / 16)) cells in
    inr (subst (λ n. CleansWithPacket sh (CleanedFrom sh from (n - from) c.in-Some.cleaned.rescanned) es) same c.in-Some.ensures.some.2)

pub returns-in-None-clause-left : goal.returns-in-None-clause-left
returns-in-None-clause-left c = c.in-None.ensures.none.2

pub returns-in-None-clause-cleans : goal.returns-in-None-clause-cleans
returns-in-None-clause-cleans c = inl (refl, c.in-None.ensures.none.0, c.in-None.ensures.none.1)

pub returns-in-Some-clause-few : goal.returns-in-Some-clause-few
returns-in-Some-clause-few c =
    let sh : Shape = c.args.heap.now.shape in
    let from : ℕ = c.args.s * stretch_cards in
    let cells : c.shape.result.cells ≡ sh.cells = ap (λ (s : Shape). s.cells) c.shape.ensures in
    let same : c.min-end.result ≡ min (from + stretch_cards) (card_count sh) = c.min-end.ensures ∙ ap (λ n. min (from + stretch_cards) (n / 16)) cells in
    let few = c.in-Some.ensures.few.0 in
    let most = stretch-few from (card_count sh) stretch_cards in
    some-fewer (c.min-end.result - from) (min stretch_cards (card_count sh)) c.in-Some.cleaned.rescanned sh _ (omega (arith, most, same)) few

pub returns-in-None-clause-few : goal.returns-in-None-clause-few
returns-in-None-clause-few c = let few = c.in-None.ensures.few.1 in omega (arith, few)
