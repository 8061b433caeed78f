-- A round of a drain by a seat that is alone leaves less to drain, or all settled.
use Rattle.std.proofs.Common.{ℕ, ◌≡◌, ◌+◌, ◌-◌, ◌<◌, ◌≤◌, List, [], ◌∷◌, inl, inr, arith, refl, sym, ap, ◌∙◌, subst, Bool, true, false, not, cond, Some, ⊎_elim}
use Rattle.std.proofs.lemmas.Bool.{and_from, and_parts, cases_eq, false≢true}
use Rattle.mark_core.specs.Layout.{card_count}
use Rattle.mark_core.specs.Places.{card_at}
use Rattle.mark_core.specs.declared.kinds.Phase.TheVariants.{Drain}
use Rattle.mark_core.specs.declared.kinds.Shape.{Shape}
use Rattle.mark_core.specs.declared.kinds.Step.{Step}
use Rattle.mark_core.specs.declared.kinds.Step.TheVariants.{DirtyCard, Push}
use Rattle.gc_table.specs.Log.{all_steps, events}
use Rattle.gc_table.specs.Notes.{look}
use Rattle.gc_table.specs.Running.{AllSeen, Ran, after_all}
use Rattle.gc_table.specs.declared.view.Entry.{Entry}
use Rattle.gc_table.specs.declared.view.View.{View}
use Rattle.gc_table.proofs.Running.{ran-events, ran-join, ran-shape}
use Rattle.packet_pools.specs.Counts.{count_of, dirties, marks_white, pushes}
use Rattle.packet_pools.specs.Outside.{AreNotedOutside}
use Rattle.packet_pools.specs.Seeking.{moves_packet, only_moves}
use Rattle.packet_pools.proofs.Counting.{count-join}
use Rattle.tracer.specs.Causes.{NotesNoInput}
use Rattle.card_clean.specs.Cleaning.{SpillsWhite}
use Rattle.card_clean.specs.DirtyCards.{CleansAllDirty}
use Rattle.card_clean.specs.Looking.{KeepsAllNotes, looks_clean}
use Rattle.card_clean.proofs.CardLooks.{outside-kept}
use Rattle.gc_cycle.specs.Finishing.{IsAloneIn}
use Rattle.gc_cycle.specs.LeftToDrain.{Shrinks, left_to_drain}
use Rattle.gc_cycle.specs.Lower.{HasTraced, traces_or_cleans}
use Rattle.gc_cycle.specs.Sorts.{pops}
use Rattle.gc_cycle.proofs.Ends.CardRounds.{all-clean, fewer-cards}
use Rattle.gc_cycle.proofs.Ends.Uses.{uses-up}
use Rattle.gc_cycle.proofs.Idling.{rest-parts}
use Rattle.gc_cycle.proofs.Traced.{traced-part}

-- packets that come and go
moves-neither : (qs : List ℕ) (step : Step) (n : ℕ) → moves_packet qs step ≡ true → (pushes step n ≡ false) × (dirties step n ≡ false)
moves-neither qs (Push p c) n e = absurd (false≢true e)
moves-neither qs (DirtyCard k) n e = absurd (false≢true e)
moves-neither qs step n e = (refl, refl)

pub none-moved : (qs : List ℕ) (es : List Entry) → only_moves qs es ≡ true → (count_of pushes es ≡ 0) × (count_of dirties es ≡ 0)
none-moved qs [] m = (refl, refl)
none-moved qs (e ∷ es) m =
    let p = and_parts (moves_packet qs e.step) (only_moves qs es) m in
    let one = moves-neither qs e.step e.found p.0 in
    let rest = none-moved qs es p.1 in
    ((λ i. cond (one.0 i) 1 0 + rest.0 i), (λ i. cond (one.1 i) 1 0 + rest.1 i))

pub counted : (f : Step → ℕ → Bool) (u v w : View) → Ran u v → Ran v w → count_of f (events u w) ≡ count_of f (events u v) + count_of f (events v w)
counted f u v w a b = ap (count_of f) (ran-events u v w a b) ∙ count-join f (events u v) (events v w)

pub shrinks : (sh : Shape) (quota done n : ℕ) (qs : List ℕ) (v w x y : View) → v.shape ≡ sh → IsAloneIn Drain v → v.state.active ≡ false → 0 < quota
    → HasTraced v w → only_moves qs (events v w) ≡ true → AreNotedOutside 3 w
    → HasTraced w x → count_of pops (events w x) ≡ done → (0 < quota → done ≡ 0 → NotesNoInput w x) → count_of pushes (events w x) + count_of dirties (events w x) ≤ count_of marks_white (events w x)
    → HasTraced x y → (AreNotedOutside 3 x → CleansAllDirty sh n (events x y)) → SpillsWhite (events x y)
    → Shrinks v y
shrinks sh quota done n qs v w x y is a still some tv moves out tw did noted spilled tx packet spills =
    let aw : IsAloneIn Drain w = (traced-part v w a tv).alone in
    let ax : IsAloneIn Drain x = (traced-part w x aw tw).alone in
    let ay : IsAloneIn Drain y = (traced-part x y ax tx).alone in
    let whole : Ran v y = ran-join v w y tv.ran (ran-join w x y tw.ran tx.ran) in
    let none = none-moved qs (events v w) moves in
    let c = λ (f : Step → ℕ → Bool). counted f v w y tv.ran (ran-join w x y tw.ran tx.ran) in
    let d = λ (f : Step → ℕ → Bool). counted f w x y tw.ran tx.ran in
    let first = uses-up v w tv.ran tv.only a in
    let second = uses-up w x tw.ran tw.only aw in
    let third = uses-up x y tx.ran tx.only ax in
    let white : ℕ = count_of marks_white (events v w) + count_of marks_white (events w x) + count_of marks_white (events x y) in
    let popped : ℕ = count_of pops (events v w) + count_of pops (events w x) + count_of pops (events x y) in
    ⊎_elim
    (λ (z : white + popped ≡ 0).
    let quiet : done ≡ 0 = omega (arith, z, did) in
    let no = noted some quiet in
    let deferred : AreNotedOutside 3 x = λ p l. no.others aw.rest.alone 3 p refl (subst (λ (s : Shape). p < s.packets) (ran-shape w x tw.ran) l) (out p (subst (λ (s : Shape). p < s.packets) (ran-shape w x tw.ran) l)) in
    let undirtied : count_of dirties (events x y) ≡ 0 = omega (arith, z, spills) in
    let shape : x.shape ≡ sh = ran-shape w x tw.ran ∙ (ran-shape v w tv.ran ∙ is) in
    let bound : left_to_drain x ≤ left_to_drain v = omega (arith, first.cells, first.queue, first.cards, second.cells, second.queue, second.cards, none.0, none.1, z, spilled) in
    ⊎_elim
    (λ (e : (n ≡ 0) × (events x y ≡ looks_clean 0 (card_count sh))).
    let seen : AllSeen (looks_clean 0 (card_count sh)) x = subst (λ es. AllSeen es x) e.1 tx.ran.seen in
    let end : y ≡ after_all (looks_clean 0 (card_count sh)) x = tx.ran.steps ∙ ap (λ es. after_all es x) e.1 in
    let all = all-clean 0 (card_count sh - 0) x ax.rest.alone seen in
    let keeps : KeepsAllNotes x y = subst (KeepsAllNotes x) (sym end) all.0 in
    let shape' : y.shape ≡ x.shape = ran-shape x y tx.ran in
    let hands = (rest-parts y.shape y.state tx.rest) in
    inr (
      omega (arith, bound, third.cells, third.queue, third.cards, z, spills),
      record {
        cards = λ card low l. subst (λ (u : View). look (card_at card) u.known ≡ Some 0) (sym end) (all.1 card low (let below = subst (λ (s : Shape). card < card_count s) (shape' ∙ shape) l in omega (arith, below)));
        low = outside-kept 1 x y shape' keeps (no.low aw.rest.alone);
        high = outside-kept 2 x y shape' keeps (no.high aw.rest.alone);
        deferred = outside-kept 3 x y shape' keeps deferred;
        hands = and_from _ _ (and_from _ _ (ap not hands.packets) (ap not hands.reserved)) (ap not hands.credit);
      },
    ))
    (λ e.
    let fewer =
    fewer-cards sh e.0 n e.2 x y e.1 (subst (λ (s : Shape). e.0 < card_count s) (sym shape) e.1)
    (record { steps = subst (λ es. all_steps traces_or_cleans es ≡ true) e.3 tx.only; seen = subst (λ es. AllSeen es x) e.3 tx.ran.seen; lone = ax.rest.alone; none = ap (count_of dirties) (sym e.3) ∙ undirtied })
    (tx.ran.steps ∙ ap (λ es. after_all es x) e.3)
    (ran-shape x y tx.ran)
    e.4 in
    inl (omega (arith, bound, third.cells, third.queue, fewer, z, spills)))
    (packet deferred))
    (λ (z : white + popped ≡ 0 → ⊥).
    let some : 0 < white + popped = grind (arith, z) in
    inl (omega (arith, some, first.cells, first.queue, first.cards, second.cells, second.queue, second.cards, third.cells, third.queue, third.cards, none.0, none.1, spilled, spills)))
    (cases_eq (white + popped) 0)
