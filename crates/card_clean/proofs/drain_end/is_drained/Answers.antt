use Rattle.std.proofs.Common.{◌≡◌, ◌+◌, [], ◌∷◌, ◌++◌, arith, refl, sym, ap, ◌∙◌, subst, true, Some, eqb-true, eq-eqb, inl, inr, ◌-◌, ◌<◌}
use Rattle.std.proofs.lemmas.Bool.{true≢false}
use Rattle.mark_core.specs.Layout.{card_count}
use Rattle.mark_core.specs.Numbers.{empty_offset}
use Rattle.mark_core.specs.Places.{the_empty_count}
use Rattle.mark_core.specs.Seats.{empty_handed, work_in_hand}
use Rattle.mark_core.specs.declared.kinds.Shape.{Shape}
use Rattle.mark_core.specs.declared.kinds.Step.TheVariants.{ReadCount}
use Rattle.mark_core.specs.declared.seat.SeatState.{SeatState}
use Rattle.gc_table.specs.declared.view.View.{View}
use Rattle.gc_table.specs.Notes.{look}
use Rattle.gc_table.specs.Seats.{view_of}
use Rattle.gc_table.specs.Log.{event, events}
use Rattle.gc_table.proofs.History.Log.{events-after, events-join}
use Rattle.packet_pools.proofs.TracedSteps.{traced-join}
use Rattle.card_clean.specs.Drained.{AreNotedClean}
use Rattle.card_clean.specs.Leaving.{rescanned_in}
use Rattle.card_clean.specs.Looking.{KeepsAllNotes, looks_clean}
use Rattle.card_clean.proofs.CardLooks.{clean-kept, count-noted, rescanned-clean, rescanned-dirty, look-keeps, outside-kept}
use Rattle.card_clean.proofs.Staying.{rooted-stays}
use Rattle.card_clean.proofs.Settling.{settled-count}
use Rattle.card_clean.proofs.Leavings.{rescanned-join}
use Rattle.packet_pools.proofs.Few.{few-after, few-join}
use Rattle.card_clean.proofs.drain_end.is_drained.Goals as goal

pub returns-in-Some-clause-rooted : goal.returns-in-Some-clause-rooted
returns-in-Some-clause-rooted c = rooted-stays (view_of c.args.seat.now) (view_of c.first_dirty.new.seat) c.first_dirty.ensures.only.ran c.first_dirty.ensures.only.only c.requires.rooted

pub returns-in-None-clause-only : goal.returns-in-None-clause-only
returns-in-None-clause-only c = traced-join (view_of c.args.seat.now) (view_of c.first_dirty.new.seat) (view_of c.all_empty.new.seat) c.first_dirty.ensures.only c.all_empty.ensures.only

pub returns-in-None-clause-rooted : goal.returns-in-None-clause-rooted
returns-in-None-clause-rooted c =
    let v : View = view_of c.args.seat.now in
    let w : View = view_of c.first_dirty.new.seat in
    let x : View = view_of c.all_empty.new.seat in
    let l = traced-join v w x c.first_dirty.ensures.only c.all_empty.ensures.only in
    rooted-stays v x l.ran l.only c.requires.rooted

pub returns-in-None-clause-drained : goal.returns-in-None-clause-drained
unfolding returns-in-None-clause-rooted
returns-in-None-clause-drained c full =
    let v : View = view_of c.args.seat.now in
    let w : View = view_of c.first_dirty.new.seat in
    let x : View = view_of c.all_empty.new.seat in
    let f = c.in-None.ensures in
    let n = c.all_empty.ensures.count in
    let shape : x.shape ≡ c.args.heap.now.shape = c.all_empty.ensures.seat.1 in
    let same : x.state ≡ v.state = c.all_empty.ensures.state ∙ c.first_dirty.ensures.state in
    let alone : w.state.alone ≡ true = ap (λ (s : SeatState). s.alone) c.first_dirty.ensures.state ∙ c.requires.rooted.ready.drains.alone in
    let all : n.0 ≡ empty_offset + c.args.heap.now.shape.packets = eqb-true _ _ (sym n.3 ∙ full) in
    record {
      rooted = returns-in-None-clause-rooted c;
      cards =
          subst (λ (sh : Shape). AreNotedClean 0 (card_count sh) x) (sym shape)
          (clean-kept 0 (card_count c.args.heap.now.shape) w x (subst (KeepsAllNotes w) (sym n.1) (look-keeps w ReadCount n.0 refl refl n.2)) (f.noted c.requires.rooted.ready.drains.alone));
      empty = ap (λ (z : View). look the_empty_count z.known) n.1 ∙ (count-noted w n.0 alone ∙ ap Some (all ∙ ap (λ (sh : Shape). empty_offset + sh.packets) (sym shape)));
      work = (λ i. work_in_hand (shape i).fields (same i)) ∙ c.requires.work;
    }

pub returns-in-Some-clause-left : goal.returns-in-Some-clause-left
returns-in-Some-clause-left c =
    let v : View = view_of c.args.seat.now in
    rescanned-dirty v (view_of c.first_dirty.new.seat) 0 c.in-Some.field-0 c.in-Some.ensures.dirty.2

pub returns-in-None-clause-left : goal.returns-in-None-clause-left
returns-in-None-clause-left c =
    let v : View = view_of c.args.seat.now in
    let w : View = view_of c.first_dirty.new.seat in
    let x : View = view_of c.all_empty.new.seat in
    let n = c.all_empty.ensures.count in
    let j = rescanned-join v w x c.first_dirty.ensures.only.ran c.all_empty.ensures.only.ran in
    let first : rescanned_in v (events v w) ≡ 0 = rescanned-clean v w 0 (card_count c.args.heap.now.shape) c.in-None.ensures.clean in
    let second : rescanned_in w (events w x) ≡ 0 = ap (rescanned_in w) (events-after w x ReadCount n.0 n.1) in
    omega (arith, j, first, second)

pub returns-in-Some-clause-undrained : goal.returns-in-Some-clause-undrained
returns-in-Some-clause-undrained c found = inl (c.in-Some.field-0, c.in-Some.ensures.dirty.1, c.in-Some.ensures.dirty.2)

pub returns-in-None-clause-undrained : goal.returns-in-None-clause-undrained
returns-in-None-clause-undrained c some =
    let v : View = view_of c.args.seat.now in
    let w : View = view_of c.first_dirty.new.seat in
    let x : View = view_of c.all_empty.new.seat in
    let n = c.all_empty.ensures.count in
    inr (
      n.0,
      λ all. true≢false (sym (eq-eqb _ _ all) ∙ (sym n.3 ∙ some)),
      events-join v w x c.first_dirty.ensures.only.log c.all_empty.ensures.only.log ∙ (λ i. c.in-None.ensures.clean i ++ events-after w x ReadCount n.0 n.1 i),
    )

pub returns-in-None-clause-over : goal.returns-in-None-clause-over
returns-in-None-clause-over c full =
    let v : View = view_of c.args.seat.now in
    let w : View = view_of c.first_dirty.new.seat in
    let x : View = view_of c.all_empty.new.seat in
    let n = c.all_empty.ensures.count in
    let all : n.0 ≡ empty_offset + c.args.heap.now.shape.packets = eqb-true _ _ (sym n.3 ∙ full) in
    events-join v w x c.first_dirty.ensures.only.log c.all_empty.ensures.only.log
    ∙ ((λ i. c.in-None.ensures.clean i ++ events-after w x ReadCount n.0 n.1 i) ∙ ap (λ k. looks_clean 0 (card_count c.args.heap.now.shape) ++ event ReadCount k ∷ []) all)

pub returns-in-Some-clause-few : goal.returns-in-Some-clause-few
returns-in-Some-clause-few c = let few = c.first_dirty.ensures.few in omega (arith, few)

pub returns-in-None-clause-few : goal.returns-in-None-clause-few
returns-in-None-clause-few c =
    let w : View = view_of c.first_dirty.new.seat in
    let x : View = view_of c.all_empty.new.seat in
    let n = c.all_empty.ensures.count in
    let f = c.first_dirty.ensures in
    let all = few-join (card_count c.args.heap.now.shape - 0) 1 (view_of c.args.seat.now) w x f.only.ran c.all_empty.ensures.only.ran f.few (few-after w x ReadCount n.0 n.1) in
    omega (arith, all)

pub returns-in-Some-clause-settled : goal.returns-in-Some-clause-settled
returns-in-Some-clause-settled c = λ s.
    let v : View = view_of c.args.seat.now in
    let below : c.in-Some.field-0 < card_count v.shape = subst (λ (sh : Shape). c.in-Some.field-0 < card_count sh) (sym c.requires.seat.1) c.in-Some.ensures.dirty.1 in
    absurd (c.in-Some.ensures.unnoted (s.cards c.in-Some.field-0 (omega arith) below))

pub returns-in-None-clause-settled : goal.returns-in-None-clause-settled
returns-in-None-clause-settled c = λ s.
    let v : View = view_of c.args.seat.now in
    let w : View = view_of c.first_dirty.new.seat in
    let e = c.first_dirty.ensures in
    let n = c.all_empty.ensures.count in
    let all : n.0 ≡ empty_offset + w.shape.packets =
    settled-count w n.0 n.2 (ap (λ (z : SeatState). z.alone) e.state ∙ c.requires.rooted.ready.drains.alone) (ap empty_handed e.state ∙ s.hands)
    (outside-kept 1 v w e.only.shape e.notes s.low) (outside-kept 2 v w e.only.shape e.notes s.high) (outside-kept 3 v w e.only.shape e.notes s.deferred) in
    n.3 ∙ eq-eqb _ _ (all ∙ ap (λ (sh : Shape). empty_offset + sh.packets) e.seat.1)
