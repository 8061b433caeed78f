-- Tracing by a seat that stopped the world.
use Rattle.std.proofs.Common.{ℕ, ◌≡◌, refl, ap, ◌∙◌, true, false, not, ◌&&◌, ◌||◌, None, Some, arith, ⊎_elim, inl, inr}
use Rattle.std.specs.Prelude.{◌==◌, is_none}
use Rattle.std.proofs.lemmas.Bool.{and_from, and_parts, false≢true, or_left, or_right}
use Rattle.mark_core.specs.Places.{the_phase}
use Rattle.mark_core.specs.Seats.{empty_handed, has_making, is_the, saw, work_in_hand}
use Rattle.mark_core.specs.Steps.WorldSteps.{has_nothing}
use Rattle.mark_core.specs.declared.kinds.Phase.TheVariants.{Drain, Marking}
use Rattle.mark_core.specs.declared.kinds.Shape.{Shape}
use Rattle.mark_core.specs.declared.kinds.Step.{Step}
use Rattle.mark_core.specs.declared.kinds.Step.TheVariants.{Reserve, Take, Give, Credit, Push, Pop, Look, ReadAlloc, ReadField, ReadRoot, SetMark, DirtyCard, ClearCard, ReadMarks, ReadCard, ReadCount, StoreLength, ReadLength, NextOfCards, ReadStat, LoadSlot}
use Rattle.mark_core.specs.declared.seat.SeatState.{SeatState}
use Rattle.gc_table.specs.Notes.{look}
use Rattle.gc_table.specs.declared.view.View.{View}
use Rattle.packet_pools.specs.Tracing.{traces}
use Rattle.gc_table.specs.Running.{ends_alone, Ran}
use Rattle.gc_table.specs.Log.{events}
use Rattle.gc_table.proofs.History.Log.{only-more, only-none}
use Rattle.gc_table.proofs.Noticing.{alone-kept}
use Rattle.gc_table.proofs.Running.{ran-join, ran-refl}
use Rattle.gc_cycle.specs.Finishing.{DrainsInStop, IsAloneIn, IsOpen, IsOpenPart, IsPart, stays_in}
use Rattle.gc_cycle.specs.Lower.{HasTraced, traces_or_cleans}
use Rattle.gc_cycle.specs.Standing.{is_at_rest}
use Rattle.card_clean.specs.Leaving.{rescans, rescanned_in}
use Rattle.gc_cycle.proofs.Ends.Completing.{total-run}
use Rattle.gc_cycle.proofs.Stops.Opened.{phase-kept}

-- a seat that knows, in a drain, may trace
pub known-traces : (v : View) → v.state.knows ≡ true → look the_phase v.known ≡ Some 2 → traces v ≡ true
known-traces v k e =
    or_left ((v.state.active && saw v.state.phase_seen Marking) || (v.state.knows && is_the (look the_phase v.known) 2)) (v.state.admitted && saw v.state.phase_seen Drain)
    (or_right (v.state.active && saw v.state.phase_seen Marking) (v.state.knows && is_the (look the_phase v.known) 2) (and_from _ _ k (ap (λ o. is_the o 2) e)))

pub alone-traces : (v : View) → IsAloneIn Drain v → traces v ≡ true
alone-traces v a = known-traces v a.rest.knows a.alone.phase

pub open-traces : (v : View) → IsOpen Drain v → traces v ≡ true
open-traces v o = known-traces v o.knows o.phase.0

-- with nothing in hand it is at rest
pub nothing-rest : (sh : Shape) (s : SeatState) → has_nothing sh s ≡ true → is_at_rest sh s ≡ true
nothing-rest sh s e =
    let p5 = and_parts _ ((s.got == 0) && (s.lags == 0)) e in
    let p4 = and_parts _ (is_none s.block) p5.0 in
    let p3 = and_parts (empty_handed s && not (work_in_hand sh.fields s) && is_none s.owes) (is_none s.cache) p4.0 in
    and_from _ _ (and_from _ _ (and_from _ _ p3.0 p4.1) p5.1) (no-making s.cache p3.1)
  where
    no-making : (o : _) → is_none o ≡ true → not (has_making o) ≡ true
    no-making None h = refl
    no-making (Some x) h = absurd (false≢true h)

-- a seat at rest without a cache has nothing in hand
pub rest-nothing : (sh : Shape) (s : SeatState) → is_at_rest sh s ≡ true → is_none s.cache ≡ true → has_nothing sh s ≡ true
rest-nothing sh s e n =
    let p5 = and_parts _ (not (has_making s.cache)) e in
    let p4 = and_parts _ ((s.got == 0) && (s.lags == 0)) p5.0 in
    let p3 = and_parts (empty_handed s && not (work_in_hand sh.fields s) && is_none s.owes) (is_none s.block) p4.0 in
    and_from _ _ (and_from _ _ (and_from _ _ p3.0 n) p3.1) p4.1

pub no-cache : (sh : Shape) (s : SeatState) → has_nothing sh s ≡ true → is_none s.cache ≡ true
no-cache sh s e = (and_parts (empty_handed s && not (work_in_hand sh.fields s) && is_none s.owes) (is_none s.cache) (and_parts _ (is_none s.block) (and_parts _ ((s.got == 0) && (s.lags == 0)) e).0).0).1

traced-nothing : (v w : View) → has_nothing v.shape v.state ≡ true → HasTraced v w → has_nothing w.shape w.state ≡ true
traced-nothing v w e t = rest-nothing w.shape w.state t.rest (ap (λ (s : SeatState). is_none s.cache) t.record_is ∙ no-cache v.shape v.state e)

pub quiet : (step : Step) → traces_or_cleans step ≡ true → ends_alone step ≡ false
quiet Reserve e = refl
quiet (Take q p) e = refl
quiet (Give p d) e = refl
quiet Credit e = refl
quiet (Push p c) e = refl
quiet (Pop p) e = refl
quiet (Look q g) e = refl
quiet ReadCount e = refl
quiet (ReadAlloc b) e = refl
quiet (ReadField c i) e = refl
quiet (ReadRoot s v) e = refl
quiet (LoadSlot s k) e = refl
quiet (SetMark c) e = refl
quiet (DirtyCard card) e = refl
quiet (ClearCard card) e = refl
quiet (ReadMarks b) e = refl
quiet (ReadCard card) e = refl
quiet (StoreLength p) e = refl
quiet (ReadLength p) e = refl
quiet NextOfCards e = refl
quiet (ReadStat which) e = refl
quiet step e = absurd (false≢true e)

pub traces-stay : (step : Step) → traces_or_cleans step ≡ true → stays_in Drain step ≡ true
traces-stay Reserve e = refl
traces-stay (Take q p) e = refl
traces-stay (Give p d) e = refl
traces-stay Credit e = refl
traces-stay (Push p c) e = refl
traces-stay (Pop p) e = refl
traces-stay (Look q g) e = refl
traces-stay ReadCount e = refl
traces-stay (ReadAlloc b) e = refl
traces-stay (ReadField c i) e = refl
traces-stay (ReadRoot s v) e = refl
traces-stay (LoadSlot s k) e = refl
traces-stay (SetMark c) e = refl
traces-stay (DirtyCard card) e = refl
traces-stay (ClearCard card) e = refl
traces-stay (ReadMarks b) e = refl
traces-stay (ReadCard card) e = refl
traces-stay (StoreLength p) e = refl
traces-stay (ReadLength p) e = refl
traces-stay NextOfCards e = refl
traces-stay (ReadStat which) e = refl
traces-stay step e = absurd (false≢true e)

pub traced-part : (v w : View) → IsAloneIn Drain v → HasTraced v w → IsPart Drain v w
traced-part v w a t =
    record {
      ran = t.ran;
      only = only-more traces_or_cleans (stays_in Drain) traces-stay v w t.only;
      alone =
          record {
            rest =
                record {
                  knows = ap (λ (s : SeatState). s.knows) t.record_is ∙ a.rest.knows;
                  alone = ap (λ (s : SeatState). s.alone) t.record_is ∙ a.rest.alone;
                  rest = traced-nothing v w a.rest.rest t;
                };
            alone = alone-kept Drain traces_or_cleans quiet v w t.ran t.only a.alone;
          };
    }

pub traced-open : (v w : View) → IsOpen Drain v → HasTraced v w → IsOpenPart Drain v w
traced-open v w o t =
    record {
      ran = t.ran;
      only = only-more traces_or_cleans (stays_in Drain) traces-stay v w t.only;
      still =
          record {
            knows = ap (λ (s : SeatState). s.knows) t.record_is ∙ o.knows;
            opened = ap (λ (s : SeatState). s.opened) t.record_is ∙ o.opened;
            phase = phase-kept traces_or_cleans 2 quiet v w t.ran t.only o.knows o.phase;
            rest = traced-nothing v w o.rest t;
          };
    }

-- a seat that drains in a stop may trace, with nothing in hand, and drains on
pub drains-trace : (v : View) → DrainsInStop v → traces v ≡ true
drains-trace v d = ⊎_elim (alone-traces v) (open-traces v) d

pub drains-rest : (v : View) → DrainsInStop v → is_at_rest v.shape v.state ≡ true
drains-rest v d = nothing-rest v.shape v.state (⊎_elim (λ (a : IsAloneIn Drain v). a.rest.rest) (λ (o : IsOpen Drain v). o.rest) d)

pub drains-on : (v w : View) → DrainsInStop v → HasTraced v w → DrainsInStop w
drains-on v w d t = ⊎_elim (λ (a : IsAloneIn Drain v). inl (traced-part v w a t).alone) (λ (o : IsOpen Drain v). inr (traced-open v w o t).still) d

-- nothing was done
pub traced-nothing-done : (v : View) → is_at_rest v.shape v.state ≡ true → HasTraced v v
traced-nothing-done v r = record { ran = ran-refl v; only = only-none traces_or_cleans v; rest = r; record_is = refl; rooted = λ k. k }

-- the third of three calls rescans, as one
pub rescans-last : (u v w x : View) (n : ℕ) → Ran u v → Ran v w → Ran w x → rescanned_in u (events u v) ≡ 0 → rescanned_in v (events v w) ≡ 0 → rescanned_in w (events w x) ≡ n → rescanned_in u (events u x) ≡ n
rescans-last u v w x n r q p a b d =
    let first = total-run rescans u v x r (ran-join v w x q p) in
    let second = total-run rescans v w x q p in
    omega (arith, first, second, a, b, d)

pub rescans-none : (u v w : View) → Ran u v → Ran v w → rescanned_in u (events u v) ≡ 0 → rescanned_in v (events v w) ≡ 0 → rescanned_in u (events u w) ≡ 0
rescans-none u v w r q a b = let first = total-run rescans u v w r q in omega (arith, first, a, b)
