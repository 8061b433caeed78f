use Rattle.std.proofs.Common.{ℕ, arith, ◌≡◌, ◌∙◌, refl, sym, ap, true, false, not, Option, Some, None, ◌||◌, ◌&&◌, eqb-true}
use Rattle.std.specs.Prelude.{◌==◌}
use Rattle.std.proofs.lemmas.Bool.{and_right, false≢true, true≢false}
use Rattle.mark_core.specs.Layout.{block_count}
use Rattle.mark_core.specs.Numbers.{block_counter, card_counter}
use Rattle.mark_core.specs.Seats.{saw}
use Rattle.mark_core.specs.declared.kinds.Phase.{Phase}
use Rattle.mark_core.specs.declared.kinds.Phase.TheVariants.{Drain, Sweep}
use Rattle.mark_core.specs.declared.kinds.Step.{Step}
use Rattle.mark_core.specs.declared.kinds.Step.TheVariants.{ClearCard, NextBlock, NextOfCards, Pop, ReadField, ReadStat}
use Rattle.mark_core.specs.declared.seat.SeatState.{SeatState}
use Rattle.gc_table.specs.Log.{events}
use Rattle.gc_table.specs.Seats.{view_of}
use Rattle.gc_table.specs.declared.view.View.{View}
use Rattle.card_clean.specs.Leaving.{rescans}
use Rattle.gc_cycle.specs.declared.counts.Helped.{Helped}
use Rattle.gc_cycle.specs.declared.counts.HelpEnd.{HelpEnd}
use Rattle.gc_cycle.specs.declared.counts.HelpEnd.TheVariants.{Quota, NoWork, NoPacket, Swept}
use Rattle.gc_cycle.specs.Draining.{EndsAs, EndsAt, HelpsOn, StopsFor, SweepsOn}
use Rattle.gc_cycle.specs.Helping.{DrainsTo, HelpsAs}
use Rattle.gc_cycle.specs.Lower.{sweeps_next, traces_or_cleans}
use Rattle.gc_cycle.specs.Moments.{begins}
use Rattle.gc_cycle.specs.Sorts.{draws_block, passes_card, pops}
use Rattle.gc_cycle.proofs.Stops.Admitted.{count-none}
use Rattle.gc_cycle.proofs.Stops.Beside.{sweeps-beside, traces-beside}
use Rattle.gc_cycle.proofs.Stops.HelperDrains.{passes-all, passes-none}
use Rattle.gc_cycle.proofs.Sequences.{none-of-steps, total-none}
use Rattle.gc_cycle.proofs.helping.help_with.Goals as goal

sweeps-unpopped : (step : Step) (n : ℕ) → sweeps_next step ≡ true → pops step n ≡ false
sweeps-unpopped (Pop p) n e = absurd (false≢true e)
sweeps-unpopped step n e = refl

sweeps-unpassed : (step : Step) (n : ℕ) → sweeps_next step ≡ true → passes_card step n ≡ false
sweeps-unpassed (ReadStat which) n e = ap (λ k. (k == card_counter) || false) (eqb-true which block_counter e)
sweeps-unpassed (ClearCard card) n e = absurd (false≢true e)
sweeps-unpassed NextOfCards n e = absurd (false≢true e)
sweeps-unpassed step n e = refl

sweeps-unscanned : (s : SeatState) (step : Step) (n : ℕ) → sweeps_next step ≡ true → rescans s step n ≡ 0
sweeps-unscanned s (ReadField c i) n e = absurd (false≢true e)
sweeps-unscanned s step n e = refl

traces-unswept : (blocks : ℕ) (step : Step) (n : ℕ) → traces_or_cleans step ≡ true → draws_block blocks step n ≡ false
traces-unswept blocks NextBlock n e = absurd (false≢true e)
traces-unswept blocks step n e = refl

drain-of : (o : Option Phase) → (saw o Drain || saw o Sweep) ≡ true → (o ≡ Some Sweep → ⊥) → o ≡ Some Drain
drain-of None e n = absurd (false≢true e)
drain-of (Some Drain) e n = refl
drain-of (Some Sweep) e n = absurd (n refl)
drain-of (Some p) e n = absurd (false≢true e)

drains-to : (h : HelpEnd) (quota done : ℕ) (v w : View) → StopsFor h quota done v w → EndsAt h v w → DrainsTo h v.shape quota done (begins v) (events v w)
drains-to Quota quota done v w s e = s
drains-to NoWork quota done v w s e = (s.0, s.1, e)
drains-to NoPacket quota done v w s e = s
drains-to Swept quota done v w s e = s

swept-as : (quota : ℕ) (helped : Helped) (v w : View) → v.state.phase_seen ≡ Some Sweep → SweepsOn helped v w → HelpsAs quota helped v (events v w)
swept-as quota helped v w p s =
    record {
      traced = count-none pops (events v w) (ap not (none-of-steps sweeps_next pops sweeps-unpopped (events v w) s.only)) ∙ sym s.traced;
      rescanned = total-none rescans sweeps_next sweeps-unscanned (events v w) v s.only ∙ sym s.rescanned;
      most = let none = s.traced in omega (arith, none);
      swept = s.swept;
      drain = λ h. absurd (true≢false (sym h ∙ ap (λ o. saw o Drain) p));
      sweep = λ _. (s.traced, record { ended = s.ended; end = s.end });
    }

drained-as : (quota : ℕ) (helped : Helped) (v w : View) → v.state.phase_seen ≡ Some Drain → HelpsOn quota helped v w → EndsAs helped v w → HelpsAs quota helped v (events v w)
drained-as quota helped v w p h e =
    record {
      traced = h.traced;
      most = h.most;
      rescanned = h.rescanned;
      swept = count-none (draws_block (block_count v.shape)) (events v w) (ap not (none-of-steps traces_or_cleans (draws_block (block_count v.shape)) (traces-unswept (block_count v.shape)) (events v w) h.drained.only)) ∙ sym h.swept;
      drain = λ _. drains-to helped.ended quota helped.traced v w h.stops e;
      sweep = λ k. absurd (true≢false (sym k ∙ ap (λ o. saw o Sweep) p));
    }

pub returns-then-sees_sweep : goal.returns-then-sees_sweep
returns-then-sees_sweep c =
    let v : View = view_of c.args.seat.now in
    let w : View = view_of c.help_sweep.new.seat in
    let s = c.help_sweep.ensures.swept in
    let o = sweeps-beside v w s.ran s.only in
    record {
      seat = (c.help_sweep.ensures.seat, s.helps);
      ran = s.ran;
      helps = swept-as c.args.quota c.help_sweep.result v w c.if-sees_sweep.ensures.sweep s;
      passes =
          passes-none c.args.cards v w (and_right c.args.cards (saw v.state.phase_seen Drain) (ap (λ o. saw o Drain) c.if-sees_sweep.ensures.sweep))
          (ap not (none-of-steps sweeps_next passes_card sweeps-unpassed (events v w) s.only));
      not_full = o.out.not_full;
      only = o.out.only;
      numbers = o.numbers;
      inside = o.inside;
      stays = o.among;
      phase = s.phase;
      keeps = o.out.seat;
      own = o.own;
    }

pub help_drain-requires-clause-drain : goal.help_drain-requires-clause-drain
help_drain-requires-clause-drain c = drain-of (view_of c.args.seat.now).state.phase_seen c.requires.seat.1.phase c.if-sees_sweep.ensures.other

pub help_anew-requires-clause-drain : goal.help_anew-requires-clause-drain
help_anew-requires-clause-drain c = drain-of (view_of c.args.seat.now).state.phase_seen c.requires.seat.1.phase c.if-sees_sweep.ensures.other

pub returns-then-cards : goal.returns-then-cards
returns-then-cards c =
    let v : View = view_of c.args.seat.now in
    let w : View = view_of c.help_anew.new.seat in
    let h = c.help_anew.ensures.helps in
    let o = traces-beside v w h.drained.ran h.drained.only in
    record {
      seat = (c.help_anew.ensures.seat, h.drained.helps);
      ran = h.drained.ran;
      helps = drained-as c.args.quota c.help_anew.result v w (drain-of v.state.phase_seen c.requires.seat.1.phase c.if-sees_sweep.ensures.other) h c.help_anew.ensures.ends;
      passes = passes-all c.args.cards v w c.if-cards.true (drain-of v.state.phase_seen c.requires.seat.1.phase c.if-sees_sweep.ensures.other) c.help_anew.ensures.passes;
      not_full = o.out.not_full;
      only = o.out.only;
      numbers = o.numbers;
      inside = o.inside;
      stays = o.among;
      phase = h.drained.phase;
      keeps = o.out.seat;
      own = o.own;
    }

pub returns : goal.returns
returns c =
    let v : View = view_of c.args.seat.now in
    let w : View = view_of c.help_drain.new.seat in
    let h = c.help_drain.ensures.helps in
    let o = traces-beside v w h.drained.ran h.drained.only in
    record {
      seat = (c.help_drain.ensures.seat, h.drained.helps);
      ran = h.drained.ran;
      helps = drained-as c.args.quota c.help_drain.result v w (drain-of v.state.phase_seen c.requires.seat.1.phase c.if-sees_sweep.ensures.other) h c.help_drain.ensures.ends;
      passes = passes-none c.args.cards v w (λ i. c.if-cards.false i && saw v.state.phase_seen Drain) c.help_drain.ensures.unpassed;
      not_full = o.out.not_full;
      only = o.out.only;
      numbers = o.numbers;
      inside = o.inside;
      stays = o.among;
      phase = h.drained.phase;
      keeps = o.out.seat;
      own = o.own;
    }
