-- What a pass over the next cards leaves as it was, call by call.
use Rattle.std.proofs.Common.{ℕ, ◌≡◌, inl, inr, refl, sym, ap, ◌∙◌, subst, Bool, true, false, Option, Some, None}
use Rattle.std.specs.Prelude.{IfNone, IfSome}
use Rattle.std.proofs.lemmas.Bool.{false≢true}
use Rattle.mark_core.specs.declared.kinds.Step.{Step}
use Rattle.mark_core.specs.declared.kinds.Step.TheVariants.{NextOfCards, ReadStat}
use Rattle.mark_core.specs.declared.seat.SeatState.{SeatState}
use Rattle.mark_core.specs.declared.kinds.Shape.{Shape}
use Rattle.gc_table.specs.Log.{Only, all_steps, events}
use Rattle.gc_table.specs.Running.{Ran, changes_section}
use Rattle.gc_table.specs.declared.view.View.{View}
use Rattle.gc_table.proofs.History.Log.{only-more, only-none}
use Rattle.gc_table.proofs.Running.{own-kept, ran-join, ran-only, ran-refl}
use Rattle.packet_pools.specs.OnlyTraced.{OnlyTracedBy, rest_of, traces_cells}
use Rattle.packet_pools.specs.Counts.{dirties}
use Rattle.packet_pools.specs.Seeking.{NoOutput, only_moves, output_pools, some_event, was_got}
use Rattle.packet_pools.specs.Tried.{SearchesThrough}
use Rattle.packet_pools.specs.declared.held.Held.{Held}
use Rattle.packet_pools.specs.declared.search.Search.{Search}
use Rattle.packet_pools.proofs.Overflows.{overflows-none}
use Rattle.card_clean.specs.NextCards.{MeetsDirty, OnlyPassed, PassesNextCards, PassesNone, PassesWithPacket, passes_cards}
use Rattle.card_clean.specs.Passing.{DrawsCard, draws_card}
use Rattle.card_clean.proofs.Drawn.{rooted-drawn}
use Rattle.card_clean.proofs.Searched.{leads-still}
use Rattle.card_clean.proofs.Staying.{rooted-stays}

pub passed-none : (v : View) → OnlyPassed v v
passed-none v = record { ran = ran-refl v; only = only-none passes_cards v; own = refl; rest = refl; rooted = λ r. r }

pub passed-join : (u v w : View) → OnlyPassed u v → OnlyPassed v w → OnlyPassed u w
passed-join u v w a b =
    record {
      ran = ran-join u v w a.ran b.ran;
      only = ran-only passes_cards u v w a.ran b.ran a.only b.only;
      own = b.own ∙ a.own;
      rest = b.rest ∙ ap (λ (s : SeatState). record s { below_card = w.state.below_card }) a.rest;
      rooted = λ r. b.rooted (a.rooted r);
    }

-- a call that traces or cleans
trace-passes : (step : Step) → traces_cells step ≡ true → passes_cards step ≡ true
trace-passes NextOfCards e = refl
trace-passes (ReadStat which) e = absurd (false≢true e)
trace-passes step e = e

pub passed-traced : {b : Bool} (v w : View) → OnlyTracedBy b v w → OnlyPassed v w
passed-traced v w l =
    record {
      ran = l.ran;
      only = only-more traces_cells passes_cards trace-passes v w l.only;
      own = l.own;
      rest = l.rest ∙ (λ i. record (rest_of v.state) { below_card = sym (ap (λ (s : SeatState). s.below_card) l.rest) i });
      rooted = rooted-stays v w l.ran l.only;
    }

-- a card is drawn
draws-pass : (r : Option ℕ) (v w : View) → DrawsCard r v w → Only passes_cards v w
draws-pass r v w (inl over) = ap (all_steps passes_cards) over.0.events_are
draws-pass r v w (inr gives) = ap (all_steps passes_cards) gives.1.events_are

draw-own : (step : Step) → draws_card step ≡ true → changes_section step ≡ false
draw-own (ReadStat which) e = refl
draw-own NextOfCards e = refl
draw-own step e = absurd (false≢true e)

pub passed-drawn : (r : Option ℕ) (v w : View) → Ran v w → Only draws_card v w → DrawsCard r v w → w.state ≡ record v.state { below_card = false } → OnlyPassed v w
passed-drawn r v w ran only d e =
    record {
      ran = ran;
      only = draws-pass r v w d;
      own = own-kept draws_card draw-own v w ran only;
      rest = ap rest_of e ∙ (λ i. record (rest_of v.state) { below_card = sym (ap (λ (s : SeatState). s.below_card) e) i });
      rooted = rooted-drawn v w ran only;
    }

-- no packet is taken with it, and no card is dirtied
draws-ungot : (r : Option ℕ) (v w : View) → DrawsCard r v w → (p : ℕ) → was_got p (events v w) ≡ false
draws-ungot r v w (inl over) p = ap (was_got p) over.0.events_are
draws-ungot r v w (inr gives) p = ap (was_got p) gives.1.events_are

draws-undirtied : (r : Option ℕ) (v w : View) → DrawsCard r v w → some_event dirties (events v w) ≡ false
draws-undirtied r v w (inl over) = ap (some_event dirties) over.0.events_are
draws-undirtied r v w (inr gives) = ap (some_event dirties) gives.1.events_are

pub overflows-drawn : (sh : Shape) (s : Search) (h : Held) (r : Option ℕ) (v w : View) → DrawsCard r v w → SearchesThrough sh s s h h (events v w)
overflows-drawn sh s h r v w d = overflows-none sh s s h h (events v w) (draws-undirtied r v w d) (leads-still sh s h (events v w) (draws-ungot r v w d))

-- after the first dirty card
pub some-passed : (o : Option ℕ) (early : Bool) (more looks card : ℕ) (v w x : View) → MeetsDirty more looks card v w → IfSome o (λ left. PassesWithPacket early left more card w x) → IfSome o (λ left. PassesNextCards early left looks v x)
some-passed (Some left) early more looks card v w x m p = record { more = more; card = card; seen = w; meets = m; passes = p }
some-passed None early more looks card v w x m p = tt

pub none-passed : (o : Option ℕ) (sh : Shape) (more looks card : ℕ) (v w x : View) → v.shape ≡ sh → MeetsDirty more looks card v w → Ran w x → IfNone o (NoOutput sh (events w x) × (only_moves output_pools (events w x) ≡ true)) → IfNone o (PassesNone looks v x)
none-passed (Some left) sh more looks card v w x e m r n = tt
none-passed None sh more looks card v w x e m r n = inr (more, card, w, m, r, subst (λ (s : Shape). NoOutput s (events w x)) (sym e) n.0, n.1)
