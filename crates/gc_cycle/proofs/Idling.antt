-- A seat at rest may trace with nothing in hand, and is at rest again if its record is as before.
use Rattle.mark_core.specs.Layout.{root_count}
use Rattle.std.proofs.Common.{ℕ, ◌≡◌, [], ◌∷◌, List, length, refl, sym, ap, ◌∙◌, subst, arith, cond, Bool, true, false, not, ◌<◌, ◌&&◌, Some, None, Option}
use Rattle.std.specs.Prelude.{is_some, is_none, ◌==◌}
use Rattle.std.proofs.Math.Logic.{∥∥₁_elim}
use Rattle.std.proofs.Props.{props}
use Rattle.std.proofs.lemmas.Bool.{and_from, and_parts, false≢true, not_from_false, true≢false, or_parts}
use Rattle.mark_core.specs.Held.{Slot, Slots, holds_any}
use Rattle.mark_core.specs.Seats.{empty_handed, has_making, is_the, work_in_hand}
use Rattle.mark_core.specs.Places.{the_next_block}
use Rattle.mark_core.specs.declared.kinds.Phase.TheVariants.{Drain}
use Rattle.mark_core.specs.declared.kinds.Shape.{Shape}
use Rattle.mark_core.specs.declared.kinds.Step.{Step}
use Rattle.mark_core.specs.declared.kinds.Step.TheVariants.{Reserve, Take, Give, Credit, Push, Pop, Look, ReadAlloc, ReadField, ReadRoot, SetMark, DirtyCard, ClearCard, ReadMarks, ReadCard, ReadCount, StoreLength, ReadLength, LoadSlot, NextOfCards, ReadStat}
use Rattle.mark_core.specs.declared.seat.BlockState.{BlockState}
use Rattle.mark_core.specs.declared.seat.SeatState.{SeatState}
use Rattle.gc_table.specs.Rule.{IsPossible}
use Rattle.gc_table.specs.Running.{IsSeen}
use Rattle.gc_table.specs.Taking.{after}
use Rattle.gc_table.specs.declared.view.Entry.{Entry}
use Rattle.gc_table.specs.declared.view.View.{View}
use Rattle.gc_table.proofs.History.Log.{only-more}
use Rattle.gc_table.proofs.Noticing.{alone-kept, alone-steady}
use Rattle.gc_table.proofs.Running.{run-keeps}
use Rattle.packet_pools.specs.OnlyTraced.{OnlyTracedBy, rest_of, traces_cells}
use Rattle.packet_pools.specs.Seeking.{moves_packet, only_moves}
use Rattle.packet_pools.specs.Tracing.{Traces, traces}
use Rattle.packet_pools.proofs.TracedSteps.{tracing-alone}
use Rattle.tracer.specs.Hands.{IsIdle, no_packets}
use Rattle.card_clean.specs.NextCards.{OnlyPassed, passes_cards}
use Rattle.card_clean.proofs.Staying.{root-stays}
use Rattle.gc_cycle.specs.Drained.{RootedAlone}
use Rattle.card_clean.specs.Leaving.{rescans}
use Rattle.gc_cycle.specs.Lower.{HasTraced, traces_or_cleans}
use Rattle.gc_cycle.specs.Moments.{total_of}
use Rattle.gc_cycle.specs.Standing.{is_at_rest}
use Rattle.gc_cycle.proofs.Traced.{no-cache, rest-nothing}
use Rattle.gc_cycle.proofs.Ends.Swept.{unless}

pub none-slot : (h : Slot) → is_some h ≡ false → h ≡ None
none-slot None e = refl
none-slot (Some x) e = absurd (true≢false e)

-- four slots without a packet
pub four-none : (hs : Slots) → length hs ≡ 4 → holds_any hs ≡ false → hs ≡ no_packets
four-none [] n e = absurd (omega (arith, n))
four-none (a ∷ []) n e = absurd (omega (arith, n))
four-none (a ∷ b ∷ []) n e = absurd (omega (arith, n))
four-none (a ∷ b ∷ c ∷ []) n e = absurd (omega (arith, n))
four-none (a ∷ b ∷ c ∷ d ∷ []) n e =
    let x = or_parts (is_some a) (holds_any (b ∷ c ∷ d ∷ [])) e in
    let y = or_parts (is_some b) (holds_any (c ∷ d ∷ [])) x.1 in
    let z = or_parts (is_some c) (holds_any (d ∷ [])) y.1 in
    let u = or_parts (is_some d) false z.1 in
    λ i. none-slot a x.0 i ∷ none-slot b y.0 i ∷ none-slot c z.0 i ∷ none-slot d u.0 i ∷ []
four-none (a ∷ b ∷ c ∷ d ∷ f ∷ xs) n e = absurd (omega (arith, n))

four-slots : (v : View) → ∥ IsPossible v ∥₁ → length v.state.held ≡ 4
four-slots v p = ∥∥₁_elim p (Prim.hlevel props) (λ (q : IsPossible v). (q.whole.core.formed.seats q.index v.state q.agrees.seat).held.four)

none-block : (o : Option BlockState) → is_none o ≡ true → o ≡ None
none-block None e = refl
none-block (Some x) e = absurd (false≢true e)

none-owed : (o : Option ℕ) → is_none o ≡ true → o ≡ None
none-owed None e = refl
none-owed (Some x) e = absurd (false≢true e)

-- the parts of a seat at rest
pub record AtRest (sh : Shape) (s : SeatState) : Type 0 where
  pub packets : holds_any s.held ≡ false
  pub reserved : s.reserved ≡ false
  pub credit : s.credit ≡ false
  pub work : work_in_hand sh.fields s ≡ false
  pub block : s.block ≡ None
  pub owes : s.owes ≡ None
  pub register : (s.got == 0) ≡ true
  pub lags : (s.lags == 0) ≡ true
  pub making : not (has_making s.cache) ≡ true

pub rest-parts : (sh : Shape) (s : SeatState) → is_at_rest sh s ≡ true → AtRest sh s
rest-parts sh s e =
    let p5 = and_parts _ (not (has_making s.cache)) e in
    let p4 = and_parts _ ((s.got == 0) && (s.lags == 0)) p5.0 in
    let held = and_parts (s.got == 0) (s.lags == 0) p4.1 in
    let p3 = and_parts _ (is_none s.block) p4.0 in
    let p2 = and_parts _ (is_none s.owes) p3.0 in
    let p1 = and_parts (empty_handed s) (not (work_in_hand sh.fields s)) p2.0 in
    let q1 = and_parts (not (holds_any s.held) && not s.reserved) (not s.credit) p1.0 in
    let q0 = and_parts (not (holds_any s.held)) (not s.reserved) q1.0 in
    record {
      packets = unless (holds_any s.held) q0.0;
      reserved = unless s.reserved q0.1;
      credit = unless s.credit q1.1;
      work = unless (work_in_hand sh.fields s) p1.1;
      block = none-block s.block p3.1;
      owes = none-owed s.owes p2.1;
      register = held.0;
      lags = held.1;
      making = p5.1;
    }

pub traces-of : (sh : Shape) (v : View) → traces v ≡ true → is_at_rest sh v.state ≡ true → Traces v
traces-of sh v t e = let a = rest-parts sh v.state e in record { may = t; unreserved = a.reserved; uncredited = a.credit }

pub idle-of : (v : View) → ∥ IsPossible v ∥₁ → is_at_rest v.shape v.state ≡ true → IsIdle v
idle-of v p e = let a = rest-parts v.shape v.state e in record { held = four-none v.state.held (four-slots v p) a.packets; work = a.work; block = a.block }

-- a step of tracing is one of those that gc_cycle allows
widened : (step : Step) → traces_cells step ≡ true → traces_or_cleans step ≡ true
widened Reserve e = refl
widened (Take q p) e = refl
widened (Give p deferred) e = refl
widened Credit e = refl
widened (Push p c) e = refl
widened (Pop p) e = refl
widened (Look q g) e = refl
widened ReadCount e = refl
widened (ReadAlloc b) e = refl
widened (ReadField c i) e = refl
widened (ReadRoot section v) e = refl
widened (LoadSlot section k) e = refl
widened (SetMark c) e = refl
widened (DirtyCard card) e = refl
widened (ClearCard card) e = refl
widened (ReadMarks b) e = refl
widened (ReadCard card) e = refl
widened (StoreLength p) e = refl
widened (ReadLength p) e = refl
widened step e = absurd (false≢true e)

pub rest-from : (sh : Shape) (s : SeatState) → holds_any s.held ≡ false → s.reserved ≡ false → s.credit ≡ false → work_in_hand sh.fields s ≡ false → s.owes ≡ None → s.block ≡ None → (s.got == 0) ≡ true → (s.lags == 0) ≡ true → not (has_making s.cache) ≡ true → is_at_rest sh s ≡ true
rest-from sh s a b c d o k g l m =
    and_from _ _
    (and_from _ _
    (and_from _ _
    (and_from _ _ (and_from _ _ (and_from _ _ (and_from _ _ (not_from_false _ a) (not_from_false _ b)) (not_from_false _ c)) (not_from_false _ d)) (ap (λ (x : Option ℕ). is_none x) o))
    (ap (λ (x : Option BlockState). is_none x) k))
    (and_from _ _ g l))
    m

pub owes-step : (x : View) (step : Step) (n : ℕ) → traces_cells step ≡ true → IsSeen step n x → x.state.owes ≡ None → (after step n x).state.owes ≡ None
owes-step x (DirtyCard card) n p s e = ap (λ (o : Option ℕ). cond (is_the o card) None o) e
owes-step x Reserve n p s e = e
owes-step x (Take q k) n p s e = e
owes-step x (Give k deferred) n p s e = e
owes-step x Credit n p s e = e
owes-step x (Push k c) n p s e = e
owes-step x (Pop k) n p s e = e
owes-step x (Look q g) n p s e = e
owes-step x ReadCount n p s e = e
owes-step x (ReadAlloc b) n p s e = e
owes-step x (ReadField c i) n p s e = e
owes-step x (ReadRoot section v) n p s e = e
owes-step x (LoadSlot section k) n p s e = e
owes-step x (SetMark c) n p s e = e
owes-step x (ClearCard card) n p s e = e
owes-step x (ReadMarks b) n p s e = e
owes-step x (ReadCard card) n p s e = e
owes-step x (StoreLength k) n p s e = e
owes-step x (ReadLength k) n p s e = e
owes-step x step n p s e = absurd (false≢true p)

-- while a seat traces no card comes to be owed
pub owes-none : {b : Bool} (v w : View) → OnlyTracedBy b v w → v.state.owes ≡ None → w.state.owes ≡ None
owes-none v w l e = run-keeps traces_cells (λ (x : View). x.state.owes ≡ None) owes-step v w l.ran l.only e

-- with no packet and no work in hand it is at rest again
pub rest-again : {b : Bool} (v w : View) → OnlyTracedBy b v w → Traces w → holds_any w.state.held ≡ false → work_in_hand w.shape.fields w.state ≡ false → is_at_rest v.shape v.state ≡ true → is_at_rest w.shape w.state ≡ true
rest-again v w l t packets work e =
    let a = rest-parts v.shape v.state e in
    rest-from w.shape w.state packets t.unreserved t.uncredited work (owes-none v w l a.owes) (ap (λ (s : SeatState). s.block) l.rest ∙ a.block) (ap (λ (s : SeatState). s.got == 0) l.rest ∙ a.register)
    (ap (λ (s : SeatState). s.lags == 0) l.rest ∙ a.lags)
    (ap (λ (s : SeatState). not (has_making s.cache)) l.rest ∙ a.making)

-- roots that were seen to stay so
pub rooted-by : {b : Bool} (v w : View) → OnlyTracedBy b v w → is_at_rest w.shape w.state ≡ true → RootedAlone v → RootedAlone w
rooted-by v w l rest r =
    let before = r.rooted.ready in
    let drain = alone-kept Drain traces_cells tracing-alone v w l.ran l.only before.drains in
    let cache = (and_parts _ (is_none v.state.cache) (and_parts _ (is_none v.state.block) (and_parts _ ((v.state.got == 0) && (v.state.lags == 0)) r.rest.rest).0).0).1 in
    record {
      rest = record { knows = drain.knows; alone = drain.alone; rest = rest-nothing w.shape w.state rest (ap (λ (s : SeatState). is_none s.cache) l.rest ∙ cache) };
      rooted =
          record {
            ready = record { drains = drain; next_block = l.notes the_next_block 0 refl (alone-steady v.state the_next_block 0 refl r.rest.alone) before.next_block };
            roots = λ i h. root-stays v w l.ran l.only i r.rest.alone (r.rooted.roots i (subst (λ (sh : Shape). i < root_count sh) l.shape h));
          };
    }

rest-but : (v w : View) → rest_of w.state ≡ rest_of v.state → rest_of w.state ≡ record (rest_of v.state) { below_card = w.state.below_card }
rest-but v w e = e ∙ (λ i. record (rest_of v.state) { below_card = sym (ap (λ (s : SeatState). s.below_card) e) i })

-- what packet_pools' relation says of a call after which the seat is at rest again
pub traced-of : {b : Bool} (v w : View) → OnlyTracedBy b v w → is_at_rest w.shape w.state ≡ true → HasTraced v w
traced-of v w l rest = record { ran = l.ran; only = only-more traces_cells traces_or_cleans widened v w l.only; rest = rest; record_is = rest-but v w l.rest; rooted = rooted-by v w l rest }

-- what it says if the packets in hand are as before, and no work is left
pub traced-held : {b : Bool} (v w : View) → OnlyTracedBy b v w → Traces w → w.state.held ≡ v.state.held → work_in_hand w.shape.fields w.state ≡ false → is_at_rest v.shape v.state ≡ true → HasTraced v w
traced-held v w l t h k r = traced-of v w l (rest-again v w l t (ap holds_any h ∙ (rest-parts v.shape v.state r).packets) k r)

-- while it passes cards no card comes to be owed
owed-step : (x : View) (step : Step) (n : ℕ) → passes_cards step ≡ true → IsSeen step n x → x.state.owes ≡ None → (after step n x).state.owes ≡ None
owed-step x NextOfCards n p s e = e
owed-step x (ReadStat which) n p s e = e
owed-step x step n p s e = owes-step x step n p s e

pub owes-passed : (v w : View) → OnlyPassed v w → v.state.owes ≡ None → w.state.owes ≡ None
owes-passed v w l e = run-keeps passes_cards (λ (x : View). x.state.owes ≡ None) owed-step v w l.ran l.only e

passes-widened : (step : Step) → passes_cards step ≡ true → traces_or_cleans step ≡ true
passes-widened NextOfCards e = refl
passes-widened (ReadStat which) e = e
passes-widened step e = e

-- what card_clean's relation says of a pass over the next cards, if the packets in hand are as before, and no work is left
pub traced-passed : (v w : View) → OnlyPassed v w → Traces w → w.state.held ≡ v.state.held → work_in_hand w.shape.fields w.state ≡ false → is_at_rest v.shape v.state ≡ true → HasTraced v w
traced-passed v w l t h k e =
    let a = rest-parts v.shape v.state e in
    let owes = owes-passed v w l a.owes in
    let rest =
    rest-from w.shape w.state (ap holds_any h ∙ a.packets) t.unreserved t.uncredited k owes (ap (λ (s : SeatState). s.block) l.rest ∙ a.block) (ap (λ (s : SeatState). s.got == 0) l.rest ∙ a.register) (ap (λ (s : SeatState). s.lags == 0) l.rest ∙ a.lags)
    (ap (λ (s : SeatState). not (has_making s.cache)) l.rest ∙ a.making)
    in
    record {
      ran = l.ran;
      only = only-more passes_cards traces_or_cleans passes-widened v w l.only;
      rest = rest;
      record_is = l.rest;
      rooted = λ r.
          record {
            rest =
                record {
                  knows = ap (λ (s : SeatState). s.knows) l.rest ∙ r.rest.knows;
                  alone = ap (λ (s : SeatState). s.alone) l.rest ∙ r.rest.alone;
                  rest = rest-nothing w.shape w.state rest (ap (λ (s : SeatState). is_none s.cache) l.rest ∙ no-cache v.shape v.state r.rest.rest);
                };
            rooted = l.rooted r.rooted;
          };
    }

-- packets that move scan nothing again
pub moves-quiet : (qs : List ℕ) (es : List Entry) (v : View) → only_moves qs es ≡ true → total_of rescans v es ≡ 0
moves-quiet qs [] v m = refl
moves-quiet qs (e ∷ es) v m =
    let h = and_parts (moves_packet qs e.step) (only_moves qs es) m in
    let one = quiet v.state e.step e.found h.0 in
    let rest = moves-quiet qs es (after e.step e.found v) h.1 in
    omega (arith, one, rest)
  where
    quiet : (s : SeatState) (step : Step) (found : ℕ) → moves_packet qs step ≡ true → rescans s step found ≡ 0
    quiet s (ReadField c i) found k = absurd (false≢true k)
    quiet s step found k = refl
