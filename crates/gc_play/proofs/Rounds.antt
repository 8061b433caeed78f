-- The events of a tracer, turn by turn.
use Rattle.std.proofs.Common.{ℕ, ◌≡◌, ◌<◌, ◌≤◌, ◌⊎◌, ⊎_elim, inl, inr, List, [], ◌∷◌, ◌++◌, refl, sym, ap, ◌∙◌, subst, arith, Bool, true, false, not, cond, ◌&&◌, ◌||◌, Some}
use Rattle.std.specs.Prelude.{IsTrue, IsFalse, nat_le, nat_lt, ◌==◌}
use Rattle.std.proofs.lemmas.List.{append-nil}
use Rattle.std.proofs.lemmas.Bool.{true≢false, false≢true, and_from, and_left, not_from_true, and_parts, or_cases, or_from, or_left, or_parts, or_right, le-leb, lt-leb}
use Rattle.mark_core.specs.Bits.{has_flag}
use Rattle.mark_core.specs.Effects.{seat_after}
use Rattle.mark_core.specs.Numbers.{done_count}
use Rattle.mark_core.specs.Seats.{phase_of, saw}
use Rattle.mark_core.specs.declared.kinds.Phase.{Phase}
use Rattle.mark_core.specs.declared.kinds.Phase.TheVariants.{Idle, Marking, Drain, Sweep, Clear, Full}
use Rattle.mark_core.specs.declared.kinds.Shape.{Shape}
use Rattle.mark_core.specs.declared.kinds.Step.{Step}
use Rattle.mark_core.specs.declared.kinds.Step.TheVariants.{ReadPhase, EnterStep, LeaveStep, ReadStat}
use Rattle.mark_core.specs.declared.seat.SeatState.{SeatState}
use Rattle.gc_table.specs.declared.view.Entry.{Entry}
use Rattle.gc_table.specs.declared.view.View.{View}
use Rattle.gc_table.specs.Log.{events}
use Rattle.gc_table.specs.Running.{Ran, after_all}
use Rattle.gc_table.specs.Taking.{after}
use Rattle.gc_table.specs.Seats.{Took}
use Rattle.gc_table.proofs.History.Log.{events-after}
use Rattle.gc_table.proofs.Running.{ran-events, ran-join, ran-took}
use Rattle.gc_table.specs.Entries.{event}
use Rattle.packet_pools.specs.Counts.{count_of}
use Rattle.packet_pools.specs.Seeking.{some_event}
use Rattle.packet_pools.proofs.Counting.{count-join}
use Rattle.tracer.specs.Moments.{at_some_moment, finds_no_work}
use Rattle.tracer.specs.Tally.{pops}
use Rattle.gc_cycle.specs.Sorts.{enters, looks_at_phase, tries_marking}
use Rattle.gc_cycle.specs.Sorts.{reads_phase as sees_phase}
use Rattle.gc_cycle.specs.Statistics.{numbers_changed}
use Rattle.gc_cycle.proofs.Searched.{moment-longer, work-longer}
use Rattle.gc_cycle.proofs.Ends.Swept.{unless as not-true}
use Rattle.gc_cycle.proofs.Ends.Finishes.{never-both as never-join}
use Rattle.seat_turns.specs.Tending.{turn_quota}
use Rattle.gc_play.specs.Turns.{LeavesNumbers, payments, Turn, lead, turns_of, record_after, sees_full, enters_full, is_leave, until_leave, seat_traces_on, seat_traces_where_marking, visits, payment, PaysForPops, IsTracerTurn, AreTurns, AllTurns, HasTakenTurns, ReadsNoParts, WaitsOutside, IsOneTurn, SeesPhase, TracesInside, IsVisit}
use Rattle.gc_play.proofs.TurnCuts.{changes-left, payments-none, kept-head, quiet-turns, quiet-join, quiet-one, waits-join, visits-none, pays-none, lead-more, turns-more}

-- a read of that number, and what it leads to
turn-of : (sh : Shape) (s : SeatState) (n : ℕ) (rest : List Entry) → ReadsNoParts rest → turns_of sh s (event (ReadStat done_count) n ∷ rest) ≡ record { found = n; state = seat_after sh s (ReadStat done_count) n; rest = rest } ∷ []
turn-of sh s n rest q =
    let u : SeatState = seat_after sh s (ReadStat done_count) n in
    ap (λ l. record { found = n; state = u; rest = l } ∷ turns_of sh u rest) q
    ∙ ap (λ ts. record { found = n; state = u; rest = rest } ∷ ts) (ap (turns_of sh u) (sym (append-nil rest)) ∙ quiet-turns sh u rest [] q)

module _ (sh : Shape) (until : ℕ) (s : SeatState) where
  -- all parts were played
  pub one-done : (n : ℕ) → until ≤ n → IsOneTurn sh until true s (event (ReadStat done_count) n ∷ [])
  one-done n high =
      record {
        turn = record { found = n; state = seat_after sh s (ReadStat done_count) n; rest = [] };
        first = refl;
        only = refl;
        is = record { tries = λ low. absurd (omega (arith, high, low)); traces = refl; pays = tt; alone = refl; unbegun = refl; ends = sym (or_left (nat_le until n) false (le-leb until n high)) };
      }

  -- it found a flag, and waited
  pub one-waits : (n a b : ℕ) (es : List Entry) → n < until → IsTrue (has_flag a) → WaitsOutside es → LeavesNumbers es → IsOneTurn sh until false s (event (ReadStat done_count) n ∷ event EnterStep a ∷ event LeaveStep b ∷ es)
  one-waits n a b es left flag w l =
      let rest : List Entry = event EnterStep a ∷ event LeaveStep b ∷ es in
      let u : SeatState = seat_after sh s (ReadStat done_count) n in
      let none : some_event enters es ≡ false = not-true (some_event enters es) w.outside in
      record {
        turn = record { found = n; state = u; rest = rest };
        first = refl;
        only = turn-of sh s n rest (quiet-join (event EnterStep a ∷ []) (event LeaveStep b ∷ es) (quiet-one EnterStep a refl) (quiet-join (event LeaveStep b ∷ []) es (quiet-one LeaveStep b refl) w.quiet));
        is =
            record {
              tries = λ _. refl;
              traces = and_from _ _ (or_left _ _ (ap (λ x. not (not x)) flag)) (visits-none sh es _ none);
              pays = (λ free. absurd (true≢false (sym free ∙ ap not flag)), ((λ leave. absurd (false≢true leave)), pays-none es none));
              alone = l.numbers ∙ sym (ap (λ (x : Bool). cond (not x) (payment (count_of pops (until_leave (event LeaveStep b ∷ es)))) [] ++ payments es) flag ∙ payments-none es none);
              unbegun = l.unbegun;
              ends = sym (or_from (nat_le until n) (enters_full rest) (lt-leb until n left) (and_left (not (has_flag a)) (sees_full es) (not_from_true (has_flag a) flag)));
            };
      }

  -- it entered
  pub one-goes : (n a : ℕ) (full : Bool) (es : List Entry) → n < until → IsFalse (has_flag a) → IsVisit sh full (seat_after sh (seat_after sh s (ReadStat done_count) n) EnterStep a) es → IsOneTurn sh until full s (event (ReadStat done_count) n ∷ event EnterStep a ∷ es)
  one-goes n a full es left free r =
      let rest : List Entry = event EnterStep a ∷ es in
      let none : some_event enters es ≡ false = not-true (some_event enters es) r.waits.outside in
      let paid : List Step = payment (count_of pops (until_leave es)) in
      record {
        turn = record { found = n; state = seat_after sh s (ReadStat done_count) n; rest = rest };
        first = refl;
        only = turn-of sh s n rest (quiet-join (event EnterStep a ∷ []) es (quiet-one EnterStep a refl) r.waits.quiet);
        is =
            record {
              tries = λ _. refl;
              traces = and_from _ _ (or_right _ _ r.sees) (visits-none sh es _ none);
              pays = (λ _. r.pays, pays-none es none);
              alone = r.alone ∙ sym (ap (λ (x : Bool). cond (not x) paid [] ++ payments es) free ∙ ap (λ l. paid ++ l) (payments-none es none) ∙ append-nil paid);
              unbegun = r.unbegun;
              ends = r.ends ∙ sym (ap (λ (b : Bool). b || (not (has_flag a) && sees_full es)) (lt-leb until n left) ∙ ap (λ (b : Bool). not b && sees_full es) free);
            };
      }

  all-more : (ts : List Turn) (t : Turn) → AllTurns sh until ts → IsTracerTurn sh until false t → AllTurns sh until (ts ++ t ∷ [])
  all-more [] t a b = (b, tt)
  all-more (u ∷ us) t a b = (a.0, all-more us t a.1 b)

  are-last : (ts : List Turn) (t : Turn) → AllTurns sh until ts → IsTracerTurn sh until true t → AreTurns sh until (ts ++ t ∷ [])
  are-last [] t a b = b
  are-last (u ∷ []) t a b = (a.0, b)
  are-last (u ∷ v ∷ vs) t a b = (a.0, are-last (v ∷ vs) t a.1 b)

  -- one turn more
  pub turn-more : (xs ys : List Entry) → IsOneTurn sh until false (record_after sh s xs) ys → lead xs ≡ [] → AllTurns sh until (turns_of sh s xs) → (lead (xs ++ ys) ≡ []) × AllTurns sh until (turns_of sh s (xs ++ ys))
  turn-more xs ys o f a = (
    lead-more xs ys o.first ∙ f,
    subst (AllTurns sh until) (sym (turns-more sh s xs ys o.first ∙ ap (λ l. turns_of sh s xs ++ l) o.only)) (all-more (turns_of sh s xs) o.turn a o.is),
  )

  -- the last one
  pub turn-last : (xs ys : List Entry) → IsOneTurn sh until true (record_after sh s xs) ys → lead xs ≡ [] → AllTurns sh until (turns_of sh s xs) → HasTakenTurns sh until s (xs ++ ys)
  turn-last xs ys o f a =
      record {
        first = lead-more xs ys o.first ∙ f;
        turns = subst (AreTurns sh until) (sym (turns-more sh s xs ys o.first ∙ ap (λ l. turns_of sh s xs ++ l) o.only)) (are-last (turns_of sh s xs) o.turn a o.is);
      }

-- the record after a call's steps
state-all : (es : List Entry) (v : View) → record_after v.shape v.state es ≡ (after_all es v).state
state-all [] v = refl
state-all (e ∷ es) v = state-all es (after e.step e.found v)

pub ran-state : (v w : View) → Ran v w → record_after v.shape v.state (events v w) ≡ w.state
ran-state v w r = state-all (events v w) v ∙ ap (λ (x : View). x.state) (sym r.steps)

-- in a heap of these sizes, a seat's record at the end of a run is its record at the start after the run's events
pub ran-state-in : (sh : Shape) (v w : View) → v.shape ≡ sh → Ran v w → record_after sh v.state (events v w) ≡ w.state
ran-state-in sh v w e r = ap (λ (x : Shape). record_after x v.state (events v w)) (sym e) ∙ ran-state v w r

-- a turn after others, of the record that those left
pub turn-after : (sh : Shape) (until : ℕ) (last : Bool) (a b d : View) → a.shape ≡ sh → Ran a b → IsOneTurn sh until last b.state (events b d) → IsOneTurn sh until last (record_after sh a.state (events a b)) (events b d)
turn-after sh until last a b d e r o = subst (λ (s : SeatState). IsOneTurn sh until last s (events b d)) (sym (ran-state-in sh a b e r)) o

-- what a trace says, more events say too if none of them pops a cell
pub traces-more : (sh : Shape) (s : SeatState) (xs ys : List Entry) → count_of pops ys ≡ 0 → seat_traces_on sh s xs ≡ true → seat_traces_on sh s (xs ++ ys) ≡ true
traces-more sh s xs ys none t =
    let all : count_of pops (xs ++ ys) ≡ count_of pops xs = count-join pops xs ys ∙ omega (arith, none) in
    let idle : Bool = at_some_moment sh (finds_no_work sh) (record { state = s; deferring = [] }) xs in
    ⊎_elim
    (λ (p : (count_of pops xs == turn_quota) ≡ true). or_left (count_of pops (xs ++ ys) == turn_quota) _ (ap (λ (n : ℕ). n == turn_quota) all ∙ p))
    (λ (n : (nat_lt (count_of pops xs) turn_quota && idle) ≡ true).
    let q = and_parts (nat_lt (count_of pops xs) turn_quota) idle n in
    or_right (count_of pops (xs ++ ys) == turn_quota) _
    (and_from _ _ (ap (λ (k : ℕ). nat_lt k turn_quota) all ∙ q.0) (moment-longer sh (finds_no_work sh) ys (work-longer sh ys) xs (record { state = s; deferring = [] }) q.1)))
    (or_cases (count_of pops xs == turn_quota) _ t)

inside-leave : (xs : List Entry) (n : ℕ) → until_leave xs ≡ xs → until_leave (xs ++ event LeaveStep n ∷ []) ≡ xs
inside-leave [] n e = refl
inside-leave (x ∷ xs) n e =
    let q = kept-head (is_leave x.step) x xs (until_leave xs) e in
    ap (λ (b : Bool). cond b [] (x ∷ until_leave (xs ++ event LeaveStep n ∷ []))) q.0 ∙ ap (λ l. x ∷ l) (inside-leave xs n q.1)

unmarking : (p : Phase) → (p ≡ Marking → ⊥) → saw (Some p) Marking ≡ false
unmarking Idle f = refl
unmarking Marking f = absurd (f refl)
unmarking Drain f = refl
unmarking Sweep f = refl
unmarking Clear f = refl
unmarking Full f = refl

-- a phase that isn't Full isn't read as Full
pub saw-other : (p : Phase) → (p ≡ Full → ⊥) → saw (Some p) Full ≡ false
saw-other Idle f = refl
saw-other Marking f = refl
saw-other Drain f = refl
saw-other Sweep f = refl
saw-other Clear f = refl
saw-other Full f = absurd (f refl)

is-marking : (p : Phase) → (p ≡ Marking) ⊎ (p ≡ Marking → ⊥)
is-marking Idle = inr (λ e. absurd (cc))
is-marking Marking = inl refl
is-marking Drain = inr (λ e. absurd (cc))
is-marking Sweep = inr (λ e. absurd (cc))
is-marking Clear = inr (λ e. absurd (cc))
is-marking Full = inr (λ e. absurd (cc))

pays-after : (n : ℕ) (es : List Entry) → PaysForPops es → PaysForPops (event ReadPhase n ∷ es)
pays-after n es p = p ∙ ap payment (omega arith)

-- if no phase is read, no trace is asked
blind-traces : (sh : Shape) (es : List Entry) (s : SeatState) → some_event looks_at_phase es ≡ false → seat_traces_where_marking sh s es ≡ true
blind-traces sh [] s o = refl
blind-traces sh (e ∷ es) s o =
    let p = or_parts (looks_at_phase e.step e.found) (some_event looks_at_phase es) o in
    and_from _ _ (or_left _ _ (ap not (unread e.step e.found p.0))) (blind-traces sh es (seat_after sh s e.step e.found) p.1)
  where
    unread : (step : Step) (n : ℕ) → looks_at_phase step n ≡ false → sees_phase Marking step n ≡ false
    unread ReadPhase n o = absurd (true≢false o)
    unread step n o = refl

-- from where it entered to where it left
round-of : (sh : Shape) (p : Phase) (s : SeatState) (n m : ℕ) (es : List Entry) (full : Bool) → p ≡ phase_of n → (p ≡ Marking → TracesInside sh (seat_after sh s ReadPhase n) es) → ((p ≡ Marking → ⊥) → es ≡ []) → full ≡ saw (Some p) Full
    → IsVisit sh full s (event ReadPhase n ∷ (es ++ event LeaveStep m ∷ []))
round-of sh p s n m es full e marking other f = ⊎_elim in_marking in_other (is-marking p)
  where
    ends : full ≡ saw (Some (phase_of n)) Full
    ends = f ∙ ap (λ (x : Phase). saw (Some x) Full) e

    in_marking : p ≡ Marking → IsVisit sh full s (event ReadPhase n ∷ (es ++ event LeaveStep m ∷ []))
    in_marking q =
        let t = marking q in
        let left : until_leave (es ++ event LeaveStep m ∷ []) ≡ es = inside-leave es m t.stays_in in
        record {
          sees =
              subst (λ l. visits sh s (event ReadPhase n ∷ l) ≡ true) (sym left)
              (and_from _ _ (or_right (not (sees_phase Marking ReadPhase n)) _ t.traces) (blind-traces sh es (seat_after sh s ReadPhase n) (not-true (some_event looks_at_phase es) t.blind)));
          pays = subst (λ l. PaysForPops (event ReadPhase n ∷ l)) (sym left) (pays-after n es t.pays);
          alone =
              subst (λ l. numbers_changed (es ++ event LeaveStep m ∷ []) ≡ payment (count_of pops (event ReadPhase n ∷ l))) (sym left)
              (changes-left es m ∙ pays-after n es t.pays);
          unbegun = never-join tries_marking es (event LeaveStep m ∷ []) t.unbegun refl;
          waits =
              waits-join (event ReadPhase n ∷ []) (es ++ event LeaveStep m ∷ []) (record { quiet = quiet-one ReadPhase n refl; outside = refl })
              (waits-join es (event LeaveStep m ∷ []) t.waits (record { quiet = quiet-one LeaveStep m refl; outside = refl }));
          ends = ends;
        }

    in_other : (p ≡ Marking → ⊥) → IsVisit sh full s (event ReadPhase n ∷ (es ++ event LeaveStep m ∷ []))
    in_other q =
        subst (λ l. IsVisit sh full s (event ReadPhase n ∷ (l ++ event LeaveStep m ∷ []))) (sym (other q))
        (record {
          sees = and_from _ _ (or_left (not (sees_phase Marking ReadPhase n)) _ (ap not (unmarking (phase_of n) (λ k. q (e ∙ k))))) refl;
          pays = refl;
          alone = refl;
          unbegun = refl;
          waits = record { quiet = refl; outside = refl };
          ends = ends;
        })

-- the events of three calls, one after another
pub events-three : (a b c d : View) → Ran a b → Ran b c → Ran c d → events a d ≡ events a b ++ (events b c ++ events c d)
events-three a b c d f g h = ran-events a b d f (ran-join b c d g h) ∙ ap (λ l. events a b ++ l) (ran-events b c d g h)

-- a round made of three calls: the phase is read, what follows from it is done, and the seat leaves
pub round-join : (sh : Shape) (p : Phase) (full : Bool) (a b c d : View) → a.shape ≡ sh → Ran a b → Ran b c → SeesPhase p (events a b) → (p ≡ Marking → TracesInside sh b.state (events b c)) → ((p ≡ Marking → ⊥) → events b c ≡ [])
    → Took LeaveStep c d → full ≡ saw (Some p) Full → IsVisit sh full a.state (events a d)
round-join sh p full a b c d shape f g sees marking other left e =
    let leaves : events c d ≡ event LeaveStep left.0 ∷ [] = events-after c d LeaveStep left.0 left.1.0 in
    let read : b.state ≡ seat_after sh a.state ReadPhase sees.0 = sym (ran-state-in sh a b shape f) ∙ ap (record_after sh a.state) sees.2 in
    subst (IsVisit sh full a.state) (sym (events-three a b c d f g (ran-took c d LeaveStep refl left) ∙ (λ y. sees.2 y ++ (events b c ++ leaves y))))
    (round-of sh p a.state sees.0 left.0 (events b c) full sees.1 (λ q. subst (λ (s : SeatState). TracesInside sh s (events b c)) read (marking q)) other e)
