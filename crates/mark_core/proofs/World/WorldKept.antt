-- Each event that is allowed keeps the rules of the world and of the phase.
use Rattle.std.proofs.Common.{ℕ, ◌≡◌, ◌<◌, ◌≤◌, List, set, get_or, length, arith, refl, sym, ap, ◌∙◌, subst, true, false, not, ◌&&◌, eqb, Option, Some, None, ◌||◌, ⊎_elim}
use Rattle.std.specs.Prelude.{slice_get, IsTrue, IsFalse, IfSome}
use Rattle.std.proofs.lemmas.Bool.{and_parts, not-true, false≢true, true≢false, or_cases, eqb-true}
use Rattle.std.proofs.lemmas.List.{map-set, map_push, length-map, get_or-map, set-get_or}
use Rattle.std.proofs.lemmas.Option.{slice_get_within, get_or_from_slice_get}
use Rattle.mark_core.specs.Layout.{Words, words_of, put_word, region_sizes, address}
use Rattle.mark_core.specs.Places.{the_help}
use Rattle.mark_core.specs.Seats.{is_bare, takes_part}
use Rattle.mark_core.specs.Views.{standings, standing_of, Standing, hands, blocks}
use Rattle.mark_core.specs.Start.{start_seat, spent_seat}
use Rattle.mark_core.specs.Steps.WorldSteps.{may_be_joined, begins_exact}
use Rattle.mark_core.specs.Parts.{parts}
use Rattle.mark_core.specs.Effects.{place, written, seat_after}
use Rattle.mark_core.specs.Steps.{Core, AllTrue, others_after, failing_part, after_event}
use Rattle.mark_core.proofs.Writing.Places.{words-get}
use Rattle.mark_core.proofs.Known.{found, Acted, words_left, seats_left, acts}
use Rattle.mark_core.proofs.Writing.Frames.{changes_standing, standing-kept, projection-kept}
use Rattle.mark_core.proofs.Writing.Writes.{touches_world, touches_help, world-kept, help-kept, phase-kept}
use Rattle.mark_core.proofs.Count.CountMoves.{bit}
use Rattle.mark_core.proofs.World.WorldMoves.{others, Fits, Stands, enters, leaves, raises, drops, opens, joins, leaves-help, closes}
use Rattle.mark_core.proofs.World.WorldNumbers.{Numbers, stands, numbers-moved, bare-from, observed, seen, numbers-push, numbers-end, Local}
use Rattle.mark_core.specs.declared.kinds.Shape.{Shape}
use Rattle.mark_core.specs.declared.kinds.Step.{Step}
use Rattle.mark_core.specs.declared.kinds.Step.TheVariants.{EnterStep, LeaveStep, RaiseStep, Observe, DropStep, Split, Join, OpenStep, JoinHelpStep, LeaveHelpStep, CloseStep, SeeHelp, ReadPhase, StorePhase}
use Rattle.mark_core.specs.declared.seat.SeatState.{SeatState}
use Rattle.std.specs.List.{All}
use Rattle.mark_core.specs.Rules.WorldRules.{World, Phases, NoneActive, is_stopped_phase}
use Rattle.mark_core.specs.Strong.{IsStrongBlock}
use Rattle.mark_core.specs.Laws.{IsCore}
use Rattle.mark_core.proofs.Doing.{local-kept}
use Rattle.mark_core.proofs.Pool.PoolsKept.{shape-kept}
use Rattle.mark_core.proofs.World.WorldReading.{StandsRight, numbers-of, right-from, at-standing, any-passes, some-passes}
use Rattle.mark_core.proofs.World.WorldLocals.{local-at}
use Rattle.mark_core.proofs.World.WorldPhases.{InPhase, in-phase, phases-from}
use Rattle.mark_core.proofs.World.WorldPhaseKept.{Stepping, phase-stays}
use Rattle.mark_core.proofs.World.WorldPhaseMoves.{Moving, phase-moves}
use Rattle.mark_core.specs.declared.kinds.Event.{Event}
use Rattle.mark_core.specs.declared.seat.BlockState.{BlockState}

-- Each step that is allowed keeps the rule on the numbers of seats.
-- seat i of a state that meets the rule on the numbers
pub record Among (w : Words) (seats : List SeatState) (i : ℕ) (s : SeatState) : Type 0 where
  pub few : length seats ≤ 41
  pub seat : i < length seats
  pub is : get_or seats i s ≡ s
  pub numbers : Numbers w.world w.help (standings seats)

standing_is : (seats : List SeatState) (i : ℕ) (s : SeatState) → i < length seats → get_or seats i s ≡ s → get_or (standings seats) i (standing_of s) ≡ standing_of s
standing_is seats i s h is = get_or-map standing_of seats i s (standing_of s) h ∙ ap standing_of is

-- how the seat stands among the others
stands_now : (w : Words) (seats : List SeatState) (i : ℕ) (s : SeatState) → Among w seats i s → Stands w.world w.help (others (standings seats) i) (standing_of s)
stands_now w seats i s a =
    stands w.world w.help (standings seats) i (standing_of s) a.numbers (rw length-map a.few) (rw length-map a.seat) (standing_is seats i s a.seat a.is)

-- the seat stands otherwise
changed : (w w' : Words) (seats : List SeatState) (i : ℕ) (s t : SeatState) → Among w seats i s → Stands w'.world w'.help (others (standings seats) i) (standing_of t) → Numbers w'.world w'.help (standings (set seats i t))
changed w w' seats i s t a m =
    subst (Numbers w'.world w'.help) (sym (map-set standing_of seats i t)) (numbers-moved w.world w.help w'.world w'.help (standings seats) i (standing_of t) a.numbers (rw length-map a.seat) m)

-- the words after a step, if its word was `old`
abbrev words_where : Core → SeatState → Step → ℕ → Words
words_where c s step old = put_word (place c.shape s step) (written c.shape s step old) (words_of c.shape c.words)

-- the numbers after it
abbrev After : Core → ℕ → SeatState → Step → ℕ → Type 0
After c i s step old =
    let w : Words = words_where c s step old in
    Numbers w.world w.help (standings (others_after c.shape step (set c.seats i (seat_after c.shape s step old))))

-- a seat that steps from its place
by_world : (c : Core) (i : ℕ) (s : SeatState) (step : Step) (old : ℕ) → Among (words_of c.shape c.words) c.seats i s
    → Stands (words_where c s step old).world (words_where c s step old).help (others (standings c.seats) i) (standing_of (seat_after c.shape s step old))
    → Numbers (words_where c s step old).world (words_where c s step old).help (standings (set c.seats i (seat_after c.shape s step old)))
by_world c i s step old a m = changed (words_of c.shape c.words) (words_where c s step old) c.seats i s (seat_after c.shape s step old) a m

-- a step on the word of help finds that word
helping : (c : Core) (i : ℕ) (s : SeatState) (step : Step) → After c i s step (words_of c.shape c.words).help → After c i s step (get_or c.words (address c.shape the_help) 0)
helping c i s step m = subst (After c i s step) (sym (words-get (region_sizes c.shape) 13 c.words 0 0 (omega arith))) m

end_at : (w : Words) (seats : List SeatState) (sh : Shape) (i j : ℕ) (s : SeatState) (o : Option SeatState) → Among w seats i s → slice_get seats j ≡ o → may_be_joined o ≡ true → Numbers w.world w.help (standings (set seats j (spent_seat sh j)))
end_at w seats sh i j s None a g e = absurd (false≢true e)
end_at w seats sh i j s (Some o) a g e =
    let h : j < length seats = slice_get_within seats j o g in
    let is : get_or seats j o ≡ o = get_or_from_slice_get seats j o o g in
    subst (Numbers w.world w.help) (sym (map-set standing_of seats j (spent_seat sh j)))
    (numbers-end w.world w.help (standings seats) j (standing_of o) a.numbers (rw length-map a.few) (rw length-map h) (standing_is seats j o h is) (bare-from o (and_parts _ _ e).1))

-- a step that leaves how seats stand
other_step : (c : Core) (i : ℕ) (s : SeatState) (step : Step) (v old : ℕ) → Among (words_of c.shape c.words) c.seats i s → changes_standing step ≡ false → touches_world step ≡ false → touches_help step ≡ false
    → Numbers (put_word (place c.shape s step) v (words_of c.shape c.words)).world (put_word (place c.shape s step) v (words_of c.shape c.words)).help (standings (set c.seats i (seat_after c.shape s step old)))
other_step c i s step v old a e f g =
    let w : Words = words_of c.shape c.words in
    rw (world-kept c.shape s step v w f, help-kept c.shape s step v w g, projection-kept standing_of c.seats i s (seat_after c.shape s step old) a.seat a.is (standing-kept c.shape s step old e)) a.numbers

pub numbers-at : (c : Core) (i : ℕ) (s : SeatState) (step : Step) → Among (words_of c.shape c.words) c.seats i s → AllTrue (parts c.shape (words_of c.shape c.words) c.seats s step) → After c i s step (found c s step)
numbers-at c i s EnterStep a ok = let w : Words = words_of c.shape c.words in by_world c i s EnterStep w.world a (enters w.world w.help (others (standings c.seats) i) (standing_of s) (stands_now w c.seats i s a) (bare-from s ok.0))
numbers-at c i s LeaveStep a ok = let w : Words = words_of c.shape c.words in by_world c i s LeaveStep w.world a (leaves w.world w.help (others (standings c.seats) i) (standing_of s) (stands_now w c.seats i s a) (ap bit ok.0))
numbers-at c i s RaiseStep a ok = let w : Words = words_of c.shape c.words in by_world c i s RaiseStep w.world a (raises w.world w.help (others (standings c.seats) i) (standing_of s) (stands_now w c.seats i s a) (bare-from s ok.0))
numbers-at c i s Observe a ok = let w : Words = words_of c.shape c.words in by_world c i s Observe w.world a (observed w.world w.help (others (standings c.seats) i) (standing_of s) (stands_now w c.seats i s a))
numbers-at c i s DropStep a ok = let w : Words = words_of c.shape c.words in by_world c i s DropStep w.world a (drops w.world w.help (others (standings c.seats) i) (standing_of s) (stands_now w c.seats i s a) (ap bit ok.0) (ap bit ok.1.1.1.0))
numbers-at c i s OpenStep a ok =
    let w : Words = words_of c.shape c.words in
    let first = and_parts s.knows (not s.opened) ok.0 in
    helping c i s OpenStep (by_world c i s OpenStep w.help a (opens w.world w.help (others (standings c.seats) i) (standing_of s) (stands_now w c.seats i s a) (ap bit first.0) (ap bit (not-true _ first.1))))
numbers-at c i s JoinHelpStep a ok = let w : Words = words_of c.shape c.words in helping c i s JoinHelpStep (by_world c i s JoinHelpStep w.help a (joins w.world w.help (others (standings c.seats) i) (standing_of s) (stands_now w c.seats i s a) (bare-from s ok.0)))
numbers-at c i s LeaveHelpStep a ok = let w : Words = words_of c.shape c.words in helping c i s LeaveHelpStep (by_world c i s LeaveHelpStep w.help a (leaves-help w.world w.help (others (standings c.seats) i) (standing_of s) (stands_now w c.seats i s a) (ap bit ok.0)))
numbers-at c i s CloseStep a ok = let w : Words = words_of c.shape c.words in helping c i s CloseStep (by_world c i s CloseStep w.help a (closes w.world w.help (others (standings c.seats) i) (standing_of s) (stands_now w c.seats i s a) (ap bit ok.0)))
numbers-at c i s SeeHelp a ok = let w : Words = words_of c.shape c.words in helping c i s SeeHelp (by_world c i s SeeHelp w.help a (seen w.world w.help (others (standings c.seats) i) (standing_of s) (stands_now w c.seats i s a)))
numbers-at c i s Split a ok =
    let w : Words = words_of c.shape c.words in
    let same : Numbers w.world w.help (standings (set c.seats i s)) = by_world c i s Split w.world a (stands_now w c.seats i s a) in
    subst (Numbers w.world w.help) (sym (map_push standing_of (set c.seats i s) (start_seat c.shape (length (set c.seats i s))))) (numbers-push w.world w.help (standings (set c.seats i s)) same)
numbers-at c i s (Join other) a ok =
    let w : Words = words_of c.shape c.words in
    let back : set c.seats i s ≡ c.seats = subst (λ (t : SeatState). set c.seats i t ≡ c.seats) a.is (set-get_or c.seats i s) in
    let first = and_parts (not (eqb other s.number) && may_be_joined (slice_get c.seats other)) (is_bare s) ok.0 in
    rw back (end_at w c.seats c.shape i other s (slice_get c.seats other) a refl (and_parts _ _ first.0).1)
numbers-at c i s step a ok = other_step c i s step (written c.shape s step (found c s step)) (found c s step) a refl refl refl

-- the rules of the world and of the phase, and what keeps them
pub record WorldSound (sh : Shape) (w : Words) (seats : List SeatState) : Type 0 where
  pub world : World sh w.world w.help (standings seats) seats
  pub phases : Phases sh w.phase w.marks w.heads (hands seats) (standings seats) seats
  pub knows_is_raised : All (λ (s : SeatState). IsTrue s.knows → IsTrue s.raised) seats
  pub raised_not_counted : All (λ (s : SeatState). IsTrue s.raised → IsFalse s.counted) seats
  pub seen_only_inside : All (λ (s : SeatState). IsFalse (takes_part s) → s.phase_seen ≡ None) seats
  pub alone_knows : All (λ (s : SeatState). IsTrue s.alone → IsTrue s.knows) seats
  pub admitted_has_no_cache : All (λ (s : SeatState). IsTrue s.admitted → s.cache ≡ None) seats

-- the parts, put together
pub together : (sh : Shape) (w : Words) (seats : List SeatState) → StandsRight w.world w.help (standings seats) → All (Local sh) seats → InPhase sh w.phase w.marks w.heads seats → WorldSound sh w seats
together sh w seats r l p =
    record {
      world =
          record {
            world_word = r.world_word;
            one_raised = r.one_raised;
            help_word = r.help_word;
            opened_knows = r.opened_knows;
            active_counted = r.active_counted;
            admitted_helps = r.admitted_helps;
            admitted_stopped = r.admitted_stopped;
            knows_stopped = r.knows_stopped;
            alone_unhelped = r.alone_unhelped;
            outside_empty = λ i d h e. let o = (l i d h).outside e in record { no_packet = o.0; no_reservation = o.1; no_credit = o.2; no_work = o.3; no_cache = o.4; no_block = o.5 };
            inactive_calm = λ i d h e. let o = (l i d h).calm e in record { no_card_owed = o.0; no_used_cell = o.1; no_cell_made = o.2; register_nil = o.3 };
          };
      phases = phases-from sh w.phase w.marks w.heads seats p;
      knows_is_raised = λ i d h. at-standing (λ (x : Standing). IsTrue x.knows → IsTrue x.raised) seats i d h r.knows_is_raised;
      raised_not_counted = λ i d h. at-standing (λ (x : Standing). IsTrue x.raised → IsFalse x.counted) seats i d h r.raised_not_counted;
      seen_only_inside = λ i d h. (l i d h).unseen;
      alone_knows = λ i d h. at-standing (λ (x : Standing). IsTrue x.alone → IsTrue x.knows) seats i d h r.alone_knows;
      admitted_has_no_cache = λ i d h. (l i d h).uncached;
    }

-- what each seat has, before
locals : (c : Core) → IsCore c → All (Local c.shape) c.seats
locals c k i d h =
    let w = k.sound.world in
    let strong = k.strong.seats_strong i d h in
    record {
      outside = λ e. let o = w.outside_empty i d h e in (o.no_packet, o.no_reservation, o.no_credit, o.no_work, o.no_cache, o.no_block);
      calm = λ e. let o = w.inactive_calm i d h e in (o.no_card_owed, o.no_used_cell, o.no_cell_made, o.register_nil);
      unseen = strong.seen_only_inside;
      uncached = strong.admitted_has_no_cache;
    }

pub new-local : (sh : Shape) (k : ℕ) → Local sh (start_seat sh k)
new-local sh k = record { outside = λ e. (refl, refl, refl, refl, refl, refl); calm = λ e. (refl, refl, refl, refl); unseen = λ e. refl; uncached = λ e. refl }

ended_local : (sh : Shape) (k : ℕ) → Local sh (spent_seat sh k)
ended_local sh k = record { outside = λ e. (refl, refl, refl, refl, refl, refl); calm = λ e. (refl, refl, refl, refl); unseen = λ e. refl; uncached = λ e. refl }

-- a block is in hand while the world is stopped, so not in the hand of a mutator
stopped_block : (sh : Shape) (w : Words) (seats : List SeatState) (s : SeatState) (o : Option BlockState) → (IsTrue (is_stopped_phase w.phase) → IsFalse s.active) → IfSome o (IsStrongBlock w.phase w.next_block w.allocs w.marks) → IsTrue s.active → o ≡ None
stopped_block sh w seats s None f b e = refl
stopped_block sh w seats s (Some x) f b e =
    absurd
    (true≢false
    (sym e
    ∙ f
    (⊎_elim
    (λ (a : eqb w.phase 3 ≡ true). ap is_stopped_phase (eqb-true w.phase 3 a))
    (λ (a : eqb w.phase 4 ≡ true). ap is_stopped_phase (eqb-true w.phase 4 a))
    (or_cases (eqb w.phase 3) (eqb w.phase 4) b.block_in_time))))

-- in a stopped phase no seat is active
stopped_inactive : (c : Core) (i : ℕ) (s : SeatState) → IsCore c → i < length c.seats → get_or c.seats i s ≡ s → IsTrue (is_stopped_phase (words_of c.shape c.words).phase) → IsFalse s.active
stopped_inactive c i s k h is e =
    let ss : List Standing = standings c.seats in
    let one = some-passes (λ (x : Standing). x.knows) ss (any-passes (λ (x : Standing). x.knows) ss (k.sound.phases.stopped e)) in
    let none : NoneActive ss = k.sound.world.knows_stopped one.0 (standing_of s) one.1 (one.2 (standing_of s)) in
    subst (λ (t : SeatState). IsFalse t.active) is (at-standing (λ (x : Standing). IsFalse x.active) c.seats i s h none)

block_free : (c : Core) (i : ℕ) (s : SeatState) → IsCore c → i < length c.seats → get_or c.seats i s ≡ s → IsTrue s.active → s.block ≡ None
block_free c i s k h is =
    let w : Words = words_of c.shape c.words in
    let P : Option BlockState → Type 0 = λ o. IfSome o (IsStrongBlock w.phase w.next_block w.allocs w.marks) in
    let at : get_or (blocks c.seats) i s.block ≡ s.block = get_or-map (λ (t : SeatState). t.block) c.seats i s s.block h ∙ ap (λ (t : SeatState). t.block) is in
    let mine : P s.block = subst P at (k.strong.blocks_strong i s.block (rw length-map h)) in
    stopped_block c.shape w c.seats s s.block (stopped_inactive c i s k h is) mine

-- the rule of the phase after a step
phase_at : (c : Core) (i : ℕ) (s : SeatState) (step : Step) → Stepping c i s → Moving c i s → AllTrue (parts c.shape (words_of c.shape c.words) c.seats s step)
    → InPhase c.shape (words_left c s step).phase (words_left c s step).marks
    (words_left c s step).heads (seats_left c i s step)
phase_at c i s ReadPhase k m ok = phase-stays c i s ReadPhase k refl (λ e. refl) ok
phase_at c i s (StorePhase to) k m ok = phase-moves c i s to (s.exact || begins_exact (words_of c.shape c.words).phase to) m ok
phase_at c i s step k m ok =
    phase-stays c i s step k (phase-kept c.shape s step (written c.shape s step (found c s step)) (words_of c.shape c.words) refl) (λ e. absurd (false≢true e)) ok

world_at : (c : Core) (i : ℕ) (s : SeatState) (step : Step) → IsCore c → slice_get c.seats i ≡ Some s → AllTrue (parts c.shape (words_of c.shape c.words) c.seats s step)
    → WorldSound c.shape (words_left c s step) (seats_left c i s step)
world_at c i s step k g ok =
    let sh : Shape = c.shape in
    let w : Words = words_of sh c.words in
    let h : i < length c.seats = slice_get_within c.seats i s g in
    let is : get_or c.seats i s ≡ s = get_or_from_slice_get c.seats i s s g in
    let numbers : Numbers w.world w.help (standings c.seats) = numbers-of sh w.world w.help c.seats k.sound.world k.strong.seats_strong in
    let all = locals c k in
    let mine : Local sh s = subst (Local sh) is (all i s h) in
    let fits : Fits (standing_of s) = subst (λ (t : SeatState). Fits (standing_of t)) is (at-standing Fits c.seats i s h numbers.fits) in
    let phase = in-phase sh w.phase w.marks w.heads c.seats k.sound.phases in
    let after : Words = words_left c s step in
    together sh after (seats_left c i s step)
    (right-from after.world after.help (standings (seats_left c i s step)) (numbers-at c i s step (record { few = k.formed.seat_count.1; seat = h; is = is; numbers = numbers }) ok))
    (local-kept (Local sh) sh step c.seats i (seat_after sh s step (found c s step)) (new-local sh) (ended_local sh) all (local-at sh w c.seats s step (found c s step) mine fits (block_free c i s k h is) ok))
    (phase_at c i s step (record { seat = h; is = is; phase = phase; fits = numbers.fits; mine = mine; in_range = k.formed.phase })
    (record {
      seat = h;
      is = is;
      formed = k.formed;
      packets = record { pools = k.sound.pools; counts = k.sound.counts };
      phase = phase;
      stands = right-from w.world w.help (standings c.seats) numbers;
    })
    ok)

-- each event that is allowed keeps the rules of the world and of the phase
pub world-kept_by : (c : Core) (e : Event) → IsCore c → failing_part c e ≡ None → WorldSound (after_event c e).shape (words_of (after_event c e).shape (after_event c e).words) (after_event c e).seats
world-kept_by c e k f =
    let r : (s : SeatState) × Acted c e s = acts c e k f in
    let a : Acted c e r.0 = r.1 in
    let s : SeatState = r.0 in
    let w : Words = words_left c s e.step in
    let P : List SeatState → Type 0 = λ seats. WorldSound c.shape w seats in
    let Q : Words → Type 0 = λ x. WorldSound c.shape x (after_event c e).seats in
    let R : Shape → Type 0 = λ sh. WorldSound sh (words_of sh (after_event c e).words) (after_event c e).seats in
    subst R (sym (shape-kept c e)) (subst Q (sym a.words) (subst P (sym a.seats) (world_at c e.seat s e.step k a.seat a.ok)))
