-- The rule of the core, part by part: each event that is allowed keeps it, and the state in which nothing has happened meets it.
use Rattle.std.proofs.Common.{ℕ, ◌≡◌, ◌<◌, List, set, get_or, length, arith, refl, sym, ap, ◌∙◌, subst, Bool, true, false, ◌&&◌, eqb, Some, None, [], ◌∷◌, Option}
use Rattle.std.specs.Prelude.{IfSome, IsTrue, IsFalse, slice_get, is_none, nat_lt, if◌then◌else◌}
use Rattle.std.specs.List.{All}
use Rattle.std.proofs.lemmas.Bool.{true≢false, false≢true, and_parts, eqb-true}
use Rattle.std.proofs.lemmas.List.Elements.{All-get_or, All-set, All-head, All-tail}
use Rattle.std.proofs.lemmas.List.{get_or-map, length-map}
use Rattle.std.proofs.lemmas.Option.{slice_get_within, get_or_from_slice_get}
use Rattle.mark_core.specs.Layout.{Words, words_of, put_word, region_sizes}
use Rattle.mark_core.specs.Views.{Standing, standings, standing_of}
use Rattle.mark_core.specs.Parts.{parts}
use Rattle.mark_core.specs.Seats.{may_mutate, has_turn}
use Rattle.mark_core.proofs.Lagging.{LagsInTurn, idle-lags, not-counted, not-active}
use Rattle.mark_core.proofs.World.WorldReading.{at-standing}
use Rattle.mark_core.specs.Effects.{place, written, seat_after}
use Rattle.mark_core.specs.Steps.{Core, AllTrue, failing_part, after_event, others_after, start_core, run_of}
use Rattle.mark_core.specs.Rules.WorldRules.{Season, NoneActive}
use Rattle.mark_core.specs.Laws.{IsCore, StartIsCore, EventsKeepCore, RunsAreSound, NumbersFit, AllNumbersFit, ArePacketsSound}
use Rattle.mark_core.proofs.Writing.Places.{words-get}
use Rattle.mark_core.proofs.Known.{Acted, found, acts}
use Rattle.mark_core.proofs.Writing.Writes.{touches_season, season-kept}
use Rattle.mark_core.proofs.Doing.{local-kept}
use Rattle.mark_core.specs.declared.kinds.Shape.{Shape}
use Rattle.mark_core.specs.declared.kinds.Event.{Event}
use Rattle.mark_core.specs.declared.kinds.Step.{Step}
use Rattle.mark_core.specs.declared.kinds.Step.TheVariants.{EnterStep, LeaveStep, DropStep, ReadSeason, NextSeason, StoreRoot, HoldRoot, FlushRoot}
use Rattle.mark_core.specs.declared.seat.SeatState.{SeatState}
use Rattle.mark_core.specs.Start.{start_words, start_seats}
use Rattle.mark_core.specs.Strong.{IsStrongSeat}
use Rattle.mark_core.proofs.Blocks.BlocksFacts.{BlocksSound, blocks-kept_by, blocks-starts}
use Rattle.mark_core.proofs.Caches.CachesSeat.{SeatFacts, facts-kept_by, facts-starts}
use Rattle.mark_core.proofs.Caches.CachesKept.{caches-kept_by}
use Rattle.mark_core.proofs.Caches.CachesAt.{caches-starts}
use Rattle.mark_core.proofs.Colours.ColoursPublished.{published-kept_by, published-starts}
use Rattle.mark_core.proofs.Colours.ColoursUnpublished.{unpublished-kept_by, unpublished-starts}
use Rattle.mark_core.proofs.Exacts.ExactsKept.{exact-kept_by, exact-starts}
use Rattle.mark_core.proofs.Formed.FormedKept.{formed-kept_by}
use Rattle.mark_core.proofs.Formed.FormedSeats.{formed-starts}
use Rattle.mark_core.proofs.Hands.HandsApart.{hands-kept_by, hands-starts, apart-kept_by, apart-starts, HandApart}
use Rattle.mark_core.proofs.Hands.HandsRight.{HandRight}
use Rattle.mark_core.proofs.Marks.MarksComes.{marks-kept_by}
use Rattle.mark_core.proofs.Marks.MarksBefore.{marks-starts}
use Rattle.mark_core.proofs.Pool.PoolStart.{start, each-seat}
use Rattle.mark_core.proofs.Pool.PoolsKept.{packets_kept, shape-kept}
use Rattle.mark_core.proofs.References.ReferencesKept.{references-kept_by}
use Rattle.mark_core.proofs.References.ReferencesRoots.{references-starts}
use Rattle.mark_core.proofs.Sweeps.SweepsKept.{sweeping-kept_by, sweeping-starts}
use Rattle.mark_core.proofs.World.WorldKept.{WorldSound, world-kept_by}
use Rattle.mark_core.proofs.World.WorldStart.{world-starts}

-- Each event that is allowed keeps the rule of the season.
abbrev pub KnowsSeason : ℕ → SeatState → Type 0
KnowsSeason z s = IsTrue s.active → IfSome s.season_seen (λ y. z ≡ y)

-- a step that leaves the season leaves what its seat knows of it
known_after : (sh : Shape) (s : SeatState) (step : Step) (old z : ℕ) → touches_season step ≡ false → KnowsSeason z s → KnowsSeason z (seat_after sh s step old)
known_after sh s ReadSeason old z t h = absurd (true≢false t)
known_after sh s NextSeason old z t h = absurd (true≢false t)
known_after sh s EnterStep old z t h = λ e. tt
known_after sh s LeaveStep old z t h = λ e. tt
known_after sh s DropStep old z t h = λ e. tt
known_after sh s step old z t h = h

none_knows : (z : ℕ) (s : SeatState) → IsFalse s.active → KnowsSeason z s
none_knows z s h = λ e. absurd (true≢false (sym e ∙ h))

-- while a seat knows that the world is stopped, no seat is active
all_inactive : (c : Core) (i : ℕ) (s : SeatState) → IsCore c → slice_get c.seats i ≡ Some s → IsTrue s.knows → All (λ (t : SeatState). IsFalse t.active) c.seats
all_inactive c i s k g h j d l =
    let ss : List Standing = standings c.seats in
    let hi : i < length ss = rw length-map (slice_get_within c.seats i s g) in
    let mine : get_or ss i (standing_of s) ≡ standing_of s = get_or-map standing_of c.seats i s (standing_of s) (slice_get_within c.seats i s g) ∙ ap standing_of (get_or_from_slice_get c.seats i s s g) in
    let P : Standing → Type 0 = λ (t : Standing). IsTrue t.knows → NoneActive ss in
    let none : NoneActive ss = subst P mine (All-get_or P ss i (standing_of s) hi k.sound.world.knows_stopped) h in
    let yours : get_or ss j (standing_of d) ≡ standing_of (get_or c.seats j d) = get_or-map standing_of c.seats j d (standing_of d) l in
    subst (λ (t : Standing). IsFalse t.active) yours (none j (standing_of d) (rw length-map l))

mutates_now : (s : SeatState) (P : Type 0) (b : Bool) → (b && may_mutate s) ≡ true → IsFalse (may_mutate s) → P
mutates_now s P b e f = absurd (true≢false (sym (and_parts b (may_mutate s) e).1 ∙ f))

-- Variables lag only while their seat mutates.
-- a step that leaves the season keeps this
lags_after : (sh : Shape) (w : Words) (seats : List SeatState) (s : SeatState) (step : Step) (old : ℕ) → touches_season step ≡ false → (IsTrue s.active → IsTrue s.counted) → (IsTrue s.knows → IsFalse s.active) → AllTrue (parts sh w seats s step)
    → LagsInTurn s → LagsInTurn (seat_after sh s step old)
lags_after sh w seats s ReadSeason old t counted knows ok h = absurd (true≢false t)
lags_after sh w seats s NextSeason old t counted knows ok h = absurd (true≢false t)
lags_after sh w seats s (StoreRoot v r) old t counted knows ok h = mutates_now s _ (nat_lt v 32) ok.0
lags_after sh w seats s (HoldRoot v r) old t counted knows ok h = mutates_now s _ (nat_lt v 32) ok.0
lags_after sh w seats s (FlushRoot v) old t counted knows ok h = mutates_now s _ (nat_lt v 32) ok.0
lags_after sh w seats s EnterStep old t counted knows ok h = λ e. idle-lags s (not-active s counted (not-counted s ok.0)) h
lags_after sh w seats s LeaveStep old t counted knows ok h = λ e. eqb-true s.lags 0 (and_parts (is_none s.owes && is_none s.cache && eqb s.got 0) (eqb s.lags 0) ok.1.1.1.0).1
lags_after sh w seats s DropStep old t counted knows ok h = λ e. idle-lags s (knows ok.0) h
lags_after sh w seats s step old t counted knows ok h = h

-- a seat that reads the season anew finds what it knows
turn_again : (section seen : Option ℕ) (old : ℕ) → IfSome seen (λ y. old ≡ y) → has_turn section (Some old) ≡ false → has_turn section seen ≡ false
turn_again None None old k e = refl
turn_again None (Some y) old k e = refl
turn_again (Some w) None old k e = refl
turn_again (Some w) (Some y) old k e = subst (λ (z : ℕ). has_turn (Some w) (Some z) ≡ false) k e

lags_read : (s : SeatState) (old : ℕ) → s.active ≡ true → IfSome s.season_seen (λ y. old ≡ y) → LagsInTurn s → LagsInTurn (record s { season_seen = Some old })
lags_read s old a k h = λ e. h (rw a (turn_again s.section s.season_seen old k (sym (ap (λ (b : Bool). b && has_turn s.section (Some old)) a) ∙ e)))

-- a step that doesn't touch the season
other_season : (c : Core) (i : ℕ) (s : SeatState) (step : Step) → IsCore c → slice_get c.seats i ≡ Some s → AllTrue (parts c.shape (words_of c.shape c.words) c.seats s step) → touches_season step ≡ false
    → Season (put_word (place c.shape s step) (written c.shape s step (found c s step)) (words_of c.shape c.words)).season (others_after c.shape step (set c.seats i (seat_after c.shape s step (found c s step))))
other_season c i s step k g ok t =
    let w : Words = words_of c.shape c.words in
    let P : SeatState → Type 0 = KnowsSeason w.season in
    let mine : P s = subst P (get_or_from_slice_get c.seats i s s g) (All-get_or P c.seats i s (slice_get_within c.seats i s g) k.sound.season.season_known) in
    let after : All P (others_after c.shape step (set c.seats i (seat_after c.shape s step (found c s step)))) = local-kept P c.shape step c.seats i _ (λ j. λ e. absurd (true≢false (sym e))) (λ j. λ e. absurd (true≢false (sym e))) k.sound.season.season_known (known_after c.shape s step (found c s step) w.season t mine) in
    let h : i < length c.seats = slice_get_within c.seats i s g in
    let is : get_or c.seats i s ≡ s = get_or_from_slice_get c.seats i s s g in
    let counted : IsTrue s.active → IsTrue s.counted = subst (λ (x : SeatState). IsTrue x.active → IsTrue x.counted) is (at-standing (λ (x : Standing). IsTrue x.active → IsTrue x.counted) c.seats i s h k.sound.world.active_counted) in
    let knows : IsTrue s.knows → IsFalse s.active = λ e. subst (λ (x : SeatState). IsFalse x.active) is (all_inactive c i s k g e i s h) in
    let own : LagsInTurn s = subst LagsInTurn is (All-get_or LagsInTurn c.seats i s h k.sound.season.lags_in_turn) in
    let lags : All LagsInTurn (others_after c.shape step (set c.seats i (seat_after c.shape s step (found c s step)))) =
    local-kept LagsInTurn c.shape step c.seats i _ (λ j e. refl) (λ j e. refl) k.sound.season.lags_in_turn (lags_after c.shape w c.seats s step (found c s step) t counted knows ok own) in
    rw (season-kept c.shape s step (written c.shape s step (found c s step)) w t) (record { season_known = after; lags_in_turn = lags })

season_at : (c : Core) (i : ℕ) (s : SeatState) (step : Step) → IsCore c → slice_get c.seats i ≡ Some s → AllTrue (parts c.shape (words_of c.shape c.words) c.seats s step)
    → Season (put_word (place c.shape s step) (written c.shape s step (found c s step)) (words_of c.shape c.words)).season (others_after c.shape step (set c.seats i (seat_after c.shape s step (found c s step))))
season_at c i s NextSeason k g ok =
    let w : Words = words_of c.shape c.words in
    let P : SeatState → Type 0 = KnowsSeason (written c.shape s NextSeason (found c s NextSeason)) in
    let none = all_inactive c i s k g ok.0 in
    let mine : IsFalse s.active = subst (λ (t : SeatState). IsFalse t.active) (get_or_from_slice_get c.seats i s s g) (none i s (slice_get_within c.seats i s g)) in
    let own : LagsInTurn s = subst LagsInTurn (get_or_from_slice_get c.seats i s s g) (All-get_or LagsInTurn c.seats i s (slice_get_within c.seats i s g) k.sound.season.lags_in_turn) in
    record {
      season_known = All-set P c.seats i s (none_knows _ s mine) (λ j d l. none_knows _ (get_or c.seats j d) (none j d l));
      lags_in_turn = All-set LagsInTurn c.seats i s own k.sound.season.lags_in_turn;
    }
season_at c i s ReadSeason k g ok =
    let w : Words = words_of c.shape c.words in
    let same : w.season ≡ found c s ReadSeason = sym (words-get (region_sizes c.shape) 13 c.words 1 0 (omega arith)) in
    let P : SeatState → Type 0 = KnowsSeason (found c s ReadSeason) in
    let before : All P c.seats = subst (λ (z : ℕ). All (KnowsSeason z) c.seats) same k.sound.season.season_known in
    let is : get_or c.seats i s ≡ s = get_or_from_slice_get c.seats i s s g in
    let known : P s = subst P is (All-get_or P c.seats i s (slice_get_within c.seats i s g) before) in
    let own : LagsInTurn s = subst LagsInTurn is (All-get_or LagsInTurn c.seats i s (slice_get_within c.seats i s g) k.sound.season.lags_in_turn) in
    record {
      season_known = All-set P c.seats i (seat_after c.shape s ReadSeason (found c s ReadSeason)) (λ e. refl) before;
      lags_in_turn = All-set LagsInTurn c.seats i (seat_after c.shape s ReadSeason (found c s ReadSeason)) (lags_read s (found c s ReadSeason) ok.0 (known ok.0) own) k.sound.season.lags_in_turn;
    }
season_at c i s step k g ok = other_season c i s step k g ok refl

-- each event that is allowed keeps the rule of the season
pub season-kept_by : (c : Core) (e : Event) → IsCore c → failing_part c e ≡ None → Season (words_of c.shape (after_event c e).words).season (after_event c e).seats
season-kept_by c e k f =
    let r : (s : SeatState) × Acted c e s = acts c e k f in
    let a : Acted c e r.0 = r.1 in
    let s : SeatState = r.0 in
    let w : Words = put_word (place c.shape s e.step) (written c.shape s e.step (found c s e.step)) (words_of c.shape c.words) in
    let P : List SeatState → Type 0 = λ seats. Season w.season seats in
    let Q : Words → Type 0 = λ x. Season x.season (after_event c e).seats in
    subst Q (sym a.words) (subst P (sym a.seats) (season_at c e.seat s e.step k a.seat a.ok))

-- the facts of one seat, gathered
strong_seats : (sh : Shape) (w : Words) (seats : List SeatState) → WorldSound sh w seats → BlocksSound w seats → All (HandRight sh) seats → All (HandApart sh) seats → All SeatFacts seats → All (IsStrongSeat sh) seats
strong_seats sh w seats world blocks hand apart facts i d h =
    let mine : HandRight sh (get_or seats i d) = hand i d h in
    let beside : HandApart sh (get_or seats i d) = apart i d h in
    let cache : SeatFacts (get_or seats i d) = facts i d h in
    record {
      knows_is_raised = world.knows_is_raised i d h;
      raised_not_counted = world.raised_not_counted i d h;
      seen_only_inside = world.seen_only_inside i d h;
      exact_needs_knows = blocks.exact_needs_knows i d h;
      popped_alone = mine.popped_alone;
      value_or_fresh = mine.value_or_fresh;
      left_of_the_card = mine.left_of_the_card;
      unknown_alone = beside.unknown_alone;
      scanned_once = beside.scanned_once;
      unread_is_empty = cache.unread_is_empty;
      free_apart_from_used = cache.free_apart_from_used;
      made_from_free = cache.made_from_free;
      env_of_spent = blocks.env_of_spent i d h;
      cache_of_spent = blocks.cache_of_spent i d h;
      alone_knows = world.alone_knows i d h;
      admitted_has_no_cache = world.admitted_has_no_cache i d h;
    }

season_after : (c : Core) (e : Event) → IsCore c → failing_part c e ≡ None → Season (words_of (after_event c e).shape (after_event c e).words).season (after_event c e).seats
season_after c e k f = subst (λ (sh : Shape). Season (words_of sh (after_event c e).words).season (after_event c e).seats) (sym (shape-kept c e)) (season-kept_by c e k f)

-- each event that is allowed keeps the rule
pub core_kept : EventsKeepCore
core_kept c e k n f =
    let d : Core = after_event c e in
    let w : Words = words_of d.shape d.words in
    let world : WorldSound d.shape w d.seats = world-kept_by c e k f in
    let blocks : BlocksSound w d.seats = blocks-kept_by c e k f in
    let packets : ArePacketsSound d = packets_kept c e k.formed (λ _. k.sound.references.seats_in_use) (record { pools = k.sound.pools; counts = k.sound.counts }) f in
    record {
      formed = formed-kept_by c e k n f;
      sound =
          record {
            pools = packets.pools;
            counts = packets.counts;
            world = world.world;
            phases = world.phases;
            caches = caches-kept_by c e k f;
            marks = marks-kept_by c e k f;
            published = published-kept_by c e k f;
            unpublished = unpublished-kept_by c e k f;
            references = references-kept_by c e k f;
            sweeping = sweeping-kept_by c e k f;
            exact = exact-kept_by c e k f;
            season = season_after c e k f;
          };
      strong =
          record {
            seats_strong = strong_seats d.shape w d.seats world blocks (hands-kept_by c e k f) (apart-kept_by c e k f) (facts-kept_by c e k f);
            no_exact_in_marking = blocks.no_exact_in_marking;
            blocks_strong = blocks.blocks_strong;
            one_block_one_seat = blocks.one_block_one_seat;
          };
    }

-- the state in which nothing has happened meets the rule
pub core-starts : StartIsCore
core-starts sh n z some few =
    let w : Words = words_of sh (start_words sh) in
    let seats : List SeatState = start_seats sh n in
    let world : WorldSound sh w seats = world-starts sh n z in
    let blocks : BlocksSound w seats = blocks-starts sh n z in
    let packets : ArePacketsSound (start_core sh n) = start sh n z in
    record {
      formed = formed-starts sh n z some few;
      sound =
          record {
            pools = packets.pools;
            counts = packets.counts;
            world = world.world;
            phases = world.phases;
            caches = caches-starts sh n z;
            marks = marks-starts sh n z;
            published = published-starts sh n z;
            unpublished = unpublished-starts sh n z;
            references = references-starts sh n z;
            sweeping = sweeping-starts sh n z;
            exact = exact-starts sh n z;
            season = record { season_known = each-seat (KnowsSeason w.season) sh n (λ k e. absurd (false≢true e)); lags_in_turn = each-seat LagsInTurn sh n (λ k e. refl) };
          };
      strong =
          record {
            seats_strong = strong_seats sh w seats world blocks (hands-starts sh n) (apart-starts sh n) (facts-starts sh n z);
            no_exact_in_marking = blocks.no_exact_in_marking;
            blocks_strong = blocks.blocks_strong;
            one_block_one_seat = blocks.one_block_one_seat;
          };
    }

-- a run from a state that meets the rule, by whether its first event is allowed
run_by : (e : Event) (es : List Event) (c : Core) → IsCore c → NumbersFit e.step → ((d : Core) → IsCore d → IsCore (run_of es d)) → (o : Option ℕ) → failing_part c e ≡ o → IsCore (if is_none o then run_of es (after_event c e) else c)
run_by e es c k n later None f = later (after_event c e) (core_kept c e k n f)
run_by e es c k n later (Some part) f = k

run_from : (es : List Event) (c : Core) → IsCore c → AllNumbersFit es → IsCore (run_of es c)
run_from [] c k fit = k
run_from (e ∷ es) c k fit =
    run_by e es c k (All-head (λ (x : Event). NumbersFit x.step) e es fit) (λ d h. run_from es d h (All-tail (λ (x : Event). NumbersFit x.step) e es fit)) (failing_part c e) refl

-- every run from the start meets the rule
pub runs_sound : RunsAreSound
runs_sound sh n events z some few fit = run_from events (start_core sh n) (core-starts sh n z some few) fit
