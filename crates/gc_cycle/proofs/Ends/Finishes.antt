-- An ordinary cycle, and a precise one, from their first move to their end.
use Rattle.std.proofs.Common.{ℕ, ◌≡◌, ◌<◌, List, [], ◌∷◌, ◌++◌, append_assoc, get_or, length, refl, sym, ap, ◌∙◌, subst, Bool, true, false, not, ◌&&◌, ◌||◌, ⊎_elim, arith}
use Rattle.std.specs.Prelude.{if◌then◌else◌}
use Rattle.std.specs.List.{list_any}
use Rattle.std.proofs.lemmas.Bool.{and_from, and_parts, false≢true, not-true, or_cases, or_from, or_left, or_parts, or_right}
use Rattle.std.proofs.lemmas.List.Folds.{list_any_at}
use Rattle.std.proofs.lemmas.Option.{slice_get_within, get_or_from_slice_get}
use Rattle.mark_core.specs.Effects.{seat_after}
use Rattle.mark_core.specs.Layout.{words_of}
use Rattle.mark_core.specs.Cells.{IsReachableCell}
use Rattle.mark_core.specs.Numbers.{card_counter}
use Rattle.mark_core.specs.Seats.{is_phase}
use Rattle.mark_core.specs.declared.kinds.Phase.TheVariants.{Idle, Marking, Drain, Sweep, Clear, Full}
use Rattle.mark_core.specs.declared.kinds.Shape.{Shape}
use Rattle.mark_core.specs.declared.kinds.Step.{Step}
use Rattle.mark_core.specs.declared.kinds.Step.TheVariants.{Reset, StorePhase}
use Rattle.mark_core.specs.declared.seat.SeatState.{SeatState}
use Rattle.gc_table.specs.declared.view.Entry.{Entry}
use Rattle.gc_table.specs.declared.view.View.{View}
use Rattle.mark_core.proofs.Blocks.BlocksStopped.{knower, still-known}
use Rattle.mark_core.proofs.Consequences.Closing.{roots-still}
use Rattle.gc_table.proofs.Stands.StandsStores.{reachable-used}
use Rattle.packet_pools.specs.Counts.{count_of}
use Rattle.packet_pools.specs.Seeking.{some_event}
use Rattle.packet_pools.proofs.Counting.{count-join}
use Rattle.packet_pools.proofs.Searches.{some-right}
use Rattle.gc_table.specs.Log.{all_steps, event, events, Only}
use Rattle.gc_table.specs.Running.{Ran}
use Rattle.gc_table.proofs.Running.{ran-events, ran-join, ran-only, ran-shape}
use Rattle.stop_world.proofs.Passing.{phase-is}
use Rattle.gc_cycle.specs.Cycles.{collects_exactly, ends_exactly, lets_help, opens_in_sweep}
use Rattle.gc_cycle.specs.DrainRounds.{DrainsBefore}
use Rattle.gc_cycle.specs.Ending.{InEach, IsExact}
use Rattle.gc_cycle.specs.Events.{Sort, followed_by, never, since_last}
use Rattle.gc_cycle.specs.Finishing.{BeginsExactly, Completes, finishes, IsAloneIn, stays}
use Rattle.gc_cycle.specs.Moments.{Moment, after_moment, at_some_moment, begins, total_of}
use Rattle.gc_cycle.specs.Sorts.{begins_exactly, ends_cycle, moves, moves_to, opens_help, tells_full, tries_marking}
use Rattle.gc_cycle.proofs.Sequences.{count-none, followed-later, moments, moments-state, none-of-steps, since-this, some-moment-later, some-none}
use Rattle.gc_cycle.proofs.Ends.Completing.{no-end, no-move, no-tell, total-run, no-try}

-- an event like g, if one is after one like f
pub some-of-followed : (f g : Sort) (es : List Entry) → followed_by f g es ≡ true → some_event g es ≡ true
some-of-followed f g [] h = absurd (false≢true h)
some-of-followed f g (e ∷ es) h =
    or_right (g e.step e.found) (some_event g es)
    (⊎_elim
    (λ (a : (f e.step e.found && some_event g es) ≡ true). (and_parts (f e.step e.found) (some_event g es) a).1)
    (λ (a : followed_by f g es ≡ true). some-of-followed f g es a)
    (or_cases (f e.step e.found && some_event g es) (followed_by f g es) h))

-- what comes before an event like f doesn't count after the last one
pub since-later : (f : Sort) (xs ys : List Entry) → some_event f ys ≡ true → since_last f (xs ++ ys) ≡ since_last f ys
since-later f [] ys h = refl
since-later f (x ∷ xs) ys h =
    ap (λ (b : Bool). if b then xs ++ ys else since_last f (xs ++ ys)) (off (f x.step x.found) (some_event f (xs ++ ys)) (some-right f xs ys h)) ∙ since-later f xs ys h
  where
    off : (p q : Bool) → q ≡ true → (p && not q) ≡ false
    off true true e = refl
    off false true e = refl
    off p false e = absurd (false≢true e)

-- a move to Drain, steps that stay, and the rest of the cycle: help was let in for both parts
lets-help : (xs : List Entry) (e : Entry) (ys es : List Entry) → moves_to Drain e.step e.found ≡ true → all_steps stays ys ≡ true → never (moves_to Drain) es ≡ true → followed_by opens_help (moves_to Sweep) es ≡ true → opens_in_sweep es ≡ true
    → lets_help (xs ++ (e ∷ (ys ++ es))) ≡ true
lets-help xs e ys es move still none drain sweep =
    let later = some-none (moves_to Drain) ys es (none-of-steps stays (moves_to Drain) (no-move Drain) ys still) (not-true _ none) in
    let some : some_event (moves_to Sweep) es ≡ true = some-of-followed opens_help (moves_to Sweep) es drain in
    and_from _ _
    (ap (followed_by opens_help (moves_to Sweep)) (since-this (moves_to Drain) xs e (ys ++ es) move later) ∙ followed-later opens_help (moves_to Sweep) ys es drain)
    (ap (followed_by opens_help (moves_to Idle)) (since-later (moves_to Sweep) xs (e ∷ (ys ++ es)) (or_right _ _ (some-right (moves_to Sweep) ys es some)) ∙ since-later (moves_to Sweep) (e ∷ ys) es some) ∙ sweep)

pub never-both : (f : Sort) (xs ys : List Entry) → never f xs ≡ true → never f ys ≡ true → never f (xs ++ ys) ≡ true
never-both f xs ys a b = ap not (some-none f xs ys (not-true _ a) (not-true _ b))

-- where no drain begins, none begins exactly
undrained : (es : List Entry) → some_event (moves_to Drain) es ≡ false → some_event begins_exactly es ≡ false
undrained [] h = refl
undrained (e ∷ es) h =
    let p = or_parts (moves_to Drain e.step e.found) (some_event (moves_to Drain) es) h in
    or_from (begins_exactly e.step e.found) (some_event begins_exactly es) (ap (λ (b : Bool). (b && is_phase e.found Idle) || (b && is_phase e.found Clear)) p.0) (undrained es p.1)

-- an ordinary cycle
module _ (v0 v1 v2 : View) (r : Ran v0 v1) (is : events v0 v1 ≡ event (StorePhase Drain) 1 ∷ event (Reset card_counter) 0 ∷ []) (k : Completes v1 v2) where
  all-events : events v0 v2 ≡ event (StorePhase Drain) 1 ∷ event (Reset card_counter) 0 ∷ events v1 v2
  all-events = ran-events v0 v1 v2 r k.ran ∙ ap (λ es. es ++ events v1 v2) is

  pub cycle-help : lets_help (events v0 v2) ≡ true
  cycle-help = ap lets_help all-events ∙ lets-help [] (event (StorePhase Drain) 1) (event (Reset card_counter) 0 ∷ []) (events v1 v2) refl refl k.no_drain k.drain_help k.sweep_help

  pub cycle-not-full : never tells_full (events v0 v2) ≡ true
  cycle-not-full = ap (never tells_full) all-events ∙ never-both tells_full (event (StorePhase Drain) 1 ∷ event (Reset card_counter) 0 ∷ []) (events v1 v2) refl k.not_full

  pub cycle-unbegun : never tries_marking (events v0 v2) ≡ true
  cycle-unbegun = ap (never tries_marking) all-events ∙ never-both tries_marking (event (StorePhase Drain) 1 ∷ event (Reset card_counter) 0 ∷ []) (events v1 v2) refl k.unbegun

  pub cycle-ordinary : never begins_exactly (events v0 v2) ≡ true
  cycle-ordinary =
      ap (never begins_exactly) all-events
      ∙ never-both begins_exactly (event (StorePhase Drain) 1 ∷ event (Reset card_counter) 0 ∷ []) (events v1 v2) refl (ap not (undrained (events v1 v2) (not-true _ k.no_drain)))

  pub cycle-once : count_of ends_cycle (events v0 v2) ≡ 1
  cycle-once = let all = ap (count_of ends_cycle) all-events in let one = k.once in omega (arith, all, one)

  pub cycle-total : (f : SeatState → Step → ℕ → ℕ) → ((s : SeatState) → f s (StorePhase Drain) 1 ≡ 0) → ((s : SeatState) → f s (Reset card_counter) 0 ≡ 0) → total_of f v0 (events v0 v2) ≡ total_of f v1 (events v1 v2)
  cycle-total f a b =
      total-run f v0 v1 v2 r k.ran
      ∙ (let first = ap (total_of f v0) is in
      let x = a v0.state in
      let y = b (seat_after v0.shape v0.state (StorePhase Drain) 1) in
      omega (arith, first, x, y))

-- a drain that begins exactly is a move to Drain
exact-moves : (step : Step) (n : ℕ) → begins_exactly step n ≡ true → moves_to Drain step n ≡ true
exact-moves step n h =
    ⊎_elim
    (λ (a : moves Idle Drain step n ≡ true). (and_parts (moves_to Drain step n) (is_phase n Idle) a).0)
    (λ (a : moves Clear Drain step n ≡ true). (and_parts (moves_to Drain step n) (is_phase n Clear) a).0)
    (or_cases (moves Idle Drain step n) (moves Clear Drain step n) h)

-- what is asked of moments by their records only
same-moments : (sh : Shape) (es : List Entry) (m n : Moment) → m.state ≡ n.state → at_some_moment sh ends_exactly m es ≡ true → at_some_moment sh ends_exactly n es ≡ true
same-moments sh [] m n e h = h
same-moments sh (x ∷ es) m n e h =
    ⊎_elim
    (λ (a : ends_exactly m (x ∷ es) ≡ true). or_left (ends_exactly n (x ∷ es)) (at_some_moment sh ends_exactly (after_moment sh n x) es) (ap (λ (s : SeatState). s.exact && ends_cycle x.step x.found) (sym e) ∙ a))
    (λ (a : at_some_moment sh ends_exactly (after_moment sh m x) es ≡ true).
    or_right (ends_exactly n (x ∷ es)) (at_some_moment sh ends_exactly (after_moment sh n x) es)
    (same-moments sh es (after_moment sh m x) (after_moment sh n x) (ap (λ (s : SeatState). seat_after sh s x.step x.found) e) a))
    (or_cases (ends_exactly m (x ∷ es)) (at_some_moment sh ends_exactly (after_moment sh m x) es) h)

collects-there : (sh : Shape) (xs : List Entry) (e : Entry) (ys : List Entry) (m : Moment) → begins_exactly e.step e.found ≡ true → at_some_moment sh ends_exactly (moments sh m (xs ++ (e ∷ []))) ys ≡ true → collects_exactly sh m (xs ++ (e ∷ ys)) ≡ true
collects-there sh [] e ys m b h = or_left (begins_exactly e.step e.found && at_some_moment sh ends_exactly (after_moment sh m e) ys) (collects_exactly sh (after_moment sh m e) ys) (and_from _ _ b h)
collects-there sh (x ∷ xs) e ys m b h =
    or_right (begins_exactly x.step x.found && at_some_moment sh ends_exactly (after_moment sh m x) (xs ++ (e ∷ ys))) (collects_exactly sh (after_moment sh m x) (xs ++ (e ∷ ys))) (collects-there sh xs e ys (after_moment sh m x) b h)

moments-join : (sh : Shape) (xs ys : List Entry) (m : Moment) → moments sh (moments sh m xs) ys ≡ moments sh m (xs ++ ys)
moments-join sh [] ys m = refl
moments-join sh (x ∷ xs) ys m = moments-join sh xs ys (after_moment sh m x)

-- a precise cycle
module _ (v0 v1 v2 : View) (b : BeginsExactly v0 v1) (k : Completes v1 v2) where
  pub exact-ran : Ran v0 v2
  exact-ran = ran-join v0 v1 v2 b.ran k.ran

  split : events v0 v2 ≡ b.before ++ (b.move ∷ (b.rest ++ events v1 v2))
  split = ran-events v0 v1 v2 b.ran k.ran ∙ (ap (λ es. es ++ events v1 v2) b.all ∙ append_assoc b.before (b.move ∷ b.rest) (events v1 v2))

  pub exact-help : lets_help (events v0 v2) ≡ true
  exact-help = ap lets_help split ∙ lets-help b.before b.move b.rest (events v1 v2) (exact-moves b.move.step b.move.found b.begins) b.stayed k.no_drain k.drain_help k.sweep_help

  pub exact-collects : collects_exactly v0.shape (begins v0) (events v0 v2) ≡ true
  exact-collects =
      let sh : Shape = v0.shape in
      let state = moments-state v0 (begins v0) (events v0 v1) refl ∙ ap (λ (x : View). x.state) (sym b.ran.steps) in
      let shape : v1.shape ≡ v0.shape = ran-shape v0 v1 b.ran in
      let later = subst (λ (s : Shape). at_some_moment s ends_exactly (begins v1) (events v1 v2) ≡ true) shape (k.exactly b.exact).0 in
      let there = same-moments sh (events v1 v2) (begins v1) (moments sh (begins v0) (events v0 v1)) (sym state) later in
      let whole : moments sh (begins v0) (events v0 v1) ≡ moments sh (moments sh (begins v0) (b.before ++ (b.move ∷ []))) b.rest =
      ap (moments sh (begins v0)) (b.all ∙ sym (append_assoc b.before (b.move ∷ []) b.rest)) ∙ sym (moments-join sh (b.before ++ (b.move ∷ [])) b.rest (begins v0)) in
      ap (collects_exactly sh (begins v0)) split
      ∙ collects-there sh b.before b.move (b.rest ++ events v1 v2) (begins v0) b.begins
      (some-moment-later sh ends_exactly b.rest (events v1 v2) (moments sh (begins v0) (b.before ++ (b.move ∷ []))) (ap (λ (m : Moment). at_some_moment sh ends_exactly m (events v1 v2)) (sym whole) ∙ there))

  exact-no-full : (step : Step) (n : ℕ) → begins_exactly step n ≡ true → tells_full step n ≡ false
  exact-no-full (StorePhase Drain) n h = refl
  exact-no-full (StorePhase Idle) n h = absurd (false≢true h)
  exact-no-full (StorePhase Marking) n h = absurd (false≢true h)
  exact-no-full (StorePhase Sweep) n h = absurd (false≢true h)
  exact-no-full (StorePhase Clear) n h = absurd (false≢true h)
  exact-no-full (StorePhase Full) n h = absurd (false≢true h)
  exact-no-full step n h = absurd (false≢true h)

  pub exact-not-full : never tells_full (events v0 v2) ≡ true
  exact-not-full =
      ap (never tells_full) split
      ∙ never-both tells_full b.before (b.move ∷ (b.rest ++ events v1 v2)) b.not_full
      (ap not (or_from _ _ (exact-no-full b.move.step b.move.found b.begins) (some-none tells_full b.rest (events v1 v2) (none-of-steps stays tells_full no-tell b.rest b.stayed) (not-true _ k.not_full))))

  exact-untried : (step : Step) (n : ℕ) → begins_exactly step n ≡ true → tries_marking step n ≡ false
  exact-untried (StorePhase Drain) n h = refl
  exact-untried (StorePhase Idle) n h = absurd (false≢true h)
  exact-untried (StorePhase Marking) n h = absurd (false≢true h)
  exact-untried (StorePhase Sweep) n h = absurd (false≢true h)
  exact-untried (StorePhase Clear) n h = absurd (false≢true h)
  exact-untried (StorePhase Full) n h = absurd (false≢true h)
  exact-untried step n h = absurd (false≢true h)

  pub exact-unbegun : never tries_marking (events v0 v2) ≡ true
  exact-unbegun =
      ap (never tries_marking) split
      ∙ never-both tries_marking b.before (b.move ∷ (b.rest ++ events v1 v2)) b.unbegun
      (ap not (or_from _ _ (exact-untried b.move.step b.move.found b.begins) (some-none tries_marking b.rest (events v1 v2) (none-of-steps stays tries_marking no-try b.rest b.stayed) (not-true _ k.unbegun))))

  exact-unended : (step : Step) (n : ℕ) → begins_exactly step n ≡ true → ends_cycle step n ≡ false
  exact-unended (StorePhase Drain) n h = refl
  exact-unended (StorePhase Idle) n h = absurd (false≢true h)
  exact-unended (StorePhase Marking) n h = absurd (false≢true h)
  exact-unended (StorePhase Sweep) n h = absurd (false≢true h)
  exact-unended (StorePhase Clear) n h = absurd (false≢true h)
  exact-unended (StorePhase Full) n h = absurd (false≢true h)
  exact-unended step n h = absurd (false≢true h)

  pub exact-once : count_of ends_cycle (events v0 v2) ≡ 1
  exact-once =
      let first : List Entry = b.move ∷ b.rest in
      let all = ap (count_of ends_cycle) split in
      let two = count-join ends_cycle b.before (first ++ events v1 v2) in
      let three = count-join ends_cycle first (events v1 v2) in
      let before = count-none ends_cycle b.before (not-true _ b.unended) in
      let begun = count-none ends_cycle first (or_from _ _ (exact-unended b.move.step b.move.found b.begins) (none-of-steps stays ends_cycle no-end b.rest b.stayed)) in
      let one = k.once in
      omega (arith, all, two, three, before, begun, one)

-- if the stop began exactly, no cycle is under way, and the seat is alone, the cells in use are the reachable ones
pub exact-end : (v : View) → IsAloneIn Idle v → v.state.exact ≡ true → InEach IsExact v
exact-end v a e x i k g c low =
    let phase : (words_of x.core.shape x.core.words).phase ≡ 0 = phase-is x i v 0 g a.alone.phase in
    let there : i < length x.core.seats = slice_get_within x.core.seats i v.state g.seat in
    let is : get_or x.core.seats i v.state ≡ v.state = get_or_from_slice_get x.core.seats i v.state v.state g.seat in
    let exact : list_any (λ (t : SeatState). t.exact) x.core.seats ≡ true = list_any_at (λ (t : SeatState). t.exact) x.core.seats i v.state there (ap (λ (t : SeatState). t.exact) is ∙ e) in
    let still = still-known x.core k.core (knower x.core.seats i v.state there (ap (λ (t : SeatState). t.knows) is ∙ a.rest.knows)) in (
      λ u.
          subst (λ (rs : List ℕ). IsReachableCell x.core.shape rs (words_of x.core.shape x.core.words).fields c) (sym (roots-still x.core k.core.sound still))
          (k.core.sound.exact.idle_in_use exact (ap (λ n. is_phase n Idle) phase) c low u),
      λ r. reachable-used x.core c k.core r,
    )

-- a drain began exactly after other events, among which nothing told that the heap is full, and no cycle was begun or ended
pub begins-later : (u v w : View) → Ran u v → Only finishes u v → never tells_full (events u v) ≡ true → never tries_marking (events u v) ≡ true → never ends_cycle (events u v) ≡ true → BeginsExactly v w → BeginsExactly u w
begins-later u v w r o n m d b =
    record {
      ran = ran-join u v w r b.ran;
      only = ran-only finishes u v w r b.ran o b.only;
      alone = b.alone;
      exact = b.exact;
      before = events u v ++ b.before;
      rest = b.rest;
      move = b.move;
      all = ran-events u v w r b.ran ∙ (ap (λ es. events u v ++ es) b.all ∙ sym (append_assoc (events u v) b.before (b.move ∷ b.rest)));
      begins = b.begins;
      stayed = b.stayed;
      fresh = b.fresh;
      not_full = never-both tells_full (events u v) b.before n b.not_full;
      unbegun = never-both tries_marking (events u v) b.before m b.unbegun;
      unended = never-both ends_cycle (events u v) b.before d b.unended;
    }

-- since a drain began exactly only the counter of cards was set
pub exact-fresh : (v w : View) (b : BeginsExactly v w) → since_last (moves_to Drain) (events v w) ≡ event (Reset card_counter) 0 ∷ []
exact-fresh v w b =
    ap (since_last (moves_to Drain)) b.all
    ∙ (since-this (moves_to Drain) b.before b.move b.rest (exact-moves b.move.step b.move.found b.begins) (none-of-steps stays (moves_to Drain) (no-move Drain) b.rest b.stayed) ∙ b.fresh)

-- the drain before it is so of a longer call
pub before-more : (u v w : View) → DrainsBefore u v → Ran v w → DrainsBefore u w
before-more u v w d r =
    record {
      begun = d.begun;
      drained = d.drained;
      begins = d.begins;
      alone = d.alone;
      after = ran-join d.drained v w d.after r;
      clears = (d.clears.0 ++ events v w, ran-events d.drained v w d.after r ∙ ap (λ es. es ++ events v w) d.clears.1);
    }
