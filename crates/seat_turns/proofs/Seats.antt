-- A mutator's seat stays one through the calls of the crates below.
use Rattle.std.proofs.Common.{ℕ, ◌≡◌, ◌==◌, ◌&&◌, ◌||◌, List, [], ◌∷◌, length, refl, sym, ap, ◌∙◌, subst, Bool, true, false, not, Option, Some, None, eqb-true, ⊎_elim}
use Rattle.std.specs.Prelude.{is_none, is_some}
use Rattle.std.proofs.lemmas.Bool.{and_from, and_parts, false≢true, true≢false, not-true, or_left, or_right}
use Rattle.mark_core.specs.Seats.{empty_handed, has_making, has_turn, saw, work_in_hand}
use Rattle.mark_core.specs.declared.kinds.Phase.{Phase}
use Rattle.mark_core.specs.declared.kinds.Phase.TheVariants.{Full}
use Rattle.mark_core.specs.declared.kinds.Shape.{Shape}
use Rattle.mark_core.specs.declared.kinds.Step.{Step}
use Rattle.mark_core.specs.declared.kinds.Step.TheVariants.{ReadPhase, ReadSeason}
use Rattle.mark_core.specs.declared.seat.SeatState.{SeatState}
use Rattle.gc_table.specs.Log.{events}
use Rattle.gc_table.specs.Running.{Ran}
use Rattle.gc_table.proofs.Running.{ran-found, ran-plan, ran-refl, ran-shape}
use Rattle.alloc_cache.specs.Caching.{is_whole}
use Rattle.gc_table.specs.PlainSteps.{HasSeenPhase}
use Rattle.gc_table.specs.Seats.{Found, Sits, view_of}
use Rattle.gc_table.specs.declared.seat.Heap.{Heap}
use Rattle.gc_table.specs.declared.seat.HeapSeat.{HeapSeat}
use Rattle.gc_table.specs.declared.view.Entry.{Entry}
use Rattle.gc_table.specs.declared.view.Meaning.{Meaning}
use Rattle.gc_table.specs.declared.view.SectionState.{SectionState}
use Rattle.gc_table.specs.declared.view.View.{View}
use Rattle.alloc_cache.specs.declared.cache.Cache.{Cache}
use Rattle.gc_cycle.specs.Answering.{CollectsTo, GoesOn, HasCache, later_or, last_phase, phase_read}
use Rattle.gc_cycle.specs.declared.counts.Safe.TheVariants as safes
use Rattle.gc_cycle.specs.Polling.{saw_full}
use Rattle.gc_cycle.specs.Sorts.{reads_phase}
use Rattle.gc_cycle.specs.Standing.{KeepsSeat, KeepsSection, Mutates, is_at_rest}
use Rattle.gc_cycle.proofs.Refills.Answered.{cached-still}
use Rattle.seat_turns.specs.SeasonLooks.{LooksAtSeason}
use Rattle.seat_turns.specs.Standing.{Halts, IsAtTurn, IsMutator, MayOperate, Plays, Works, saw_going}
use Rattle.alloc_cache.specs.Making.{with_cell}

-- the phase that was read last isn't Full, if none was read as Full
none_some : (p : Phase) → None ≡ Some p → ⊥
none_some p e = false≢true (ap (λ (o : Option Phase). is_some o) e)

pub read_full : (step : Step) (n : ℕ) → phase_read step n ≡ Some Full → reads_phase Full step n ≡ true
read_full ReadPhase n h = ap (λ (o : Option Phase). saw o Full) h
read_full step n h = absurd (none_some Full h)

pub either_full : (later here : Option Phase) (a b : Bool) → (later ≡ Some Full → b ≡ true) → (here ≡ Some Full → a ≡ true) → later_or later here ≡ Some Full → (a || b) ≡ true
either_full None here a b p q h = or_left a b (q h)
either_full (Some x) here a b p q h = or_right a b (p h)

pub last_full : (es : List Entry) → last_phase es ≡ Some Full → saw_full es ≡ true
last_full [] h = absurd (none_some Full h)
last_full (e ∷ es) h = either_full (last_phase es) (phase_read e.step e.found) (reads_phase Full e.step e.found) (saw_full es) (last_full es) (read_full e.step e.found) h

-- a mutator that goes on has read a phase in which it may store
pub going-seen : (v w : View) → GoesOn v w → HasSeenPhase w.state
going-seen v w g = by (last_phase (events v w)) refl g.read g.seen
  where
    by : (o : Option Phase) → last_phase (events v w) ≡ o → is_some (last_phase (events v w)) ≡ true → w.state.phase_seen ≡ last_phase (events v w) → HasSeenPhase w.state
    by None e b s = absurd (false≢true (sym (ap (λ (o : Option Phase). is_some o) e) ∙ b))
    by (Some p) e b s = (p, s ∙ e, λ full. true≢false (sym (last_full (events v w) (e ∙ ap (λ q. Some q) full)) ∙ g.going))

-- at rest, part by part
pub record AtRest (sh : Shape) (s : SeatState) : Type 0 where
  pub idle : work_in_hand sh.fields s ≡ false
  pub owes : s.owes ≡ None
  pub register : s.got ≡ 0
  pub lags : s.lags ≡ 0
  pub whole : has_making s.cache ≡ false

pub at_rest : (sh : Shape) (s : SeatState) → is_at_rest sh s ≡ true → AtRest sh s
at_rest sh s e =
    let p5 = and_parts (empty_handed s && not (work_in_hand sh.fields s) && is_none s.owes && is_none s.block && ((s.got == 0) && (s.lags == 0))) (not (has_making s.cache)) e in
    let p4 = and_parts (empty_handed s && not (work_in_hand sh.fields s) && is_none s.owes && is_none s.block) ((s.got == 0) && (s.lags == 0)) p5.0 in
    let p3 = and_parts (empty_handed s && not (work_in_hand sh.fields s) && is_none s.owes) (is_none s.block) p4.0 in
    let p2 = and_parts (empty_handed s && not (work_in_hand sh.fields s)) (is_none s.owes) p3.0 in
    let p1 = and_parts (empty_handed s) (not (work_in_hand sh.fields s)) p2.0 in
    record {
      idle = not-true (work_in_hand sh.fields s) p1.1;
      owes = none_of s.owes p2.1;
      register = eqb-true s.got 0 (and_parts (s.got == 0) (s.lags == 0) p4.1).0;
      lags = eqb-true s.lags 0 (and_parts (s.got == 0) (s.lags == 0) p4.1).1;
      whole = not-true (has_making s.cache) p5.1;
    }
  where
    none_of : (o : Option ℕ) → is_none o ≡ true → o ≡ None
    none_of None h = refl
    none_of (Some x) h = absurd (false≢true h)

-- no catalogue comes by any step
pub plan-kept : (v w : View) → Ran v w → (v.shape.sharing ≡ false → v.plan ≡ []) → w.shape.sharing ≡ false → w.plan ≡ []
plan-kept v w ran k alone = ran-plan v w ran ∙ k (ap (λ (sh : Shape). sh.sharing) (sym (ran-shape v w ran)) ∙ alone)

-- what isn't this seat's work leaves it a mutator's
pub mutator-kept : (v w : View) → IsMutator v → Ran v w → KeepsSeat v w → KeepsSection v w → IsMutator w
mutator-kept v w k ran seat section =
    record {
      uncatalogued = plan-kept v w ran k.uncatalogued;
      section = ap (λ (o : Option ℕ). has_turn o (Some 1)) seat.section ∙ k.section;
      counted = ap (λ (m : Meaning). length m.heap.objects) section.meaning ∙ (k.counted ∙ sym seat.made);
    }

-- a reading of the season leaves the seat a mutator's
pub looks-works : (h : Heap) (x y : HeapSeat) → Works h x → Sits h y → LooksAtSeason (view_of x) (view_of y) → Works h y
looks-works h x y k sits looks =
    ⊎_elim
    (λ (same : view_of y ≡ view_of x). record { sits = sits; mutates = subst Mutates (sym same) k.mutates; mutator = subst IsMutator (sym same) k.mutator })
    (λ (read : (n : ℕ) × Found ReadSeason n (view_of x) (view_of y)).
    let m = k.mutates in
    let w = k.mutator in
    record {
      sits = sits;
      mutates = subst Mutates (sym read.1.0) (record { active = m.active; unhelping = m.unhelping; section = m.section; rest = m.rest });
      mutator = subst IsMutator (sym read.1.0) (record { uncatalogued = w.uncatalogued; section = w.section; counted = w.counted });
    })
    looks

pub looks-ran : (v w : View) → LooksAtSeason v w → Ran v w
looks-ran v w looks = ⊎_elim (λ (same : w ≡ v). subst (Ran v) (sym same) (ran-refl v)) (λ (read : (n : ℕ) × Found ReadSeason n v w). ran-found v w ReadSeason read.0 refl read.1) looks

pub looks-cached : (kept : Option Cache) (v w : View) → HasCache kept v → LooksAtSeason v w → HasCache kept w
looks-cached kept v w k looks =
    ⊎_elim (λ (same : w ≡ v). subst (HasCache kept) (sym same) k) (λ (read : (n : ℕ) × Found ReadSeason n v w). cached-still kept v w (ap (λ (y : View). y.state.cache) read.1.0) k) looks

pub looks-heap : (v w : View) → LooksAtSeason v w → w.own.meaning.heap ≡ v.own.meaning.heap
looks-heap v w looks =
    ⊎_elim (λ (same : w ≡ v). ap (λ (y : View). y.own.meaning.heap) same) (λ (read : (n : ℕ) × Found ReadSeason n v w). ap (λ (y : View). y.own.meaning.heap) read.1.0) looks

pub looks-seen : (v w : View) → HasSeenPhase v.state → LooksAtSeason v w → HasSeenPhase w.state
looks-seen v w k looks =
    ⊎_elim
    (λ (same : w ≡ v). subst (λ (y : View). HasSeenPhase y.state) (sym same) k)
    (λ (read : (n : ℕ) × Found ReadSeason n v w). subst (λ (y : View). HasSeenPhase y.state) (sym read.1.0) k)
    looks

-- a mutator that knows the phase and that it is its turn
pub works-ready : (h : Heap) (x : HeapSeat) → Works h x → HasSeenPhase (view_of x).state → has_turn (view_of x).state.section (view_of x).state.season_seen ≡ true → Plays h x
works-ready h x k seen turn =
    let s : SeatState = (view_of x).state in
    let rest = at_rest (view_of x).shape s k.mutates.rest in
    record {
      works = k;
      operates =
          record {
            stores =
                record {
                  turn = and_from s.active (has_turn s.section s.season_seen) k.mutates.active turn;
                  seen = seen;
                  owes = rest.owes;
                };
            idle = rest.idle;
            whole = rest.whole;
            register = rest.register;
            counted = k.mutator.counted;
          };
    }

-- in season 1 it is
pub first-turn : (v : View) → IsMutator v → v.state.season_seen ≡ Some 1 → has_turn v.state.section v.state.season_seen ≡ true
first-turn v k is = ap (λ o. has_turn v.state.section o) is ∙ k.section

-- a call that keeps the seat and its section
pub kept-works : (h : Heap) (x y : HeapSeat) → Works h x → Sits h y → Mutates (view_of y) → Ran (view_of x) (view_of y) → KeepsSeat (view_of x) (view_of y) → KeepsSection (view_of x) (view_of y) → Works h y
kept-works h x y k sits mutates ran seat section = record { sits = sits; mutates = mutates; mutator = mutator-kept (view_of x) (view_of y) k.mutator ran seat section }

pub kept-heap : (v w : View) → KeepsSection v w → w.own.meaning.heap ≡ v.own.meaning.heap
kept-heap v w section = ap (λ (m : Meaning). m.heap) section.meaning

-- the cache was given up
pub retired-halts : (h : Heap) (x y : HeapSeat) → Works h x → Sits h y → Mutates (view_of y) → Ran (view_of x) (view_of y) → (view_of y).state ≡ record (view_of x).state { cache = None } → (view_of y).own ≡ (view_of x).own → Halts h y
retired-halts h x y k sits mutates ran state own =
    record {
      works =
          record {
            sits = sits;
            mutates = mutates;
            mutator =
                record {
                  uncatalogued = plan-kept (view_of x) (view_of y) ran k.mutator.uncatalogued;
                  section = ap (λ (s : SeatState). has_turn s.section (Some 1)) state ∙ k.mutator.section;
                  counted = ap (λ (o : SectionState). length o.meaning.heap.objects) own ∙ (k.mutator.counted ∙ sym (ap (λ (s : SeatState). s.made) state));
                };
          };
      cache = ap (λ (s : SeatState). s.cache) state;
    }

-- a phase that was seen, told by a fact and by a test

pub saw-seen : (s : SeatState) → saw_going s.phase_seen ≡ true → HasSeenPhase s
saw-seen s e = by s.phase_seen refl e
  where
    by : (o : Option Phase) → s.phase_seen ≡ o → saw_going o ≡ true → HasSeenPhase s
    by None seen e = absurd (false≢true e)
    by (Some p) seen e = (p, seen, λ full. false≢true (sym (ap (λ (q : Phase). saw_going (Some q)) full) ∙ e))

saw-other : (p : Phase) → (p ≡ Full → ⊥) → saw_going (Some p) ≡ true
saw-other Full other = absurd (other refl)
saw-other p other = refl

pub seen-saw : (s : SeatState) → HasSeenPhase s → saw_going s.phase_seen ≡ true
seen-saw s h = ap saw_going h.1 ∙ saw-other h.0 h.2

-- a mutator at its turn may do an operation
pub turn-plays : (h : Heap) (x : HeapSeat) → IsAtTurn h x → Plays h x
turn-plays h x t = works-ready h x t.works (saw-seen (view_of x).state t.phase) t.turn

-- what the record has of a cache is whole
pub whole-cache : (kept : Option Cache) (v : View) → HasCache kept v → is_whole v.state.cache ≡ true
whole-cache None v e = ap is_whole e
whole-cache (Some h) v e = ap is_whole e

-- a mutator that may do an operation, with a cache that is whole, is at its turn
pub plays-turn : (h : Heap) (x : HeapSeat) → Plays h x → is_whole (view_of x).state.cache ≡ true → IsAtTurn h x
plays-turn h x p cache =
    let s : SeatState = (view_of x).state in
    record { works = p.works; turn = (and_parts s.active (has_turn s.section s.season_seen) p.operates.stores.turn).1; phase = seen-saw s p.operates.stores.seen; cache = cache }

-- a mutator that collected is one between two calls
pub collected-mutates : (kept : Option Cache) (done : ℕ) (v w : View) → CollectsTo (safes.Going kept) done v w → Mutates w
collected-mutates None done v w c = c.goes_on.mutates
collected-mutates (Some h) done v w c = absurd c

-- an operation leaves the mutator where it may do another
pub plays-on : (h : Heap) (x y : HeapSeat) → Plays h x → Sits h y → MayOperate (view_of y) → Ran (view_of x) (view_of y) → (view_of y).state ≡ record (view_of x).state { env = (view_of y).state.env } → Plays h y
plays-on h x y p sits operates ran state =
    let v : View = view_of x in
    let w : View = view_of y in
    let m = p.works.mutates in
    let u = p.works.mutator in
    record {
      works =
          record {
            sits = sits;
            mutates =
                record {
                  active = ap (λ (s : SeatState). s.active) state ∙ m.active;
                  unhelping = ap (λ (s : SeatState). s.helping) state ∙ m.unhelping;
                  section = ap (λ (s : SeatState). is_some s.section) state ∙ m.section;
                  rest = (λ i. is_at_rest (ran-shape v w ran i) (state i)) ∙ m.rest;
                };
            mutator = record { uncatalogued = plan-kept v w ran u.uncatalogued; section = ap (λ (s : SeatState). has_turn s.section (Some 1)) state ∙ u.section; counted = operates.counted };
          };
      operates = operates;
    }

-- nothing in hand, but for whether a cell is half made
abbrev pub rests : Shape → SeatState → Bool → Bool
rests sh s making = empty_handed s && not (work_in_hand sh.fields s) && is_none s.owes && is_none s.block && ((s.got == 0) && (s.lags == 0)) && not making

-- so does the making of an object
pub plays-made : (h : Heap) (cell : ℕ) (x y : HeapSeat) → Plays h x → Sits h y → MayOperate (view_of y) → Ran (view_of x) (view_of y) → (view_of y).state ≡ record (with_cell (view_of x).state cell) { env = (view_of y).state.env } → Plays h y
plays-made h cell x y p sits operates ran state =
    let v : View = view_of x in
    let w : View = view_of y in
    let m = p.works.mutates in
    let q = p.works.mutator in
    record {
      works =
          record {
            sits = sits;
            mutates =
                record {
                  active = ap (λ (s : SeatState). s.active) state ∙ m.active;
                  unhelping = ap (λ (s : SeatState). s.helping) state ∙ m.unhelping;
                  section = ap (λ (s : SeatState). is_some s.section) state ∙ m.section;
                  rest =
                      (λ i. rests (ran-shape v w ran i) (record (state i) { cache = w.state.cache }) (has_making w.state.cache))
                      ∙ ap (rests v.shape v.state) (operates.whole ∙ sym p.operates.whole)
                      ∙ m.rest;
                };
            mutator = record { uncatalogued = plan-kept v w ran q.uncatalogued; section = ap (λ (s : SeatState). has_turn s.section (Some 1)) state ∙ q.section; counted = operates.counted };
          };
      operates = operates;
    }
