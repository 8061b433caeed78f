-- A mutator polls, reads the season, and is ready for a command.
use Rattle.std.proofs.Common.{ℕ, ◌≡◌, ◌==◌, ◌&&◌, ◌||◌, List, [], ◌∷◌, ◌++◌, refl, sym, ap, ◌∙◌, subst, Bool, true, false, not, Option, Some, None, if◌then◌else◌, arith, eqb-true, ⊎_elim}
use Rattle.std.specs.Prelude.{IsFalse, is_none, is_some}
use Rattle.std.proofs.lemmas.Bool.{and_from, and_parts, false≢true, true≢false, not-true, or_parts, or_right}
use Rattle.mark_core.specs.Seats.{empty_handed, has_making, has_turn, work_in_hand}
use Rattle.mark_core.specs.declared.kinds.Phase.{Phase}
use Rattle.mark_core.specs.declared.kinds.Shape.{Shape}
use Rattle.mark_core.specs.declared.kinds.Step.TheVariants.{ReadSeason}
use Rattle.mark_core.specs.declared.seat.SeatState.{SeatState}
use Rattle.gc_table.specs.Log.{Only, all_steps, events}
use Rattle.gc_table.specs.PlainSteps.{HasSeenPhase}
use Rattle.gc_table.specs.Running.{Ran}
use Rattle.gc_table.specs.Seats.{Found}
use Rattle.gc_table.specs.declared.view.Entry.{Entry}
use Rattle.gc_table.specs.declared.view.View.{View}
use Rattle.gc_table.proofs.History.Log.{events-after, only-after, only-more, only-none}
use Rattle.gc_table.proofs.Running.{ran-events, ran-found, ran-only, ran-refl, ran-section}
use Rattle.packet_pools.specs.Seeking.{some_event}
use Rattle.packet_pools.proofs.Searches.{some-left}
use Rattle.alloc_cache.specs.declared.cache.Cache.{Cache}
use Rattle.gc_cycle.specs.Answering.{GoesOn, HasCache, last_phase}
use Rattle.gc_cycle.specs.Events.{never}
use Rattle.cache_refills.specs.PartEvents.{polled_last}
use Rattle.seat_turns.specs.SeasonLooks.{LooksAtSeason}
use Rattle.seat_turns.proofs.Seats.{last_full}
use Rattle.warehouse.specs.Pacing.{Paces}
use Rattle.warehouse.specs.Playing.{Acts, GetsReady, ObjectsHaveCells, IsInTurn, Stays, DoesNothing, counts_part}
use Rattle.gc_cycle.specs.Sorts.{stores_new, polls, raises_flag, mutator_stores}
use Rattle.gc_cycle.specs.Sparing.{spares_part}
use Rattle.gc_cycle.specs.Standing.{KeepsSeat, Mutates, is_at_rest}
use Rattle.cache_refills.specs.Stops.{stops_without_cause}
use Rattle.warehouse.proofs.Leavings.{acts-join, waits-join}
use Rattle.warehouse.proofs.FullStops.{counted-kept}
use Rattle.warehouse.proofs.Others.{has-cache}
use Rattle.warehouse.proofs.Pacing.{paces-after}
use Rattle.warehouse.proofs.Counting.{last-right, last-some, some-count, stored-none, stores_none, writes-none}
use Rattle.warehouse.proofs.InTheStop.{spares-stores, stays-join, stays-none, stays-spared, waits-calm, waits-none}

-- the phase that was read last isn't Full, if none was read as Full
none_some : (p : Phase) → None ≡ Some p → ⊥
none_some p e = false≢true (ap (λ (o : Option Phase). is_some o) e)

pub going-seen : (v w : View) → GoesOn v w → HasSeenPhase w.state
going-seen v w g = by (last_phase (events v w)) refl g.read g.seen
  where
    by : (o : Option Phase) → last_phase (events v w) ≡ o → is_some (last_phase (events v w)) ≡ true → w.state.phase_seen ≡ last_phase (events v w) → HasSeenPhase w.state
    by None e b s = absurd (false≢true (sym (ap (λ (o : Option Phase). is_some o) e) ∙ b))
    by (Some p) e b s = (p, s ∙ e, λ full. true≢false (sym (last_full (events v w) (e ∙ ap (λ q. Some q) full)) ∙ g.going))

-- at rest, part by part
pub record AtRest (sh : Shape) (s : SeatState) : Type 0 where
  pub idle : work_in_hand sh.fields s ≡ false
  pub owes : s.owes ≡ None
  pub register : s.got ≡ 0
  pub whole : has_making s.cache ≡ false

pub at-rest : (sh : Shape) (s : SeatState) → is_at_rest sh s ≡ true → AtRest sh s
at-rest sh s e =
    let p5 = and_parts (empty_handed s && not (work_in_hand sh.fields s) && is_none s.owes && is_none s.block && ((s.got == 0) && (s.lags == 0))) (not (has_making s.cache)) e in
    let p4 = and_parts (empty_handed s && not (work_in_hand sh.fields s) && is_none s.owes && is_none s.block) ((s.got == 0) && (s.lags == 0)) p5.0 in
    let p3 = and_parts (empty_handed s && not (work_in_hand sh.fields s) && is_none s.owes) (is_none s.block) p4.0 in
    let p2 = and_parts (empty_handed s && not (work_in_hand sh.fields s)) (is_none s.owes) p3.0 in
    let p1 = and_parts (empty_handed s) (not (work_in_hand sh.fields s)) p2.0 in
    record {
      idle = not-true (work_in_hand sh.fields s) p1.1;
      owes = none_of s.owes p2.1;
      register = eqb-true s.got 0 (and_parts (s.got == 0) (s.lags == 0) p4.1).0;
      whole = not-true (has_making s.cache) p5.1;
    }
  where
    none_of : (o : Option ℕ) → is_none o ≡ true → o ≡ None
    none_of None h = refl
    none_of (Some x) h = absurd (false≢true h)

-- the season is read
module _ (n : ℕ) (w x : View) (found : Found ReadSeason n w x) where
  season_ran : Ran w x
  season_ran = ran-found w x ReadSeason n refl found

  season_spares : Only stores_none w x
  season_spares = only-after stores_none w x ReadSeason n refl found.0

  season_mutates : Mutates w → Mutates x
  season_mutates m = subst Mutates (sym found.0) (record { active = m.active; unhelping = m.unhelping; section = m.section; rest = m.rest })

  season_stays : Stays w x
  season_stays = subst (Stays w) (sym found.0) (record { still = record { heap = refl; turns = refl; places = refl; full = refl }; made = refl; shape = refl })

  season_waits : DoesNothing w x
  season_waits season =
      let one = events-after w x ReadSeason n found.0 in
      record {
        ran = season_ran;
        polled = omega arith;
        stopped = λ since. let none : stops_without_cause w.shape since (events w x) ≡ 0 = ap (λ (es : List Entry). stops_without_cause w.shape since es) one in omega (arith, none);
        stored = stored-none season (events w x) w season_spares;
        uncounted = ap (λ (es : List Entry). never counts_part es) one;
        seasons = ap (λ (y : View). y.own.seasons) found.0;
        paced = paces-after ReadSeason n w x refl refl season_ran found.0;
      }

-- the season is read, if it wasn't known
module _ (w x : View) (looks : LooksAtSeason w x) where
  looks_by : (P : View → Type 0) → P w → ((n : ℕ) → Found ReadSeason n w x → P x) → P x
  looks_by P p f = ⊎_elim (λ same. subst P (sym same) p) (λ read. f read.0 read.1) looks

  pub looks-ran : Ran w x
  looks-ran = looks_by (λ y. Ran w y) (ran-refl w) (λ n found. season_ran n w x found)

  pub looks-spares : Only stores_none w x
  looks-spares = looks_by (λ y. Only stores_none w y) (only-none stores_none w) (λ n found. season_spares n w x found)

  pub looks-stays : Stays w x
  looks-stays = looks_by (λ y. Stays w y) (stays-none w) (λ n found. season_stays n w x found)

  pub looks-waits : DoesNothing w x
  looks-waits = looks_by (λ y. DoesNothing w y) (waits-none w) (λ n found. season_waits n w x found)

  pub looks-mutates : Mutates w → Mutates x
  looks-mutates m = looks_by Mutates m (λ n found. season_mutates n w x found m)

  looks_seen : HasSeenPhase w.state → HasSeenPhase x.state
  looks_seen h = looks_by (λ y. HasSeenPhase y.state) h (λ n found. subst (λ (y : View). HasSeenPhase y.state) (sym found.0) h)

  pub looks-kept : x.state.cache ≡ w.state.cache
  looks-kept = looks_by (λ y. y.state.cache ≡ w.state.cache) refl (λ n found. ap (λ (y : View). y.state.cache) found.0)

  pub looks-cache : (kept : Option Cache) → HasCache kept w → HasCache kept x
  looks-cache kept h = has-cache kept w x looks-kept h

-- a mutator that knows the phase and its turn
known_ready : (turn : ℕ) (x : View) → IsFalse x.shape.sharing → Mutates x → HasSeenPhase x.state → ObjectsHaveCells x → has_turn x.state.section (Some turn) ≡ true → x.state.season_seen ≡ Some turn → IsInTurn turn x
known_ready turn x owned m seen counted t is =
    let rest = at-rest x.shape x.state m.rest in
    record {
      ready =
          record {
            owned = owned;
            stores =
                record {
                  turn = and_from x.state.active (has_turn x.state.section x.state.season_seen) m.active (ap (λ o. has_turn x.state.section o) is ∙ t);
                  seen = seen;
                  owes = rest.owes;
                };
            idle = rest.idle;
            whole = rest.whole;
            register = rest.register;
            counted = counted;
          };
      season = is;
    }

-- of events that store nothing, only the polls matter
some_poll : (es : List Entry) → all_steps stores_none es ≡ true → some_event (λ step n. mutator_stores step n || polls step n) es ≡ some_event polls es
some_poll [] b = refl
some_poll (e ∷ es) b =
    let p = and_parts (stores_none e.step) (all_steps stores_none es) b in
    let none = or_parts (mutator_stores e.step e.found) (stores_new e.step e.found) (writes-none e.step e.found p.0) in
    ap (λ s. s || polls e.step e.found || some_event (λ step n. mutator_stores step n || polls step n) es) none.0 ∙ ap (λ s. polls e.step e.found || s) (some_poll es p.1)

one_of : (x y : Bool) → (x || y) ≡ true → y ≡ false → x ≡ true
one_of true y h none = refl
one_of false y h none = absurd (false≢true (sym none ∙ h))

last_of : (c s p : Bool) (later : Bool) → (c ≡ true → later ≡ true) → (p || c) ≡ true → (if c then later else (s || p) && p) ≡ true
last_of true s p later more h = more refl
last_of false s p later more h = let is = one_of p false h refl in and_from (s || p) p (or_right s p is) is

pub polled-calm : (es : List Entry) → all_steps stores_none es ≡ true → some_event polls es ≡ true → polled_last es ≡ true
polled-calm [] b h = absurd (false≢true h)
polled-calm (e ∷ es) b h =
    let p = and_parts (stores_none e.step) (all_steps stores_none es) b in
    ap (λ c. if c then polled_last es else (mutator_stores e.step e.found || polls e.step e.found) && polls e.step e.found) (some_poll es p.1)
    ∙ last_of (some_event polls es) (mutator_stores e.step e.found) (polls e.step e.found) (polled_last es) (polled-calm es p.1) h

pub polled-right : (xs ys : List Entry) → polled_last ys ≡ true → polled_last (xs ++ ys) ≡ true
polled-right xs ys h =
    last-right (λ step n. mutator_stores step n || polls step n) polls xs ys (last-some (λ step n. mutator_stores step n || polls step n) polls ys h) ∙ h

pub polled-join : (u v w : View) → Ran u v → Ran v w → polled_last (events v w) ≡ true → polled_last (events u w) ≡ true
polled-join u v w r s h = ap polled_last (ran-events u v w r s) ∙ polled-right (events u v) (events v w) h

pub spares-none : (v w : View) → Only spares_part v w → Only stores_none v w
spares-none v w o = only-more spares_part stores_none spares-stores v w o

-- a poll, and the season after it
pub polled-read : (v w x : View) → Ran v w → Ran w x → Only spares_part v w → Only stores_none w x → some_event polls (events v w) ≡ true → polled_last (events v x) ≡ true
polled-read v w x r s a b h =
    polled-calm (events v x) (ran-only stores_none v w x r s (spares-none v w a) b) (ap (some_event polls) (ran-events v w x r s) ∙ some-left polls (events v w) (events w x) h)

pub acts-polled : (v w : View) → DoesNothing v w → some_event polls (events v w) ≡ true → (season : ℕ) → Acts season 1 0 v w
acts-polled v w a h season =
    let k = a season in
    record { ran = k.ran; polled = some-count polls (events v w) h; stopped = k.stopped; stored = k.stored; uncounted = k.uncounted; seasons = k.seasons; paced = k.paced }

-- so a safe point and the season make ready, if it is the turn
pub reads-ready :
    (turn : ℕ) (kept : Option Cache) (v w x : View) → IsFalse v.shape.sharing → Ran v w → Only spares_part v w → never raises_flag (events v w) ≡ true → KeepsSeat v w → some_event polls (events v w) ≡ true → Paces v w → GoesOn v w → HasCache kept w → ObjectsHaveCells v
    → has_turn v.state.section (Some turn) ≡ true → LooksAtSeason w x → x.state.season_seen ≡ Some turn → GetsReady turn kept v x
reads-ready turn kept v w x owned ran spares calm keeps poll paced goes cached counted t looks is =
    let stays = stays-join v w x (stays-spared v w ran spares keeps) (looks-stays w x looks) in
    let waits = waits-join v w x (waits-calm v w ran spares calm paced) (looks-waits w x looks) in
    let later : Ran w x = looks-ran w x looks in
    let polled = ap (some_event polls) (ran-events v w x ran later) ∙ some-left polls (events v w) (events w x) poll in
    let mutates = looks-mutates w x looks goes.mutates in
    record {
      mutates = mutates;
      acts = acts-polled v x waits polled;
      stays = stays;
      turn_is =
          known_ready turn x (ap (λ (sh : Shape). sh.sharing) stays.shape ∙ owned) mutates (looks_seen w x looks (going-seen v w goes)) (counted-kept v x stays.still.heap stays.made counted)
          (ap (λ (o : Option ℕ). has_turn o (Some turn)) (ran-section v x (waits 0).ran) ∙ t) is;
      cached = looks-cache w x looks kept cached;
      polled = polled-read v w x ran later spares (looks-spares w x looks) poll;
    }

-- after a wait
pub ready-after : (turn : ℕ) (kept : Option Cache) (u v w : View) → Stays u v → DoesNothing u v → GetsReady turn kept v w → GetsReady turn kept u w
ready-after turn kept u v w stays waits k =
    record {
      mutates = k.mutates;
      acts = λ season. acts-join season 0 0 1 0 1 0 u v w (waits season) (k.acts season) (omega arith) (omega arith);
      stays = stays-join u v w stays k.stays;
      turn_is = k.turn_is;
      cached = k.cached;
      polled = polled-join u v w (waits 0).ran (k.acts 0).ran k.polled;
    }

-- what made it ready was a wait too
pub ready-waits : (turn : ℕ) (kept : Option Cache) (v w : View) → GetsReady turn kept v w → DoesNothing v w
ready-waits turn kept v w k = λ season. let a = k.acts season in record { ran = a.ran; polled = omega arith; stopped = a.stopped; stored = a.stored; uncounted = a.uncounted; seasons = a.seasons; paced = a.paced }
