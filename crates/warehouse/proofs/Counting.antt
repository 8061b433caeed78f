-- Which steps count no part that was played, and move no season on.
use Rattle.std.proofs.Common.{ℕ, ◌≡◌, ◌==◌, List, refl, Bool, true, false, not, ◌+◌, ◌≤◌, ◌&&◌, ◌||◌, [], ◌∷◌, ◌++◌, ap, ◌∙◌, if◌then◌else◌, arith, sym, Some, Option, eq-eqb}
use Rattle.std.proofs.lemmas.Bool.{and_left, false≢true, not-true, and_parts, or_left, or_right, and_from}
use Rattle.mark_core.specs.declared.kinds.Step.{Step}
use Rattle.mark_core.specs.declared.kinds.Step.TheVariants.{AddStat, NextSeason, StoreField, StoreValue, StoreRoot, StoreNew, StorePhase, ExchangeField, ExchangeValue, StoreSlot, HoldRoot}
use Rattle.gc_table.specs.Log.{Only, all_steps, events}
use Rattle.gc_table.specs.Running.{Ran, after_all}
use Rattle.gc_table.specs.Taking.{after}
use Rattle.gc_table.specs.declared.view.Entry.{Entry}
use Rattle.gc_table.specs.declared.view.View.{View}
use Rattle.gc_table.proofs.Running.{run-keeps, ran-events}
use Rattle.gc_cycle.specs.Events.{never, Sort, last_is}
use Rattle.warehouse.specs.Playing.{counts_part}
use Rattle.mark_core.specs.Numbers.{done_count}
use Rattle.gc_cycle.specs.Sparing.{fills_part, spares_part}
use Rattle.gc_cycle.proofs.Sequences.{none-of-steps as none-of}
use Rattle.warehouse.proofs.TurnChanges.{is_of_command, season-step}
use Rattle.packet_pools.specs.Counts.{count_of}
use Rattle.packet_pools.specs.Seeking.{some_event}
use Rattle.packet_pools.proofs.Searches.{some-right}
use Rattle.mark_core.specs.Seats.{is_the}
use Rattle.warehouse.specs.Storing.{stores_in, writes}

-- In which season a call stored what it stored.
-- the step stores or exchanges no object, no variable and no new cell
abbrev pub stores_none : Step → Bool
stores_none (StoreField v i w) = false
stores_none (StoreValue v n) = false
stores_none (StoreRoot v r) = false
stores_none (HoldRoot v r) = false
stores_none (ExchangeField v i x y) = false
stores_none (ExchangeValue v m n) = false
stores_none (StoreSlot k r) = false
stores_none (StoreNew c part word) = false
stores_none step = true

pub writes-none : (step : Step) (n : ℕ) → stores_none step ≡ true → writes step n ≡ false
writes-none (StoreField v i w) n b = absurd (false≢true b)
writes-none (StoreValue v m) n b = absurd (false≢true b)
writes-none (StoreRoot v r) n b = absurd (false≢true b)
writes-none (HoldRoot v r) n b = absurd (false≢true b)
writes-none (ExchangeField v i x y) n b = absurd (false≢true b)
writes-none (ExchangeValue v m k) n b = absurd (false≢true b)
writes-none (StoreSlot k r) n b = absurd (false≢true b)
writes-none (StoreNew c part word) n b = absurd (false≢true b)
writes-none step n b = refl

stored_both : (season : ℕ) (xs ys : List Entry) (v : View) → stores_in season v xs ≡ true → stores_in season (after_all xs v) ys ≡ true → stores_in season v (xs ++ ys) ≡ true
stored_both season [] ys v a b = b
stored_both season (e ∷ es) ys v a b =
    let here : Bool = not (writes e.step e.found) || is_the v.state.season_seen season in
    let p = and_parts here (stores_in season (after e.step e.found v) es) a in
    and_from here (stores_in season (after e.step e.found v) (es ++ ys)) p.0 (stored_both season es ys (after e.step e.found v) p.1 b)

pub stored-join : (season : ℕ) (u v w : View) → Ran u v → Ran v w → stores_in season u (events u v) ≡ true → stores_in season v (events v w) ≡ true → stores_in season u (events u w) ≡ true
stored-join season u v w r s a b =
    ap (stores_in season u) (ran-events u v w r s) ∙ stored_both season (events u v) (events v w) u a (ap (λ (x : View). stores_in season x (events v w)) (sym r.steps) ∙ b)

pub stored-none : (season : ℕ) (es : List Entry) (v : View) → all_steps stores_none es ≡ true → stores_in season v es ≡ true
stored-none season [] v b = refl
stored-none season (e ∷ es) v b =
    let p = and_parts (stores_none e.step) (all_steps stores_none es) b in
    ap (λ r. (not r || is_the v.state.season_seen season) && stores_in season (after e.step e.found v) es) (writes-none e.step e.found p.0) ∙ stored-none season es (after e.step e.found v) p.1

-- a command leaves the season that its seat has read
pub stored-turn : (season : ℕ) (es : List Entry) (v : View) → all_steps is_of_command es ≡ true → v.state.season_seen ≡ Some season → stores_in season v es ≡ true
stored-turn season [] v b s = refl
stored-turn season (e ∷ es) v b s =
    let p = and_parts (is_of_command e.step) (all_steps is_of_command es) b in
    let next : View = after e.step e.found v in
    and_from (not (writes e.step e.found) || is_the v.state.season_seen season) (stores_in season next es)
    (or_right (not (writes e.step e.found)) (is_the v.state.season_seen season) (ap (λ (o : Option ℕ). is_the o season) s ∙ same season))
    (stored-turn season es next p.1 (season-step v e.step e.found p.0 ∙ s))
  where
    same : (m : ℕ) → (m == m) ≡ true
    same m = eq-eqb m m refl

pub never-of : (P : Step → Bool) (f : Sort) → ((step : Step) (n : ℕ) → P step ≡ true → f step n ≡ false) → (es : List Entry) → all_steps P es ≡ true → never f es ≡ true
never-of P f h es b = ap not (none-of P f h es b)

pub some-count : (f : Sort) (es : List Entry) → some_event f es ≡ true → 1 ≤ count_of f es
some-count f [] a = absurd (false≢true a)
some-count f (e ∷ es) a = by (f e.step e.found) (some_event f es) (count_of f es) (some-count f es) a
  where
    by : (b c : Bool) (m : ℕ) → (c ≡ true → 1 ≤ m) → (b || c) ≡ true → 1 ≤ (if b then 1 else 0) + m
    by true c m later h = omega arith
    by false c m later h = let r : 1 ≤ m = later h in omega (arith, r)

-- the last event of a sort is among the later ones, if there is one
pub last-right : (f g : Sort) (xs ys : List Entry) → some_event f ys ≡ true → last_is f g (xs ++ ys) ≡ last_is f g ys
last-right f g [] ys h = refl
last-right f g (x ∷ xs) ys h =
    ap (λ b. if b then last_is f g (xs ++ ys) else f x.step x.found && g x.step x.found) (some-right f xs ys h) ∙ last-right f g xs ys h

pub last-some : (f g : Sort) (ys : List Entry) → last_is f g ys ≡ true → some_event f ys ≡ true
last-some f g [] h = absurd (false≢true h)
last-some f g (y ∷ ys) h = by (some_event f ys) h
  where
    by : (b : Bool) → (if b then last_is f g ys else f y.step y.found && g y.step y.found) ≡ true → (f y.step y.found || b) ≡ true
    by true k = or_right (f y.step y.found) true refl
    by false k = or_left (f y.step y.found) false (and_parts (f y.step y.found) (g y.step y.found) k).0

fills_none : (step : Step) (n : ℕ) → fills_part step ≡ true → counts_part step n ≡ false
fills_none (AddStat which by down) n b = and_left (which == done_count) (not down) (not-true (which == done_count) b)
fills_none step n b = refl

pub fills-uncounted : (es : List Entry) → all_steps fills_part es ≡ true → never counts_part es ≡ true
fills-uncounted es b = never-of fills_part counts_part fills_none es b

-- what only fills the heap stores nothing
pub fills-stores : (step : Step) → fills_part step ≡ true → stores_none step ≡ true
fills-stores (StoreField v i w) b = absurd (false≢true b)
fills-stores (StoreValue v n) b = absurd (false≢true b)
fills-stores (StoreRoot v r) b = absurd (false≢true b)
fills-stores (HoldRoot v r) b = absurd (false≢true b)
fills-stores (ExchangeField v i x y) b = absurd (false≢true b)
fills-stores (ExchangeValue v m n) b = absurd (false≢true b)
fills-stores (StoreSlot k r) b = absurd (false≢true b)
fills-stores (StoreNew c part word) b = absurd (false≢true b)
fills-stores step b = refl

pub spares-fills : (step : Step) → spares_part step ≡ true → fills_part step ≡ true
spares-fills (StorePhase to) b = refl
spares-fills step b = b

command_none : (step : Step) (n : ℕ) → is_of_command step ≡ true → counts_part step n ≡ false
command_none (AddStat which by down) n b = absurd (false≢true b)
command_none step n b = refl

pub command-uncounted : (es : List Entry) → all_steps is_of_command es ≡ true → never counts_part es ≡ true
command-uncounted es b = never-of is_of_command counts_part command_none es b

-- a step that doesn't move the season on
abbrev pub stays_in_season : Step → Bool
stays_in_season NextSeason = false
stays_in_season step = true

season_same : (u x : View) (step : Step) (n : ℕ) → stays_in_season step ≡ true → x.own.seasons ≡ u.own.seasons → (after step n x).own.seasons ≡ u.own.seasons
season_same u x NextSeason n b q = absurd (false≢true b)
season_same u x step n b q = q

seasons_kept : (P : Step → Bool) → ((step : Step) → P step ≡ true → stays_in_season step ≡ true) → (v w : View) → Ran v w → Only P v w → w.own.seasons ≡ v.own.seasons
seasons_kept P h v w ran only = run-keeps P (λ (x : View). x.own.seasons ≡ v.own.seasons) (λ x step n b s q. season_same v x step n (h step b) q) v w ran only refl

fills_stay : (step : Step) → fills_part step ≡ true → stays_in_season step ≡ true
fills_stay NextSeason b = absurd (false≢true b)
fills_stay step b = refl

pub fills-seasons : (v w : View) → Ran v w → Only fills_part v w → w.own.seasons ≡ v.own.seasons
fills-seasons v w ran only = seasons_kept fills_part fills_stay v w ran only

spares_stay : (step : Step) → spares_part step ≡ true → stays_in_season step ≡ true
spares_stay step b = fills_stay step (spares-fills step b)

pub spares-seasons : (v w : View) → Ran v w → Only spares_part v w → w.own.seasons ≡ v.own.seasons
spares-seasons v w ran only = seasons_kept spares_part spares_stay v w ran only

command_stays : (step : Step) → is_of_command step ≡ true → stays_in_season step ≡ true
command_stays NextSeason b = absurd (false≢true b)
command_stays step b = refl

pub command-seasons : (v w : View) → Ran v w → Only is_of_command v w → w.own.seasons ≡ v.own.seasons
command-seasons v w ran only = seasons_kept is_of_command command_stays v w ran only
