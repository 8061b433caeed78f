-- What safe points took that found neither a stop nor a full heap.
use Rattle.std.proofs.Common.{ℕ, ◌≡◌, List, [], ◌∷◌, ◌++◌, refl, sym, ap, ◌∙◌, subst, Bool, true, false, Option, None, Some, is_some, ⊎_elim}
use Rattle.std.specs.Prelude.{◌⊎◌}
use Rattle.std.proofs.lemmas.Bool.{not-true, or_left, true≢false}
use Rattle.std.proofs.lemmas.Option.{none-some, same_Some}
use Rattle.mark_core.specs.declared.kinds.Phase.TheVariants.{Full}
use Rattle.mark_core.specs.declared.kinds.Step.TheVariants.{Observe, ReadPhase, ReadSeason}
use Rattle.gc_table.specs.Log.{event, events, steps_of}
use Rattle.gc_table.specs.Running.{Ran, after_all}
use Rattle.gc_table.specs.Seats.{Found}
use Rattle.gc_table.specs.declared.view.Entry.{Entry}
use Rattle.gc_table.specs.declared.view.View.{View}
use Rattle.gc_table.proofs.History.Log.{events-after, events-none}
use Rattle.gc_table.proofs.Running.{ran-events, ran-join}
use Rattle.packet_pools.specs.Seeking.{some_event}
use Rattle.packet_pools.proofs.Searches.{some-left, some-right}
use Rattle.alloc_cache.specs.declared.cache.Cache.{Cache}
use Rattle.gc_cycle.specs.Answering.{LooksOnce, PassesSafely}
use Rattle.gc_cycle.specs.Events.{never}
use Rattle.gc_cycle.specs.Polling.{poll_found_stop}
use Rattle.gc_cycle.specs.Sorts.{polls, reads_phase, sees_flag}
use Rattle.seat_turns.specs.Coming.{hinders, passing}
use Rattle.seat_turns.specs.SeasonLooks.{LooksAtSeason, SeesOther}
use Rattle.seat_turns.proofs.Coming.{first_some}

-- it looked at the world and at the phase, which leave the season as it was seen
looked-once : (handed kept : Option Cache) (done : ℕ) (a x y z : View) → Ran a x → Ran x y → Ran y z → PassesSafely handed kept done x y → never hinders (events a z) ≡ true → LooksOnce (events x y)
looked-once handed kept done a x y z r s t p n = p.looks (by (poll_found_stop (events x y)) refl)
  where
    by : (b : Bool) → poll_found_stop (events x y) ≡ b → b ≡ false
    by false e = refl
    by true e =
        let here : some_event hinders (events x y) ≡ true = first_some polls sees_flag hinders (λ step k h. or_left (sees_flag step k) (reads_phase Full step k) h) (events x y) e in
        let later : some_event hinders (events x z) ≡ true = ap (some_event hinders) (ran-events x y z s t) ∙ some-left hinders (events x y) (events y z) here in
        absurd (true≢false (sym (ap (some_event hinders) (ran-events a x z r (ran-join x y z s t)) ∙ some-right hinders (events a x) (events x z) later) ∙ not-true _ n))

season-kept : (x y : View) → Ran x y → LooksOnce (events x y) → y.state.season_seen ≡ x.state.season_seen
season-kept x y r l = ap (λ (v : View). v.state.season_seen) r.steps ∙ ap (λ (es : List Entry). (after_all es x).state.season_seen) l.2

-- the first of them came to the seat's turn
first-looks : (turn : ℕ) (x y z : View) → Ran x y → Ran y z → LooksOnce (events x y) → LooksAtSeason y z → (is_some y.state.season_seen ≡ true → z ≡ y) → z.state.season_seen ≡ Some turn → steps_of (events x z) ≡ passing x.state.season_seen
first-looks turn x y z r t l looks known is = by x.state.season_seen refl
  where
    all : (es : List Entry) → events y z ≡ es → events x z ≡ event Observe l.0 ∷ event ReadPhase l.1 ∷ es
    all es e = ran-events x y z r t ∙ (ap (λ zs. zs ++ events y z) l.2 ∙ ap (λ zs. event Observe l.0 ∷ event ReadPhase l.1 ∷ zs) e)

    seen : y.state.season_seen ≡ x.state.season_seen
    seen = season-kept x y r l

    by : (o : Option ℕ) → x.state.season_seen ≡ o → steps_of (events x z) ≡ passing o
    by (Some season) e = ap steps_of (all [] (subst (λ (v : View). events y v ≡ []) (sym (known (ap (λ o. is_some o) (seen ∙ e)))) (events-none y)))
    by None e =
        ⊎_elim
        (λ (same : z ≡ y). absurd (none-some turn (sym (seen ∙ e) ∙ (sym (ap (λ (v : View). v.state.season_seen) same) ∙ is))))
        (λ (read : (n : ℕ) × Found ReadSeason n y z). ap steps_of (all (event ReadSeason read.0 ∷ []) (events-after y z ReadSeason read.0 read.1.0)))
        looks

-- a seat at another turn than its own looks on until a stop comes, so that without one there was but one safe point
pub turn-looks : (handed kept : Option Cache) (done turn : ℕ) (a x y z : View) → Ran a x → Ran x y → Ran y z → (x ≡ a) ⊎ SeesOther turn x → PassesSafely handed kept done x y → LooksAtSeason y z → (is_some y.state.season_seen ≡ true → z ≡ y) → z.state.season_seen ≡ Some turn → never hinders (events a z) ≡ true → steps_of (events a z) ≡ passing a.state.season_seen
turn-looks handed kept done turn a x y z r s t since p looks known is n =
    let l = looked-once handed kept done a x y z r s t p n in
    ⊎_elim
    (λ (first : x ≡ a). subst (λ (v : View). steps_of (events v z) ≡ passing v.state.season_seen) first (first-looks turn x y z s t l looks known is))
    (λ (other : SeesOther turn x).
    let seen = season-kept x y s l ∙ other.1 in
    absurd (other.2 (same_Some other.0 turn (sym seen ∙ (sym (ap (λ (v : View). v.state.season_seen) (known (ap (λ o. is_some o) seen))) ∙ is)))))
    since
