-- A mutator goes out of the world and in again, joins the helpers and leaves them, and looks whether a stop is under way.
use Rattle.std.proofs.Common.{ℕ, ◌≡◌, List, [], ◌∷◌, ◌++◌, refl, sym, ap, ◌∙◌, subst, Bool, true, false, not, ◌&&◌, Some, None, Option, is_some, ⊎_elim, ◌⊎◌, eqb-true}
use Rattle.std.specs.Prelude.{◌==◌, if◌then◌else◌, is_none}
use Rattle.std.proofs.lemmas.Bool.{and_from, and_parts, false≢true, not-true, or_left, or_right}
use Rattle.mark_core.specs.Bits.{has_flag}
use Rattle.mark_core.specs.Seats.{empty_handed, is_bare, work_in_hand}
use Rattle.mark_core.specs.Views.{standing_of}
use Rattle.mark_core.specs.Rules.WorldRules.{HelpsOnly}
use Rattle.mark_core.specs.Steps.WorldSteps.{has_nothing}
use Rattle.mark_core.specs.declared.kinds.Shape.{Shape}
use Rattle.mark_core.specs.declared.kinds.Step.{Step}
use Rattle.mark_core.specs.declared.kinds.Step.TheVariants.{EnterStep, JoinHelpStep, LeaveHelpStep, LeaveStep, Observe, ReadPhase, StorePosition}
use Rattle.mark_core.specs.declared.seat.SeatState.{SeatState}
use Rattle.gc_table.specs.Seats.{Stored, Took}
use Rattle.gc_table.specs.Taking.{after, May}
use Rattle.gc_table.specs.declared.view.Entry.{Entry}
use Rattle.gc_table.specs.declared.view.View.{View}
use Rattle.packet_pools.specs.Seeking.{some_event}
use Rattle.packet_pools.proofs.Searches.{some-left, some-right}
use Rattle.gc_table.specs.Log.{all_steps, event, events, Only}
use Rattle.gc_table.specs.Running.{changes_section, Ran}
use Rattle.gc_table.proofs.History.Log.{only-after}
use Rattle.gc_table.proofs.Running.{own-kept, ran-join, ran-only, ran-shape, ran-stored, ran-took}
use Rattle.stop_world.proofs.Standing.{active-counted, strong, unless}
use Rattle.mark_core.proofs.Notes.NotesBeside.{Sits, sits}
use Rattle.std.proofs.lemmas.List.{get_or-map, length-map}
use Rattle.gc_table.specs.Rule.{Agrees, IsState}
use Rattle.gc_table.specs.TableState.{TableState}
use Rattle.stop_world.specs.Gates.{Declines, Enters, IsDone, IsFreeToLeave, Joins, TurnsBack}
use Rattle.gc_cycle.specs.Events.{last_is, Sort}
use Rattle.gc_cycle.specs.Mutating.{GoesOut, stays_calm}
use Rattle.gc_cycle.specs.Polling.{offered_help, poll_found_stop, saw_resumed}
use Rattle.gc_cycle.specs.Sorts.{joins, polls, sees_no_flag}
use Rattle.gc_cycle.specs.Standing.{IsOut, Mutates}
use Rattle.gc_cycle.proofs.Traced.{nothing-rest, rest-nothing}
use Rattle.gc_cycle.proofs.SectionKept.{goes-out}

-- the parts of being at rest

nothing-work : (sh : Shape) (s : SeatState) → has_nothing sh s ≡ true → (empty_handed s ≡ true) × (work_in_hand sh.fields s ≡ false) × (is_none s.owes ≡ true) × (is_none s.cache ≡ true) × (is_none s.block ≡ true) × ((s.got == 0) ≡ true) × ((s.lags == 0) ≡ true)
nothing-work sh s e =
    let p5 = and_parts _ ((s.got == 0) && (s.lags == 0)) e in
    let p4 = and_parts (empty_handed s && not (work_in_hand sh.fields s) && is_none s.owes && is_none s.cache) (is_none s.block) p5.0 in
    let p3 = and_parts (empty_handed s && not (work_in_hand sh.fields s) && is_none s.owes) (is_none s.cache) p4.0 in
    let p2 = and_parts (empty_handed s && not (work_in_hand sh.fields s)) (is_none s.owes) p3.0 in
    let p1 = and_parts (empty_handed s) (not (work_in_hand sh.fields s)) p2.0 in
    let p6 = and_parts (s.got == 0) (s.lags == 0) p5.1 in
    (p1.0, not-true _ p1.1, p2.1, p3.1, p4.1, p6.0, p6.1)

pub none-of : {X : Type 0} (o : Option X) → is_none o ≡ true → o ≡ None
none-of None e = refl
none-of (Some x) e = absurd (false≢true e)

pub no-cache : (sh : Shape) (s : SeatState) → has_nothing sh s ≡ true → s.cache ≡ None
no-cache sh s e = none-of s.cache (nothing-work sh s e).3

pub is-done : (v : View) → has_nothing v.shape v.state ≡ true → IsDone v
is-done v e = let p = nothing-work v.shape v.state e in record { handed = p.0; idle = p.1; block = none-of v.state.block p.4 }

pub mutator-nothing : (v : View) → Mutates v → v.state.cache ≡ None → has_nothing v.shape v.state ≡ true
mutator-nothing v m n = rest-nothing v.shape v.state m.rest (ap (λ o. is_none o) n)

pub free-to-leave : (v : View) → has_nothing v.shape v.state ≡ true → IsFreeToLeave v
free-to-leave v e =
    let p = nothing-work v.shape v.state e in
    record { handed = p.0; idle = p.1; owes = none-of v.state.owes p.2; cache = none-of v.state.cache p.3; got = eqb-true v.state.got 0 p.5; lags = eqb-true v.state.lags 0 p.6 }

-- leaving

pub may-position : (v : View) (done : ℕ) → is_some v.state.section ≡ true → v.state.active ≡ true → May (StorePosition done) v
may-position v done s a x i k g = (s, (or_left v.state.active v.state.knows a, tt))

pub bare-from : (a b d : Bool) → a ≡ false → b ≡ false → d ≡ false → (not a && not b && not d) ≡ true
bare-from a b d e f g = and_from _ _ (and_from _ _ (ap not e) (ap not f)) (ap not g)

-- a mutator that has stored its position and left is out
pub left-out : (u v w : View) (done : ℕ) → Mutates u → u.state.cache ≡ None → Stored (StorePosition done) u v → Took LeaveStep v w → IsOut w × GoesOut u w × (w.own.position ≡ done)
left-out u v w done m none s t =
    let first : Ran u v = ran-stored u v (StorePosition done) refl s in
    let second : Ran v w = ran-took v w LeaveStep refl t in
    let state : v.state ≡ u.state = ap (λ (x : View). x.state) s in
    let shape : v.shape ≡ u.shape = ap (λ (x : View). x.shape) s in
    let nothing : has_nothing v.shape v.state ≡ true = ap (λ (x : View). has_nothing x.shape x.state) s ∙ mutator-nothing u m none in
    let f = t.1.1 in
    let active : v.state.active ≡ true = ap (λ (x : SeatState). x.active) state ∙ m.active in
    let counted = active-counted f.state f.index v f.whole f.agrees active in
    let rules = strong f.state f.index v f.whole f.agrees in
    let unraised : v.state.raised ≡ false = unless v.state.raised (not v.state.counted) (λ e. ap not (rules.raised_not_counted e)) (ap not counted) in
    let unhelping : v.state.helping ≡ false = ap (λ (x : SeatState). x.helping) state ∙ m.unhelping in
    let out : IsOut w =
    subst IsOut (sym t.1.0) (record { bare = bare-from false v.state.raised v.state.helping refl unraised unhelping; rest = nothing }) in
    let goes : GoesOut u w =
    goes-out u w (ran-join u v w first second)
    (ran-only stays_calm u v w first second (only-after stays_calm u v (StorePosition done) done refl s) (only-after stays_calm v w LeaveStep t.0 refl t.1.0)) in
    (out, goes, ap (λ (x : View). x.own.position) t.1.0 ∙ ap (λ (x : View). x.own.position) s)

-- entering, and turning back

pub bare-parts : (s : SeatState) → is_bare s ≡ true → (s.counted ≡ false) × (s.raised ≡ false) × (s.helping ≡ false)
bare-parts s e =
    let a = and_parts (not s.counted && not s.raised) (not s.helping) e in
    let b = and_parts (not s.counted) (not s.raised) a.0 in
    (not-true _ b.0, not-true _ b.1, not-true _ a.1)

pub by-events : (P : Step → Bool) (v w : View) (es : List Entry) → events v w ≡ es → all_steps P es ≡ true → Only P v w
by-events P v w es e h = ap (all_steps P) e ∙ h

-- a step at a gate
abbrev pub at_gate : Step → Bool
at_gate EnterStep = true
at_gate LeaveStep = true
at_gate JoinHelpStep = true
at_gate LeaveHelpStep = true
at_gate ReadPhase = true
at_gate Observe = true
at_gate step = false

gate-own : (v w : View) (es : List Entry) → Ran v w → events v w ≡ es → all_steps at_gate es ≡ true → w.own ≡ v.own
gate-own v w es r e h = own-kept at_gate section v w r (by-events at_gate v w es e h)
  where
    section : (step : Step) → at_gate step ≡ true → changes_section step ≡ false
    section EnterStep p = refl
    section LeaveStep p = refl
    section JoinHelpStep p = refl
    section LeaveHelpStep p = refl
    section ReadPhase p = refl
    section Observe p = refl
    section step p = absurd (false≢true p)

pub enters-in : (v w : View) → IsOut v → is_some v.state.section ≡ true → Ran v w → Enters v w → Mutates w × GoesOut v w × (w.own ≡ v.own) × (w.state.cache ≡ None)
enters-in v w o s r e =
    let shape = ran-shape v w r in
    let nothing : has_nothing w.shape w.state ≡ true = ap (λ (sh : Shape). has_nothing sh w.state) shape ∙ (ap (λ (x : SeatState). has_nothing v.shape x) e.state ∙ o.rest) in (
      record {
        active = ap (λ (x : SeatState). x.active) e.state;
        unhelping = ap (λ (x : SeatState). x.helping) e.state ∙ (bare-parts v.state o.bare).2;
        section = ap (λ (x : SeatState). is_some x.section) e.state ∙ s;
        rest = nothing-rest w.shape w.state nothing;
      },
      goes-out v w r (by-events stays_calm v w _ e.events refl),
      gate-own v w _ r e.events refl,
      no-cache w.shape w.state nothing,
    )

pub turns-out : (v w : View) → IsOut v → Ran v w → TurnsBack v w → IsOut w × GoesOut v w × (w.own ≡ v.own)
turns-out v w o r e =
    let shape = ran-shape v w r in (
      record { bare = ap (λ (x : SeatState). is_bare x) e.state ∙ o.bare; rest = ap (λ (sh : Shape). has_nothing sh w.state) shape ∙ (ap (λ (x : SeatState). has_nothing v.shape x) e.state ∙ o.rest) },
      goes-out v w r (by-events stays_calm v w _ e.events refl),
      gate-own v w _ r e.events refl,
    )

-- joining the helpers

pub declines-out : (v w : View) → IsOut v → Ran v w → Declines v w → IsOut w × GoesOut v w × (w.own ≡ v.own) × (some_event joins (events v w) ≡ true)
declines-out v w o r e =
    let shape = ran-shape v w r in (
      record { bare = ap (λ (x : SeatState). is_bare x) e.state ∙ o.bare; rest = ap (λ (sh : Shape). has_nothing sh w.state) shape ∙ (ap (λ (x : SeatState). has_nothing v.shape x) e.state ∙ o.rest) },
      goes-out v w r (by-events stays_calm v w _ e.events refl),
      gate-own v w _ r e.events refl,
      ap (some_event joins) e.events,
    )

pub joins-out : (v w : View) → Ran v w → Joins v w → GoesOut v w × (w.own ≡ v.own) × (some_event joins (events v w) ≡ true)
joins-out v w r e = (goes-out v w r (by-events stays_calm v w _ e.events refl), gate-own v w _ r e.events refl, ap (some_event joins) e.events)

-- a helper leaves
pub leaves-help : (v w : View) → v.state.admitted ≡ true → has_nothing v.shape v.state ≡ true → Took LeaveHelpStep v w → IsOut w × GoesOut v w × (w.own ≡ v.own)
leaves-help v w a n t =
    let f = t.1.1 in
    let outside : HelpsOnly (standing_of v.state) = helper f.state f.index v f.whole f.agrees in
    let only = outside a in (
      subst IsOut (sym t.1.0) (record { bare = bare-from v.state.counted v.state.raised false only.1 only.2 refl; rest = n }),
      goes-out v w (ran-took v w LeaveHelpStep refl t) (only-after stays_calm v w LeaveHelpStep t.0 refl t.1.0),
      ap (λ (x : View). x.own) t.1.0,
    )
  where
    helper : (x : TableState) (i : ℕ) (u : View) → IsState x → Agrees x i u → HelpsOnly (standing_of u.state)
    helper x i u k g =
        let s : Sits x.core i u.state = sits x.core i u.state g.seat in
        subst HelpsOnly (get_or-map standing_of x.core.seats i u.state (standing_of u.state) s.within ∙ ap standing_of s.is)
        (k.core.sound.world.admitted_helps i (standing_of u.state) (rw length-map s.within))

-- polling

pub polled-out : (v w : View) (n : ℕ) → Ran v w → w ≡ after Observe n v → GoesOut v w × (w.own ≡ v.own)
polled-out v w n r e = (goes-out v w r (only-after stays_calm v w Observe n refl e), ap (λ (x : View). x.own) e)

last-here : (f g : Sort) (xs : List Entry) (e : Entry) → f e.step e.found ≡ true → last_is f g (xs ++ e ∷ []) ≡ g e.step e.found
last-here f g [] e h = ap (λ (b : Bool). b && g e.step e.found) h
last-here f g (x ∷ xs) e h = ap (λ (b : Bool). if b then last_is f g (xs ++ e ∷ []) else f x.step x.found && g x.step x.found) (some-right f xs (e ∷ []) (or_left (f e.step e.found) false h)) ∙ last-here f g xs e h

-- either no poll was made yet, or help was offered
abbrev pub Offered : List Entry → Type 0
Offered es = (es ≡ []) ⊎ (some_event joins es ≡ true)

pub resumed-last : (v w : View) (es : List Entry) (n : ℕ) → events v w ≡ es ++ event Observe n ∷ [] → has_flag n ≡ false → saw_resumed (events v w) ≡ true
resumed-last v w es n e f = ap saw_resumed e ∙ (last-here polls sees_no_flag es (event Observe n) refl ∙ ap not f)

pub offered-last : (v w : View) (es : List Entry) (n : ℕ) → events v w ≡ es ++ event Observe n ∷ [] → has_flag n ≡ false → Offered es → offered_help (events v w) ≡ true
offered-last v w es n e f o =
    ap offered_help e
    ∙ ⊎_elim
    (λ (none : es ≡ []). ap (λ xs. offered_help (xs ++ event Observe n ∷ [])) none ∙ or_left (not (has_flag n)) false (ap not f))
    (λ (some : some_event joins es ≡ true). or_right (not (poll_found_stop (es ++ event Observe n ∷ []))) _ (some-left joins es (event Observe n ∷ []) some))
    o
