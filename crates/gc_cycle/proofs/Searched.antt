-- A search in vain within one call, seen from a call that made it: among more events, and with more packets with deferred cells.
use Rattle.std.proofs.Common.{ℕ, ◌≡◌, List, [], ◌∷◌, ◌++◌, refl, sym, ap, ◌∙◌, subst, cond, Bool, true, false, not, Some, None, ⊎_elim, eqb, eqb-true, eq-eqb}
use Rattle.std.specs.Prelude.{◌&&◌, ◌==◌, if◌then◌else◌}
use Rattle.std.specs.List.{list_all, list_any}
use Rattle.std.proofs.lemmas.Bool.{and_from, and_parts, cases_Bool, false≢true, or_cases, or_left, or_right, true≢false}
use Rattle.mark_core.specs.Effects.{seat_after}
use Rattle.mark_core.specs.Held.{Slot, Slots}
use Rattle.mark_core.specs.Seats.{work_in_hand}
use Rattle.mark_core.specs.declared.kinds.Shape.{Shape}
use Rattle.mark_core.specs.declared.kinds.Step.{Step}
use Rattle.mark_core.specs.declared.kinds.Step.TheVariants.{Give, Push}
use Rattle.mark_core.specs.declared.seat.SeatState.{SeatState}
use Rattle.gc_table.specs.declared.view.Entry.{Entry}
use Rattle.packet_pools.specs.Seeking.{input_pools, moves_packet, no_input, no_output, output_pools}
use Rattle.packet_pools.proofs.Searches.{no-input-left, no-output-left}
use Rattle.tracer.specs.Deferral.{defers}
use Rattle.tracer.specs.Moments.{after_moment, at_some_moment, deferring_after, finds_no_work, front, is_spent_slot, Moment, nothing_left, without}
use Rattle.gc_cycle.specs.Moments.{finds_no_room, holds_one}

-- the prefix of more events begins with that of the first
pub front-more : (P : Step → Bool) (xs ys : List Entry) → (zs : List Entry) × (front P (xs ++ ys) ≡ front P xs ++ zs)
front-more P [] ys = (front P ys, refl)
front-more P (x ∷ xs) ys = by_test (P x.step) (front-more P xs ys)
  where
    by_test : (b : Bool) → (zs : List Entry) × (front P (xs ++ ys) ≡ front P xs ++ zs) → (zs : List Entry) × ((if b then x ∷ front P (xs ++ ys) else []) ≡ (if b then x ∷ front P xs else []) ++ zs)
    by_test true r = (r.0, ap (λ l. x ∷ l) r.1)
    by_test false r = ([], refl)

-- each packet of the one list is in the other
abbrev pub AreAmong : List ℕ → List ℕ → Type 0
AreAmong ps qs = (p : ℕ) → list_any (λ x. x == p) ps ≡ true → list_any (λ x. x == p) qs ≡ true

spent-slot : (ps qs : List ℕ) → AreAmong ps qs → (h : Slot) → is_spent_slot ps h ≡ true → is_spent_slot qs h ≡ true
spent-slot ps qs a None e = refl
spent-slot ps qs a (Some (p, None, b)) e = a p e
spent-slot ps qs a (Some (p, Some n, b)) e =
    ⊎_elim (λ (z : (n == 0) ≡ true). or_left _ _ z) (λ (z : list_any (λ x. x == p) ps ≡ true). or_right _ _ (a p z)) (or_cases (n == 0) _ e)

spent-slots : (ps qs : List ℕ) → AreAmong ps qs → (hs : Slots) → list_all (is_spent_slot ps) hs ≡ true → list_all (is_spent_slot qs) hs ≡ true
spent-slots ps qs a [] e = refl
spent-slots ps qs a (h ∷ hs) e = let q = and_parts (is_spent_slot ps h) (list_all (is_spent_slot ps) hs) e in and_from _ _ (spent-slot ps qs a h q.0) (spent-slots ps qs a hs q.1)

-- a test that stays so among more events, and with more packets with deferred cells
pub record Widens (test : Moment → List Entry → Bool) : Type 0 where
  pub wider : (n m : Moment) (es : List Entry) → n.state ≡ m.state → AreAmong n.deferring m.deferring → test n es ≡ true → test m es ≡ true

left-wider : (sh : Shape) (n m : Moment) → n.state ≡ m.state → AreAmong n.deferring m.deferring → nothing_left sh n ≡ true → nothing_left sh m ≡ true
left-wider sh n m e a h =
    let q = and_parts (not (work_in_hand sh.fields n.state)) (list_all (is_spent_slot n.deferring) n.state.held) h in
    and_from _ _ (subst (λ (s : SeatState). not (work_in_hand sh.fields s) ≡ true) e q.0) (spent-slots n.deferring m.deferring a m.state.held (subst (λ (s : SeatState). list_all (is_spent_slot n.deferring) s.held ≡ true) e q.1))

pub work-widens : (sh : Shape) → Widens (finds_no_work sh)
work-widens sh = record { wider = λ n m es e a h. let q = and_parts (nothing_left sh n) (no_input sh (front (moves_packet input_pools) es)) h in and_from _ _ (left-wider sh n m e a q.0) q.1 }

pub room-widens : (sh : Shape) → Widens (finds_no_room sh)
room-widens sh = record { wider = λ n m es e a h. subst (λ (s : SeatState). (holds_one s.held && no_output sh (front (moves_packet output_pools) es)) ≡ true) e h }

pub both-widen : (quiet : List Entry → Bool) (test : Moment → List Entry → Bool) → Widens test → Widens (λ n es. quiet es && test n es)
both-widen quiet test w = record { wider = λ n m es e a h. let q = and_parts (quiet es) (test n es) h in and_from _ _ q.0 (w.wider n m es e a q.1) }

-- a packet leaves the list of those that wait, and no other does
without-parts : (q p : ℕ) (ps : List ℕ) → list_any (λ x. x == p) (without q ps) ≡ true → (list_any (λ x. x == p) ps ≡ true) × (eqb q p ≡ false)
without-parts q p [] e = absurd (false≢true e)
without-parts q p (x ∷ xs) e =
    ⊎_elim
    (λ (h : eqb x q ≡ true). let r = without-parts q p xs (sym (ap (λ b. list_any (λ y. y == p) (cond b (without q xs) (x ∷ without q xs))) h) ∙ e) in (or_right _ _ r.0, r.1))
    (λ (h : eqb x q ≡ false).
    ⊎_elim
    (λ (k : eqb x p ≡ true). (or_left _ _ k, apart k h))
    (λ (k : list_any (λ y. y == p) (without q xs) ≡ true). let r = without-parts q p xs k in (or_right _ _ r.0, r.1))
    (or_cases (eqb x p) _ (sym (ap (λ b. list_any (λ y. y == p) (cond b (without q xs) (x ∷ without q xs))) h) ∙ e)))
    (cases_Bool (eqb x q))
  where
    apart : eqb x p ≡ true → eqb x q ≡ false → eqb q p ≡ false
    apart k h =
        ⊎_elim
        (λ (z : eqb q p ≡ true). absurd (true≢false (sym (eq-eqb x q (eqb-true x p k ∙ sym (eqb-true q p z))) ∙ h)))
        (λ (z : eqb q p ≡ false). z)
        (cases_Bool (eqb q p))

without-has : (q p : ℕ) (ps : List ℕ) → list_any (λ x. x == p) ps ≡ true → eqb q p ≡ false → list_any (λ x. x == p) (without q ps) ≡ true
without-has q p [] e n = absurd (false≢true e)
without-has q p (x ∷ xs) e n =
    ⊎_elim
    (λ (h : eqb x q ≡ true).
    ap (λ b. list_any (λ y. y == p) (cond b (without q xs) (x ∷ without q xs))) h
    ∙ ⊎_elim
    (λ (k : eqb x p ≡ true). absurd (true≢false (sym (eq-eqb q p (sym (eqb-true x q h) ∙ eqb-true x p k)) ∙ n)))
    (λ (k : list_any (λ y. y == p) xs ≡ true). without-has q p xs k n)
    (or_cases (eqb x p) _ e))
    (λ (h : eqb x q ≡ false).
    ap (λ b. list_any (λ y. y == p) (cond b (without q xs) (x ∷ without q xs))) h
    ∙ ⊎_elim
    (λ (k : eqb x p ≡ true). or_left _ _ k)
    (λ (k : list_any (λ y. y == p) xs ≡ true). or_right _ _ (without-has q p xs k n))
    (or_cases (eqb x p) _ e))
    (cases_Bool (eqb x q))

among-step : (s : SeatState) (step : Step) (ps qs : List ℕ) → AreAmong ps qs → AreAmong (deferring_after s step ps) (deferring_after s step qs)
among-step s (Push p c) ps qs a r e = either (defers s (Push p c)) e
  where
    either : (b : Bool) → list_any (λ x. x == r) (if b then p ∷ ps else ps) ≡ true → list_any (λ x. x == r) (if b then p ∷ qs else qs) ≡ true
    either true h = ⊎_elim (λ (z : (p == r) ≡ true). or_left _ _ z) (λ (z : list_any (λ x. x == r) ps ≡ true). or_right _ _ (a r z)) (or_cases (p == r) _ h)
    either false h = a r h
among-step s (Give p true) ps qs a r e = let q = without-parts p r ps e in without-has p r qs (a r q.0) q.1
among-step s (Give p false) ps qs a r e = a r e
among-step s step ps qs a r e = a r e

-- a later call's moment, as a moment of the whole
pub moment-wider : (sh : Shape) (test : Moment → List Entry → Bool) → Widens test → (es : List Entry) (n m : Moment) → n.state ≡ m.state → AreAmong n.deferring m.deferring → at_some_moment sh test n es ≡ true → at_some_moment sh test m es ≡ true
moment-wider sh test w [] n m e a h = w.wider n m [] e a h
moment-wider sh test w (x ∷ es) n m e a h =
    ⊎_elim
    (λ (k : test n (x ∷ es) ≡ true). or_left _ _ (w.wider n m (x ∷ es) e a k))
    (λ (k : at_some_moment sh test (after_moment sh n x) es ≡ true).
    or_right _ _
    (moment-wider sh test w es (after_moment sh n x) (after_moment sh m x) (ap (λ (s : SeatState). seat_after sh s x.step x.found) e)
    (subst (λ (s : SeatState). AreAmong (deferring_after n.state x.step n.deferring) (deferring_after s x.step m.deferring)) e (among-step n.state x.step n.deferring m.deferring a)) k))
    (or_cases (test n (x ∷ es)) _ h)

-- an earlier call's moment, with the events of a later one behind it
pub moment-longer : (sh : Shape) (test : Moment → List Entry → Bool) (ys : List Entry) → ((m : Moment) (xs : List Entry) → test m xs ≡ true → test m (xs ++ ys) ≡ true) → (xs : List Entry) (m : Moment) → at_some_moment sh test m xs ≡ true → at_some_moment sh test m (xs ++ ys) ≡ true
moment-longer sh test ys longer [] m h = first ys m (longer m [] h)
  where
    first : (zs : List Entry) (m : Moment) → test m zs ≡ true → at_some_moment sh test m zs ≡ true
    first [] m t = t
    first (z ∷ zs) m t = or_left _ _ t
moment-longer sh test ys longer (x ∷ xs) m h =
    ⊎_elim
    (λ (k : test m (x ∷ xs) ≡ true). or_left _ _ (longer m (x ∷ xs) k))
    (λ (k : at_some_moment sh test (after_moment sh m x) xs ≡ true). or_right _ _ (moment-longer sh test ys longer xs (after_moment sh m x) k))
    (or_cases (test m (x ∷ xs)) _ h)

pub work-longer : (sh : Shape) (ys : List Entry) (m : Moment) (xs : List Entry) → finds_no_work sh m xs ≡ true → finds_no_work sh m (xs ++ ys) ≡ true
work-longer sh ys m xs h =
    let q = and_parts (nothing_left sh m) (no_input sh (front (moves_packet input_pools) xs)) h in
    let f = front-more (moves_packet input_pools) xs ys in
    and_from _ _ q.0 (ap (no_input sh) f.1 ∙ no-input-left sh (front (moves_packet input_pools) xs) f.0 q.1)

pub room-longer : (sh : Shape) (ys : List Entry) (m : Moment) (xs : List Entry) → finds_no_room sh m xs ≡ true → finds_no_room sh m (xs ++ ys) ≡ true
room-longer sh ys m xs h =
    let q = and_parts (holds_one m.state.held) (no_output sh (front (moves_packet output_pools) xs)) h in
    let f = front-more (moves_packet output_pools) xs ys in
    and_from _ _ q.0 (ap (no_output sh) f.1 ∙ no-output-left sh (front (moves_packet output_pools) xs) f.0 q.1)
