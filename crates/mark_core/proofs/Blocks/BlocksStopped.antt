-- In which phase a step of tracing or of sweeping is allowed, and what seats don't have while the world is stopped.
use Rattle.std.proofs.Common.{ℕ, ◌≡◌, ◌<◌, List, get_or, length, refl, sym, ap, ◌∙◌, true, false, ◌&&◌, ◌||◌, eqb, Option, Some, None, ⊎_elim, set, subst, ◌≢◌, zero, suc, [], ◌∷◌, arith, Bool, ◌≤◌}
use Rattle.std.specs.Prelude.{IsTrue, IsFalse, IfSome, slice_get}
use Rattle.std.specs.List.{All, AllPairs, list_any, count_by}
use Rattle.std.proofs.lemmas.Bool.{and_parts, or_cases, eqb-true, true≢false, cases_eq, cases_order, cases_Bool, or_from}
use Rattle.std.proofs.lemmas.List.{length-map, get_or-map, set-get_or, length-set, get_or-set_same, get_or-set_other}
use Rattle.mark_core.specs.Layout.{Words, words_of, address}
use Rattle.mark_core.specs.Seats.{is_phase, saw, may_trace, may_sweep, may_clear, takes_part}
use Rattle.mark_core.specs.Views.{Standing, standings, standing_of, blocks, some_knows}
use Rattle.mark_core.specs.Rules.WorldRules.{World, NoneActive, is_tracing, is_stopped_phase, NoneAdmitted, is_raised}
use Rattle.mark_core.specs.Strong.{IsStrongBlock}
use Rattle.mark_core.specs.Steps.{Core, AllTrue, failing_part, after_event}
use Rattle.mark_core.specs.Laws.{IsCore}
use Rattle.mark_core.proofs.World.WorldReading.{at-standing, some-passes, any-passes, passes-any, passes-counted}
use Rattle.mark_core.proofs.World.WorldPhases.{Sees, traces-in, saw-number}
use Rattle.mark_core.specs.declared.kinds.Shape.{Shape}
use Rattle.mark_core.specs.declared.kinds.Phase.TheVariants.{Sweep, Clear}
use Rattle.mark_core.specs.declared.kinds.Step.{Step}
use Rattle.mark_core.specs.declared.seat.SeatState.{SeatState}
use Rattle.mark_core.specs.declared.seat.BlockState.{BlockState}
use Rattle.std.proofs.lemmas.Option.{slice_get_within, get_or_from_slice_get}
use Rattle.mark_core.specs.Parts.{parts}
use Rattle.mark_core.specs.Effects.{place, written}
use Rattle.mark_core.proofs.Writing.Places.{word-put}
use Rattle.mark_core.proofs.Writing.Ranges.{IsPlace, placed}
use Rattle.mark_core.proofs.Known.{Acted, found, words_left, seats_left, in_range, acts}
use Rattle.mark_core.proofs.Pool.PoolsKept.{shape-kept}
use Rattle.mark_core.proofs.Writing.Writes.{only_reads, read-written}
use Rattle.mark_core.specs.declared.kinds.Event.{Event}
use Rattle.std.proofs.lemmas.List.Folds.{list_any_none}
use Rattle.mark_core.proofs.Count.CountMoves.{bit, count-cons}

-- A step that a seat may take from a state that meets the rule: what is known of the seat and of the words that the step finds.
-- seat i has the record s, and may take the step
pub record Taken (c : Core) (i : ℕ) (s : SeatState) (step : Step) : Type 0 where
  pub core : IsCore c
  pub got : slice_get c.seats i ≡ Some s
  pub live : s.spent ≡ false
  pub ok : AllTrue (parts c.shape (words_of c.shape c.words) c.seats s step)

pub within : (c : Core) (i : ℕ) (s : SeatState) (step : Step) → Taken c i s step → i < length c.seats
within c i s step t = slice_get_within c.seats i s t.got

pub own-record : (c : Core) (i : ℕ) (s : SeatState) (step : Step) (d : SeatState) → Taken c i s step → get_or c.seats i d ≡ s
own-record c i s step d t = get_or_from_slice_get c.seats i s d t.got

-- a fact of every seat, at this one
pub mine : (c : Core) (i : ℕ) (s : SeatState) (step : Step) (P : SeatState → Type 0) → Taken c i s step → All P c.seats → P s
mine c i s step P t a = subst P (own-record c i s step s t) (a i s (within c i s step t))

pub in-place : (c : Core) (i : ℕ) (s : SeatState) (step : Step) → Taken c i s step → IsPlace c.shape (place c.shape s step)
in-place c i s step t = placed c.shape (words_of c.shape c.words) c.seats s step (in_range c i s t.core t.got) t.ok

-- a step that reads leaves all words
pub words-read : (c : Core) (i : ℕ) (s : SeatState) (step : Step) → Taken c i s step → only_reads step ≡ true → words_left c s step ≡ words_of c.shape c.words
words-read c i s step t e =
    let at : ℕ × ℕ = place c.shape s step in
    let old : ℕ = found c s step in
    let back : set c.words (address c.shape at) (written c.shape s step old) ≡ c.words = rw (read-written c.shape s step old e) (set-get_or c.words (address c.shape at) 0) in
    sym (word-put c.shape c.words at.0 at.1 (written c.shape s step old) t.core.formed.words (in-place c i s step t)) ∙ ap (words_of c.shape) back

-- a rule that the step's words and seats meet is met by the state after the event
pub kept-after : (Rule : Shape → Words → List SeatState → Type 0) (c : Core) (e : Event) → IsCore c → failing_part c e ≡ None → ((s : SeatState) → Acted c e s → Taken c e.seat s e.step → Rule c.shape (words_left c s e.step) (seats_left c e.seat s e.step))
    → Rule (after_event c e).shape (words_of (after_event c e).shape (after_event c e).words) (after_event c e).seats
kept-after Rule c e k f rule =
    let r : (s : SeatState) × Acted c e s = acts c e k f in
    let a : Acted c e r.0 = r.1 in
    let P : List SeatState → Type 0 = λ seats. Rule c.shape (words_left c r.0 e.step) seats in
    let Q : Words → Type 0 = λ w. Rule c.shape w (after_event c e).seats in
    let R : Shape → Type 0 = λ sh. Rule sh (words_of sh (after_event c e).words) (after_event c e).seats in
    let after = rule r.0 a (record { core = k; got = a.seat; live = a.live; ok = a.ok }) in
    subst R (sym (shape-kept c e)) (subst Q (sym a.words) (subst P (sym a.seats) after))

-- what the seat has seen of the phase
pub own-sights : (c : Core) (i : ℕ) (s : SeatState) (step : Step) → Taken c i s step → Sees (words_of c.shape c.words).phase s
own-sights c i s step t =
    mine c i s step (Sees (words_of c.shape c.words).phase) t (λ j d h. record { marking = t.core.sound.phases.marking_seen j d h; helper = t.core.sound.phases.helper_seen j d h })

-- a tracer works in Marking or in Drain
pub tracing : (c : Core) (i : ℕ) (s : SeatState) (step : Step) → Taken c i s step → may_trace (words_of c.shape c.words).phase s ≡ true → is_tracing (words_of c.shape c.words).phase ≡ true
tracing c i s step t e = traces-in (words_of c.shape c.words).phase s (own-sights c i s step t) e

-- a sweeper works in Sweep
pub sweeping : (c : Core) (i : ℕ) (s : SeatState) (step : Step) → Taken c i s step → may_sweep (words_of c.shape c.words).phase s ≡ true → (words_of c.shape c.words).phase ≡ 3
sweeping c i s step t e =
    let phase : ℕ = (words_of c.shape c.words).phase in
    ⊎_elim
    (λ (a : (s.knows && is_phase phase Sweep) ≡ true). eqb-true phase 3 (and_parts s.knows (is_phase phase Sweep) a).1)
    (λ (a : (s.admitted && saw s.phase_seen Sweep) ≡ true).
    let b = and_parts s.admitted (saw s.phase_seen Sweep) a in
    saw-number s.phase_seen Sweep phase b.1 ((own-sights c i s step t).helper b.0))
    (or_cases (s.knows && is_phase phase Sweep) (s.admitted && saw s.phase_seen Sweep) e)

-- a block is taken in hand only in Sweep and in Clear
pub in-time : (c : Core) (i : ℕ) (s : SeatState) (step : Step) → Taken c i s step → (may_sweep (words_of c.shape c.words).phase s || may_clear (words_of c.shape c.words).phase s) ≡ true
    → (is_phase (words_of c.shape c.words).phase Sweep || is_phase (words_of c.shape c.words).phase Clear) ≡ true
in-time c i s step t e =
    let phase : ℕ = (words_of c.shape c.words).phase in
    ⊎_elim
    (λ (a : may_sweep phase s ≡ true). ap (λ p. eqb p 3 || eqb p 4) (sweeping c i s step t a))
    (λ (a : may_clear phase s ≡ true). ap (λ p. eqb p 3 || eqb p 4) (eqb-true phase 4 (and_parts s.knows (is_phase phase Clear) a).1))
    (or_cases (may_sweep phase s) (may_clear phase s) e)

-- no seat is active
abbrev pub AllStill : Core → Type 0
AllStill c = All (λ (s : SeatState). IsFalse s.active) c.seats

-- if some seat knows that the world is stopped, no seat is active
pub still-from : (sh : Shape) (world help : ℕ) (seats : List SeatState) → World sh world help (standings seats) seats → some_knows (standings seats) ≡ true → All (λ (s : SeatState). IsFalse s.active) seats
still-from sh world help seats k e j d h =
    let ss : List Standing = standings seats in
    let one = some-passes (λ (x : Standing). x.knows) ss (any-passes (λ (x : Standing). x.knows) ss e) in
    let none : NoneActive ss = k.knows_stopped one.0 (standing_of d) one.1 (one.2 (standing_of d)) in
    at-standing (λ (x : Standing). IsFalse x.active) seats j d h none

pub still-known : (c : Core) → IsCore c → some_knows (standings c.seats) ≡ true → AllStill c
still-known c k e = still-from c.shape (words_of c.shape c.words).world (words_of c.shape c.words).help c.seats k.sound.world e

-- in a stopped phase no seat is active
pub still-stopped : (c : Core) → IsCore c → is_stopped_phase (words_of c.shape c.words).phase ≡ true → AllStill c
still-stopped c k e = still-known c k (k.sound.phases.stopped e)

-- a seat that knows is one that does
pub knower : (seats : List SeatState) (j : ℕ) (d : SeatState) → j < length seats → IsTrue (get_or seats j d).knows → some_knows (standings seats) ≡ true
knower seats j d h e =
    let ss : List Standing = standings seats in
    let at : get_or ss j (standing_of d) ≡ standing_of (get_or seats j d) = get_or-map standing_of seats j d (standing_of d) h in
    passes-any (λ (x : Standing). x.knows) ss (passes-counted (λ (x : Standing). x.knows) ss j (standing_of d) (rw length-map h) (ap (λ (x : Standing). x.knows) at ∙ e))

pub still-while-knows : (c : Core) (i : ℕ) (s : SeatState) (step : Step) → Taken c i s step → IsTrue s.knows → AllStill c
still-while-knows c i s step t e =
    still-known c t.core (knower c.seats i s (within c i s step t) (ap (λ (x : SeatState). x.knows) (own-record c i s step s t) ∙ e))

-- a seat that runs isn't still
pub not-still : (c : Core) (i : ℕ) (s : SeatState) (step : Step) (P : Type 0) → Taken c i s step → AllStill c → s.active ≡ true → P
not-still c i s step P t a e = absurd (true≢false (sym e ∙ mine c i s step (λ (x : SeatState). IsFalse x.active) t a))

pub stopped-time : (phase : ℕ) → (is_phase phase Sweep || is_phase phase Clear) ≡ true → is_stopped_phase phase ≡ true
stopped-time phase e =
    ⊎_elim
    (λ (a : eqb phase 3 ≡ true). ap is_stopped_phase (eqb-true phase 3 a))
    (λ (a : eqb phase 4 ≡ true). ap is_stopped_phase (eqb-true phase 4 a))
    (or_cases (eqb phase 3) (eqb phase 4) e)

hand_empty : (phase nb : ℕ) (allocs marks : List ℕ) (o : Option BlockState) → (is_phase phase Sweep || is_phase phase Clear) ≡ false → IfSome o (IsStrongBlock phase nb allocs marks) → o ≡ None
hand_empty phase nb allocs marks None e b = refl
hand_empty phase nb allocs marks (Some x) e b = absurd (true≢false (sym b.block_in_time ∙ e))

-- outside Sweep and Clear no block is in hand
pub none-in-hand : (c : Core) → IsCore c → (is_phase (words_of c.shape c.words).phase Sweep || is_phase (words_of c.shape c.words).phase Clear) ≡ false → All (λ b. b ≡ None) (blocks c.seats)
none-in-hand c k e j d h = let w : Words = words_of c.shape c.words in hand_empty w.phase w.next_block w.allocs w.marks (get_or (blocks c.seats) j d) e (k.strong.blocks_strong j d h)

-- A list in which one element is replaced: what holds of each element, and of each two.
-- P holds of each element but that at i
abbrev pub Others : {X : Type 0} → ℕ → (X → Type 0) → List X → Type 0
Others {X} i P xs = (j : ℕ) (d : X) → j < length xs → j ≢ i → P (get_or xs j d)

pub all-but : {X : Type 0} (P : X → Type 0) (xs : List X) (i : ℕ) → All P xs → Others i P xs
all-but P xs i a j d h n = a j d h

pub all-set : {X : Type 0} (P : X → Type 0) (xs : List X) (i : ℕ) (x : X) → Others i P xs → P x → All P (set xs i x)
all-set P xs i x o h j d l =
    let lj : j < length xs = omega (arith, l, length-set xs i x) in
    ⊎_elim
    (λ (e : j ≡ i). rw e (rw (get_or-set_same xs i x d (omega (arith, lj, e))) h))
    (λ (n : j ≡ i → ⊥). rw (get_or-set_other xs i j x d n) (o j d lj n))
    (cases_eq j i)

-- each two, if the replaced one stands right with each other
pub pairs-set : {X : Type 0} (R : X → X → Type 0) (xs : List X) (i : ℕ) (x : X) → AllPairs R xs → Others i (R x) xs → Others i (λ y. R y x) xs → AllPairs R (set xs i x)
pairs-set R xs i x a f g j k d h l =
    let lk : k < length xs = omega (arith, l, length-set xs i x) in
    let lj : j < length xs = omega (arith, lk, h) in
    ⊎_elim
    (λ (e : j ≡ i).
    let n : k ≢ i = λ z. omega (arith, h, e, z) in
    rw (e, get_or-set_same xs i x d (omega (arith, lj, e)), get_or-set_other xs i k x d n) (f k d lk n))
    (λ (n : j ≡ i → ⊥).
    ⊎_elim
    (λ (e : k ≡ i). rw (e, get_or-set_same xs i x d (omega (arith, lk, e)), get_or-set_other xs i j x d n) (g j d lj n))
    (λ (m : k ≡ i → ⊥). rw (get_or-set_other xs i j x d n, get_or-set_other xs i k x d m) (a j k d h lk))
    (cases_eq k i))
    (cases_eq j i)

-- each two stand right with each other, so that at i does with each other one
pub pairs-but : {X : Type 0} (R : X → X → Type 0) (xs : List X) (i : ℕ) (x : X) → ((y z : X) → R y z → R z y) → i < length xs → ((d : X) → get_or xs i d ≡ x) → AllPairs R xs → Others i (R x) xs
pairs-but R xs i x turn h is a j d l n =
    ⊎_elim
    (λ (e : j ≡ i). absurd (n e))
    (λ u.
    ⊎_elim
    (λ (b : j < i). turn (get_or xs j d) x (rw (is d) at (a j i d b h)))
    (λ (b : i < j). rw (is d) at (a i j d b l))
    u)
    (cases_order j i)

-- whether some element passes stays, if the replaced one passes as before
pub any-same : {X : Type 0} (p : X → Bool) (xs : List X) (i : ℕ) (x d : X) → i < length xs → p x ≡ p (get_or xs i d) → list_any p (set xs i x) ≡ list_any p xs
any-same p [] i x d h e = refl
any-same p (y ∷ ys) zero x d h e = ap (λ b. b || list_any p ys) e
any-same p (y ∷ ys) (suc i) x d h e = ap (λ b. p y || b) (any-same p ys i x d (omega (arith, h)) e)

pub or-false : (b : Bool) → (b || false) ≡ b
or-false true = refl
or-false false = refl

-- if no other element passes, some one passes if that at i does
pub any-alone : {X : Type 0} (p : X → Bool) (xs : List X) (i : ℕ) (x : X) → i < length xs → ((d : X) → get_or xs i d ≡ x) → Others i (λ y. p y ≡ false) xs → list_any p xs ≡ p x
any-alone p [] i x h is o = absurd (omega (arith, h))
any-alone p (y ∷ ys) zero x h is o =
    let here : y ≡ x = is x in
    rw (← here, list_any_none p ys (λ j d l. o (suc j) d (omega (arith, l)) (λ e. omega arith))) (or-false (p y))
any-alone p (y ∷ ys) (suc i) x h is o =
    rw (o zero y (omega arith) (λ e. omega arith)) (any-alone p ys i x (omega (arith, h)) is (λ j d l n. o (suc j) d (omega (arith, l)) (λ e. n (omega (arith, e)))))

-- While the seat that stopped the world is alone, no other seat takes part, and none of them has a block in hand.
-- if at most one passes, no two do
pub one-passes : {X : Type 0} (f : X → Bool) (xs : List X) (i j : ℕ) (d : X) → i < length xs → j < length xs → count_by f xs ≤ 1 → f (get_or xs i d) ≡ true → f (get_or xs j d) ≡ true → i ≡ j
one-passes f [] i j d hi hj o a b = absurd (omega (arith, hi))
one-passes f (x ∷ xs) zero zero d hi hj o a b = refl
one-passes f (x ∷ xs) zero (suc j) d hi hj o a b = absurd (omega (arith, o, count-cons f x xs, ap bit a, passes-counted f xs j d (omega (arith, hj)) b))
one-passes f (x ∷ xs) (suc i) zero d hi hj o a b = absurd (omega (arith, o, count-cons f x xs, ap bit b, passes-counted f xs i d (omega (arith, hi)) a))
one-passes f (x ∷ xs) (suc i) (suc j) d hi hj o a b = ap suc (one-passes f xs i j d (omega (arith, hi)) (omega (arith, hj)) (omega (arith, o, count-cons f x xs)) a b)

-- only one seat knows that the world is stopped
pub one-knower : (c : Core) (i : ℕ) (s : SeatState) (step : Step) (j : ℕ) (d : SeatState) → Taken c i s step → IsTrue s.knows → j < length c.seats → IsTrue (get_or c.seats j d).knows → i ≡ j
one-knower c i s step j d t e h f =
    let ss : List Standing = standings c.seats in
    let hi : i < length c.seats = within c i s step t in
    let own : (get_or c.seats i d).raised ≡ true = (t.core.strong.seats_strong i d hi).knows_is_raised (ap (λ (x : SeatState). x.knows) (own-record c i s step d t) ∙ e) in
    let other : (get_or c.seats j d).raised ≡ true = (t.core.strong.seats_strong j d h).knows_is_raised f in
    one-passes is_raised ss i j (standing_of d) (rw length-map hi) (rw length-map h) t.core.sound.world.one_raised
    (ap is_raised (get_or-map standing_of c.seats i d (standing_of d) hi) ∙ own)
    (ap is_raised (get_or-map standing_of c.seats j d (standing_of d) h) ∙ other)

none_helps : (c : Core) (i : ℕ) (s : SeatState) (step : Step) → Taken c i s step → IsTrue s.alone → All (λ (x : SeatState). IsFalse x.admitted) c.seats
none_helps c i s step t e j d h =
    let ss : List Standing = standings c.seats in
    let none : NoneAdmitted ss = mine c i s step (λ (x : SeatState). IsTrue x.alone → NoneAdmitted ss) t (λ k b l. at-standing (λ (x : Standing). IsTrue x.alone → NoneAdmitted ss) c.seats k b l t.core.sound.world.alone_unhelped) e in
    at-standing (λ (x : Standing). IsFalse x.admitted) c.seats j d h none

-- no other seat takes part
pub alone-takes : (c : Core) (i : ℕ) (s : SeatState) (step : Step) → Taken c i s step → IsTrue s.knows → IsTrue s.alone → Others i (λ (x : SeatState). IsFalse (takes_part x)) c.seats
alone-takes c i s step t k e j d h n =
    let active = still-while-knows c i s step t k j d h in
    let admitted = none_helps c i s step t e j d h in
    let knows : IsFalse (get_or c.seats j d).knows =
    ⊎_elim
    (λ (a : (get_or c.seats j d).knows ≡ true). absurd (n (sym (one-knower c i s step j d t k h a))))
    (λ (a : (get_or c.seats j d).knows ≡ false). a)
    (cases_Bool (get_or c.seats j d).knows) in
    or_from _ _ (or_from _ _ active knows) admitted

-- so no other seat has a block in hand
pub alone-holds : (c : Core) (i : ℕ) (s : SeatState) (step : Step) → Taken c i s step → IsTrue s.knows → IsTrue s.alone → s.block ≡ None → All (λ b. b ≡ None) (blocks c.seats)
alone-holds c i s step t k e own j d h =
    let x : SeatState = get_or c.seats j s in
    let hj : j < length c.seats = rw (length-map c.seats (λ (y : SeatState). y.block)) at h in
    get_or-map (λ (y : SeatState). y.block) c.seats j s d hj
    ∙ ⊎_elim
    (λ (a : takes_part x ≡ true).
    ⊎_elim
    (λ (b : i ≡ j). ap (λ (y : SeatState). y.block) (ap (λ k. get_or c.seats k s) (sym b) ∙ own-record c i s step s t) ∙ own)
    (λ (n : i ≡ j → ⊥). absurd (true≢false (sym a ∙ alone-takes c i s step t k e j s hj (λ g. n (sym g)))))
    (cases_eq i j))
    (λ (a : takes_part x ≡ false). (t.core.sound.world.outside_empty j s hj a).no_block)
    (cases_Bool (takes_part x))
