-- The roots as the seats have them after a step: a variable or a slot is assigned, or they stay.
use Rattle.std.proofs.Common.{ℕ, ◌≡◌, ◌+◌, ◌*◌, ◌/◌, ◌%◌, ◌<◌, ◌≤◌, List, set, get_or, length, arith, refl, sym, ap, ◌∙◌, subst, Bool, true, false, not, ◌&&◌, cond, Option, Some, None, eqb, ⊎_elim}
use Rattle.std.specs.Prelude.{IfSome, IsTrue, IsFalse, slice_index, slice_get, unwrap_or, nat_lt, is_some, if◌then◌else◌}
use Rattle.std.specs.List.{All}
use Rattle.std.proofs.lemmas.Bool.{true≢false, and_parts, ltb-true, eqb-true, eq-eqb, ne_eqb, cases_Bool, cases_lt}
use Rattle.std.proofs.lemmas.List.{set-get_or, get_or_past}
use Rattle.std.proofs.Math.Bool.{and-false}
use Rattle.mark_core.specs.Layout.{words_of, root_count}
use Rattle.mark_core.specs.Bits.{reference_in, has_bit, nil_or}
use Rattle.mark_core.specs.Rules.HeapRules.{EnvIsRoots}
use Rattle.mark_core.specs.Steps.MutatorSteps.{seat_variable}
use Rattle.mark_core.specs.Seats.{may_mutate, has_turn, is_bare, is_the}
use Rattle.mark_core.specs.Views.{Standing}
use Rattle.mark_core.specs.Cells.{AllGo}
use Rattle.mark_core.specs.Variables.{roots_now, held_word}
use Rattle.mark_core.specs.Start.{start_seat, spent_seat}
use Rattle.mark_core.specs.Effects.{seat_after}
use Rattle.mark_core.specs.Steps.{Core}
use Rattle.mark_core.specs.Steps.WorldSteps.{may_be_joined}
use Rattle.mark_core.specs.Laws.{IsCore}
use Rattle.mark_core.proofs.HeldBlock.{roots-length}
use Rattle.mark_core.proofs.Known.{found, words_left, seats_left}
use Rattle.mark_core.proofs.Lagging.{Shows, LagsInTurn, idle-lags, not-counted, not-active, all-get, held-still, now-length, now-at, was-own, held-here, now-seat, now-pushed, now-ended, now-root, now-held, now-stored, now-flushed}
use Rattle.mark_core.proofs.World.WorldReading.{at-standing}
use Rattle.mark_core.proofs.Blocks.BlocksStopped.{Taken, in-place, own-record, mine as own-fact}
use Rattle.mark_core.proofs.References.ReferencesEnv.{own-section}
use Rattle.mark_core.proofs.References.ReferencesRoots.{has-use, read-whole, roots-same, seat-formed, mutator-is, Used}
use Rattle.mark_core.specs.declared.kinds.Shape.{Shape}
use Rattle.mark_core.specs.declared.kinds.Step.{Step}
use Rattle.mark_core.specs.declared.kinds.Step.TheVariants.{StoreRoot, Split, Join, StoreSlot, HoldRoot, FlushRoot}
use Rattle.mark_core.specs.declared.seat.SeatState.{SeatState}

-- the variables of a seat, and which of them lag
abbrev pub variables_of : SeatState → ℕ × List ℕ
variables_of s = (s.lags, s.env)

-- the step assigns a variable or a slot
abbrev pub assigns_root : Step → Bool
assigns_root (StoreRoot v r) = true
assigns_root (StoreSlot k r) = true
assigns_root (HoldRoot v r) = true
assigns_root step = false

-- the step changes the words of roots, or its seat's variables
abbrev changes_variables : Step → Bool
changes_variables (FlushRoot v) = true
changes_variables step = assigns_root step

variables_kept : (sh : Shape) (s : SeatState) (step : Step) (old : ℕ) → changes_variables step ≡ false → variables_of (seat_after sh s step old) ≡ variables_of s
variables_kept sh s (StoreRoot v r) old e = absurd (true≢false e)
variables_kept sh s (StoreSlot k r) old e = absurd (true≢false e)
variables_kept sh s (HoldRoot v r) old e = absurd (true≢false e)
variables_kept sh s (FlushRoot v) old e = absurd (true≢false e)
variables_kept sh s step old e = refl

-- the roots as the seats have them stay if the step leaves the words of roots, and its seat's variables
seat_stays : (c : Core) (i : ℕ) (s t : SeatState) (roots : List ℕ) (step : Step) → Taken c i s step → roots ≡ (words_of c.shape c.words).roots → variables_of t ≡ variables_of s → roots_now roots (set c.seats i t) ≡ roots_now (words_of c.shape c.words).roots c.seats
seat_stays c i s t roots step k e f =
    ap (λ (rs : List ℕ). roots_now rs (set c.seats i t)) e ∙ now-seat (words_of c.shape c.words).roots c.seats i s t k.got (ap (λ (x : ℕ × List ℕ). x.0) f) (ap (λ (x : ℕ × List ℕ). x.1) f)

idle_shows : (o : Option SeatState) → IfSome o (λ (s : SeatState). IsFalse s.counted → Shows s) → may_be_joined o ≡ true → IfSome o Shows
idle_shows None a e = absurd (true≢false (sym e))
idle_shows (Some o) a e = a (not-counted o (and_parts (not o.spent) (is_bare o) e).1)

-- no root of a seat outside lags
outside_shows : (c : Core) → IsCore c → All (λ (s : SeatState). IsFalse s.counted → Shows s) c.seats
outside_shows c k j d h e =
    let s : SeatState = get_or c.seats j d in
    idle-lags s (not-active s (at-standing (λ (x : Standing). IsTrue x.active → IsTrue x.counted) c.seats j d h k.sound.world.active_counted) e) (k.sound.season.lags_in_turn j d h)

section-some : (s : SeatState) → may_mutate s ≡ true → {i : ℕ} → unwrap_or s.section 0 ≡ i → s.section ≡ Some i
section-some s e {i} at = let place = (mutator-is s e).1 in place.1 ∙ ap (λ (x : ℕ). Some x) (sym (ap (λ (o : Option ℕ). unwrap_or o 0) place.1) ∙ at)

-- a variable that doesn't lag is its root
shown : (s : SeatState) (i : ℕ) (roots : List ℕ) (v : ℕ) → s.section ≡ Some i → v < 32 → IfSome s.section (λ w. (u : ℕ) → u < 32 → IsFalse (has_bit s.lags u) → slice_index s.env u ≡ slice_index roots (w * 32 + u))
    → IsFalse (has_bit s.lags v) → slice_index s.env v ≡ slice_index roots (i * 32 + v)
shown s i roots v e hv k b = subst (λ (o : Option ℕ). IfSome o (λ w. (u : ℕ) → u < 32 → IsFalse (has_bit s.lags u) → slice_index s.env u ≡ slice_index roots (w * 32 + u))) e k v hv b

pub now-left : (c : Core) (i : ℕ) (s : SeatState) (step : Step) → Taken c i s step → assigns_root step ≡ false → roots_now (words_left c s step).roots (seats_left c i s step) ≡ roots_now (words_of c.shape c.words).roots c.seats
now-left c i s (StoreRoot v r) k e = absurd (true≢false e)
now-left c i s (StoreSlot j r) k e = absurd (true≢false e)
now-left c i s (HoldRoot v r) k e = absurd (true≢false e)
now-left c i s (FlushRoot v) k e =
    let step : Step = FlushRoot v in
    let roots : List ℕ = (words_of c.shape c.words).roots in
    let t : SeatState = seat_after c.shape s step (found c s step) in
    let a = and_parts (nat_lt v 32) (may_mutate s) k.ok.0 in
    let at : unwrap_or s.section 0 ≡ i = own-section c i s step k a.1 in
    let here : unwrap_or s.section 0 * 32 + v < root_count c.shape = in-place c i s step k in
    let mine : EnvIsRoots roots s = own-fact c i s step (EnvIsRoots roots) k k.core.sound.references.env_is_roots in
    ap (λ (o : ℕ). roots_now (set roots (o * 32 + v) (seat_variable s v)) (set c.seats i t)) at
    ∙ now-flushed roots c.seats i v s t k.got (ltb-true v 32 a.0) (omega (arith, here, at, roots-length c k.core)) (shown s i roots v (section-some s a.1 at) (ltb-true v 32 a.0) (mine k.live)) refl refl
now-left c i s Split k e =
    now-pushed (words_left c s Split).roots (set c.seats i s) (start_seat c.shape (length (set c.seats i s))) refl ∙ seat_stays c i s s (words_left c s Split).roots Split k (roots-same c i s Split k refl) refl
now-left c i s (Join other) k e =
    let roots : List ℕ = (words_of c.shape c.words).roots in
    let same : set c.seats i s ≡ c.seats = ap (λ (y : SeatState). set c.seats i y) (sym (own-record c i s (Join other) s k)) ∙ set-get_or c.seats i s in
    let bare : may_be_joined (slice_get c.seats other) ≡ true = (and_parts (not (eqb other s.number)) (may_be_joined (slice_get c.seats other)) (and_parts (not (eqb other s.number) && may_be_joined (slice_get c.seats other)) (is_bare s) k.ok.0).0).1 in
    ap (λ (rs : List ℕ). roots_now rs (set (set c.seats i s) other (spent_seat c.shape other))) (roots-same c i s (Join other) k refl)
    ∙ ap (λ (ss : List SeatState). roots_now roots (set ss other (spent_seat c.shape other))) same
    ∙ now-ended roots c.seats other (spent_seat c.shape other) (idle_shows (slice_get c.seats other) (all-get (λ (x : SeatState). IsFalse x.counted → Shows x) c.seats other (outside_shows c k.core)) bare) refl
now-left c i s step k e = seat_stays c i s (seat_after c.shape s step (found c s step)) (words_left c s step).roots step k (roots-same c i s step k refl) (variables_kept c.shape s step (found c s step) refl)

-- variable v is held
pub now-holds : (c : Core) (i : ℕ) (s : SeatState) (v r : ℕ) → Taken c i s (HoldRoot v r) → roots_now (words_left c s (HoldRoot v r)).roots (seats_left c i s (HoldRoot v r)) ≡ set (roots_now (words_of c.shape c.words).roots c.seats) (i * 32 + v) r
now-holds c i s v r k =
    let step : Step = HoldRoot v r in
    let roots : List ℕ = (words_of c.shape c.words).roots in
    let t : SeatState = seat_after c.shape s step (found c s step) in
    let a = and_parts (nat_lt v 32) (may_mutate s) k.ok.0 in
    let at : unwrap_or s.section 0 ≡ i = own-section c i s step k a.1 in
    let here : unwrap_or s.section 0 * 32 + v < root_count c.shape = in-place c i s step k in
    let whole : reference_in r ≡ r = read-whole c i s step r k (has-use c i s step r k k.ok.1.0) in
    ap (λ (rs : List ℕ). roots_now rs (set c.seats i t)) (roots-same c i s step k refl)
    ∙ now-held roots c.seats i v (reference_in r) s t k.got (ltb-true v 32 a.0) (omega (arith, here, at, roots-length c k.core)) (seat-formed c i s step k).env refl refl
    ∙ ap (λ (x : ℕ). set (roots_now roots c.seats) (i * 32 + v) x) whole

-- the root of variable v is stored
pub now-stores : (c : Core) (i : ℕ) (s : SeatState) (v r : ℕ) → Taken c i s (StoreRoot v r) → roots_now (words_left c s (StoreRoot v r)).roots (seats_left c i s (StoreRoot v r)) ≡ set (roots_now (words_of c.shape c.words).roots c.seats) (i * 32 + v) r
now-stores c i s v r k =
    let step : Step = StoreRoot v r in
    let roots : List ℕ = (words_of c.shape c.words).roots in
    let t : SeatState = seat_after c.shape s step (found c s step) in
    let a = and_parts (nat_lt v 32) (may_mutate s) k.ok.0 in
    let at : unwrap_or s.section 0 ≡ i = own-section c i s step k a.1 in
    let here : unwrap_or s.section 0 * 32 + v < root_count c.shape = in-place c i s step k in
    let whole : reference_in r ≡ r = read-whole c i s step r k (has-use c i s step r k k.ok.1.0) in
    ap (λ (o : ℕ). roots_now (set roots (o * 32 + v) r) (set c.seats i t)) at
    ∙ now-stored roots c.seats i v r s t k.got (ltb-true v 32 a.0) (omega (arith, here, at, roots-length c k.core)) (seat-formed c i s step k).env refl (ap (λ (x : ℕ). set s.env v x) whole)

section_none : (n k : ℕ) (o : Option ℕ) (b : Bool) → n ≤ k → nat_lt k n ≡ b → o ≡ cond b (Some k) None → o ≡ None
section_none n k o true h e f = absurd (omega (arith, h, ltb-true k n e))
section_none n k o false h e f = f

no_turn : (s : SeatState) → s.section ≡ None → IsFalse (may_mutate s)
no_turn s e = ap (λ (o : Option ℕ). s.active && has_turn o s.season_seen) e ∙ and-false s.active

some_shows : (c : Core) (k : ℕ) (o : Option SeatState) → IsCore c → c.shape.sections ≤ k → slice_get c.seats k ≡ o → IfSome o LagsInTurn → IfSome o Shows
some_shows c k None core h g a = tt
some_shows c k (Some s) core h g a = a (no_turn s (section_none c.shape.sections k s.section (nat_lt k c.shape.sections) h refl (core.formed.seats k s g).section))

-- no variable of a seat without a section stands before a slot
slot_shows : (c : Core) (k : ℕ) → IsCore c → c.shape.sections ≤ k → IfSome (slice_get c.seats k) Shows
slot_shows c k core h = some_shows c k (slice_get c.seats k) core h refl (all-get LagsInTurn c.seats k core.sound.season.lags_in_turn)

-- slot j is stored
pub now-slots : (c : Core) (i : ℕ) (s : SeatState) (j r : ℕ) → Taken c i s (StoreSlot j r)
    → roots_now (words_left c s (StoreSlot j r)).roots (seats_left c i s (StoreSlot j r)) ≡ set (roots_now (words_of c.shape c.words).roots c.seats) (c.shape.sections * 32 + (unwrap_or s.section 0 * c.shape.slots + j)) r
now-slots c i s j r k =
    let step : Step = StoreSlot j r in
    let roots : List ℕ = (words_of c.shape c.words).roots in
    let t : SeatState = seat_after c.shape s step (found c s step) in
    let at : ℕ = c.shape.sections * 32 + (unwrap_or s.section 0 * c.shape.slots + j) in
    let here : at < root_count c.shape = in-place c i s step k in
    now-seat (set roots at r) c.seats i s t k.got refl refl ∙ now-root roots c.seats at r (omega (arith, here, roots-length c k.core)) (slot_shows c (at / 32) k.core (omega arith))

-- a slot is what its word has
pub slot-now : (c : Core) (k : ℕ) → IsCore c → c.shape.sections * 32 ≤ k → k < length (words_of c.shape c.words).roots → slice_index (roots_now (words_of c.shape c.words).roots c.seats) k ≡ slice_index (words_of c.shape c.words).roots k
slot-now c k core h l =
    let roots : List ℕ = (words_of c.shape c.words).roots in
    now-at roots c.seats k l ∙ held-still (slice_get c.seats (k / 32)) (k % 32) (slice_index roots k) (slot_shows c (k / 32) core (omega (arith, h)))

-- The catalogue's variables while a warehouse mutates.
odd_season : (o z : Option ℕ) (season : ℕ) → has_turn o z ≡ true → is_the o 0 ≡ false → IfSome z (λ y. season ≡ y) → season % 2 ≡ 1
odd_season None z season e f k = absurd (true≢false (sym e))
odd_season (Some w) None season e f k = absurd (true≢false (sym e))
odd_season (Some w) (Some y) season e f k = ap (λ (x : ℕ). x % 2) k ∙ eqb-true (y % 2) 1 (sym (ap (λ (b : Bool). eqb (y % 2) (cond b 0 1)) f) ∙ e)

waits : (o z : Option ℕ) (season : ℕ) (b : Bool) → o ≡ cond b (Some 0) None → IfSome z (λ y. season ≡ y) → season % 2 ≡ 1 → has_turn o z ≡ false
waits None z season b e k odd = refl
waits (Some w) None season b e k odd = refl
waits (Some w) (Some y) season true e k odd =
    let first : w ≡ 0 = ap (λ (o : Option ℕ). unwrap_or o 0) e in
    ap (λ (x : Bool). eqb (y % 2) (cond x 0 1)) (eq-eqb w 0 first) ∙ ne_eqb (y % 2) 0 (λ h. omega (arith, h, k, odd))
waits (Some w) (Some y) season false e k odd = absurd (true≢false (ap is_some e))

catalogue_shows : (s : SeatState) (season : ℕ) (b : Bool) → s.section ≡ cond b (Some 0) None → (IsTrue s.active → IfSome s.season_seen (λ y. season ≡ y)) → season % 2 ≡ 1 → LagsInTurn s → Shows s
catalogue_shows s season b e k odd h =
    ⊎_elim
    (λ (a : s.active ≡ true). h (ap (λ (x : Bool). s.active && x) (waits s.section s.season_seen season b e (k a) odd) ∙ and-false s.active))
    (λ (a : s.active ≡ false). idle-lags s a h)
    (cases_Bool s.active)

first_shows : (c : Core) (o : Option SeatState) → IsCore c → slice_get c.seats 0 ≡ o → (words_of c.shape c.words).season % 2 ≡ 1 → IfSome o LagsInTurn → IfSome o (λ (t : SeatState). IsTrue t.active → IfSome t.season_seen (λ y. (words_of c.shape c.words).season ≡ y)) → IfSome o Shows
first_shows c None core g odd a b = tt
first_shows c (Some t) core g odd a b = catalogue_shows t (words_of c.shape c.words).season (nat_lt 0 c.shape.sections) (core.formed.seats 0 t g).section b odd a

pub cat-now : (c : Core) (i : ℕ) (s : SeatState) (step : Step) (v : ℕ) → Taken c i s step → may_mutate s ≡ true → is_the s.section 0 ≡ false → v < 32 → slice_index (roots_now (words_of c.shape c.words).roots c.seats) (0 * 32 + v) ≡ slice_index (words_of c.shape c.words).roots (0 * 32 + v)
cat-now c i s step v k e f hv =
    let roots : List ℕ = (words_of c.shape c.words).roots in
    let season : ℕ = (words_of c.shape c.words).season in
    let Knows : SeatState → Type 0 = λ t. IsTrue t.active → IfSome t.season_seen (λ y. season ≡ y) in
    let a = and_parts s.active (has_turn s.section s.season_seen) e in
    let odd : season % 2 ≡ 1 = odd_season s.section s.season_seen season a.1 f (own-fact c i s step Knows k k.core.sound.season.season_known a.0) in
    let shows : IfSome (slice_get c.seats 0) Shows = first_shows c (slice_get c.seats 0) k.core refl odd (all-get LagsInTurn c.seats 0 k.core.sound.season.lags_in_turn) (all-get Knows c.seats 0 k.core.sound.season.season_known) in
    let first : (0 * 32 + v) / 32 ≡ 0 = omega (arith, hv) in
    now-at roots c.seats (0 * 32 + v) (omega (arith, hv, roots-length c k.core, k.core.formed.shaped.sections))
    ∙ held-still (slice_get c.seats ((0 * 32 + v) / 32)) ((0 * 32 + v) % 32) (slice_index roots (0 * 32 + v)) (subst (λ (j : ℕ). IfSome (slice_get c.seats j) Shows) (sym first) shows)

-- What the seats have names cells in use.
variable_goes : (p : ℕ → Bool) (s : SeatState) (v : ℕ) → AllGo p s.env → nil_or p (slice_index s.env v) ≡ true
variable_goes p s v a = ⊎_elim (λ (h : v < length s.env). a v 0 h) (λ (h : length s.env ≤ v). ap (nil_or p) (get_or_past s.env v 0 h)) (cases_lt v (length s.env))

held_goes : (p : ℕ → Bool) (o : Option SeatState) (v root : ℕ) → IfSome o (λ (s : SeatState). AllGo p s.env) → nil_or p root ≡ true → nil_or p (held_word o v root) ≡ true
held_goes p None v root a e = e
held_goes p (Some s) v root a e =
    ⊎_elim
    (λ (b : has_bit s.lags v ≡ true). ap (λ (x : Bool). nil_or p (if x then slice_index s.env v else root)) b ∙ variable_goes p s v a)
    (λ (b : has_bit s.lags v ≡ false). ap (λ (x : Bool). nil_or p (if x then slice_index s.env v else root)) b ∙ e)
    (cases_Bool (has_bit s.lags v))

pub now-used : (c : Core) (k : ℕ) → IsCore c → nil_or (Used c) (slice_index (roots_now (words_of c.shape c.words).roots c.seats) k) ≡ true
now-used c k core =
    let roots : List ℕ = (words_of c.shape c.words).roots in
    ⊎_elim
    (λ (h : k < length roots).
    ap (nil_or (Used c)) (now-at roots c.seats k h)
    ∙ held_goes (Used c) (slice_get c.seats (k / 32)) (k % 32) (slice_index roots k) (all-get (λ (s : SeatState). AllGo (Used c) s.env) c.seats (k / 32) (λ j d l. (core.sound.references.seats_in_use j d l).0)) (core.sound.references.roots_in_use k 0 h))
    (λ (h : length roots ≤ k). ap (nil_or (Used c)) (get_or_past (roots_now roots c.seats) k 0 (subst (λ (n : ℕ). n ≤ k) (sym (now-length roots c.seats)) h)))
    (cases_lt k (length roots))

-- the roots as the seats have them
abbrev pub the-roots : Core → List ℕ
the-roots c = roots_now (words_of c.shape c.words).roots c.seats

-- each variable of a mutator is what its record has
pub own-now : (c : Core) (i : ℕ) (s : SeatState) (step : Step) (v : ℕ) → Taken c i s step → s.section ≡ Some i → i < c.shape.sections → v < 32 → slice_index (the-roots c) (i * 32 + v) ≡ slice_index s.env v
own-now c i s step v k e h hv =
    let roots : List ℕ = (words_of c.shape c.words).roots in
    let at : ℕ = i * 32 + v in
    let low : at % 32 ≡ v = omega (arith, hv) in
    let mine : EnvIsRoots roots s = own-fact c i s step (EnvIsRoots roots) k k.core.sound.references.env_is_roots in
    now-at roots c.seats at (omega (arith, h, hv, roots-length c k.core))
    ∙ was-own roots c.seats i at s k.got (omega (arith, hv))
    ∙ ap (λ (u : ℕ). held_word (Some s) u (slice_index roots at)) low
    ∙ held-here s v (slice_index roots at) (shown s i roots v e hv (mine k.live))
