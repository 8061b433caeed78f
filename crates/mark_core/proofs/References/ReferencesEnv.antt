-- After a step the variables of a seat are still the roots of its section, and the roots of sections that have had no seat are nil.
use Rattle.std.proofs.Math.Nat.{mul-le-mul_right}
use Rattle.mark_core.proofs.Writing.Ranges.{in-row}
use Rattle.mark_core.proofs.Known.{in_range, found, words_left, seats_left}
use Rattle.std.proofs.Common.{ℕ, ◌≡◌, ◌≢◌, ◌+◌, ◌*◌, ◌<◌, ◌≤◌, List, [], ◌∷◌, set, get_or, length, arith, refl, sym, ap, ◌∙◌, subst, Bool, true, false, cond, Option, Some, None, ⊎_elim, ◌++◌}
use Rattle.std.specs.Prelude.{IfSome, IsFalse, slice_index, unwrap_or, nat_lt, is_none}
use Rattle.std.specs.List.{All}
use Rattle.std.proofs.lemmas.Bool.{true≢false, and_parts, ltb-true, cases_eq}
use Rattle.std.proofs.lemmas.List.{get_or-replicate, get_or-set_same, get_or-set_other, length-set, length-append}
use Rattle.std.proofs.lemmas.List.Elements.{All-set}
use Rattle.std.proofs.lemmas.Option.{slice_get-get_or}
use Rattle.mark_core.specs.Layout.{Words, words_of, root_count}
use Rattle.mark_core.specs.Bits.{reference_in, has_bit, with_bit, without_bit}
use Rattle.mark_core.proofs.Writing.CellBits.{with_same, with_other, without_other}
use Rattle.mark_core.specs.Seats.{may_mutate}
use Rattle.mark_core.specs.Steps.MutatorSteps.{seat_variable}
use Rattle.mark_core.specs.Rules.HeapRules.{EnvIsRoots}
use Rattle.mark_core.specs.Start.{start_seat, spent_seat}
use Rattle.mark_core.specs.Effects.{seat_after}
use Rattle.mark_core.specs.Steps.{Core}
use Rattle.mark_core.specs.Laws.{IsCore}
use Rattle.mark_core.proofs.HeldBlock.{roots-length}
use Rattle.mark_core.proofs.Blocks.BlocksStopped.{Taken, within, in-place, mine as own-fact}
use Rattle.mark_core.proofs.Doing.{all-push}
use Rattle.mark_core.proofs.References.ReferencesRoots.{mutator-is, has-use, read-whole, roots-same, seat-formed}
use Rattle.mark_core.specs.declared.kinds.Shape.{Shape}
use Rattle.mark_core.specs.declared.kinds.Step.{Step}
use Rattle.mark_core.specs.declared.kinds.Step.TheVariants.{StoreRoot, Split, Join, StoreSlot, HoldRoot, FlushRoot}
use Rattle.mark_core.specs.declared.seat.SeatState.{SeatState}

by_place : (b : Bool) (i w : ℕ) → Some w ≡ cond b (Some i) None → w ≡ i
by_place true i w e = ap (λ (o : Option ℕ). unwrap_or o 0) e
by_place false i w e = absurd (true≢false (sym (ap is_none e)))

-- the section of a seat is its number
pub section-is : (n i w : ℕ) (o : Option ℕ) → o ≡ cond (nat_lt i n) (Some i) None → o ≡ Some w → w ≡ i
section-is n i w o e f = by_place (nat_lt i n) i w (sym f ∙ e)

-- the section of a seat exists
within_sections : (n j w : ℕ) (b : Bool) → nat_lt j n ≡ b → Some w ≡ cond b (Some j) None → w < n
within_sections n j w true e f = omega (arith, by_place true j w f, ltb-true j n e)
within_sections n j w false e f = absurd (true≢false (sym (ap is_none f)))

-- a root of another section stays when one is stored
other_root : (roots : List ℕ) (i j u v r : ℕ) → i ≢ j → u < 32 → v < 32 → get_or (set roots (i * 32 + v) r) (j * 32 + u) 0 ≡ get_or roots (j * 32 + u) 0
other_root roots i j u v r n hu hv = get_or-set_other roots (i * 32 + v) (j * 32 + u) r 0 (λ e. n (omega (arith, e, hu, hv)))

env_at : (roots : List ℕ) (n i j v r l : ℕ) (env : List ℕ) (o : Option ℕ) → i ≢ j → v < 32 → o ≡ cond (nat_lt j n) (Some j) None → IfSome o (λ w. (u : ℕ) → u < 32 → IsFalse (has_bit l u) → slice_index env u ≡ slice_index roots (w * 32 + u))
    → IfSome o (λ w. (u : ℕ) → u < 32 → IsFalse (has_bit l u) → slice_index env u ≡ slice_index (set roots (i * 32 + v) r) (w * 32 + u))
env_at roots n i j v r l env None d hv e k = tt
env_at roots n i j v r l env (Some w) d hv e k = λ u hu b. k u hu b ∙ sym (other_root roots i w u v r (λ z. d (z ∙ section-is n j w (Some w) e refl)) hu hv)

env_other : (roots : List ℕ) (n i j v r : ℕ) (s : SeatState) → i ≢ j → v < 32 → s.section ≡ cond (nat_lt j n) (Some j) None → EnvIsRoots roots s → EnvIsRoots (set roots (i * 32 + v) r) s
env_other roots n i j v r s d hv e k f = env_at roots n i j v r s.lags s.env s.section d hv e (k f)

-- the variable that is stored is the root that is stored
stored_root : (roots env : List ℕ) (l w u v r : ℕ) → u < 32 → v < 32 → length env ≡ 32 → w * 32 + v < length roots → (IsFalse (has_bit l u) → get_or env u 0 ≡ get_or roots (w * 32 + u) 0) → IsFalse (has_bit l u)
    → get_or (set env v r) u 0 ≡ get_or (set roots (w * 32 + v) r) (w * 32 + u) 0
stored_root roots env l w u v r hu hv len h e b =
    ⊎_elim
    (λ (a : u ≡ v). rw (a, get_or-set_same env v r 0 (omega (arith, len, hv)), get_or-set_same roots (w * 32 + v) r 0 h) refl)
    (λ n.
    get_or-set_other env v u r 0 n
    ∙ (e b ∙ sym (get_or-set_other roots (w * 32 + v) (w * 32 + u) r 0 (λ z. n (omega (arith, z))))))
    (cases_eq u v)

-- the variable that is held lags
held_root : (roots env : List ℕ) (l w u v r : ℕ) → (IsFalse (has_bit l u) → get_or env u 0 ≡ get_or roots (w * 32 + u) 0) → IsFalse (has_bit (with_bit l v) u) → get_or (set env v r) u 0 ≡ get_or roots (w * 32 + u) 0
held_root roots env l w u v r e b =
    ⊎_elim
    (λ (a : u ≡ v). absurd (true≢false (sym (with_same l v) ∙ subst (λ (x : ℕ). IsFalse (has_bit (with_bit l v) x)) a b)))
    (λ n. get_or-set_other env v u r 0 n ∙ e (sym (with_other l v u n) ∙ b))
    (cases_eq u v)

hold_at : (roots env : List ℕ) (o : Option ℕ) (l v r : ℕ) → IfSome o (λ w. (u : ℕ) → u < 32 → IsFalse (has_bit l u) → slice_index env u ≡ slice_index roots (w * 32 + u))
    → IfSome o (λ w. (u : ℕ) → u < 32 → IsFalse (has_bit (with_bit l v) u) → slice_index (set env v r) u ≡ slice_index roots (w * 32 + u))
hold_at roots env None l v r k = tt
hold_at roots env (Some w) l v r k = λ u hu b. held_root roots env l w u v r (k u hu) b

-- the seat that holds a reference in a variable
hold_env : (c : Core) (i : ℕ) (s : SeatState) (v r : ℕ) → Taken c i s (HoldRoot v r) → EnvIsRoots (words_of c.shape c.words).roots (seat_after c.shape s (HoldRoot v r) (found c s (HoldRoot v r)))
hold_env c i s v r k f =
    let w : Words = words_of c.shape c.words in
    let before : EnvIsRoots w.roots s = own-fact c i s (HoldRoot v r) (EnvIsRoots w.roots) k k.core.sound.references.env_is_roots in
    hold_at w.roots s.env s.section s.lags v (reference_in r) (before f)

-- the roots of a section without a seat are those of a new seat
new_env : (sh : Shape) (roots : List ℕ) (n m : ℕ) (b : Bool) → (b ≡ true → n < m) → ((k : ℕ) → n * 32 ≤ k → k < m * 32 → get_or roots k 0 ≡ 0) → IfSome (cond b (Some n) None) (λ w. (v : ℕ) → v < 32 → IsFalse (has_bit 0 v) → get_or (start_seat sh n).env v 0 ≡ get_or roots (w * 32 + v) 0)
new_env sh roots n m true l k = λ v h b. get_or-replicate 32 v 0 0 h ∙ sym (k (n * 32 + v) (omega arith) (omega (arith, l refl, h)))
new_env sh roots n m false l k = tt

-- a slot is stored, which is no variable
env_slot : (roots : List ℕ) (n j k r l : ℕ) (env : List ℕ) (o : Option ℕ) → o ≡ cond (nat_lt j n) (Some j) None → IfSome o (λ w. (u : ℕ) → u < 32 → IsFalse (has_bit l u) → slice_index env u ≡ slice_index roots (w * 32 + u))
    → IfSome o (λ w. (u : ℕ) → u < 32 → IsFalse (has_bit l u) → slice_index env u ≡ slice_index (set roots (n * 32 + k) r) (w * 32 + u))
env_slot roots n j k r l env None e f = tt
env_slot roots n j k r l env (Some w) e f = λ u hu b. f u hu b ∙ sym (get_or-set_other roots (n * 32 + k) (w * 32 + u) r 0 (λ z. omega (arith, z, hu, within_sections n j w (nat_lt j n) refl e)))

store_at : (roots env : List ℕ) (o : Option ℕ) (n i v x r : ℕ) → x ≡ r → v < 32 → length env ≡ 32 → unwrap_or o 0 * 32 + v < length roots → o ≡ Some i → IfSome o (λ w. (u : ℕ) → u < 32 → IsFalse (has_bit n u) → slice_index env u ≡ slice_index roots (w * 32 + u))
    → IfSome o (λ w. (u : ℕ) → u < 32 → IsFalse (has_bit n u) → slice_index (set env v x) u ≡ slice_index (set roots (unwrap_or o 0 * 32 + v) r) (w * 32 + u))
store_at roots env None n i v x r a hv l h e k = tt
store_at roots env (Some w) n i v x r a hv l h e k = λ u hu b. rw a (stored_root roots env n w u v r hu hv l h (k u hu) b)

-- the seat that stores a root
store_env : (c : Core) (i : ℕ) (s : SeatState) (v r : ℕ) → Taken c i s (StoreRoot v r) → EnvIsRoots (words_left c s (StoreRoot v r)).roots (seat_after c.shape s (StoreRoot v r) (found c s (StoreRoot v r)))
store_env c i s v r k f =
    let w : Words = words_of c.shape c.words in
    let step : Step = StoreRoot v r in
    let a = and_parts (nat_lt v 32) (may_mutate s) k.ok.0 in
    let place = (mutator-is s a.1).1 in
    let h : unwrap_or s.section 0 * 32 + v < root_count c.shape = in-place c i s step k in
    let whole : reference_in r ≡ r = read-whole c i s step r k (has-use c i s step r k k.ok.1.0) in
    let before : EnvIsRoots w.roots s = own-fact c i s step (EnvIsRoots w.roots) k k.core.sound.references.env_is_roots in
    store_at w.roots s.env s.section s.lags place.0 v (reference_in r) r whole (ltb-true v 32 a.0) (seat-formed c i s step k).env (subst (λ (n : ℕ). unwrap_or s.section 0 * 32 + v < n) (sym (roots-length c k.core)) h) place.1 (before f)

-- a variable that is stored in its root is as it was
flushed_root : (roots env : List ℕ) (l w u v r : ℕ) → u < 32 → v < 32 → w * 32 + v < length roots → get_or env v 0 ≡ r → (IsFalse (has_bit l u) → get_or env u 0 ≡ get_or roots (w * 32 + u) 0) → IsFalse (has_bit (without_bit l v) u)
    → get_or env u 0 ≡ get_or (set roots (w * 32 + v) r) (w * 32 + u) 0
flushed_root roots env l w u v r hu hv h z e b =
    ⊎_elim
    (λ (a : u ≡ v). rw (a, get_or-set_same roots (w * 32 + v) r 0 h) z)
    (λ n. e (sym (without_other l v u (omega (arith, hv)) (omega (arith, hu)) n) ∙ b) ∙ sym (get_or-set_other roots (w * 32 + v) (w * 32 + u) r 0 (λ y. n (omega (arith, y)))))
    (cases_eq u v)

flush_at : (roots env : List ℕ) (o : Option ℕ) (n i v : ℕ) → v < 32 → unwrap_or o 0 * 32 + v < length roots → o ≡ Some i → IfSome o (λ w. (u : ℕ) → u < 32 → IsFalse (has_bit n u) → slice_index env u ≡ slice_index roots (w * 32 + u))
    → IfSome o (λ w. (u : ℕ) → u < 32 → IsFalse (has_bit (without_bit n v) u) → slice_index env u ≡ slice_index (set roots (unwrap_or o 0 * 32 + v) (slice_index env v)) (w * 32 + u))
flush_at roots env None n i v hv h e k = tt
flush_at roots env (Some w) n i v hv h e k = λ u hu b. flushed_root roots env n w u v (slice_index env v) hu hv h refl (k u hu) b

flush_env : (c : Core) (i : ℕ) (s : SeatState) (v : ℕ) → Taken c i s (FlushRoot v) → EnvIsRoots (words_left c s (FlushRoot v)).roots (seat_after c.shape s (FlushRoot v) (found c s (FlushRoot v)))
flush_env c i s v k f =
    let w : Words = words_of c.shape c.words in
    let step : Step = FlushRoot v in
    let a = and_parts (nat_lt v 32) (may_mutate s) k.ok.0 in
    let place = (mutator-is s a.1).1 in
    let h : unwrap_or s.section 0 * 32 + v < root_count c.shape = in-place c i s step k in
    let before : EnvIsRoots w.roots s = own-fact c i s step (EnvIsRoots w.roots) k k.core.sound.references.env_is_roots in
    flush_at w.roots s.env s.section s.lags place.0 v (ltb-true v 32 a.0) (subst (λ (n : ℕ). unwrap_or s.section 0 * 32 + v < n) (sym (roots-length c k.core)) h) place.1 (before f)

-- the seats of a state, each at its place
pub seat-section : (c : Core) (j : ℕ) (d : SeatState) → IsCore c → j < length c.seats → (get_or c.seats j d).section ≡ cond (nat_lt j c.shape.sections) (Some j) None
seat-section c j d k h = (k.formed.seats j (get_or c.seats j d) (slice_get-get_or c.seats j d h)).section

stored_envs : (c : Core) (i : ℕ) (s t : SeatState) (step : Step) (v r : ℕ) → Taken c i s step → may_mutate s ≡ true → v < 32 → EnvIsRoots (set (words_of c.shape c.words).roots (unwrap_or s.section 0 * 32 + v) r) t
    → All (EnvIsRoots (set (words_of c.shape c.words).roots (unwrap_or s.section 0 * 32 + v) r)) (set c.seats i t)
stored_envs c i s t step v r k mu hv own j d h =
    let w : Words = words_of c.shape c.words in
    let P : SeatState → Type 0 = EnvIsRoots (set w.roots (unwrap_or s.section 0 * 32 + v) r) in
    let place = (mutator-is s mu).1 in
    let at : unwrap_or s.section 0 ≡ i = ap (λ (o : Option ℕ). unwrap_or o 0) place.1 ∙ section-is c.shape.sections i place.0 s.section (seat-formed c i s step k).section place.1 in
    let l : j < length c.seats = subst (λ (n : ℕ). j < n) (length-set c.seats i t) h in
    ⊎_elim
    (λ (z : j ≡ i). let e : get_or (set c.seats i t) j d ≡ t = rw z (get_or-set_same c.seats i t d (within c i s step k)) in subst P (sym e) own)
    (λ n.
    let old : EnvIsRoots (set w.roots (i * 32 + v) r) (get_or c.seats j d) =
    env_other w.roots c.shape.sections i j v r (get_or c.seats j d) (λ z. n (sym z)) hv (seat-section c j d k.core l) (k.core.sound.references.env_is_roots j d l) in
    subst P (sym (get_or-set_other c.seats i j t d n)) (subst (λ (x : ℕ). EnvIsRoots (set w.roots (x * 32 + v) r) (get_or c.seats j d)) (sym at) old))
    (cases_eq j i)

-- the variables of each seat are the roots of its section after the step
pub env-roots : (c : Core) (i : ℕ) (s : SeatState) (step : Step) → Taken c i s step → All (EnvIsRoots (words_left c s step).roots) (seats_left c i s step)
env-roots c i s (StoreRoot v r) k =
    let a = and_parts (nat_lt v 32) (may_mutate s) k.ok.0 in
    stored_envs c i s (seat_after c.shape s (StoreRoot v r) (found c s (StoreRoot v r))) (StoreRoot v r) v r k a.1 (ltb-true v 32 a.0) (store_env c i s v r k)
env-roots c i s (FlushRoot v) k =
    let a = and_parts (nat_lt v 32) (may_mutate s) k.ok.0 in
    stored_envs c i s (seat_after c.shape s (FlushRoot v) (found c s (FlushRoot v))) (FlushRoot v) v (seat_variable s v) k a.1 (ltb-true v 32 a.0) (flush_env c i s v k)
env-roots c i s (StoreSlot j r) k =
    let w : Words = words_of c.shape c.words in
    let step : Step = StoreSlot j r in
    let P : SeatState → Type 0 = EnvIsRoots (words_left c s step).roots in
    let all : All P c.seats =
    λ q d h f. let t : SeatState = get_or c.seats q d in env_slot w.roots c.shape.sections q (unwrap_or s.section 0 * c.shape.slots + j) r t.lags t.env t.section (seat-section c q d k.core h) (k.core.sound.references.env_is_roots q d h f) in
    let mine : P s = own-fact c i s step P k all in
    All-set P c.seats i (seat_after c.shape s step (found c s step)) mine all
env-roots c i s Split k =
    let w : Words = words_of c.shape c.words in
    let P : SeatState → Type 0 = EnvIsRoots w.roots in
    let n : ℕ = length (set c.seats i s) in
    let before : All P c.seats = k.core.sound.references.env_is_roots in
    all-push P (set c.seats i s) (start_seat c.shape n) (All-set P c.seats i s (own-fact c i s Split P k before) before)
    (λ f. new_env c.shape w.roots n c.shape.sections (nat_lt n c.shape.sections) (λ e. ltb-true n c.shape.sections e) (λ j h l. k.core.sound.references.unseated_nil j (subst (λ (m : ℕ). m * 32 ≤ j) (length-set c.seats i s) h) l))
env-roots c i s (Join other) k =
    let w : Words = words_of c.shape c.words in
    let P : SeatState → Type 0 = EnvIsRoots w.roots in
    let before : All P c.seats = k.core.sound.references.env_is_roots in
    All-set P (set c.seats i s) other (spent_seat c.shape other) (λ f. absurd (true≢false f)) (All-set P c.seats i s (own-fact c i s (Join other) P k before) before)
env-roots c i s (HoldRoot v r) k =
    let P : SeatState → Type 0 = EnvIsRoots (words_of c.shape c.words).roots in
    let before : All P c.seats = k.core.sound.references.env_is_roots in
    let t : SeatState = seat_after c.shape s (HoldRoot v r) (found c s (HoldRoot v r)) in
    subst (λ (rs : List ℕ). All (EnvIsRoots rs) (set c.seats i t)) (sym (roots-same c i s (HoldRoot v r) k refl)) (All-set P c.seats i t (hold_env c i s v r k) before)
env-roots c i s step k =
    let P : SeatState → Type 0 = EnvIsRoots (words_of c.shape c.words).roots in
    let before : All P c.seats = k.core.sound.references.env_is_roots in
    let t : SeatState = seat_after c.shape s step (found c s step) in
    let mine : P s = own-fact c i s step P k before in
    subst (λ (rs : List ℕ). All (EnvIsRoots rs) (set c.seats i t)) (sym (roots-same c i s step k refl)) (All-set P c.seats i t mine before)

-- a mutator's section is its number
pub own-section : (c : Core) (i : ℕ) (s : SeatState) (step : Step) → Taken c i s step → may_mutate s ≡ true → unwrap_or s.section 0 ≡ i
own-section c i s step k e =
    let place = (mutator-is s e).1 in
    ap (λ (o : Option ℕ). unwrap_or o 0) place.1 ∙ section-is c.shape.sections i place.0 s.section (seat-formed c i s step k).section place.1

-- the variables of a section that has had no seat stay nil
pub unseated-nil : (c : Core) (i : ℕ) (s : SeatState) (step : Step) → Taken c i s step → (j : ℕ) → length (seats_left c i s step) * 32 ≤ j → j < c.shape.sections * 32 → slice_index (words_left c s step).roots j ≡ 0
unseated-nil c i s (StoreRoot v r) k j h b =
    let w : Words = words_of c.shape c.words in
    let step : Step = StoreRoot v r in
    let a = and_parts (nat_lt v 32) (may_mutate s) k.ok.0 in
    let t : SeatState = seat_after c.shape s step (found c s step) in
    let l : length (set c.seats i t) ≡ length c.seats = length-set c.seats i t in
    get_or-set_other w.roots (unwrap_or s.section 0 * 32 + v) j r 0 (λ e. omega (arith, e, own-section c i s step k a.1, h, l, within c i s step k, ltb-true v 32 a.0))
    ∙ k.core.sound.references.unseated_nil j (omega (arith, h, l)) b
unseated-nil c i s (FlushRoot v) k j h b =
    let w : Words = words_of c.shape c.words in
    let step : Step = FlushRoot v in
    let a = and_parts (nat_lt v 32) (may_mutate s) k.ok.0 in
    let t : SeatState = seat_after c.shape s step (found c s step) in
    let l : length (set c.seats i t) ≡ length c.seats = length-set c.seats i t in
    get_or-set_other w.roots (unwrap_or s.section 0 * 32 + v) j (seat_variable s v) 0 (λ e. omega (arith, e, own-section c i s step k a.1, h, l, within c i s step k, ltb-true v 32 a.0))
    ∙ k.core.sound.references.unseated_nil j (omega (arith, h, l)) b
unseated-nil c i s (StoreSlot q r) k j h b =
    let w : Words = words_of c.shape c.words in
    let t : SeatState = seat_after c.shape s (StoreSlot q r) (found c s (StoreSlot q r)) in
    get_or-set_other w.roots (c.shape.sections * 32 + (unwrap_or s.section 0 * c.shape.slots + q)) j r 0 (λ e. omega (arith, e, b)) ∙ k.core.sound.references.unseated_nil j (omega (arith, h, length-set c.seats i t)) b
unseated-nil c i s Split k j h b = k.core.sound.references.unseated_nil j (omega (arith, h, length-set c.seats i s, length-append (set c.seats i s) (start_seat c.shape (length (set c.seats i s)) ∷ []))) b
unseated-nil c i s (Join other) k j h b = k.core.sound.references.unseated_nil j (omega (arith, h, length-set c.seats i s, length-set (set c.seats i s) other (spent_seat c.shape other))) b
unseated-nil c i s step k j h b =
    let t : SeatState = seat_after c.shape s step (found c s step) in
    ap (λ (rs : List ℕ). slice_index rs j) (roots-same c i s step k refl) ∙ k.core.sound.references.unseated_nil j (omega (arith, h, length-set c.seats i t)) b

-- more seats have more slots
fewer : (m n d j : ℕ) → m ≤ n → n * d ≤ j → m * d ≤ j
fewer m n d j h l = omega (arith, mul-le-mul_right d h, l)

-- the slots of a section that has had no seat stay nil
pub unseated-slots : (c : Core) (i : ℕ) (s : SeatState) (step : Step) → Taken c i s step → (j : ℕ) → length (seats_left c i s step) * c.shape.slots ≤ j → slice_index (words_left c s step).roots (c.shape.sections * 32 + j) ≡ 0
unseated-slots c i s (StoreRoot v r) k j h =
    let w : Words = words_of c.shape c.words in
    let step : Step = StoreRoot v r in
    let t : SeatState = seat_after c.shape s step (found c s step) in
    let hv : v < 32 = ltb-true v 32 (and_parts (nat_lt v 32) (may_mutate s) k.ok.0).0 in
    get_or-set_other w.roots (unwrap_or s.section 0 * 32 + v) (c.shape.sections * 32 + j) r 0 (λ e. omega (arith, e, hv, (in_range c i s k.core k.got).section))
    ∙ k.core.sound.references.unseated_slots_nil j (fewer (length c.seats) (length (set c.seats i t)) c.shape.slots j (omega (arith, length-set c.seats i t)) h)
unseated-slots c i s (FlushRoot v) k j h =
    let w : Words = words_of c.shape c.words in
    let step : Step = FlushRoot v in
    let t : SeatState = seat_after c.shape s step (found c s step) in
    let hv : v < 32 = ltb-true v 32 (and_parts (nat_lt v 32) (may_mutate s) k.ok.0).0 in
    get_or-set_other w.roots (unwrap_or s.section 0 * 32 + v) (c.shape.sections * 32 + j) (seat_variable s v) 0 (λ e. omega (arith, e, hv, (in_range c i s k.core k.got).section))
    ∙ k.core.sound.references.unseated_slots_nil j (fewer (length c.seats) (length (set c.seats i t)) c.shape.slots j (omega (arith, length-set c.seats i t)) h)
unseated-slots c i s (StoreSlot q r) k j h =
    let w : Words = words_of c.shape c.words in
    let step : Step = StoreSlot q r in
    let a = and_parts (nat_lt q c.shape.slots) (may_mutate s) k.ok.0 in
    let t : SeatState = seat_after c.shape s step (found c s step) in
    let below : length c.seats * c.shape.slots ≤ j = fewer (length c.seats) (length (set c.seats i t)) c.shape.slots j (omega (arith, length-set c.seats i t)) h in
    let own : unwrap_or s.section 0 < length c.seats = omega (arith, own-section c i s step k a.1, within c i s step k) in
    let row = in-row (unwrap_or s.section 0) (length c.seats) c.shape.slots q own (ltb-true q c.shape.slots a.0) in
    get_or-set_other w.roots (c.shape.sections * 32 + (unwrap_or s.section 0 * c.shape.slots + q)) (c.shape.sections * 32 + j) r 0 (λ e. omega (arith, e, row, below)) ∙ k.core.sound.references.unseated_slots_nil j below
unseated-slots c i s Split k j h =
    let n : ℕ = length (set c.seats i s) in
    k.core.sound.references.unseated_slots_nil j (fewer (length c.seats) (length (set c.seats i s ++ start_seat c.shape n ∷ [])) c.shape.slots j (omega (arith, length-set c.seats i s, length-append (set c.seats i s) (start_seat c.shape n ∷ []))) h)
unseated-slots c i s (Join other) k j h =
    let ended : List SeatState = set (set c.seats i s) other (spent_seat c.shape other) in
    k.core.sound.references.unseated_slots_nil j (fewer (length c.seats) (length ended) c.shape.slots j (omega (arith, length-set c.seats i s, length-set (set c.seats i s) other (spent_seat c.shape other))) h)
unseated-slots c i s step k j h =
    let t : SeatState = seat_after c.shape s step (found c s step) in
    ap (λ (rs : List ℕ). slice_index rs (c.shape.sections * 32 + j)) (roots-same c i s step k refl)
    ∙ k.core.sound.references.unseated_slots_nil j (fewer (length c.seats) (length (set c.seats i t)) c.shape.slots j (omega (arith, length-set c.seats i t)) h)
