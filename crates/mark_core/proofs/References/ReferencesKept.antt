-- Each event that is allowed keeps the rule of references: none dangles.
use Rattle.std.proofs.Common.{ℕ, ◌≡◌, ◌+◌, ◌*◌, ◌/◌, ◌<◌, ◌≤◌, List, get_or, length, arith, refl, sym, ap, ◌∙◌, subst, Bool, true, false, ◌&&◌, ◌||◌, cond, Option, Some, None, ⊎_elim}
use Rattle.std.specs.Prelude.{IsTrue, IfSome, slice_index, unwrap_or, is_some, is_none, nat_lt, nat_le, IsFalse}
use Rattle.std.specs.List.{All, list_any}
use Rattle.std.proofs.lemmas.Bool.{true≢false, and_parts, or_cases, or_parts, or_left, or_right, ltb-true, lt-ltb, leb-true, cases_Bool, eqb-true}
use Rattle.std.proofs.lemmas.Grind.{get_or_default_zero}
use Rattle.std.proofs.lemmas.Option.{slice_get-get_or}
use Rattle.std.proofs.lemmas.List.Folds.{list_any_none}
use Rattle.mark_core.specs.Layout.{Words, words_of, block_count}
use Rattle.mark_core.specs.Bits.{cell_bit, has_bit, nil_or}
use Rattle.mark_core.specs.Seats.{is_phase, has_turn}
use Rattle.mark_core.specs.Views.{makers, blocks}
use Rattle.mark_core.specs.Cells.{used_by, field, is_unswept, is_swept_block, AllGo}
use Rattle.mark_core.specs.Rules.HeapRules.{NamesInUse, EnvIsRoots, References}
use Rattle.mark_core.specs.Steps.SweepSteps.{own_block, survivors}
use Rattle.mark_core.specs.Rules.WorldRules.{is_stopped_phase}
use Rattle.mark_core.specs.Steps.WorldSteps.{blocks_done, none_marked, phase_after, is_move}
use Rattle.mark_core.specs.Effects.{seat_after, written}
use Rattle.mark_core.specs.Steps.{Core, failing_part, after_event}
use Rattle.mark_core.specs.Laws.{IsCore}
use Rattle.mark_core.proofs.Known.{found, words_left, seats_left, Acted, acts}
use Rattle.mark_core.proofs.HeldBlock.{roots-length, own-strong}
use Rattle.mark_core.proofs.Blocks.BlocksStopped.{Taken, mine as own-fact, words-read, sweeping, still-stopped}
use Rattle.mark_core.proofs.Blocks.BlocksSteps.{none-at-move}
use Rattle.mark_core.proofs.Writing.CellBits.{bits-grow, no-bit}
use Rattle.mark_core.proofs.Doing.{local-kept}
use Rattle.mark_core.proofs.References.ReferencesEnv.{seat-section, env-roots, unseated-nil, unseated-slots}
use Rattle.mark_core.proofs.References.ReferencesRoots.{new-names, names-used, Used, UsedAfter, nil-on, roots-used}
use Rattle.mark_core.proofs.References.ReferencesFields.{FieldsUsed, fields-used}
use Rattle.mark_core.proofs.Consequences.Closing.{Kept, either-way, kept-below, kept-unswept, own-unswept, survives}
use Rattle.mark_core.proofs.Used.UsedKept.{used-on, used-back, still-made}
use Rattle.mark_core.specs.declared.kinds.Phase.TheVariants.{Idle, Sweep, Marking, Drain, Clear, Full}
use Rattle.mark_core.specs.declared.kinds.Step.TheVariants.{StoreAlloc, StorePhase, ReadPhase}
use Rattle.mark_core.specs.declared.seat.SeatState.{SeatState}
use Rattle.mark_core.proofs.Pool.PoolsKept.{shape-kept}
use Rattle.mark_core.proofs.Writing.Writes.{phase-kept}
use Rattle.mark_core.specs.declared.kinds.Shape.{Shape}
use Rattle.mark_core.specs.declared.kinds.Event.{Event}
use Rattle.mark_core.specs.declared.kinds.Phase.{Phase}
use Rattle.mark_core.specs.declared.kinds.Step.{Step}

-- What the sweep keeps is in use when it has stored the allocation bits of a block, and when it ends.
-- a cell that is kept is in use
pub kept-used : (c : Core) (x : ℕ) → IsCore c → Kept c x ≡ true → Used c x ≡ true
kept-used c x k e =
    let w : Words = words_of c.shape c.words in
    ⊎_elim
    (λ (a : Used c x ≡ true). a)
    (λ (a : cell_bit w.marks x ≡ true). k.sound.marks.marked_in_use x (kept-below c x k e) a)
    (either-way (is_swept_block w.next_block (blocks c.seats) (x / 64)) (Used c x) (cell_bit w.marks x) e)

-- a cell that is kept stays in use when the bits of a block are stored
pub kept-on : (c : Core) (i : ℕ) (s : SeatState) (x : ℕ) → Taken c i s StoreAlloc → Kept c x ≡ true → UsedAfter c i s StoreAlloc x ≡ true
kept-on c i s x k e =
    let w : Words = words_of c.shape c.words in
    let b : ℕ = own_block s in
    let bit : Bool = cell_bit (words_left c s StoreAlloc).allocs x in
    let some : Bool = list_any (used_by x) (makers (seats_left c i s StoreAlloc)) in
    let marked : is_unswept (x / 64) s.block ≡ true → cell_bit w.marks x ≡ true = λ u. sym (kept-unswept w.next_block (blocks c.seats) w.allocs w.marks (makers c.seats) x (own-unswept c i s StoreAlloc (x / 64) k u)) ∙ e in
    ⊎_elim
    (λ (a : cell_bit w.allocs x ≡ true).
    or_left bit some
    (bits-grow w.allocs b (survivors s.block) x
    (λ z _. survives w.phase w.next_block w.allocs w.marks s.block x k.ok.1.0 (own-strong c i s StoreAlloc k) (sym z) a marked)
    a))
    (λ (a : list_any (used_by x) (makers c.seats) ≡ true).
    ⊎_elim (λ (u : bit ≡ true). or_left bit some u) (λ (u : some ≡ true). or_right bit some u) (still-made c i s StoreAlloc x k a))
    (or_cases (cell_bit w.allocs x) (list_any (used_by x) (makers c.seats)) (kept-used c x k.core e))

in_sweep : (c : Core) (i : ℕ) (s : SeatState) → Taken c i s StoreAlloc → is_phase (words_of c.shape c.words).phase Sweep ≡ true
in_sweep c i s k = rw (sweeping c i s StoreAlloc k k.ok.0) refl

-- so the roots go to cells in use
pub swept-roots : (c : Core) (i : ℕ) (s : SeatState) → Taken c i s StoreAlloc → AllGo (UsedAfter c i s StoreAlloc) (words_left c s StoreAlloc).roots
swept-roots c i s k j d h =
    nil-on (Kept c) (UsedAfter c i s StoreAlloc) (get_or (words_of c.shape c.words).roots j d) (λ x e. kept-on c i s x k e) (k.core.sound.sweeping.roots_kept (in_sweep c i s k) j d h)

some_of : (o : Option ℕ) → is_none o ≡ false → (w : ℕ) × (o ≡ Some w)
some_of None e = absurd (true≢false e)
some_of (Some w) e = (w, refl)

at_section : (env roots : List ℕ) (l : ℕ) (o : Option ℕ) (w : ℕ) → o ≡ Some w → l ≡ 0 → IfSome o (λ x. (v : ℕ) → v < 32 → IsFalse (has_bit l v) → slice_index env v ≡ slice_index roots (x * 32 + v)) → (v : ℕ) → v < 32 → slice_index env v ≡ slice_index roots (w * 32 + v)
at_section env roots l o w e z k v h = subst (λ (y : Option ℕ). IfSome y (λ x. (v : ℕ) → v < 32 → IsFalse (has_bit l v) → slice_index env v ≡ slice_index roots (x * 32 + v))) e k v h (ap (λ (m : ℕ). has_bit m v) z ∙ no-bit v)

-- what each seat names is in use, since its variables are roots or nil
swept_env : (c : Core) (p : ℕ → Bool) (t : SeatState) → AllGo p (words_of c.shape c.words).roots → t.lags ≡ 0 → EnvIsRoots (words_of c.shape c.words).roots t → (IsTrue (t.spent || is_none t.section) → All (λ r. r ≡ 0) t.env) → length t.env ≡ 32
    → ((w : ℕ) → t.section ≡ Some w → w * 32 + 32 ≤ length (words_of c.shape c.words).roots) → AllGo p t.env
swept_env c p t a n f z l q j d h =
    ⊎_elim
    (λ (e : (t.spent || is_none t.section) ≡ true). rw (z e j d h) refl)
    (λ (e : (t.spent || is_none t.section) ≡ false).
    let o = or_parts t.spent (is_none t.section) e in
    let s = some_of t.section o.1 in
    let same : get_or t.env j d ≡ get_or (words_of c.shape c.words).roots (s.0 * 32 + j) 0 = get_or_default_zero t.env j d h ∙ at_section t.env (words_of c.shape c.words).roots t.lags t.section s.0 s.1 n (f o.0) j (omega (arith, h, l)) in
    subst (λ (r : ℕ). nil_or p r ≡ true) (sym same) (a (s.0 * 32 + j) 0 (omega (arith, q s.0 s.1, h, l))))
    (cases_Bool (t.spent || is_none t.section))

section_fits : (n j w l : ℕ) (b : Bool) → nat_lt j n ≡ b → Some w ≡ cond b (Some j) None → n * 32 ≤ l → w * 32 + 32 ≤ l
section_fits n j w l true e f g = let z : w ≡ j = ap (λ (o : Option ℕ). unwrap_or o 0) f in omega (arith, z, g, ltb-true j n e)
section_fits n j w l false e f g = absurd (true≢false (ap is_some f))

-- the sections' roots are there
section_roots : (c : Core) (j : ℕ) (d : SeatState) (w : ℕ) → IsCore c → j < length c.seats → (get_or c.seats j d).section ≡ Some w → w * 32 + 32 ≤ length (words_of c.shape c.words).roots
section_roots c j d w k h e = section_fits c.shape.sections j w (length (words_of c.shape c.words).roots) (nat_lt j c.shape.sections) refl (sym e ∙ seat-section c j d k h) (omega (arith, roots-length c k))

pub swept-names : (c : Core) (i : ℕ) (s : SeatState) → Taken c i s StoreAlloc → All (NamesInUse (words_left c s StoreAlloc).allocs (makers (seats_left c i s StoreAlloc))) (seats_left c i s StoreAlloc)
swept-names c i s k =
    let p : ℕ → Bool = UsedAfter c i s StoreAlloc in
    let P : SeatState → Type 0 = λ t. AllGo p t.env × IsTrue (nil_or p t.got) in
    let still = still-stopped c k.core (ap (λ (n : ℕ). is_stopped_phase n) (sweeping c i s StoreAlloc k k.ok.0)) in
    let all : All P c.seats =
    λ j d h. (
      swept_env c p (get_or c.seats j d) (swept-roots c i s k) (k.core.sound.season.lags_in_turn j d h (ap (λ (b : Bool). b && has_turn (get_or c.seats j d).section (get_or c.seats j d).season_seen) (still j d h))) (k.core.sound.references.env_is_roots j d h) (k.core.strong.seats_strong j d h).env_of_spent (k.core.formed.seats j (get_or c.seats j d) (slice_get-get_or c.seats j d h)).env (λ w e. section_roots c j d w k.core h e),
      rw (k.core.sound.world.inactive_calm j d h (still j d h)).register_nil refl,
    ) in
    local-kept P c.shape StoreAlloc c.seats i (seat_after c.shape s StoreAlloc (found c s StoreAlloc)) (new-names p c.shape) (new-names p c.shape) all (own-fact c i s StoreAlloc P k all)

-- when the sweep ends, what it kept is in use
done_used : (c : Core) (i : ℕ) (s : SeatState) (x : ℕ) → Taken c i s (StorePhase Idle) → Kept c x ≡ true → UsedAfter c i s (StorePhase Idle) x ≡ true
done_used c i s x k e = used-on c i s (StorePhase Idle) x k refl (kept-used c x k.core e)

-- a cell that is in use when the sweep ends was kept
used_kept : (c : Core) (i : ℕ) (s : SeatState) (x : ℕ) → Taken c i s (StorePhase Idle) → x < c.shape.cells → Used c x ≡ true → Kept c x ≡ true
used_kept c i s x k h e =
    let w : Words = words_of c.shape c.words in
    let a = and_parts s.knows (blocks_done c.shape w s) k.ok.1.0 in
    let b = and_parts (nat_le (block_count c.shape) w.next_block && is_none s.block) (none_marked w.marks) a.1 in
    let n : block_count c.shape ≤ w.next_block = leb-true (block_count c.shape) w.next_block (and_parts (nat_le (block_count c.shape) w.next_block) (is_none s.block) b.0).0 in
    let none : list_any (is_unswept (x / 64)) (blocks c.seats) ≡ false = list_any_none (is_unswept (x / 64)) (blocks c.seats) (λ j d l. ap (is_unswept (x / 64)) (none-at-move c i s Idle k j d l)) in
    let swept : is_swept_block w.next_block (blocks c.seats) (x / 64) ≡ true = rw (none, lt-ltb (x / 64) w.next_block (omega (arith, n, h, k.core.formed.shaped.whole_blocks))) refl in
    rw swept e

pub swept-fields : (c : Core) (i : ℕ) (s : SeatState) → Taken c i s (StorePhase Idle) → is_phase (words_of c.shape c.words).phase Sweep ≡ true → FieldsUsed c i s (StorePhase Idle)
swept-fields c i s k e x h u j l =
    let before : Used c x ≡ true = ⊎_elim (λ (a : Used c x ≡ true). a) (λ (m : ⊥). absurd m) (used-back c i s (StorePhase Idle) x k u) in
    nil-on (Kept c) (UsedAfter c i s (StorePhase Idle)) (field c.shape (words_of c.shape c.words).fields x j) (λ y f. done_used c i s y k f) (k.core.sound.sweeping.fields_kept e x h (used_kept c i s x k h before) j l)

-- the rule after the step
abbrev ReferencesLeft : Core → ℕ → SeatState → Step → Type 0
ReferencesLeft c i s step =
    References c.shape (words_left c s step).phase (words_left c s step).roots (words_left c s step).allocs (words_left c s step).fields (makers (seats_left c i s step)) (seats_left c i s step)

-- the move out of the sweep goes only to Idle
out_of_sweep : (c : Core) (i : ℕ) (s : SeatState) (to : Phase) → Taken c i s (StorePhase to) → is_phase (words_of c.shape c.words).phase Sweep ≡ true → IsFalse (is_phase (words_left c s (StorePhase to)).phase Sweep) → FieldsUsed c i s (StorePhase to)
out_of_sweep c i s Idle k e f = swept-fields c i s k e
out_of_sweep c i s Marking k e f = absurd (true≢false (sym (ap (λ (n : ℕ). is_phase (phase_after n Marking) Sweep) (eqb-true (words_of c.shape c.words).phase 3 e)) ∙ f))
out_of_sweep c i s Drain k e f = absurd (true≢false (sym k.ok.0 ∙ ap (λ (n : ℕ). is_move n Drain) (eqb-true (words_of c.shape c.words).phase 3 e)))
out_of_sweep c i s Sweep k e f = absurd (true≢false (sym k.ok.0 ∙ ap (λ (n : ℕ). is_move n Sweep) (eqb-true (words_of c.shape c.words).phase 3 e)))
out_of_sweep c i s Clear k e f = absurd (true≢false (sym k.ok.0 ∙ ap (λ (n : ℕ). is_move n Clear) (eqb-true (words_of c.shape c.words).phase 3 e)))
out_of_sweep c i s Full k e f = absurd (true≢false (sym k.ok.0 ∙ ap (λ (n : ℕ). is_move n Full) (eqb-true (words_of c.shape c.words).phase 3 e)))

moved : (c : Core) (i : ℕ) (s : SeatState) (to : Phase) → Taken c i s (StorePhase to) → IsFalse (is_phase (words_left c s (StorePhase to)).phase Sweep) → FieldsUsed c i s (StorePhase to)
moved c i s to k f =
    ⊎_elim
    (λ (e : is_phase (words_of c.shape c.words).phase Sweep ≡ true). out_of_sweep c i s to k e f)
    (λ (e : is_phase (words_of c.shape c.words).phase Sweep ≡ false). fields-used c i s (StorePhase to) k refl e)
    (cases_Bool (is_phase (words_of c.shape c.words).phase Sweep))

references_at : (c : Core) (i : ℕ) (s : SeatState) (step : Step) → Taken c i s step → ReferencesLeft c i s step
references_at c i s StoreAlloc k =
    record {
      roots_in_use = swept-roots c i s k;
      seats_in_use = swept-names c i s k;
      env_is_roots = env-roots c i s StoreAlloc k;
      unseated_nil = unseated-nil c i s StoreAlloc k;
      unseated_slots_nil = unseated-slots c i s StoreAlloc k;
      fields_in_use = λ e. absurd (true≢false (sym (ap (λ (n : ℕ). is_phase n Sweep) (sweeping c i s StoreAlloc k k.ok.0)) ∙ e));
    }
references_at c i s (StorePhase to) k =
    record {
      roots_in_use = roots-used c i s (StorePhase to) k refl;
      seats_in_use = names-used c i s (StorePhase to) k refl;
      env_is_roots = env-roots c i s (StorePhase to) k;
      unseated_nil = unseated-nil c i s (StorePhase to) k;
      unseated_slots_nil = unseated-slots c i s (StorePhase to) k;
      fields_in_use = moved c i s to k;
    }
references_at c i s ReadPhase k =
    record {
      roots_in_use = roots-used c i s ReadPhase k refl;
      seats_in_use = names-used c i s ReadPhase k refl;
      env_is_roots = env-roots c i s ReadPhase k;
      unseated_nil = unseated-nil c i s ReadPhase k;
      unseated_slots_nil = unseated-slots c i s ReadPhase k;
      fields_in_use = λ e. fields-used c i s ReadPhase k refl (sym (ap (λ (w : Words). is_phase w.phase Sweep) (words-read c i s ReadPhase k refl)) ∙ e);
    }
references_at c i s step k =
    record {
      roots_in_use = roots-used c i s step k refl;
      seats_in_use = names-used c i s step k refl;
      env_is_roots = env-roots c i s step k;
      unseated_nil = unseated-nil c i s step k;
      unseated_slots_nil = unseated-slots c i s step k;
      fields_in_use = λ e. fields-used c i s step k refl (sym (ap (λ (n : ℕ). is_phase n Sweep) (phase-kept c.shape s step (written c.shape s step (found c s step)) (words_of c.shape c.words) refl)) ∙ e);
    }

-- each event that is allowed keeps the rule of references
pub references-kept_by : (c : Core) (e : Event) → IsCore c → failing_part c e ≡ None
    → References (after_event c e).shape (words_of (after_event c e).shape (after_event c e).words).phase (words_of (after_event c e).shape (after_event c e).words).roots
    (words_of (after_event c e).shape (after_event c e).words).allocs (words_of (after_event c e).shape (after_event c e).words).fields (makers (after_event c e).seats)
    (after_event c e).seats
references-kept_by c e k f =
    let r : (s : SeatState) × Acted c e s = acts c e k f in
    let a : Acted c e r.0 = r.1 in
    let s : SeatState = r.0 in
    let here : Taken c e.seat s e.step = record { core = k; got = a.seat; live = a.live; ok = a.ok } in
    let w : Words = words_left c s e.step in
    let P : List SeatState → Type 0 = λ seats. References c.shape w.phase w.roots w.allocs w.fields (makers seats) seats in
    let Q : Words → Type 0 = λ x. References c.shape x.phase x.roots x.allocs x.fields (makers (after_event c e).seats) (after_event c e).seats in
    let R : Shape → Type 0 = λ sh. let x = words_of sh (after_event c e).words in References sh x.phase x.roots x.allocs x.fields (makers (after_event c e).seats) (after_event c e).seats in
    subst R (sym (shape-kept c e)) (subst Q (sym a.words) (subst P (sym a.seats) (references_at c e.seat s e.step here)))
