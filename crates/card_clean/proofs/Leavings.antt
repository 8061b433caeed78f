-- How many objects leave a cleaning, event by event.
use Rattle.std.proofs.Common.{ℕ, zero, suc, ◌≡◌, ◌+◌, ◌/◌, ◌%◌, List, [], ◌∷◌, ◌++◌, arith, refl, sym, ap, ◌∙◌, Bool, true, false, cond, Some, None, Option}
use Rattle.std.specs.Prelude.{◌&&◌, ◌==◌}
use Rattle.std.proofs.lemmas.Bool.{and_parts, false≢true, and_from}
use Rattle.mark_core.specs.Bits.{has_bit, without_bit}
use Rattle.mark_core.specs.Effects.{seat_after}
use Rattle.mark_core.specs.Seats.{left_in}
use Rattle.mark_core.specs.Steps.ColourSteps.{without_cell}
use Rattle.mark_core.specs.declared.kinds.Shape.{Shape}
use Rattle.mark_core.specs.declared.kinds.Step.{Step}
use Rattle.mark_core.specs.declared.kinds.Step.TheVariants.{ReadAlloc, ReadField, DirtyCard, ClearCard, ReadMarks, LoadSlot, Push, ReadRoot, SetMark}
use Rattle.mark_core.specs.declared.seat.Cleaning.{Cleaning}
use Rattle.mark_core.specs.declared.seat.SeatState.{SeatState}
use Rattle.mark_core.proofs.Writing.CellBits.{without_same}
use Rattle.gc_table.specs.declared.view.Entry.{Entry}
use Rattle.gc_table.specs.declared.view.View.{View}
use Rattle.gc_table.specs.Taking.{after}
use Rattle.gc_table.specs.Running.{Ran, after_all}
use Rattle.gc_table.proofs.Running.{ran-events}
use Rattle.packet_pools.specs.Counts.{scans_object, only_scans}
use Rattle.packet_pools.specs.Fields.{fields_read, picked, fields_from}
use Rattle.gc_table.specs.Log.{events, all_steps}
use Rattle.packet_pools.specs.Seeking.{moves_packet, only_moves, output_pools}
use Rattle.card_clean.specs.Leaving.{rescans, rescanned_in}
use Rattle.mark_core.specs.Cards.{block_cells, block_of_card}
use Rattle.mark_core.proofs.Hands.HandsCleaning.{left-dirtied as left-dirty}
use Rattle.card_clean.specs.Drained.{sees_roots}

total-join : (xs ys : List Entry) (v : View) → rescanned_in v (xs ++ ys) ≡ rescanned_in v xs + rescanned_in (after_all xs v) ys
total-join [] ys v = omega arith
total-join (x ∷ xs) ys v = let e = total-join xs ys (after x.step x.found v) in omega (arith, e)

-- one call after another
pub rescanned-join : (u v w : View) → Ran u v → Ran v w → rescanned_in u (events u w) ≡ rescanned_in u (events u v) + rescanned_in v (events v w)
rescanned-join u v w a b =
    ap (rescanned_in u) (ran-events u v w a b)
    ∙ (total-join (events u v) (events v w) u ∙ ap (λ x. rescanned_in u (events u v) + rescanned_in x (events v w)) (sym a.steps))

idle : (qs : List ℕ) (s : SeatState) (step : Step) (found : ℕ) → moves_packet qs step ≡ true → rescans s step found ≡ 0
idle qs s (ReadField c i) found m = absurd (false≢true m)
idle qs s step found m = refl

-- packets that move leave no object
pub rescanned-moves : (qs : List ℕ) (es : List Entry) (v : View) → only_moves qs es ≡ true → rescanned_in v es ≡ 0
rescanned-moves qs [] v m = refl
rescanned-moves qs (e ∷ es) v m =
    let h = and_parts (moves_packet qs e.step) (only_moves qs es) m in
    let one = idle qs v.state e.step e.found h.0 in
    let rest = rescanned-moves qs es (after e.step e.found v) h.1 in
    omega (arith, one, rest)

pub no_first : (x : ℕ × ℕ) (xs : List (ℕ × ℕ)) → x ∷ xs ≡ [] → ⊥
no_first x xs e = cc

-- what is left stays, but for the object whose field is read
left-after : (sh : Shape) (s : SeatState) (step : Step) (n c : ℕ) → scans_object step ≡ true → fields_read step n ≡ [] → left_in (seat_after sh s step n).cleaning c ≡ left_in s.cleaning c
left-after sh s (ReadField x i) n c o e = absurd (no_first (x, i) [] e)
left-after sh s (DirtyCard card) n c o e = left-dirty s.cleaning card c
left-after sh s (ReadAlloc b) n c o e = absurd (false≢true o)
left-after sh s (ClearCard card) n c o e = absurd (false≢true o)
left-after sh s (ReadMarks b) n c o e = absurd (false≢true o)
left-after sh s step n c o e = refl

left-gone : (o : Option Cleaning) (c : ℕ) → left_in (without_cell o c) c ≡ false
left-gone None c = refl
left-gone (Some x) c = by_block (block_of_card x.card == c / block_cells) refl
  where
    less : Cleaning
    less = record x { left = without_bit x.left (c % block_cells); published = without_bit x.published (c % block_cells) }

    and_false : (b d : Bool) → d ≡ false → (b && d) ≡ false
    and_false true d e = e
    and_false false d e = refl

    by_block : (b : Bool) → (block_of_card x.card == c / block_cells) ≡ b → left_in (Some (cond b less x)) c ≡ false
    by_block true e = and_false (block_of_card x.card == c / block_cells) _ (without_same x.left (c % block_cells) (omega arith))
    by_block false e = ap (λ b. b && has_bit x.left (c % block_cells)) e

abbrev pub first_of : List (ℕ × ℕ) → ℕ × ℕ
first_of [] = (0, 0)
first_of (x ∷ xs) = x

abbrev pub rest_after : List (ℕ × ℕ) → List (ℕ × ℕ)
rest_after [] = []
rest_after (x ∷ xs) = xs

same_first : (x y : ℕ × ℕ) (xs ys : List (ℕ × ℕ)) → x ∷ xs ≡ y ∷ ys → (x ≡ y) × (xs ≡ ys)
same_first x y xs ys e = (ap first_of e, ap rest_after e)

-- the fields of an object that isn't left are read
none-step : (c i n : ℕ) (v : View) (step : Step) (found : ℕ) (es : List Entry) → ((w : View) (j m : ℕ) → picked fields_read es ≡ fields_from c j m → left_in w.state.cleaning c ≡ false → rescanned_in w es ≡ 0)
    → scans_object step ≡ true → fields_read step found ++ picked fields_read es ≡ fields_from c i n → left_in v.state.cleaning c ≡ false → rescans v.state step found + rescanned_in (after step found v) es ≡ 0
none-step c i zero v (ReadField x j) found es more o p l = absurd (no_first (x, j) (picked fields_read es) p)
none-step c i (suc n) v (ReadField x j) found es more o p l =
    let h = same_first (x, j) (c, i) (picked fields_read es) (fields_from c (i + 1) n) p in
    let same : x ≡ c = ap (λ (y : ℕ × ℕ). y.0) h.0 in
    let one : rescans v.state (ReadField x j) found ≡ 0 = ap (λ (y : ℕ). cond (left_in v.state.cleaning y) 1 0) same ∙ ap (λ (b : Bool). cond b 1 0) l in
    let rest = more (after (ReadField x j) found v) (i + 1) n h.1 (ap (λ (y : ℕ). left_in (without_cell v.state.cleaning y) c) same ∙ left-gone v.state.cleaning c) in
    omega (arith, one, rest)
none-step c i n v step found es more o p l =
    let rest = more (after step found v) i n p (left-after v.shape v.state step found c o refl ∙ l) in
    omega (arith, rest)

none-leaves : (c : ℕ) (es : List Entry) (v : View) (i n : ℕ) → only_scans es ≡ true → picked fields_read es ≡ fields_from c i n → left_in v.state.cleaning c ≡ false → rescanned_in v es ≡ 0
none-leaves c [] v i n o p l = refl
none-leaves c (e ∷ es) v i n o p l =
    let h = and_parts (scans_object e.step) (only_scans es) o in
    none-step c i n v e.step e.found es (λ w j m q k. none-leaves c es w j m h.1 q k) h.0 p l

-- the fields of one that is left
one-step : (c i n : ℕ) (v : View) (step : Step) (found : ℕ) (es : List Entry) → only_scans es ≡ true → ((w : View) → picked fields_read es ≡ fields_from c i (suc n) → left_in w.state.cleaning c ≡ true → rescanned_in w es ≡ 1)
    → scans_object step ≡ true → fields_read step found ++ picked fields_read es ≡ fields_from c i (suc n) → left_in v.state.cleaning c ≡ true → rescans v.state step found + rescanned_in (after step found v) es ≡ 1
one-step c i n v (ReadField x j) found es only more o p l =
    let h = same_first (x, j) (c, i) (picked fields_read es) (fields_from c (i + 1) n) p in
    let same : x ≡ c = ap (λ (y : ℕ × ℕ). y.0) h.0 in
    let one : rescans v.state (ReadField x j) found ≡ 1 = ap (λ (y : ℕ). cond (left_in v.state.cleaning y) 1 0) same ∙ ap (λ (b : Bool). cond b 1 0) l in
    let rest = none-leaves c es (after (ReadField x j) found v) (i + 1) n only h.1 (ap (λ (y : ℕ). left_in (without_cell v.state.cleaning y) c) same ∙ left-gone v.state.cleaning c) in
    omega (arith, one, rest)
one-step c i n v step found es only more o p l =
    let rest = more (after step found v) p (left-after v.shape v.state step found c o refl ∙ l) in
    omega (arith, rest)

pub one-leaves : (c : ℕ) (es : List Entry) (v : View) (i n : ℕ) → only_scans es ≡ true → picked fields_read es ≡ fields_from c i (suc n) → left_in v.state.cleaning c ≡ true → rescanned_in v es ≡ 1
one-leaves c [] v i n o p l = absurd (no_first (c, i) (fields_from c (i + 1) n) (sym p))
one-leaves c (e ∷ es) v i n o p l =
    let h = and_parts (scans_object e.step) (only_scans es) o in
    one-step c i n v e.step e.found es h.1 (λ w q k. one-leaves c es w i n h.1 q k) h.0 p l

-- if no field is read, nothing is scanned again
unread-step : (s : SeatState) (step : Step) (found : ℕ) (xs : List (ℕ × ℕ)) → fields_read step found ++ xs ≡ [] → (rescans s step found ≡ 0) × (xs ≡ [])
unread-step s (ReadField c i) found xs e = absurd (no_first (c, i) xs e)
unread-step s step found xs e = (refl, e)

pub rescanned-unread : (es : List Entry) (v : View) → picked fields_read es ≡ [] → rescanned_in v es ≡ 0
rescanned-unread [] v e = refl
rescanned-unread (x ∷ xs) v e =
    let h = unread-step v.state x.step x.found (picked fields_read xs) e in
    let rest = rescanned-unread xs (after x.step x.found v) h.1 in
    omega (arith, h.0, rest)

-- The steps by which roots are seen to.
-- packets are moved
move-sees : (step : Step) → moves_packet output_pools step ≡ true → sees_roots step ≡ true
move-sees (ReadRoot section v) e = refl
move-sees (LoadSlot section k) e = refl
move-sees (ReadField c i) e = absurd (false≢true e)
move-sees (Push p c) e = refl
move-sees (SetMark c) e = refl
move-sees (DirtyCard card) e = refl
move-sees step e = e

pub moves-see : (es : List Entry) → only_moves output_pools es ≡ true → all_steps sees_roots es ≡ true
moves-see [] m = refl
moves-see (e ∷ es) m = let h = and_parts (moves_packet output_pools e.step) (only_moves output_pools es) m in and_from (sees_roots e.step) (all_steps sees_roots es) (move-sees e.step h.0) (moves-see es h.1)

-- a cell is marked, and no field read
scan-sees : (step : Step) (n : ℕ) (xs : List (ℕ × ℕ)) → scans_object step ≡ true → fields_read step n ++ xs ≡ [] → (sees_roots step ≡ true) × (xs ≡ [])
scan-sees (ReadField c i) n xs o e = absurd (no_first (c, i) xs e)
scan-sees (ReadRoot section v) n xs o e = (refl, e)
scan-sees (LoadSlot section k) n xs o e = (refl, e)
scan-sees step n xs o e = (o, e)

pub marks-see : (es : List Entry) → only_scans es ≡ true → picked fields_read es ≡ [] → all_steps sees_roots es ≡ true
marks-see [] o r = refl
marks-see (e ∷ es) o r =
    let h = and_parts (scans_object e.step) (only_scans es) o in
    let k = scan-sees e.step e.found (picked fields_read es) h.0 r in
    and_from (sees_roots e.step) (all_steps sees_roots es) k.0 (marks-see es h.1 k.1)
