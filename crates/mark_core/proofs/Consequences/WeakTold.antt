-- Who asks for a cell and then for its object's identity has a weak reference, whatever others do between.
use Rattle.std.proofs.Common.{ℕ, ◌≡◌, ◌≢◌, ◌+◌, ◌%◌, ◌/◌, ◌<◌, ◌≤◌, List, set, length, arith, refl, sym, ap, ◌∙◌, subst, Bool, true, false, ◌||◌, eqb, cond, Option, Some, None, ⊎_elim, [], ◌∷◌, ◌++◌, zero, suc}
use Rattle.std.specs.Prelude.{IsTrue, IsFalse, slice_get, slice_index, is_none, nat_lt, if◌then◌else◌}
use Rattle.std.specs.List.{All, list_any}
use Rattle.std.proofs.lemmas.Bool.{and_parts, or_cases, or_left, eqb-true, eq-eqb, true≢false, cases_eq, ltb-true}
use Rattle.std.proofs.lemmas.List.{length-set}
use Rattle.std.proofs.lemmas.List.Elements.{All-head, All-tail}
use Rattle.std.proofs.lemmas.Option.{same_Some, slice_get_within}
use Rattle.mark_core.specs.Layout.{Words, words_of}
use Rattle.mark_core.specs.Bits.{cell_bit, has_bit, reference_in}
use Rattle.mark_core.specs.Seats.{used_in}
use Rattle.mark_core.specs.Views.{Maker, makers}
use Rattle.mark_core.specs.Cells.{in_use}
use Rattle.mark_core.specs.Rules.HeapRules.{NamesInUse}
use Rattle.mark_core.specs.Steps.MutatorSteps.{knows_cell, weak_reference}
use Rattle.mark_core.specs.Closed.{is_published}
use Rattle.mark_core.specs.Effects.{seat_after}
use Rattle.mark_core.specs.Start.{start_seat, spent_seat}
use Rattle.mark_core.specs.Steps.{Core, failing_part, after_event, run_of}
use Rattle.mark_core.specs.Laws.{IsCore, NumbersFit, AllNumbersFit}
use Rattle.mark_core.specs.Weak.{IsWeak, WeakIsTold}
use Rattle.mark_core.proofs.Known.{Acted, acts, found, words_left, seats_left}
use Rattle.mark_core.proofs.Blocks.BlocksStopped.{Taken, kept-after, within}
use Rattle.mark_core.proofs.Consequences.Closing.{goes-to}
use Rattle.mark_core.proofs.Consequences.WeakFound.{published-is_weak}
use Rattle.mark_core.proofs.Consequences.WeakKept.{published-on, seated-left}
use Rattle.mark_core.proofs.CoreKept.{core_kept}
use Rattle.mark_core.proofs.Formed.FormedLearns.{one-of, used-exists, set-here, set-there}
use Rattle.mark_core.proofs.References.ReferencesRoots.{Used, UsedAfter, in-env, weak-bit}
use Rattle.mark_core.specs.declared.kinds.Shape.{Shape}
use Rattle.mark_core.specs.declared.kinds.Event.{Event}
use Rattle.mark_core.specs.declared.kinds.Step.{Step}
use Rattle.mark_core.specs.declared.kinds.Step.TheVariants.{ReadWeak, ReadIdent, Split, Join}
use Rattle.mark_core.specs.declared.seat.SeatState.{SeatState}

-- The record of a seat that doesn't act stays, unless it is ended.
front : {X : Type 0} (xs : List X) (y : X) (k : ℕ) → k < length xs → slice_get (xs ++ y ∷ []) k ≡ slice_get xs k
front [] y k h = absurd (omega (arith, h))
front (x ∷ xs) y zero h = refl
front (x ∷ xs) y (suc k) h = front xs y k (omega (arith, h))

pub other_stays : (c : Core) (j i : ℕ) (s t : SeatState) (step : Step) → Taken c j s step → i ≢ j → i < length c.seats → slice_get (seats_left c j s step) i ≡ Some t → t.spent ≡ false → slice_get c.seats i ≡ Some t
other_stays c j i s t Split k n h e live = set-there c.seats j i s t n (sym (front (set c.seats j s) (start_seat c.shape (length (set c.seats j s))) i (rw length-set h)) ∙ e)
other_stays c j i s t (Join other) k n h e live =
    ⊎_elim
    (λ (a : i ≡ other).
    let is : spent_seat c.shape other ≡ t = set-here (set c.seats j s) other (spent_seat c.shape other) t (subst (λ (o : ℕ). slice_get (set (set c.seats j s) other (spent_seat c.shape other)) o ≡ Some t) a e) in
    absurd (true≢false (ap (λ (o : SeatState). o.spent) is ∙ live)))
    (λ (d : i ≢ other). set-there c.seats j i s t n (set-there (set c.seats j s) other i (spent_seat c.shape other) t d e))
    (cases_eq i other)
other_stays c j i s t step k n h e live = set-there c.seats j i (seat_after c.shape s step (found c s step)) t n e

-- a seat exists and, unless it was ended, knows a cell, which is published
pub record Holds (i x : ℕ) (c : Core) : Type 0 where
  pub exists : i < length c.seats
  pub knows : (t : SeatState) → slice_get c.seats i ≡ Some t → t.spent ≡ false → (knows_cell t x ≡ true) × (cell_bit (words_of c.shape c.words).allocs x ≡ true)

-- the same, where the cell is known to be in use
pub record HoldsUsed (i x : ℕ) (sh : Shape) (w : Words) (seats : List SeatState) : Type 0 where
  pub exists : i < length seats
  pub knows : (t : SeatState) → slice_get seats i ≡ Some t → t.spent ≡ false → (knows_cell t x ≡ true) × (x < sh.cells → in_use w.allocs (makers seats) x ≡ true → cell_bit w.allocs x ≡ true)

-- a cell that a seat knows is in use
names_used : (allocs : List ℕ) (ms : List Maker) (t : SeatState) (x : ℕ) → NamesInUse allocs ms t → knows_cell t x ≡ true → in_use allocs ms x ≡ true
names_used allocs ms t x n e =
    ⊎_elim
    (λ (a : eqb t.got (x + 1) ≡ true). goes-to (in_use allocs ms) t.got x (eqb-true t.got (x + 1) a) n.1)
    (λ (a : list_any (λ (y : ℕ). eqb y (x + 1)) t.env ≡ true). goes-to (in_use allocs ms) (x + 1) x refl (in-env t.env (x + 1) (in_use allocs ms) n.0 a))
    (or_cases (eqb t.got (x + 1)) (list_any (λ (y : ℕ). eqb y (x + 1)) t.env) e)

pub used_holds : (i x : ℕ) (c : Core) → IsCore c → HoldsUsed i x c.shape (words_of c.shape c.words) c.seats → Holds i x c
used_holds i x c k h =
    record {
      exists = h.exists;
      knows =
          λ t g live.
          let w : Words = words_of c.shape c.words in
          let a = h.knows t g live in
          let u : Used c x ≡ true = names_used w.allocs (makers c.seats) t x (one-of (NamesInUse w.allocs (makers c.seats)) c.seats i t g k.sound.references.seats_in_use) a.0 in
          (a.0, a.1 (used-exists c x k.formed u) u);
    }

pub holds_kept : (i x : ℕ) (c : Core) (e : Event) → IsCore c → NumbersFit e.step → failing_part c e ≡ None → i ≢ e.seat → Holds i x c → Holds i x (after_event c e)
holds_kept i x c e k n f d h =
    used_holds i x (after_event c e) (core_kept c e k n f)
    (kept-after (HoldsUsed i x) c e k f
    (λ s acted t.
    record {
      exists = omega (arith, h.exists, seated-left c e.seat s e.step);
      knows =
          λ o g live.
          let a = h.knows o (other_stays c e.seat i s o e.step t d h.exists g live) live in
          (a.0, λ below u. published-on c e.seat s e.step x t below u a.1);
    }))

run_by : (i x : ℕ) (e : Event) (es : List Event) (c : Core) → IsCore c → NumbersFit e.step → i ≢ e.seat → Holds i x c → ((d : Core) → IsCore d → Holds i x d → IsCore (run_of es d) × Holds i x (run_of es d)) → (o : Option ℕ) → failing_part c e ≡ o
    → IsCore (if is_none o then run_of es (after_event c e) else c) × Holds i x (if is_none o then run_of es (after_event c e) else c)
run_by i x e es c k n d h later None f = later (after_event c e) (core_kept c e k n f) (holds_kept i x c e k n f d h)
run_by i x e es c k n d h later (Some part) f = (k, h)

holds_over : (i x : ℕ) (es : List Event) (c : Core) → IsCore c → AllNumbersFit es → All (λ (e : Event). i ≢ e.seat) es → Holds i x c → IsCore (run_of es c) × Holds i x (run_of es c)
holds_over i x [] c k fit others h = (k, h)
holds_over i x (e ∷ es) c k fit others h =
    run_by i x e es c k (All-head (λ (y : Event). NumbersFit y.step) e es fit) (All-head (λ (y : Event). i ≢ y.seat) e es others) h
    (λ d q held. holds_over i x es d q (All-tail (λ (y : Event). NumbersFit y.step) e es fit) (All-tail (λ (y : Event). i ≢ y.seat) e es others) held) (failing_part c e) refl

-- who found a cell published has it in its register
pub asked_holds : (c : Core) (i : ℕ) (s : SeatState) (x : ℕ) → Taken c i s (ReadWeak x) → cell_bit (words_of c.shape c.words).allocs x ≡ true → HoldsUsed i x c.shape (words_left c s (ReadWeak x)) (seats_left c i s (ReadWeak x))
asked_holds c i s x k bit =
    let step : Step = ReadWeak x in
    let there : i < length c.seats = within c i s step k in
    record {
      exists = rw length-set there;
      knows =
          λ t g live.
          let is : seat_after c.shape s step (found c s step) ≡ t = set-here c.seats i (seat_after c.shape s step (found c s step)) t g in
          let h : x < c.shape.cells = ltb-true x c.shape.cells (and_parts _ _ k.ok.0).0 in
          let set : (has_bit (found c s step) (x % 64) || used_in s.cache x) ≡ true = or_left (has_bit (found c s step) (x % 64)) (used_in s.cache x) (weak-bit c i s x k ∙ bit) in
          let got : weak_reference s x (found c s step) ≡ x + 1 = ap (λ (b : Bool). cond b (reference_in (x + 1)) 0) set ∙ omega (arith, h, k.core.formed.shaped.cells) in
          let register : t.got ≡ x + 1 = sym (ap (λ (o : SeatState). o.got) is) ∙ got in
          (or_left (eqb t.got (x + 1)) (list_any (λ (y : ℕ). eqb y (x + 1)) t.env) (eq-eqb t.got (x + 1) register), λ below u. published-on c i s step x k below u bit);
    }

pub weak_is_told : WeakIsTold
weak_is_told c i x es k f bit fit others g =
    let e : Event = record { seat = i; step = ReadWeak x } in
    let first : Core = after_event c e in
    let q : IsCore first = core_kept c e k tt f in
    let begun : Holds i x first = used_holds i x first q (kept-after (HoldsUsed i x) c e k f (λ s acted t. asked_holds c i s x t bit)) in
    let all = holds_over i x es first q fit others begun in
    let d : Core = run_of es first in
    let r : (s : SeatState) × Acted d (record { seat = i; step = ReadIdent x }) s = acts d (record { seat = i; step = ReadIdent x }) all.0 g in
    published-is_weak d x all.0 (all.1.knows r.0 r.1.seat r.1.live).1
