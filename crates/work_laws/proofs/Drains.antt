-- No popped cell is found unpublished while the world is stopped.
use Rattle.std.proofs.Common.{ℕ, ◌≡◌, ◌+◌, ◌*◌, ◌/◌, ◌%◌, ◌<◌, ◌≤◌, List, get_or, arith, refl, sym, ap, ◌∙◌, Bool, true, false, not, ◌&&◌, eqb, Option, Some, None}
use Rattle.std.specs.Prelude.{IsTrue, IfSome}
use Rattle.std.proofs.lemmas.Bool.{eqb-true}
use Rattle.mark_core.specs.Layout.{Words, words_of}
use Rattle.mark_core.specs.Bits.{has_bit, cell_bit}
use Rattle.mark_core.specs.Views.{Grasp, grasp_of}
use Rattle.mark_core.specs.Rules.WorldRules.{is_tracing, is_stopped_phase}
use Rattle.mark_core.specs.Steps.{Core}
use Rattle.mark_core.specs.declared.kinds.Shape.{Shape}
use Rattle.mark_core.specs.declared.kinds.Step.{Step}
use Rattle.mark_core.specs.declared.kinds.Step.TheVariants.{ReadAlloc}
use Rattle.mark_core.specs.declared.seat.SeatState.{SeatState}
use Rattle.mark_core.proofs.Count.CountMoves.{bit}
use Rattle.mark_core.proofs.HeldBlock.{of-view}
use Rattle.mark_core.proofs.Blocks.BlocksStopped.{Taken, still-stopped, kept-after}
use Rattle.mark_core.proofs.Sweeps.SweepsSpared.{NoneUsed, none-used, use-published}
use Rattle.work_laws.specs.Counting.{one_in}
use Rattle.work_laws.specs.Queueing.{lacks_bit, defers}
use Rattle.work_laws.specs.Drains.{defers_in_drain, DrainsDeferNone}
use Rattle.work_laws.proofs.Sums.{Pays, paid, times, one-is}

-- a cell whose bit is set isn't lacked
has_it : (allocs : List ℕ) (x : ℕ × Bool) (b : ℕ) (here : Bool) → eqb (x.0 / 64) b ≡ here → cell_bit allocs x.0 ≡ true → (here && not (has_bit (get_or allocs b 0) (x.0 % 64))) ≡ false
has_it allocs x b true e h = ap not (ap (λ z. has_bit (get_or allocs z 0) (x.0 % 64)) (sym (eqb-true (x.0 / 64) b e)) ∙ h)
has_it allocs x b false e h = refl

pub none_lacks : (allocs : List ℕ) (o : Option (ℕ × Bool)) (b : ℕ) → IfSome o (λ x. cell_bit allocs x.0 ≡ true) → lacks_bit o b (get_or allocs b 0) ≡ false
none_lacks allocs None b h = refl
none_lacks allocs (Some x) b h = has_it allocs x b (eqb (x.0 / 64) b) refl h

-- what holds of the popped cell follows from two facts of it
both : (o : Option (ℕ × Bool)) (P Q R : ℕ → Type 0) → ((x : ℕ) → P x → Q x → R x) → IfSome o (λ x. P x.0) → IfSome o (λ x. Q x.0) → IfSome o (λ x. R x.0)
both None P Q R f p q = tt
both (Some x) P Q R f p q = f x.0 p q

-- a marked cell is published while the world is stopped
pub popped_published : (c : Core) (i : ℕ) (s : SeatState) (step : Step) → Taken c i s step → (words_of c.shape c.words).phase ≡ 2 → IfSome s.popped (λ x. cell_bit (words_of c.shape c.words).allocs x.0 ≡ true)
popped_published c i s step t p =
    let w : Words = words_of c.shape c.words in
    let none : NoneUsed c.seats = none-used c.shape w.world w.help c.seats t.core.sound.world (still-stopped c t.core (ap is_stopped_phase p)) in
    let marked : IfSome s.popped (λ x. IsTrue (cell_bit w.marks x.0)) = of-view grasp_of (λ (g : Grasp). IfSome g.popped (λ x. IsTrue (cell_bit w.marks x.0))) c i s step t (t.core.sound.marks.popped_marked (ap is_tracing p)) in
    both s.popped (λ x. x < c.shape.cells) (λ x. IsTrue (cell_bit w.marks x)) (λ x. cell_bit w.allocs x ≡ true)
    (λ x h m. sym (use-published w.allocs c.seats x none) ∙ t.core.sound.marks.marked_in_use x h m) (t.core.formed.seats i s t.got).popped marked

abbrev NoneDeferred : Core → SeatState → Step → Type 0
NoneDeferred c s step = bit (defers_in_drain c s step) ≡ 0

in_drain : (c : Core) (i : ℕ) (s : SeatState) (b : ℕ) → Taken c i s (ReadAlloc b) → (here : Bool) → eqb (words_of c.shape c.words).phase 2 ≡ here → bit (here && lacks_bit s.popped b (get_or (words_of c.shape c.words).allocs b 0)) ≡ 0
in_drain c i s b t true e = ap bit (none_lacks (words_of c.shape c.words).allocs s.popped b (popped_published c i s (ReadAlloc b) t (eqb-true (words_of c.shape c.words).phase 2 e)))
in_drain c i s b t false e = refl

no_bit : (b : Bool) → bit (b && false) ≡ 0
no_bit true = refl
no_bit false = refl

none-deferred : (c : Core) (i : ℕ) (s : SeatState) (step : Step) → Taken c i s step → NoneDeferred c s step
none-deferred c i s (ReadAlloc b) t = in_drain c i s b t (eqb (words_of c.shape c.words).phase 2) refl
none-deferred c i s step t = no_bit (eqb (words_of c.shape c.words).phase 2)

-- nothing is gained, and nothing is in the fund
none_pay : (sh : Shape) → Pays (one_in defers_in_drain) (λ c e. 0 * one_in defers c e) (λ c. 0) sh
none_pay sh c e k is f =
    kept-after (λ z w seats. one_in defers_in_drain c e + 0 ≤ 0 + 0 * one_in defers c e) c e k f
    (λ s acted t. omega (arith, one-is defers_in_drain c e s acted.seat, none-deferred c e.seat s e.step t))

pub drains_defer_none : DrainsDeferNone
drains_defer_none = record { none = λ c es k fit. omega (arith, paid (one_in defers_in_drain) (λ d e. 0 * one_in defers d e) (λ d. 0) c.shape (none_pay c.shape) es c k refl fit, times 0 (one_in defers) es c) }
