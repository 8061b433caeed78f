-- What a store in a field of the root adds.
use Rattle.std.proofs.Common.{ℕ, ◌≡◌, ◌<◌, ◌==◌, ◌∙◌, List, [], ◌∷◌, ap, arith, refl, Bool, true, false, Some}
use Rattle.std.specs.Prelude.{if◌then◌else◌}
use Rattle.std.proofs.lemmas.Bool.{ne_eqb}
use Rattle.mark_core.specs.Cards.{card_of}
use Rattle.mark_core.specs.Seats.{used_in}
use Rattle.mark_core.specs.Steps.MutatorSteps.{seat_variable as word_in}
use Rattle.mark_core.specs.declared.kinds.Step.{Step}
use Rattle.mark_core.specs.declared.kinds.Step.TheVariants.{DirtyCard, StoreField}
use Rattle.mark_core.specs.declared.seat.SeatState.{SeatState}
use Rattle.card_clean.specs.Barrier.{barrier_steps, card_steps, cell_in, was_dirty}
use Rattle.gc_table.specs.Log.{all_steps, events, steps_of}
use Rattle.gc_table.specs.Seats.{state_of, view_of}
use Rattle.gc_table.specs.declared.view.Entry.{Entry}
use Rattle.mutator_ops.specs.Sharing.{SetsField, setting_steps}
use Rattle.seat_turns.specs.Sharing.{spares_heap}
use Rattle.shared_heap.specs.Calls.{SharerActs}
use Rattle.shared_heap.specs.Logs.{Adds}
use Rattle.shared_heap.specs.declared.mutator.SharedMutator.{SharedMutator}
use Rattle.example_structures.proofs.Called.{ran-log}
use Rattle.example_structures.proofs.Changed.{all_of, steps-all}

-- these events store what variable w has in field i of variable 0's object, and then do what no plain heap sees
pub record StoresIn (i w : ℕ) (es : List Entry) : Type 0 where
  pub first : Entry
  pub rest : List Entry
  pub are : es ≡ first ∷ rest
  pub step : first.step ≡ StoreField 0 i (Some w)
  pub quiet : all_steps spares_heap rest ≡ true

all_by : (P : Step → Bool) (b : Bool) (xs ys : List Step) → all_of P xs ≡ true → all_of P ys ≡ true → all_of P (if b then xs else ys) ≡ true
all_by P true xs ys s t = s
all_by P false xs ys s t = t

abbrev card_part : SeatState → Bool → List Step
card_part s dirty = if used_in s.cache (cell_in s 0) then [] else card_steps (card_of (cell_in s 0)) dirty

card_spares : (s : SeatState) (dirty : Bool) → all_of spares_heap (card_part s dirty) ≡ true
card_spares s dirty =
    let card : ℕ = card_of (cell_in s 0) in
    all_by spares_heap (used_in s.cache (cell_in s 0)) [] (card_steps card dirty) refl (all_by spares_heap dirty [] (DirtyCard card ∷ []) refl refl)

stored_steps : (s : SeatState) (i w : ℕ) (dirty : Bool) → (word_in s 0 == 0) ≡ false → setting_steps s 0 i w dirty ≡ StoreField 0 i (Some w) ∷ card_part s dirty
stored_steps s i w dirty e = ap (λ (b : Bool). if b then [] else barrier_steps s 0 i (Some w) dirty) e

parted : (i w : ℕ) (es : List Entry) (ss : List Step) → steps_of es ≡ StoreField 0 i (Some w) ∷ ss → all_of spares_heap ss ≡ true → StoresIn i w es
parted i w [] ss e a = absurd (cc)
parted i w (x ∷ xs) ss e a =
    let head : x.step ≡ StoreField 0 i (Some w) = cc in
    let tail : steps_of xs ≡ ss = cc in
    record { first = x; rest = xs; are = refl; step = head; quiet = steps-all spares_heap xs ∙ (ap (all_of spares_heap) tail ∙ a) }

pub stores-adds : (range : Type 0) (x y : SharedMutator) (i w : ℕ) → 0 < word_in (state_of x.seat) 0 → SharerActs range (SetsField 0 i w) x y → Adds (StoresIn i w) x y
stores-adds range x y i w some s =
    let es : List Entry = events (view_of x.seat) (view_of y.seat) in
    record {
      heap = s.world;
      more = es;
      log = ran-log (view_of x.seat) (view_of y.seat) s.does.ran;
      are =
          parted i w es (card_part (state_of x.seat) (was_dirty es))
          (s.does.steps_are ∙ stored_steps (state_of x.seat) i w (was_dirty es) (ne_eqb (word_in (state_of x.seat) 0) 0 (λ e. omega (arith, e, some)))) (card_spares (state_of x.seat) (was_dirty es));
    }
