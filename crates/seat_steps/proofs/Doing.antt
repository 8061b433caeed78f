-- An operation by the kind of heap.
use Rattle.std.proofs.Common.{ℕ, ◌≡◌, ◌%◌, ◌∙◌, ap, refl, sym, subst, Bool, true, false}
use Rattle.std.proofs.lemmas.Bool.{false≢true}
use Rattle.gc_table.specs.Running.{Ran}
use Rattle.gc_table.specs.Log.{steps_of}
use Rattle.gc_table.specs.Seats.{Sits, did, state_of, view_of}
use Rattle.gc_table.specs.declared.seat.Heap.{Heap}
use Rattle.gc_table.specs.declared.seat.HeapSeat.{HeapSeat}
use Rattle.mark_core.specs.declared.kinds.Shape.{Shape}
use Rattle.plain_heap.specs.declared.operation.Op.{Op}
use Rattle.plain_heap.specs.declared.operation.Op.TheVariants as ops
use Rattle.seat_turns.specs.Plain.{Steps}
use Rattle.mutator_ops.specs.Listing.{creating_steps}
use Rattle.seat_turns.specs.Sharing.{LeavesHeap, MakesShared}
use Rattle.seat_turns.specs.Standing.{plain_of}
use Rattle.seat_steps.specs.Doing.{Does, FindsSome, FindsValue, MakesNow, TakesOwn}

-- a heap isn't of both kinds
both : (b : Bool) → b ≡ true → b ≡ false → ⊥
both b t f = false≢true (sym f ∙ t)

-- what its shape says, of the heap
pub alone-of : (h : Heap) (s : Shape) → s ≡ h.shape → s.sharing ≡ false → h.shape.sharing ≡ false
alone-of h s e f = ap (λ (s : Shape). s.sharing) (sym e) ∙ f

pub shared-of : (h : Heap) (s : Shape) → s ≡ h.shape → s.sharing ≡ true → h.shape.sharing ≡ true
shared-of h s e t = ap (λ (s : Shape). s.sharing) (sym e) ∙ t

module _ (h : Heap) (x y : HeapSeat) where
  pub does-own : (op : Op) → h.shape.sharing ≡ false → Steps op (plain_of x) (plain_of y) → TakesOwn op (view_of x) (view_of y) → Does op h x y
  does-own op f p t = record { own = λ _. p; takes = λ _. t; shared = λ s. absurd (both h.shape.sharing s f) }

  -- a new object
  pub makes-alone : (u n : ℕ) → h.shape.sharing ≡ false → Sits h x → Steps (ops.New u n) (plain_of x) (plain_of y) → ((cell : ℕ) × (steps_of (did x y) ≡ creating_steps h.shape.fields (state_of x) u n cell)) → MakesNow u n h x y
  makes-alone u n f sits p t =
      record {
        own = λ _. p;
        takes = λ _. (t.0, t.1 ∙ ap (λ (sh : Shape). creating_steps sh.fields (state_of x) u n t.0) (sym sits.1));
        shared = λ s. absurd (both h.shape.sharing s f);
      }

  pub makes-sharing : (u n : ℕ) → h.shape.sharing ≡ true → MakesShared u n (view_of x) (view_of y) → MakesNow u n h x y
  makes-sharing u n t m = record { own = λ f. absurd (both h.shape.sharing t f); takes = λ f. absurd (both h.shape.sharing t f); shared = λ _. m }

  -- a value
  pub found-shared : (u found : ℕ) → h.shape.sharing ≡ true → FindsValue u found (view_of x) (view_of y) → FindsSome u (found % 4294967296) h x y
  found-shared u found t p = record { own = λ f. absurd (both h.shape.sharing t f); shared = λ _. (found, refl, p) }

-- an object was made after the way to a cell, of which no plain heap sees anything
pub makes-after : (op : Op) (u n : ℕ) (h : Heap) (x m y : HeapSeat) → op ≡ ops.New u n → LeavesHeap (view_of x) (view_of m) → plain_of m ≡ plain_of x → Ran (view_of m) (view_of y) → MakesNow u n h m y → Does op h x y
makes-after op u n h x m y is l same ran k =
    subst (λ (o : Op). Does o h x y) (sym is)
    (record { own = λ f. subst (λ p. Steps (ops.New u n) p (plain_of y)) same (k.own f); takes = λ f. record { came = view_of m; leaves = l; ran = ran; creates = k.takes f }; shared = λ t. record { came = view_of m; leaves = l; makes = k.shared t } })
