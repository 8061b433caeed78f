-- What a mutator adds that asks for the root.
use Rattle.std.proofs.Common.{ℕ, ◌≡◌, ◌<◌, ◌==◌, ◌∙◌, List, [], ◌∷◌, ◌++◌, ap, arith, not, refl, subst, sym, Bool, true, Option, None, Some}
use Rattle.std.specs.Prelude.{if◌then◌else◌, slice_index, slice_set}
use Rattle.std.proofs.lemmas.Bool.{and_parts, eq-eqb, false≢true, ne_eqb, not-true}
use Rattle.mark_core.specs.Bits.{reference_in}
use Rattle.mark_core.specs.Steps.MutatorSteps.{seat_variable as word_in}
use Rattle.mark_core.specs.declared.kinds.Step.{Step}
use Rattle.mark_core.specs.declared.kinds.Step.TheVariants.{ExchangeField, ExchangeValue, HoldRoot, ReadCat, StoreField, StoreRoot, StoreValue}
use Rattle.mark_core.specs.declared.seat.SeatState.{SeatState}
use Rattle.gc_table.specs.Entries.{event}
use Rattle.gc_table.specs.Lending.{leaves_variable}
use Rattle.gc_table.specs.Log.{all_steps, events}
use Rattle.gc_table.specs.Seats.{state_of, view_of}
use Rattle.gc_table.specs.declared.view.Entry.{Entry}
use Rattle.gc_table.proofs.Running.{ran-number}
use Rattle.heap_laws.specs.Lent.{holds_lent, is_lent, lent_after, read_by}
use Rattle.mutator_ops.specs.Sharing.{LendsFound, SetsVariable}
use Rattle.seat_turns.specs.Sharing.{spares_heap}
use Rattle.queue_laws.specs.LentQueues.{keeps_objects}
use Rattle.shared_heap.specs.Calls.{IsSame, SharerActs, SharerLeft}
use Rattle.shared_heap.specs.Logs.{Adds}
use Rattle.shared_heap.specs.declared.mutator.SharedMutator.{SharedMutator}
use Rattle.shared_heap.proofs.Logs.{adds-as, adds-join}
use Rattle.example_structures.proofs.Called.{ran-log}
use Rattle.example_structures.proofs.Changed.{all-join, all-more}
use Rattle.example_structures.proofs.FitCalls.{heap-leaves, lent-fits, same-fits}
use Rattle.example_queues.specs.Logs.{Comes, ComesToRoot, LetsGo}

abbrev pub IsQuiet : List Entry → Type 0
IsQuiet es = all_steps spares_heap es ≡ true

pub heap-keeps : (step : Step) → spares_heap step ≡ true → keeps_objects step ≡ true
heap-keeps (StoreField v i x) e = absurd (false≢true e)
heap-keeps (StoreValue v n) e = absurd (false≢true e)
heap-keeps (ExchangeField v i x y) e = absurd (false≢true e)
heap-keeps (ExchangeValue v m n) e = absurd (false≢true e)
heap-keeps step e = refl

-- a variable that has what is lent has it as long as it is left
lent_left : (v : ℕ) (r : Option ℕ) (step : Step) → leaves_variable v step ≡ true → lent_after v r true step ≡ true
lent_left v r (StoreRoot w x) e = ap (λ (b : Bool). if b then is_lent r x else true) (not-true (w == v) e)
lent_left v r (HoldRoot w x) e = ap (λ (b : Bool). if b then is_lent r x else true) (not-true (w == v) e)
lent_left v r step e = refl

pub lent-on : (r : Option ℕ) (b : Bool) (ys : List Entry) → b ≡ true → all_steps (leaves_variable 0) ys ≡ true → holds_lent 0 0 r b ys ≡ true
lent-on r b [] e a = e
lent-on r b (y ∷ ys) e a =
    let p = and_parts (leaves_variable 0 y.step) (all_steps (leaves_variable 0) ys) a in
    lent-on (read_by 0 r y.step y.found) (lent_after 0 r b y.step) ys (ap (λ (c : Bool). lent_after 0 r c y.step) e ∙ lent_left 0 r y.step p.0) p.1

-- what comes first doesn't matter, and what comes then leaves it
lent_last : (xs ys : List Entry) → ((r : Option ℕ) (b : Bool) → holds_lent 0 0 r b ys ≡ true) → (r : Option ℕ) (b : Bool) → holds_lent 0 0 r b (xs ++ ys) ≡ true
lent_last [] ys f r b = f r b
lent_last (x ∷ xs) ys f r b = lent_last xs ys f (read_by 0 r x.step x.found) (lent_after 0 r b x.step)

lent_first : (xs ys : List Entry) → ((r : Option ℕ) (b : Bool) → holds_lent 0 0 r b xs ≡ true) → all_steps (leaves_variable 0) ys ≡ true → (r : Option ℕ) (b : Bool) → holds_lent 0 0 r b (xs ++ ys) ≡ true
lent_first [] ys f a r b = lent-on r b ys (f r b) a
lent_first (x ∷ xs) ys f a r b = go (x ∷ xs) r b (f r b)
  where
    go : (zs : List Entry) (s : Option ℕ) (c : Bool) → holds_lent 0 0 s c zs ≡ true → holds_lent 0 0 s c (zs ++ ys) ≡ true
    go [] s c e = lent-on s c ys e a
    go (z ∷ zs) s c e = go zs (read_by 0 s z.step z.found) (lent_after 0 s c z.step) e

-- the root is asked for
abbrev pub asking : ℕ → ℕ → List Entry → List Entry
asking word old es = event (ReadCat 0) word ∷ event (HoldRoot 0 (reference_in word)) old ∷ es

pub lent-word : (x : ℕ) → 0 < x → is_lent (if not (x == 0) then Some x else None) x ≡ true
lent-word x some = ap (λ (b : Bool). is_lent (if not b then Some x else None) x) (ne_eqb x 0 (λ e. omega (arith, e, some))) ∙ eq-eqb x x refl

pub record AsksWord (es : List Entry) : Type 0 where
  pub word : ℕ
  pub old : ℕ
  pub are : es ≡ asking word old []
  pub some : 0 < reference_in word

found_some : (env : List ℕ) (word : ℕ) → 0 < slice_index (slice_set env 0 (reference_in word)) 0 → 0 < reference_in word
found_some [] word h = let none : 0 < 0 = h in absurd (omega (arith, none))
found_some (x ∷ env) word h = h

pub quiet-adds : (x y : SharedMutator) → IsSame x y → Adds IsQuiet x y
quiet-adds x y s = record { heap = s.world; more = events (view_of x.seat) (view_of y.seat); log = ran-log (view_of x.seat) (view_of y.seat) s.leaves.ran; are = s.leaves.only }

pub asks-adds : (range : Type 0) (x y : SharedMutator) (s : SharerActs range (LendsFound 0 0) x y) → 0 < word_in (state_of y.seat) 0 → Adds AsksWord x y
asks-adds range x y s some =
    record {
      heap = s.world;
      more = events (view_of x.seat) (view_of y.seat);
      log = ran-log (view_of x.seat) (view_of y.seat) s.does.ran;
      are = record { word = s.does.found; old = s.does.old; are = s.does.events_are; some = found_some (state_of x.seat).env s.does.found (subst (λ (t : SeatState). 0 < word_in t 0) s.does.state some) };
    }

asked : (xs ys : List Entry) → IsQuiet xs → AsksWord ys → ComesToRoot (xs ++ ys)
asked xs ys a q =
    record {
      lent = lent_last xs ys (λ r b. ap (λ (l : List Entry). holds_lent 0 0 r b l) q.are ∙ lent-word (reference_in q.word) q.some);
      keeps = all-join keeps_objects xs ys (all-more spares_heap keeps_objects heap-keeps xs a) (ap (all_steps keeps_objects) q.are);
    }

left : (xs ys : List Entry) → ComesToRoot xs → IsQuiet ys → ComesToRoot (xs ++ ys)
left xs ys c a =
    record {
      lent = lent_first xs ys c.lent (all-more spares_heap (leaves_variable 0) (heap-leaves 0) ys a);
      keeps = all-join keeps_objects xs ys c.keeps (all-more spares_heap keeps_objects heap-keeps ys a);
    }

-- the mutator enters, asks for the root and leaves
pub comes : (range : Type 0) (v w x y : SharedMutator) → IsSame v w → SharerActs range (LendsFound 0 0) w x → 0 < word_in (state_of x.seat) 0 → IsSame x y → Comes v y
comes range v w x y enters root some leaves =
    record {
      adds = adds-join ComesToRoot IsQuiet ComesToRoot left v x y (adds-join IsQuiet AsksWord ComesToRoot asked v w x (quiet-adds v w enters) (asks-adds range w x root some)) (quiet-adds x y leaves);
      told = λ b p. same-fits x y 1 leaves b (lent-fits w x 1 0 0 (λ e. omega (arith, e)) root.does b (same-fits v w 1 enters b p));
      number = ran-number (view_of x.seat) (view_of y.seat) leaves.leaves.ran ∙ (ran-number (view_of w.seat) (view_of x.seat) root.does.ran ∙ ran-number (view_of v.seat) (view_of w.seat) enters.leaves.ran);
    }

-- the mutator enters, lets a variable refer to nothing and leaves
pub lets-go : (range : Type 0) (v w x y : SharedMutator) (u r : ℕ) → IsSame v w → SharerActs range (SetsVariable u r) w x → SharerLeft x y → LetsGo v y
lets-go range v w x y u r enters sets leaves =
    record {
      adds = adds-join Kept Kept Kept joined v x y (adds-join Kept Kept Kept joined v w x (quiet v w enters) assigned) (quiet x y leaves.same);
      outside = leaves.outside;
    }
  where
    Kept : List Entry → Type 0
    Kept es = all_steps keeps_objects es ≡ true

    joined : (xs ys : List Entry) → Kept xs → Kept ys → Kept (xs ++ ys)
    joined xs ys a b = all-join keeps_objects xs ys a b

    quiet : (p q : SharedMutator) → IsSame p q → Adds Kept p q
    quiet p q s = adds-as IsQuiet Kept (λ es a. all-more spares_heap keeps_objects heap-keeps es a) p q (quiet-adds p q s)

    assigned : Adds Kept w x
    assigned =
        record {
          heap = sets.world;
          more = events (view_of w.seat) (view_of x.seat);
          log = ran-log (view_of w.seat) (view_of x.seat) sets.does.ran;
          are = subst Kept (sym sets.does.events_are) refl;
        }
