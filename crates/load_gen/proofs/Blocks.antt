-- What the lines of blocks do to a heap: after the first eight of a block all variables are nil, and the block makes at most 55 objects.
use Rattle.std.proofs.Common.{◌≡◌, ℕ, ◌+◌, ◌%◌, ◌<◌, ◌≤◌, zero, suc, inl, inr, List, [], ◌∷◌, ◌++◌, length, refl, sym, ◌∙◌, subst, arith, take, length-append}
use Rattle.std.proofs.lemmas.Bool.{cases_lt}
use Rattle.std.proofs.lemmas.List.{get_or_past, get_or-set_same, get_or-set_other, length-set}
use Rattle.std.proofs.lemmas.List.Elements.{All-replicate, All-from_get_or, AllWithin-none}
use Rattle.std.specs.Prelude.{◌⊎◌, Option, replicate, slice_set, slice_index_or}
use Rattle.plain_heap.specs.declared.object.Ref.{Ref}
use Rattle.plain_heap.specs.declared.object.Ref.TheVariants as refs
use Rattle.plain_heap.specs.declared.operation.Op.{Op}
use Rattle.plain_heap.specs.declared.operation.Op.TheVariants as ops
use Rattle.plain_heap.specs.PlainHeap.{Heap, empty_heap, variable}
use Rattle.plain_heap.specs.PlainStep.{followed, new_object, assigned, with_new, stored_at, with_field, heap_after}
use Rattle.plain_heap.specs.Sections.{Execution}
use Rattle.plain_heap.specs.PlainRun.{heap_from, ops_of}
use Rattle.load_gen.proofs.Recent.{IsFrom, HasFrom, IsRecent, IsStored, all_or, held_from, assigned_recent, followed_from, stored, pushed_recent}

-- what line p of a block may do: one of the first eight sets the variable of its number to nil, and others assign to the first eight; the last one makes no
-- object
abbrev pub IsStep : ℕ → Op → Type 0
IsStep p (ops.New v n) = (8 ≤ p) × (p < 63) × (v < 8)
IsStep p (ops.Let v w) = (8 ≤ p) × (v < 8)
IsStep p (ops.Nil v) = (p < 8) × (v ≡ p)
IsStep p (ops.Set v i w) = 8 ≤ p
IsStep p (ops.Get v w i) = (8 ≤ p) × (v < 8)
IsStep p (ops.Say v) = 8 ≤ p
IsStep p op = ⊥

-- commands that may stand on line j of a warehouse and on the next ones
abbrev pub AreSteps : ℕ → List Execution → Type 0
AreSteps j [] = Unit {0}
AreSteps j (e ∷ es) = IsStep (j % 64) e.op × AreSteps (j + 1) es

pub steps_push : (j : ℕ) (es : List Execution) (e : Execution) → AreSteps j es → IsStep ((j + length es) % 64) e.op → AreSteps j (es ++ e ∷ [])
steps_push j [] e s t = (subst (λ (m : ℕ). IsStep (m % 64) e.op) (let same : j + 0 ≡ j = omega arith in same) t, tt)
steps_push j (first ∷ es) e s t =
    (s.0, steps_push (j + 1) es e s.1 (subst (λ (m : ℕ). IsStep (m % 64) e.op) (let same : j + suc (length es) ≡ j + 1 + length es = omega arith in same) t))

pub steps_take : (j k : ℕ) (es : List Execution) → AreSteps j es → AreSteps j (take k es)
steps_take j zero es s = tt
steps_take j (suc k) [] s = tt
steps_take j (suc k) (e ∷ es) s = (s.0, steps_take (j + 1) k es s.1)

-- the parts of a section: none, or one of such commands
abbrev pub AreBlocks : List (List Execution) → Type 0
AreBlocks [] = Unit {0}
AreBlocks (part ∷ []) = AreSteps 0 part
AreBlocks (part ∷ next ∷ parts) = ⊥

-- all variables but the first eight are nil
abbrev pub HasEight : List Ref → Type 0
HasEight variables = (v : ℕ) → 8 ≤ v → slice_index_or variables v refs.Nil ≡ refs.Nil

-- a heap after p lines of a block: the objects from `base` on are those that this block made, or the one before if not all variables are nil yet
pub record IsPlayed (p : ℕ) (heap : Heap) : Type 0 where
  pub base : ℕ
  pub recent : IsRecent base heap.objects heap.variables
  pub eight : HasEight heap.variables
  pub cleared : p ≤ 8 → (v : ℕ) → v < p → variable heap v ≡ refs.Nil
  pub few : length heap.objects ≤ base + 55
  pub fewer : 8 ≤ p → length heap.objects + 8 ≤ base + p

-- no object is held
all_nil : (p : ℕ) (heap : Heap) → 8 ≤ p → ((v : ℕ) → variable heap v ≡ refs.Nil) → IsPlayed p heap
all_nil p heap l nil = record {
  base = length heap.objects;
  recent = record {
    start = omega arith;
    held = All-from_get_or (IsFrom (length heap.objects)) heap.variables refs.Nil (λ v _. subst (IsFrom (length heap.objects)) (sym (nil v)) tt);
    fields = AllWithin-none (HasFrom (length heap.objects)) heap.objects (length heap.objects);
  };
  eight = λ v _. nil v;
  cleared = λ _ v _. nil v;
  few = omega arith;
  fewer = λ _. omega (arith, l);
}

pub played_start : (fields section : ℕ) → IsPlayed 0 (empty_heap fields section)
played_start fields section = record {
  base = 0;
  recent = record {
    start = omega arith;
    held = All-replicate (IsFrom 0) 32 refs.Nil tt;
    fields = AllWithin-none (HasFrom 0) [] 0;
  };
  eight = λ v _. all_or (λ r. r ≡ refs.Nil) (replicate 32 refs.Nil) v refs.Nil refl (All-replicate (λ r. r ≡ refs.Nil) 32 refs.Nil refl);
  cleared = λ _ v l. absurd (omega (arith, l));
  few = omega arith;
  fewer = λ l. absurd (omega (arith, l));
}

apart : (u v : ℕ) → v < 8 → 8 ≤ u → u ≡ v → ⊥
apart u v h l e = absurd (omega (arith, h, l, e))

-- one of the first eight variables is changed
eight_set : (variables : List Ref) (v : ℕ) (ref : Ref) → v < 8 → HasEight variables → HasEight (slice_set variables v ref)
eight_set variables v ref h e u l = get_or-set_other variables v u ref refs.Nil (apart u v h l) ∙ e u l

-- a variable that is set to nil is nil
set_nil : (variables : List Ref) (v : ℕ) → slice_index_or (slice_set variables v refs.Nil) v refs.Nil ≡ refs.Nil
set_nil variables v =
    elim (cases_lt v (length variables)) as (λ x. slice_index_or (slice_set variables v refs.Nil) v refs.Nil ≡ refs.Nil)
    [ inl l ↦ get_or-set_same variables v refs.Nil refs.Nil l | inr past ↦ get_or_past (slice_set variables v refs.Nil) v refs.Nil (subst (λ (n : ℕ). n ≤ v) (sym (length-set variables v refs.Nil)) past) ]

-- one variable more is nil
cleared_more : (variables : List Ref) (p : ℕ) → ((v : ℕ) → v < p → slice_index_or variables v refs.Nil ≡ refs.Nil) → (v : ℕ) → v < p + 1 → slice_index_or (slice_set variables p refs.Nil) v refs.Nil ≡ refs.Nil
cleared_more variables p h v l = either (same_or v p)
  where
    same_or : (a b : ℕ) → (a ≡ b) ⊎ (a ≡ b → ⊥)
    same_or a b = grind arith

    below : (v ≡ p → ⊥) → v < p
    below d = grind (arith, d, l)

    either : (v ≡ p) ⊎ (v ≡ p → ⊥) → slice_index_or (slice_set variables p refs.Nil) v refs.Nil ≡ refs.Nil
    either (inl e) = subst (λ (u : ℕ). slice_index_or (slice_set variables p refs.Nil) u refs.Nil ≡ refs.Nil) (sym e) (set_nil variables p)
    either (inr d) = get_or-set_other variables p v refs.Nil refs.Nil d ∙ h v (below d)

-- one of the first eight lines
played_nil : (p : ℕ) (heap : Heap) → p < 8 → IsPlayed p heap → IsPlayed (p + 1) (assigned heap p refs.Nil)
played_nil p heap h g = by_place (cases_lt (p + 1) 8)
  where
    eight : HasEight (slice_set heap.variables p refs.Nil)
    eight = eight_set heap.variables p refs.Nil h g.eight

    cleared : (v : ℕ) → v < p + 1 → variable (assigned heap p refs.Nil) v ≡ refs.Nil
    cleared = cleared_more heap.variables p (g.cleared (omega (arith, h)))

    nil : 8 ≤ p + 1 → (v : ℕ) → variable (assigned heap p refs.Nil) v ≡ refs.Nil
    nil l v = elim (cases_lt v 8) as (λ x. variable (assigned heap p refs.Nil) v ≡ refs.Nil) [ inl low ↦ cleared v (omega (arith, low, l)) | inr high ↦ eight v high ]

    by_place : (p + 1 < 8) ⊎ (8 ≤ p + 1) → IsPlayed (p + 1) (assigned heap p refs.Nil)
    by_place (inl l) = record {
      base = g.base;
      recent = assigned_recent g.base heap.objects heap.variables p refs.Nil tt g.recent;
      eight = eight;
      cleared = λ _. cleared;
      few = g.few;
      fewer = λ m. absurd (omega (arith, l, m));
    }
    by_place (inr l) = all_nil (p + 1) (assigned heap p refs.Nil) l (nil l)

-- a later line, which makes no object; q is the place of the next one
played_on : (p q : ℕ) (old new : Heap) → 8 ≤ p → (q ≤ 8 → q ≡ 0) → (8 ≤ q → p ≤ q) → (g : IsPlayed p old) → IsRecent g.base new.objects new.variables → HasEight new.variables → length new.objects ≡ length old.objects → IsPlayed q new
played_on p q old new l a b g r e s = record {
  base = g.base;
  recent = r;
  eight = e;
  cleared = λ low v below. absurd (let none : q ≡ 0 = a low in omega (arith, none, below));
  few = omega (arith, s, g.few);
  fewer = λ m. let later : p ≤ q = b m in let count : length old.objects + 8 ≤ g.base + p = g.fewer l in omega (arith, s, later, count);
}

-- a line that makes an object
played_new : (p v n : ℕ) (heap : Heap) → 8 ≤ p → p < 63 → v < 8 → IsPlayed p heap → IsPlayed (p + 1) (with_new heap v n)
played_new p v n heap l m h g = record {
  base = g.base;
  recent = assigned_recent g.base (heap.objects ++ new_object n ∷ []) heap.variables v (refs.Own (length heap.objects)) g.recent.start (pushed_recent g.base heap.objects heap.variables n g.recent);
  eight = eight_set heap.variables v (refs.Own (length heap.objects)) h g.eight;
  cleared = λ low. absurd (omega (arith, low, l));
  few = omega (arith, longer, count, m);
  fewer = λ _. omega (arith, longer, count);
}
  where
    longer : length (heap.objects ++ new_object n ∷ []) ≡ length heap.objects + 1
    longer = length-append heap.objects (new_object n ∷ [])

    count : length heap.objects + 8 ≤ g.base + p
    count = g.fewer l

next_place : (j : ℕ) → j % 64 < 63 → j % 64 + 1 ≡ (j + 1) % 64
next_place j h = omega (arith, h)

-- a later line of a block that makes no object
played_later : (j : ℕ) (old new : Heap) → 8 ≤ j % 64 → (g : IsPlayed (j % 64) old) → IsRecent g.base new.objects new.variables → HasEight new.variables → length new.objects ≡ length old.objects → IsPlayed ((j + 1) % 64) new
played_later j old new l g = played_on (j % 64) ((j + 1) % 64) old new l (λ low. omega (arith, l, low)) (λ high. omega (arith, l, high)) g

-- such a line that changes one of the first eight variables
played_assigned : (j v : ℕ) (heap : Heap) (ref : Ref) → 8 ≤ j % 64 → v < 8 → (g : IsPlayed (j % 64) heap) → IsFrom g.base ref → IsPlayed ((j + 1) % 64) (assigned heap v ref)
played_assigned j v heap ref l h g f =
    played_later j heap (assigned heap v ref) l g (assigned_recent g.base heap.objects heap.variables v ref f g.recent) (eight_set heap.variables v ref h g.eight) refl

-- such a line that stores into a field
played_stored : (j v i w : ℕ) (heap : Heap) → 8 ≤ j % 64 → IsPlayed (j % 64) heap → IsPlayed ((j + 1) % 64) (stored_at heap (variable heap v) (λ object. with_field object i (variable heap w)))
played_stored j v i w heap l g =
    let s : IsStored g.base heap (stored_at heap (variable heap v) (λ object. with_field object i (variable heap w))) =
    stored g.base heap (variable heap v) i (variable heap w) g.recent (held_from g.base heap.objects heap.variables v g.recent) (held_from g.base heap.objects heap.variables w g.recent) in
    played_later j heap _ l g s.recent (subst HasEight (sym s.kept) g.eight) s.sized

-- one line of a warehouse
stepped : (j : ℕ) (heap : Heap) (catalogue : Option Heap) (op : Op) → IsStep (j % 64) op → IsPlayed (j % 64) heap → IsPlayed ((j + 1) % 64) (heap_after heap catalogue op)
stepped j heap catalogue (ops.New v n) s g = subst (λ (q : ℕ). IsPlayed q (with_new heap v n)) (next_place j s.1) (played_new (j % 64) v n heap s.0 s.1 s.2 g)
stepped j heap catalogue (ops.Let v w) s g = played_assigned j v heap (variable heap w) s.0 s.1 g (held_from g.base heap.objects heap.variables w g.recent)
stepped j heap catalogue (ops.Nil v) s g =
    subst (λ (u : ℕ). IsPlayed ((j + 1) % 64) (assigned heap u refs.Nil)) (sym s.1)
    (subst (λ (q : ℕ). IsPlayed q (assigned heap (j % 64) refs.Nil)) (next_place j (omega (arith, s.0))) (played_nil (j % 64) heap s.0 g))
stepped j heap catalogue (ops.Set v i w) s g = played_stored j v i w heap s g
stepped j heap catalogue (ops.Get v w i) s g =
    played_assigned j v heap (followed heap catalogue (variable heap w) i) s.0 s.1 g (followed_from g.base heap catalogue (variable heap w) i g.recent (held_from g.base heap.objects heap.variables w g.recent))
stepped j heap catalogue (ops.Say v) s g = played_later j heap heap s g g.recent g.eight refl
stepped j heap catalogue (ops.Cat v c) s g = absurd s
stepped j heap catalogue (ops.Put v n) s g = absurd s
stepped j heap catalogue (ops.Sum v i limit) s g = absurd s
stepped j heap catalogue ops.Collect s g = absurd s

-- this many lines of a warehouse
pub played : (j : ℕ) (es : List Execution) (heap : Heap) (catalogue : Option Heap) → AreSteps j es → IsPlayed (j % 64) heap → IsPlayed ((j + length es) % 64) (heap_from catalogue heap (ops_of es))
played j [] heap catalogue s g = subst (λ (m : ℕ). IsPlayed (m % 64) heap) (let same : j ≡ j + 0 = omega arith in same) g
played j (e ∷ es) heap catalogue s g =
    subst (λ (m : ℕ). IsPlayed (m % 64) (heap_from catalogue (heap_after heap catalogue e.op) (ops_of es))) (let same : j + 1 + length es ≡ j + suc (length es) = omega arith in same)
    (played (j + 1) es (heap_after heap catalogue e.op) catalogue s.1 (stepped j heap catalogue e.op s.0 g))
