-- A command as its steps did it is a command of the player.
use Rattle.std.proofs.Common.{ℕ, ◌≡◌, ◌+◌, List, [], ◌∷◌, ◌++◌, map, refl, sym, ap, ◌∙◌, subst, false, Option, Some, None, if◌then◌else◌, arith}
use Rattle.std.specs.Prelude.{slice_get}
use Rattle.std.proofs.lemmas.Bool.{false≢true}
use Rattle.plain_heap.specs.declared.object.Ref.{Ref}
use Rattle.plain_heap.specs.declared.object.Ref.TheVariants as refs
use Rattle.plain_heap.specs.declared.object.Object.{Object}
use Rattle.plain_heap.specs.declared.operation.Op.{Op}
use Rattle.plain_heap.specs.declared.operation.Op.TheVariants as ops
use Rattle.plain_heap.specs.PlainHeap.{Heap, variable}
use Rattle.plain_heap.specs.PlainStep.{heap_after, line_of, stored_at, replaced_by}
use Rattle.plain_heap.specs.Placement.{IsNew}
use Rattle.gc_table.specs.declared.view.Place.{Place}
use Rattle.gc_table.specs.declared.view.SectionState.{SectionState}
use Rattle.gc_table.specs.declared.view.View.{View}
use Rattle.gc_table.specs.Sections.{season_of}
use Rattle.gc_table.specs.Running.{Ran}
use Rattle.gc_table.proofs.Running.{ran-shape, ran-plan, ran-section}
use Rattle.mutator_ops.specs.Creating.{Creates}
use Rattle.mutator_ops.specs.Doing.{Does as OperationDoes, IsStepped, seen, with_dropped}
use Rattle.play_end.specs.Alike.{AreAlike, uncounted}
use Rattle.play_end.specs.Done.{SectionDoes}
use Rattle.play_end.specs.Parts.{Player, DoesCommand, StaysOf}
use Rattle.plain_heap.specs.Sections.{Execution, makes_object}
use Rattle.plain_heap.specs.PlainRun.{with_label}
use Rattle.play_end.specs.Playing.{drops, is_lent}
use Rattle.warehouse.proofs.TurnChanges.{turns-of}

-- the heap is the one after the operation, apart from the count of dropped stores
pub alike-stepped : (op : Op) (d : ℕ) (v w : View) → IsStepped op d v w → AreAlike w.own.meaning.heap (heap_after v.own.meaning.heap (seen v) op)
alike-stepped op d v w e = ap uncounted (e v.own.meaning.heap.dropped)

-- a command other than `new`, if its seat drops no store in the heap of its view
pub does-other : (op : Op) (d : ℕ) (v w : View) → makes_object op ≡ false → OperationDoes op d v w → SectionDoes (seen v) (season_of v.state) op v.own w.own
does-other op d v w old k =
    let t = turns-of op v w k.ran k.only in
    record {
      heap = alike-stepped op d v w k.heap;
      undropped = k.undropped;
      more = t.more;
      turns = t.turns;
      few = omega (arith, t.many, k.once);
      in_turn = t.in_turn;
      last = t.last;
      new = λ is. absurd (isn't op old is);
      kept = λ isn. ap (λ (x : SectionState). x.places) k.own;
      full = ap (λ (x : SectionState). x.full) k.own;
    }
  where
    isn't : (o : Op) → makes_object o ≡ false → IsNew o → ⊥
    isn't (ops.New u n) e is = false≢true (sym e)
    isn't (ops.Let u x) e is = is
    isn't (ops.Nil u) e is = is
    isn't (ops.Set u i x) e is = is
    isn't (ops.Get u x i) e is = is
    isn't (ops.Cat u c) e is = is
    isn't (ops.Put u n) e is = is
    isn't (ops.Say u) e is = is
    isn't (ops.Sum u i l) e is = is
    isn't ops.Collect e is = is

-- `new`
pub does-new : (u n cell : ℕ) (v w : View) → Creates u n cell v w → SectionDoes (seen v) (season_of v.state) (ops.New u n) v.own w.own
does-new u n cell v w k =
    let t = turns-of (ops.New u n) v w k.ran k.only in
    record {
      heap = alike-stepped (ops.New u n) 0 v w k.heap;
      undropped = k.undropped;
      more = t.more;
      turns = t.turns;
      few = omega (arith, t.many, k.once);
      in_turn = t.in_turn;
      last = t.last;
      new = λ is. (cell, ap (λ (x : SectionState). x.places) k.own);
      kept = λ isn. absurd (isn tt);
      full = ap (λ (x : SectionState). x.full) k.own;
    }

-- the seat stays the section's
pub stays-of : (v w : View) → Ran v w → StaysOf v w
stays-of v w ran = record { plan = ran-plan v w ran; shape = ran-shape v w ran; section = ran-section v w ran }

-- how many stores it dropped is what the plain heap says
replaced_keeps : (heap : Heap) (n : ℕ) (f : Object → Object) (o : Option Object) → (replaced_by heap n f o).dropped ≡ heap.dropped
replaced_keeps heap n f None = refl
replaced_keeps heap n f (Some x) = refl

stored_drops : (heap : Heap) (ref : Ref) (f : Object → Object) → heap.dropped ≡ 0 → (stored_at heap ref f).dropped ≡ (if is_lent ref then 1 else 0)
stored_drops heap refs.Nil f z = z
stored_drops heap (refs.Cat n) f z = ap (λ m. m + 1) z
stored_drops heap (refs.Own n) f z = replaced_keeps heap n f (slice_get heap.objects n) ∙ z

pub drops-stepped : (op : Op) (d : ℕ) (v w : View) → makes_object op ≡ false → IsStepped op d v w → d ≡ (if drops v.own.meaning.heap op then 1 else 0)
drops-stepped op d v w old e = plus_zero ∙ ap (λ (h : Heap). h.dropped) (e 0) ∙ by op old
  where
    plus_zero : d ≡ 0 + d
    plus_zero = omega arith

    by : (o : Op) → makes_object o ≡ false → (heap_after (with_dropped 0 v.own.meaning.heap) (seen v) o).dropped ≡ (if drops v.own.meaning.heap o then 1 else 0)
    by (ops.New u n) old = absurd (false≢true (sym old))
    by (ops.Let u x) old = refl
    by (ops.Nil u) old = refl
    by (ops.Set u i x) old = stored_drops (with_dropped 0 v.own.meaning.heap) (variable v.own.meaning.heap u) _ refl
    by (ops.Get u x i) old = refl
    by (ops.Cat u c) old = refl
    by (ops.Put u n) old = stored_drops (with_dropped 0 v.own.meaning.heap) (variable v.own.meaning.heap u) _ refl
    by (ops.Say u) old = refl
    by (ops.Sum u i l) old = refl
    by ops.Collect old = refl

-- a command other than `new` is a command of the player
pub command-other :
    (e : Execution) (d : ℕ) (x y : Player) → makes_object e.op ≡ false → OperationDoes e.op d x.view y.view → y.count ≡ x.count + 1
    → y.said ≡ x.said ++ with_label e.label (line_of x.view.own.meaning.heap (seen x.view) e.op) [] → y.dropped ≡ x.dropped + d → y.cells ≡ x.cells → x.cells ≡ map (λ (p : Place). p.cell) x.view.own.places → DoesCommand e x y
command-other e d x y old k count said dropped cells were =
    record {
      of = stays-of x.view y.view k.ran;
      does = does-other e.op d x.view y.view old k;
      count = count;
      said = said;
      dropped = dropped ∙ ap (λ n. x.dropped + n) (drops-stepped e.op d x.view y.view old k.heap);
      cells = cells ∙ were ∙ ap (λ (o : SectionState). map (λ (p : Place). p.cell) o.places) (sym k.own);
    }

-- `new` is a command of the player
pub command-new :
    (e : Execution) (u n cell : ℕ) (x y : Player) → e.op ≡ ops.New u n → Creates u n cell x.view y.view → y.count ≡ x.count + 1
    → y.said ≡ x.said → y.dropped ≡ x.dropped → y.cells ≡ x.cells ++ cell ∷ [] → x.cells ≡ map (λ (p : Place). p.cell) x.view.own.places → DoesCommand e x y
command-new e u n cell x y is k count said dropped cells were =
    record {
      of = stays-of x.view y.view k.ran;
      does = subst (λ op. SectionDoes (seen x.view) (season_of x.view.state) op x.view.own y.view.own) (sym is) (does-new u n cell x.view y.view k);
      count = count;
      said = said ∙ append_none x.said ∙ ap (λ op. x.said ++ with_label e.label (line_of x.view.own.meaning.heap (seen x.view) op) []) (sym is);
      dropped = dropped ∙ plus_none x.dropped ∙ ap (λ op. x.dropped + (if drops x.view.own.meaning.heap op then 1 else 0)) (sym is);
      cells = cells ∙ ap (λ cs. cs ++ cell ∷ []) were ∙ sym (map_last x.view.own.places _) ∙ ap (λ (o : SectionState). map (λ (p : Place). p.cell) o.places) (sym k.own);
    }
  where
    append_none : {X : Type 0} (xs : List X) → xs ≡ xs ++ []
    append_none [] = refl
    append_none (y ∷ ys) = ap (λ zs. y ∷ zs) (append_none ys)

    plus_none : (m : ℕ) → m ≡ m + 0
    plus_none m = omega arith

    map_last : (ps : List Place) (p : Place) → map (λ (q : Place). q.cell) (ps ++ p ∷ []) ≡ map (λ (q : Place). q.cell) ps ++ p.cell ∷ []
    map_last [] p = refl
    map_last (q ∷ qs) p = ap (λ cs. q.cell ∷ cs) (map_last qs p)
