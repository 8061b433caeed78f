-- The value that the words of a closed world have of its root is the one that the plain heap has.
use Rattle.std.proofs.Common.{[], ℕ, zero, suc, ◌≡◌, ◌⊎◌, ⊎_elim, inl, inr, ◌<◌, ◌+◌, ◌∙◌, List, ◌∷◌, ap, arith, length, refl, subst, sym, Bool, true, false, None, Some, ◌≤◌, ◌==◌, Option, eqb-true}
use Rattle.std.specs.Prelude.{IfSome, if◌then◌else◌, is_none, slice_get, slice_index, take, ◌-◌}
use Rattle.std.specs.Arc.{arc_value}
use Rattle.std.proofs.lemmas.Bool.{ne_eqb, and_from, and_parts, true≢false}
use Rattle.std.proofs.lemmas.List.{take_all}
use Rattle.std.proofs.lemmas.Option.{get_or_from_slice_get, same_Some, slice_get_within}
use Rattle.plain_heap.specs.Paths.{Name}
use Rattle.mark_core.specs.Cells.{in_use}
use Rattle.mark_core.specs.Layout.{words_of}
use Rattle.mark_core.specs.Laws.{IsCore}
use Rattle.mark_core.specs.Steps.{Core, after_event, failing_part, run_of, start_core}
use Rattle.mark_core.specs.Views.{makers}
use Rattle.mark_core.specs.declared.kinds.Event.{Event}
use Rattle.mark_core.specs.declared.kinds.Shape.{Shape}
use Rattle.mark_core.proofs.Consequences.Closing.{goes-to}
use Rattle.mark_core.proofs.Lagging.{Shows}
use Rattle.mark_core.proofs.Pool.PoolsKept.{shape-kept}
use Rattle.gc_table.specs.Ends.{AreWords}
use Rattle.gc_table.specs.declared.words.Words.{Words}
use Rattle.gc_table.specs.Agreement.{AgreesWith}
use Rattle.gc_table.specs.RunWorlds.{World, WorldObject, name_at, object_of, referred, variable_of}
use Rattle.gc_table.proofs.Stores.{values-length}
use Rattle.gc_table.specs.Runs.{core_after, AreAllowed}
use Rattle.gc_table.specs.Sharing.{heap_after_events}
use Rattle.shared_heap.specs.Counting.{CounterRead, root_value_of, value_at}
use Rattle.shared_heap.proofs.Counting.{counter-closed}
use Rattle.mark_core.specs.Seats.{may_mutate}
use Rattle.mark_core.specs.declared.kinds.Step.{Step}
use Rattle.mark_core.specs.declared.kinds.Step.TheVariants.{ExchangeField, ExchangeValue, StoreField, StoreNew, StoreRoot, StoreSlot, StoreValue, HoldRoot}
use Rattle.mark_core.specs.declared.seat.SeatState.{SeatState}
use Rattle.mark_core.proofs.Known.{Acted, acts}
use Rattle.mark_core.proofs.Blocks.BlocksStopped.{Taken}
use Rattle.gc_table.specs.Entries.{event, is_logged}
use Rattle.gc_table.specs.Laws.{IsRunOf}
use Rattle.gc_table.specs.Log.{all_steps}
use Rattle.gc_table.specs.Past.{adds, entries_of, log_from, log_of, word_told}
use Rattle.gc_table.specs.declared.seat.HeapSeat.{HeapSeat}
use Rattle.gc_table.proofs.Frame.{mutates}
use Rattle.gc_table.proofs.Lending.{Sound, later-sound}
use Rattle.gc_table.proofs.Freeing.{allowed, stays}
use Rattle.seat_turns.specs.Sharing.{spares_heap}
use Rattle.shared_heap.proofs.Rooted.{all-join}
use Rattle.gc_table.proofs.Rooted.{root-found}
use Rattle.gc_table.proofs.Shown.{root-shown, run-shows}
use Rattle.shared_heap.specs.Closing.{all_seats}
use Rattle.shared_heap.specs.Threads.{ThreadsRun}

-- A seat without a section, which is a tracer's, takes no step that a plain heap sees.
-- a step that a plain heap sees is a mutator's
seen_mutates : (c : Core) (i : ℕ) (s : SeatState) (step : Step) → Taken c i s step → spares_heap step ≡ false → may_mutate s ≡ true
seen_mutates c i s (StoreField v j w) k e = (and_parts _ (may_mutate s) k.ok.0).1
seen_mutates c i s (StoreValue v n) k e = (and_parts _ (may_mutate s) k.ok.0).1
seen_mutates c i s (StoreRoot v r) k e = (and_parts _ (may_mutate s) k.ok.0).1
seen_mutates c i s (HoldRoot v r) k e = (and_parts _ (may_mutate s) k.ok.0).1
seen_mutates c i s (StoreSlot j r) k e = (and_parts _ (may_mutate s) k.ok.0).1
seen_mutates c i s (ExchangeField v j x y) k e = (and_parts _ (may_mutate s) k.ok.0).1
seen_mutates c i s (ExchangeValue v m n) k e = (and_parts _ (may_mutate s) k.ok.0).1
seen_mutates c i s (StoreNew x part word) k e = (and_parts _ (may_mutate s) k.ok.0).1
seen_mutates c i s step k e = absurd (true≢false e)

spares_outside : (c : Core) (i : ℕ) (s : SeatState) (step : Step) → Taken c i s step → c.shape.sections ≤ i → spares_heap step ≡ true
spares_outside c i s step k out = by (spares_heap step) refl
  where
    by : (b : Bool) → spares_heap step ≡ b → b ≡ true
    by true e = refl
    by false e = absurd (let inside = (mutates c i s step k (seen_mutates c i s step k e)).inside in omega (arith, inside, out))

-- so does what it adds to a log
entries_spare : (c : Core) (s : SeatState) (step : Step) → spares_heap step ≡ true → all_steps spares_heap (entries_of c (Some s) step) ≡ true
entries_spare c s step h = by (is_logged step)
  where
    by : (b : Bool) → all_steps spares_heap (if b then event step (word_told c s step) ∷ [] else []) ≡ true
    by true = and_from (spares_heap step) true h refl
    by false = refl

adds_spare : (i : ℕ) (c : Core) (e : Event) → IsCore c → failing_part c e ≡ None → c.shape.sections ≤ i → all_steps spares_heap (adds i c e) ≡ true
adds_spare i c e k ok out = by (e.seat == i) refl
  where
    a : (s : SeatState) × Acted c e s
    a = acts c e k ok

    by : (b : Bool) → (e.seat == i) ≡ b → all_steps spares_heap (if b then entries_of c (slice_get c.seats e.seat) e.step else []) ≡ true
    by true is =
        ap (λ (o : Option SeatState). all_steps spares_heap (entries_of c o e.step)) a.1.seat
        ∙ entries_spare c a.0 e.step (spares_outside c e.seat a.0 e.step (record { core = k; got = a.1.seat; live = a.1.live; ok = a.1.ok }) (let same = eqb-true e.seat i is in omega (arith, same, out)))
    by false is = refl

outside_spares : (i : ℕ) (es : List Event) (c : Core) → Sound c es → AreAllowed c es → c.shape.sections ≤ i → all_steps spares_heap (log_from i c es) ≡ true
outside_spares i [] c core ok out = refl
outside_spares i (e ∷ es) c core ok out =
    all-join spares_heap (adds i c e) (log_from i (after_event c e) es) (adds_spare i c e (core 0) ok.0 out)
    (outside_spares i es (after_event c e) (later-sound c e es ok.0 core) ok.1 (subst (λ (sh : Shape). sh.sections ≤ i) (sym (shape-kept c e)) out))

pub run-outside : (sh : Shape) (seats : List HeapSeat) (w : Words) (es : List Event) → IsRunOf sh seats w es → (i : ℕ) → sh.sections ≤ i → all_steps spares_heap (log_of sh es i) ≡ true
run-outside sh seats w es r i out = outside_spares i es (start_core sh 1) r.sound (allowed 0 es (start_core sh 1) r.allowed) out

-- What the threads of a closed world did is one run, in which there is one root.
pub threads-run : ThreadsRun
threads-run world mutators tracers w end =
    let r = root-found (arc_value world.heap).shape (all_seats world end.rest tracers) w end.ends world.zero refl 0 (omega arith) world.first.keeps in (
      r.0,
      record {
        run = r.1.run;
        no_others = r.1.run.no_others world.zero refl end.all;
        agrees = r.1.agrees;
        tells = r.1.tells;
        root = r.1.root;
        kept = r.1.kept;
        tracers = λ i s out at. ap (all_steps spares_heap) (r.1.run.parts i s at) ∙ run-outside (arc_value world.heap).shape (all_seats world end.rest tracers) w r.0 r.1.run i out;
        found = r.1.found;
        frees_none = λ k x below. stays (start_core (arc_value world.heap).shape 1) r.0 r.1.run.sound (allowed 0 r.0 (start_core (arc_value world.heap).shape 1) r.1.run.allowed) k x below;
      },
    )

shape_by : (b : Bool) (x y : Core) (sh : Shape) → x.shape ≡ sh → y.shape ≡ sh → (if b then x else y).shape ≡ sh
shape_by true x y sh p q = p
shape_by false x y sh p q = q

run_shape : (es : List Event) (c : Core) → (run_of es c).shape ≡ c.shape
run_shape [] c = refl
run_shape (e ∷ es) c = shape_by (is_none (failing_part c e)) (run_of es (after_event c e)) c c.shape (run_shape es (after_event c e) ∙ shape-kept c e) refl

-- a word that refers to an object with a value isn't nil
value_some : (values : List ℕ) (word n : ℕ) → value_at values word ≡ Some n → (c : ℕ) × (word ≡ suc c) × (slice_get values c ≡ Some n)
value_some values zero n e = absurd (cc)
value_some values (suc c) n e =
    let no = ne_eqb (suc c) 0 (λ z. omega (arith, z)) in
    let one : suc c - 1 ≡ c = omega arith in (
      c,
      refl,
      ap (slice_get values) (sym one) ∙ (ap (λ (b : Bool). if b then None else slice_get values (suc c - 1)) (sym no) ∙ e),
    )

some_word : (words : List ℕ) (c : ℕ) → slice_index words 0 ≡ suc c → 0 < length words
some_word [] c e = absurd (cc)
some_word (x ∷ xs) c e = omega arith

none_some : (x : Name) → Some x ≡ None → ⊥
none_some x e = cc

-- if variable 0 of section 0 doesn't lag, and refers to the object of this name, or to nothing, the value that the words have there is this object's
held : (d : Core) (world : World) (w : Words) (root : Name) (n : ℕ) → IsCore d → IfSome (slice_get d.seats 0) Shows → AgreesWith d world → AreWords d.shape d.words w → (variable_of world 0 0 ≡ None) ⊎ (variable_of world 0 0 ≡ Some root) → root_value_of w ≡ Some n
    → (object : WorldObject) × (object_of world root ≡ Some object) × (object.value ≡ n)
held d world w root n core shows agrees words kept e =
    let ids : List ℕ = (words_of d.shape d.words).identities in
    let roots : List ℕ = (words_of d.shape d.words).roots in
    let values : List ℕ = (words_of d.shape d.words).values in
    let some = value_some w.values.items (slice_index w.roots.items 0) n e in
    let c : ℕ = some.0 in
    let word : slice_index roots 0 ≡ suc c = ap (λ (l : List ℕ). slice_index l 0) (sym words.roots) ∙ some.1 in
    let refers : Some (name_at ids c) ≡ variable_of world 0 0 = ap (referred ids) (sym word) ∙ ap (referred ids) (sym (root-shown d 0 0 shows (omega arith) (some_word roots c word))) ∙ agrees.roots_agree 0 0 (omega (arith, core.formed.shaped.sections)) (omega arith) in
    let there : slice_get values c ≡ Some n = ap (λ (l : List ℕ). slice_get l c) (sym words.values) ∙ some.2 in
    let within : c < d.shape.cells = subst (λ (k : ℕ). c < k) (values-length d core) (slice_get_within values c n there) in
    let named : slice_index roots 0 ≡ c + 1 = omega (arith, word) in
    let used : in_use (words_of d.shape d.words).allocs (makers d.seats) c ≡ true = goes-to (in_use (words_of d.shape d.words).allocs (makers d.seats)) (slice_index roots 0) c named (core.sound.references.roots_in_use 0 0 (some_word roots c word)) in
    let holds = agrees.cells_agree c within used in
    let name : name_at ids c ≡ root = ⊎_elim (λ (z : variable_of world 0 0 ≡ None). absurd (none_some (name_at ids c) (refers ∙ z))) (λ (z : variable_of world 0 0 ≡ Some root). same_Some (name_at ids c) root (refers ∙ z)) kept in (
      holds.object,
      subst (λ (m : Name). object_of world m ≡ Some holds.object) name holds.there,
      sym holds.value ∙ get_or_from_slice_get values c n 0 there,
    )

pub counter-read : CounterRead
counter-read world mutators tracers w end all raised n e =
    let r = threads-run world mutators tracers w end in
    let es : List Event = r.0 in
    let sh : Shape = (arc_value world.heap).shape in
    let k : ℕ = length es in
    let d : Core = core_after sh 1 es k in
    let whole : take k es ≡ es = take_all k es (omega arith) in
    let shape : d.shape ≡ sh = run_shape (take k es) (start_core sh 1) in
    let ends : AreWords sh d.words w = subst (λ (l : List Event). AreWords sh (run_of l (start_core sh 1)).words w) (sym whole) r.1.run.ends in
    let words : AreWords d.shape d.words w = subst (λ (s : Shape). AreWords s d.words w) (sym shape) ends in
    let core : IsCore (run_of es (start_core sh 1)) = subst (λ (l : List Event). IsCore (run_of l (start_core sh 1))) whole (r.1.run.sound k) in
    let shows : IfSome (slice_get d.seats 0) Shows =
    subst (λ (l : List Event). IfSome (slice_get (run_of l (start_core sh 1)).seats 0) Shows) (sym whole) (run-shows sh (all_seats world end.rest tracers) w es r.1.run core 0 (omega arith) (omega (arith, core.formed.shaped.sections))) in
    let kept = ⊎_elim (λ z. inl z.0) (λ z. inr z) (r.1.kept k) in
    let root = held d (heap_after_events sh es k) w r.1.root n (r.1.run.sound k) shows (r.1.agrees k) words kept e in
    sym root.2 ∙ counter-closed world mutators tracers w end es r.1 all raised root.0 root.1

pub ruleset reading = (threads-run)
