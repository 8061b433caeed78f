-- What a command other than `new` and `collect` leaves to the mutator.
use Rattle.std.proofs.Common.{ℕ, ◌≡◌, ◌+◌, ◌≤◌, List, [], ◌∷◌, ◌++◌, refl, sym, ap, ◌∙◌, subst, Bool, true, false, not, ◌&&◌, Option, Some, None, if◌then◌else◌, arith}
use Rattle.std.specs.Prelude.{is_some}
use Rattle.std.proofs.lemmas.Bool.{and_parts, false≢true}
use Rattle.mark_core.specs.Steps.MutatorSteps.{used_bits}
use Rattle.mark_core.specs.Seats.{last_made}
use Rattle.mark_core.specs.declared.kinds.Shape.{Shape}
use Rattle.mark_core.specs.declared.kinds.Step.{Step}
use Rattle.mark_core.specs.declared.kinds.Step.TheVariants.{ReadOwn, ReadValue, ReadIdent, ReadCat, StoreField, StoreValue, StoreRoot, StoreNew, DirtyCard, CheckCard, HoldRoot}
use Rattle.mark_core.specs.declared.seat.CacheState.{CacheState}
use Rattle.mark_core.specs.declared.seat.SeatState.{SeatState}
use Rattle.plain_heap.specs.PlainHeap.{Heap}
use Rattle.plain_heap.specs.PlainStep.{line_of}
use Rattle.plain_heap.specs.Sections.{Execution, made_by, makes_object, printed_by, prints_line}
use Rattle.std.proofs.lemmas.List.Sums.{sum_by-append}
use Rattle.plain_heap.specs.declared.operation.Op.{Op}
use Rattle.plain_heap.specs.declared.operation.Op.TheVariants as ops
use Rattle.gc_table.specs.declared.view.Entry.{Entry}
use Rattle.gc_table.specs.declared.view.View.{View}
use Rattle.gc_table.specs.Log.{all_steps, events}
use Rattle.gc_table.proofs.History.Log.{only-more}
use Rattle.gc_table.proofs.Running.{ran-shape}
use Rattle.alloc_cache.specs.Caching.{cached}
use Rattle.alloc_cache.specs.declared.cache.Cache.{Cache}
use Rattle.mutator_ops.specs.Doing.{Does, belongs}
use Rattle.gc_cycle.specs.Answering.{HasCache}
use Rattle.warehouse.specs.Commands.{is_other}
use Rattle.warehouse.specs.Playing.{Acts, collects_by, is_collect}
use Rattle.gc_cycle.specs.Sorts.{stores_new, raises_flag}
use Rattle.gc_cycle.specs.Standing.{Mutates, is_at_rest}
use Rattle.cache_refills.specs.Stops.{may_stop, stops_without_cause}
use Rattle.warehouse.proofs.Counting.{command-seasons, command-uncounted, stored-turn}
use Rattle.warehouse.proofs.Pacing.{paces-command}
use Rattle.warehouse.proofs.TurnChanges.{is_of_command, of-command}

-- the seat is a mutator as before, with the same cache
pub mutates-other : (op : Op) (d : ℕ) (v w : View) → Does op d v w → Mutates v → Mutates w
mutates-other op d v w k m =
    record {
      active = ap (λ (s : SeatState). s.active) k.state ∙ m.active;
      unhelping = ap (λ (s : SeatState). s.helping) k.state ∙ m.unhelping;
      section = ap (λ (s : SeatState). is_some s.section) k.state ∙ m.section;
      rest = (λ i. is_at_rest (ran-shape v w k.ran i) (k.state i)) ∙ m.rest;
    }

pub has-cache : (kept : Option Cache) (v w : View) → w.state.cache ≡ v.state.cache → HasCache kept v → HasCache kept w
has-cache None v w e h = e ∙ h
has-cache (Some c) v w e h = subst (λ (o : Option CacheState). o ≡ cached c.block c.cells (used_bits o) (last_made o)) (sym e) h

-- it raises no flag
raises_none : (step : Step) (n : ℕ) → is_of_command step ≡ true → raises_flag step n ≡ false
raises_none (ReadOwn c j) n b = refl
raises_none (ReadValue c) n b = refl
raises_none (ReadIdent c) n b = refl
raises_none (ReadCat u) n b = refl
raises_none (StoreNew c part word) n b = refl
raises_none (CheckCard card) n b = refl
raises_none (DirtyCard card) n b = refl
raises_none (StoreField u j o) n b = refl
raises_none (StoreValue u m) n b = refl
raises_none (StoreRoot u r) n b = refl
raises_none (HoldRoot u r) n b = refl
raises_none step n b = absurd (false≢true b)

pub stops-none : (sh : Shape) (since : List Entry) (es : List Entry) → all_steps is_of_command es ≡ true → stops_without_cause sh since es ≡ 0
stops-none sh since [] b = refl
stops-none sh since (e ∷ es) b =
    let p = and_parts (is_of_command e.step) (all_steps is_of_command es) b in
    let later = stops_without_cause sh (if stores_new e.step e.found then [] else since ++ e ∷ []) es in
    ap (λ r. (if r && not (may_stop sh since) then 1 else 0) + later) (raises_none e.step e.found p.0) ∙ plus later ∙ stops-none sh (if stores_new e.step e.found then [] else since ++ e ∷ []) es p.1
  where
    plus : (m : ℕ) → 0 + m ≡ m
    plus m = omega arith

pub collects-not : (op : Op) → is_other op ≡ true → is_collect op ≡ false
collects-not (ops.New v n) b = absurd (false≢true b)
collects-not (ops.Let v w) b = refl
collects-not (ops.Nil v) b = refl
collects-not (ops.Set v i w) b = refl
collects-not (ops.Get v w i) b = refl
collects-not (ops.Cat v c) b = refl
collects-not (ops.Put v n) b = refl
collects-not (ops.Say v) b = refl
collects-not (ops.Sum v i limit) b = refl
collects-not ops.Collect b = absurd (false≢true b)

pub acts-other : (e : Execution) (d : ℕ) (v w : View) → is_other e.op ≡ true → Does e.op d v w → (season : ℕ) → v.state.season_seen ≡ Some season → Acts season 0 (collects_by (e ∷ [])) v w
acts-other e d v w other k season read =
    let all = only-more (belongs e.op) is_of_command (of-command e.op) v w k.only in
    record {
      ran = k.ran;
      polled = omega arith;
      stopped = λ since. omega (arith, stops-none v.shape since (events v w) all);
      stored = stored-turn season (events v w) v all read;
      uncounted = command-uncounted (events v w) all;
      seasons = command-seasons v w k.ran all;
      paced = paces-command v w k.ran all;
    }

-- it makes no object
pub makes-none : (op : Op) → is_other op ≡ true → makes_object op ≡ false
makes-none (ops.New v n) b = absurd (false≢true b)
makes-none (ops.Let v w) b = refl
makes-none (ops.Nil v) b = refl
makes-none (ops.Set v i w) b = refl
makes-none (ops.Get v w i) b = refl
makes-none (ops.Cat v c) b = refl
makes-none (ops.Put v n) b = refl
makes-none (ops.Say v) b = refl
makes-none (ops.Sum v i limit) b = refl
makes-none ops.Collect b = refl

-- it prints a line exactly if the script says so
pub prints-line : (heap : Heap) (catalogue : Option Heap) (op : Op) → is_some (line_of heap catalogue op) ≡ prints_line op
prints-line heap catalogue (ops.New v n) = refl
prints-line heap catalogue (ops.Let v w) = refl
prints-line heap catalogue (ops.Nil v) = refl
prints-line heap catalogue (ops.Set v i w) = refl
prints-line heap catalogue (ops.Get v w i) = refl
prints-line heap catalogue (ops.Cat v c) = refl
prints-line heap catalogue (ops.Put v n) = refl
prints-line heap catalogue (ops.Say v) = refl
prints-line heap catalogue (ops.Sum v i limit) = refl
prints-line heap catalogue ops.Collect = refl

prints_one : (line : ℕ) (label : List ℕ) (op : Op) → printed_by (record { line = line; label = label; op = op } ∷ []) ≡ (if prints_line op then 1 else 0)
prints_one line label (ops.New v n) = refl
prints_one line label (ops.Let v w) = refl
prints_one line label (ops.Nil v) = refl
prints_one line label (ops.Set v i w) = refl
prints_one line label (ops.Get v w i) = refl
prints_one line label (ops.Cat v c) = refl
prints_one line label (ops.Put v n) = refl
prints_one line label (ops.Say v) = refl
prints_one line label (ops.Sum v i limit) = refl
prints_one line label ops.Collect = refl

-- the lines of a command and of those after it
pub printed-more : (e : Execution) (later : List Execution) → printed_by (e ∷ later) ≡ (if prints_line e.op then 1 else 0) + printed_by later
printed-more e later = sum_by-append (λ (x : Execution). if prints_line x.op then 1 else 0) (e ∷ []) later ∙ ap (λ n. n + printed_by later) (prints_one e.line e.label e.op)

pub made-later : (e : Execution) (later : List Execution) → made_by later ≤ made_by (e ∷ later)
made-later e later =
    let both : made_by (e ∷ later) ≡ made_by (e ∷ []) + made_by later = sum_by-append (λ (x : Execution). if makes_object x.op then 1 else 0) (e ∷ []) later in
    omega (arith, both)

pub one-at-most : (b : Bool) → (if b then 1 else 0) ≤ 1
one-at-most true = omega arith
one-at-most false = omega arith

abbrev pub one-for : Bool → ℕ
one-for b = if b then 1 else 0
