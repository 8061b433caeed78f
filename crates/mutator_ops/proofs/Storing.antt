-- A command that stores in an object.
use Rattle.std.proofs.Common.{ℕ, ◌≡◌, ◌≤◌, List, [], ◌∷◌, ◌++◌, arith, refl, sym, ap, ◌∙◌, Bool, true, false, not, ◌&&◌, ◌||◌, Some, None, Option, is_some, length, cond, ◌<◌, ◌+◌, is_none, subst}
use Rattle.std.specs.Prelude.{◌==◌, if◌then◌else◌}
use Rattle.std.specs.List.{list_all, list_any}
use Rattle.std.proofs.lemmas.Bool.{false≢true, true≢false, and_from, and_parts, or_left, or_right, lt-ltb, eq-eqb, ne_eqb, not_from_false}
use Rattle.mark_core.specs.Steps.ColourSteps.{dirty_card_effect, fresh_off, popped_off, redirty_off}
use Rattle.mark_core.specs.Seats.{work_in_hand, cleaning_left, scan_left, is_the, used_in, has_making, may_mutate}
use Rattle.mark_core.specs.declared.kinds.Step.{Step}
use Rattle.mark_core.specs.declared.kinds.Step.TheVariants.{ReadIdent, StoreField, DirtyCard, ExchangeField, ExchangeValue, HoldRoot, ReadSlot, StoreSlot, CheckCard}
use Rattle.mark_core.specs.declared.seat.Cleaning.{Cleaning}
use Rattle.mark_core.specs.declared.seat.SeatState.{SeatState}
use Rattle.plain_heap.specs.declared.operation.Op.{Op}
use Rattle.plain_heap.specs.declared.operation.Op.TheVariants as ops
use Rattle.gc_table.specs.declared.view.Entry.{Entry}
use Rattle.gc_table.specs.declared.view.SectionState.{SectionState}
use Rattle.gc_table.specs.declared.view.View.{View}
use Rattle.gc_table.specs.Log.{all_steps, steps_of, events, Only, event}
use Rattle.gc_table.specs.Running.{Ran, after_all}
use Rattle.gc_table.proofs.History.Log.{events-after, only-more}
use Rattle.gc_table.proofs.Running.{ran-events, ran-found, ran-join, ran-only, ran-shape}
use Rattle.card_clean.specs.Barrier.{barrier_steps, card_events, card_steps, cell_in, finds_dirty, record_stored, was_dirty, Exchanged}
use Rattle.mutator_ops.specs.Doing.{belongs, plain_steps, reads_ident, spares_plain, Does, IsOneStep, IsStepped, Looks}
use Rattle.mutator_ops.proofs.Stepping.{once-last, once-none}
use Rattle.mark_core.specs.Cards.{card_of}
use Rattle.gc_table.specs.Taking.{after, May}
use Rattle.mutator_ops.specs.Sharing.{SetsVariable, SharesReady, holding}
use Rattle.std.proofs.lemmas.List.Folds.{list_any_at}
use Rattle.mark_core.specs.Bits.{reference_in}
use Rattle.mark_core.specs.Numbers.{section_variables}
use Rattle.mark_core.specs.Steps.MutatorSteps.{names_last, seat_variable as word_in}
use Rattle.plain_heap.specs.PlainHeap.{Heap}
use Rattle.plain_heap.specs.PlainStep.{assigned, with_new}
use Rattle.gc_table.specs.Seats.{Found, Stored}
use Rattle.gc_table.specs.Sections.{named_by}
use Rattle.mark_core.specs.declared.kinds.Shape.{Shape}

-- A seat that shares objects is ready again after a call that changes its variables, and which of their roots lag.
pub shares-held : (v w : View) → SharesReady v → w.shape ≡ v.shape → w.state ≡ record v.state { env = w.state.env; lags = w.state.lags } → length w.own.meaning.heap.objects ≡ length v.own.meaning.heap.objects → SharesReady w
shares-held v w r shape s objects =
    record {
      shared = ap (λ (sh : Shape). sh.sharing) shape ∙ r.shared;
      stores =
          record {
            turn = ap may_mutate s ∙ r.stores.turn;
            seen = (r.stores.seen.0, ap (λ (t : SeatState). t.phase_seen) s ∙ r.stores.seen.1, r.stores.seen.2);
            owes = ap (λ (t : SeatState). t.owes) s ∙ r.stores.owes;
          };
      idle = (λ i. work_in_hand (shape i).fields (s i)) ∙ r.idle;
      whole = ap (λ (t : SeatState). has_making t.cache) s ∙ r.whole;
      register = ap (λ (t : SeatState). t.got) s ∙ r.register;
      counted = objects ∙ r.counted ∙ sym (ap (λ (t : SeatState). t.made) s);
    }

-- no root lags that didn't
pub held-form : (v w : View) → w.state ≡ record v.state { env = w.state.env } → w.state ≡ record v.state { env = w.state.env; lags = w.state.lags }
held-form v w s = s ∙ (λ i. record v.state { env = w.state.env; lags = sym (ap (λ (t : SeatState). t.lags) s) i })

pub shares-on : (v w : View) → SharesReady v → w.shape ≡ v.shape → w.state ≡ record v.state { env = w.state.env } → length w.own.meaning.heap.objects ≡ length v.own.meaning.heap.objects → SharesReady w
shares-on v w r shape s objects = shares-held v w r shape (held-form v w s) objects

-- what was read into the register may be held in a variable
pub may-share_read : (u r : ℕ) (v x : View) → SharesReady v → x.state ≡ record v.state { got = x.state.got } → u < section_variables → r ≡ x.state.got → May (HoldRoot u r) x
may-share_read u r v x ready s below is y i st a = (
  and_from _ _ (lt-ltb u section_variables below) (ap may_mutate s ∙ ready.stores.turn),
  (
    or_left ((r == 0) || (r == x.state.got) || list_any (λ n. n == r) x.state.env) (names_last x.state.cache r)
        (or_left ((r == 0) || (r == x.state.got)) (list_any (λ n. n == r) x.state.env) (or_right (r == 0) (r == x.state.got) (eq-eqb r x.state.got is))),
    (and_from _ _ (ap (λ (t : SeatState). is_none t.owes) s ∙ ap is_none ready.stores.owes) (ap (λ (t : SeatState). not (has_making t.cache)) s ∙ not_from_false _ ready.whole), tt),
  ),
)

-- what the record is after both
pub state-read : (u r n : ℕ) (v x w : View) → v.state.got ≡ 0 → x.state ≡ record v.state { got = x.state.got } → w ≡ after (HoldRoot u r) n x → w.state ≡ holding v.state u (reference_in r)
state-read u r n v x w none s e =
    ap (λ (y : View). y.state) e
    ∙ (λ i. record (holding (s i) u (reference_in r)) { got = 0 })
    ∙ (λ i. record (holding v.state u (reference_in r)) { got = sym none i })

-- and so is a seat that held a reference
pub held-on : (u r : ℕ) (v w : View) → SharesReady v → w.shape ≡ v.shape → w.state ≡ holding v.state u r → length w.own.meaning.heap.objects ≡ length v.own.meaning.heap.objects → SharesReady w
held-on u r v w q shape s objects = shares-held v w q shape (s ∙ ap (λ (t : SeatState). record v.state { env = t.env; lags = t.lags }) (sym s)) objects

-- a variable was held
pub sets-variable : (u r n : ℕ) (v w : View) → SharesReady v → Found (HoldRoot u r) n v w → SetsVariable u r v w
sets-variable u r n v w ready f =
    record { ran = ran-found v w (HoldRoot u r) n refl f; old = n; events_are = events-after v w (HoldRoot u r) n f.0; state = state-read u r n v v w ready.register refl f.0 }

count-rooted : (b : Bool) (h k : Heap) → b ≡ false → length (if b then h else k).objects ≡ length k.objects
count-rooted b h k e = ap (λ (c : Bool). length (if c then h else k).objects) e

none-last : (a b : Bool) → b ≡ false → (a && b) ≡ false
none-last a b e = grind arith

-- no object comes by it
pub count-read : (u r n : ℕ) (x w : View) → length x.own.meaning.heap.objects ≡ x.state.made → w ≡ after (HoldRoot u r) n x → length w.own.meaning.heap.objects ≡ length x.own.meaning.heap.objects
count-read u r n x w counted e =
    let m = x.own.meaning in
    ap (λ (y : View). length y.own.meaning.heap.objects) e
    ∙ count-rooted (names_last x.state.cache r && (length m.heap.objects + 1 == x.state.made)) (with_new m.heap u m.value) (assigned m.heap u (named_by x.state m r))
    (none-last (names_last x.state.cache r) (length m.heap.objects + 1 == x.state.made) (ne_eqb (length m.heap.objects + 1) x.state.made (λ z. omega (arith, z, counted))))

-- a slot that exists may be read
pub may-read_slot : (k : ℕ) (v : View) → SharesReady v → k < v.shape.slots → May (ReadSlot k) v
may-read_slot k v ready low y i st a = (and_from _ _ (lt-ltb k y.core.shape.slots (subst (λ (sh : Shape). k < sh.slots) a.shape low)) ready.stores.turn, tt)

-- what a variable holds may be stored in a slot
pub may-spill : (k r u : ℕ) (v : View) → SharesReady v → k < v.shape.slots → u < section_variables → r ≡ word_in v.state u → May (StoreSlot k r) v
may-spill k r u v ready low below is y i st a = (
  and_from _ _ (lt-ltb k y.core.shape.slots (subst (λ (sh : Shape). k < sh.slots) a.shape low)) ready.stores.turn,
  (
    or_left ((r == 0) || (r == v.state.got) || list_any (λ n. n == r) v.state.env) (names_last v.state.cache r)
        (or_right ((r == 0) || (r == v.state.got)) (list_any (λ n. n == r) v.state.env)
        (list_any_at (λ n. n == r) v.state.env u 0 (omega (arith, below, (st.core.formed.seats i v.state a.seat).env)) (eq-eqb (word_in v.state u) r (sym is)))),
    (and_from _ _ (ap is_none ready.stores.owes) (not_from_false _ ready.whole), tt),
  ),
)

-- the record after a spill
pub state-spilled : (k r : ℕ) (v w : View) → v.state.got ≡ 0 → Stored (StoreSlot k r) v w → w.state ≡ record v.state { env = w.state.env }
state-spilled k r v w none e =
    ap (λ (y : View). y.state) e ∙ (λ i. record v.state { got = sym none i }) ∙ (λ i. record v.state { env = sym (ap (λ (y : View). y.state.env) e) i })

-- a spill leaves the record as it was
pub state-kept : (k r : ℕ) (v w : View) → v.state.got ≡ 0 → Stored (StoreSlot k r) v w → w.state ≡ v.state
state-kept k r v w none e = ap (λ (y : View). y.state) e ∙ (λ i. record v.state { got = sym none i })

-- a seat with nothing in hand dirties a card, and nothing of its record changes
or_none : (a b : Bool) → (a || b) ≡ false → (a ≡ false) × (b ≡ false)
or_none true b e = absurd (true≢false e)
or_none false b e = (refl, e)

fresh_none : (o : Option ℕ) (card : ℕ) → is_some o ≡ false → fresh_off o card ≡ o
fresh_none None card e = refl
fresh_none (Some c) card e = absurd (true≢false e)

popped_none : (o : Option (ℕ × Bool)) (card : ℕ) → is_some o ≡ false → popped_off o card ≡ o
popped_none None card e = refl
popped_none (Some c) card e = absurd (true≢false e)

settled : (b : Bool) (x : Cleaning) → x.redirty ≡ false → (if b then record x { redirty = false } else x) ≡ x
settled true x e = ap (λ (r : Bool). record x { redirty = r }) (sym e)
settled false x e = refl

cleaning_none : (o : Option Cleaning) (card : ℕ) → cleaning_left o ≡ false → redirty_off o card ≡ o
cleaning_none None card e = refl
cleaning_none (Some x) card e = ap (λ (y : Cleaning). Some y) (settled (x.card == card) x (or_none (not x.known || not (x.left == 0)) x.redirty e).1)

dirtied_none : (fields : ℕ) (s : SeatState) (card : ℕ) → work_in_hand fields s ≡ false → s.owes ≡ None → (dirty_card_effect s card).seat 0 ≡ s
dirtied_none fields s card idle owes =
    let a = or_none (is_some s.popped || scan_left fields s.scan || is_some s.value || is_some s.fresh) (cleaning_left s.cleaning) idle in
    let b = or_none (is_some s.popped || scan_left fields s.scan || is_some s.value) (is_some s.fresh) a.0 in
    let c = or_none (is_some s.popped || scan_left fields s.scan) (is_some s.value) b.0 in
    let d = or_none (is_some s.popped) (scan_left fields s.scan) c.0 in
    let paid : (if is_the s.owes card then None else s.owes) ≡ s.owes = ap (λ (o : Option ℕ). if is_the o card then None else o) owes ∙ sym owes in
    λ i. record s { fresh = fresh_none s.fresh card b.1 i; popped = popped_none s.popped card d.0 i; owes = paid i; cleaning = cleaning_none s.cleaning card a.1 i }

-- so the barrier leaves its record
pub stored-same : (fields : ℕ) (s : SeatState) (u : ℕ) (dirty : Bool) → work_in_hand fields s ≡ false → s.owes ≡ None → record_stored s u dirty ≡ s
stored-same fields s u dirty idle owes = by_test (used_in s.cache (cell_in s u) || dirty)
  where
    by_test : (b : Bool) → (if b then s else (dirty_card_effect s (card_of (cell_in s u))).seat 0) ≡ s
    by_test true = refl
    by_test false = dirtied_none fields s (card_of (cell_in s u)) idle owes

pub all-by : (p : Step → Bool) (es : List Entry) → all_steps p es ≡ list_all p (steps_of es)
all-by p [] = refl
all-by p (e ∷ es) = ap (λ (b : Bool). p e.step && b) (all-by p es)

-- the barrier's steps are those of `set`
pub only-barrier : (s : SeatState) (u i w : ℕ) (o : Option ℕ) (dirty : Bool) (v x : View) → steps_of (events v x) ≡ barrier_steps s u i o dirty → Only (belongs (ops.Set u i w)) v x
only-barrier s u i w o dirty v x e = all-by (belongs (ops.Set u i w)) (events v x) ∙ ap (list_all (belongs (ops.Set u i w))) e ∙ by_use (used_in s.cache (cell_in s u)) dirty
  where
    by_use : (b d : Bool) → list_all (belongs (ops.Set u i w)) (StoreField u i o ∷ (if b then [] else card_steps (card_of (cell_in s u)) d)) ≡ true
    by_use true d = refl
    by_use false true = refl
    by_use false false = refl

-- the plain heap sees one of the barrier's steps
pub once-barrier : (s : SeatState) (u i : ℕ) (o : Option ℕ) (dirty : Bool) (v x : View) → steps_of (events v x) ≡ barrier_steps s u i o dirty → IsOneStep v x
once-barrier s u i o dirty v x e = rw (ap plain_steps e) (by_use (used_in s.cache (cell_in s u)) dirty)
  where
    by_use : (b d : Bool) → plain_steps (StoreField u i o ∷ (if b then [] else card_steps (card_of (cell_in s u)) d)) ≤ 1
    by_use true d = omega arith
    by_use false true = omega arith
    by_use false false = omega arith

-- whoever asked before whose object it is has found no card dirty by that
ident_finds : (step : Step) (n : ℕ) → reads_ident step ≡ true → finds_dirty step n ≡ false
ident_finds (ReadIdent c) n e = refl
ident_finds step n e = absurd (false≢true e)

idents_find : (es fs : List Entry) → all_steps reads_ident es ≡ true → was_dirty (es ++ fs) ≡ was_dirty fs
idents_find [] fs a = refl
idents_find (e ∷ es) fs a = let p = and_parts (reads_ident e.step) (all_steps reads_ident es) a in ap (λ (b : Bool). b || was_dirty (es ++ fs)) (ident_finds e.step e.found p.0) ∙ idents_find es fs p.1

pub dirty-later : (v x w : View) → Looks v x → Ran x w → was_dirty (events v w) ≡ was_dirty (events x w)
dirty-later v x w k r = ap was_dirty (ran-events v x w k.ran r) ∙ idents_find (events v x) (events x w) k.only

ident-spares : (step : Step) → reads_ident step ≡ true → spares_plain step ≡ true
ident-spares (ReadIdent c) e = refl
ident-spares step e = absurd (false≢true e)

-- the whole command, if it looked first whose object it is
pub looks-does : (op : Op) (dropped : ℕ) (v w : View) → ((step : Step) → reads_ident step ≡ true → belongs op step ≡ true) → Looks v w → IsStepped op dropped v w → Does op dropped v w
looks-does op dropped v w more k heap =
    record {
      ran = k.ran;
      only = only-more reads_ident (belongs op) more v w k.only;
      once = once-none v w (only-more reads_ident spares_plain ident-spares v w k.only);
      heap = heap;
      undropped = ap (λ (y : SectionState). y.meaning.heap.dropped) k.own;
      state = k.state ∙ ap (λ (s : SeatState). record v.state { env = s.env }) (sym k.state);
      own = k.own ∙ ap (λ (y : SectionState). record v.own { meaning = y.meaning; history = y.history; settled = y.settled }) (sym k.own);
    }

-- the whole command, if it looked first whose object it is, and stored
pub stores-does : (op : Op) (v x w : View) → ((step : Step) → reads_ident step ≡ true → belongs op step ≡ true) → Looks v x → Ran x w → Only (belongs op) x w → w.state ≡ x.state
    → w.own ≡ record x.own { meaning = w.own.meaning; history = w.own.history; settled = w.own.settled } → IsOneStep x w → IsStepped op 0 v w → w.own.meaning.heap.dropped ≡ x.own.meaning.heap.dropped → Does op 0 v w
stores-does op v x w more k ran only state own once heap undropped =
    let same : w.state ≡ v.state = state ∙ k.state in
    record {
      ran = ran-join v x w k.ran ran;
      only = ran-only (belongs op) v x w k.ran ran (only-more reads_ident (belongs op) more v x k.only) only;
      once = once-last v x w k.ran ran (only-more reads_ident spares_plain ident-spares v x k.only) once;
      heap = heap;
      undropped = undropped ∙ ap (λ (y : SectionState). y.meaning.heap.dropped) k.own;
      state = same ∙ ap (λ (s : SeatState). record v.state { env = s.env }) (sym same);
      own = own ∙ ap (λ (y : SectionState). record y { meaning = w.own.meaning; history = w.own.history; settled = w.own.settled }) k.own;
    }

-- reading an identity belongs to both
pub reads-set : (u i w : ℕ) (step : Step) → reads_ident step ≡ true → belongs (ops.Set u i w) step ≡ true
reads-set u i w (ReadIdent c) e = refl
reads-set u i w step e = absurd (false≢true e)

pub reads-put : (u n : ℕ) (step : Step) → reads_ident step ≡ true → belongs (ops.Put u n) step ≡ true
reads-put u n (ReadIdent c) e = refl
reads-put u n step e = absurd (false≢true e)

-- A seat that shares objects is ready again after an exchange.
abbrev Count : View → ℕ
Count v = length v.own.meaning.heap.objects

-- no object comes by an exchange, nor by the card that is seen to after it
count_card : (x : View) (card word : ℕ) (dirty : Bool) → Count (after_all (event (CheckCard card) word ∷ (if dirty then [] else event (DirtyCard card) 1 ∷ [])) x) ≡ Count x
count_card x card word true = refl
count_card x card word false = refl

count_after : (x : View) (won used : Bool) (card word : ℕ) → Count (after_all (cond won (cond used [] (card_events card word)) []) x) ≡ Count x
count_after x false used card word = refl
count_after x true true card word = refl
count_after x true false card word = count_card x card word (word == 1)

same_by : (won : Bool) (s t : SeatState) → t ≡ s → cond won t s ≡ s
same_by true s t e = e
same_by false s t e = refl

-- the seat's record is as before
pub exchanged-same : (u i : ℕ) (x y : Option ℕ) (won : Bool) (v w : View) → SharesReady v → Exchanged u i x y won v w → w.state ≡ v.state
exchanged-same u i x y won v w q e = e.state ∙ same_by won v.state (record_stored v.state u (e.card_word == 1)) (stored-same v.shape.fields v.state u (e.card_word == 1) q.idle q.stores.owes)

pub exchanged-ready : (u i : ℕ) (x y : Option ℕ) (won : Bool) (v w : View) → SharesReady v → Ran v w → Exchanged u i x y won v w → SharesReady w
exchanged-ready u i x y won v w q r e =
    let same : w.state ≡ v.state = exchanged-same u i x y won v w q e in
    let first : View = after (ExchangeField u i x y) e.found v in
    let count : Count w ≡ Count v =
    ap Count (r.steps ∙ ap (λ (es : List Entry). after_all es v) e.did_are) ∙ count_after first won (used_in v.state.cache (cell_in v.state u)) (card_of (cell_in v.state u)) e.card_word in
    shares-on v w q (ran-shape v w r) (same ∙ ap (λ (s : SeatState). record v.state { env = s.env }) (sym same)) count

-- and after an exchange of a value
pub counted-ready : (u m n k : ℕ) (v w : View) → SharesReady v → Ran v w → w ≡ after (ExchangeValue u m n) k v → SharesReady w
counted-ready u m n k v w q r e =
    let same : w.state ≡ v.state = ap (λ (z : View). z.state) e in
    shares-on v w q (ran-shape v w r) (same ∙ ap (λ (s : SeatState). record v.state { env = s.env }) (sym same)) (ap Count e)
