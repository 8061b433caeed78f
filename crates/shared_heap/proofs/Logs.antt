-- What the calls of a mutator add to its log, and how what one added joins what the next adds.
use Rattle.std.proofs.Common.{ℕ, ◌≡◌, ⊎_elim, ◌+◌, ◌==◌, ◌&&◌, ◌∙◌, List, [], ◌∷◌, ◌++◌, ap, append-nil, append_assoc, arith, not, refl, subst, sym, Bool, true, false, Some}
use Rattle.std.specs.Prelude.{if◌then◌else◌}
use Rattle.std.proofs.lemmas.Bool.{and_from, and_parts, eq-eqb, false≢true}
use Rattle.mark_core.specs.Cards.{card_of}
use Rattle.mark_core.specs.Seats.{used_in}
use Rattle.mark_core.specs.Steps.MutatorSteps.{seat_variable as word_in}
use Rattle.mark_core.specs.declared.kinds.Step.{Step}
use Rattle.mark_core.specs.declared.kinds.Step.TheVariants.{DirtyCard, ExchangeValue, StoreNew, StoreValue}
use Rattle.mark_core.specs.declared.seat.SeatState.{SeatState}
use Rattle.card_clean.specs.Barrier.{barrier_steps, card_steps, cell_in, was_dirty}
use Rattle.gc_table.specs.Log.{all_steps, event, events, steps_of}
use Rattle.gc_table.specs.Running.{Ran}
use Rattle.gc_table.specs.Seats.{view_of}
use Rattle.gc_table.specs.declared.view.Entry.{Entry}
use Rattle.gc_table.specs.declared.view.View.{View}
use Rattle.gc_table.proofs.History.Log.{events-of}
use Rattle.gc_table.proofs.Running.{ran-grows}
use Rattle.gc_table.specs.Single.{exchanges_value, is_inside, leaves_values, made_count, makes_object, raises, takes_turn, takes_turns, turned, won_count}
use Rattle.gc_table.proofs.Counted.{made_join, won_join}
use Rattle.mutator_ops.specs.Sharing.{LendsFound, SetsField, SetsVariable, setting_steps}
use Rattle.seat_turns.specs.Exchanging.{ExchangesValue}
use Rattle.seat_turns.specs.Sharing.{FollowsField, spares_heap}
use Rattle.shared_heap.specs.Calls.{FindsValue, IsSame, SharerActs, field_count_of}
use Rattle.shared_heap.specs.Counting.{OnlyExchanges}
use Rattle.shared_heap.specs.Logs.{Adds, AddsLocks, AddsQuiet, AddsRaises, Locks, Raises, is_quiet}
use Rattle.shared_heap.specs.declared.mutator.SharedMutator.{SharedMutator}
use Rattle.shared_heap.proofs.Rooted.{all-join, all-more}

-- one thing after the other
pub adds-join : (P Q R : List Entry → Type 0) → ((xs ys : List Entry) → P xs → Q ys → R (xs ++ ys)) → (x y z : SharedMutator) → Adds P x y → Adds Q y z → Adds R x z
adds-join P Q R join x y z a b =
    record {
      heap = b.heap ∙ a.heap;
      more = a.more ++ b.more;
      log = b.log ∙ (ap (λ (l : List Entry). l ++ b.more) a.log ∙ append_assoc (view_of x.seat).log a.more b.more);
      are = join a.more b.more a.are b.are;
    }

-- nothing was done
pub adds-none : (P : List Entry → Type 0) → P [] → (x : SharedMutator) → Adds P x x
adds-none P none x = record { heap = refl; more = []; log = sym (append-nil (view_of x.seat).log); are = none }

-- what is so of these events is so of them in another way
pub adds-as : (P Q : List Entry → Type 0) → ((es : List Entry) → P es → Q es) → (x y : SharedMutator) → Adds P x y → Adds Q x y
adds-as P Q f x y a = record { heap = a.heap; more = a.more; log = a.log; are = f a.more a.are }

-- a quiet step makes no object, and changes no value
made_quiet : (fields : ℕ) (step : Step) → is_quiet step ≡ true → makes_object fields step ≡ false
made_quiet fields (StoreNew c part word) e = absurd (false≢true e)
made_quiet fields step e = refl

leaves_quiet : (fields : ℕ) (step : Step) → is_quiet step ≡ true → leaves_values fields step ≡ true
leaves_quiet fields (StoreNew c part word) e = absurd (false≢true e)
leaves_quiet fields (StoreValue v n) e = absurd (false≢true e)
leaves_quiet fields step e = refl

raises_quiet : (step : Step) → is_quiet step ≡ true → raises step ≡ true
raises_quiet (ExchangeValue v m n) e = absurd (false≢true e)
raises_quiet step e = refl

none_quiet : (step : Step) → is_quiet step ≡ true → exchanges_value step ≡ false
none_quiet (ExchangeValue v m n) e = absurd (false≢true e)
none_quiet step e = refl

turn_quiet : (b : Bool) (step : Step) → is_quiet step ≡ true → takes_turn b step ≡ true
turn_quiet b (ExchangeValue v m n) e = absurd (false≢true e)
turn_quiet b step e = refl

turned_quiet : (b : Bool) (step : Step) (won : Bool) → is_quiet step ≡ true → turned b step won ≡ b
turned_quiet b (ExchangeValue v m n) won e = absurd (false≢true e)
turned_quiet b step won e = refl

made_none : (fields : ℕ) (es : List Entry) → all_steps is_quiet es ≡ true → made_count fields es ≡ 0
made_none fields [] a = refl
made_none fields (x ∷ xs) a =
    let p = and_parts (is_quiet x.step) (all_steps is_quiet xs) a in
    let here = ap {B = ℕ} (λ (b : Bool). if b then 1 else 0) (made_quiet fields x.step p.0) in
    let rest = made_none fields xs p.1 in
    omega (arith, here, rest)

won_none : (es : List Entry) → all_steps is_quiet es ≡ true → won_count es ≡ 0
won_none [] a = refl
won_none (x ∷ xs) a =
    let p = and_parts (is_quiet x.step) (all_steps is_quiet xs) a in
    let here = ap {B = ℕ} (λ (b : Bool). if b && x.won then 1 else 0) (none_quiet x.step p.0) in
    let rest = won_none xs p.1 in
    omega (arith, here, rest)

turns_none : (b : Bool) (es : List Entry) → all_steps is_quiet es ≡ true → (takes_turns b es ≡ true) × (is_inside b es ≡ b)
turns_none b [] a = (refl, refl)
turns_none b (x ∷ xs) a =
    let p = and_parts (is_quiet x.step) (all_steps is_quiet xs) a in
    let same = turned_quiet b x.step x.won p.0 in
    let rest = turns_none b xs p.1 in (
      and_from (takes_turn b x.step) (takes_turns (turned b x.step x.won) xs) (turn_quiet b x.step p.0) (ap (λ (d : Bool). takes_turns d xs) same ∙ rest.0),
      ap (λ (d : Bool). is_inside d xs) same ∙ rest.1,
    )

quiet_only : (fields : ℕ) (es : List Entry) → all_steps is_quiet es ≡ true → OnlyExchanges fields es
quiet_only fields es a = record { made = made_none fields es a; values = all-more is_quiet (leaves_values fields) (leaves_quiet fields) es a }

pub quiet-raises : (fields : ℕ) (es : List Entry) → all_steps is_quiet es ≡ true → Raises fields 0 es
quiet-raises fields es a = record { only = quiet_only fields es a; raises = all-more is_quiet raises raises_quiet es a; won = won_none es a }

pub quiet-locks : (fields : ℕ) (b : Bool) (es : List Entry) → all_steps is_quiet es ≡ true → Locks fields b b 0 es
quiet-locks fields b es a = let t = turns_none b es a in record { only = quiet_only fields es a; turns = t.0; inside = t.1; won = won_none es a }

only_join : (fields : ℕ) (xs ys : List Entry) → OnlyExchanges fields xs → OnlyExchanges fields ys → OnlyExchanges fields (xs ++ ys)
only_join fields xs ys a b =
    record {
      made = let both = made_join fields xs ys in let x = a.made in let y = b.made in omega (arith, both, x, y);
      values = all-join (leaves_values fields) xs ys a.values b.values;
    }

pub raises-join : (fields m n : ℕ) (xs ys : List Entry) → Raises fields m xs → Raises fields n ys → Raises fields (m + n) (xs ++ ys)
raises-join fields m n xs ys a b =
    record {
      only = only_join fields xs ys a.only b.only;
      raises = all-join raises xs ys a.raises b.raises;
      won = let both = won_join xs ys in let x = a.won in let y = b.won in omega (arith, both, x, y);
    }

inside_join : (b : Bool) (xs ys : List Entry) → is_inside b (xs ++ ys) ≡ is_inside (is_inside b xs) ys
inside_join b [] ys = refl
inside_join b (x ∷ xs) ys = inside_join (turned b x.step x.won) xs ys

turns_join : (b : Bool) (xs ys : List Entry) → takes_turns b xs ≡ true → takes_turns (is_inside b xs) ys ≡ true → takes_turns b (xs ++ ys) ≡ true
turns_join b [] ys s t = t
turns_join b (x ∷ xs) ys s t =
    let p = and_parts (takes_turn b x.step) (takes_turns (turned b x.step x.won) xs) s in
    and_from (takes_turn b x.step) (takes_turns (turned b x.step x.won) (xs ++ ys)) p.0 (turns_join (turned b x.step x.won) xs ys p.1 t)

pub locks-join : (fields : ℕ) (b c d : Bool) (m n : ℕ) (xs ys : List Entry) → Locks fields b c m xs → Locks fields c d n ys → Locks fields b d (m + n) (xs ++ ys)
locks-join fields b c d m n xs ys a e =
    record {
      only = only_join fields xs ys a.only e.only;
      turns = turns_join b xs ys a.turns (subst (λ (z : Bool). takes_turns z ys ≡ true) (sym a.inside) e.turns);
      inside = inside_join b xs ys ∙ (ap (λ (z : Bool). is_inside z ys) a.inside ∙ e.inside);
      won = let both = won_join xs ys in let x = a.won in let y = e.won in omega (arith, both, x, y);
    }

-- what was done, as the log has it
ran_log : (v w : View) → Ran v w → w.log ≡ v.log ++ events v w
ran_log v w ran = let g = ran-grows v w ran in g.1 ∙ ap (λ (l : List Entry). v.log ++ l) (sym (events-of v w g.0 g.1))

spared_quiet : (step : Step) → spares_heap step ≡ true → is_quiet step ≡ true
spared_quiet (StoreValue v n) e = absurd (false≢true e)
spared_quiet (ExchangeValue v m n) e = absurd (false≢true e)
spared_quiet (StoreNew c part word) e = absurd (false≢true e)
spared_quiet step e = refl

-- what no plain heap sees is quiet
pub same-quiet : (x y : SharedMutator) → IsSame x y → AddsQuiet x y
same-quiet x y s =
    let v : View = view_of x.seat in
    let w : View = view_of y.seat in
    record { heap = s.world; more = events v w; log = ran_log v w s.leaves.ran; are = all-more spares_heap is_quiet spared_quiet (events v w) s.leaves.only }

module _ (range : Type 0) (x y : SharedMutator) where
  -- so is a read of a value
  pub value-quiet : (v n : ℕ) → SharerActs range (FindsValue v n) x y → AddsQuiet x y
  value-quiet v n s = record { heap = s.world; more = event _ n ∷ []; log = ap (λ (z : View). z.log) s.does.1.0; are = refl }

  -- and a store in a variable
  pub variable-quiet : (v r : ℕ) → SharerActs range (SetsVariable v r) x y → AddsQuiet x y
  variable-quiet v r s =
      record {
        heap = s.world;
        more = events (view_of x.seat) (view_of y.seat);
        log = ran_log (view_of x.seat) (view_of y.seat) s.does.ran;
        are = subst (λ (es : List Entry). all_steps is_quiet es ≡ true) (sym s.does.events_are) refl;
      }

  -- and when the root is asked for
  pub root-quiet : (v c : ℕ) → SharerActs range (LendsFound v c) x y → AddsQuiet x y
  root-quiet v c s =
      record {
        heap = s.world;
        more = events (view_of x.seat) (view_of y.seat);
        log = ran_log (view_of x.seat) (view_of y.seat) s.does.ran;
        are = subst (λ (es : List Entry). all_steps is_quiet es ≡ true) (sym s.does.events_are) refl;
      }

  -- and when a reference is read
  pub get-quiet : (u w i : ℕ) → SharerActs range (FollowsField u w i) x y → AddsQuiet x y
  get-quiet u w i s =
      ⊎_elim
      (λ t.
      record {
        heap = s.world;
        more = events (view_of x.seat) (view_of y.seat);
        log = ran_log (view_of x.seat) (view_of y.seat) t.1.ran;
        are = subst (λ (es : List Entry). all_steps is_quiet es ≡ true) (sym t.1.events_are) refl;
      })
      (λ t.
      record {
        heap = s.world;
        more = events (view_of x.seat) (view_of y.seat);
        log = ran_log (view_of x.seat) (view_of y.seat) t.1.ran;
        are = subst (λ (es : List Entry). all_steps is_quiet es ≡ true) (sym t.1.events_are) refl;
      })
      s.does

-- steps of which each is so
abbrev all_of : (Step → Bool) → List Step → Bool
all_of P [] = true
all_of P (s ∷ ss) = P s && all_of P ss

steps_all : (P : Step → Bool) (es : List Entry) → all_steps P es ≡ all_of P (steps_of es)
steps_all P [] = refl
steps_all P (e ∷ es) = ap (λ (b : Bool). P e.step && b) (steps_all P es)

all_by : (P : Step → Bool) (b : Bool) (xs ys : List Step) → all_of P xs ≡ true → all_of P ys ≡ true → all_of P (if b then xs else ys) ≡ true
all_by P true xs ys s t = s
all_by P false xs ys s t = t

setting_quiet : (s : SeatState) (u i w : ℕ) (dirty : Bool) → all_of is_quiet (setting_steps s u i w dirty) ≡ true
setting_quiet s u i w dirty =
    let card : ℕ = card_of (cell_in s u) in
    all_by is_quiet (word_in s u == 0) [] (barrier_steps s u i (Some w) dirty) refl
    (all_by is_quiet (used_in s.cache (cell_in s u)) [] (card_steps card dirty) refl (all_by is_quiet dirty [] (DirtyCard card ∷ []) refl refl))

-- so is a store in a field
pub set-quiet : (range : Type 0) (x y : SharedMutator) (u i w : ℕ) → SharerActs range (SetsField u i w) x y → AddsQuiet x y
set-quiet range x y u i w s =
    record {
      heap = s.world;
      more = events (view_of x.seat) (view_of y.seat);
      log = ran_log (view_of x.seat) (view_of y.seat) s.does.ran;
      are = steps_all is_quiet (events (view_of x.seat) (view_of y.seat)) ∙ (ap (all_of is_quiet) s.does.steps_are ∙ setting_quiet (view_of x.seat).state u i w (was_dirty (events (view_of x.seat) (view_of y.seat))));
    }

-- an exchange of a number for the next
raised_one : (fields u m n found : ℕ) (won : Bool) → n ≡ m + 1 → won ≡ (found == m) → Raises fields (if won then 1 else 0) (event (ExchangeValue u m n) found ∷ [])
raised_one fields u m n found won next is =
    record {
      only = record { made = refl; values = refl };
      raises = and_from (n == m + 1) true (eq-eqb n (m + 1) next) refl;
      won = let same = ap {B = ℕ} (λ (b : Bool). if b then 1 else 0) is in omega (arith, same);
    }

pub exchange-raises : (range : Type 0) (x y : SharedMutator) (u m n : ℕ) (won : Bool) → n ≡ m + 1 → SharerActs range (ExchangesValue u m n won) x y → AddsRaises (if won then 1 else 0) x y
exchange-raises range x y u m n won next s =
    record {
      heap = s.world;
      more = event (ExchangeValue u m n) s.does.found ∷ [];
      log = ap (λ (z : View). z.log) s.does.finds.0;
      are = raised_one (field_count_of x) u m n s.does.found won next s.does.won_by;
    }

-- whether the lock is had after an exchange of 0 for 1, and whether it still is after one of 1 for 0
taken_one : (fields u found : ℕ) (won : Bool) → won ≡ (found == 0) → Locks fields false won (if won then 1 else 0) (event (ExchangeValue u 0 1) found ∷ [])
taken_one fields u found won is =
    record {
      only = record { made = refl; values = refl };
      turns = refl;
      inside = kept (found == 0) ∙ sym is;
      won = let same = ap {B = ℕ} (λ (b : Bool). if b then 1 else 0) is in omega (arith, same);
    }
  where
    kept : (b : Bool) → (if b then true else false) ≡ b
    kept true = refl
    kept false = refl

left_one : (fields u found : ℕ) (won : Bool) → won ≡ (found == 1) → Locks fields true (not won) (if won then 1 else 0) (event (ExchangeValue u 1 0) found ∷ [])
left_one fields u found won is =
    record {
      only = record { made = refl; values = refl };
      turns = refl;
      inside = turns (found == 1) ∙ ap not (sym is);
      won = let same = ap {B = ℕ} (λ (b : Bool). if b then 1 else 0) is in omega (arith, same);
    }
  where
    turns : (b : Bool) → (if b then false else true) ≡ not b
    turns true = refl
    turns false = refl

pub take-locks : (range : Type 0) (x y : SharedMutator) (u : ℕ) (won : Bool) → SharerActs range (ExchangesValue u 0 1 won) x y → AddsLocks false won (if won then 1 else 0) x y
take-locks range x y u won s =
    record { heap = s.world; more = event (ExchangeValue u 0 1) s.does.found ∷ []; log = ap (λ (z : View). z.log) s.does.finds.0; are = taken_one (field_count_of x) u s.does.found won s.does.won_by }

pub leave-locks : (range : Type 0) (x y : SharedMutator) (u : ℕ) (won : Bool) → SharerActs range (ExchangesValue u 1 0 won) x y → AddsLocks true (not won) (if won then 1 else 0) x y
leave-locks range x y u won s =
    record { heap = s.world; more = event (ExchangeValue u 1 0) s.does.found ∷ []; log = ap (λ (z : View). z.log) s.does.finds.0; are = left_one (field_count_of x) u s.does.found won s.does.won_by }
