-- The plain steps of a command, all in one turn.
use Rattle.std.proofs.Common.{ℕ, ◌≡◌, ◌+◌, List, [], ◌∷◌, ◌++◌, refl, sym, ap, ◌∙◌, subst, arith, Bool, true, false, if◌then◌else◌, length, length-append}
use Rattle.std.specs.Prelude.{unwrap_or}
use Rattle.std.specs.List.{All}
use Rattle.std.proofs.lemmas.Bool.{and_parts, false≢true}
use Rattle.std.proofs.lemmas.List.Elements.{All-nil, All-cons, All-append}
use Rattle.mark_core.specs.declared.kinds.Step.{Step}
use Rattle.mark_core.specs.declared.kinds.Step.TheVariants.{ReadOwn, ReadValue, ReadIdent, ReadCat, StoreField, StoreValue, StoreRoot, StoreNew, DirtyCard, CheckCard, HoldRoot}
use Rattle.plain_heap.specs.PlainHeap.{Heap}
use Rattle.plain_heap.specs.declared.operation.Op.{Op}
use Rattle.plain_heap.specs.declared.operation.Op.TheVariants as ops
use Rattle.gc_table.specs.declared.view.Entry.{Entry}
use Rattle.gc_table.specs.declared.view.SectionState.{SectionState}
use Rattle.gc_table.specs.declared.view.PlainStep.{PlainStep}
use Rattle.gc_table.specs.declared.view.View.{View}
use Rattle.gc_table.specs.Log.{Only, all_steps, events, steps_of}
use Rattle.gc_table.specs.Running.{Ran, after_all}
use Rattle.gc_table.specs.Sections.{season_of}
use Rattle.gc_table.specs.Taking.{after}
use Rattle.gc_table.proofs.History.Log.{only-more}
use Rattle.mutator_ops.specs.Doing.{belongs, stores_plainly, plain_steps}
use Rattle.play_end.specs.Done.{last_heap_of}

-- by this many plain steps of one turn the section's heap became another
pub record Turns (season count : ℕ) (x y : SectionState) : Type 0 where
  pub more : List PlainStep
  pub many : length more ≡ count
  pub turns : y.history ≡ x.history ++ more
  pub in_turn : All (λ (t : PlainStep). t.season ≡ season) more
  pub last : y.meaning.heap ≡ last_heap_of x.meaning.heap more

append_none : {X : Type 0} (xs : List X) → xs ≡ xs ++ []
append_none [] = refl
append_none (x ∷ xs) = ap (λ ys. x ∷ ys) (append_none xs)

append_more : {X : Type 0} (xs ys zs : List X) → (xs ++ ys) ++ zs ≡ xs ++ (ys ++ zs)
append_more [] ys zs = refl
append_more (x ∷ xs) ys zs = ap (λ l. x ∷ l) (append_more xs ys zs)

last_both : (h : Heap) (xs ys : List PlainStep) → last_heap_of (last_heap_of h xs) ys ≡ last_heap_of h (xs ++ ys)
last_both h [] ys = refl
last_both h (t ∷ ts) ys = last_both t.heap ts ys

pub turns-none : (season : ℕ) (x y : SectionState) → y.history ≡ x.history → y.meaning.heap ≡ x.meaning.heap → Turns season 0 x y
turns-none season x y t h = record { more = []; many = refl; turns = t ∙ append_none x.history; in_turn = All-nil (λ (t : PlainStep). t.season ≡ season); last = h }

pub turns-join : (season m n : ℕ) (x y z : SectionState) → Turns season m x y → Turns season n y z → Turns season (m + n) x z
turns-join season m n x y z a b =
    record {
      more = a.more ++ b.more;
      many = omega (arith, a.many, b.many, length-append a.more b.more);
      turns = b.turns ∙ ap (λ (ts : List PlainStep). ts ++ b.more) a.turns ∙ append_more x.history a.more b.more;
      in_turn = All-append (λ (t : PlainStep). t.season ≡ season) a.more b.more a.in_turn b.in_turn;
      last = b.last ∙ ap (λ (h : Heap). last_heap_of h b.more) a.last ∙ last_both x.meaning.heap a.more b.more;
    }

-- a step that a command may take
abbrev pub is_of_command : Step → Bool
is_of_command (ReadOwn c j) = true
is_of_command (ReadValue c) = true
is_of_command (ReadIdent c) = true
is_of_command (ReadCat u) = true
is_of_command (StoreField u j o) = true
is_of_command (StoreValue u m) = true
is_of_command (StoreRoot u r) = true
is_of_command (HoldRoot u r) = true
is_of_command (StoreNew c part word) = true
is_of_command (CheckCard card) = true
is_of_command (DirtyCard card) = true
is_of_command step = false

-- one plain step
one_turn : (x y : SectionState) (season : ℕ) → y.history ≡ x.history ++ record { season = season; heap = y.meaning.heap } ∷ [] → Turns season 1 x y
one_turn x y season e =
    record {
      more = record { season = season; heap = y.meaning.heap } ∷ [];
      many = refl;
      turns = e;
      in_turn = All-cons (λ (t : PlainStep). t.season ≡ season) (record { season = season; heap = y.meaning.heap }) [] refl (All-nil (λ (t : PlainStep). t.season ≡ season));
      last = refl;
    }

turns_step : (v : View) (step : Step) (n : ℕ) → is_of_command step ≡ true → Turns (season_of v.state) (if stores_plainly step then 1 else 0) v.own (after step n v).own
turns_step v (ReadOwn c j) n b = turns-none _ _ _ refl refl
turns_step v (ReadValue c) n b = turns-none _ _ _ refl refl
turns_step v (ReadIdent c) n b = turns-none _ _ _ refl refl
turns_step v (ReadCat u) n b = turns-none _ _ _ refl refl
turns_step v (StoreNew c part word) n b = turns-none _ _ _ refl refl
turns_step v (CheckCard card) n b = turns-none _ _ _ refl refl
turns_step v (DirtyCard card) n b = turns-none _ _ _ refl refl
turns_step v (StoreField u j o) n b = one_turn v.own (after (StoreField u j o) n v).own (season_of v.state) refl
turns_step v (StoreValue u m) n b = one_turn v.own (after (StoreValue u m) n v).own (season_of v.state) refl
turns_step v (StoreRoot u r) n b = one_turn v.own (after (StoreRoot u r) n v).own (season_of v.state) refl
turns_step v (HoldRoot u r) n b = one_turn v.own (after (HoldRoot u r) n v).own (season_of v.state) refl
turns_step v step n b = absurd (false≢true b)

pub season-step : (v : View) (step : Step) (n : ℕ) → is_of_command step ≡ true → (after step n v).state.season_seen ≡ v.state.season_seen
season-step v (ReadOwn c j) n b = refl
season-step v (ReadValue c) n b = refl
season-step v (ReadIdent c) n b = refl
season-step v (ReadCat u) n b = refl
season-step v (StoreNew c part word) n b = refl
season-step v (CheckCard card) n b = refl
season-step v (DirtyCard card) n b = refl
season-step v (StoreField u j o) n b = refl
season-step v (StoreValue u m) n b = refl
season-step v (StoreRoot u r) n b = refl
season-step v (HoldRoot u r) n b = refl
season-step v step n b = absurd (false≢true b)

turns_all : (season : ℕ) (es : List Entry) (v : View) → season_of v.state ≡ season → all_steps is_of_command es ≡ true → Turns season (plain_steps (steps_of es)) v.own (after_all es v).own
turns_all season [] v s b = turns-none season v.own v.own refl refl
turns_all season (e ∷ es) v s b =
    let p = and_parts (is_of_command e.step) (all_steps is_of_command es) b in
    let x = after e.step e.found v in
    turns-join season (if stores_plainly e.step then 1 else 0) (plain_steps (steps_of es)) v.own x.own (after_all es x).own
    (subst (λ z. Turns z (if stores_plainly e.step then 1 else 0) v.own x.own) s (turns_step v e.step e.found p.0))
    (turns_all season es x (ap (λ o. unwrap_or o 0) (season-step v e.step e.found p.0) ∙ s) p.1)

-- the steps of any command are such
pub of-command : (op : Op) (step : Step) → belongs op step ≡ true → is_of_command step ≡ true
of-command op (ReadOwn c j) b = refl
of-command op (ReadValue c) b = refl
of-command op (ReadIdent c) b = refl
of-command op (ReadCat u) b = refl
of-command op (StoreNew c part word) b = refl
of-command op (CheckCard card) b = refl
of-command op (DirtyCard card) b = refl
of-command op (StoreField u j o) b = refl
of-command op (StoreValue u m) b = refl
of-command op (StoreRoot u r) b = refl
of-command op (HoldRoot u r) b = refl
of-command (ops.New v n) step b = absurd (false≢true b)
of-command (ops.Let v w) step b = absurd (false≢true b)
of-command (ops.Nil v) step b = absurd (false≢true b)
of-command (ops.Set v i w) step b = absurd (false≢true b)
of-command (ops.Get v w i) step b = absurd (false≢true b)
of-command (ops.Cat v c) step b = absurd (false≢true b)
of-command (ops.Put v n) step b = absurd (false≢true b)
of-command (ops.Say v) step b = absurd (false≢true b)
of-command (ops.Sum v i limit) step b = absurd (false≢true b)
of-command ops.Collect step b = absurd (false≢true b)

-- the plain steps of a call that takes only steps of one command
pub turns-of : (op : Op) (v w : View) → Ran v w → Only (belongs op) v w → Turns (season_of v.state) (plain_steps (steps_of (events v w))) v.own w.own
turns-of op v w ran only =
    subst (λ (x : View). Turns (season_of v.state) (plain_steps (steps_of (events v w))) v.own x.own) (sym ran.steps)
    (turns_all (season_of v.state) (events v w) v refl (only-more (belongs op) is_of_command (of-command op) v w only))
