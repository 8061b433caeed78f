-- The barrier: a seat that owed no card stores in an object, and sees to the card that it owes then.
use Rattle.std.proofs.Common.{ℕ, ◌≡◌, List, [], ◌∷◌, ◌++◌, refl, sym, ap, ◌∙◌, subst, Bool, true, false, cond, ◌&&◌, ◌||◌, Option, Some, None}
use Rattle.std.specs.Prelude.{IsTrue, is_none, ◌==◌, if◌then◌else◌}
use Rattle.std.proofs.lemmas.Bool.{true≢false, eq-eqb}
use Rattle.std.proofs.lemmas.Option.{same_Some}
use Rattle.mark_core.specs.Cards.{card_of}
use Rattle.mark_core.specs.Effects.{written}
use Rattle.mark_core.specs.Seats.{is_the, may_mutate, used_in}
use Rattle.mark_core.specs.Steps.ColourSteps.{dirty_card_effect, fresh_off, popped_off, redirty_off}
use Rattle.mark_core.specs.declared.kinds.Step.{Step}
use Rattle.mark_core.specs.declared.kinds.Step.TheVariants.{CheckCard, DirtyCard, StoreField}
use Rattle.mark_core.specs.declared.seat.SeatState.{SeatState}
use Rattle.gc_table.specs.Log.{event, events, steps_of}
use Rattle.gc_table.specs.PlainSteps.{HasSeenPhase}
use Rattle.gc_table.specs.Running.{Ran}
use Rattle.gc_table.specs.Seats.{Found, Stored}
use Rattle.gc_table.specs.Sections.{section_after}
use Rattle.gc_table.specs.Taking.{after}
use Rattle.gc_table.specs.declared.view.View.{View}
use Rattle.gc_table.proofs.History.Log.{events-after}
use Rattle.gc_table.proofs.Running.{ran-found, ran-stored, ran-join, ran-events}
use Rattle.packet_pools.specs.Seeking.{some_event}
use Rattle.card_clean.specs.Barrier.{MayStore, Paid, barrier_steps, card_events, card_steps, cell_in, finds_dirty, record_paid, record_stored, was_dirty}

pub none-some : (o : Option ℕ) (k : ℕ) (P : Type 0) → o ≡ None → o ≡ Some k → P
none-some o k P e f = absurd (true≢false (ap is_none (sym e ∙ f)))

-- What seeing to a card leaves and what it did.
unpaid_by : (a b : Bool) (o : Option ℕ) → b ≡ false → (if a && b then None else o) ≡ o
unpaid_by true true o e = absurd (true≢false e)
unpaid_by true false o e = refl
unpaid_by false b o e = refl

paid_by : (o : Option ℕ) (card : ℕ) (b : Bool) → o ≡ Some card → b ≡ true → (if is_the o card && b then None else o) ≡ None
paid_by None card b e f = none-some None card _ refl e
paid_by (Some k) card b e f = (λ i. if eq-eqb k card (same_Some k card e) i && f i then None else Some k)

-- a card that is found clean is owed still
pub still-owes : (v w : View) (card n : ℕ) → w ≡ after (CheckCard card) n v → (n == 1) ≡ false → w.state.owes ≡ v.state.owes
still-owes v w card n e clean = ap (λ (x : View). x.state.owes) e ∙ unpaid_by (is_the v.state.owes card) (n == 1) v.state.owes clean

-- it was found dirty
pub paid-dirty : (v w : View) (card n : ℕ) → v.state.owes ≡ Some card → Found (CheckCard card) n v w → (n == 1) ≡ true → Paid card v w
paid-dirty v w card n owes f dirty =
    record {
      ran = ran-found v w (CheckCard card) n refl f;
      word = n;
      did_are = events-after v w (CheckCard card) n f.0 ∙ (λ i. event (CheckCard card) n ∷ (if sym dirty i then [] else event (DirtyCard card) 1 ∷ []));
      state =
          ap (λ (x : View). x.state) f.0
          ∙ (ap (λ (o : Option ℕ). record v.state { owes = o }) (paid_by v.state.owes card (n == 1) owes dirty)
          ∙ ap (λ (b : Bool). record_paid v.state card b) (sym dirty));
      own = ap (λ (x : View). x.own) f.0;
    }

-- it was found clean, and dirtied
pub paid-clean : (v m w : View) (card n : ℕ) → Found (CheckCard card) n v m → (n == 1) ≡ false → Stored (DirtyCard card) m w → Paid card v w
paid-clean v m w card n f clean d =
    let first : Ran v m = ran-found v m (CheckCard card) n refl f in
    let second : Ran m w = ran-stored m w (DirtyCard card) refl d in
    let same : m.state ≡ v.state = ap (λ (x : View). x.state) f.0 ∙ ap (λ (o : Option ℕ). record v.state { owes = o }) (unpaid_by (is_the v.state.owes card) (n == 1) v.state.owes clean) in
    record {
      ran = ran-join v m w first second;
      word = n;
      did_are =
          ran-events v m w first second
          ∙ ((λ i. events-after v m (CheckCard card) n f.0 i ++ events-after m w (DirtyCard card) 1 d i)
          ∙ (λ i. event (CheckCard card) n ∷ (if sym clean i then [] else event (DirtyCard card) 1 ∷ [])));
      state =
          ap (λ (x : View). x.state) d
          ∙ (ap (λ (s : SeatState). (dirty_card_effect s card).seat 0) same ∙ ap (λ (b : Bool). record_paid v.state card b) (sym clean));
      own = ap (λ (x : View). x.own) d ∙ ap (λ (x : View). x.own) f.0;
    }

-- a card that is dirtied isn't owed
off_some : (o : Option ℕ) (card : ℕ) → o ≡ Some card → cond (is_the o card) None o ≡ None
off_some None card e = none-some None card _ refl e
off_some (Some k) card e = ap (λ (b : Bool). cond b None (Some k)) (eq-eqb k card (same_Some k card e))

off_none : (o : Option ℕ) (card : ℕ) → o ≡ None → cond (is_the o card) None o ≡ None
off_none None card e = refl
off_none (Some k) card e = none-some (Some k) k _ e refl

dirty_same : (s : SeatState) (card : ℕ) (o : Option ℕ) → s.owes ≡ None → o ≡ Some card → (dirty_card_effect (record s { owes = o }) card).seat 0 ≡ (dirty_card_effect s card).seat 0
dirty_same s card o z e =
    ap (λ (a : Option ℕ). record s { fresh = fresh_off s.fresh card; popped = popped_off s.popped card; owes = a; cleaning = redirty_off s.cleaning card }) (off_some o card e ∙ sym (off_none s.owes card z))

-- the record of a seat that owed nothing before the card
abbrev pub SeenTo : SeatState → ℕ → Bool → SeatState
SeenTo s card dirty = if dirty then s else (dirty_card_effect s card).seat 0

pub paid-record : (s : SeatState) (card : ℕ) (o : Option ℕ) (dirty : Bool) → s.owes ≡ None → o ≡ Some card → record_paid (record s { owes = o }) card dirty ≡ SeenTo s card dirty
paid-record s card o true z e = ap (λ (a : Option ℕ). record s { owes = a }) (sym z)
paid-record s card o false z e = dirty_same s card o z e

-- it may store again
pub paid-may : (v w : View) (card : ℕ) (dirty : Bool) → MayStore v → w.state ≡ SeenTo v.state card dirty → MayStore w
paid-may v w card dirty m e = let k = still dirty in record { turn = subst (λ (z : SeatState). IsTrue (may_mutate z)) (sym e) k.0; seen = subst HasSeenPhase (sym e) k.1; owes = ap (λ (z : SeatState). z.owes) e ∙ k.2 }
  where
    still : (b : Bool) → IsTrue (may_mutate (SeenTo v.state card b)) × HasSeenPhase (SeenTo v.state card b) × ((SeenTo v.state card b).owes ≡ None)
    still true = (m.turn, m.seen, m.owes)
    still false = (m.turn, m.seen, off_none v.state.owes card m.owes)

-- whether it was dirty, the events tell
pub events-dirty : (card word : ℕ) → was_dirty (card_events card word) ≡ (word == 1)
events-dirty card word = by_word (word == 1)
  where
    by_word : (b : Bool) → (b || some_event finds_dirty (if b then [] else event (DirtyCard card) 1 ∷ [])) ≡ b
    by_word true = refl
    by_word false = refl

pub events-steps : (card word : ℕ) → steps_of (card_events card word) ≡ card_steps card (word == 1)
events-steps card word = by_word (word == 1)
  where
    by_word : (b : Bool) → (CheckCard card ∷ steps_of (if b then [] else event (DirtyCard card) 1 ∷ [])) ≡ card_steps card b
    by_word true = refl
    by_word false = refl

-- What the barrier does.
pub record Stores (u i : ℕ) (r : Option ℕ) (v w : View) : Type 0 where
  pub ran : Ran v w
  pub steps : steps_of (events v w) ≡ barrier_steps v.state u i r (was_dirty (events v w))
  pub state : w.state ≡ record_stored v.state u (was_dirty (events v w))
  pub own : w.own ≡ section_after v.shape v.plan v.state (StoreField u i r) v.own
  pub may : MayStore w

-- what is owed after a store
abbrev Owed : SeatState → ℕ → Bool → Option ℕ
Owed s card used = if used then s.owes else Some card

owes_some : (s : SeatState) (card k : ℕ) (used : Bool) → s.owes ≡ None → Owed s card used ≡ Some k → (used ≡ false) × (card ≡ k)
owes_some s card k true z e = none-some s.owes k _ z e
owes_some s card k false z e = (refl, same_Some card k e)

-- its card is owed, and seen to
pub stores-paid : (v m w : View) (u i k : ℕ) (r : Option ℕ) → MayStore v → Stored (StoreField u i r) v m → m.state.owes ≡ Some k → Paid k m w → Stores u i r v w
stores-paid v m w u i k r may e some p =
    let s : SeatState = v.state in
    let step : Step = StoreField u i r in
    let card : ℕ = card_of (cell_in s u) in
    let used : Bool = used_in s.cache (cell_in s u) in
    let between : m.state ≡ record s { owes = Owed s card used } = ap (λ (x : View). x.state) e in
    let owes_it : Owed s card used ≡ Some k = sym (ap (λ (z : SeatState). z.owes) between) ∙ some in
    let q = owes_some s card k used may.owes owes_it in
    let first : Ran v m = ran-stored v m step refl e in
    let word : ℕ = written v.shape v.state step 0 in
    let all : events v w ≡ event step word ∷ card_events k p.word = ran-events v m w first p.ran ∙ (λ j. events-after v m step word e j ++ p.did_are j) in
    let dirty : was_dirty (events v w) ≡ (p.word == 1) = ap was_dirty all ∙ events-dirty k p.word in
    let left : w.state ≡ SeenTo s k (p.word == 1) = p.state ∙ (ap (λ (z : SeatState). record_paid z k (p.word == 1)) between ∙ paid-record s k (Owed s card used) (p.word == 1) may.owes owes_it) in
    record {
      ran = ran-join v m w first p.ran;
      steps =
          ap steps_of all
          ∙ (ap (λ (ss : List Step). step ∷ ss) (events-steps k p.word)
          ∙ (λ j. step ∷ (if sym q.0 j then [] else card_steps (sym q.1 j) (sym dirty j))));
      state = left ∙ (λ j. if sym q.0 j || sym dirty j then s else (dirty_card_effect s (sym q.1 j)).seat 0);
      own = p.own ∙ ap (λ (x : View). x.own) e;
      may = paid-may v w k (p.word == 1) may left;
    }
