use Rattle.std.proofs.Common.{ℕ, ◌≡◌, List, [], ◌∷◌, ◌++◌, refl, sym, ap, ◌∙◌, subst, Bool, true, false, cond, eqb, ◌||◌, Option, Some, None, ◌<◌}
use Rattle.std.specs.Prelude.{IsTrue, ◌==◌, if◌then◌else◌}
use Rattle.std.proofs.lemmas.Option.{same_Some}
use Rattle.mark_core.specs.Cards.{card_of}
use Rattle.mark_core.specs.Seats.{may_mutate, used_in}
use Rattle.mark_core.specs.Steps.ColourSteps.{dirty_card_effect}
use Rattle.mark_core.specs.Steps.MutatorSteps.{variable_or_nil}
use Rattle.mark_core.specs.declared.kinds.Step.{Step}
use Rattle.mark_core.specs.declared.kinds.Step.TheVariants.{ExchangeField}
use Rattle.mark_core.specs.declared.seat.SeatState.{SeatState}
use Rattle.gc_table.specs.Log.{event, events}
use Rattle.gc_table.specs.PlainSteps.{HasSeenPhase}
use Rattle.gc_table.specs.Running.{Ran}
use Rattle.gc_table.specs.Taking.{after, Finds}
use Rattle.gc_table.specs.declared.view.Entry.{Entry}
use Rattle.gc_table.specs.declared.view.View.{View}
use Rattle.gc_table.proofs.History.Log.{events-after}
use Rattle.gc_table.proofs.Running.{ran-found, ran-join, ran-events}
use Rattle.card_clean.specs.Barrier.{MayStore, Exchanged, Paid, card_events, cell_in, record_paid}
use Rattle.mark_core.specs.declared.kinds.Shape.{Shape}
use Rattle.gc_table.specs.declared.seat.HeapSeat.{HeapSeat}
use Rattle.gc_table.specs.Seats.{Sits, view_of}
use Rattle.card_clean.proofs.Owned.{may-exchange_field}
use Rattle.card_clean.proofs.Paying.{SeenTo, none-some, paid-may, paid-record}
use Rattle.card_clean.proofs.sharing.exchange_ref.Goals as goal
use Rattle.card_clean.proofs.sharing.exchange_ref.Goals.{in-Some, in_default}

-- An exchange with its barrier: it was won if the seat owes a card afterwards or the object isn't published.
-- what is owed after an exchange
abbrev Owed : SeatState → ℕ → Bool → Bool → Option ℕ
Owed s card won used = cond won (cond used s.owes (Some card)) s.owes

abbrev Seen : ℕ → ℕ → Bool → Bool → List Entry
Seen card word won used = cond won (cond used [] (card_events card word)) []

abbrev Left : SeatState → ℕ → Bool → Bool → Bool → SeatState
Left s card dirty won used = cond won (if used || dirty then s else (dirty_card_effect s card).seat 0) s

-- if nothing is owed, no card has to be seen to
clean_case : (s : SeatState) (card : ℕ) (won used : Bool) → Owed s card won used ≡ None → ([] ≡ Seen card 0 won used) × (record s { owes = Owed s card won used } ≡ Left s card false won used)
clean_case s card false used e = (refl, refl)
clean_case s card true true e = (refl, refl)
clean_case s card true false e = none-some (Some card) card _ e refl

dirty_case : (s : SeatState) (card k : ℕ) (won used : Bool) → s.owes ≡ None → Owed s card won used ≡ Some k → (won ≡ true) × (used ≡ false) × (card ≡ k)
dirty_case s card k false used z e = none-some s.owes k _ z e
dirty_case s card k true true z e = none-some s.owes k _ z e
dirty_case s card k true false z e = (refl, refl, same_Some card k e)

-- what is known after the exchange and its barrier
record Done (u i : ℕ) (x y : Option ℕ) (n : ℕ) (v w : View) : Type 0 where
  pub exchanged : Exchanged u i x y (eqb n (variable_or_nil v.state x)) v w
  pub may : MayStore w
  pub ran : Ran v w

-- no card is owed
done-clean : (v w : View) (u i : ℕ) (x y : Option ℕ) (n : ℕ) → MayStore v → w ≡ after (ExchangeField u i x y) n v → Finds (ExchangeField u i x y) n v → w.state.owes ≡ None → Done u i x y n v w
done-clean v w u i x y n k e f none =
    let s : SeatState = v.state in
    let card : ℕ = card_of (cell_in s u) in
    let won : Bool = eqb n (variable_or_nil s x) in
    let used : Bool = used_in s.cache (cell_in s u) in
    let state_is : w.state ≡ record s { owes = Owed s card won used } = ap (λ (z : View). z.state) e in
    let c = clean_case s card won used (sym (ap (λ (z : SeatState). z.owes) state_is) ∙ none) in
    record {
      exchanged =
          record {
            found = n;
            finds = f;
            won_by = refl;
            card_word = 0;
            did_are = events-after v w (ExchangeField u i x y) n e ∙ ap (λ (es : List Entry). event (ExchangeField u i x y) n ∷ es) c.0;
            state = state_is ∙ c.1;
          };
      may =
          record {
            turn = subst (λ (z : SeatState). IsTrue (may_mutate z)) (sym state_is) k.turn;
            seen = subst HasSeenPhase (sym state_is) k.seen;
            owes = none;
          };
      ran = ran-found v w (ExchangeField u i x y) n refl (e, f);
    }

-- the card that is owed was seen to
done-paid : (v m w : View) (u i : ℕ) (x y : Option ℕ) (n k : ℕ) → MayStore v → m ≡ after (ExchangeField u i x y) n v → Finds (ExchangeField u i x y) n v → m.state.owes ≡ Some k → Paid k m w → Done u i x y n v w
done-paid v m w u i x y n k may e f some p =
    let s : SeatState = v.state in
    let card : ℕ = card_of (cell_in s u) in
    let won : Bool = eqb n (variable_or_nil s x) in
    let used : Bool = used_in s.cache (cell_in s u) in
    let step : Step = ExchangeField u i x y in
    let owed : Option ℕ = Owed s card won used in
    let between : m.state ≡ record s { owes = owed } = ap (λ (z : View). z.state) e in
    let owes_it : owed ≡ Some k = sym (ap (λ (z : SeatState). z.owes) between) ∙ some in
    let q = dirty_case s card k won used may.owes owes_it in
    let first : Ran v m = ran-found v m step n refl (e, f) in
    let left : w.state ≡ SeenTo s k (p.word == 1) = p.state ∙ (ap (λ (z : SeatState). record_paid z k (p.word == 1)) between ∙ paid-record s k owed (p.word == 1) may.owes owes_it) in
    let both : events v w ≡ event step n ∷ card_events k p.word = ran-events v m w first p.ran ∙ (λ j. events-after v m step n e j ++ p.did_are j) in
    record {
      exchanged =
          record {
            found = n;
            finds = f;
            won_by = refl;
            card_word = p.word;
            did_are = both ∙ (λ j. event step n ∷ Seen (sym q.2 j) p.word (sym q.0 j) (sym q.1 j));
            state = left ∙ (λ j. Left s (sym q.2 j) (p.word == 1) (sym q.0 j) (sym q.1 j));
          };
      may = paid-may v w k (p.word == 1) may left;
      ran = ran-join v m w first p.ran;
    }

pub pay_card-requires-clause-turn : goal.pay_card-requires-clause-turn
pay_card-requires-clause-turn c = ap (λ (x : View). may_mutate x.state) c.exchange_field-found.ensures.view.0 ∙ c.requires.seat.1.turn

pub pay_card-requires-clause-owes : goal.pay_card-requires-clause-owes
pay_card-requires-clause-owes c = sym (ap (λ (s : SeatState). s.owes) c.state-2.ensures) ∙ c.in-Some.is

abbrev Whole : goal.Joined-state → HeapSeat → Type 0
Whole c seat = Sits c.args.heap.now seat × Done c.args.v c.args.field c.args.expected c.args.new c.exchange_field-found.result (view_of c.args.seat.now) (view_of seat)

whole : (c : goal.Joined-state) → Whole c c.match-state.seat
whole c =
    let v : View = view_of c.args.seat.now in
    let m : View = view_of c.exchange_field-found.new.seat in
    let f = c.exchange_field-found.ensures.view in
    elim c.match-state.branch [
      | in-Some w ↦
          subst (Whole c) (sym w.seat-is) (
            w.pay_card.ensures.seat,
            done-paid v m (view_of w.pay_card.new.seat) c.args.v c.args.field c.args.expected c.args.new c.exchange_field-found.result w.in-Some.card c.requires.seat.1 f.0 f.1 (sym (ap (λ (s : SeatState). s.owes) c.state-2.ensures) ∙ w.in-Some.is) w.pay_card.ensures.paid,
          )
      | in_default w ↦
          subst (Whole c) (sym w.seat-is) (
            c.exchange_field-found.ensures.seat,
            done-clean v m c.args.v c.args.field c.args.expected c.args.new c.exchange_field-found.result c.requires.seat.1 f.0 f.1 (sym (ap (λ (s : SeatState). s.owes) c.state-2.ensures) ∙ w.in_default.is),
          )
    ]

pub exchange_field-found-requires-clause-may : goal.exchange_field-found-requires-clause-may
exchange_field-found-requires-clause-may c =
    let q = c.requires in
    may-exchange_field (view_of c.args.seat.now) c.args.v c.args.field c.args.expected c.args.new q.shared q.seat.1 q.some.0 q.some.1 (subst (λ (sh : Shape). c.args.field < sh.fields) (sym q.seat.0.1) q.field) q.expected q.stored

pub returns-clause-seat : goal.returns-clause-seat
returns-clause-seat c = let r = whole c in (r.0, r.1.may)

pub returns-clause-ran : goal.returns-clause-ran
returns-clause-ran c = (whole c).1.ran

pub returns-clause-exchanged : goal.returns-clause-exchanged
returns-clause-exchanged c =
    let v : View = view_of c.args.seat.now in
    let word : c.from-word.result ≡ variable_or_nil v.state c.args.expected = c.from-word.ensures ∙ (c.variable_or_nil.ensures ∙ ap (λ (s : SeatState). variable_or_nil s c.args.expected) c.state.ensures) in
    subst (λ (z : ℕ). Exchanged c.args.v c.args.field c.args.expected c.args.new (eqb c.exchange_field-found.result z) v (view_of c.match-state.seat)) (sym word) (whole c).1.exchanged
