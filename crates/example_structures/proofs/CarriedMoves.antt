-- Which numbers the exchanges of a queue's calls put in and take out.
use Rattle.std.proofs.Common.{ℕ, ◌≡◌, ◌+◌, ◌-◌, ◌<◌, ◌==◌, ◌&&◌, ◌∙◌, ⊎_elim, List, [], ◌∷◌, ◌++◌, ap, arith, eq-eqb, get_or-set_same, length, refl, subst, sym, Bool, true, false, Option, None, Some}
use Rattle.std.specs.Prelude.{if◌then◌else◌, is_err}
use Rattle.std.specs.declared.result.Result.{Result}
use Rattle.std.proofs.lemmas.Bool.{false≢true}
use Rattle.std.specs.declared.result.Result.TheVariants.{Err, Ok}
use Rattle.mark_core.specs.Bits.{reference_in}
use Rattle.mark_core.specs.Steps.MutatorSteps.{seat_variable as word_in}
use Rattle.mark_core.specs.declared.kinds.Step.TheVariants.{ExchangeField}
use Rattle.mark_core.specs.declared.seat.SeatState.{SeatState}
use Rattle.card_clean.specs.Barrier.{seen_to}
use Rattle.gc_table.specs.Log.{all_steps, event}
use Rattle.gc_table.specs.Seats.{did, state_of, view_of}
use Rattle.gc_table.specs.declared.view.Entry.{Entry}
use Rattle.gc_table.proofs.History.Log.{events-after}
use Rattle.gc_table.proofs.Running.{ran-found}
use Rattle.mutator_ops.specs.Sharing.{SetsVariable}
use Rattle.seat_turns.specs.Exchanging.{ExchangesField}
use Rattle.seat_turns.specs.Sharing.{FollowsField}
use Rattle.queue_laws.specs.NumberLogs.{Numbering, Telling, all_told, first_of, numbering_after, numberings, puts_told, takes_told, telling_after, telling_at, unnumbered}
use Rattle.queue_laws.proofs.NumberLogs.{keeps_number, moves_none, next_is, no_number, number_kept, puts_none, seen_is, takes_none, word_is}
use Rattle.queue_laws.specs.Reads.{starting}
use Rattle.seat_turns.specs.declared.refused.Refused.{Refused}
use Rattle.shared_heap.specs.Calls.{FindsValue}
use Rattle.shared_heap.specs.declared.mutator.SharedMutator.{SharedMutator}
use Rattle.example_structures.specs.Carrying.{Carried, HasNext, HasOwn, IsUnread, if_done, if_won, number_looked, number_taken, told_of}
use Rattle.example_structures.specs.Fitting.{Began, FitsSince, SeesFirst, hands, since}
use Rattle.example_structures.specs.declared.queue.taking.Look.{Look}
use Rattle.example_structures.proofs.Called.{env-long}
use Rattle.example_structures.proofs.FitCalls.{get-fits, value-fits, variable-fits}
use Rattle.example_structures.proofs.FitChanges.{rest_all}
use Rattle.example_structures.proofs.FitLooks.{sees-first}
use Rattle.example_structures.proofs.Carried.{carried-by, carried-later, next-told, own-told, quiet-carried, quiet-get, quiet-next, quiet-value, quiet-variable, told-more}

-- An exchange that puts a node in, or takes one out.
module _ (x y : SharedMutator) (q : ℕ) (b : Began) (p : FitsSince q b x) where
  abbrev before : Telling
  before = told_of q b x

  -- the own node comes behind the last, behind which there was nothing
  module _ (won : Bool) (s : ExchangesField 22 0 21 20 won (view_of x.seat) (view_of y.seat)) (nil : word_in (state_of x.seat) 21 ≡ 0) (n : ℕ) (had : HasOwn q b n x) where
    abbrev first : Entry
    first = event (ExchangeField 22 0 (Some 21) (Some 20)) s.exchanged.found

    abbrev cards : List Entry
    cards = if won then seen_to (state_of x.seat) 22 s.exchanged.card_word else []

    abbrev after : Telling
    after = telling_after b.fields (hands q) before first.step first.found

    quiet_cards : all_steps moves_none cards ≡ true
    quiet_cards = rest_all x y moves_none 22 s.exchanged.card_word won (λ card. refl) (λ card. refl)

    here : (s.exchanged.found == 0) ≡ won
    here = ap (λ (z : ℕ). s.exchanged.found == z) (sym nil) ∙ sym s.exchanged.won_by

    number_by : (w : Bool) → (if w then before.own.number ∷ [] else []) ++ [] ≡ all_told (if_won (Ok w) n)
    number_by true = ap (λ (o : Option ℕ). o ∷ []) had
    number_by false = refl

    pub linked-carried : Carried q b (if_won (Ok won) n) [] x y
    linked-carried =
        carried-by x y q b p (if_won (Ok won) n) [] s.ran
        (ap (puts_told b.fields (hands q) before) s.exchanged.did_are
        ∙ (ap (λ (w : Bool). (if w then before.own.number ∷ [] else []) ++ puts_told b.fields (hands q) after cards) here
        ∙ (ap (λ (l : List (Option ℕ)). (if won then before.own.number ∷ [] else []) ++ l) (puts_none b.fields (hands q) after cards quiet_cards) ∙ number_by won)))
        (ap (takes_told b.fields (hands q) before) s.exchanged.did_are ∙ takes_none b.fields (hands q) after cards quiet_cards)

    pub linked-own : HasOwn q b n y
    linked-own =
        own-told x y q b p n s.ran
        (ap (λ (l : List Entry). (numberings b.fields 20 before.own l).number) s.exchanged.did_are
        ∙ number_kept b.fields 20 (numbering_after b.fields 20 before.own first.step first.found) cards n (rest_all x y (keeps_number 20) 22 s.exchanged.card_word won (λ card. refl) (λ card. refl)) had)

  -- the one behind the first becomes the first
  module _ (won : Bool) (s : ExchangesField q 0 21 23 won (view_of x.seat) (view_of y.seat)) (n : ℕ) (had : HasNext q b n x) where
    abbrev entry : Entry
    entry = event (ExchangeField q 0 (Some 21) (Some 23)) s.exchanged.found

    abbrev more : List Entry
    more = if won then seen_to (state_of x.seat) q s.exchanged.card_word else []

    abbrev then_told : Telling
    then_told = telling_after b.fields (hands q) before entry.step entry.found

    quiet_more : all_steps moves_none more ≡ true
    quiet_more = rest_all x y moves_none q s.exchanged.card_word won (λ card. refl) (λ card. refl)

    seen_now : before.seen ≡ word_in (state_of x.seat) 21
    seen_now = seen_is b.fields (hands q) 22 0 (telling_at (hands q) b.seat) (starting b.seat 21) (since b x) refl ∙ p.told 21 22 0 (omega arith)

    won_now : ((q == q) && (s.exchanged.found == before.seen)) ≡ won
    won_now = ap (λ (a : Bool). a && (s.exchanged.found == before.seen)) (eq-eqb q q refl) ∙ (ap (λ (z : ℕ). s.exchanged.found == z) seen_now ∙ sym s.exchanged.won_by)

    taken_by : (w : Bool) → (if w then before.next.number ∷ [] else []) ++ [] ≡ all_told (if_won (Ok w) n)
    taken_by true = ap (λ (o : Option ℕ). o ∷ []) had
    taken_by false = refl

    pub first-carried : Carried q b [] (if_won (Ok won) n) x y
    first-carried =
        carried-by x y q b p [] (if_won (Ok won) n) s.ran
        (ap (puts_told b.fields (hands q) before) s.exchanged.did_are
        ∙ (ap (λ (l : List (Option ℕ)). l ++ puts_told b.fields (hands q) then_told more) (no_number (q == 22) before.own.number) ∙ puts_none b.fields (hands q) then_told more quiet_more))
        (ap (takes_told b.fields (hands q) before) s.exchanged.did_are
        ∙ (ap (λ (w : Bool). (if w then before.next.number ∷ [] else []) ++ takes_told b.fields (hands q) then_told more) won_now
        ∙ (ap (λ (l : List (Option ℕ)). (if won then before.next.number ∷ [] else []) ++ l) (takes_none b.fields (hands q) then_told more quiet_more) ∙ taken_by won)))

  -- a node that was just read has its number
  pub value-next : (n : ℕ) → (told_of q b x).next.number ≡ None → FindsValue 23 n (view_of x.seat) (view_of y.seat) → HasNext q b n y
  value-next n none s =
      let word : (told_of q b x).next.word ≡ word_in (state_of x.seat) 23 =
      ap (λ (k : Numbering). k.word) (next_is b.fields (hands q) (telling_at (hands q) b.seat) (since b x))
      ∙ (word_is b.fields 23 22 0 (unnumbered (word_in b.seat 23)) (starting b.seat 23) (since b x) refl ∙ p.told 23 22 0 (omega arith)) in
      let some = s.0 in
      let cell : ℕ = word_in (state_of x.seat) 23 - 1 in
      let is : (before.next.word == cell + 1) ≡ true = eq-eqb before.next.word (cell + 1) (omega (arith, word, some)) in
      next-told x y q b p n (ran-found (view_of x.seat) (view_of y.seat) _ n refl s.1)
      (ap (λ (l : List Entry). (numberings b.fields 23 before.next l).number) (events-after (view_of x.seat) (view_of y.seat) _ n s.1.0)
      ∙ (ap (λ (o : Option ℕ). first_of o (if before.next.word == cell + 1 then Some n else None)) none ∙ ap (λ (a : Bool). if a then Some n else None) is))

  -- variable 23 was assigned what was read in a field, so nothing was read there yet
  pub got-unread : (v i : ℕ) → FollowsField 23 v i (view_of x.seat) (view_of y.seat) → IsUnread q b y
  got-unread v i =
      ⊎_elim
      (λ t. λ some. absurd (let nil = ap (λ (z : SeatState). word_in z 23) t.1.state ∙ get_or-set_same (state_of x.seat).env 23 (reference_in 0) 0 inside in omega (arith, nil, some)))
      (λ t. λ some.
      ap (λ (u : Telling). u.next.number) (told-more x y q b p t.1.ran)
      ∙ (ap (λ (k : Numbering). k.number) (next_is b.fields (hands q) before (did x.seat y.seat)) ∙ ap (λ (l : List Entry). (numberings b.fields 23 before.next l).number) t.1.events_are))
    where
      inside : 23 < length (state_of x.seat).env
      inside = let long = env-long (view_of x.seat) x.seat.possible in omega (arith, long)

-- a call that was refused put nothing in, and took nothing out
pub none-done : {A : Type 0} (r : Result A Refused) (ns : List ℕ) → is_err r ≡ true → [] ≡ if_done r ns
none-done (Ok a) ns e = absurd (false≢true e)
none-done (Err z) ns e = refl

pub none-won : (r : Result Bool Refused) (n : ℕ) → is_err r ≡ true → [] ≡ if_won r n
none-won (Ok a) n e = absurd (false≢true e)
none-won (Err z) n e = refl

pub none-looked : (r : Result Look Refused) → is_err r ≡ true → [] ≡ number_looked r
none-looked (Ok a) e = absurd (false≢true e)
none-looked (Err z) e = refl

pub none-taken : (r : Result (Option ℕ) Refused) → is_err r ≡ true → [] ≡ number_taken r
none-taken (Ok a) e = absurd (false≢true e)
none-taken (Err z) e = refl

-- one try more to put a node in, which hadn't come in
pub put-next : (q : ℕ) (b : Began) (x y z : SharedMutator) (is_in won : Bool) (n : ℕ) → is_in ≡ false → Carried q b (if is_in then n ∷ [] else []) [] x y → Carried q b (if_won (Ok won) n) [] y z → Carried q b (if won then n ∷ [] else []) [] x z
put-next q b x y z is_in won n e k l =
    carried-later q b x y z (if won then n ∷ [] else []) [] (subst (λ (i : Bool). Carried q b (if i then n ∷ [] else []) [] x y) e k) (subst (λ (ns : List ℕ). Carried q b ns [] y z) (same won) l)
  where
    same : (w : Bool) → if_won (Ok w) n ≡ (if w then n ∷ [] else [])
    same true = refl
    same false = refl

module _ (q : ℕ) (low : q < 20) where
  -- what a look at the first tells of numbers
  pub record SeenFirst (b : Began) (x w : SharedMutator) : Type 0 where
    pub fits : FitsSince q b w
    pub first : SeesFirst q b w
    pub carried : Carried q b [] [] x w
    pub unread : IsUnread q b w

  pub seen-first : (x y z w : SharedMutator) → FollowsField 21 q 0 (view_of x.seat) (view_of y.seat) → FollowsField 22 q 1 (view_of y.seat) (view_of z.seat) → FollowsField 23 21 0 (view_of z.seat) (view_of w.seat)
      → (b : Began) → FitsSince q b x → SeenFirst b x w
  seen-first x y z w g h k b p =
      let p1 = get-fits x y q 21 q 0 (λ e. omega (arith, e, low)) g b p in
      let p2 = get-fits y z q 22 q 1 (λ e. omega (arith, e, low)) h b p1 in
      let r = sees-first q low x y z w g h k b p in
      record {
        fits = r.0;
        first = r.1;
        carried =
            carried-later q b x y w [] [] (quiet-carried x y q b p 20 (quiet-get x y 20 21 q 0 (λ e. omega (arith, e)) g))
            (carried-later q b y z w [] [] (quiet-carried y z q b p1 20 (quiet-get y z 20 22 q 1 (λ e. omega (arith, e)) h)) (quiet-carried z w q b p2 20 (quiet-get z w 20 23 21 0 (λ e. omega (arith, e)) k)));
        unread = got-unread z w q b p2 21 0 k;
      }

  pub forgotten-carried : (x y z w v : SharedMutator) → SetsVariable 21 0 (view_of x.seat) (view_of y.seat) → SetsVariable 22 0 (view_of y.seat) (view_of z.seat) → SetsVariable 23 0 (view_of z.seat) (view_of w.seat) → SetsVariable 24 0 (view_of w.seat) (view_of v.seat)
      → (b : Began) → FitsSince q b x → Carried q b [] [] x v
  forgotten-carried x y z w v g h k l b p =
      let p1 = variable-fits x y q 21 0 (λ e. omega (arith, e, low)) g b p in
      let p2 = variable-fits y z q 22 0 (λ e. omega (arith, e, low)) h b p1 in
      let p3 = variable-fits z w q 23 0 (λ e. omega (arith, e, low)) k b p2 in
      carried-later q b x y v [] [] (quiet-carried x y q b p 20 (quiet-variable x y 20 21 0 (λ e. omega (arith, e)) g))
      (carried-later q b y z v [] [] (quiet-carried y z q b p1 20 (quiet-variable y z 20 22 0 (λ e. omega (arith, e)) h))
      (carried-later q b z w v [] [] (quiet-carried z w q b p2 20 (quiet-variable z w 20 23 0 (λ e. omega (arith, e)) k)) (quiet-carried w v q b p3 20 (quiet-variable w v 20 24 0 (λ e. omega (arith, e)) l))))

-- the value of the one behind the first was read, and its object
pub taking-next : (q : ℕ) (x y z : SharedMutator) (n : ℕ) → FindsValue 23 n (view_of x.seat) (view_of y.seat) → FollowsField 24 23 1 (view_of y.seat) (view_of z.seat) → (b : Began) → FitsSince q b x → IsUnread q b x → Carried q b [] [] x z × HasNext q b n z
taking-next q x y z n s g b p u =
    let p1 = value-fits x y q 23 n s b p in
    let quiet = quiet-get y z 23 24 23 1 (λ e. omega (arith, e)) g in (
      carried-later q b x y z [] [] (quiet-carried x y q b p 20 (quiet-value x y 20 23 n s)) (quiet-carried y z q b p1 23 quiet),
      quiet-next y z q b p1 quiet n (value-next x y q b p n (u s.0) s),
    )
