-- Single steps as parts of a trace, and packets that are given back.
use Rattle.std.proofs.Common.{ℕ, ◌≡◌, ◌⊎◌, ◌+◌, List, [], ◌∷◌, refl, sym, ap, ◌∙◌, subst, cond, Bool, true, false, not, Some, None, Option, eqb-true, ⊎_elim}
use Rattle.std.specs.Prelude.{◌&&◌, ◌||◌, ◌==◌}
use Rattle.std.proofs.lemmas.Bool.{and_parts, cases_Bool, false≢true, or_from}
use Rattle.mark_core.specs.Seats.{is_the}
use Rattle.mark_core.specs.declared.kinds.Step.{Step}
use Rattle.mark_core.specs.declared.kinds.Step.TheVariants.{Credit, DirtyCard, Give, Pop, Push, ReadAlloc, StoreLength}
use Rattle.mark_core.specs.declared.seat.SeatState.{SeatState}
use Rattle.gc_table.specs.declared.view.Entry.{Entry}
use Rattle.gc_table.specs.declared.view.View.{View}
use Rattle.gc_table.specs.Taking.{after}
use Rattle.packet_pools.specs.OnlyTraced.{OnlyTraced}
use Rattle.gc_table.specs.Log.{events, steps_of}
use Rattle.packet_pools.specs.Seeking.{only_moves, output_pools}
use Rattle.packet_pools.specs.Counts.{count_of, dirties}
use Rattle.gc_table.proofs.History.Log.{entry_of, events-after, events-join}
use Rattle.tracer.specs.Deferral.{waits, waits_on}
use Rattle.tracer.specs.Parts.{Did}
use Rattle.tracer.proofs.Quiet.{AllCalm, IsCalm, and-false, calm-got, calm-off, calm-popped, calm-pops, calm-traces, did-quiet, did-moves}
use Rattle.tracer.proofs.Joined.{did-join}

-- no step
pub did-none : (o : Option ℕ) (v : View) (es : List Entry) → es ≡ [] → Did o o 0 0 0 v es
did-none o v es e = did-moves o v es (ap (only_moves output_pools) e)

other-popped : (o : Option ℕ) (p x : ℕ) → is_the o p ≡ false → (is_the o x && (p == x)) ≡ false
other-popped o p x f =
    ⊎_elim
    (λ (e : (p == x) ≡ true). λ i. (ap (is_the o) (sym (eqb-true p x e)) ∙ f) i && (p == x))
    (λ (e : (p == x) ≡ false). ap (λ b. is_the o x && b) e ∙ and-false (is_the o x))
    (cases_Bool (p == x))

-- a cell was popped out of a packet that doesn't wait
pub did-pop : (o : Option ℕ) (p n : ℕ) (v w : View) → w ≡ after (Pop p) n v → is_the o p ≡ false → Did o o 1 0 0 v (events v w)
did-pop o p n v w e f =
    subst (Did o o 1 0 0 v) (sym (events-after v w (Pop p) n e))
    (record {
      waiting = λ x. refl;
      kept = λ x. or_from _ _ (other-popped o p x f) refl;
      undeferred = λ x. refl;
      done = refl;
      deferred = refl;
      dirtied = refl;
      steps = refl;
    })

-- its allocation bit was read
pub did-alloc : (o : Option ℕ) (b n : ℕ) (v w : View) → w ≡ after (ReadAlloc b) n v → Did o o 0 0 0 v (events v w)
did-alloc o b n v w e =
    subst (Did o o 0 0 0 v) (sym (events-after v w (ReadAlloc b) n e))
    (did-quiet o 0 v (entry_of (ReadAlloc b) n ∷ []) (calm, tt) (λ p x. refl, tt) refl)
  where
    calm : IsCalm v.state (ReadAlloc b) n
    calm = record { from = λ p. refl; pop = refl; off = refl; got = λ p. refl; trace = refl }

begins : (a : Bool) → (false || (a && true)) ≡ a
begins true = refl
begins false = refl

goes-on : (a : Bool) → (a || (a && true)) ≡ a
goes-on true = refl
goes-on false = refl

-- a popped cell was pushed
pub did-push : (o : Option ℕ) (q c n : ℕ) (v w : View) → w ≡ after (Push q c) n v → v.state.fresh ≡ None → (o ≡ None) ⊎ (o ≡ Some q) → Did o (Some q) 0 1 0 v (events v w)
did-push o q c n v w e f either =
    subst (Did o (Some q) 0 1 0 v) (sym (events-after v w (Push q c) n e))
    (record {
      waiting =
          λ x.
          ap (λ (y : Option ℕ). is_the o x || ((q == x) && not (is_the y c))) f
          ∙ ⊎_elim
          (λ (z : o ≡ None). ap (λ y. is_the y x || ((q == x) && true)) z ∙ begins (q == x))
          (λ (z : o ≡ Some q). ap (λ y. is_the y x || ((q == x) && true)) z ∙ goes-on (q == x))
          either;
      kept = λ x. or_from _ _ (and-false (is_the o x)) refl;
      undeferred = λ x. refl;
      done = refl;
      deferred = ap (λ (y : Option ℕ). cond (not (is_the y c)) 1 0 + 0) f;
      dirtied = refl;
      steps = refl;
    })

-- packets were looked for, and a card was dirtied
pub did-spill : (o : Option ℕ) (card n : ℕ) (u v w : View) → OnlyTraced u v → OnlyTraced v w → only_moves output_pools (events u v) ≡ true → w ≡ after (DirtyCard card) n v → Did o o 0 0 1 u (events u w)
did-spill o card n u v w a b m e =
    let one : List Entry = entry_of (DirtyCard card) n ∷ [] in
    let last : events v w ≡ one = events-after v w (DirtyCard card) n e in
    did-join o o o 0 0 0 0 0 1 0 0 1 u v (events u v) (events v w) (events u w) (events-join u v w a.log b.log) a.ran.steps refl refl refl (did-moves o u (events u v) m)
    (subst (Did o o 0 0 1 v) (sym last) (did-quiet o 1 v one (calm, tt) (λ p x. refl, tt) refl))
  where
    calm : IsCalm v.state (DirtyCard card) n
    calm = record { from = λ p. refl; pop = refl; off = refl; got = λ p. refl; trace = refl }

-- a step that gives a packet back
abbrev gives_back : Step → Bool
gives_back (StoreLength p) = true
gives_back (Give p d) = true
gives_back Credit = true
gives_back step = false

abbrev all_give : List Step → Bool
all_give [] = true
all_give (x ∷ xs) = gives_back x && all_give xs

give-calm : (s : SeatState) (step : Step) (n : ℕ) → gives_back step ≡ true → IsCalm s step n
give-calm s (StoreLength p) n g = record { from = λ p. refl; pop = refl; off = refl; got = λ p. refl; trace = refl }
give-calm s (Give p d) n g = record { from = λ p. refl; pop = refl; off = refl; got = λ p. refl; trace = refl }
give-calm s Credit n g = record { from = λ p. refl; pop = refl; off = refl; got = λ p. refl; trace = refl }
give-calm s step n g = absurd (false≢true g)

gives-calm : (v : View) (es : List Entry) → all_give (steps_of es) ≡ true → AllCalm v es
gives-calm v [] g = tt
gives-calm v (e ∷ es) g = let h = and_parts (gives_back e.step) (all_give (steps_of es)) g in (give-calm v.state e.step e.found h.0, gives-calm (after e.step e.found v) es h.1)

clean : (step : Step) (n : ℕ) → gives_back step ≡ true → dirties step n ≡ false
clean (DirtyCard card) n g = absurd (false≢true g)
clean step n g = refl

-- what waits, by the steps only
abbrev given_on : ℕ → Step → Bool → Bool
given_on p (Give q d) b = b && not ((q == p) && d)
given_on p step b = b

abbrev given_all : ℕ → List Step → Bool → Bool
given_all p [] b = b
given_all p (x ∷ xs) b = given_all p xs (given_on p x b)

given-on : (p : ℕ) (s : SeatState) (step : Step) (b : Bool) → gives_back step ≡ true → waits_on p s step b ≡ given_on p step b
given-on p s (StoreLength q) b g = refl
given-on p s (Give q d) b g = refl
given-on p s Credit b g = refl
given-on p s step b g = absurd (false≢true g)

given-all : (p : ℕ) (v : View) (es : List Entry) (b : Bool) → all_give (steps_of es) ≡ true → waits p v es b ≡ given_all p (steps_of es) b
given-all p v [] b g = refl
given-all p v (e ∷ es) b g =
    let h = and_parts (gives_back e.step) (all_give (steps_of es)) g in
    ap (waits p (after e.step e.found v) es) (given-on p v.state e.step b h.0) ∙ given-all p (after e.step e.found v) es (given_on p e.step b) h.1

ends : (a : Bool) → (a && not (a && true)) ≡ false
ends true = refl
ends false = refl

no-dirty : (es : List Entry) → all_give (steps_of es) ≡ true → count_of dirties es ≡ 0
no-dirty [] g = refl
no-dirty (e ∷ es) g =
    let h = and_parts (gives_back e.step) (all_give (steps_of es)) g in
    λ i. cond (clean e.step e.found h.0 i) 1 0 + no-dirty es h.1 i

-- a packet was given as deferred, and waits no more
pub did-deferred : (p : ℕ) (c : Bool) (v : View) (es : List Entry) → steps_of es ≡ StoreLength p ∷ Give p true ∷ (cond c (Credit ∷ []) []) → Did (Some p) None 0 0 0 v es
did-deferred p c v es e =
    let calm = gives-calm v es (ap all_give e ∙ giving c) in
    record {
      waiting = λ x. given-all x v es (p == x) (ap all_give e ∙ giving c) ∙ (ap (λ l. given_all x l (p == x)) e ∙ over x c);
      kept = λ x. calm-popped x v es (p == x) calm;
      undeferred = λ x. calm-got x v es calm;
      done = calm-pops v es calm;
      deferred = calm-off v es calm;
      dirtied = no-dirty es (ap all_give e ∙ giving c);
      steps = calm-traces v es calm;
    }
  where
    giving : (b : Bool) → all_give (StoreLength p ∷ Give p true ∷ (cond b (Credit ∷ []) [])) ≡ true
    giving true = refl
    giving false = refl

    over : (x : ℕ) (b : Bool) → given_all x (StoreLength p ∷ Give p true ∷ (cond b (Credit ∷ []) [])) (p == x) ≡ false
    over x true = ends (p == x)
    over x false = ends (p == x)
