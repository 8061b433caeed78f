-- Which numbers the calls of a mutator put into a queue and take out.
use Rattle.std.proofs.Common.{ℕ, ◌≡◌, ◌≢◌, ◌+◌, ◌==◌, ◌&&◌, ◌∙◌, ⊎_elim, List, [], ◌∷◌, ◌++◌, append-nil, ap, arith, eq-eqb, ne_eqb, not, refl, subst, sym, Bool, true, false, Option, None, Some}
use Rattle.std.specs.Prelude.{if◌then◌else◌, nat_le}
use Rattle.std.proofs.lemmas.Bool.{and_from, false≢true}
use Rattle.std.specs.declared.result.Result.TheVariants.{Ok}
use Rattle.mark_core.specs.declared.kinds.Step.{Step}
use Rattle.mark_core.specs.declared.kinds.Step.TheVariants.{ExchangeField, ExchangeValue, HoldRoot, StoreNew, StoreRoot, StoreValue}
use Rattle.gc_table.specs.Log.{all_steps, steps_of}
use Rattle.gc_table.specs.Running.{Ran}
use Rattle.gc_table.specs.Seats.{did, view_of}
use Rattle.gc_table.specs.declared.view.Entry.{Entry}
use Rattle.gc_table.proofs.History.Log.{events-after}
use Rattle.gc_table.proofs.Running.{ran-found}
use Rattle.heap_laws.specs.Lent.{is_lent}
use Rattle.mutator_ops.specs.Sharing.{SetsField, SetsVariable}
use Rattle.seat_turns.specs.Exchanging.{ExchangesField}
use Rattle.seat_turns.specs.Sharing.{FollowsField, MakesSharedAfter, spares_heap}
use Rattle.queue_laws.specs.NumberLogs.{Numbering, Telling, all_told, numbering_after, numberings, puts_told, takes_told, telling_at, tellings}
use Rattle.queue_laws.proofs.NumberLogs.{keeps_number, moves_none, next_is, number_kept, own_is, puts_join, puts_none, takes_join, takes_none, tellings_join}
use Rattle.shared_heap.specs.Calls.{FindsValue, IsSame}
use Rattle.shared_heap.specs.declared.mutator.SharedMutator.{SharedMutator}
use Rattle.example_structures.specs.Carrying.{Carried, Carries, HasNext, HasOwn, KeepsNumbers, if_won, numbers_put, numbers_taken, told_of}
use Rattle.example_structures.specs.Fitting.{Began, FitsSince, hands, since}
use Rattle.example_structures.proofs.Called.{made-all, made-ran}
use Rattle.example_structures.proofs.Changed.{all-more}
use Rattle.example_structures.proofs.FitCalls.{since-ran}
use Rattle.example_structures.proofs.FitChanges.{making_is, rest_all, set_all}
use Rattle.example_structures.proofs.FitLogs.{past_fields}

-- one call after another, of which one moved nothing
pub carried-later : (q : ℕ) (b : Began) (x y z : SharedMutator) (ps ts : List ℕ) → Carried q b [] [] x y → Carried q b ps ts y z → Carried q b ps ts x z
carried-later q b x y z ps ts k l =
    record {
      put = l.put ∙ ap (λ (n : List (Option ℕ)). n ++ all_told ps) (k.put ∙ append-nil (numbers_put q b x));
      taken = l.taken ∙ ap (λ (n : List (Option ℕ)). n ++ all_told ts) (k.taken ∙ append-nil (numbers_taken q b x));
    }

pub carried-before : (q : ℕ) (b : Began) (x y z : SharedMutator) (ps ts : List ℕ) → Carried q b ps ts x y → Carried q b [] [] y z → Carried q b ps ts x z
carried-before q b x y z ps ts k l = record { put = l.put ∙ (append-nil (numbers_put q b y) ∙ k.put); taken = l.taken ∙ (append-nil (numbers_taken q b y) ∙ k.taken) }

pub carried-none : (q : ℕ) (b : Began) (x : SharedMutator) → Carried q b [] [] x x
carried-none q b x = record { put = sym (append-nil (numbers_put q b x)); taken = sym (append-nil (numbers_taken q b x)) }

-- an exchange that was lost put nothing in
pub won-lost : (q : ℕ) (b : Began) (x y : SharedMutator) (won : Bool) (n : ℕ) → won ≡ false → Carried q b (if_won (Ok won) n) [] x y → Carried q b [] [] x y
won-lost q b x y won n e k = subst (λ (w : Bool). Carried q b (if_won (Ok w) n) [] x y) e k

-- nothing was done
pub keeps-none : (q : ℕ) (x : SharedMutator) → KeepsNumbers q x x
keeps-none q x = λ b p. (carried-none q b x, λ n had. had)

heap_moves : (step : Step) → spares_heap step ≡ true → moves_none step ≡ true
heap_moves (ExchangeField v f x y) e = absurd (false≢true e)
heap_moves step e = refl

heap_number : (o : ℕ) (step : Step) → spares_heap step ≡ true → keeps_number o step ≡ true
heap_number o (StoreRoot v r) e = absurd (false≢true e)
heap_number o (HoldRoot v r) e = absurd (false≢true e)
heap_number o (StoreValue v n) e = absurd (false≢true e)
heap_number o (ExchangeValue v m n) e = absurd (false≢true e)
heap_number o step e = refl

-- an object that was made with this value, and assigned
number_made : (fields o c n id : ℕ) (known : Numbering) (ss : List Step) (es : List Entry) → steps_of es ≡ ss ++ StoreNew c fields n ∷ StoreNew c (fields + 1) id ∷ HoldRoot o (c + 1) ∷ [] → (numberings fields o known es).number ≡ Some n
number_made fields o c n id known [] (x ∷ y ∷ z ∷ []) e =
    let first : x.step ≡ StoreNew c fields n = cc in
    let second : y.step ≡ StoreNew c (fields + 1) id = cc in
    let third : z.step ≡ HoldRoot o (c + 1) = cc in
    ap (λ (s : Step). (numbering_after fields o (numbering_after fields o (numbering_after fields o known x.step x.found) y.step y.found) s z.found).number) third
    ∙ (ap (λ (s : Step). (numbering_after fields o (numbering_after fields o (numbering_after fields o known x.step x.found) s y.found) (HoldRoot o (c + 1)) z.found).number) second
    ∙ (ap (λ (s : Step). (numbering_after fields o (numbering_after fields o (numbering_after fields o known s x.found) (StoreNew c (fields + 1) id) y.found) (HoldRoot o (c + 1)) z.found).number) first
    ∙ (ap (λ (b : Bool). if b then (if is_lent (if nat_le (fields + 1) fields then None else Some (c + 1)) (c + 1) then (if fields + 1 == fields then Some id else (if fields == fields then Some n else known.coming)) else None) else known.number) (eq-eqb o o refl)
    ∙ (ap (λ (b : Bool). if is_lent (if b then None else Some (c + 1)) (c + 1) then (if fields + 1 == fields then Some id else (if fields == fields then Some n else known.coming)) else None) (past_fields fields)
    ∙ (ap (λ (b : Bool). if b then (if fields + 1 == fields then Some id else (if fields == fields then Some n else known.coming)) else None) (eq-eqb (c + 1) (c + 1) refl)
    ∙ (ap (λ (b : Bool). if b then Some id else (if fields == fields then Some n else known.coming)) (ne_eqb (fields + 1) fields (λ f. omega (arith, f)))
    ∙ ap (λ (b : Bool). if b then Some n else known.coming) (eq-eqb fields fields refl)))))))
number_made fields o c n id known [] [] e = absurd (cc)
number_made fields o c n id known [] (x ∷ []) e = absurd (cc)
number_made fields o c n id known [] (x ∷ y ∷ []) e = absurd (cc)
number_made fields o c n id known [] (x ∷ y ∷ z ∷ t ∷ es) e = absurd (cc)
number_made fields o c n id known (s ∷ ss) [] e = absurd (cc)
number_made fields o c n id known (s ∷ ss) (x ∷ es) e = number_made fields o c n id (numbering_after fields o known x.step x.found) ss es cc

module _ (x y : SharedMutator) where
  -- a call took these steps, moved nothing, and left variable o
  pub record Quiet (o : ℕ) : Type 0 where
    pub ran : Ran (view_of x.seat) (view_of y.seat)
    pub moves : all_steps moves_none (did x.seat y.seat) ≡ true
    pub keeps : all_steps (keeps_number o) (did x.seat y.seat) ≡ true

  pub quiet-same : (o : ℕ) → IsSame x y → Quiet o
  quiet-same o s =
      record {
        ran = s.leaves.ran;
        moves = all-more spares_heap moves_none heap_moves (did x.seat y.seat) s.leaves.only;
        keeps = all-more spares_heap (keeps_number o) (heap_number o) (did x.seat y.seat) s.leaves.only;
      }

  pub quiet-value : (o v n : ℕ) → FindsValue v n (view_of x.seat) (view_of y.seat) → Quiet o
  quiet-value o v n s =
      record {
        ran = ran-found (view_of x.seat) (view_of y.seat) _ n refl s.1;
        moves = subst (λ (es : List Entry). all_steps moves_none es ≡ true) (sym (events-after (view_of x.seat) (view_of y.seat) _ n s.1.0)) refl;
        keeps = subst (λ (es : List Entry). all_steps (keeps_number o) es ≡ true) (sym (events-after (view_of x.seat) (view_of y.seat) _ n s.1.0)) refl;
      }

  left : (w o : ℕ) → w ≢ o → not (w == o) && true ≡ true
  left w o ne = and_from (not (w == o)) true (ap not (ne_eqb w o ne)) refl

  pub quiet-variable : (o w r : ℕ) → w ≢ o → SetsVariable w r (view_of x.seat) (view_of y.seat) → Quiet o
  quiet-variable o w r ne s =
      record {
        ran = s.ran;
        moves = subst (λ (es : List Entry). all_steps moves_none es ≡ true) (sym s.events_are) refl;
        keeps = subst (λ (es : List Entry). all_steps (keeps_number o) es ≡ true) (sym s.events_are) (left w o ne);
      }

  pub quiet-get : (o w v i : ℕ) → w ≢ o → FollowsField w v i (view_of x.seat) (view_of y.seat) → Quiet o
  quiet-get o w v i ne =
      ⊎_elim
      (λ t. quiet-variable o w 0 ne t.1)
      (λ t.
      record {
        ran = t.1.ran;
        moves = subst (λ (es : List Entry). all_steps moves_none es ≡ true) (sym t.1.events_are) refl;
        keeps = subst (λ (es : List Entry). all_steps (keeps_number o) es ≡ true) (sym t.1.events_are) (left w o ne);
      })

  pub quiet-set : (o v i w : ℕ) → SetsField v i w (view_of x.seat) (view_of y.seat) → Quiet o
  quiet-set o v i w s = record { ran = s.ran; moves = set_all x y moves_none v i w s refl (λ card. refl) (λ card. refl); keeps = set_all x y (keeps_number o) v i w s refl (λ card. refl) (λ card. refl) }

  pub quiet-made : (o w n : ℕ) → w ≢ o → MakesSharedAfter w n (view_of x.seat) (view_of y.seat) → Quiet o
  quiet-made o w n ne k =
      record {
        ran = made-ran x y w n k;
        moves = made-all x y moves_none w n k heap_moves (λ c part word. refl) refl;
        keeps = made-all x y (keeps_number o) w n k (heap_number o) (λ c part word. refl) (ap not (ne_eqb w o ne));
      }

  -- an exchange of field 1
  pub quiet-follow : (o u e n : ℕ) (won : Bool) → ExchangesField u 1 e n won (view_of x.seat) (view_of y.seat) → Quiet o
  quiet-follow o u e n won s =
      record {
        ran = s.ran;
        moves = ap (all_steps moves_none) s.exchanged.did_are ∙ rest_all x y moves_none u s.exchanged.card_word won (λ card. refl) (λ card. refl);
        keeps = ap (all_steps (keeps_number o)) s.exchanged.did_are ∙ rest_all x y (keeps_number o) u s.exchanged.card_word won (λ card. refl) (λ card. refl);
      }

  module _ (q : ℕ) (b : Began) (p : FitsSince q b x) where
    -- what is told after more
    pub told-more : Ran (view_of x.seat) (view_of y.seat) → told_of q b y ≡ tellings b.fields (hands q) (told_of q b x) (did x.seat y.seat)
    told-more r = ap (tellings b.fields (hands q) (telling_at (hands q) b.seat)) (since-ran x y b p.log r) ∙ tellings_join b.fields (hands q) (telling_at (hands q) b.seat) (since b x) (did x.seat y.seat)

    pub carried-by : (ps ts : List ℕ) → Ran (view_of x.seat) (view_of y.seat) → puts_told b.fields (hands q) (told_of q b x) (did x.seat y.seat) ≡ all_told ps → takes_told b.fields (hands q) (told_of q b x) (did x.seat y.seat) ≡ all_told ts → Carried q b ps ts x y
    carried-by ps ts r e f =
        let start : Telling = telling_at (hands q) b.seat in
        let is = since-ran x y b p.log r in
        record {
          put = ap (puts_told b.fields (hands q) start) is ∙ (puts_join b.fields (hands q) start (since b x) (did x.seat y.seat) ∙ ap (λ (l : List (Option ℕ)). numbers_put q b x ++ l) e);
          taken = ap (takes_told b.fields (hands q) start) is ∙ (takes_join b.fields (hands q) start (since b x) (did x.seat y.seat) ∙ ap (λ (l : List (Option ℕ)). numbers_taken q b x ++ l) f);
        }

    pub quiet-carried : (o : ℕ) → Quiet o → Carried q b [] [] x y
    quiet-carried o k = carried-by [] [] k.ran (puts_none b.fields (hands q) (told_of q b x) (did x.seat y.seat) k.moves) (takes_none b.fields (hands q) (told_of q b x) (did x.seat y.seat) k.moves)

    -- what the log told of a node, it tells still
    pub own-told : (n : ℕ) → Ran (view_of x.seat) (view_of y.seat) → (numberings b.fields 20 (told_of q b x).own (did x.seat y.seat)).number ≡ Some n → HasOwn q b n y
    own-told n r e = ap (λ (t : Telling). t.own.number) (told-more r) ∙ (ap (λ (k : Numbering). k.number) (own_is b.fields (hands q) (told_of q b x) (did x.seat y.seat)) ∙ e)

    pub next-told : (n : ℕ) → Ran (view_of x.seat) (view_of y.seat) → (numberings b.fields 23 (told_of q b x).next (did x.seat y.seat)).number ≡ Some n → HasNext q b n y
    next-told n r e = ap (λ (t : Telling). t.next.number) (told-more r) ∙ (ap (λ (k : Numbering). k.number) (next_is b.fields (hands q) (told_of q b x) (did x.seat y.seat)) ∙ e)

    pub quiet-own : Quiet 20 → (n : ℕ) → HasOwn q b n x → HasOwn q b n y
    quiet-own k n had = own-told n k.ran (number_kept b.fields 20 (told_of q b x).own (did x.seat y.seat) n k.keeps had)

    pub quiet-next : Quiet 23 → (n : ℕ) → HasNext q b n x → HasNext q b n y
    quiet-next k n had = next-told n k.ran (number_kept b.fields 23 (told_of q b x).next (did x.seat y.seat) n k.keeps had)

    -- a node was made
    pub made-own : (n : ℕ) → MakesSharedAfter 20 n (view_of x.seat) (view_of y.seat) → HasOwn q b n y
    made-own n k =
        let m = making_is x y q n b p k in
        own-told n (made-ran x y 20 n k) (number_made b.fields 20 k.makes.cell n m.0 (told_of q b x).own m.1 (did x.seat y.seat) m.2)

  pub keeps-by : (q : ℕ) → Quiet 20 → KeepsNumbers q x y
  keeps-by q k = λ b p. (quiet-carried q b p 20 k, quiet-own q b p k)

  pub carries-by : (q o : ℕ) → Quiet o → Carries q [] [] x y
  carries-by q o k = λ b p. quiet-carried q b p o k
