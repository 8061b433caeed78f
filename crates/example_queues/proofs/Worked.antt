-- How what a thread did joins what it does next.
use Rattle.std.proofs.Common.{ℕ, ◌≡◌, ◌≢◌, ◌+◌, ◌<◌, ◌≤◌, ◌∙◌, List, [], ◌∷◌, ◌++◌, ap, append_assoc, arith, get_or, length, length-append, refl, subst, sym, take, Option, None, Some, false}
use Rattle.std.specs.Prelude.{IfSome, is_err}
use Rattle.std.specs.declared.result.Result.{Result}
use Rattle.std.specs.declared.result.Result.TheVariants.{Err, Ok}
use Rattle.std.proofs.lemmas.Bool.{false≢true}
use Rattle.std.proofs.lemmas.List.{take_all, take_more}
use Rattle.std.specs.Arc.{arc_value}
use Rattle.queue_laws.specs.NumberLogs.{all_told}
use Rattle.seat_turns.specs.declared.refused.Refused.{Refused}
use Rattle.shared_heap.specs.Calls.{IsSame}
use Rattle.shared_heap.specs.declared.mutator.SharedMutator.{SharedMutator}
use Rattle.example_structures.specs.Carrying.{Carried, Carries, if_done, number_in, numbers_put, numbers_taken}
use Rattle.example_structures.specs.Fitting.{AddsFitting, Began}
use Rattle.example_structures.specs.Queues.{Moves, taken_by}
use Rattle.example_structures.proofs.Called.{same-none}
use Rattle.example_structures.proofs.Carried.{carried-before, carried-later, carried-none, quiet-carried, quiet-same}
use Rattle.example_structures.proofs.Counted.{moves-before, moves-join, moves-later, none-moves}
use Rattle.example_structures.proofs.FitCalls.{same-fits}
use Rattle.example_queues.specs.Logs.{Works}

pub works-none : (x : SharedMutator) → Works [] [] x x
works-none x = record { each = refl; moves = none-moves x x 0 refl; fits = λ b p. p; numbers = λ b p. carried-none 0 b x; world = refl }

-- numbers that were put in and taken out, one part after the other
carried_join : (q : ℕ) (b : Began) (x y z : SharedMutator) (ps ts ms ns : List ℕ) → Carried q b ps ts x y → Carried q b ms ns y z → Carried q b (ps ++ ms) (ts ++ ns) x z
carried_join q b x y z ps ts ms ns k l =
    record {
      put = l.put ∙ (ap (λ (o : List (Option ℕ)). o ++ all_told ms) k.put ∙ (append_assoc (numbers_put q b x) (all_told ps) (all_told ms) ∙ ap (λ (o : List (Option ℕ)). numbers_put q b x ++ o) (sym (told_join ps ms))));
      taken = l.taken ∙ (ap (λ (o : List (Option ℕ)). o ++ all_told ns) k.taken ∙ (append_assoc (numbers_taken q b x) (all_told ts) (all_told ns) ∙ ap (λ (o : List (Option ℕ)). numbers_taken q b x ++ o) (sym (told_join ts ns))));
    }
  where
    told_join : (us vs : List ℕ) → all_told (us ++ vs) ≡ all_told us ++ all_told vs
    told_join [] vs = refl
    told_join (u ∷ us) vs = ap (λ (o : List (Option ℕ)). Some u ∷ o) (told_join us vs)

works-join : (ps ts ms ns : List ℕ) (x y z : SharedMutator) → Works ps ts x y → Works ms ns y z → Works (ps ++ ms) (ts ++ ns) x z
works-join ps ts ms ns x y z a b =
    record {
      each = let p = length-append ps ms in let t = length-append ts ns in let one = a.each in let two = b.each in omega (arith, p, t, one, two);
      moves =
          subst (λ (n : ℕ). Moves 0 n (length (ts ++ ns)) x z) (sym (length-append ps ms))
          (subst (λ (n : ℕ). Moves 0 (length ps + length ms) n x z) (sym (length-append ts ns)) (moves-join x y z 0 (length ps) (length ts) (length ms) (length ns) a.moves b.moves));
      fits = λ c p. b.fits c (a.fits c p);
      numbers = λ c p. carried_join 0 c x y z ps ts ms ns (a.numbers c p) (b.numbers c (a.fits c p));
      world = b.world ∙ a.world;
    }

-- one number more of those that are given
pub works-more : (numbers taken : List ℕ) (i one : ℕ) (x y z : SharedMutator) → i < length numbers → Works (take i numbers) taken x y → Works (get_or numbers i 0 ∷ []) (one ∷ []) y z → Works (take (i + 1) numbers) (taken ++ one ∷ []) x z
works-more numbers taken i one x y z below a b =
    subst (λ (ns : List ℕ). Works ns (taken ++ one ∷ []) x z) (sym (take_more numbers i 0 below)) (works-join (take i numbers) taken (get_or numbers i 0 ∷ []) (one ∷ []) x y z a b)

-- all of them
pub works-all : (numbers taken : List ℕ) (i : ℕ) (x y : SharedMutator) → length numbers ≤ i → Works (take i numbers) taken x y → Works numbers taken x y
works-all numbers taken i x y past = subst (λ (ns : List ℕ). Works ns taken x y) (take_all i numbers past)

-- a number was put in, and one taken out
works_turn : (q k n : ℕ) (x y z : SharedMutator) → q ≡ 0 → Moves q 1 0 x y → AddsFitting q x y → Carries q (k ∷ []) [] x y → arc_value y.heap ≡ arc_value x.heap → Moves q 0 1 y z → (1 ≢ q → AddsFitting q y z) → (1 ≢ q → Carries q [] (n ∷ []) y z)
    → arc_value z.heap ≡ arc_value y.heap → Works (k ∷ []) (n ∷ []) x z
works_turn q k n x y z e puts fit_put told_put heap_put takes fit_take told_take heap_take =
    let other : 1 ≢ q = λ d. omega (arith, d, e) in
    record {
      each = refl;
      moves = subst (λ (m : ℕ). Moves m 1 1 x z) e (moves-join x y z q 1 0 0 1 puts takes);
      fits = subst (λ (m : ℕ). AddsFitting m x z) e (λ b p. fit_take other b (fit_put b p));
      numbers = subst (λ (m : ℕ). Carries m (k ∷ []) (n ∷ []) x z) e (λ b p. carried_join q b x y z (k ∷ []) [] [] (n ∷ []) (told_put b p) (told_take other b (fit_put b p)));
      world = heap_take ∙ heap_put;
    }

-- entering before and leaving after it
pub works-around : (ps ts : List ℕ) (v x y z : SharedMutator) → IsSame v x → Works ps ts x y → IsSame y z → Works ps ts v z
works-around ps ts v x y z enters w leaves =
    record {
      each = w.each;
      moves = moves-before v y z 0 (length ps) (length ts) (moves-later v x y 0 (length ps) (length ts) (same-none v x enters) w.moves) (same-none y z leaves);
      fits = λ b p. same-fits y z 0 leaves b (w.fits b (same-fits v x 0 enters b p));
      numbers =
          λ b p.
          let q = same-fits v x 0 enters b p in
          carried-before 0 b v y z ps ts (carried-later 0 b v x y ps ts (quiet-carried v x 0 b p 20 (quiet-same v x 20 enters)) (w.numbers b q)) (quiet-carried y z 0 b (w.fits b q) 20 (quiet-same y z 20 leaves));
      world = leaves.world ∙ (w.world ∙ enters.world);
    }

-- if there was one to take
pub works-taken : (q k : ℕ) (o : Option ℕ) (x y z : SharedMutator) → q ≡ 0 → Moves q 1 0 x y → AddsFitting q x y → Carries q (k ∷ []) [] x y → arc_value y.heap ≡ arc_value x.heap → Moves q 0 (taken_by o) y z → (1 ≢ q → AddsFitting q y z) → (1 ≢ q → Carries q [] (number_in o) y z)
    → arc_value z.heap ≡ arc_value y.heap → IfSome o (λ n. Works (k ∷ []) (n ∷ []) x z)
works-taken q k None x y z e puts fit_put told_put heap_put takes fit_take told_take heap_take = tt
works-taken q k (Some n) x y z e puts fit_put told_put heap_put takes fit_take told_take heap_take = works_turn q k n x y z e puts fit_put told_put heap_put takes fit_take told_take heap_take

-- a call that wasn't refused did it
pub done-numbers : {A : Type 0} (r : Result A Refused) (ns : List ℕ) → false ≡ is_err r → if_done r ns ≡ ns
done-numbers (Ok a) ns e = refl
done-numbers (Err z) ns e = absurd (false≢true e)
