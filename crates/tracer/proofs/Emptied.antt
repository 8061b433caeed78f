-- What a seat that is alone has noted of the deferred pool once its packets were brought back.
use Rattle.std.proofs.Common.{ℕ, ◌≡◌, ◌<◌, ◌*◌, ◌/◌, ◌%◌, inl, inr, List, [], ◌∷◌, arith, refl, sym, ap, ◌∙◌, subst, ⊎_elim, Bool, true, false, not, ◌&&◌, ◌||◌, cond, eqb-true, Option, Some, None}
use Rattle.std.specs.Prelude.{◌==◌, nat_le}
use Rattle.std.proofs.lemmas.Bool.{and_parts, or_cases, or_left, or_right, cases_Bool, false≢true, ltb-true, cases_eq}
use Rattle.mark_core.specs.Bits.{has_bit, without_bit}
use Rattle.mark_core.specs.Effects.{place, seat_after}
use Rattle.mark_core.specs.Held.{length_in_hand}
use Rattle.mark_core.specs.Layout.{words_of}
use Rattle.mark_core.specs.Notes.{same_place}
use Rattle.mark_core.specs.Numbers.{deferred_pool_number, empty_pool_number, low_pool_number, high_pool_number, word_bits}
use Rattle.mark_core.specs.Parts.{parts}
use Rattle.mark_core.specs.Places.{pool_at}
use Rattle.mark_core.specs.Steps.{AllTrue, failing_of}
use Rattle.mark_core.specs.Steps.PacketSteps.{pool_for}
use Rattle.mark_core.specs.declared.kinds.Shape.{Shape}
use Rattle.mark_core.specs.declared.kinds.Step.{Step}
use Rattle.mark_core.specs.declared.kinds.Step.TheVariants.{Reserve, Take, Give, Credit, Look, StoreLength, ReadLength}
use Rattle.mark_core.proofs.Known.{parts_hold, some_none}
use Rattle.mark_core.proofs.Writing.CellBits.{without_same, without_other}
use Rattle.gc_table.specs.Notes.{look}
use Rattle.gc_table.specs.Running.{AllSeen, IsSeen, Ran, after_all}
use Rattle.gc_table.specs.Taking.{after, Finds}
use Rattle.gc_table.specs.Log.{events}
use Rattle.gc_table.specs.declared.view.Entry.{Entry}
use Rattle.gc_table.specs.declared.view.View.{View}
use Rattle.gc_table.proofs.Noticing.{alone-steady, found-noted, known-here}
use Rattle.packet_pools.specs.Outside.{IsNotedOutside}
use Rattle.packet_pools.specs.Seeking.{before_got, deferred_pools, gets, gets_from, loses, moves_packet, only_moves, shows_outside, some_event}
use Rattle.packet_pools.proofs.Outside.{look-noted, outside-step, pools-apart, word-of}
use Rattle.packet_pools.proofs.TracedSteps.{place-again}
use Rattle.tracer.specs.Recycling.{gives_to, is_settled, was_moved}

unspent : (b : Bool) (o : Option ℕ) → cond b (Some 0) o ≡ None → o ≡ None
unspent true o e = absurd (some_none 0 e)
unspent false o e = e

-- a bit that isn't there
from-not : (b : Bool) → not b ≡ true → b ≡ false
from-not true e = sym e
from-not false e = refl

-- the condition of a step that was taken
held-parts : (v : View) (step : Step) (n : ℕ) (f : Finds step n v) → AllTrue (parts f.state.core.shape (words_of f.state.core.shape f.state.core.words) f.state.core.seats v.state step)
held-parts v step n f = parts_hold 1 _ (unspent v.state.spent _ (sym (ap (λ o. failing_of f.state.core o step) f.agrees.seat) ∙ f.allowed))

-- alone, and noted that packet p isn't in the deferred pool
abbrev OutAlone : ℕ → View → Type 0
OutAlone p v = (v.state.alone ≡ true) × (p < v.shape.packets) × IsNotedOutside deferred_pool_number p v

-- a take clears a bit of the word that it finds
take-keeps : (q x p n : ℕ) (v : View) → Finds (Take q x) n v → v.state.alone ≡ true → IsNotedOutside deferred_pool_number p v → IsNotedOutside deferred_pool_number p (after (Take q x) n v)
take-keeps q x p n v f alone k =
    let at : ℕ × ℕ = pool_at v.shape deferred_pool_number (p / word_bits) in
    let to : ℕ × ℕ = place v.shape v.state (Take q x) in
    ⊎_elim
    (λ (here : same_place to at ≡ true).
    let is : n ≡ k.0 = found-noted v (Take q x) n k.0 at f here k.1 in
    let noted = (known-here v (Take q x) n at here (alone-steady (seat_after v.shape v.state (Take q x) n) at (without_bit n (x % word_bits)) refl alone)).0 in
    let clear : has_bit (without_bit n (x % word_bits)) (p % word_bits) ≡ false =
    ⊎_elim
    (λ (e : p % word_bits ≡ x % word_bits). ap (has_bit (without_bit n (x % word_bits))) e ∙ without_same n (x % word_bits) (omega arith))
    (λ (d : p % word_bits ≡ x % word_bits → ⊥). without_other n (x % word_bits) (p % word_bits) (omega arith) (omega arith) d ∙ (ap (λ m. has_bit m (p % word_bits)) is ∙ k.2))
    (cases_eq (p % word_bits) (x % word_bits)) in
    (without_bit n (x % word_bits), noted, clear))
    (λ (apart : same_place to at ≡ false). outside-step v (Take q x) n deferred_pool_number p refl alone (record { found = λ _. f; stored = λ t. absurd (false≢true t) }) (inl apart) k)
    (cases_Bool (same_place to at))

-- a packet that isn't given as deferred goes elsewhere
not-deferred : (sh : Shape) (n : ℕ) (b c : Bool) → deferred_pool_number ≡ cond b empty_pool_number (cond c high_pool_number low_pool_number) → ⊥
not-deferred sh n true c e = omega (arith, e)
not-deferred sh n false true e = omega (arith, e)
not-deferred sh n false false e = omega (arith, e)

give-keeps : (x p n : ℕ) (v : View) → Finds (Give x false) n v → v.state.alone ≡ true → p < v.shape.packets → IsNotedOutside deferred_pool_number p v → IsNotedOutside deferred_pool_number p (after (Give x false) n v)
give-keeps x p n v f alone low k =
    let len : ℕ = length_in_hand v.state.held x in
    let there : x < v.shape.packets = subst (λ (sh : Shape). x < sh.packets) (sym f.agrees.shape) (ltb-true x f.state.core.shape.packets (and_parts _ _ (held-parts v (Give x false) n f).0).0) in
    outside-step v (Give x false) n deferred_pool_number p refl alone (record { found = λ _. f; stored = λ t. absurd (false≢true t) })
    (inl (pools-apart v.shape (pool_for v.shape len false) deferred_pool_number (x / word_bits) (p / word_bits) (word-of v.shape x there) (word-of v.shape p low) (λ e. not-deferred v.shape len (len == 0) (nat_le v.shape.entries (2 * len)) (sym e))))
    k

-- each step that moves packets out of the deferred pool keeps that
keeps : (p : ℕ) (v : View) (step : Step) (n : ℕ) → moves_packet deferred_pools step ≡ true → IsSeen step n v → OutAlone p v → OutAlone p (after step n v)
keeps p v Reserve n m s k = (k.0, k.1, outside-step v Reserve n deferred_pool_number p refl k.0 s (inl refl) k.2)
keeps p v (Take q x) n m s k = (k.0, k.1, take-keeps q x p n v (s.found refl) k.0 k.2)
keeps p v (Give x true) n m s k = absurd (false≢true m)
keeps p v (Give x false) n m s k = (k.0, k.1, give-keeps x p n v (s.found refl) k.0 k.1 k.2)
keeps p v Credit n m s k = (k.0, k.1, outside-step v Credit n deferred_pool_number p refl k.0 s (inl refl) k.2)
keeps p v (Look q g) n m s k = (k.0, k.1, outside-step v (Look q g) n deferred_pool_number p refl k.0 s (inr refl) k.2)
keeps p v (StoreLength x) n m s k = (k.0, k.1, outside-step v (StoreLength x) n deferred_pool_number p refl k.0 s (inl refl) k.2)
keeps p v (ReadLength x) n m s k = (k.0, k.1, outside-step v (ReadLength x) n deferred_pool_number p refl k.0 s (inr refl) k.2)
keeps p v step n m s k = absurd (false≢true m)

all-keep : (p : ℕ) (es : List Entry) (v : View) → only_moves deferred_pools es ≡ true → AllSeen es v → OutAlone p v → OutAlone p (after_all es v)
all-keep p [] v m s k = k
all-keep p (e ∷ es) v m s k = let b = and_parts (moves_packet deferred_pools e.step) (only_moves deferred_pools es) m in all-keep p es (after e.step e.found v) b.1 s.1 (keeps p v e.step e.found b.0 s.0 k)

-- the event shows the packet outside the deferred pool, or took it out
abbrev settles : ℕ → Step → ℕ → Bool
settles p (Look q g) found = shows_outside deferred_pool_number p (Look q g) found
settles p (Take q x) found = (q == deferred_pool_number) && (x == p)
settles p step found = false

settled-now : (p : ℕ) (v : View) (step : Step) (n : ℕ) → settles p step n ≡ true → v.state.alone ≡ true → p < v.shape.packets → OutAlone p (after step n v)
settled-now p v (Look q g) n e alone low =
    let b = and_parts ((q == deferred_pool_number) && (g == p / word_bits)) (not (has_bit n (p % word_bits))) e in
    let c = and_parts (q == deferred_pool_number) (g == p / word_bits) b.0 in
    let noted = look-noted v (after (Look q g) n v) q g n alone refl in
    (alone, low, (n, subst (λ (y : ℕ × ℕ). look (pool_at v.shape y.0 y.1) (after (Look q g) n v).known ≡ Some n) (λ i. (eqb-true q deferred_pool_number c.0 i, eqb-true g (p / word_bits) c.1 i)) noted, from-not _ b.1))
settled-now p v (Take q x) n e alone low =
    let c = and_parts (q == deferred_pool_number) (x == p) e in
    let at : ℕ × ℕ = pool_at v.shape q (x / word_bits) in
    let noted = (known-here v (Take q x) n at (place-again at) (alone-steady (seat_after v.shape v.state (Take q x) n) at (without_bit n (x % word_bits)) refl alone)).0 in (
      alone,
      low,
      (
        without_bit n (x % word_bits),
        subst (λ (y : ℕ × ℕ). look (pool_at v.shape y.0 (y.1 / word_bits)) (after (Take q x) n v).known ≡ Some (without_bit n (x % word_bits))) (λ i. (eqb-true q deferred_pool_number c.0 i, eqb-true x p c.1 i)) noted,
        subst (λ y. has_bit (without_bit n (x % word_bits)) (y % word_bits) ≡ false) (eqb-true x p c.1) (without_same n (x % word_bits) (omega arith)),
      ),
    )
settled-now p v step n e alone low = absurd (false≢true e)

alone-on : (v : View) (step : Step) (n : ℕ) → moves_packet deferred_pools step ≡ true → (after step n v).state.alone ≡ v.state.alone
alone-on v Reserve n m = refl
alone-on v (Take q x) n m = refl
alone-on v (Give x d) n m = refl
alone-on v Credit n m = refl
alone-on v (Look q g) n m = refl
alone-on v (StoreLength x) n m = refl
alone-on v (ReadLength x) n m = refl
alone-on v step n m = absurd (false≢true m)

settled-out : (p : ℕ) (es : List Entry) (v : View) → only_moves deferred_pools es ≡ true → AllSeen es v → v.state.alone ≡ true → p < v.shape.packets → some_event (settles p) es ≡ true → OutAlone p (after_all es v)
settled-out p [] v m s alone low e = absurd (false≢true e)
settled-out p (x ∷ es) v m s alone low e =
    let b = and_parts (moves_packet deferred_pools x.step) (only_moves deferred_pools es) m in
    ⊎_elim
    (λ (t : settles p x.step x.found ≡ true). all-keep p es (after x.step x.found v) b.1 s.1 (settled-now p v x.step x.found t alone low))
    (λ (t : some_event (settles p) es ≡ true). settled-out p es (after x.step x.found v) b.1 s.1 (alone-on v x.step x.found b.0 ∙ alone) low t)
    (or_cases (settles p x.step x.found) (some_event (settles p) es) e)

-- each packet that was settled was shown outside, or taken out
some-before : (p : ℕ) (f g : Step → ℕ → Bool) → ((step : Step) (n : ℕ) → f step n ≡ true → g step n ≡ true) → (es : List Entry) → before_got p f es ≡ true → some_event g es ≡ true
some-before p f g h [] e = absurd (false≢true e)
some-before p f g h (x ∷ es) e =
    ⊎_elim
    (λ t. or_left _ _ (h x.step x.found t))
    (λ t. or_right (g x.step x.found) _ (some-before p f g h es (and_parts (not (gets p x.step x.found)) (before_got p f es) t).1))
    (or_cases (f x.step x.found) (not (gets p x.step x.found) && before_got p f es) e)

shown-settles : (p : ℕ) (step : Step) (n : ℕ) → shows_outside deferred_pool_number p step n ≡ true → settles p step n ≡ true
shown-settles p (Look q g) n e = e
shown-settles p step n e = absurd (false≢true e)

lost-settles : (p : ℕ) (step : Step) (n : ℕ) → loses deferred_pool_number p step n ≡ true → settles p step n ≡ true
lost-settles p (Take q x) n e = (and_parts ((q == deferred_pool_number) && (x == p)) (not (has_bit n (p % word_bits))) e).0
lost-settles p step n e = absurd (false≢true e)

got-settles : (p : ℕ) (step : Step) (n : ℕ) → gets_from deferred_pool_number p step n ≡ true → settles p step n ≡ true
got-settles p (Take q x) n e = (and_parts ((q == deferred_pool_number) && (x == p)) (has_bit n (p % word_bits)) e).0
got-settles p step n e = absurd (false≢true e)

moved-settles : (p : ℕ) (es : List Entry) → was_moved p es ≡ true → some_event (settles p) es ≡ true
moved-settles p [] e = absurd (false≢true e)
moved-settles p (x ∷ es) e =
    ⊎_elim
    (λ t. or_left _ _ (got-settles p x.step x.found (and_parts (gets_from deferred_pool_number p x.step x.found) (some_event (gives_to p) es) t).0))
    (λ t. or_right (settles p x.step x.found) _ (moved-settles p es t))
    (or_cases (gets_from deferred_pool_number p x.step x.found && some_event (gives_to p) es) (was_moved p es) e)

settled-some : (p : ℕ) (es : List Entry) → is_settled p es ≡ true → some_event (settles p) es ≡ true
settled-some p es e =
    ⊎_elim
    (λ t.
    ⊎_elim
    (λ u. some-before p (shows_outside deferred_pool_number p) (settles p) (shown-settles p) es u)
    (λ u. some-before p (loses deferred_pool_number p) (settles p) (lost-settles p) es u)
    (or_cases (before_got p (shows_outside deferred_pool_number p) es) (before_got p (loses deferred_pool_number p) es) t))
    (λ t. moved-settles p es t)
    (or_cases (before_got p (shows_outside deferred_pool_number p) es || before_got p (loses deferred_pool_number p) es) (was_moved p es) e)

pub emptied : (v w : View) → Ran v w → only_moves deferred_pools (events v w) ≡ true → v.state.alone ≡ true → ((p : ℕ) → p < v.shape.packets → is_settled p (events v w) ≡ true) → (p : ℕ) → p < v.shape.packets → IsNotedOutside deferred_pool_number p w
emptied v w r m alone all p low = (subst (OutAlone p) (sym r.steps) (settled-out p (events v w) v m r.seen alone low (settled-some p (events v w) (all p low)))).2
