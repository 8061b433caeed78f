-- A pass over the cards by a seat that is alone, in which no card was dirtied: either it finds each card clean, or a dirty card fewer is left.
use Rattle.std.proofs.Common.{ℕ, zero, suc, ◌≡◌, ◌+◌, ◌-◌, ◌<◌, ◌≤◌, List, [], ◌∷◌, ◌++◌, map, arith, refl, sym, ap, ◌∙◌, subst, Bool, true, false, eqb-true, eq-eqb, Some, ⊎_elim}
use Rattle.std.specs.Prelude.{◌==◌, ◌&&◌}
use Rattle.std.specs.List.{range_with_len, sum_by}
use Rattle.std.proofs.lemmas.Bool.{and_from, and_parts, cases_eq, false≢true, or_cases, or_left, or_right}
use Rattle.mark_core.specs.Effects.{seat_after}
use Rattle.mark_core.specs.Layout.{card_count}
use Rattle.mark_core.specs.Places.{card_at}
use Rattle.mark_core.specs.declared.kinds.Shape.{Shape}
use Rattle.mark_core.specs.declared.kinds.Step.{Step}
use Rattle.mark_core.specs.declared.kinds.Step.TheVariants.{ClearCard, DirtyCard, ReadCard}
use Rattle.mark_core.proofs.Count.CountMoves.{bit}
use Rattle.gc_table.specs.Log.{all_steps, event}
use Rattle.gc_table.specs.Notes.{look}
use Rattle.gc_table.specs.Running.{AllSeen, after_all}
use Rattle.gc_table.specs.Taking.{after}
use Rattle.gc_table.specs.declared.view.Entry.{Entry}
use Rattle.gc_table.specs.declared.view.View.{View}
use Rattle.gc_table.proofs.Noticing.{alone-steady, known-here, some-is}
use Rattle.gc_table.proofs.Running.{after-join}
use Rattle.packet_pools.specs.Counts.{count_of, dirties}
use Rattle.packet_pools.specs.Seeking.{some_event}
use Rattle.packet_pools.proofs.Counting.{count-join}
use Rattle.packet_pools.proofs.TracedSteps.{place-again}
use Rattle.card_clean.specs.DirtyCards.{CleanedFrom, CleanedWhereDirty}
use Rattle.card_clean.specs.Looking.{KeepsAllNotes, looks_clean, looks_dirty}
use Rattle.card_clean.specs.Taking.{CleansWithPacket}
use Rattle.card_clean.proofs.CardLooks.{keeps-join, look-keeps}
use Rattle.gc_cycle.specs.LeftToDrain.{cards_left, dirty_left}
use Rattle.gc_cycle.specs.Lower.{traces_or_cleans}
use Rattle.gc_cycle.proofs.Ends.Funds.{sum-at}
use Rattle.gc_cycle.proofs.Ends.Whitens.{IsClean, IsLone, card-step, dirties_this, dirty-most, stays-lone, unless-dirty, unless-none}

-- the steps of two calls
seen-split : (es fs : List Entry) (v : View) → AllSeen (es ++ fs) v → AllSeen es v × AllSeen fs (after_all es v)
seen-split [] fs v s = (tt, s)
seen-split (e ∷ es) fs v s = let r = seen-split es fs (after e.step e.found v) s.1 in ((s.0, r.0), r.1)

steps-split : (es fs : List Entry) → all_steps traces_or_cleans (es ++ fs) ≡ true → (all_steps traces_or_cleans es ≡ true) × (all_steps traces_or_cleans fs ≡ true)
steps-split [] fs o = (refl, o)
steps-split (e ∷ es) fs o = let p = and_parts (traces_or_cleans e.step) (all_steps traces_or_cleans (es ++ fs)) o in let r = steps-split es fs p.1 in (and_from _ _ p.0 r.0, r.1)

-- these events, from a seat that is alone, dirtied no card
pub record Passes (es : List Entry) (v : View) : Type 0 where
  pub steps : all_steps traces_or_cleans es ≡ true
  pub seen : AllSeen es v
  pub lone : IsLone v
  pub none : count_of dirties es ≡ 0

later : (e : Entry) (es : List Entry) (v : View) → Passes (e ∷ es) v → Passes es (after e.step e.found v)
later e es v p =
    let o = and_parts (traces_or_cleans e.step) (all_steps traces_or_cleans es) p.steps in
    record { steps = o.1; seen = p.seen.1; lone = stays-lone v e.step e.found o.0 p.lone; none = omega (arith, p.none) }

undirtied : (step : Step) (found card : ℕ) → bit (dirties step found) ≡ 0 → dirties_this step card ≡ false
undirtied (DirtyCard k) found card e = absurd (omega (arith, e))
undirtied step found card e = refl

pub clean-stays : (es : List Entry) (v : View) (card : ℕ) → Passes es v → IsClean v card → IsClean (after_all es v) card
clean-stays [] v card p c = c
clean-stays (e ∷ es) v card p c =
    let o = and_parts (traces_or_cleans e.step) (all_steps traces_or_cleans es) p.steps in
    clean-stays es (after e.step e.found v) card (later e es v p) (card-step v e.step e.found o.0 p.seen.0 p.lone card (undirtied e.step e.found card (omega (arith, p.none))) c)

-- the card is seen clean, or cleared
abbrev pub finds_clean : ℕ → Step → ℕ → Bool
finds_clean card (ReadCard k) found = (k == card) && (found == 0)
finds_clean card (ClearCard k) found = k == card
finds_clean card step found = false

leaves-clean : (v : View) (step : Step) (n card : ℕ) → IsLone v → finds_clean card step n ≡ true → IsClean (after step n v) card
leaves-clean v (ReadCard k) n card a e =
    let p = and_parts (k == card) (n == 0) e in
    subst (λ j. IsClean (after (ReadCard k) n v) j) (eqb-true k card p.0)
    ((known-here v (ReadCard k) n (card_at k) (place-again (card_at k)) (alone-steady (seat_after v.shape v.state (ReadCard k) n) (card_at k) n refl (stays-lone v (ReadCard k) n refl a))).0 ∙ ap Some (eqb-true n 0 p.1))
leaves-clean v (ClearCard k) n card a e =
    subst (λ j. IsClean (after (ClearCard k) n v) j) (eqb-true k card e)
    (known-here v (ClearCard k) n (card_at k) (place-again (card_at k)) (alone-steady (seat_after v.shape v.state (ClearCard k) n) (card_at k) 0 refl (stays-lone v (ClearCard k) n refl a))).0
leaves-clean v step n card a e = absurd (false≢true e)

pub ends-clean : (es : List Entry) (v : View) (card : ℕ) → Passes es v → some_event (finds_clean card) es ≡ true → IsClean (after_all es v) card
ends-clean [] v card p e = absurd (false≢true e)
ends-clean (x ∷ es) v card p e =
    ⊎_elim
    (λ (here : finds_clean card x.step x.found ≡ true). clean-stays es (after x.step x.found v) card (later x es v p) (leaves-clean v x.step x.found card p.lone here))
    (λ (rest : some_event (finds_clean card) es ≡ true). ends-clean es (after x.step x.found v) card (later x es v p) rest)
    (or_cases (finds_clean card x.step x.found) (some_event (finds_clean card) es) e)

some-left : (f : Step → ℕ → Bool) (xs ys : List Entry) → some_event f xs ≡ true → some_event f (xs ++ ys) ≡ true
some-left f [] ys e = absurd (false≢true e)
some-left f (x ∷ xs) ys e =
    ⊎_elim
    (λ (a : f x.step x.found ≡ true). or_left (f x.step x.found) (some_event f (xs ++ ys)) a)
    (λ (b : some_event f xs ≡ true). or_right (f x.step x.found) (some_event f (xs ++ ys)) (some-left f xs ys b))
    (or_cases (f x.step x.found) (some_event f xs) e)

some-right : (f : Step → ℕ → Bool) (xs ys : List Entry) → some_event f ys ≡ true → some_event f (xs ++ ys) ≡ true
some-right f [] ys e = e
some-right f (x ∷ xs) ys e = or_right (f x.step x.found) (some_event f (xs ++ ys)) (some-right f xs ys e)

one-clean : (sh : Shape) (card n : ℕ) (es : List Entry) → CleanedWhereDirty sh card n es → some_event (finds_clean card) es ≡ true
one-clean sh card n es k =
    ⊎_elim
    (λ a. subst (λ z. some_event (finds_clean card) z ≡ true) (sym a.1) (or_left ((card == card) && true) false (and_from (card == card) true (eq-eqb card card refl) refl)))
    (λ b.
    subst (λ z. some_event (finds_clean card) z ≡ true) (sym b.2)
    (or_right ((card == card) && false) (some_event (finds_clean card) k.cleaning)
    (⊎_elim
    (λ f. subst (λ z. some_event (finds_clean card) z ≡ true) (sym f.events_are) (or_left (card == card) false (eq-eqb card card refl)))
    (λ f. subst (λ z. some_event (finds_clean card) z ≡ true) (sym f.1) (or_left (card == card) (some_event (finds_clean card) f.0) (eq-eqb card card refl)))
    b.3)))
    k.told

first-clean : (sh : Shape) (from m n : ℕ) (es : List Entry) → CleanedFrom sh from (suc m) n es → some_event (finds_clean from) es ≡ true
first-clean sh from zero n es k =
    let at : from + 0 ≡ from = omega arith in
    let here : some_event (finds_clean from) k.3 ≡ true = subst (λ z. some_event (finds_clean z) k.3 ≡ true) at (one-clean sh (from + 0) k.1 k.3 k.7) in
    subst (λ z. some_event (finds_clean from) z ≡ true) (sym k.4) (some-right (finds_clean from) k.2 k.3 here)
first-clean sh from (suc m) n es k = subst (λ z. some_event (finds_clean from) z ≡ true) (sym k.4) (some-left (finds_clean from) k.2 k.3 (first-clean sh from m k.0 k.2 k.6))

lone-all : (es : List Entry) (v : View) → Passes es v → IsLone (after_all es v)
lone-all [] v q = q.lone
lone-all (e ∷ es) v q = lone-all es (after e.step e.found v) (later e es v q)

-- the last look found it dirty
pub seen-dirty : (from k : ℕ) (v : View) → Passes (looks_dirty from k) v → look (card_at k) (after_all (looks_dirty from k) v).known ≡ Some 1
seen-dirty from k v q =
    let before : List Entry = looks_clean from k in
    let w : View = after_all before v in
    let steps = steps-split before (event (ReadCard k) 1 ∷ []) q.steps in
    let seen = seen-split before (event (ReadCard k) 1 ∷ []) v q.seen in
    let lone : IsLone w = lone-all before v (record { steps = steps.0; seen = seen.0; lone = q.lone; none = let j = count-join dirties before (event (ReadCard k) 1 ∷ []) in omega (arith, j, q.none) }) in
    ap (λ (u : View). look (card_at k) u.known) (after-join before (event (ReadCard k) 1 ∷ []) v)
    ∙ (known-here w (ReadCard k) 1 (card_at k) (place-again (card_at k)) (alone-steady (seat_after w.shape w.state (ReadCard k) 1) (card_at k) 1 refl (stays-lone w (ReadCard k) 1 refl lone))).0

-- the first of the cards was cleaned, or seen clean
pub first-cleaned : (sh : Shape) (from m n : ℕ) (es : List Entry) → 0 < m → CleansWithPacket sh (CleanedFrom sh from m n) es → some_event (finds_clean from) es ≡ true
first-cleaned sh from m n es some k =
    let m' : suc (m - 1) ≡ m = omega (arith, some) in
    let cleaned : some_event (finds_clean from) k.cleaning ≡ true = first-clean sh from (m - 1) n k.cleaning (subst (λ j. CleanedFrom sh from j n k.cleaning) (sym m') k.cleans) in
    subst (λ w. some_event (finds_clean from) w ≡ true) (sym k.events_are) (some-right (finds_clean from) k.taking (k.cleaning ++ k.giving) (some-left (finds_clean from) k.cleaning k.giving cleaned))

-- a dirty card was found, and each from it on was cleaned: one fewer is left
pub fewer-cards : (sh : Shape) (card n : ℕ) (rest : List Entry) (x y : View) → card < card_count sh → card < card_count x.shape → Passes (looks_dirty 0 card ++ rest) x → y ≡ after_all (looks_dirty 0 card ++ rest) x → y.shape ≡ x.shape → CleansWithPacket sh (CleanedFrom sh card (card_count sh - card) n) rest
    → cards_left y + 1 ≤ cards_left x
fewer-cards sh card n rest x y below there p is shape k =
    let first : List Entry = looks_dirty 0 card in
    let z : View = after_all first x in
    let seen = seen-split first rest x p.seen in
    let steps = steps-split first rest p.steps in
    let none = count-join dirties first rest in
    let one : Passes first x = record { steps = steps.0; seen = seen.0; lone = p.lone; none = omega (arith, none, p.none) } in
    let lone : IsLone z = lone-all first x one in
    let two : Passes rest z = record { steps = steps.1; seen = seen.1; lone = lone; none = omega (arith, none, p.none) } in
    let end : y ≡ after_all rest z = is ∙ after-join first rest x in
    let within : some_event (finds_clean card) rest ≡ true = first-cleaned sh card (card_count sh - card) n rest (omega (arith, below)) k in
    let clean : IsClean y card = subst (λ (w : View). IsClean w card) (sym end) (ends-clean rest z card two within) in
    let gone : dirty_left y card ≡ 0 = unless-none (look (card_at card) y.known) clean in
    let dirty : look (card_at card) z.known ≡ Some 1 = seen-dirty 0 card x one in
    let was : dirty_left z card ≡ 1 = unless-dirty (look (card_at card) z.known) 1 refl (λ j e. some-is 1 j (sym dirty ∙ e)) in
    let less = dirty-most x z card (clean-stays first x card one) in
    let all : (c : ℕ) → dirty_left y c ≤ dirty_left x c = λ c. dirty-most x y c (λ e. subst (λ (w : View). IsClean w c) (sym end) (clean-stays rest z c two (clean-stays first x c one e))) in
    let sum = sum-at (dirty_left x) (dirty_left y) card 1 0 0 (card_count x.shape) (omega arith) (omega (arith, there)) (omega (arith, gone, was, less)) (λ c d. all c) in
    let same : cards_left y ≡ sum_by (dirty_left y) (range_with_len 0 (card_count x.shape)) = ap (λ (s : Shape). sum_by (dirty_left y) (range_with_len 0 (card_count s))) shape in
    omega (arith, sum, same)

-- each card was seen clean: nothing else is noted anew
pub all-clean : (from n : ℕ) (v : View) → IsLone v → AllSeen (map (λ k. event (ReadCard k) 0) (range_with_len from n)) v
    → KeepsAllNotes v (after_all (map (λ k. event (ReadCard k) 0) (range_with_len from n)) v) × ((card : ℕ) → from ≤ card → card < from + n → IsClean (after_all (map (λ k. event (ReadCard k) 0) (range_with_len from n)) v) card)
all-clean from zero v a s = (λ at m h. h, λ card l h. absurd (omega (arith, l, h)))
all-clean from (suc n) v a s =
    let w : View = after (ReadCard from) 0 v in
    let rest = all-clean (from + 1) n w a s.1 in
    let keeps = look-keeps v (ReadCard from) 0 refl refl (s.0.found refl) in
    let here : IsClean w from = (known-here v (ReadCard from) 0 (card_at from) (place-again (card_at from)) (alone-steady (seat_after v.shape v.state (ReadCard from) 0) (card_at from) 0 refl a)).0 in (
      keeps-join v w (after_all (map (λ k. event (ReadCard k) 0) (range_with_len (from + 1) n)) w) keeps rest.0,
      λ card l h.
          ⊎_elim
          (λ (e : from ≡ card). subst (λ c. IsClean (after_all (map (λ k. event (ReadCard k) 0) (range_with_len (from + 1) n)) w) c) e (rest.0 (card_at from) 0 here))
          (λ (d : from ≡ card → ⊥). rest.1 card (omega (arith, l, d)) (omega (arith, h)))
          (cases_eq from card),
    )
