-- What a log tells after more entries: of the words of variables, of what they have that was read, and of a node that was made.
use Rattle.std.proofs.Common.{ℕ, ◌≡◌, ◌≢◌, ◌+◌, ◌<◌, ◌==◌, ◌&&◌, ◌∙◌, List, [], ◌∷◌, ◌++◌, append_assoc, append-nil, ap, arith, eqb-true, get_or, length, not, refl, set, subst, sym, Bool, true, false, None, Some, leb-true}
use Rattle.std.specs.Prelude.{if◌then◌else◌, nat_le}
use Rattle.std.proofs.lemmas.Bool.{and_from, and_parts, eq-eqb, eqb-false, false≢true, ne_eqb}
use Rattle.std.proofs.lemmas.List.{get_or-set_other, get_or-set_same}
use Rattle.mark_core.specs.Bits.{reference_in}
use Rattle.mark_core.specs.Numbers.{section_variables}
use Rattle.mark_core.specs.declared.kinds.Step.{Step}
use Rattle.mark_core.specs.declared.kinds.Step.TheVariants.{ExchangeField, ExchangeValue, ReadOwn, StoreField, StoreNew, StoreRoot, StoreValue, HoldRoot}
use Rattle.mark_core.specs.declared.seat.SeatState.{SeatState}
use Rattle.gc_table.specs.Lending.{leaves_variable}
use Rattle.gc_table.specs.Log.{all_steps, steps_of}
use Rattle.gc_table.specs.declared.view.Entry.{Entry}
use Rattle.heap_laws.specs.Lent.{is_lent}
use Rattle.queue_laws.specs.Making.{Making, making_after, makings}
use Rattle.queue_laws.specs.QueueLogs.{Hands, fits, is_linked}
use Rattle.queue_laws.specs.Reads.{Reading, assigned, reading_after, readings}
use Rattle.example_structures.specs.Fitting.{fit_all}
use Rattle.example_structures.proofs.Changed.{by-other, spares_objects}

-- a step that doesn't assign a variable keeps its word
word_after : (v u f : ℕ) (known : Reading) (step : Step) (n : ℕ) → leaves_variable v step ≡ true → (reading_after v u f known step n).word ≡ known.word
word_after v u f known (StoreRoot x r) n e = by-other (x == v) (reference_in r) known.word e
word_after v u f known (HoldRoot x r) n e = by-other (x == v) (reference_in r) known.word e
word_after v u f known step n e = refl

pub word-kept : (v u f : ℕ) (known : Reading) (es : List Entry) → all_steps (leaves_variable v) es ≡ true → (readings v u f known es).word ≡ known.word
word-kept v u f known [] a = refl
word-kept v u f known (e ∷ es) a =
    let p = and_parts (leaves_variable v e.step) (all_steps (leaves_variable v) es) a in word-kept v u f (reading_after v u f known e.step e.found) es p.1 ∙ word_after v u f known e.step e.found p.0

-- a step that assigns neither variable keeps what one has of the other
held_other : (a b c d : Bool) → not a ≡ true → not b ≡ true → (if a then false else if b then c else d) ≡ d
held_other true b c d e g = absurd (false≢true e)
held_other false true c d e g = absurd (false≢true g)
held_other false false c d e g = refl

held_after : (v u f : ℕ) (known : Reading) (step : Step) (n : ℕ) → leaves_variable v step ≡ true → leaves_variable u step ≡ true → (reading_after v u f known step n).held ≡ known.held
held_after v u f known (StoreRoot x r) n e g = held_other (x == v) (x == u) (is_lent known.loaded r) known.held e g
held_after v u f known (HoldRoot x r) n e g = held_other (x == v) (x == u) (is_lent known.loaded r) known.held e g
held_after v u f known step n e g = refl

pub held-kept : (v u f : ℕ) (known : Reading) (es : List Entry) → all_steps (leaves_variable v) es ≡ true → all_steps (leaves_variable u) es ≡ true → (readings v u f known es).held ≡ known.held
held-kept v u f known [] a c = refl
held-kept v u f known (e ∷ es) a c =
    let p = and_parts (leaves_variable v e.step) (all_steps (leaves_variable v) es) a in
    let q = and_parts (leaves_variable u e.step) (all_steps (leaves_variable u) es) c in
    held-kept v u f (reading_after v u f known e.step e.found) es p.1 q.1 ∙ held_after v u f known e.step e.found p.0 q.0

-- a step that doesn't assign a variable, and exchanges no reference, keeps a node that was made
abbrev pub keeps_made : ℕ → Step → Bool
keeps_made o (ExchangeField v f x y) = false
keeps_made o (StoreRoot x r) = not (x == o)
keeps_made o (HoldRoot x r) = not (x == o)
keeps_made o step = true

kept_other : (a b c : Bool) → not a ≡ true → (if a then b else c) ≡ c
kept_other true b c e = absurd (false≢true e)
kept_other false b c e = refl

made_after : (fields o : ℕ) (known : Making) (step : Step) (n : ℕ) → keeps_made o step ≡ true → (making_after fields o known step n).fresh ≡ known.fresh
made_after fields o known (ExchangeField v f x y) n e = absurd (false≢true e)
made_after fields o known (StoreRoot x r) n e = kept_other (x == o) (is_lent known.newest r) known.fresh e
made_after fields o known (HoldRoot x r) n e = kept_other (x == o) (is_lent known.newest r) known.fresh e
made_after fields o known step n e = refl

pub made-kept : (fields o : ℕ) (known : Making) (es : List Entry) → all_steps (keeps_made o) es ≡ true → (makings fields o known es).fresh ≡ known.fresh
made-kept fields o known [] a = refl
made-kept fields o known (e ∷ es) a =
    let p = and_parts (keeps_made o e.step) (all_steps (keeps_made o) es) a in made-kept fields o (making_after fields o known e.step e.found) es p.1 ∙ made_after fields o known e.step e.found p.0

-- what a seat put in stays so while neither variable is assigned
pub linked-kept : (h : Hands) (es : List Entry) → all_steps (leaves_variable h.tail) es ≡ true → all_steps (leaves_variable h.own) es ≡ true → is_linked h true es ≡ true
linked-kept h [] a c = refl
linked-kept h (e ∷ es) a c =
    let p = and_parts (leaves_variable h.tail e.step) (all_steps (leaves_variable h.tail) es) a in
    let q = and_parts (leaves_variable h.own e.step) (all_steps (leaves_variable h.own) es) c in
    ap (λ (b : Bool). is_linked h (b && (leaves_variable h.own e.step && true)) es) p.0 ∙ (ap (λ (b : Bool). is_linked h (b && true) es) q.0 ∙ linked-kept h es p.1 q.1)

-- one log after another fits, if both do
pub fit-join : (fields : ℕ) (s : SeatState) (h : Hands) (before xs ys : List Entry) → fit_all fields s h before xs ≡ true → fit_all fields s h (before ++ xs) ys ≡ true → fit_all fields s h before (xs ++ ys) ≡ true
fit-join fields s h before [] ys a c = subst (λ (l : List Entry). fit_all fields s h l ys ≡ true) (append-nil before) c
fit-join fields s h before (x ∷ xs) ys a c =
    let p = and_parts (fits fields s h before x.step) (fit_all fields s h (before ++ x ∷ []) xs) a in
    and_from (fits fields s h before x.step) (fit_all fields s h (before ++ x ∷ []) (xs ++ ys)) p.0
    (fit-join fields s h (before ++ x ∷ []) xs ys p.1 (subst (λ (l : List Entry). fit_all fields s h l ys ≡ true) (sym (append_assoc before (x ∷ []) xs)) c))

-- steps that change no object fit
fit_spared : (fields : ℕ) (s : SeatState) (h : Hands) (before : List Entry) (step : Step) → spares_objects step ≡ true → fits fields s h before step ≡ true
fit_spared fields s h before (StoreField v i w) e = absurd (false≢true e)
fit_spared fields s h before (StoreValue v m) e = absurd (false≢true e)
fit_spared fields s h before (ExchangeField v i x y) e = absurd (false≢true e)
fit_spared fields s h before (ExchangeValue v m k) e = absurd (false≢true e)
fit_spared fields s h before step e = refl

pub fit-spared : (fields : ℕ) (s : SeatState) (h : Hands) (before es : List Entry) → all_steps spares_objects es ≡ true → fit_all fields s h before es ≡ true
fit-spared fields s h before [] a = refl
fit-spared fields s h before (e ∷ es) a =
    let p = and_parts (spares_objects e.step) (all_steps spares_objects es) a in and_from (fits fields s h before e.step) (fit_all fields s h (before ++ e ∷ []) es) (fit_spared fields s h before e.step p.0) (fit-spared fields s h (before ++ e ∷ []) es p.1)

-- each entry of a log that fits does, given the log before it
pub fit-each : (fields : ℕ) (s : SeatState) (h : Hands) (first before after : List Entry) (x : Entry) → fit_all fields s h first (before ++ x ∷ after) ≡ true → fits fields s h (first ++ before) x.step ≡ true
fit-each fields s h first [] after x a = subst (λ (l : List Entry). fits fields s h l x.step ≡ true) (sym (append-nil first)) (and_parts (fits fields s h first x.step) (fit_all fields s h (first ++ x ∷ []) after) a).0
fit-each fields s h first (e ∷ before) after x a =
    subst (λ (l : List Entry). fits fields s h l x.step ≡ true) (append_assoc first (e ∷ []) before)
    (fit-each fields s h (first ++ e ∷ []) before after x (and_parts (fits fields s h first e.step) (fit_all fields s h (first ++ e ∷ []) (before ++ x ∷ after)) a).1)

-- the word that was assigned last
pub word-assigned : (v u f r : ℕ) (known : Reading) (ss : List Step) (es : List Entry) → steps_of es ≡ ss ++ HoldRoot v r ∷ [] → (readings v u f known es).word ≡ reference_in r
word-assigned v u f r known [] [] e = absurd (cc)
word-assigned v u f r known (s ∷ ss) [] e = absurd (cc)
word-assigned v u f r known [] (x ∷ []) e =
    let here : x.step ≡ HoldRoot v r = cc in
    ap (λ (s : Step). (reading_after v u f known s x.found).word) here ∙ ap (λ (b : Bool). if b then reference_in r else known.word) (eq-eqb v v refl)
word-assigned v u f r known [] (x ∷ y ∷ es) e = absurd (cc)
word-assigned v u f r known (s ∷ ss) (x ∷ es) e = word-assigned v u f r (reading_after v u f known x.step x.found) ss es cc

pub past_fields : (fields : ℕ) → nat_le (fields + 1) fields ≡ false
past_fields fields = not_past (nat_le (fields + 1) fields) refl
  where
    not_past : (b : Bool) → nat_le (fields + 1) fields ≡ b → b ≡ false
    not_past true e = let past = leb-true (fields + 1) fields e in absurd (omega (arith, past))
    not_past false e = refl

-- a node that was made last, and assigned
pub made-assigned : (fields o c n id : ℕ) (known : Making) (ss : List Step) (es : List Entry) → steps_of es ≡ ss ++ StoreNew c fields n ∷ StoreNew c (fields + 1) id ∷ HoldRoot o (c + 1) ∷ [] → (makings fields o known es).fresh ≡ true
made-assigned fields o c n id known [] (x ∷ y ∷ z ∷ []) e =
    let first : x.step ≡ StoreNew c fields n = cc in
    let second : y.step ≡ StoreNew c (fields + 1) id = cc in
    let third : z.step ≡ HoldRoot o (c + 1) = cc in
    ap (λ (s : Step). (making_after fields o (making_after fields o (making_after fields o known x.step x.found) y.step y.found) s z.found).fresh) third
    ∙ (ap (λ (s : Step). (making_after fields o (making_after fields o (making_after fields o known x.step x.found) s y.found) (HoldRoot o (c + 1)) z.found).fresh) second
    ∙ (ap (λ (b : Bool). if b then is_lent (if nat_le (fields + 1) fields then None else Some (c + 1)) (c + 1) else (making_after fields o known x.step x.found).fresh) (eq-eqb o o refl)
    ∙ (ap (λ (b : Bool). is_lent (if b then None else Some (c + 1)) (c + 1)) (past_fields fields) ∙ eq-eqb (c + 1) (c + 1) refl)))
made-assigned fields o c n id known [] [] e = absurd (cc)
made-assigned fields o c n id known [] (x ∷ []) e = absurd (cc)
made-assigned fields o c n id known [] (x ∷ y ∷ []) e = absurd (cc)
made-assigned fields o c n id known [] (x ∷ y ∷ z ∷ t ∷ es) e = absurd (cc)
made-assigned fields o c n id known (s ∷ ss) [] e = absurd (cc)
made-assigned fields o c n id known (s ∷ ss) (x ∷ es) e = made-assigned fields o c n id (making_after fields o known x.step x.found) ss es cc

-- a variable of a record in which one was assigned
pub variable-set : (env : List ℕ) (w v r word : ℕ) → length env ≡ section_variables → v < section_variables → word ≡ get_or env v 0 → (if w == v then r else word) ≡ get_or (set env w r) v 0
variable-set env w v r word long below is = by_cases (w == v) refl
  where
    by_cases : (b : Bool) → (w == v) ≡ b → (if b then r else word) ≡ get_or (set env w r) v 0
    by_cases true e = let same : w ≡ v = eqb-true w v e in subst (λ (k : ℕ). r ≡ get_or (set env k r) v 0) (sym same) (sym (get_or-set_same env v r 0 (omega (arith, long, below))))
    by_cases false e = is ∙ sym (get_or-set_other env w v r 0 (λ z. eqb-false w v e (sym z)))

-- what was read in a field, if it isn't nil, is had by the variable that is assigned then
pub read-held : (v u f c found : ℕ) (known : Reading) → v ≢ u → known.word ≡ c + 1 → 0 < found → reference_in found ≡ found → (assigned v u (reading_after v u f known (ReadOwn c f) found) u (reference_in found)).held ≡ true
read-held v u f c found known differ word some whole =
    ap (λ (b : Bool). if b then false else if u == u then is_lent (reading_after v u f known (ReadOwn c f) found).loaded (reference_in found) else known.held) (ne_eqb u v (λ e. differ (sym e)))
    ∙ (ap (λ (b : Bool). if b then is_lent (reading_after v u f known (ReadOwn c f) found).loaded (reference_in found) else known.held) (eq-eqb u u refl)
    ∙ (ap (λ (b : Bool). is_lent (if b && ((f == f) && not (found == 0)) then Some found else None) (reference_in found)) (ap (λ (n : ℕ). n == c + 1) word ∙ eq-eqb (c + 1) (c + 1) refl)
    ∙ (ap (λ (b : Bool). is_lent (if b && not (found == 0) then Some found else None) (reference_in found)) (eq-eqb f f refl)
    ∙ (ap (λ (b : Bool). is_lent (if not b then Some found else None) (reference_in found)) (ne_eqb found 0 (λ e. omega (arith, e, some))) ∙ eq-eqb found (reference_in found) (sym whole)))))
