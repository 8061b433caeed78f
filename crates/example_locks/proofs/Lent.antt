-- What the log of a thread that visited the lock tells: each exchange of a value and each store in a field goes through a variable that refers to the root.
use Rattle.std.proofs.Common.{ℕ, ◌≡◌, ◌<◌, ◌==◌, ◌&&◌, ◌+◌, ◌∙◌, List, [], ◌∷◌, ◌++◌, ap, arith, not, refl, subst, sym, eqb-true, Bool, true, false, Option, None, Some}
use Rattle.std.specs.Prelude.{if◌then◌else◌}
use Rattle.std.proofs.lemmas.Bool.{and_from, and_parts, eq-eqb, false≢true, ne_eqb, not-true}
use Rattle.mark_core.specs.Bits.{reference_in}
use Rattle.mark_core.specs.declared.kinds.Step.{Step}
use Rattle.mark_core.specs.declared.kinds.Step.TheVariants.{ExchangeField, ExchangeValue, HoldRoot, ReadCat, StoreField, StoreNew, StoreRoot, StoreValue}
use Rattle.gc_table.specs.Entries.{event}
use Rattle.gc_table.specs.Log.{all_steps}
use Rattle.gc_table.specs.Single.{spares_values, takes_turn, takes_turns, turned, won_count}
use Rattle.gc_table.specs.declared.view.Entry.{Entry}
use Rattle.gc_table.proofs.Counted.{won_join}
use Rattle.gc_table.proofs.Lending.{all_split}
use Rattle.heap_laws.specs.Lent.{holds_lent, is_lent, lent_after, read_by}
use Rattle.heap_laws.specs.LentLocks.{IsThroughLent, makes_zero}
use Rattle.heap_laws.specs.Locks.{stores_none}
use Rattle.heap_laws.specs.Pairs.{IsStoredLent, fits_pair, fits_pairs, pending, pending_after}
use Rattle.seat_turns.specs.Sharing.{spares_heap}
use Rattle.shared_heap.specs.Rooting.{spares_fields}
use Rattle.example_locks.specs.Visits.{Visits, VisitsRoot, keeps_root}
use Rattle.example_locks.proofs.Steps.{all-join, all-more, fits_join, spared-visits, turns_join, visits-join}

-- the step goes through variable 0, if it has to, and this refers to what was lent
abbrev uses_root : Bool → Step → Bool
uses_root b (ExchangeValue v m n) = (v == 0) && b
uses_root b (StoreField v i x) = (v == 0) && b
uses_root b step = true

-- so does each of these, if variable 0 refers to what was lent as the log says
abbrev uses_lent : Option ℕ → Bool → List Entry → Bool
uses_lent r b [] = true
uses_lent r b (e ∷ es) = uses_root b e.step && uses_lent (read_by 0 r e.step e.found) (lent_after 0 r b e.step) es

uses_at : (r : Option ℕ) (b : Bool) (before after : List Entry) (e : Entry) → uses_lent r b (before ++ e ∷ after) ≡ true → uses_root (holds_lent 0 0 r b before) e.step ≡ true
uses_at r b [] after e h = (and_parts (uses_root b e.step) (uses_lent (read_by 0 r e.step e.found) (lent_after 0 r b e.step) after) h).0
uses_at r b (x ∷ before) after e h =
    let p = and_parts (uses_root b x.step) (uses_lent (read_by 0 r x.step x.found) (lent_after 0 r b x.step) (before ++ e ∷ after)) h in
    uses_at (read_by 0 r x.step x.found) (lent_after 0 r b x.step) before after e p.1

-- a step by way of variable v
by_root : (v : ℕ) (before : List Entry) → ((v == 0) && holds_lent 0 0 None false before) ≡ true → (v < 32) × (holds_lent 0 v None false before ≡ true)
by_root v before h =
    let p = and_parts (v == 0) (holds_lent 0 0 None false before) h in
    let zero : v ≡ 0 = eqb-true v 0 p.0 in
    (omega (arith, zero), subst (λ (k : ℕ). holds_lent 0 k None false before ≡ true) (sym zero) p.1)

uses_through : (log : List Entry) → uses_lent None false log ≡ true → IsThroughLent 0 log
uses_through log h before after e v m n is step =
    let at = uses_at None false before after e (subst (λ (l : List Entry). uses_lent None false l ≡ true) is h) in
    by_root v before (subst (λ (s : Step). uses_root (holds_lent 0 0 None false before) s ≡ true) step at)

uses_stored : (log : List Entry) → uses_lent None false log ≡ true → IsStoredLent 0 log
uses_stored log h before after e v i x is step =
    let at = uses_at None false before after e (subst (λ (l : List Entry). uses_lent None false l ≡ true) is h) in
    by_root v before (subst (λ (s : Step). uses_root (holds_lent 0 0 None false before) s ≡ true) step at)

-- Before the thread asked for the root.
front_step : (r : Option ℕ) (step : Step) → spares_heap step ≡ true → (uses_root false step ≡ true) × (lent_after 0 r false step ≡ false)
front_step r (StoreField v i x) e = absurd (false≢true e)
front_step r (StoreRoot v x) e = absurd (false≢true e)
front_step r (HoldRoot v x) e = absurd (false≢true e)
front_step r (ExchangeValue v m n) e = absurd (false≢true e)
front_step r step e = (refl, refl)

uses_front : (r : Option ℕ) (es rest : List Entry) → all_steps spares_heap es ≡ true → ((q : Option ℕ) → uses_lent q false rest ≡ true) → uses_lent r false (es ++ rest) ≡ true
uses_front r [] rest a h = h r
uses_front r (x ∷ xs) rest a h =
    let p = and_parts (spares_heap x.step) (all_steps spares_heap xs) a in
    let f = front_step r x.step p.0 in
    and_from (uses_root false x.step) (uses_lent (read_by 0 r x.step x.found) (lent_after 0 r false x.step) (xs ++ rest)) f.0
    (ap (λ (b : Bool). uses_lent (read_by 0 r x.step x.found) b (xs ++ rest)) f.1 ∙ uses_front (read_by 0 r x.step x.found) xs rest p.1 h)

-- After it.
back_root : (v x : ℕ) (r : Option ℕ) → not (v == 0) ≡ true → (if v == 0 then is_lent r x else true) ≡ true
back_root v x r e = ap (λ (b : Bool). if b then is_lent r x else true) (not-true (v == 0) e)

back_step : (r : Option ℕ) (step : Step) → keeps_root step ≡ true → (uses_root true step ≡ true) × (lent_after 0 r true step ≡ true)
back_step r (ExchangeValue v m n) e = (and_from (v == 0) true e refl, refl)
back_step r (StoreField v i x) e = (and_from (v == 0) true e refl, refl)
back_step r (StoreRoot v x) e = (refl, back_root v x r e)
back_step r (HoldRoot v x) e = (refl, back_root v x r e)
back_step r step e = (refl, refl)

uses_back : (r : Option ℕ) (es : List Entry) → all_steps keeps_root es ≡ true → uses_lent r true es ≡ true
uses_back r [] a = refl
uses_back r (x ∷ xs) a =
    let p = and_parts (keeps_root x.step) (all_steps keeps_root xs) a in
    let f = back_step r x.step p.0 in
    and_from (uses_root true x.step) (uses_lent (read_by 0 r x.step x.found) (lent_after 0 r true x.step) xs) f.0
    (ap (λ (b : Bool). uses_lent (read_by 0 r x.step x.found) b xs) f.1 ∙ uses_back (read_by 0 r x.step x.found) xs p.1)

-- the root is asked for, and found
lent_word : (x : ℕ) → 0 < x → is_lent (if not (x == 0) then Some x else None) x ≡ true
lent_word x some = ap (λ (b : Bool). is_lent (if not b then Some x else None) x) (ne_eqb x 0 (λ e. omega (arith, e, some))) ∙ eq-eqb x x refl

abbrev pub asking : ℕ → ℕ → List Entry → List Entry
asking word old es = event (ReadCat 0) word ∷ event (HoldRoot 0 (reference_in word)) old ∷ es

uses_asking : (q : Option ℕ) (word old : ℕ) (es : List Entry) → 0 < reference_in word → all_steps keeps_root es ≡ true → uses_lent q false (asking word old es) ≡ true
uses_asking q word old es some a = ap (λ (b : Bool). uses_lent None b es) (lent_word (reference_in word) some) ∙ uses_back None es a

-- What the whole log is like.
pub record Told (fields n : ℕ) (log : List Entry) : Type 0 where
  pub through : IsThroughLent 0 log
  pub stored : IsStoredLent 0 log
  pub turns : takes_turns false log ≡ true
  pub pairs : fits_pairs false None log ≡ true
  pub unstored : all_steps stores_none log ≡ true
  pub zeros : all_steps (makes_zero fields) log ≡ true
  pub won : won_count log ≡ n

pub told : (fields n : ℕ) (log : List Entry) → VisitsRoot fields n log → Told fields n log
told fields n log v = subst (Told fields n) (sym v.log) whole
  where
    rest : List Entry
    rest = asking v.word v.old v.visits

    uses : uses_lent None false (v.before ++ rest) ≡ true
    uses = uses_front None v.before rest v.quiet (λ q. uses_asking q v.word v.old v.visits v.some v.visited.through)

    front : Visits fields false false None None 0 v.before
    front = spared-visits fields false None v.before v.quiet

    whole : Told fields n (v.before ++ rest)
    whole =
        record {
          through = uses_through (v.before ++ rest) uses;
          stored = uses_stored (v.before ++ rest) uses;
          turns = turns_join false v.before rest front.turns (ap (λ (b : Bool). takes_turns b rest) front.inside ∙ v.visited.turns);
          pairs = fits_join false None v.before rest front.pairs (ap (λ (b : Bool). fits_pairs b (pending None v.before) rest) front.inside ∙ (ap (λ (p : Option (Option ℕ)). fits_pairs false p rest) front.waits ∙ v.visited.pairs));
          unstored = all-join stores_none v.before rest front.unstored v.visited.unstored;
          zeros = all-join (makes_zero fields) v.before rest front.zeros v.visited.zeros;
          won = let both = won_join v.before rest in let none = front.won in let some = v.visited.won in let same : won_count rest ≡ 0 + (0 + won_count v.visits) = refl in omega (arith, both, none, some, same);
        }

longer : (before : List Entry) (word old : ℕ) (es more : List Entry) → (before ++ asking word old es) ++ more ≡ before ++ asking word old (es ++ more)
longer [] word old es more = refl
longer (x ∷ before) word old es more = ap (λ (l : List Entry). x ∷ l) (longer before word old es more)

-- what no plain heap sees may follow
pub visits-more : (fields n : ℕ) (xs ys : List Entry) → VisitsRoot fields n xs → all_steps spares_heap ys ≡ true → VisitsRoot fields n (xs ++ ys)
visits-more fields n xs ys v a =
    record {
      before = v.before;
      word = v.word;
      old = v.old;
      visits = v.visits ++ ys;
      log = ap (λ (l : List Entry). l ++ ys) v.log ∙ longer v.before v.word v.old v.visits ys;
      quiet = v.quiet;
      some = v.some;
      visited = let sum : n + 0 ≡ n = omega arith in subst (λ (k : ℕ). Visits fields false false None None k (v.visits ++ ys)) sum (visits-join fields false false false None None None n 0 v.visits ys v.visited (spared-visits fields false None ys a));
    }

-- the root was asked for, and found
pub record Asks (es : List Entry) : Type 0 where
  pub before : List Entry
  pub word : ℕ
  pub old : ℕ
  pub log : es ≡ before ++ asking word old []
  pub quiet : all_steps spares_heap before ≡ true
  pub some : 0 < reference_in word

pub asks-first : (word old : ℕ) (xs ys : List Entry) → all_steps spares_heap xs ≡ true → (ys ≡ asking word old []) × (0 < reference_in word) → Asks (xs ++ ys)
asks-first word old xs ys a b = record { before = xs; word = word; old = old; log = ap (λ (l : List Entry). xs ++ l) b.0; quiet = a; some = b.1 }

pub visits-asked : (fields n : ℕ) (xs ys : List Entry) → Asks xs → Visits fields false false None None n ys → VisitsRoot fields n (xs ++ ys)
visits-asked fields n xs ys a v =
    record { before = a.before; word = a.word; old = a.old; visits = ys; log = ap (λ (l : List Entry). l ++ ys) a.log ∙ longer a.before a.word a.old [] ys; quiet = a.quiet; some = a.some; visited = v }

-- The seat of section 0, which changes no value.
zero_steps : (fields : ℕ) (step : Step) → spares_values fields step ≡ true → (stores_none step ≡ true) × (makes_zero fields step ≡ true) × ((b : Bool) → takes_turn b step ≡ true) × ((b won : Bool) → turned b step won ≡ b)
zero_steps fields (ExchangeValue v m n) e = absurd (false≢true e)
zero_steps fields (StoreValue v n) e = absurd (false≢true e)
zero_steps fields (StoreNew c part word) e = (refl, e, (λ b. refl), (λ b won. refl))
zero_steps fields step e = (refl, refl, (λ b. refl), (λ b won. refl))

pub zero-turns : (fields : ℕ) (b : Bool) (es : List Entry) → all_steps (spares_values fields) es ≡ true → takes_turns b es ≡ true
zero-turns fields b [] a = refl
zero-turns fields b (x ∷ xs) a =
    let p = and_parts (spares_values fields x.step) (all_steps (spares_values fields) xs) a in
    let s = zero_steps fields x.step p.0 in
    and_from (takes_turn b x.step) (takes_turns (turned b x.step x.won) xs) (s.2 b) (ap (λ (d : Bool). takes_turns d xs) (s.3 b x.won) ∙ zero-turns fields b xs p.1)

pub zero-stores : (fields : ℕ) (es : List Entry) → all_steps (spares_values fields) es ≡ true → all_steps stores_none es ≡ true
zero-stores fields es a = all-more (spares_values fields) stores_none (λ step e. (zero_steps fields step e).0) es a

pub zero-zeros : (fields : ℕ) (es : List Entry) → all_steps (spares_values fields) es ≡ true → all_steps (makes_zero fields) es ≡ true
zero-zeros fields es a = all-more (spares_values fields) (makes_zero fields) (λ step e. (zero_steps fields step e).1) es a

-- one of these events
one_of : (P : Step → Bool) (log before after : List Entry) (e : Entry) → all_steps P log ≡ true → log ≡ before ++ e ∷ after → P e.step ≡ true
one_of P log before after e a is = (and_parts (P e.step) (all_steps P after) (all_split P before (e ∷ after) (subst (λ (l : List Entry). all_steps P l ≡ true) is a)).1).0

pub zero-through : (fields : ℕ) (log : List Entry) → all_steps (spares_values fields) log ≡ true → IsThroughLent 0 log
zero-through fields log a before after e v m n is step = absurd (false≢true (subst (λ (s : Step). spares_values fields s ≡ true) step (one_of (spares_values fields) log before after e a is)))

pub zero-stored : (log : List Entry) → all_steps spares_fields log ≡ true → IsStoredLent 0 log
zero-stored log a before after e v i x is step = absurd (false≢true (subst (λ (s : Step). spares_fields s ≡ true) step (one_of spares_fields log before after e a is)))

zero_fit : (fields : ℕ) (b : Bool) (step : Step) → spares_values fields step ≡ true → spares_fields step ≡ true → (fits_pair b None step ≡ true) × (pending_after None step ≡ None)
zero_fit fields b (StoreField v i x) a e = absurd (false≢true e)
zero_fit fields b (ExchangeField v i x y) a e = absurd (false≢true e)
zero_fit fields b step a e = (refl, refl)

pub zero-pairs : (fields : ℕ) (b : Bool) (es : List Entry) → all_steps (spares_values fields) es ≡ true → all_steps spares_fields es ≡ true → fits_pairs b None es ≡ true
zero-pairs fields b [] a e = refl
zero-pairs fields b (x ∷ xs) a e =
    let p = and_parts (spares_values fields x.step) (all_steps (spares_values fields) xs) a in
    let q = and_parts (spares_fields x.step) (all_steps spares_fields xs) e in
    let f = zero_fit fields b x.step p.0 q.0 in
    and_from (fits_pair b None x.step) (fits_pairs (turned b x.step x.won) (pending_after None x.step) xs) f.0
    (ap (λ (d : Bool). fits_pairs d (pending_after None x.step) xs) ((zero_steps fields x.step p.0).3 b x.won) ∙ (ap (λ (d : Option (Option ℕ)). fits_pairs b d xs) f.1 ∙ zero-pairs fields b xs p.1 q.1))

-- The log of a seat that did nothing.
no_part : (before after : List Entry) (e : Entry) → [] ≡ before ++ e ∷ after → ⊥
no_part [] after e is = cc
no_part (x ∷ before) after e is = cc

pub none-told : (fields : ℕ) → Told fields 0 []
none-told fields =
    record {
      through = λ before after e v m n is step. absurd (no_part before after e is);
      stored = λ before after e v i x is step. absurd (no_part before after e is);
      turns = refl;
      pairs = refl;
      unstored = refl;
      zeros = refl;
      won = refl;
    }
