-- Events of a thread that visits the lock, and how what it did joins what it does next.
use Rattle.std.proofs.Common.{ℕ, ◌≡◌, ◌+◌, ◌==◌, ◌&&◌, ◌∙◌, List, [], ◌∷◌, ◌++◌, ap, arith, not, refl, subst, sym, Bool, true, false, Option, None, Some}
use Rattle.std.specs.Prelude.{if◌then◌else◌}
use Rattle.std.proofs.lemmas.Bool.{and_from, and_parts, eq-eqb, false≢true}
use Rattle.mark_core.specs.declared.kinds.Step.{Step}
use Rattle.mark_core.specs.declared.kinds.Step.TheVariants.{ExchangeField, ExchangeValue, HoldRoot, StoreField, StoreNew, StoreRoot, StoreSlot, StoreValue}
use Rattle.gc_table.specs.Entries.{event}
use Rattle.gc_table.specs.Log.{all_steps, steps_of}
use Rattle.gc_table.specs.Single.{exchanges_value, is_inside, takes_turn, takes_turns, turned}
use Rattle.gc_table.specs.declared.view.Entry.{Entry}
use Rattle.gc_table.proofs.Counted.{won_join}
use Rattle.gc_table.proofs.Locked.{inside_join}
use Rattle.heap_laws.specs.LentLocks.{makes_zero}
use Rattle.heap_laws.specs.Locks.{stores_none}
use Rattle.heap_laws.specs.Pairs.{fits_pair, fits_pairs, pending, pending_after}
use Rattle.heap_laws.proofs.PairLogs.{pending_join}
use Rattle.seat_turns.specs.Sharing.{spares_heap}
use Rattle.example_locks.specs.Visits.{Spares, Visits, keeps_root, spares_root}

-- One thing after the other.
pub all-join : (P : Step → Bool) (xs ys : List Entry) → all_steps P xs ≡ true → all_steps P ys ≡ true → all_steps P (xs ++ ys) ≡ true
all-join P [] ys a b = b
all-join P (x ∷ xs) ys a b = let p = and_parts (P x.step) (all_steps P xs) a in and_from (P x.step) (all_steps P (xs ++ ys)) p.0 (all-join P xs ys p.1 b)

pub all-more : (P Q : Step → Bool) → ((step : Step) → P step ≡ true → Q step ≡ true) → (xs : List Entry) → all_steps P xs ≡ true → all_steps Q xs ≡ true
all-more P Q h [] a = refl
all-more P Q h (x ∷ xs) a = let p = and_parts (P x.step) (all_steps P xs) a in and_from (Q x.step) (all_steps Q xs) (h x.step p.0) (all-more P Q h xs p.1)

pub turns_join : (b : Bool) (xs ys : List Entry) → takes_turns b xs ≡ true → takes_turns (is_inside b xs) ys ≡ true → takes_turns b (xs ++ ys) ≡ true
turns_join b [] ys s t = t
turns_join b (x ∷ xs) ys s t =
    let p = and_parts (takes_turn b x.step) (takes_turns (turned b x.step x.won) xs) s in
    and_from (takes_turn b x.step) (takes_turns (turned b x.step x.won) (xs ++ ys)) p.0 (turns_join (turned b x.step x.won) xs ys p.1 t)

pub fits_join : (b : Bool) (p : Option (Option ℕ)) (xs ys : List Entry) → fits_pairs b p xs ≡ true → fits_pairs (is_inside b xs) (pending p xs) ys ≡ true → fits_pairs b p (xs ++ ys) ≡ true
fits_join b p [] ys s t = t
fits_join b p (x ∷ xs) ys s t =
    let a = and_parts (fits_pair b p x.step) (fits_pairs (turned b x.step x.won) (pending_after p x.step) xs) s in
    and_from (fits_pair b p x.step) (fits_pairs (turned b x.step x.won) (pending_after p x.step) (xs ++ ys)) a.0 (fits_join (turned b x.step x.won) (pending_after p x.step) xs ys a.1 t)

pub visits-join : (fields : ℕ) (b c d : Bool) (p q r : Option (Option ℕ)) (m n : ℕ) (xs ys : List Entry) → Visits fields b c p q m xs → Visits fields c d q r n ys → Visits fields b d p r (m + n) (xs ++ ys)
visits-join fields b c d p q r m n xs ys a e =
    record {
      turns = turns_join b xs ys a.turns (subst (λ (z : Bool). takes_turns z ys ≡ true) (sym a.inside) e.turns);
      inside = inside_join b xs ys ∙ (ap (λ (z : Bool). is_inside z ys) a.inside ∙ e.inside);
      pairs =
          fits_join b p xs ys a.pairs
          (ap (λ (z : Bool). fits_pairs z (pending p xs) ys) a.inside ∙ (ap (λ (z : Option (Option ℕ)). fits_pairs c z ys) a.waits ∙ e.pairs));
      waits = pending_join p xs ys ∙ (ap (λ (z : Option (Option ℕ)). pending z ys) a.waits ∙ e.waits);
      through = all-join keeps_root xs ys a.through e.through;
      unstored = all-join stores_none xs ys a.unstored e.unstored;
      zeros = all-join (makes_zero fields) xs ys a.zeros e.zeros;
      won = let both = won_join xs ys in let x = a.won in let y = e.won in omega (arith, both, x, y);
    }

pub spares-join : (fields : ℕ) (xs ys : List Entry) → Spares fields xs → Spares fields ys → Spares fields (xs ++ ys)
spares-join fields xs ys a b =
    record {
      root = all-join spares_root xs ys a.root b.root;
      unstored = all-join stores_none xs ys a.unstored b.unstored;
      zeros = all-join (makes_zero fields) xs ys a.zeros b.zeros;
    }

-- What a step leaves.
record Quiet (b : Bool) (p : Option (Option ℕ)) (step : Step) : Type 0 where
  turn : takes_turn b step ≡ true
  stays : (won : Bool) → turned b step won ≡ b
  fits : fits_pair b p step ≡ true
  waits : pending_after p step ≡ p
  through : keeps_root step ≡ true
  none : exchanges_value step ≡ false

-- a step that no plain heap sees
spared_quiet : (b : Bool) (p : Option (Option ℕ)) (step : Step) → spares_heap step ≡ true → Quiet b p step
spared_quiet b p (StoreField v i x) e = absurd (false≢true e)
spared_quiet b p (StoreValue v n) e = absurd (false≢true e)
spared_quiet b p (StoreRoot v r) e = absurd (false≢true e)
spared_quiet b p (HoldRoot v r) e = absurd (false≢true e)
spared_quiet b p (StoreSlot k r) e = absurd (false≢true e)
spared_quiet b p (ExchangeField v i x y) e = absurd (false≢true e)
spared_quiet b p (ExchangeValue v m n) e = absurd (false≢true e)
spared_quiet b p (StoreNew c part word) e = absurd (false≢true e)
spared_quiet b p step e = record { turn = refl; stays = λ won. refl; fits = refl; waits = refl; through = refl; none = refl }

-- one that leaves the lock and the pair
root_quiet : (b : Bool) (step : Step) → spares_root step ≡ true → Quiet b None step
root_quiet b (StoreField v i x) e = absurd (false≢true e)
root_quiet b (ExchangeField v i x y) e = absurd (false≢true e)
root_quiet b (ExchangeValue v m n) e = absurd (false≢true e)
root_quiet b (StoreRoot v r) e = record { turn = refl; stays = λ won. refl; fits = refl; waits = refl; through = e; none = refl }
root_quiet b (HoldRoot v r) e = record { turn = refl; stays = λ won. refl; fits = refl; waits = refl; through = e; none = refl }
root_quiet b step e = record { turn = refl; stays = λ won. refl; fits = refl; waits = refl; through = refl; none = refl }

-- what no plain heap sees leaves the rest too
spared_root : (step : Step) → spares_heap step ≡ true → spares_root step ≡ true
spared_root (StoreField v i x) e = absurd (false≢true e)
spared_root (StoreRoot v r) e = absurd (false≢true e)
spared_root (HoldRoot v r) e = absurd (false≢true e)
spared_root (ExchangeField v i x y) e = absurd (false≢true e)
spared_root (ExchangeValue v m n) e = absurd (false≢true e)
spared_root step e = refl

pub spared_stores : (step : Step) → spares_heap step ≡ true → stores_none step ≡ true
spared_stores (StoreValue v n) e = absurd (false≢true e)
spared_stores step e = refl

pub spared_zero : (fields : ℕ) (step : Step) → spares_heap step ≡ true → makes_zero fields step ≡ true
spared_zero fields (StoreNew c part word) e = absurd (false≢true e)
spared_zero fields step e = refl

pub spared-spares : (fields : ℕ) (es : List Entry) → all_steps spares_heap es ≡ true → Spares fields es
spared-spares fields es a =
    record {
      root = all-more spares_heap spares_root spared_root es a;
      unstored = all-more spares_heap stores_none spared_stores es a;
      zeros = all-more spares_heap (makes_zero fields) (spared_zero fields) es a;
    }

-- a list of such steps
quiet_all : (fields : ℕ) (b : Bool) (p : Option (Option ℕ)) (P : Step → Bool) → ((step : Step) → P step ≡ true → Quiet b p step) → (es : List Entry) → all_steps P es ≡ true → all_steps stores_none es ≡ true → all_steps (makes_zero fields) es ≡ true → Visits fields b b p p 0 es
quiet_all fields b p P quiet [] a u z = record { turns = refl; inside = refl; pairs = refl; waits = refl; through = refl; unstored = refl; zeros = refl; won = refl }
quiet_all fields b p P quiet (x ∷ xs) a u z =
    let first = and_parts (P x.step) (all_steps P xs) a in
    let q = quiet x.step first.0 in
    let r = quiet_all fields b p P quiet xs first.1 (and_parts (stores_none x.step) (all_steps stores_none xs) u).1 (and_parts (makes_zero fields x.step) (all_steps (makes_zero fields) xs) z).1 in
    let stays = q.stays x.won in
    record {
      turns = and_from (takes_turn b x.step) (takes_turns (turned b x.step x.won) xs) q.turn (ap (λ (d : Bool). takes_turns d xs) stays ∙ r.turns);
      inside = ap (λ (d : Bool). is_inside d xs) stays ∙ r.inside;
      pairs =
          and_from (fits_pair b p x.step) (fits_pairs (turned b x.step x.won) (pending_after p x.step) xs) q.fits
          (ap (λ (d : Bool). fits_pairs d (pending_after p x.step) xs) stays ∙ (ap (λ (d : Option (Option ℕ)). fits_pairs b d xs) q.waits ∙ r.pairs));
      waits = ap (λ (d : Option (Option ℕ)). pending d xs) q.waits ∙ r.waits;
      through = and_from (keeps_root x.step) (all_steps keeps_root xs) q.through r.through;
      unstored = u;
      zeros = z;
      won =
          let here = ap {B = ℕ} (λ (d : Bool). if d && x.won then 1 else 0) q.none in
          let rest = r.won in
          omega (arith, here, rest);
    }

pub spares-visits : (fields : ℕ) (b : Bool) (es : List Entry) → Spares fields es → Visits fields b b None None 0 es
spares-visits fields b es s = quiet_all fields b None spares_root (root_quiet b) es s.root s.unstored s.zeros

pub spared-visits : (fields : ℕ) (b : Bool) (p : Option (Option ℕ)) (es : List Entry) → all_steps spares_heap es ≡ true → Visits fields b b p p 0 es
spared-visits fields b p es a = quiet_all fields b p spares_heap (spared_quiet b p) es a (all-more spares_heap stores_none spared_stores es a) (all-more spares_heap (makes_zero fields) (spared_zero fields) es a)

-- The lock is taken, and left.
pub taken-one : (fields found : ℕ) (won : Bool) → won ≡ (found == 0) → Visits fields false won None None (if won then 1 else 0) (event (ExchangeValue 0 0 1) found ∷ [])
taken-one fields found won is =
    record {
      turns = refl;
      inside = kept (found == 0) ∙ sym is;
      pairs = refl;
      waits = refl;
      through = refl;
      unstored = refl;
      zeros = refl;
      won = let same = ap {B = ℕ} (λ (b : Bool). if b then 1 else 0) is in omega (arith, same);
    }
  where
    kept : (b : Bool) → (if b then true else false) ≡ b
    kept true = refl
    kept false = refl

pub left-one : (fields found : ℕ) (won : Bool) → won ≡ (found == 1) → Visits fields true (not won) None None (if won then 1 else 0) (event (ExchangeValue 0 1 0) found ∷ [])
left-one fields found won is =
    record {
      turns = refl;
      inside = turns (found == 1) ∙ ap not (sym is);
      pairs = refl;
      waits = refl;
      through = refl;
      unstored = refl;
      zeros = refl;
      won = let same = ap {B = ℕ} (λ (b : Bool). if b then 1 else 0) is in omega (arith, same);
    }
  where
    turns : (b : Bool) → (if b then false else true) ≡ not b
    turns true = refl
    turns false = refl

-- One of the pair is stored, and its card is seen to.
first_one : (fields w found : ℕ) (won : Bool) (es : List Entry) → all_steps spares_heap es ≡ true → Visits fields true true None (Some (Some w)) 0 (record { step = StoreField 0 0 (Some w); found = found; won = won } ∷ es)
first_one fields w found won es a =
    visits-join fields true true true None (Some (Some w)) (Some (Some w)) 0 0 (record { step = StoreField 0 0 (Some w); found = found; won = won } ∷ []) es
    (record { turns = refl; inside = refl; pairs = refl; waits = refl; through = refl; unstored = refl; zeros = refl; won = refl })
    (spared-visits fields true (Some (Some w)) es a)

second_one : (fields w found : ℕ) (won : Bool) (es : List Entry) → all_steps spares_heap es ≡ true → Visits fields true true (Some (Some w)) None 0 (record { step = StoreField 0 1 (Some w); found = found; won = won } ∷ es)
second_one fields w found won es a =
    visits-join fields true true true (Some (Some w)) None None 0 0 (record { step = StoreField 0 1 (Some w); found = found; won = won } ∷ []) es
    (record { turns = refl; inside = refl; pairs = and_from (w == w) true (eq-eqb w w refl) refl; waits = refl; through = refl; unstored = refl; zeros = refl; won = refl })
    (spared-visits fields true None es a)

pub first-stored : (fields w : ℕ) (es : List Entry) (ss : List Step) → steps_of es ≡ StoreField 0 0 (Some w) ∷ ss → ((rest : List Entry) → steps_of rest ≡ ss → all_steps spares_heap rest ≡ true) → Visits fields true true None (Some (Some w)) 0 es
first-stored fields w [] ss e spares = absurd (cc)
first-stored fields w (x ∷ xs) ss e spares =
    subst (λ (s : Step). Visits fields true true None (Some (Some w)) 0 (record { step = s; found = x.found; won = x.won } ∷ xs)) (sym (head_is e)) (first_one fields w x.found x.won xs (spares xs (tail_is e)))
  where
    head_is : x.step ∷ steps_of xs ≡ StoreField 0 0 (Some w) ∷ ss → x.step ≡ StoreField 0 0 (Some w)
    head_is q = cc

    tail_is : x.step ∷ steps_of xs ≡ StoreField 0 0 (Some w) ∷ ss → steps_of xs ≡ ss
    tail_is q = cc

pub second-stored : (fields w : ℕ) (es : List Entry) (ss : List Step) → steps_of es ≡ StoreField 0 1 (Some w) ∷ ss → ((rest : List Entry) → steps_of rest ≡ ss → all_steps spares_heap rest ≡ true) → Visits fields true true (Some (Some w)) None 0 es
second-stored fields w [] ss e spares = absurd (cc)
second-stored fields w (x ∷ xs) ss e spares =
    subst (λ (s : Step). Visits fields true true (Some (Some w)) None 0 (record { step = s; found = x.found; won = x.won } ∷ xs)) (sym (head_is e)) (second_one fields w x.found x.won xs (spares xs (tail_is e)))
  where
    head_is : x.step ∷ steps_of xs ≡ StoreField 0 1 (Some w) ∷ ss → x.step ≡ StoreField 0 1 (Some w)
    head_is q = cc

    tail_is : x.step ∷ steps_of xs ≡ StoreField 0 1 (Some w) ∷ ss → steps_of xs ≡ ss
    tail_is q = cc
