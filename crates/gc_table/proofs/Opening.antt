-- The rule holds at the start, and when the first seat makes another.
use Rattle.std.proofs.Common.{ℕ, ◌≡◌, ◌≢◌, ◌<◌, ◌+◌, zero, suc, List, [], ◌∷◌, ◌++◌, map, set, length, arith, refl, sym, ap, ◌∙◌, subst, inl, inr, ◌⊎◌, ⊎_elim, true, Some, None, length-set, length-append}
use Rattle.std.specs.Prelude.{slice_get, slice_index, IsFalse, nat_lt}
use Rattle.std.specs.List.{range_with_len}
use Rattle.std.proofs.lemmas.Bool.{lt-ltb}
use Rattle.std.proofs.lemmas.List.{set-get_or}
use Rattle.std.proofs.lemmas.Option.{slice_get-get_or}
use mathlib.Core.Option.{some, none, some-injective, some-ne-none}
use lib.ListN.{get_elem?}
use Rattle.atomic_table.specs.Table.{opening}
use Rattle.atomic_table.proofs.Lists.{at_set}
use Rattle.mark_core.specs.Layout.{address}
use Rattle.mark_core.specs.Shapes.{IsShape}
use Rattle.mark_core.specs.Places.{the_world}
use Rattle.mark_core.specs.Start.{start_seat, start_words}
use Rattle.mark_core.specs.Steps.{Core, AllTrue, after_of, after_event, start_core}
use Rattle.mark_core.specs.Steps.WorldSteps.{split_parts}
use Rattle.mark_core.specs.declared.kinds.Event.{Event}
use Rattle.mark_core.specs.declared.kinds.Shape.{Shape}
use Rattle.mark_core.specs.declared.kinds.Step.TheVariants.{Split}
use Rattle.mark_core.specs.declared.seat.SeatState.{SeatState}
use Rattle.gc_table.specs.declared.view.View.{View}
use Rattle.gc_table.specs.Notes.{look}
use Rattle.gc_table.specs.Fetching.{last_pool}
use Rattle.std.specs.Prelude.{Option, Contains}
use Rattle.std.proofs.Common.{Bool, false, cond}
use Rattle.std.proofs.lemmas.Bool.{ltb-true, false≢true}
use Rattle.mark_core.specs.Start.{spent_seat}
use Rattle.plain_heap.specs.declared.operation.Op.{Op}
use Rattle.gc_table.specs.declared.view.SectionState.{SectionState}
use Rattle.gc_table.specs.Sections.{start_section, start_sections}
use Rattle.gc_table.specs.TableState.{TableState, no_section, section_at, with_section, state_after, start_state}
use Rattle.gc_table.specs.Rule.{record_of, records_from, table_state, IsState, HasJoined, Agrees, Holds, IsPossible, newcomer, opens, opened_by}
use Rattle.gc_table.proofs.Allowed.{St}
use Rattle.gc_table.proofs.Tokens.{Kept}
use Rattle.gc_table.proofs.Records.{record-live, records-get, records-set, records-snoc, records-length, got-longer}
use Rattle.gc_table.specs.Past.{log_of, IsLogged}
use Rattle.gc_table.proofs.History.Moments.{leads-on}
use Rattle.gc_table.proofs.History.Past.{led-on, log-none, log-still}
use Rattle.gc_table.proofs.State.StateSteps.{Goes, event, may-happen, sections-left}
use Rattle.gc_table.proofs.State.StateKept.{whole-kept}
use Rattle.gc_table.proofs.State.StateStart.{whole_starts}

pub at-end : {A : Type 0} (l : List A) (a b : A) (j : ℕ) → get_elem? (l ++ a ∷ []) j ≡ some b → (get_elem? l j ≡ some b) ⊎ ((j ≡ length l) × (a ≡ b))
at-end [] a b zero e = inr (refl, some-injective a b e)
at-end [] a b (suc j) e = absurd (some-ne-none b (sym e))
at-end (x ∷ xs) a b zero e = inl e
at-end (x ∷ xs) a b (suc j) e = ⊎_elim (λ t. inl t) (λ t. inr (ap suc t.0, t.1)) (at-end xs a b j e)

none_some : (n : ℕ) → None ≡ Some n → ⊥
none_some n e = cc

none_there : (vs : List View) → 0 ≡ length vs → get_elem? vs 0 ≡ none
none_there [] e = refl
none_there (v ∷ vs) e = absurd (omega (arith, e))

pub zero-plus : (n : ℕ) → 0 + n ≡ n
zero-plus n = omega arith

pub record-at : (sh : Shape) (vs : List View) (j : ℕ) (u : View) → get_elem? vs j ≡ some u → IsFalse u.state.spent → slice_get (records_from sh 0 vs) j ≡ Some u.state
record-at sh vs j u h l = records-get sh 0 vs j u h ∙ ap Some (record-live sh (0 + j) u l)

start_at : {A : Type 0} (f : ℕ → A) (a n k : ℕ) → k < n → slice_get (map f (range_with_len a n)) k ≡ Some (f (a + k))
start_at f a zero k h = absurd (omega (arith, h))
start_at f a (suc n) zero h = let here : a ≡ a + 0 = omega arith in ap (λ (m : ℕ). Some (f m)) here
start_at f a (suc n) (suc k) h = let there : a + 1 + k ≡ a + suc k = omega arith in start_at f (a + 1) n k (omega (arith, h)) ∙ ap (λ (m : ℕ). Some (f m)) there

pub none-in : {A : Type 0} (x : A) → Contains [] x → ⊥
none-in x h = absurd (omega (arith, h.1))

-- the section of a seat that has done nothing
section_there : (sh : Shape) (k w : ℕ) → (start_seat sh k).section ≡ Some w → (w ≡ k) × (k < sh.sections)
section_there sh k w e = by_place (nat_lt k sh.sections) refl e
  where
    by_place : (b : Bool) → nat_lt k sh.sections ≡ b → cond b (Some k) None ≡ Some w → (w ≡ k) × (k < sh.sections)
    by_place true l h = (cc, ltb-true k sh.sections l)
    by_place false l h = absurd (cc)

-- a seat that has done nothing is one of a state in which nothing has happened
pub newcomer-agrees : (sh : Shape) (plan : List (List Op)) (k : ℕ) → Agrees (start_state sh plan (k + 1)) k (newcomer sh plan k)
newcomer-agrees sh plan k =
    record {
      shape = refl;
      seat = start_at (start_seat sh) 0 (k + 1) k (omega arith) ∙ ap (λ (m : ℕ). Some (start_seat sh m)) (zero-plus k);
      noted = λ at n e. absurd (none_some n e);
      floored = λ at n e. absurd (none_some n e);
      fetched = λ p q there h m e. absurd (none_some q e);
      stopped = λ h. absurd (false≢true h);
      plan = refl;
      own = λ w e.
          let p = section_there sh k w e in
          ap (slice_get (start_sections sh)) p.0 ∙ (start_at (start_section sh) 0 sh.sections k p.1 ∙ ap (λ (m : ℕ). Some (start_section sh m)) (zero-plus k));
      joined = λ w y h. absurd (none-in (w, y) h);
    }

pub newcomer-possible : (sh : Shape) (plan : List (List Op)) (k : ℕ) → IsShape sh → k < 41 → IsPossible (newcomer sh plan k)
newcomer-possible sh plan k z h =
    record {
      state = start_state sh plan (k + 1);
      index = k;
      whole = whole_starts sh plan (k + 1) z (omega (arith, h)) (omega (arith, h));
      agrees = newcomer-agrees sh plan k;
      live = refl;
    }

pub opens-possible : (v : View) → IsPossible v → IsPossible (opens v)
opens-possible v p =
    record {
      state = p.state;
      index = p.index;
      whole = p.whole;
      agrees = record { shape = p.agrees.shape; seat = p.agrees.seat; noted = p.agrees.noted; floored = p.agrees.floored; fetched = p.agrees.fetched; stopped = p.agrees.stopped; plan = p.agrees.plan; own = p.agrees.own; joined = p.agrees.joined };
      live = p.live;
    }

-- the table in which nothing has happened
pub starts : (sh : Shape) (plan : List (List Op)) (ws : List ℕ) → IsShape sh → ws ≡ start_words sh → Holds sh plan (opening ws [] (newcomer sh plan 0))
unfolding newcomer-possible
starts sh plan ws z is =
    let first : IsPossible (newcomer sh plan 0) = newcomer-possible sh plan 0 z (omega arith) in
    subst (λ (xs : List ℕ). Holds sh plan (opening xs [] (newcomer sh plan 0))) (sym is)
    (record {
      sections = start_sections sh;
      whole = first.whole;
      each = λ i v h l.
          ⊎_elim
          (λ (e : get_elem? [] i ≡ some v). absurd (some-ne-none v (sym e)))
          (λ (e : (i ≡ 0) × (newcomer sh plan 0 ≡ v)). subst (λ (x : ℕ × View). Agrees (start_state sh plan 1) x.0 x.1) (λ y. (sym e.0 y, e.1 y)) first.agrees)
          (at-end [] (newcomer sh plan 0) v i h);
      opened = λ v h. ap (λ (u : View). u.opened) (sym (some-injective (newcomer sh plan 0) v h));
      past = [];
      led = record { allowed = refl; fit = λ k e there. absurd (omega (arith, there)); leads = refl };
      came = refl;
      logged = λ i v h l.
          ⊎_elim
          (λ (e : get_elem? [] i ≡ some v). absurd (some-ne-none v (sym e)))
          (λ (e : (i ≡ 0) × (newcomer sh plan 0 ≡ v)). subst (λ (u : View). IsLogged sh [] (start_core sh 1) i u) e.1 (record { log = refl; logs = λ k m there. absurd (none-in (k, m) there) }))
          (at-end [] (newcomer sh plan 0) v i h);
    })

-- a step that leaves each section
pub still-sections : (o : Option ℕ) (xs : List SectionState) → with_section o (λ y. y) xs ≡ xs
still-sections None xs = refl
still-sections (Some w) xs = set-get_or xs w no_section

-- the state that a split leaves
abbrev split_core : Shape → St → View → Core
split_core sh s v = record { shape = sh; words = s.words; seats = set (records_from sh 0 s.views) 0 v.state ++ start_seat sh (length s.views) ∷ [] }

module _ (sh : Shape) (plan : List (List Op)) (s : St) (v : View) (o : Holds sh plan s) (me : get_elem? s.views 0 ≡ some v) (first : v.state ≡ start_seat sh 0) (few : length s.views < 41) where
  abbrev x : TableState
  x = table_state sh plan o.sections s

  split_got : slice_get x.core.seats 0 ≡ Some v.state
  split_got = record-at sh s.views 0 v me (ap (λ (t : SeatState). t.spent) first)

  split_goes : Goes x 0 v.state Split
  split_goes =
      let room : nat_lt (length x.core.seats) 41 ≡ true = lt-ltb (length x.core.seats) 41 (omega (arith, records-length sh 0 s.views, few)) in
      record { whole = o.whole; got = split_got; live = ap (λ (t : SeatState). t.spent) first; ok = subst (λ (t : SeatState). AllTrue (split_parts sh x.core.seats t)) (sym first) (room, tt); fits = tt; asks = tt }

  split_leaves : after_event x.core (event 0 Split) ≡ split_core sh s v
  split_leaves =
      let words : set s.words (address sh the_world) (slice_index s.words (address sh the_world)) ≡ s.words = set-get_or s.words (address sh the_world) 0 in
      let long : length (set x.core.seats 0 v.state) ≡ length s.views = length-set x.core.seats 0 v.state ∙ records-length sh 0 s.views in
      ap (λ p. after_of x.core 0 p Split) split_got ∙ (λ y. record { shape = sh; words = words y; seats = set x.core.seats 0 v.state ++ start_seat sh (long y) ∷ [] })

  split_still : (state_after x (event 0 Split)).sections ≡ o.sections
  split_still = sections-left x 0 v.state Split split_goes ∙ still-sections v.state.section o.sections

  split_left : IsState (record { core = split_core sh s v; plan = plan; sections = o.sections })
  split_left = subst IsState (λ y. record { core = split_leaves y; plan = plan; sections = split_still y }) (whole-kept x 0 v.state Split split_goes)

-- the records after a split are those before it and one more
longer : (xs : List SeatState) (s t u : SeatState) (w : ℕ) → slice_get xs 0 ≡ Some s → slice_get xs w ≡ Some u → slice_get (set xs 0 s ++ t ∷ []) w ≡ Some u
longer xs s t u w first h = got-longer (set xs 0 s) t u w (ap (λ l. slice_get l w) (back xs first) ∙ h)
  where
    back : (l : List SeatState) → slice_get l 0 ≡ Some s → set l 0 s ≡ l
    back [] e = absurd (cc)
    back (y ∷ ys) e = let same : y ≡ s = cc in ap (λ z. z ∷ ys) (sym same)

-- the first seat may make another, while it has nothing but its number
pub splits : (sh : Shape) (plan : List (List Op)) (id : ℕ) (v : View) → v.shape ≡ sh → v.plan ≡ plan → v.state ≡ start_seat sh 0 → v.opened < 41 → (s : St) (o : Holds sh plan s) → get_elem? s.views id ≡ some v → Kept sh plan (record { words = s.words; homes = s.homes; views = set s.views id (opens v) ++ opened_by v ∷ [] }) (o.past ++ event 0 Split ∷ [])
splits sh plan id v shaped planned first opened s o me =
    let x : TableState = table_state sh plan o.sections s in
    let live : IsFalse v.state.spent = ap (λ (t : SeatState). t.spent) first in
    let a : Agrees x id v = o.each id v me live in
    let nil : id ≡ 0 = sym ((o.whole.core.formed.seats id v.state a.seat).number) ∙ ap (λ (t : SeatState). t.number) first in
    let here : get_elem? s.views 0 ≡ some v = ap (get_elem? s.views) (sym nil) ∙ me in
    let n : ℕ = length s.views in
    let all : v.opened ≡ n = o.opened v here in
    let vs : List View = set s.views id (opens v) in
    let new : View = opened_by v in
    let long : length vs ≡ n = length-set s.views id (opens v) in
    let seats : records_from sh 0 (vs ++ new ∷ []) ≡ set (records_from sh 0 s.views) 0 v.state ++ start_seat sh n ∷ [] =
    records-snoc sh 0 vs new
    ∙ (ap (λ xs. xs ++ record_of sh (0 + length vs) new ∷ []) (records-set sh 0 s.views id (opens v) ∙ (ap (set (records_from sh 0 s.views) id) (record-live sh (0 + id) (opens v) live) ∙ ap (λ (i : ℕ). set (records_from sh 0 s.views) i v.state) nil))
    ∙ (λ y. set (records_from sh 0 s.views) 0 v.state ++ start_seat (shaped y) (all y) ∷ [])) in
    let few : n < 41 = omega (arith, all, opened) in
    let left : Core = record { shape = sh; words = s.words; seats = records_from sh 0 (vs ++ new ∷ []) } in
    let is : split_core sh s v ≡ left = λ y. record { shape = sh; words = s.words; seats = sym seats y } in
    let past : List Event = o.past ++ event 0 Split ∷ [] in
    let silent : (k : ℕ) → log_of sh past k ≡ log_of sh o.past k = λ k. log-still sh o.past x.core (event 0 Split) k o.led refl in
    let still : (u : View) (k : ℕ) → IsLogged sh o.past x.core k u → IsLogged sh past left k u = λ u k b.
    record {
      log = b.log ∙ sym (silent k);
      logs = λ w l i. let q = b.logs w l i in (q.0 ∙ sym (silent w), ap (λ xs. slice_get xs w) seats ∙ longer (records_from sh 0 s.views) v.state (start_seat sh n) (spent_seat sh w) w (record-at sh s.views 0 v here live) q.1);
    } in
    let joined : (u : View) → HasJoined x u → HasJoined (table_state sh plan o.sections (record { words = s.words; homes = s.homes; views = vs ++ new ∷ [] })) u = λ u h w y i.
    let q = h w y i in (q.0, ap (λ xs. slice_get xs w) seats ∙ longer (records_from sh 0 s.views) v.state (start_seat sh n) (spent_seat sh w) w (record-at sh s.views 0 v here live) q.1) in (
      record {
        sections = o.sections;
        whole = subst IsState (λ y. record { core = record { shape = sh; words = s.words; seats = sym seats y }; plan = plan; sections = o.sections }) (split_left sh plan s v o here first few);
        past = past;
        led = led-on sh o.past x.core left (event 0 Split) o.led tt (may-happen x 0 v.state Split (split_goes sh plan s v o here first few)) (split_leaves sh plan s v o here first few ∙ is);
        came = leads-on o.past (event 0 Split) (start_state sh plan 1) x (record { core = left; plan = plan; sections = o.sections }) o.came o.whole (may-happen x 0 v.state Split (split_goes sh plan s v o here first few))
            (λ y. record { core = (split_leaves sh plan s v o here first few ∙ is) y; plan = plan; sections = split_still sh plan s v o here first few y });
        logged = λ j u h l.
            ⊎_elim
            (λ (g : get_elem? vs j ≡ some u).
            ⊎_elim
            (λ (p : (j ≡ id) × (opens v ≡ u)).
            let b = o.logged id v me live in
            subst (λ (z : ℕ × View). IsLogged sh past left z.0 z.1) (λ y. (sym p.0 y, p.1 y)) (still (opens v) id (record { log = b.log; logs = b.logs })))
            (λ (p : (j ≢ id) × (get_elem? s.views j ≡ some u)). still u j (o.logged j u p.1 l))
            (at_set s.views id j (opens v) u g))
            (λ (p : (j ≡ length vs) × (new ≡ u)). subst (λ (z : View). IsLogged sh past left j z) p.1 (record {
              log = sym (silent j ∙ log-none sh o.past x.core j o.led (omega (arith, p.0, long, records-length sh 0 s.views)));
              logs = λ k m i. absurd (none-in (k, m) i);
            }))
            (at-end vs new u j h);
        each = λ j u h l.
            let seat = record-at sh (vs ++ new ∷ []) j u h l in
            ⊎_elim
            (λ (g : get_elem? vs j ≡ some u).
            ⊎_elim
            (λ (p : (j ≡ id) × (opens v ≡ u)).
            let b : Agrees x id u = subst (λ (z : View). Agrees x id z) p.1 (record { shape = a.shape; seat = a.seat; noted = a.noted; floored = a.floored; fetched = a.fetched; stopped = a.stopped; plan = a.plan; own = a.own; joined = a.joined }) in
            record { shape = b.shape; seat = seat; noted = b.noted; floored = b.floored; fetched = b.fetched; stopped = b.stopped; plan = b.plan; own = b.own; joined = joined u b.joined })
            (λ (p : (j ≢ id) × (get_elem? s.views j ≡ some u)). let b = o.each j u p.1 l in record { shape = b.shape; seat = seat; noted = b.noted; floored = b.floored; fetched = b.fetched; stopped = b.stopped; plan = b.plan; own = b.own; joined = joined u b.joined })
            (at_set s.views id j (opens v) u g))
            (λ (p : (j ≡ length vs) × (new ≡ u)). record {
              shape = ap (λ (y : View). y.shape) (sym p.1) ∙ shaped;
              seat = seat;
              noted = λ at m e. absurd (none_some m (ap (λ (y : View). look at y.known) p.1 ∙ e));
              floored = λ at m e. absurd (none_some m (ap (λ (y : View). look at y.floors) p.1 ∙ e));
              fetched = λ r q there h m e. absurd (none_some q (ap (λ (y : View). last_pool r y.log) p.1 ∙ e));
              stopped = λ h. absurd (false≢true (ap (λ (y : View). y.state.knows) p.1 ∙ h));
              plan = ap (λ (y : View). y.plan) (sym p.1) ∙ planned;
              own = λ w e.
                  let mine : (start_seat sh n).section ≡ Some w = (λ y. (start_seat (sym shaped y) (sym all y)).section) ∙ (ap (λ (z : View). z.state.section) p.1 ∙ e) in
                  let q = section_there sh n w mine in
                  let inside : w < length o.sections = omega (arith, q.0, q.1, o.whole.sections) in
                  let got : slice_get o.sections w ≡ Some (section_at o.sections w) = slice_get-get_or o.sections w no_section inside in
                  let still : section_at o.sections w ≡ start_section sh w = o.whole.told.unseated w (section_at o.sections w) got (omega (arith, q.0, records-length sh 0 s.views)) in
                  got ∙ (ap Some still ∙ ((λ y. Some (start_section (sym shaped y) ((q.0 ∙ sym all) y))) ∙ ap (λ (z : View). Some z.own) p.1));
              joined = λ w y h. absurd (none-in (w, y) (subst (λ (z : View). Contains z.joined (w, y)) (sym p.1) h));
            })
            (at-end vs new u j h);
        opened = λ u h.
            ⊎_elim
            (λ (g : get_elem? vs 0 ≡ some u).
            ⊎_elim
            (λ (p : (0 ≡ id) × (opens v ≡ u)). ap (λ (y : View). y.opened) (sym p.1) ∙ (let z : v.opened + 1 ≡ length (vs ++ new ∷ []) = omega (arith, all, long, length-append vs (new ∷ [])) in z))
            (λ (p : (0 ≢ id) × (get_elem? s.views 0 ≡ some u)). absurd (p.0 (sym nil)))
            (at_set s.views id 0 (opens v) u g))
            (λ (p : (0 ≡ length vs) × (new ≡ u)). absurd (some-ne-none v (sym here ∙ none_there s.views (p.0 ∙ long))))
            (at-end vs new u 0 h);
      },
      refl,
    )
