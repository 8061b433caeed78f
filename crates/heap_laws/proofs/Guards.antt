-- What a lock guards: nobody but who is inside changes it, so whoever comes in finds it whole.
use Rattle.std.proofs.Common.{ℕ, ◌≡◌, ◌≢◌, ◌⊎◌, ◌+◌, ◌<◌, ◌≤◌, zero, suc, List, [], ◌++◌, take, length, arith, refl, sym, ap, ◌∙◌, subst, Bool, true, false, Option, None, Some, inl, inr, ⊎_elim}
use Rattle.std.specs.Prelude.{if◌then◌else◌, slice_get}
use Rattle.std.proofs.lemmas.Bool.{cases_Bool, cases_eq, cases_lt, false≢true, true≢false}
use Rattle.std.proofs.lemmas.List.{append-nil}
use Rattle.std.proofs.lemmas.Option.{same_Some, slice_get_within}
use Rattle.plain_heap.specs.Paths.{Name}
use Rattle.mark_core.specs.Steps.{Core, run_of}
use Rattle.mark_core.specs.declared.kinds.Event.{Event}
use Rattle.mark_core.specs.declared.kinds.Step.{Step}
use Rattle.mark_core.specs.declared.seat.SeatState.{SeatState}
use Rattle.gc_table.specs.AgreementLaws.{world_run}
use Rattle.gc_table.specs.Past.{adds}
use Rattle.gc_table.specs.RunWorlds.{World, WorldObject, object_of, own_section, stored}
use Rattle.gc_table.specs.Single.{is_inside}
use Rattle.gc_table.specs.declared.view.Entry.{Entry}
use Rattle.gc_table.proofs.Forgetting.{same-is}
use Rattle.heap_laws.specs.Locks.{ComesIn, GuardsByName, IsGuarded, IsRestored, SameGuarded, Visits, WholeByName, inside}
use Rattle.heap_laws.specs.Named.{acts_on, adds_on, log_on, through}
use Rattle.heap_laws.proofs.Counters.{other-adds-on}
use Rattle.heap_laws.proofs.Locks.{lock_by_name}
use Rattle.heap_laws.proofs.Moments.{Next, next-at}
use Rattle.heap_laws.proofs.Named.{log-next}
use Rattle.heap_laws.proofs.Values.{object-kept}

-- a step acts on one object at most
one_object : (world : World) (o : Option SeatState) (step : Step) (x y : Name) → acts_on world o step x ≡ true → acts_on world o step y ≡ true → x ≡ y
one_object world None step x y a b = absurd (false≢true a)
one_object world (Some s) step x y a b =
    let to : Option Name = stored world (own_section s) (through step) in
    same_Some x y (sym (same-is to (Some x) a) ∙ same-is to (Some y) b)

module _ (c : Core) (world : World) (es : List Event) (name : Name) (guarded : Name → Bool) (g : IsGuarded c world es name guarded) where
  -- the heap after the first k events
  abbrev heap : ℕ → World
  heap k = world_run (take k es) c world

  next : (k : ℕ) → k < length es → Next es c world k
  next k h = next-at es c world g.lock.run.allowed k h

  -- what the next event acts on
  acting : (k : ℕ) (h : k < length es) → Name → Bool
  acting k h x = acts_on (heap k) (slice_get (run_of (take k es) c).seats (next k h).event.seat) (next k h).event.step x

  -- who takes no step, or none on the lock, stays inside or outside
  abbrev In : ℕ → ℕ → Bool
  In k i = inside c world es name k i

  same_by : (k : ℕ) (h : k < length es) (i : ℕ) → adds_on name i (run_of (take k es) c) (heap k) (next k h).event ≡ [] → In (suc k) i ≡ In k i
  same_by k h i none =
      ap (λ (l : List Entry). is_inside false l)
      (log-next name i es c world g.lock.run.allowed k (next k h).event (next k h).there ∙ (ap (λ (l : List Entry). log_on name i (take k es) c world ++ l) none ∙ append-nil (log_on name i (take k es) c world)))

  other_same : (k : ℕ) (h : k < length es) (i : ℕ) → i ≢ (next k h).event.seat → In (suc k) i ≡ In k i
  other_same k h i d = same_by k h i (other-adds-on name i (run_of (take k es) c) (heap k) (next k h).event d)

  unacting_same : (k : ℕ) (h : k < length es) (i : ℕ) → acting k h name ≡ false → In (suc k) i ≡ In k i
  unfolding acting
  unacting_same k h i none = same_by k h i (ap (λ (b : Bool). if b then adds i (run_of (take k es) c) (next k h).event else []) none)

  -- an object on which the next event doesn't act
  object_next : (k : ℕ) (h : k < length es) (x : Name) (object : WorldObject) → acting k h x ≡ false → object_of (heap k) x ≡ Some object → object_of (heap (suc k)) x ≡ Some object
  unfolding acting
  object_next k h x object none there = subst (λ (w : World). object_of w x ≡ Some object) (sym (next k h).heap) (object-kept (run_of (take k es) c) (next k h).event (heap k) x object there none)

  -- who stores in what is guarded is inside
  guards : (k : ℕ) (h : k < length es) (x : Name) → guarded x ≡ true → acting k h x ≡ true → In k (next k h).event.seat ≡ true
  unfolding acting
  guards k h x of act = g.only_inside k (next k h).event x (next k h).there of act

  -- if nobody is inside but others than the seat of the next event, what is guarded stays
  outside_keeps : (k : ℕ) (h : k < length es) → In k (next k h).event.seat ≡ false → SameGuarded guarded (heap k) (heap (suc k))
  outside_keeps k h out x object of there =
      ⊎_elim
      (λ (t : acting k h x ≡ true). absurd (true≢false (sym (guards k h x of t) ∙ out)))
      (λ (f : acting k h x ≡ false). object_next k h x object f there)
      (cases_Bool (acting k h x))

  -- an event that acts on the lock leaves it too
  lock_keeps : (k : ℕ) (h : k < length es) → acting k h name ≡ true → SameGuarded guarded (heap k) (heap (suc k))
  unfolding acting
  lock_keeps k h locks x object of there =
      ⊎_elim
      (λ (t : acting k h x ≡ true).
      let same : x ≡ name = one_object (heap k) (slice_get (run_of (take k es) c).seats (next k h).event.seat) (next k h).event.step x name t locks in
      absurd (true≢false (sym of ∙ (ap guarded same ∙ g.others))))
      (λ (f : acting k h x ≡ false). object_next k h x object f there)
      (cases_Bool (acting k h x))

  -- who comes in or goes out takes the step, on the lock
  turn_acts : (k : ℕ) (h : k < length es) (i : ℕ) (b d : Bool) → In k i ≡ b → In (suc k) i ≡ d → (b ≡ d → ⊥) → (i ≡ (next k h).event.seat) × (acting k h name ≡ true)
  turn_acts k h i b d was is differ = (
    ⊎_elim (λ (e : i ≡ (next k h).event.seat). e) (λ (f : i ≢ (next k h).event.seat). absurd (differ (sym was ∙ (sym (other_same k h i f) ∙ is)))) (cases_eq i (next k h).event.seat),
    ⊎_elim (λ (t : acting k h name ≡ true). t) (λ (f : acting k h name ≡ false). absurd (differ (sym was ∙ (sym (unacting_same k h i f) ∙ is)))) (cases_Bool (acting k h name)),
  )

-- the event of a place
event_is : (es : List Event) (c : Core) (world : World) (k : ℕ) (e : Event) (n : Next es c world k) → slice_get es k ≡ Some e → n.event ≡ e
event_is es c world k e n at = same_Some n.event e (sym n.there ∙ at)

pub guards_by_name : GuardsByName
guards_by_name c world es name guarded g k e at i is differ other object of there =
    let h : k < length es = slice_get_within es k e at in
    let n : Next es c world k = next c world es name guarded g k h in
    let same : n.event ≡ e = event_is es c world k e n at in
    let out : inside c world es name k n.event.seat ≡ false =
    ⊎_elim
    (λ (t : inside c world es name k n.event.seat ≡ true). absurd (differ (lock_by_name c world es name g.lock k i n.event.seat is t ∙ ap (λ (x : Event). x.seat) same)))
    (λ (f : inside c world es name k n.event.seat ≡ false). f)
    (cases_Bool (inside c world es name k n.event.seat)) in
    let plus : suc k ≡ k + 1 = omega arith in
    subst (λ (m : ℕ). object_of (world_run (take m es) c world) other ≡ Some object) plus (outside_keeps c world es name guarded g k h out other object of there)

-- A property of what is guarded that each visit restores.
module _ (c : Core) (world : World) (es : List Event) (name : Name) (guarded : Name → Bool) (whole : World → Bool) (r : IsRestored c world es name guarded whole) where
  abbrev g : IsGuarded c world es name guarded
  g = r.guards

  abbrev IsWhole : ℕ → Type 0
  IsWhole k = whole (world_run (take k es) c world) ≡ true

  abbrev Inside : ℕ → ℕ → Bool
  Inside k i = inside c world es name k i

  -- nobody is inside
  record Free (k : ℕ) : Type 0 where
    nobody : (i : ℕ) → Inside k i ≡ false
    whole_now : IsWhole k

  -- seat i is inside, and found it whole as it came in
  record Held (k : ℕ) : Type 0 where
    seat : ℕ
    since : ℕ
    outside : Inside since seat ≡ false
    later : since < k
    stays : (m : ℕ) → since < m → m ≤ k → Inside m seat ≡ true
    whole_then : IsWhole since

  framed : (k : ℕ) → SameGuarded guarded (world_run (take k es) c world) (world_run (take (suc k) es) c world) → IsWhole k → IsWhole (suc k)
  framed k same w = r.frame (world_run (take k es) c world) (world_run (take (suc k) es) c world) same w

  none_other : (k i : ℕ) → Inside k i ≡ true → (j : ℕ) → j ≢ i → Inside k j ≡ false
  none_other k i t j d = ⊎_elim (λ (u : Inside k j ≡ true). absurd (d (lock_by_name c world es name g.lock k j i u t))) (λ (f : Inside k j ≡ false). f) (cases_Bool (Inside k j))

  -- the event after the first k, of seat j
  from_free : (k : ℕ) → k < length es → Free k → Free (suc k) ⊎ Held (suc k)
  from_free k h free =
      ⊎_elim
      (λ (t : Inside (suc k) j ≡ true).
      inr (record {
        seat = j;
        since = k;
        outside = free.nobody j;
        later = omega arith;
        stays = λ m a b. let e : suc k ≡ m = omega (arith, a, b) in subst (λ (x : ℕ). Inside x j ≡ true) e t;
        whole_then = free.whole_now;
      }))
      (λ (f : Inside (suc k) j ≡ false).
      inl (record {
        nobody =
            λ i.
            ⊎_elim
            (λ (e : i ≡ j). subst (λ (x : ℕ). Inside (suc k) x ≡ false) (sym e) f)
            (λ (d : i ≢ j). other_same c world es name guarded g k h i d ∙ free.nobody i)
            (cases_eq i j);
        whole_now = framed k (outside_keeps c world es name guarded g k h (free.nobody j)) free.whole_now;
      }))
      (cases_Bool (Inside (suc k) j))
    where
      j : ℕ
      j = (next c world es name guarded g k h).event.seat

  visit : (k : ℕ) (held : Held k) → Inside (suc k) held.seat ≡ false → Visits c world es name held.seat held.since k
  visit k held out =
      let first : suc held.since ≡ held.since + 1 = omega arith in
      let last : suc k ≡ k + 1 = omega arith in
      record {
        comes = (held.outside, subst (λ (m : ℕ). Inside m held.seat ≡ true) first (held.stays (suc held.since) (omega arith) (omega (arith, held.later))));
        later = held.later;
        stays = held.stays;
        goes = subst (λ (m : ℕ). Inside m held.seat ≡ false) last out;
      }

  from_held : (k : ℕ) → k < length es → Held k → Free (suc k) ⊎ Held (suc k)
  from_held k h held =
      ⊎_elim
      (λ (t : Inside (suc k) i ≡ true).
      inr (record {
        seat = i;
        since = held.since;
        outside = held.outside;
        later = omega (arith, held.later);
        stays =
            λ m a b.
            ⊎_elim
            (λ (l : m < suc k). held.stays m a (omega (arith, l)))
            (λ (l : suc k ≤ m). let e : suc k ≡ m = omega (arith, b, l) in subst (λ (x : ℕ). Inside x i ≡ true) e t)
            (cases_lt m (suc k));
        whole_then = held.whole_then;
      }))
      (λ (f : Inside (suc k) i ≡ false). inl (goes_out f))
      (cases_Bool (Inside (suc k) i))
    where
      i : ℕ
      i = held.seat

      was : Inside k i ≡ true
      was = held.stays k held.later (omega arith)

      goes_out : Inside (suc k) i ≡ false → Free (suc k)
      goes_out f =
          let act = turn_acts c world es name guarded g k h i true false was f true≢false in
          record {
            nobody =
                λ j.
                ⊎_elim
                (λ (e : j ≡ i). subst (λ (x : ℕ). Inside (suc k) x ≡ false) (sym e) f)
                (λ (d : j ≢ i). other_same c world es name guarded g k h j (λ z. d (z ∙ sym act.0)) ∙ none_other k i was j d)
                (cases_eq j i);
            whole_now = framed k (lock_keeps c world es name guarded g k h act.1) (r.restores i held.since k (visit k held f) held.whole_then);
          }

  status : (k : ℕ) → k ≤ length es → Free k ⊎ Held k
  status zero h = inl (record { nobody = λ i. refl; whole_now = r.begins })
  status (suc k) h =
      ⊎_elim
      (λ (free : Free k). from_free k (omega (arith, h)) free)
      (λ (held : Held k). from_held k (omega (arith, h)) held)
      (status k (omega (arith, h)))

  -- whoever comes in finds it
  comes_whole : (i k : ℕ) → k < length es → ComesIn c world es name i k → IsWhole k × (SameGuarded guarded (world_run (take k es) c world) (world_run (take (suc k) es) c world))
  comes_whole i k h comes =
      let plus : k + 1 ≡ suc k = omega arith in
      let now : Inside (suc k) i ≡ true = subst (λ (m : ℕ). Inside m i ≡ true) plus comes.1 in
      let act = turn_acts c world es name guarded g k h i false true comes.0 now false≢true in (
        ⊎_elim
            (λ (free : Free k). free.whole_now)
            (λ (held : Held k).
            let was : Inside k held.seat ≡ true = held.stays k held.later (omega arith) in
            let differ : held.seat ≢ i = λ e. true≢false (sym was ∙ (ap (λ (x : ℕ). Inside k x) e ∙ comes.0)) in
            let still : Inside (suc k) held.seat ≡ true = other_same c world es name guarded g k h held.seat (λ z. differ (z ∙ sym act.0)) ∙ was in
            absurd (differ (lock_by_name c world es name g.lock (suc k) held.seat i still now)))
            (status k (omega (arith, h))),
        lock_keeps c world es name guarded g k h act.1,
      )

pub whole_by_name : WholeByName
whole_by_name =
    record {
      found =
          λ c world es name guarded whole r i k h comes.
          let a = comes_whole c world es name guarded whole r i k h comes in
          let plus : suc k ≡ k + 1 = omega arith in
          (a.0, subst (λ (m : ℕ). whole (world_run (take m es) c world) ≡ true) plus (framed c world es name guarded whole r k a.1 a.0));
      left =
          λ c world es name guarded whole r i k l h v.
          let a = comes_whole c world es name guarded whole r i k (omega (arith, v.later, h)) v.comes in
          let b : whole (world_run (take l es) c world) ≡ true = r.restores i k l v a.0 in
          let plus : suc l ≡ l + 1 = omega arith in
          let minus : l + 1 ≡ suc l = omega arith in
          let gone : inside c world es name (suc l) i ≡ false = subst (λ (m : ℕ). inside c world es name m i ≡ false) minus v.goes in
          let was : inside c world es name l i ≡ true = v.stays l v.later (omega arith) in
          let act = turn_acts c world es name guarded r.guards l h i true false was gone true≢false in
          (b, subst (λ (m : ℕ). whole (world_run (take m es) c world) ≡ true) plus (framed c world es name guarded whole r l (lock_keeps c world es name guarded r.guards l h act.1) b));
    }
