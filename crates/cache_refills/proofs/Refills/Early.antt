-- The cards that a payment passes early, and the section whose roots it scans besides its own, among all its events.
use Rattle.std.proofs.Common.{ℕ, ◌≡◌, ◌≤◌, ◌+◌, ◌-◌, ◌*◌, ◌%◌, List, [], ◌∷◌, ◌++◌, append_assoc, arith, refl, sym, ap, ◌∙◌, subst, true, false, inl, inr}
use Rattle.std.proofs.lemmas.Bool.{false≢true}
use Rattle.mark_core.specs.Numbers.{free_count, last_count, rescanned_count, traced_count}
use Rattle.mark_core.specs.declared.kinds.Shape.{Shape}
use Rattle.mark_core.specs.declared.kinds.Step.TheVariants.{AddStat, ReadCard}
use Rattle.gc_table.specs.Log.{events, Only}
use Rattle.gc_table.specs.Running.{Ran}
use Rattle.gc_table.specs.Seats.{Took}
use Rattle.gc_table.specs.declared.view.Entry.{Entry}
use Rattle.gc_table.specs.declared.view.View.{View}
use Rattle.gc_table.proofs.History.Log.{entry_of, events-after}
use Rattle.gc_table.proofs.Running.{ran-events, ran-join, ran-shape, ran-took}
use Rattle.packet_pools.specs.Counts.{count_of}
use Rattle.packet_pools.proofs.Counting.{count-join}
use Rattle.gc_cycle.specs.CardLooks.{looks_at_card}
use Rattle.gc_cycle.specs.Events.{never}
use Rattle.gc_cycle.specs.Moments.{at_some_moment, begins, finds_no_packet}
use Rattle.gc_cycle.specs.Sorts.{reads_pace}
use Rattle.gc_cycle.specs.Turns.{SeesToRoots}
use Rattle.gc_cycle.proofs.Turns.{roots-earlier, roots-later, earlier-moment, later-moment, packet-longer, packet-widens}
use Rattle.gc_cycle.proofs.Stops.Admitted.{count-none, count-run}
use Rattle.gc_cycle.proofs.CleaningSpares.{Spares, untaken}
use Rattle.gc_cycle.proofs.Ends.Finishes.{never-both as never-join}
use Rattle.cache_refills.specs.Pace.Early.{early_by, early_seen, HasPassed, PassesNext}
use Rattle.cache_refills.specs.Pace.Others.{SeesToNext, turn_by, turn_seen}
use Rattle.cache_refills.specs.Pace.Pacing.{looks_by, looks_seen}
use Rattle.cache_refills.specs.Pace.Payment.{reads_number}
use Rattle.cache_refills.proofs.Refills.PaidFor.{late-before, none-read, read-before}

-- this many looks in one call, and this many in the next
pub looks-join : (j k : ℕ) (u v w : View) → Ran u v → Ran v w → count_of looks_at_card (events u v) ≤ j → count_of looks_at_card (events v w) ≤ k → count_of looks_at_card (events u w) ≤ j + k
looks-join j k u v w r q a b = let both = count-run looks_at_card u v w r q in omega (arith, both, a, b)

pub unlooked-few : (es : List Entry) → never looks_at_card es ≡ true → count_of looks_at_card es ≤ 0
unlooked-few es h = let none = count-none looks_at_card es h in omega (arith, none)

number-unlooked : Spares reads_number looks_at_card
number-unlooked (ReadCard card) n e = absurd (false≢true e)
number-unlooked step n e = refl

early-before : (xs ys : List Entry) → never reads_pace ys ≡ true → early_seen (xs ++ ys) ≡ early_seen xs
early-before xs ys h =
    λ i. early_by (late-before xs ys h i) (read-before last_count xs ys (none-read last_count ys (omega arith) h) i) (read-before rescanned_count xs ys (none-read rescanned_count ys (omega arith) h) i) (read-before free_count xs ys (none-read free_count ys (omega arith) h) i)

-- with events before and after it
around : (xs fs ps rs ys : List Entry) → xs ++ ((fs ++ (ps ++ rs)) ++ ys) ≡ (xs ++ fs) ++ (ps ++ (rs ++ ys))
around xs fs ps rs ys =
    ap (λ es. xs ++ es) (append_assoc fs (ps ++ rs) ys ∙ ap (λ es. fs ++ es) (append_assoc ps rs ys))
    ∙ sym (append_assoc xs fs (ps ++ (rs ++ ys)))

-- the numbers were read, the cards were passed, and what was traced was told
module _ (sh : Shape) (cells from end looks done : ℕ) (u v w x : View) (r : Ran u v) (o : Only reads_number u v) (k : Ran v w) (n : never reads_pace (events v w) ≡ true) (t : Took (AddStat traced_count done false) w x) where
  last : Ran w x
  last = ran-took w x (AddStat traced_count done false) refl t

  told : events w x ≡ entry_of (AddStat traced_count done false) t.0 ∷ []
  told = events-after w x (AddStat traced_count done false) t.0 t.1.0

  all : events u x ≡ events u v ++ (events v w ++ events w x)
  all = ran-events u v x r (ran-join v w x k last) ∙ ap (λ es. events u v ++ es) (ran-events v w x k last)

  unread : never reads_pace (events v w ++ events w x) ≡ true
  unread = never-join reads_pace (events v w) (events w x) n (ap (never reads_pace) told)

  first-unlooked : never looks_at_card (events u v) ≡ true
  first-unlooked = untaken reads_number looks_at_card number-unlooked (events u v) o

  last-unlooked : never looks_at_card (events w x) ≡ true
  last-unlooked = ap (never looks_at_card) told

  wider : HasPassed sh from end looks v w → HasPassed sh from end looks u x
  wider (inl h) = inl (
    ap (never looks_at_card) all ∙ never-join looks_at_card (events u v) (events v w ++ events w x) first-unlooked (never-join looks_at_card (events v w) (events w x) h.0 last-unlooked),
    earlier-moment (finds_no_packet u.shape) u w x (packet-longer u.shape (events w x)) (ran-join u v w r k) last
        (later-moment (finds_no_packet u.shape) (packet-widens u.shape) u v w r k
        (subst (λ (s : Shape). at_some_moment v.shape (finds_no_packet s) (begins v) (events v w) ≡ true) (ran-shape u v r) h.1)),
  )
  wider (inr p) =
      let counts = count-join looks_at_card p.rest (events w x) in
      let none = count-none looks_at_card (events w x) last-unlooked in
      let late = p.late in
      inr
      (record {
        first = events u v ++ p.first;
        passing = p.passing;
        rest = p.rest ++ events w x;
        events_are = all ∙ (ap (λ es. events u v ++ (es ++ events w x)) p.events_are ∙ around (events u v) p.first p.passing p.rest (events w x));
        unlooked = never-join looks_at_card (events u v) p.first first-unlooked p.unlooked;
        passes = p.passes;
        late = omega (arith, counts, none, late);
      })

  pub passes-next : from ≡ end - 16 * cells → early_seen (events u v) ≡ end → looks_seen (events u v) ≡ looks → HasPassed sh from end looks v w → PassesNext sh cells u x
  passes-next f e l h =
      let ends : end ≡ early_seen (events u x) = sym (ap early_seen all ∙ (early-before (events u v) (events v w ++ events w x) unread ∙ e)) in
      let looked : looks ≡ looks_seen (events u x) = sym (ap looks_seen all ∙ (ap looks_by (late-before (events u v) (events v w ++ events w x) unread) ∙ l)) in
      subst (λ m. HasPassed sh (m - 16 * cells) m (looks_seen (events u x)) u x) ends
      (subst (λ m. HasPassed sh (end - 16 * cells) end m u x) looked (subst (λ m. HasPassed sh m end looks u x) f (wider h)))

  pub sees-next : (turn : ℕ) → turn_seen (events u v) ≡ turn → SeesToRoots (turn % sh.sections) v w → SeesToNext sh u x
  sees-next turn e s =
      let ends : turn ≡ turn_seen (events u x) = sym (ap turn_seen all ∙ (ap turn_by (read-before free_count (events u v) (events v w ++ events w x) (none-read free_count (events v w ++ events w x) (omega arith) unread)) ∙ e)) in
      subst (λ m. SeesToRoots (m % sh.sections) u x) ends (roots-earlier (turn % sh.sections) u w x (ran-join u v w r k) last (roots-later (turn % sh.sections) u v w r k s))
