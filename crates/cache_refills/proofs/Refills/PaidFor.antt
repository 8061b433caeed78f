-- What a mutator paid, over all events of its payment.
use Rattle.std.proofs.Common.{ℕ, ◌≡◌, ◌≤◌, List, [], ◌∷◌, ◌++◌, arith, refl, sym, ap, ◌∙◌, subst, Bool, true, false, not, ◌&&◌, ◌||◌, Some, None, Option, ⊎_elim, eqb-true}
use Rattle.std.specs.Prelude.{◌==◌, if◌then◌else◌, is_some, nat_le}
use Rattle.std.proofs.lemmas.Bool.{cases_Bool, false≢true, leb-false, not-true, or_cases, or_from, or_left, or_parts, or_right}
use Rattle.mark_core.specs.Cells.{or_else}
use Rattle.mark_core.specs.Numbers.{card_counter, done_count, free_count, last_count, rescanned_count, traced_count}
use Rattle.mark_core.specs.declared.kinds.Shape.{Shape}
use Rattle.mark_core.specs.declared.kinds.Step.{Step}
use Rattle.mark_core.specs.declared.kinds.Step.TheVariants.{AddStat, ClaimBlock, NextOfCards, Pop, ReadStat, Reset}
use Rattle.mark_core.specs.declared.seat.SeatState.{SeatState}
use Rattle.gc_table.specs.Log.{events, Only}
use Rattle.gc_table.specs.PlainSteps.{own_section}
use Rattle.gc_table.specs.Running.{changes_section, Ran}
use Rattle.gc_table.specs.Seats.{Took}
use Rattle.gc_table.specs.declared.view.Entry.{Entry}
use Rattle.gc_table.specs.declared.view.View.{View}
use Rattle.gc_table.proofs.History.Log.{entry_of, events-after, only-after, only-more}
use Rattle.gc_table.proofs.Running.{ran-events, ran-join, ran-only, ran-shape, ran-took}
use Rattle.packet_pools.specs.Counts.{count_of}
use Rattle.packet_pools.specs.Fields.{picked}
use Rattle.packet_pools.specs.Seeking.{some_event}
use Rattle.packet_pools.proofs.Reading.{picked-join}
use Rattle.tracer.specs.declared.traced.Stopped.{Stopped}
use Rattle.tracer.specs.declared.traced.Stopped.TheVariants.{Quota, NoWork, NoPacket}
use Rattle.gc_cycle.specs.declared.counts.Paid.{Paid}
use Rattle.gc_cycle.specs.Events.{never, Sort, until_first}
use Rattle.gc_cycle.specs.Lower.{traces_or_cleans}
use Rattle.gc_cycle.specs.Moments.{at_some_moment, begins, finds_no_packet, finds_no_room, finds_no_work}
use Rattle.cache_refills.specs.Pace.Pacing.{floor_by, last_read, late_by, late_seen, looks_by, looks_seen, owed_by, owed_seen, quota_by, read_of, statistic}
use Rattle.cache_refills.specs.Pace.Paying.{roots_are_read, StopsAs}
use Rattle.cache_refills.specs.Pace.Payment.{HasPaid, is_out_of_room, is_out_of_work, MarksAndTraces, pays_cells, reads_number, StopsTracing}
use Rattle.gc_cycle.specs.Roots.{roots_scanned}
use Rattle.gc_cycle.specs.Sorts.{claims, draws, pops, raises_traced, reads_pace, reads_root}
use Rattle.gc_cycle.specs.Standing.{is_at_rest, Mutates}
use Rattle.gc_cycle.specs.Statistics.{changing_step, numbers_changed, tells}
use Rattle.gc_cycle.proofs.Stops.Admitted.{count-none, count-run, traces-kept}
use Rattle.gc_cycle.proofs.Turns.{earlier-moment, later-moment, packet-longer, packet-widens, roots-left, roots-right}
use Rattle.cache_refills.proofs.Refills.Payment.{moment-map, mutates-on, quiet-moment, stops-later, stops-longer}
use Rattle.gc_cycle.proofs.CleaningSpares.{Spares, untaken}
use Rattle.gc_cycle.proofs.Changes.{picked-none}
use Rattle.gc_cycle.proofs.Ends.Finishes.{never-both as never-join}

number-pays : (step : Step) → reads_number step ≡ true → pays_cells step ≡ true
number-pays (ReadStat which) e = e
number-pays step e = absurd (false≢true e)

trace-pays : (step : Step) → traces_or_cleans step ≡ true → pays_cells step ≡ true
trace-pays (AddStat which by down) e = absurd (false≢true e)
trace-pays (ReadStat which) e = ap (λ n. not (n == done_count)) (eqb-true which card_counter e)
trace-pays step e = e

number-unchanged : (step : Step) (n : ℕ) → reads_number step ≡ true → changing_step step n ≡ []
number-unchanged (AddStat which by down) n e = absurd (false≢true e)
number-unchanged (Reset which) n e = absurd (false≢true e)
number-unchanged step n e = refl

trace-unchanged : (step : Step) (n : ℕ) → traces_or_cleans step ≡ true → changing_step step n ≡ []
trace-unchanged (AddStat which by down) n e = absurd (false≢true e)
trace-unchanged (Reset which) n e = absurd (false≢true e)
trace-unchanged step n e = refl

-- what these steps don't do
pub pays-unclaimed : Spares pays_cells claims
pays-unclaimed (ClaimBlock b) n e = absurd (false≢true e)
pays-unclaimed step n e = refl

number-unpopped : Spares reads_number pops
number-unpopped (Pop p) n e = absurd (false≢true e)
number-unpopped step n e = refl

number-undrawn : Spares reads_number draws
number-undrawn NextOfCards n e = absurd (false≢true e)
number-undrawn step n e = refl

number-untold : (step : Step) (n : ℕ) → reads_number step ≡ true → raises_traced step n ≡ []
number-untold (AddStat which by down) n e = absurd (false≢true e)
number-untold step n e = refl

trace-untold : (step : Step) (n : ℕ) → traces_or_cleans step ≡ true → raises_traced step n ≡ []
trace-untold (AddStat which by down) n e = absurd (false≢true e)
trace-untold step n e = refl

-- the numbers as read last are those that were read before
apart : (w which : ℕ) → nat_le last_count w ≡ false → last_count ≤ which → (w == which) ≡ false
apart w which low high =
    ⊎_elim
    (λ (a : (w == which) ≡ true). let same = eqb-true w which a in let few = leb-false last_count w low in absurd (omega (arith, same, few, high)))
    (λ (b : (w == which) ≡ false). b)
    (cases_Bool (w == which))

unread-one : (which : ℕ) (step : Step) (n : ℕ) → last_count ≤ which → reads_pace step n ≡ false → read_of which step n ≡ None
unread-one which (ReadStat w) n high e = ap (λ (b : Bool). if b then Some (statistic n) else None) (apart w which e high)
unread-one which step n high e = refl

pub none-read : (which : ℕ) (es : List Entry) → last_count ≤ which → never reads_pace es ≡ true → last_read which es ≡ None
none-read which [] high h = refl
none-read which (e ∷ es) high h =
    let p = or_parts (reads_pace e.step e.found) (some_event reads_pace es) (not-true _ h) in
    λ i. or_else (none-read which es high (ap not p.1) i) (unread-one which e.step e.found high p.0 i)

pub read-before : (which : ℕ) (xs ys : List Entry) → last_read which ys ≡ None → last_read which (xs ++ ys) ≡ last_read which xs
read-before which [] ys h = h
read-before which (x ∷ xs) ys h = ap (λ (o : Option ℕ). or_else o (read_of which x.step x.found)) (read-before which xs ys h)

owed-before : (cells : ℕ) (xs ys : List Entry) → never reads_pace ys ≡ true → owed_seen cells (xs ++ ys) ≡ owed_seen cells xs
owed-before cells xs ys h =
    let last = read-before last_count xs ys (none-read last_count ys (omega arith) h) in
    let free = read-before free_count xs ys (none-read free_count ys (omega arith) h) in
    λ i. owed_by (quota_by cells (last i) (read-before rescanned_count xs ys (none-read rescanned_count ys (omega arith) h) i) (read-before traced_count xs ys (none-read traced_count ys (omega arith) h) i) (free i)) (floor_by cells (last i) (free i))

pub late-before : (xs ys : List Entry) → never reads_pace ys ≡ true → late_seen (xs ++ ys) ≡ late_seen xs
late-before xs ys h =
    λ i. late_by (read-before last_count xs ys (none-read last_count ys (omega arith) h) i) (read-before traced_count xs ys (none-read traced_count ys (omega arith) h) i) (read-before free_count xs ys (none-read free_count ys (omega arith) h) i)

-- up to the first event like f, if the first of two lists has none
until-longer : (f : Sort) (xs ys : List Entry) → never f xs ≡ true → until_first f (xs ++ ys) ≡ xs ++ until_first f ys
until-longer f [] ys h = refl
until-longer f (x ∷ xs) ys h =
    let p = or_parts (f x.step x.found) (some_event f xs) (not-true _ h) in
    ap (λ (b : Bool). if b then [] else x ∷ until_first f (xs ++ ys)) p.0 ∙ ap (λ es. x ∷ es) (until-longer f xs ys (ap not p.1))

-- what never happens doesn't happen up to there
until-never : (f g : Sort) (es : List Entry) → never g es ≡ true → never g (until_first f es) ≡ true
until-never f g [] h = refl
until-never f g (e ∷ es) h = let p = or_parts (g e.step e.found) (some_event g es) (not-true _ h) in split (f e.step e.found) p.0 (until-never f g es (ap not p.1))
  where
    split : (b : Bool) → g e.step e.found ≡ false → never g (until_first f es) ≡ true → never g (if b then [] else e ∷ until_first f es) ≡ true
    split true k rest = refl
    split false k rest = ap not (or_from _ _ k (not-true _ rest))

-- why it stopped, if no block was claimed either
regroup : (a b d : Bool) → (a && (b && d)) ≡ true → ((a && b) && d) ≡ true
regroup true b d h = h
regroup false b d h = absurd (false≢true h)

stops-as : (s : Stopped) (quota done : ℕ) (v w : View) → never claims (events v w) ≡ true → StopsTracing s quota done v w → StopsAs s v.shape quota done (begins v) (events v w)
stops-as Quota quota done v w n h = h
stops-as NoWork quota done v w n h = (
  h.0,
  moment-map v.shape (λ m later. never claims later && is_out_of_work v.shape m later) (λ m later. roots_are_read later && finds_no_work v.shape m later)
      (λ m es k. regroup (never claims es) (never reads_root es) (finds_no_work v.shape m es) k) (events v w) (begins v)
      (quiet-moment v.shape claims (is_out_of_work v.shape) (events v w) (begins v) n h.1),
)
stops-as NoPacket quota done v w n h = (
  h.0,
  moment-map v.shape (λ m later. never claims later && is_out_of_room v.shape m later) (λ m later. roots_are_read later && finds_no_room v.shape m later)
      (λ m es k. regroup (never claims es) (never reads_root es) (finds_no_room v.shape m es) k) (events v w) (begins v)
      (quiet-moment v.shape claims (is_out_of_room v.shape) (events v w) (begins v) n h.1),
)

pub mutates-same : (v w : View) → w.state ≡ v.state → w.shape ≡ v.shape → Mutates v → Mutates w
mutates-same v w e sh m =
    record {
      active = ap (λ (s : SeatState). s.active) e ∙ m.active;
      unhelping = ap (λ (s : SeatState). s.helping) e ∙ m.unhelping;
      section = ap (λ (s : SeatState). is_some s.section) e ∙ m.section;
      rest = (λ i. is_at_rest (sh i) (e i)) ∙ m.rest;
    }

-- the numbers were read, the roots were marked and a quota was traced, and that was told
module _ (cells quota looks : ℕ) (p : Paid) (u v w x : View) (m : Mutates u) (r : Ran u v) (o : Only reads_number u v) (same : v.state ≡ u.state) (q : owed_seen cells (events u v) ≡ Some quota) (l : looks_seen (events u v) ≡ looks) (short : quota ≤ 1024) (k : MarksAndTraces (own_section v.state) quota looks p v w) (t : Took (AddStat traced_count p.done false) w x) where
  last : Ran w x
  last = ran-took w x (AddStat traced_count p.done false) refl t

  tail : Ran v x
  tail = ran-join v w x k.traced.ran last

  kept : x.state ≡ w.state
  kept = ap (λ (z : View). z.state) t.1.0

  told : events w x ≡ entry_of (AddStat traced_count p.done false) t.0 ∷ []
  told = events-after w x (AddStat traced_count p.done false) t.0 t.1.0

  all : events u x ≡ events u v ++ (events v w ++ events w x)
  all = ran-events u v x r tail ∙ ap (λ es. events u v ++ es) (ran-events v w x k.traced.ran last)

  only : Only pays_cells u x
  only =
      ran-only pays_cells u v x r tail (only-more reads_number pays_cells number-pays u v o)
      (ran-only pays_cells v w x k.traced.ran last (only-more traces_or_cleans pays_cells trace-pays v w k.traced.only) (only-after pays_cells w x (AddStat traced_count p.done false) t.0 refl t.1.0))

  changed : numbers_changed (events u x) ≡ tells p.done ∷ []
  changed =
      ap numbers_changed all
      ∙ (picked-join changing_step (events u v) (events v w ++ events w x)
      ∙ ((λ i. picked-none reads_number changing_step number-unchanged (events u v) o i ++ numbers_changed (events v w ++ events w x))
      ∙ (picked-join changing_step (events v w) (events w x)
      ∙ ((λ i. picked-none traces_or_cleans changing_step trace-unchanged (events v w) k.traced.only i ++ numbers_changed (events w x)) ∙ ap numbers_changed told))))

  unclaimed : never claims (events u x) ≡ true
  unclaimed = untaken pays_cells claims pays-unclaimed (events u x) only

  before : Mutates v
  before = mutates-same u v same (ran-shape u v r) m

  last-unrooted : never reads_root (events w x) ≡ true
  last-unrooted = ap (never reads_root) told

  last-unread : never reads_pace (events w x) ≡ true
  last-unread = ap (never reads_pace) told

  roots : (roots_scanned (own_section u.state) (events u x) || at_some_moment u.shape (λ n later. never claims later && finds_no_packet u.shape n later) (begins u) (events u x)) ≡ true
  roots =
      ⊎_elim
      (λ (a : roots_scanned (own_section v.state) (events v w) ≡ true).
      or_left (roots_scanned (own_section u.state) (events u x)) _
      (ap (roots_scanned (own_section u.state)) all
      ∙ roots-right (own_section u.state) (events u v) (events v w ++ events w x)
      (roots-left (own_section u.state) (events v w) (events w x) (subst (λ (s : SeatState). roots_scanned (own_section s) (events v w) ≡ true) same a))))
      (λ (b : at_some_moment v.shape (finds_no_packet v.shape) (begins v) (events v w) ≡ true).
      or_right (roots_scanned (own_section u.state) (events u x)) _
      (quiet-moment u.shape claims (finds_no_packet u.shape) (events u x) (begins u) unclaimed
      (earlier-moment (finds_no_packet u.shape) u w x (packet-longer u.shape (events w x)) (ran-join u v w r k.traced.ran) last
      (later-moment (finds_no_packet u.shape) (packet-widens u.shape) u v w r k.traced.ran
      (subst (λ (sh : Shape). at_some_moment v.shape (finds_no_packet sh) (begins v) (events v w) ≡ true) (ran-shape u v r) b)))))
      (or_cases (roots_scanned (own_section v.state) (events v w)) _ k.roots)

  counted : count_of pops (events u x) ≡ p.done
  counted =
      let one = count-run pops u v x r tail in
      let two = count-run pops v w x k.traced.ran last in
      let none = count-none pops (events u v) (untaken reads_number pops number-unpopped (events u v) o) in
      let end = ap {B = ℕ} (count_of pops) told in
      let d = k.done in
      omega (arith, one, two, none, end, d)

  -- the numbers as read last are those that were read before the payment
  unread : never reads_pace (events v w ++ events w x) ≡ true
  unread = never-join reads_pace (events v w) (events w x) k.unread last-unread

  looked : count_of draws (events u x) ≤ looks_seen (events u x)
  looked =
      let one = count-run draws u v x r tail in
      let two = count-run draws v w x k.traced.ran last in
      let none = count-none draws (events u v) (untaken reads_number draws number-undrawn (events u v) o) in
      let end = ap {B = ℕ} (count_of draws) told in
      let few = k.looked in
      let seen : looks_seen (events u x) ≡ looks = ap looks_seen all ∙ (ap looks_by (late-before (events u v) (events v w ++ events w x) unread) ∙ l) in
      omega (arith, one, two, none, end, few, seen)

  stops : StopsTracing p.stopped p.quota p.done u x
  stops =
      subst (λ n. StopsTracing p.stopped n p.done u x) (sym k.quota_is)
      (stops-longer p.stopped quota p.done u w x (ran-join u v w r k.traced.ran) last last-unrooted (stops-later p.stopped quota p.done u v w r k.traced.ran k.stops))

  raised : picked raises_traced (events u x) ≡ p.done ∷ []
  raised =
      ap (picked raises_traced) all
      ∙ (picked-join raises_traced (events u v) (events v w ++ events w x)
      ∙ ((λ i. picked-none reads_number raises_traced number-untold (events u v) o i ++ picked raises_traced (events v w ++ events w x))
      ∙ (picked-join raises_traced (events v w) (events w x)
      ∙ ((λ i. picked-none traces_or_cleans raises_traced trace-untold (events v w) k.traced.only i ++ picked raises_traced (events w x)) ∙ ap (picked raises_traced) told))))

  pub paid-of : HasPaid cells p u x
  paid-of =
      record {
        ran = ran-join u v x r tail;
        only = only;
        mutates = mutates-same w x kept (ran-shape w x last) (mutates-on v w k.traced before);
        cache = ap (λ (s : SeatState). s.cache) kept ∙ (ap (λ (s : SeatState). s.cache) k.traced.record_is ∙ ap (λ (s : SeatState). s.cache) same);
        seen = ap (λ (s : SeatState). s.phase_seen) kept ∙ (ap (λ (s : SeatState). s.phase_seen) k.traced.record_is ∙ ap (λ (s : SeatState). s.phase_seen) same);
        roots = roots;
        owed = ap (owed_seen cells) all ∙ (owed-before cells (events u v) (events v w ++ events w x) (never-join reads_pace (events v w) (events w x) k.unread last-unread) ∙ (q ∙ ap Some (sym k.quota_is)));
        early =
            ap (λ es. owed_seen cells (until_first pops es)) all
            ∙ (ap (owed_seen cells) (until-longer pops (events u v) (events v w ++ events w x) (untaken reads_number pops number-unpopped (events u v) o))
            ∙ (owed-before cells (events u v) (until_first pops (events v w ++ events w x)) (until-never pops reads_pace (events v w ++ events w x) (never-join reads_pace (events v w) (events w x) k.unread last-unread)) ∙ (q ∙ ap Some (sym k.quota_is))));
        most = subst (λ n. p.done ≤ n) (sym k.quota_is) k.most;
        done = counted;
        short = subst (λ n. n ≤ 1024) (sym k.quota_is) short;
        looked = looked;
        stopped = stops-as p.stopped p.quota p.done u x unclaimed stops;
        told = raised;
        changed = record { ran = ran-join u v x r tail; all = changed };
      }

-- the section stays
pub pays-kept : (step : Step) → pays_cells step ≡ true → changes_section step ≡ false
pays-kept (AddStat which by down) e = refl
pays-kept (ReadStat which) e = refl
pays-kept step e = traces-kept step e
