-- What a mutator has done since it asked for a stop, from one step of its collection to the next.
use Rattle.std.proofs.Common.{ℕ, ◌≡◌, ◌+◌, ◌++◌, ◌&&◌, ◌||◌, List, [], ◌∷◌, arith, refl, sym, ap, ◌∙◌, subst, Bool, true, false, not, Some, ⊎_elim}
use Rattle.std.specs.Prelude.{if◌then◌else◌, IsFalse, IsTrue}
use Rattle.std.proofs.Math.Bool.{Bool-set}
use Rattle.std.proofs.Math.Logic.{∥∥₁_elim, ∥∥₁_map}
use Rattle.std.proofs.lemmas.Bool.{false≢true, not-true, or_from, true≢false}
use Rattle.std.specs.Bool.{OnFalse, OnTrue}
use Rattle.mark_core.specs.Seats.{saw}
use Rattle.mark_core.specs.declared.kinds.Phase.{Phase}
use Rattle.mark_core.specs.declared.kinds.Phase.TheVariants.{Clear, Drain, Full, Idle, Marking, Sweep}
use Rattle.mark_core.specs.declared.kinds.Shape.{Shape}
use Rattle.mark_core.specs.declared.kinds.Step.{Step}
use Rattle.mark_core.specs.declared.kinds.Step.TheVariants.{RaiseStep, StorePhase}
use Rattle.gc_table.specs.Log.{Only, all_steps, event, events}
use Rattle.gc_table.specs.Running.{Ran}
use Rattle.gc_table.specs.Seats.{Sits, view_of}
use Rattle.gc_table.specs.declared.seat.Heap.{Heap}
use Rattle.gc_table.specs.declared.seat.HeapSeat.{HeapSeat}
use Rattle.gc_table.specs.declared.view.Entry.{Entry}
use Rattle.gc_table.specs.declared.view.View.{View}
use Rattle.gc_table.proofs.History.Log.{events-none}
use Rattle.gc_table.proofs.Running.{ran-events, ran-join, ran-refl}
use Rattle.packet_pools.specs.Counts.{count_of}
use Rattle.packet_pools.specs.Fields.{picked}
use Rattle.packet_pools.specs.Seeking.{some_event}
use Rattle.garbage_laws.specs.Calls.{ended_cycle}
use Rattle.garbage_laws.specs.Garbage.{ends_cycle as moves_to_idle}
use Rattle.garbage_laws.proofs.Calls.{calls_free_garbage}
use Rattle.gc_cycle.specs.Collecting.{HoldsWorld}
use Rattle.gc_cycle.specs.Courses.{TakesCourse, goes_on, phase_stored}
use Rattle.gc_cycle.specs.Cycles.{collects_exactly}
use Rattle.gc_cycle.specs.Events.{never}
use Rattle.gc_cycle.specs.Finishing.{IsMove, IsPart, stays_in}
use Rattle.gc_cycle.specs.Moments.{begins}
use Rattle.gc_cycle.specs.Pieces.{HasCollectedSince}
use Rattle.gc_cycle.specs.Sorts.{ends_cycle, raises_flag}
use Rattle.gc_cycle.specs.Stepping.{AsksOnce, FindsRunning, FindsStopped, IsExactSince}
use Rattle.gc_cycle.proofs.Ends.Completing.{part-exact}
use Rattle.gc_cycle.proofs.Sequences.{count-none, none-of-steps, some-none}
use Rattle.gc_cycle.proofs.Stops.Admitted.{count-run}
use Rattle.seat_steps.specs.Asked.{CountsSinceAsked, HasAsked, MarksSinceAsked, SweepsSinceAsked, WaitsSinceAsked}
use Rattle.seat_steps.specs.Course.{CollectsSinceAsked}

-- it asked now
pub asked-now : (done : ℕ) (yours : Bool) (v w : View) → Ran v w → AsksOnce done yours v w → yours ≡ true → WaitsSinceAsked w
asked-now done yours v w r a e =
    ∣ (v, record { done = done; asked = w; asks = subst (λ (b : Bool). AsksOnce done b v w) e a; began = r; ran = ran-refl w; calm = ap (never raises_flag) (events-none w); ends = ap (count_of ends_cycle) (events-none w) }) ∣₁

-- for no stop since, while so many cycles ended
asked_then : (k n m : ℕ) (u v w : View) → m ≡ k + n → HasAsked k u v → Ran v w → never raises_flag (events v w) ≡ true → count_of ends_cycle (events v w) ≡ n → HasAsked m u w
asked_then k n m u v w sum a r calm ended =
    let all = count-run ends_cycle a.asked v w a.ran r in
    let before = a.ends in
    record {
      done = a.done;
      asked = a.asked;
      asks = a.asks;
      began = a.began;
      ran = ran-join a.asked v w a.ran r;
      calm =
          ap not
          (ap (some_event raises_flag) (ran-events a.asked v w a.ran r)
          ∙ some-none raises_flag (events a.asked v) (events v w) (not-true (some_event raises_flag (events a.asked v)) a.calm) (not-true (some_event raises_flag (events v w)) calm));
      ends = omega (arith, sum, all, before, ended);
    }

-- it asked for no stop, and ended no cycle
abbrev Calm : View → View → Type 0
Calm v w = (never raises_flag (events v w) ≡ true) × (count_of ends_cycle (events v w) ≡ 0)

asked_on : (k : ℕ) (u v w : View) → HasAsked k u v → Ran v w → Calm v w → HasAsked k u w
asked_on k u v w a r c = asked_then k 0 k u v w (omega arith) a r c.0 c.1

asked_ran : (k : ℕ) (u v : View) → HasAsked k u v → Ran u v
asked_ran k u v a = ran-join u a.asked v a.began a.ran

-- steps that ask for no stop
goes_quiet : (step : Step) (n : ℕ) → goes_on step ≡ true → raises_flag step n ≡ false
goes_quiet RaiseStep n e = absurd (false≢true e)
goes_quiet step n e = refl

-- one of the phases is Idle
abbrev idles : List Phase → Bool
idles [] = false
idles (Idle ∷ ps) = true
idles (p ∷ ps) = idles ps

goes_unended : (step : Step) (n : ℕ) (ps : List Phase) → idles (phase_stored step n ++ ps) ≡ false → (ends_cycle step n ≡ false) × (idles ps ≡ false)
goes_unended (StorePhase Idle) n ps e = absurd (true≢false e)
goes_unended (StorePhase Marking) n ps e = (refl, e)
goes_unended (StorePhase Drain) n ps e = (refl, e)
goes_unended (StorePhase Sweep) n ps e = (refl, e)
goes_unended (StorePhase Clear) n ps e = (refl, e)
goes_unended (StorePhase Full) n ps e = (refl, e)
goes_unended step n ps e = (refl, e)

unended : (es : List Entry) → idles (picked phase_stored es) ≡ false → some_event ends_cycle es ≡ false
unended [] e = refl
unended (x ∷ es) e = let p = goes_unended x.step x.found (picked phase_stored es) e in or_from (ends_cycle x.step x.found) (some_event ends_cycle es) p.0 (unended es p.1)

course_calm : (ps : List Phase) (ss : List Step) (v w : View) → idles ps ≡ false → TakesCourse ps ss v w → Calm v w
course_calm ps ss v w e c = (ap not (none-of-steps goes_on raises_flag goes_quiet (events v w) c.only), count-none ends_cycle (events v w) (unended (events v w) (ap idles c.moved ∙ e)))

stays_quiet : (p : Phase) (step : Step) (n : ℕ) → stays_in p step ≡ true → raises_flag step n ≡ false
stays_quiet p RaiseStep n e = absurd (false≢true e)
stays_quiet p step n e = refl

stays_unended : (p : Phase) (step : Step) (n : ℕ) → stays_in p step ≡ true → ends_cycle step n ≡ false
stays_unended p (StorePhase to) n e = absurd (false≢true e)
stays_unended p step n e = refl

stays_calm : (p : Phase) (v w : View) → Only (stays_in p) v w → Calm v w
stays_calm p v w o = (
  ap not (none-of-steps (stays_in p) raises_flag (stays_quiet p) (events v w) o),
  count-none ends_cycle (events v w) (none-of-steps (stays_in p) ends_cycle (stays_unended p) (events v w) o),
)

part_calm : (p : Phase) (v w : View) → IsPart p v w → Calm v w
part_calm p v w h = stays_calm p v w h.only

move_calm : (from to : Phase) (v w : View) → ((n : ℕ) → ends_cycle (StorePhase to) n ≡ false) → IsMove from to v w → Calm v w
move_calm from to v w e m = (ap (never raises_flag) m.events_are, ap (count_of ends_cycle) m.events_are ∙ ap (λ (b : Bool). (if b then 1 else 0) + 0) (e m.found))

running_calm : (v w : View) → FindsRunning v w → Calm v w
running_calm v w f = (ap (never raises_flag) f.all, ap (count_of ends_cycle) f.all)

stopped_calm : (v w : View) → FindsStopped v w → Calm v w
stopped_calm v w f = (ap (never raises_flag) f.all, ap (count_of ends_cycle) f.all)

-- still waiting
waits_on : (v w : View) → WaitsSinceAsked v → Ran v w → Calm v w → WaitsSinceAsked w
waits_on v w a r c = ∥∥₁_map a (λ (q : (u : View) × HasAsked 0 u v). (q.0, asked_on 0 q.0 v w q.1 r c))

pub waits-looked : (b : Bool) (P Q : Type 0) (v w : View) → OnTrue b (P × FindsStopped v w) → OnFalse b (Q × FindsRunning v w) → Ran v w → WaitsSinceAsked v → WaitsSinceAsked w
waits-looked true P Q v w s r ran a = waits_on v w a ran (stopped_calm v w s.1)
waits-looked false P Q v w s r ran a = waits_on v w a ran (running_calm v w r.1)

-- a world that was held in no cycle, and not full, was idle
held_idle : (v : View) → HoldsWorld v → (v.state.phase_seen ≡ Some Full → ⊥) → saw v.state.phase_seen Marking ≡ false → v.state.phase_seen ≡ Some Idle
held_idle v h full unmarked =
    ⊎_elim
    (λ (e : h.phase ≡ Idle). h.seen ∙ ap (λ p. Some p) e)
    (⊎_elim
    (λ (e : h.phase ≡ Marking). absurd (true≢false (sym (ap (λ o. saw o Marking) (h.seen ∙ ap (λ p. Some p) e)) ∙ unmarked)))
    (λ (e : h.phase ≡ Full). absurd (full (h.seen ∙ ap (λ p. Some p) e))))
    h.left

-- no cycle was marking, if the collection is exact and isn't to mark once more
unmarked : (precise marking : Bool) → (precise || not marking) ≡ true → (precise && marking) ≡ false → marking ≡ false
unmarked true true e k = absurd (true≢false k)
unmarked false true e k = absurd (false≢true e)
unmarked precise false e k = refl

-- the drain began
pub marks-begun :
    (precise : Bool) (ss : List Step) (v w : View) → HoldsWorld v → (v.state.phase_seen ≡ Some Full → ⊥) → WaitsSinceAsked v → TakesCourse (Drain ∷ []) ss v w → (v.state.phase_seen ≡ Some Idle → (u : View) → Ran u v → IsExactSince u w)
    → MarksSinceAsked (precise || not (saw v.state.phase_seen Marking)) (precise && saw v.state.phase_seen Marking) w
marks-begun precise ss v w h full a c x =
    ∥∥₁_map a (λ (q : (u : View) × HasAsked 0 u v). (
      q.0,
      asked_on 0 q.0 v w q.1 c.changed.ran (course_calm (Drain ∷ []) ss v w refl c),
      λ e k. x (held_idle v h full (unmarked precise (saw v.state.phase_seen Marking) e k)) q.0 (asked_ran 0 q.0 v q.1),
    ))

-- it goes on
pub marks-on : (exact again : Bool) (v w : View) → Ran v w → Only (stays_in Drain) v w → ((u : View) → IsExactSince u v → IsExactSince u w) → MarksSinceAsked exact again v → MarksSinceAsked exact again w
marks-on exact again v w r o x m =
    ∥∥₁_map m (λ (q : (u : View) × HasAsked 0 u v × (IsTrue exact → IsFalse again → IsExactSince u v)). (q.0, asked_on 0 q.0 v w q.1 r (stays_calm Drain v w o), λ e k. x q.0 (q.2 e k)))

-- all marks are taken away
pub clears-begun : (exact again : Bool) (v w : View) → IsMove Drain Clear v w → MarksSinceAsked exact again v → WaitsSinceAsked w
clears-begun exact again v w p m =
    ∥∥₁_map m (λ (q : (u : View) × HasAsked 0 u v × (IsTrue exact → IsFalse again → IsExactSince u v)). (q.0, asked_on 0 q.0 v w q.1 p.ran (move_calm Drain Clear v w (λ n. refl) p)))

pub clears-on : (v w : View) → IsPart Clear v w → WaitsSinceAsked v → WaitsSinceAsked w
clears-on v w p a = waits_on v w a p.ran (part_calm Clear v w p)

-- it began once more
pub marks-again : (exact : Bool) (ss : List Step) (v w : View) → TakesCourse (Drain ∷ []) ss v w → ((u : View) → Ran u v → IsExactSince u w) → WaitsSinceAsked v → MarksSinceAsked exact false w
marks-again exact ss v w c x m =
    ∥∥₁_map m (λ (q : (u : View) × HasAsked 0 u v). (q.0, asked_on 0 q.0 v w q.1 c.changed.ran (course_calm (Drain ∷ []) ss v w refl c), λ e k. x q.0 (asked_ran 0 q.0 v q.1)))

-- the sweep
pub sweeps-begun : (exact : Bool) (v w : View) → IsMove Drain Sweep v w → ((u : View) → IsExactSince u v → IsExactSince u w) → MarksSinceAsked exact false v → SweepsSinceAsked exact w
sweeps-begun exact v w p x m =
    ∥∥₁_map m (λ (q : (u : View) × HasAsked 0 u v × (IsTrue exact → IsFalse false → IsExactSince u v)). (q.0, asked_on 0 q.0 v w q.1 p.ran (move_calm Drain Sweep v w (λ n. refl) p), λ e. x q.0 (q.2 e refl)))

pub sweeps-on : (exact : Bool) (v w : View) → Ran v w → Only (stays_in Sweep) v w → ((u : View) → IsExactSince u v → IsExactSince u w) → SweepsSinceAsked exact v → SweepsSinceAsked exact w
sweeps-on exact v w r o x s =
    ∥∥₁_map s (λ (q : (u : View) × HasAsked 0 u v × (IsTrue exact → IsExactSince u v)). (q.0, asked_on 0 q.0 v w q.1 r (stays_calm Sweep v w o), λ e. x q.0 (q.2 e)))

-- the cycle ended
ends_one : (v w : View) → IsMove Sweep Idle v w → count_of ends_cycle (events v w) ≡ 1
ends_one v w m = ap (count_of ends_cycle) (m.events_are ∙ ap (λ n. event (StorePhase Idle) n ∷ []) m.from_is)

pub counts-begun : (exact : Bool) (v w : View) → IsMove Sweep Idle v w → ((u : View) → IsExactSince u v → HasCollectedSince u w × (w.state.exact ≡ true)) → SweepsSinceAsked exact v → CountsSinceAsked exact w
counts-begun exact v w p x s = (
  ∥∥₁_map s (λ (q : (u : View) × HasAsked 0 u v × (IsTrue exact → IsExactSince u v)). (q.0, asked_then 0 1 1 q.0 v w refl q.1 p.ran (ap (never raises_flag) p.events_are) (ends_one v w p), λ e. (x q.0 (q.2 e)).0)),
  λ e. ∥∥₁_elim s (Bool-set _ _) (λ (q : (u : View) × HasAsked 0 u v × (IsTrue exact → IsExactSince u v)). (x q.0 (q.2 e)).1),
)

pub counts-on : (exact : Bool) (v w : View) → IsPart Idle v w → ((u : View) → HasCollectedSince u v → HasCollectedSince u w) → CountsSinceAsked exact v → CountsSinceAsked exact w
counts-on exact v w p x s = (
  ∥∥₁_map s.0 (λ (q : (u : View) × HasAsked 1 u v × (IsTrue exact → HasCollectedSince u v)). (q.0, asked_on 1 q.0 v w q.1 p.ran (part_calm Idle v w p), λ e. x q.0 (q.2 e))),
  λ e. part-exact Idle v w p ∙ s.1 e,
)

-- whoever ended one cycle moved the phase to Idle
unmoved : (step : Step) (n : ℕ) → not (moves_to_idle step) ≡ true → ends_cycle step n ≡ false
unmoved (StorePhase Idle) n e = absurd (false≢true e)
unmoved (StorePhase Marking) n e = refl
unmoved (StorePhase Drain) n e = refl
unmoved (StorePhase Clear) n e = refl
unmoved (StorePhase Sweep) n e = refl
unmoved (StorePhase Full) n e = refl
unmoved step n e = refl

moved_one : (es : List Entry) (b : Bool) → all_steps (λ step. not (moves_to_idle step)) es ≡ b → count_of ends_cycle es ≡ 1 → ended_cycle es ≡ true
moved_one es true all one = let none = count-none ends_cycle es (none-of-steps (λ step. not (moves_to_idle step)) ends_cycle unmoved es all) in absurd (omega (arith, none, one))
moved_one es false all one = ap not all

pub collects-all :
    (exact : Bool) (h : Heap) (ss : List Step) (v : View) (y : HeapSeat) → Sits h y → TakesCourse [] ss v (view_of y) → ((u : View) → HasCollectedSince u v → collects_exactly h.shape (begins u) (events u (view_of y)) ≡ true) → CountsSinceAsked exact v
    → ∥ CollectsSinceAsked exact (view_of y) ∥₁
collects-all exact h ss v y sits c k s =
    let w : View = view_of y in
    ∥∥₁_map s.0
    (λ (q : (u : View) × HasAsked 1 u v × (IsTrue exact → HasCollectedSince u v)).
    let a : HasAsked 1 q.0 w = asked_on 1 q.0 v w q.1 c.changed.ran (course_calm [] ss v w refl c) in
    record {
      start = q.0;
      asked = a;
      frees = calls_free_garbage a.asked w a.ran (moved_one (events a.asked w) _ refl a.ends);
      collects = λ e. subst (λ (sh : Shape). collects_exactly sh (begins q.0) (events q.0 w) ≡ true) (sym sits.1) (k q.0 (q.2 e));
    })
