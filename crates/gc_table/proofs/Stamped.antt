-- What seats of an open heap have seen is one run, whose parts are the logs of all who took stamps for it.
use Rattle.std.proofs.Common.{ℕ, ◌≡◌, ◌≤◌, List, [], ◌∷◌, ◌++◌, length, take, refl, sym, ap, ◌∙◌, subst, append_assoc}
use Rattle.std.proofs.Math.Logic.{∥∥₁_map, ∥∥₁_map₂}
use Rattle.atomic_table.specs.Table.{State}
use Rattle.plain_heap.specs.declared.operation.Op.{Op}
use Rattle.mark_core.specs.Laws.{IsCore}
use Rattle.mark_core.specs.Steps.{Core, after_event, start_core}
use Rattle.mark_core.specs.declared.kinds.Event.{Event}
use Rattle.mark_core.specs.declared.kinds.Shape.{Shape}
use Rattle.gc_table.specs.Agreement.{AgreesWith}
use Rattle.gc_table.specs.Past.{IsLogged, adds, log_from, log_of}
use Rattle.gc_table.specs.Rule.{Agrees, Holds, IsState, Leads, table_state}
use Rattle.gc_table.specs.Runs.{AreAllowed}
use Rattle.gc_table.specs.RunWorlds.{start_world}
use Rattle.gc_table.specs.Seats.{seen_of, view_of}
use Rattle.gc_table.specs.Seen.{Begins, IsHistory, OneHistory, Recalls, rank, seats_in, seats_of}
use Rattle.gc_table.specs.TableState.{TableState, start_state}
use Rattle.gc_table.specs.declared.view.Entry.{Entry}
use Rattle.gc_table.specs.declared.view.TokenState.{TokenState}
use Rattle.gc_table.specs.OpenRuns.{IsOpenRun, IsSeatAt, LogBegins, SeatsSeeRuns, SeatsShareRun, StepsFollow}
use Rattle.gc_table.specs.Stamps.{OrderKept, StampsShareRuns, seen_by_stamp, stamp_view}
use Rattle.gc_table.proofs.Freeing.{allowed}
use Rattle.gc_table.proofs.History.Past.{log-none, run-sound}
use Rattle.gc_table.proofs.Kept.{agrees-starts}
use Rattle.gc_table.proofs.Lending.{Sound, agree-on, tells-on}
use Rattle.gc_table.proofs.Records.{records-length}
use Rattle.gc_table.proofs.Tokens.{rank-apart, seats-get}

pub steps_follow : StepsFollow
steps_follow k l m first second a b p q = subst (λ (es : List Event). Begins es q.0.past) p.2 q.1

-- a log grows with the history
log_split : (i : ℕ) (c : Core) (es fs : List Event) → (more : List Entry) × (log_from i c (es ++ fs) ≡ log_from i c es ++ more)
log_split i c [] fs = (log_from i c fs, refl)
log_split i c (e ∷ es) fs =
    let rest = log_split i (after_event c e) es fs in
    (rest.0, ap (λ l. adds i c e ++ l) rest.1 ∙ sym (append_assoc (adds i c e) (log_from i (after_event c e) es) rest.0))

-- the first state met the rule too
first_whole : (es : List Event) (x y : TableState) → Leads es x y → IsState y → IsState x
first_whole [] x y l whole = subst IsState (sym l) whole
first_whole (e ∷ es) x y l whole = l.0

-- a history is a run
pub history-runs : (sh : Shape) (plan : List (List Op)) (es : List Event) → IsHistory sh plan es → IsOpenRun sh es
history-runs sh plan es h =
    let first : IsState (start_state sh plan 1) = first_whole es (start_state sh plan 1) h.state h.came h.whole in
    let core : IsCore (start_core sh 1) = first.core in
    let sound : Sound (start_core sh 1) es = λ n. run-sound n es (start_core sh 1) core h.led.fit in
    let all : AreAllowed (start_core sh 1) es = allowed 0 es (start_core sh 1) h.led.allowed in
    let start : AgreesWith (start_core sh 1) (start_world sh) = agrees-starts sh 1 core.formed.shaped in
    record {
      allowed = h.led.allowed;
      sound = sound;
      agrees = agree-on es (start_core sh 1) (start_world sh) sound all start;
      tells = tells-on es (start_core sh 1) (start_world sh) sound all start;
    }

pub seats_see_runs : SeatsSeeRuns
seats_see_runs s = ∥∥₁_map s.recalls (λ r. (history-runs (view_of s).shape (view_of s).plan (seen_of s) r.history, r.log))

pub stamps_share_runs : StampsShareRuns
stamps_share_runs s n same b =
    let j : ℕ = (stamp_view n).state.number in
    let q = log_split j (start_core (stamp_view n).shape 1) (seen_by_stamp n) b.0 in
    ∥∥₁_map n.recalls (λ r. (
      q.0,
      ap (λ (es : List Event). log_of (view_of s).shape es j) b.1 ∙ ((λ y. log_of (sym same y) (seen_by_stamp n ++ b.0) j) ∙ (q.1 ∙ ap (λ l. l ++ q.0) (sym r.log))),
    ))

-- a seat's number is its place among the seats
number_is : (sh : Shape) (plan : List (List Op)) (s : State (Unit {0}) TokenState) (o : OneHistory sh plan s) (i : ℕ) (k : TokenState) → IsSeatAt s i k → k.view.state.number ≡ rank s.views i
number_is sh plan s o i k at =
    let j : ℕ = rank s.views i in
    let a : Agrees (table_state sh plan o.holds.sections (seats_in s)) j k.view = o.holds.each j k.view (seats-get s.views i k at.0 at.1) at.2 in
    (o.holds.whole.core.formed.seats j k.view.state a.seat).number

pub seats_share_run : SeatsShareRun
seats_share_run sh plan s o =
    let h : Holds sh plan (seats_in s) = o.holds in
    let x : TableState = table_state sh plan h.sections (seats_in s) in
    let number : (i : ℕ) (k : TokenState) → IsSeatAt s i k → k.view.state.number ≡ rank s.views i = number_is sh plan s o in
    let logged : (i : ℕ) (k : TokenState) → IsSeatAt s i k → IsLogged sh h.past x.core (rank s.views i) k.view = λ i k at. h.logged (rank s.views i) k.view (seats-get s.views i k at.0 at.1) at.2 in
    record {
      run = history-runs sh plan h.past (record { state = x; whole = h.whole; led = h.led; came = h.came });
      parts = λ i k at. (logged i k at).log ∙ ap (log_of sh h.past) (sym (number i k at));
      apart = λ i j k l at there far same. rank-apart s.views i j k l at.0 there.0 at.1 there.1 far (sym (number j l there) ∙ (same ∙ number i k at));
      joined = λ i k at n l has. ((logged i k at).logs n l has).0;
      no_others = λ n far. log-none sh h.past x.core n h.led (subst (λ (m : ℕ). m ≤ n) (sym (records-length sh 0 (seats_of s.views))) far);
      since = o.seen;
    }

take_own : (xs ys : List Event) → take (length xs) (xs ++ ys) ≡ xs
take_own [] ys = refl
take_own (x ∷ xs) ys = ap (λ l. x ∷ l) (take_own xs ys)

order_of : (a b : TokenState) (es : List Event) → Recalls a → Recalls b → a.view.shape ≡ b.view.shape → Begins a.seen b.seen → Begins b.seen es
    → LogBegins a.view.log (log_of b.view.shape (take (length b.seen) es) a.view.state.number) × (log_of b.view.shape (take (length b.seen) es) b.view.state.number ≡ b.view.log)
order_of a b es r q same before after =
    let j : ℕ = a.view.state.number in
    let first : take (length b.seen) es ≡ b.seen = ap (take (length b.seen)) after.1 ∙ take_own b.seen after.0 in
    let more = log_split j (start_core a.view.shape 1) a.seen before.0 in (
      (more.0, ap (λ (l : List Event). log_of b.view.shape l j) (first ∙ before.1) ∙ ((λ y. log_of (sym same y) (a.seen ++ before.0) j) ∙ (more.1 ∙ ap (λ l. l ++ more.0) (sym r.log)))),
      ap (λ (l : List Event). log_of b.view.shape l b.view.state.number) first ∙ sym q.log,
    )

pub order_kept : OrderKept
order_kept a b es same before after = ∥∥₁_map₂ a.recalls b.recalls (λ r q. order_of a.token.me.0 b.token.me.0 es r q same before after)
