-- A whole trace, from its parts.
use Rattle.std.proofs.Common.{ℕ, ◌≡◌, ◌+◌, List, [], ◌∷◌, ◌++◌, refl, sym, ap, ◌∙◌, subst, cond, Bool, true, false, Some, None, Option, eq-eqb, append_assoc, arith}
use Rattle.std.specs.Prelude.{◌==◌, ◌||◌, ◌&&◌}
use Rattle.std.specs.List.{list_all, list_any, AllPairs}
use Rattle.std.proofs.Math.Logic.{∥∥₁_elim}
use Rattle.std.proofs.Props.{props}
use Rattle.std.proofs.lemmas.Bool.{and_from, and_parts, not_from_false, or_left, or_parts, or_right, false≢true, or_from}
use Rattle.mark_core.specs.Effects.{seat_after}
use Rattle.mark_core.specs.Held.{Slots}
use Rattle.mark_core.specs.WellFormed.{IsApart}
use Rattle.mark_core.specs.Seats.{is_the, work_in_hand}
use Rattle.mark_core.specs.declared.kinds.Shape.{Shape}
use Rattle.mark_core.specs.declared.kinds.Step.{Step}
use Rattle.mark_core.specs.declared.kinds.Step.TheVariants.{DirtyCard, Give, Pop, Push, ReadAlloc, ReadField, SetMark, Reserve, Take, Credit, Look, StoreLength, ReadLength}
use Rattle.mark_core.specs.declared.seat.SeatState.{SeatState}
use Rattle.gc_table.specs.declared.view.Entry.{Entry}
use Rattle.gc_table.specs.declared.view.View.{View}
use Rattle.gc_table.specs.Taking.{after}
use Rattle.packet_pools.specs.declared.held.Held.{Held}
use Rattle.gc_table.specs.Rule.{IsPossible}
use Rattle.gc_table.specs.Running.{after_all}
use Rattle.packet_pools.specs.Keeping.{all_keep, keeps_cells}
use Rattle.packet_pools.specs.OnlyTraced.{OnlyTraced}
use Rattle.gc_table.specs.Log.{events}
use Rattle.packet_pools.specs.Tracing.{Traces}
use Rattle.packet_pools.specs.Seeking.{NoInput, input_pools, only_moves, some_event}
use Rattle.packet_pools.specs.Counts.{count_of, dirties}
use Rattle.gc_table.proofs.History.Log.{events-join, grows-join}
use Rattle.gc_table.proofs.Running.{after-join}
use Rattle.tracer.specs.declared.packets.Packets.{Packets}
use Rattle.tracer.specs.Hands.{Carries, in_front, HasNoCell, IsIdle, KeepsRecord, no_packets, packet_of, packets_of}
use Rattle.tracer.specs.Deferral.{Defers, waits, waits_on, pops_from, pops_waiting}
use Rattle.tracer.specs.Tally.{count_by, only_traces, spills, Tally, is_trace_step}
use Rattle.tracer.specs.Causes.{FoundNoWork}
use Rattle.tracer.specs.Searched.{DirtiesOnceTried}
use Rattle.tracer.specs.Moments.{Moment, at_some_moment, begins, finds_no_work, is_spent_slot}
use Rattle.tracer.specs.Parts.{SearchedInVain, Did}
use Rattle.tracer.proofs.Carried.{AllAre, held-is}
use Rattle.tracer.proofs.Hand.{free-of, none-of}
use Rattle.tracer.proofs.Moments.{all-spent, at-moment, input-front, moment-after, moment-state, moment-waits}

-- What the events of a trace say, as more events come.
pub waits-join : (p : ℕ) (xs ys : List Entry) (v : View) (b : Bool) → waits p v (xs ++ ys) b ≡ waits p (after_all xs v) ys (waits p v xs b)
waits-join p [] ys v b = refl
waits-join p (x ∷ xs) ys v b = waits-join p xs ys (after x.step x.found v) (waits_on p v.state x.step b)

pub popped-join : (p : ℕ) (xs ys : List Entry) (v : View) (b : Bool) → pops_waiting p v xs b ≡ false → pops_waiting p (after_all xs v) ys (waits p v xs b) ≡ false → pops_waiting p v (xs ++ ys) b ≡ false
popped-join p [] ys v b f g = g
popped-join p (x ∷ xs) ys v b f g = let h = or_parts (b && pops_from p x.step) (pops_waiting p (after x.step x.found v) xs (waits_on p v.state x.step b)) f in or_from _ _ h.0 (popped-join p xs ys (after x.step x.found v) (waits_on p v.state x.step b) h.1 g)

pub none-join : (f : Step → ℕ → Bool) (xs ys : List Entry) → some_event f xs ≡ false → some_event f ys ≡ false → some_event f (xs ++ ys) ≡ false
none-join f [] ys a b = b
none-join f (x ∷ xs) ys a b = let h = or_parts (f x.step x.found) (some_event f xs) a in or_from _ _ h.0 (none-join f xs ys h.1 b)

pub by-join : (f : SeatState → Step → Bool) (xs ys : List Entry) (v : View) → count_by f v (xs ++ ys) ≡ count_by f v xs + count_by f (after_all xs v) ys
by-join f [] ys v = omega arith
by-join f (x ∷ xs) ys v = let e = by-join f xs ys (after x.step x.found v) in omega (arith, e)

pub traces-join : (xs ys : List Entry) → only_traces xs ≡ true → only_traces ys ≡ true → only_traces (xs ++ ys) ≡ true
traces-join [] ys a b = b
traces-join (x ∷ xs) ys a b = let h = and_parts (is_trace_step x.step) (only_traces xs) a in and_from _ _ h.0 (traces-join xs ys h.1 b)

-- a card is dirtied only for a cell in hand
spill-one : (s : SeatState) (step : Step) (n : ℕ) → keeps_cells s step ≡ true → spills s step ≡ dirties step n
spill-one s (DirtyCard card) n k = k
spill-one s step n k = refl

spill-all : (v : View) (es : List Entry) → all_keep v es ≡ true → count_by spills v es ≡ count_of dirties es
spill-all v [] k = refl
spill-all v (e ∷ es) k =
    let h = and_parts (keeps_cells v.state e.step) (all_keep (after e.step e.found v) es) k in
    λ i. cond (spill-one v.state e.step e.found h.0 i) 1 0 + spill-all (after e.step e.found v) es h.1 i

module _ (sh : Shape) (d f l : ℕ) (v w : View) (shape : v.shape ≡ sh) (later : OnlyTraced v w) (p : Did None None d f l v (events v w)) where
  pub tally-of : DirtiesOnceTried sh [] (events v w) → Tally d f l v w
  tally-of cause =
      record {
        done = p.done;
        deferred = p.deferred;
        overflowed = spill-all v (events v w) (later.cells refl) ∙ p.dirtied;
        dirtied = p.dirtied;
        steps = p.steps;
        cause = subst (λ (s : Shape). DirtiesOnceTried s [] (events v w)) (sym shape) cause;
      }

  pub deferral-of : Defers v w
  deferral-of = record { given = p.waiting; kept = p.kept; undeferred = p.undeferred }

-- no card comes to be owed
trace-owes : (sh : Shape) (s : SeatState) (step : Step) (n : ℕ) → is_trace_step step ≡ true → s.owes ≡ None → (seat_after sh s step n).owes ≡ None
trace-owes sh s (DirtyCard card) n t e = ap (λ (o : Option ℕ). cond (is_the o card) None o) e
trace-owes sh s (Push p c) n t e = e
trace-owes sh s (Pop p) n t e = e
trace-owes sh s (ReadAlloc b) n t e = e
trace-owes sh s (ReadField c i) n t e = e
trace-owes sh s (SetMark c) n t e = e
trace-owes sh s (Give p d) n t e = e
trace-owes sh s Reserve n t e = e
trace-owes sh s (Take q p) n t e = e
trace-owes sh s Credit n t e = e
trace-owes sh s (Look q g) n t e = e
trace-owes sh s (StoreLength p) n t e = e
trace-owes sh s (ReadLength p) n t e = e
trace-owes sh s step n t e = absurd (false≢true t)

all-owe : (es : List Entry) (v : View) → only_traces es ≡ true → v.state.owes ≡ None → (after_all es v).state.owes ≡ None
all-owe [] v t e = e
all-owe (x ∷ es) v t e = let h = and_parts (is_trace_step x.step) (only_traces es) t in all-owe es (after x.step x.found v) h.1 (trace-owes v.shape v.state x.step x.found h.0 e)

pub traces-owe : (v w : View) → OnlyTraced v w → only_traces (events v w) ≡ true → v.state.owes ≡ None → w.state.owes ≡ None
traces-owe v w l steps e = ap (λ (z : View). z.state.owes) l.ran.steps ∙ all-owe (events v w) v steps e

idle-popped : (fields : ℕ) (s : SeatState) → work_in_hand fields s ≡ false → s.popped ≡ None
idle-popped fields s e = none-of s.popped (or_parts _ _ (or_parts _ _ (or_parts _ _ (or_parts _ _ e).0).0).0).0

-- but for what tracing leaves, the record is as it was
pub keeps-record : (v w : View) → OnlyTraced v w → Traces v → Traces w → IsIdle v → IsIdle w → (v.state.owes ≡ None → w.state.owes ≡ None) → KeepsRecord v w
keeps-record v w l t u a b owes =
    let f = free-of v.shape.fields v.state a.work in
    let g = free-of w.shape.fields w.state b.work in
    record {
      same =
          λ i.
          record (l.rest i) {
            held = (b.held ∙ sym a.held) i;
            reserved = (u.unreserved ∙ sym t.unreserved) i;
            credit = (u.uncredited ∙ sym t.uncredited) i;
            popped = (idle-popped w.shape.fields w.state b.work ∙ sym (idle-popped v.shape.fields v.state a.work)) i;
            scan = w.state.scan;
            value = (none-of w.state.value g.value ∙ sym (none-of v.state.value f.value)) i;
            fresh = (none-of w.state.fresh g.fresh ∙ sym (none-of v.state.fresh f.fresh)) i;
            owes = w.state.owes;
            cleaning = w.state.cleaning;
          };
      owes = owes;
    }

pub append-none : {X : Type 0} (xs : List X) → xs ≡ xs ++ []
append-none [] = refl
append-none (x ∷ xs) = ap (λ l. x ∷ l) (append-none xs)

none-held : (ps : List ℕ) (hs : Slots) → hs ≡ no_packets → list_all (is_spent_slot ps) hs ≡ true
none-held ps hs e = ap (list_all (is_spent_slot ps)) e

-- nothing was found at the start
pub found-none : (sh : Shape) (v w : View) → v.shape ≡ sh → IsIdle v → NoInput sh (events v w) → only_moves input_pools (events v w) ≡ true → FoundNoWork v w
found-none sh v w shape a none moves =
    ap (at_some_moment v.shape (finds_no_work v.shape) (begins v)) (append-none (events v w))
    ∙ at-moment v.shape (finds_no_work v.shape) (begins v) [] (events v w ++ [])
    (and_from _ _ (and_from _ _ (not_from_false _ a.work) (none-held [] v.state.held a.held)) (input-front v.shape (events v w) [] (subst (λ s. NoInput s (events v w)) (sym shape) none) moves))

-- a search that makes no packet wait, and none stop
still-both : (p : ℕ) (v : View) (es : List Entry) (b : Bool) → ((o : Option ℕ) (p : ℕ) → waits p v es (is_the o p) ≡ is_the o p) → waits p v es b ≡ b
still-both p v es true s = ap (waits p v es) (sym (eq-eqb p p refl)) ∙ (s (Some p) p ∙ eq-eqb p p refl)
still-both p v es false s = s None p

-- a packet is empty, or one of these
abbrev is_spent : List ℕ → ℕ → ℕ → Type 0
is_spent ps p n = ((n == 0) || list_any (λ x. x == p) ps) ≡ true

-- each packet in hand is
hand-left : (x : Packets) (ps : List ℕ) → x.input.length ≡ 0 → HasNoCell x.output → ((p : ℕ) → is_the (packet_of x.deferred) p ≡ true → list_any (λ y. y == p) ps ≡ true) → AllAre (is_spent ps) (packets_of x)
hand-left x ps i o w = (empty x.input i, first x.output x.deferred o w)
  where
    empty : (h : Held) → h.length ≡ 0 → is_spent ps h.packet h.length
    empty h e = or_left _ _ (ap (λ n. n == 0) e)

    second : (d : Option Held) → ((p : ℕ) → is_the (packet_of d) p ≡ true → list_any (λ y. y == p) ps ≡ true) → AllAre (is_spent ps) (in_front d [])
    second None w = tt
    second (Some h) w = (or_right _ _ (w h.packet (eq-eqb h.packet h.packet refl)), tt)

    first : (o d : Option Held) → HasNoCell o → ((p : ℕ) → is_the (packet_of d) p ≡ true → list_any (λ y. y == p) ps ≡ true) → AllAre (is_spent ps) (in_front o (in_front d []))
    first None d e w = second d w
    first (Some k) d e w = (empty k e, second d w)

held-apart : (v : View) → ∥ IsPossible v ∥₁ → AllPairs IsApart v.state.held
held-apart v q i j d k l = ∥∥₁_elim q (Prim.hlevel props) (λ (p : IsPossible v). (p.whole.core.formed.seats p.index v.state p.agrees.seat).held.apart i j d k l)

-- a trace that begins, goes on until nothing is found, and gives its packets back
module _ (sh : Shape) (x : Packets) (o : Option ℕ) (d f l : ℕ) (u v w y : View) (shape : u.shape ≡ sh) (a : OnlyTraced u v) (b : OnlyTraced v w) (c : OnlyTraced w y) (first : Did None None 0 0 0 u (events u v)) (main : Did None (packet_of x.deferred) d f l v (events v w)) (e : SearchedInVain sh x v w) (k : Carries (packets_of x) w) (possible : ∥ IsPossible w ∥₁) (work : work_in_hand u.shape.fields w.state ≡ false) where
  abbrev earlier : List Entry
  earlier = events u v ++ e.before

  -- the moment at which the search in vain began
  abbrev then : Moment
  then = moment-after u.shape (begins u) earlier

  at-end : then.state ≡ w.state
  at-end = moment-state u [] earlier ∙ (ap (λ (z : View). z.state) (after-join (events u v) e.before u) ∙ (ap (λ z. (after_all e.before z).state) (sym a.ran.steps) ∙ e.state))

  waits-before : (p : ℕ) → waits p v e.before false ≡ is_the (packet_of x.deferred) p
  waits-before p =
      sym (still-both p (after_all e.before v) e.search (waits p v e.before false) e.still)
      ∙ (sym (waits-join p e.before e.search v false) ∙ (ap (λ es. waits p v es false) (sym e.all) ∙ main.waiting p))

  waits-all : (p : ℕ) → list_any (λ y. y == p) then.deferring ≡ is_the (packet_of x.deferred) p
  waits-all p =
      moment-waits p u [] earlier
      ∙ (waits-join p (events u v) e.before u false ∙ ((λ i. waits p (sym a.ran.steps i) e.before (first.waiting p i)) ∙ waits-before p))

  spent : list_all (is_spent_slot then.deferring) then.state.held ≡ true
  spent =
      ap (λ (s : SeatState). list_all (is_spent_slot then.deferring) s.held) at-end
      ∙ all-spent then.deferring w.state.held (held-apart w possible)
      (λ p h. held-is (is_spent then.deferring) (packets_of x) w.state.held p (hand-left x then.deferring e.input e.output (λ q is. waits-all q ∙ is)) k.held h)

  whole : events u y ≡ earlier ++ (e.search ++ events w y)
  whole =
      events-join u w y (grows-join u v w a.log b.log) c.log
      ∙ (ap (λ es. es ++ events w y) (events-join u v w a.log b.log ∙ ap (λ es. events u v ++ es) e.all)
      ∙ (ap (λ es. es ++ events w y) (sym (append_assoc (events u v) e.before e.search)) ∙ append_assoc (events u v ++ e.before) e.search (events w y)))

  pub found-end : FoundNoWork u y
  found-end =
      ap (at_some_moment u.shape (finds_no_work u.shape) (begins u)) whole
      ∙ at-moment u.shape (finds_no_work u.shape) (begins u) earlier (e.search ++ events w y)
      (and_from _ _ (and_from _ _ (not_from_false _ (ap (work_in_hand u.shape.fields) at-end ∙ work)) spent) (input-front u.shape e.search (events w y) (subst (λ s. NoInput s e.search) (sym shape) e.none) e.moves))
