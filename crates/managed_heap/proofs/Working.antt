-- What threads have done when a seat ends a cycle is bounded since any earlier moment without a cycle, so since an earlier end of its own.
use Rattle.std.proofs.Common.{ℕ, ◌≡◌, ◌∙◌, List, [], ◌∷◌, ◌++◌, ap, append_assoc, arith, map, refl, subst, sym, None}
use Rattle.std.specs.List.{All}
use Rattle.mark_core.specs.Steps.{Core, first_refused, start_core}
use Rattle.mark_core.specs.declared.kinds.Event.{Event}
use Rattle.mark_core.specs.declared.kinds.Phase.TheVariants.{Idle}
use Rattle.mark_core.specs.declared.kinds.Shape.{Shape}
use Rattle.mark_core.specs.declared.kinds.Step.{Step}
use Rattle.mark_core.specs.declared.kinds.Step.TheVariants.{StorePhase}
use Rattle.mark_core.proofs.CoreKept.{core-starts}
use Rattle.gc_table.specs.Log.{event, events}
use Rattle.gc_table.specs.Running.{after_all, AllSeen, IsSeen, Ran}
use Rattle.gc_table.specs.Taking.{after, Finds}
use Rattle.gc_table.specs.declared.view.Entry.{Entry}
use Rattle.gc_table.specs.declared.view.View.{View}
use Rattle.gc_table.proofs.History.Log.{append-none, events-of}
use Rattle.gc_table.proofs.History.Past.{Fits}
use Rattle.gc_table.proofs.Running.{after-join, ran-after, ran-grows, ran-join, ran-refl}
use Rattle.work_laws.specs.Cycles.{IsIdle}
use Rattle.work_laws.proofs.CycleTables.{cycles_bounded}
use Rattle.managed_heap.specs.Working.{IsEndIn, state_after, WorksFrom, WorksSince, WorksUntil}
use Rattle.managed_heap.proofs.Moments.{head-same, idle-after, Moment, moment-of, tail-same}

-- no cycle is under way after an event of the past that ended one
idle_then : (step : Step) (n : ℕ) (v : View) (f : Finds step n v) (first since : List Event) (e : Event) → f.past ≡ first ++ e ∷ since → e.step ≡ StorePhase Idle → IsIdle (state_after f.state.core.shape (first ++ e ∷ []))
idle_then step n v f first since e parts is =
    let sh : Shape = f.state.core.shape in
    let start : Core = start_core sh 1 in
    let fit : All Fits (first ++ e ∷ since) = subst (All Fits) parts f.led.fit in
    let ok : first_refused 0 (first ++ e ∷ since) start ≡ None = subst (λ (es : List Event). first_refused 0 es start ≡ None) parts f.led.allowed in
    idle-after 0 first since start e (core-starts sh 1 f.whole.core.formed.shaped (omega arith) (omega arith)) is fit ok

pub works-since : (step : Step) (n : ℕ) (v : View) (f : Finds step n v) (own : List Entry) (e : Entry) → IsEndIn own e v.log → WorksSince own e step n v f
works-since step n v f own e h =
    let start : Core = start_core f.state.core.shape 1 in
    let m : Moment f.index f.past start own e = moment-of f.index f.past start own h.later e (sym f.logged.log ∙ h.parts) in
    let idle : IsIdle (state_after f.state.core.shape (m.first ++ m.event ∷ [])) = idle_then step n v f m.first m.since m.event m.parts (m.tells ∙ h.moves) in
    record {
      first = m.first;
      ended = m.event;
      since = m.since;
      parts = m.parts;
      by = m.by;
      moves = m.tells ∙ h.moves;
      place = m.place;
      adds = m.added;
      idle = idle;
      bounded = cycles_bounded.tables step n v f (m.first ++ m.event ∷ []) m.since (m.parts ∙ sym (append_assoc m.first (m.event ∷ []) m.since)) idle;
    }

-- The steps of a call, in two parts.
seen_parts : (es fs : List Entry) (v : View) → AllSeen (es ++ fs) v → AllSeen es v × AllSeen fs (after_all es v)
seen_parts [] fs v seen = (tt, seen)
seen_parts (e ∷ es) fs v seen =
    let rest = seen_parts es fs (after e.step e.found v) seen.1 in
    ((seen.0, rest.0), rest.1)

ran_all : (es : List Entry) (v : View) → AllSeen es v → Ran v (after_all es v)
ran_all [] v seen = ran-refl v
ran_all (e ∷ es) v seen = ran-join v (after e.step e.found v) (after_all es (after e.step e.found v)) (ran-after v (after e.step e.found v) e.step e.found refl seen.0) (ran_all es (after e.step e.found v) seen.1)

-- the entry that a step adds to the log by what it finds
abbrev added : Entry → Entry
added e = event e.step e.found

log_all : (es : List Entry) (v : View) → (after_all es v).log ≡ v.log ++ map added es
log_all [] v = append-none v.log
log_all (e ∷ es) v = log_all es (after e.step e.found v) ∙ append_assoc v.log (added e ∷ []) (map added es)

first_same : (es fs : List Entry) → es ++ fs ≡ map added (es ++ fs) → es ≡ map added es
first_same [] fs same = refl
first_same (e ∷ es) fs same = cons_same e (added e) es (map added es) (head-same e (added e) (es ++ fs) (map added (es ++ fs)) same) (first_same es fs (tail-same e (added e) (es ++ fs) (map added (es ++ fs)) same))
  where
    cons_same : (x y : Entry) (xs ys : List Entry) → x ≡ y → xs ≡ ys → x ∷ xs ≡ y ∷ ys
    cons_same x y xs ys a b = ap (λ (z : Entry). z ∷ xs) a ∙ ap (λ (l : List Entry). y ∷ l) b

-- a call's entries are those that its steps added
call_added : (u w : View) → Ran u w → events u w ≡ map added (events u w)
call_added u w ran = events-of u w (map added (events u w)) (ap (λ (x : View). x.log) ran.steps ∙ log_all (events u w) u)

pub works-until : (u w : View) → Ran u w → (own : List Entry) (e : Entry) → IsEndIn own e (events u w) → WorksUntil own e u w
works-until u w ran own e h =
    let all : List Entry = own ++ e ∷ h.later in
    let seen = seen_parts own (e ∷ h.later) u (subst (λ (es : List Entry). AllSeen es u) h.parts ran.seen) in
    let before : View = after_all own u in
    let here : IsSeen (StorePhase Idle) e.found before = subst (λ (s : Step). IsSeen s e.found before) h.moves seen.1.0 in
    let f : Finds (StorePhase Idle) e.found before = here.found refl in
    let same : own ≡ map added own = first_same own (e ∷ h.later) (subst (λ (es : List Entry). es ≡ map added es) h.parts (call_added u w ran)) in
    let ends : after_all h.later (after e.step e.found before) ≡ w = sym (ran.steps ∙ (ap (λ (es : List Entry). after_all es u) h.parts ∙ after-join own (e ∷ h.later) u)) in
    record {
      before = before;
      finds = f;
      has = log_all own u ∙ ap (λ (l : List Entry). u.log ++ l) (sym same);
      came = ran_all own u seen.0;
      went = subst (λ (x : View). Ran (after (StorePhase Idle) e.found before) x) ends (subst (λ (s : Step). Ran (after s e.found before) (after_all h.later (after e.step e.found before))) h.moves (ran_all h.later (after e.step e.found before) seen.1.1));
      bounded = cycles_bounded.tables (StorePhase Idle) e.found before f;
    }

-- an end in a call is one in the log ever after
end_kept : (u w x : View) (own : List Entry) (e : Entry) → Ran u w → Ran w x → IsEndIn own e (events u w) → IsEndIn (u.log ++ own) e x.log
end_kept u w x own e ran more h =
    let g = ran-grows u w ran in
    let k = ran-grows w x more in
    let new : g.0 ≡ own ++ e ∷ h.later = sym (events-of u w g.0 g.1) ∙ h.parts in
    let log : w.log ≡ (u.log ++ own) ++ e ∷ h.later = g.1 ∙ (ap (λ (l : List Entry). u.log ++ l) new ∙ sym (append_assoc u.log own (e ∷ h.later))) in
    record {
      later = h.later ++ k.0;
      parts = k.1 ∙ (ap (λ (l : List Entry). l ++ k.0) log ∙ append_assoc (u.log ++ own) (e ∷ h.later) k.0);
      moves = h.moves;
    }

pub works-again : (u w x y : View) → Ran u w → Ran w x → Ran x y → (own more : List Entry) (e d : Entry) → IsEndIn own e (events u w) → IsEndIn more d (events x y) → WorksFrom u own e x y more d
works-again u w x y ran between again own more e d ended ends =
    let until : WorksUntil more d x y = works-until x y again more d ends in
    record {
      until = until;
      since = works-since (StorePhase Idle) d.found until.before until.finds (u.log ++ own) e (end_kept u w until.before own e ran (ran-join w x until.before between until.came) ended);
    }
