use Rattle.std.proofs.Common.{ℕ, ◌≡◌, List, [], ◌∷◌, refl, sym, ap, cond, Bool, true, false, not, Some, None, Option, eq-eqb, ◌+◌, inl, inr, ◌∙◌, subst, arith, ⊎_elim}
use Rattle.std.specs.Prelude.{◌&&◌, ◌||◌, ◌==◌, is_some}
use Rattle.std.proofs.lemmas.Bool.{and_from, and_parts, false≢true, or_right}
use Rattle.mark_core.specs.Seats.{is_the, is_unpublished, work_in_hand}
use Rattle.mark_core.specs.Steps.ColourSteps.{popped_off}
use Rattle.mark_core.specs.declared.kinds.Shape.{Shape}
use Rattle.mark_core.specs.declared.kinds.Step.{Step}
use Rattle.mark_core.specs.declared.kinds.Step.TheVariants.{DirtyCard, Give, Pop, Push, ReadAlloc, ReadField, SetMark, Reserve, Take, Credit, Look, StoreLength, ReadLength}
use Rattle.mark_core.specs.declared.seat.SeatState.{SeatState}
use Rattle.gc_table.specs.declared.view.Entry.{Entry}
use Rattle.gc_table.specs.declared.view.View.{View}
use Rattle.gc_table.specs.Taking.{after}
use Rattle.packet_pools.specs.Keeping.{all_keep, keeps_cells}
use Rattle.tracer.specs.Tally.{only_traces, is_trace_step, Tally}
use Rattle.tracer.specs.Ends.{all_end_well, ends_well, fresh_ends, popped_ends, was_clear}
use Rattle.mark_core.specs.Cards.{card_of}
use Rattle.packet_pools.proofs.TracedSteps.{traced-join}
use Rattle.tracer.specs.declared.packets.Packets.{Packets}
use Rattle.tracer.specs.declared.traced.Traced.{Traced}
use Rattle.tracer.specs.Hands.{IsIdle, no_packets, packet_of}
use Rattle.tracer.specs.Parts.{Did}
use Rattle.tracer.proofs.Joined.{did-then}
use Rattle.tracer.proofs.Whole.{found-end, found-none, deferral-of, keeps-record, tally-of, traces-owe}
use Rattle.gc_table.specs.Seats.{view_of}
use Rattle.packet_pools.specs.OnlyTraced.{OnlyTraced}
use Rattle.gc_table.specs.Log.{events}
use Rattle.gc_table.proofs.History.Log.{events-join}
use Rattle.packet_pools.specs.Counts.{count_of, dirties}
use Rattle.packet_pools.specs.declared.search.Search.{Search}
use Rattle.packet_pools.specs.declared.search.Search.TheVariants.{Open}
use Rattle.packet_pools.proofs.Few.{few-sum}
use Rattle.tracer.specs.Searched.{DirtiesOnceTried, IsSearched, Searches}
use Rattle.tracer.specs.StepBounds.{deferring_left, filled_length}
use Rattle.tracer.proofs.Few.{filled-fits, room-most}
use Rattle.tracer.proofs.Searched.{quiet-of, searches-join, searches-still}
use Rattle.tracer.proofs.Spills.{trace-spills}
use Rattle.tracer.proofs.tracing.trace.Goals as goal

-- Cells in hand end as they may, since no step loses one.
fresh-stays : (o : Option ℕ) → fresh_ends o o ≡ false
fresh-stays None = refl
fresh-stays (Some c) = ap not (eq-eqb c c refl)

popped-stays : (o : Option (ℕ × Bool)) → popped_ends o o ≡ false
popped-stays None = refl
popped-stays (Some c) = ap not (eq-eqb c.0 c.0 refl)

-- neither ended
both-stay : (f p a b : Bool) → f ≡ false → p ≡ false → ((not f || a) && (not p || b)) ≡ true
both-stay f p a b e d = λ i. (not (e i) || a) && (not (d i) || b)

none-ends : (o y : Option (ℕ × Bool)) → is_some o ≡ false → popped_ends o y ≡ false
none-ends None y e = refl
none-ends (Some x) y e = absurd (false≢true (sym e))

none-fresh : (o y : Option ℕ) → is_some o ≡ false → fresh_ends o y ≡ false
none-fresh None y e = refl
none-fresh (Some x) y e = absurd (false≢true (sym e))

from-not : (b : Bool) → not b ≡ true → b ≡ false
from-not true e = sym e
from-not false e = refl

-- a popped cell that is pushed was seen unpublished
pushed-clear : (o : Option (ℕ × Bool)) (x : ℕ) (b : Bool) → (b || is_unpublished o x) ≡ true → (not (popped_ends o (cond b o None)) || was_clear o) ≡ true
pushed-clear o x true e = ap (λ (c : Bool). not c || was_clear o) (popped-stays o)
pushed-clear None x false e = refl
pushed-clear (Some y) x false e = or_right (not true) _ (and_parts (y.0 == x) y.1 e).1

dirtied-clear : (o : Option (ℕ × Bool)) (card : ℕ) → (not (popped_ends o (popped_off o card)) || was_clear o) ≡ true
dirtied-clear None card = refl
dirtied-clear (Some y) card = either y.1 (card_of y.0 == card)
  where
    either : (b c : Bool) → (not (popped_ends (Some y) (cond (b && c) None (Some y))) || b) ≡ true
    either true c = or_right (not (popped_ends (Some y) (cond (true && c) None (Some y)))) _ refl
    either false c = ap (λ (d : Bool). not d || false) (popped-stays (Some y))

or-true : (a : Bool) → (a || true) ≡ true
or-true true = refl
or-true false = refl

end-one : (sh : Shape) (s : SeatState) (step : Step) (n : ℕ) → keeps_cells s step ≡ true → is_trace_step step ≡ true → ends_well sh s step n ≡ true
end-one sh s (Push p c) n k t = and_from _ _ (or-true _) (pushed-clear s.popped c (is_the s.fresh c) k)
end-one sh s (DirtyCard card) n k t = and_from _ _ (or-true _) (dirtied-clear s.popped card)
end-one sh s (ReadAlloc b) n k t = and_from _ _ (ap (λ (d : Bool). not d || false) (fresh-stays s.fresh)) (or-true _)
end-one sh s (Pop p) n k t = both-stay _ _ _ _ (fresh-stays s.fresh) (none-ends s.popped _ (from-not _ k))
end-one sh s (SetMark c) n k t = both-stay _ _ _ _ (none-fresh s.fresh _ (from-not _ k)) (popped-stays s.popped)
end-one sh s (ReadField c i) n k t = both-stay _ _ _ _ (fresh-stays s.fresh) (popped-stays s.popped)
end-one sh s (Give p d) n k t = both-stay _ _ _ _ (fresh-stays s.fresh) (popped-stays s.popped)
end-one sh s Reserve n k t = both-stay _ _ _ _ (fresh-stays s.fresh) (popped-stays s.popped)
end-one sh s (Take q p) n k t = both-stay _ _ _ _ (fresh-stays s.fresh) (popped-stays s.popped)
end-one sh s Credit n k t = both-stay _ _ _ _ (fresh-stays s.fresh) (popped-stays s.popped)
end-one sh s (Look q g) n k t = both-stay _ _ _ _ (fresh-stays s.fresh) (popped-stays s.popped)
end-one sh s (StoreLength p) n k t = both-stay _ _ _ _ (fresh-stays s.fresh) (popped-stays s.popped)
end-one sh s (ReadLength p) n k t = both-stay _ _ _ _ (fresh-stays s.fresh) (popped-stays s.popped)
end-one sh s step n k t = absurd (false≢true t)

all-end : (v : View) (es : List Entry) → all_keep v es ≡ true → only_traces es ≡ true → all_end_well v es ≡ true
all-end v [] k t = refl
all-end v (e ∷ es) k t =
    let a = and_parts (keeps_cells v.state e.step) (all_keep (after e.step e.found v) es) k in
    let b = and_parts (is_trace_step e.step) (only_traces es) t in
    and_from _ _ (end-one v.shape v.state e.step e.found a.0 b.0) (all-end (after e.step e.found v) es a.1 b.1)

-- no card was dirtied
none-tried : (sh : Shape) (es : List Entry) → count_of dirties es ≡ 0 → DirtiesOnceTried sh [] es
none-tried sh es none = (searches-still sh Open es (quiet-of es none)).cause [] tt

pub returns-in_default-clause-stopped : goal.returns-in_default-clause-stopped
returns-in_default-clause-stopped c =
    let v : View = view_of c.args.seat.now in
    let w : View = view_of c.begin.new.seat in
    let e = c.in_default.ensures in
    let r = c.without_work.ensures in
    let some = c.if-quota-eq0.false in
    let zero : c.without_work.result.done ≡ 0 = ap (λ (t : Traced). t.done) r in
    inr (ap (λ (t : Traced). t.stopped) r, omega (arith, zero, some), found-none c.args.heap.now.shape v w c.requires.seat.0.1 c.requires.idle e.none.1 e.none.2)

pub returns-in_default-clause-tally : goal.returns-in_default-clause-tally
returns-in_default-clause-tally c =
    let v : View = view_of c.args.seat.now in
    let w : View = view_of c.begin.new.seat in
    let e = c.in_default.ensures in
    subst (λ (t : Traced). Tally t.done t.deferred t.overflowed v w) (sym c.without_work.ensures) (tally-of c.args.heap.now.shape 0 0 0 v w c.requires.seat.0.1 e.only e.part (none-tried c.args.heap.now.shape (events v w) e.part.dirtied))

zero-plus : (n : ℕ) → 0 + n ≡ n
zero-plus n = omega arith

plus-none : (n : ℕ) → n + 0 ≡ n
plus-none n = omega arith

-- packets are taken, cells are traced, and the packets are given back
whole : (d f l : ℕ) (o q : Option ℕ) (v w x y : View) → OnlyTraced v w → OnlyTraced w x → OnlyTraced x y → o ≡ None → Did None None 0 0 0 v (events v w) → Did o q d f l w (events w x) → Did q None 0 0 0 x (events x y) → Did None None d f l v (events v y)
whole d f l o q v w x y a b c none first main last =
    did-then None None None 0 d 0 f 0 l d f l v w y a (traced-join w x y b c) (zero-plus d) (zero-plus f) (zero-plus l) first
    (did-then None q None d 0 f 0 l 0 d f l w x y b c (plus-none d) (plus-none f) (plus-none l) (subst (λ z. Did z q d f l w (events w x)) none main) last)

-- only while cells are traced a card is dirtied
whole-tried : (sh : Shape) (s t : Search) (v w x y : View) → OnlyTraced v w → OnlyTraced w x → OnlyTraced x y → s ≡ Open → count_of dirties (events v w) ≡ 0 → count_of dirties (events x y) ≡ 0 → Searches sh s t (events w x) → DirtiesOnceTried sh [] (events v y)
whole-tried sh s t v w x y a b c anew first last on =
    let later = traced-join w x y b c in
    (searches-join sh s s t (events v w) (events w y) (events v y) (events-join v w y a.log later.log) (searches-still sh s (events v w) (quiet-of (events v w) first))
    (searches-join sh s t t (events w x) (events x y) (events w y) (events-join w x y b.log c.log) on (searches-still sh t (events x y) (quiet-of (events x y) last)))).cause [] (subst (λ z. IsSearched sh z []) (sym anew) tt)

pub returns-clause-only : goal.returns-clause-only
returns-clause-only c =
    let w : View = view_of c.begin.new.seat in
    let x : View = view_of c.trace_all-traced.new.seat in
    let y : View = view_of c.finish.new.seat in
    traced-join (view_of c.args.seat.now) w y c.in-Some.ensures.only (traced-join w x y c.trace_all-traced.ensures.only c.finish.ensures.only)

pub returns-clause-tally : goal.returns-clause-tally
returns-clause-tally c =
    let sh : Shape = c.args.heap.now.shape in
    let v : View = view_of c.args.seat.now in
    let w : View = view_of c.begin.new.seat in
    let x : View = view_of c.trace_all-traced.new.seat in
    let y : View = view_of c.finish.new.seat in
    let t : Traced = c.trace_all-traced.result in
    let e = c.in-Some.ensures in
    let f = c.trace_all-traced.ensures in
    let g = c.finish.ensures in
    tally-of sh t.done t.deferred t.overflowed v y c.requires.seat.0.1 (traced-join v w y e.only (traced-join w x y f.only g.only))
    (whole t.done t.deferred t.overflowed _ _ v w x y e.only f.only g.only (ap packet_of e.some.1) e.part f.part g.part)
    (whole-tried sh c.open.result c.trace_all-traced.new.search v w x y e.only f.only g.only c.open.ensures e.part.dirtied g.part.dirtied f.tried)

pub returns-clause-deferral : goal.returns-clause-deferral
returns-clause-deferral c =
    let sh : Shape = c.args.heap.now.shape in
    let v : View = view_of c.args.seat.now in
    let w : View = view_of c.begin.new.seat in
    let x : View = view_of c.trace_all-traced.new.seat in
    let y : View = view_of c.finish.new.seat in
    let t : Traced = c.trace_all-traced.result in
    let e = c.in-Some.ensures in
    let f = c.trace_all-traced.ensures in
    let g = c.finish.ensures in
    deferral-of sh t.done t.deferred t.overflowed v y c.requires.seat.0.1 (traced-join v w y e.only (traced-join w x y f.only g.only))
    (whole t.done t.deferred t.overflowed _ _ v w x y e.only f.only g.only (ap packet_of e.some.1) e.part f.part g.part)

-- nothing is held, and nothing is in hand
idle-end : (sh : Shape) (v y : View) → y.shape ≡ sh → OnlyTraced v y → v.state.block ≡ None → y.state.held ≡ no_packets → work_in_hand sh.fields y.state ≡ false → IsIdle y
idle-end sh v y shape later block held work =
    record { held = held; work = ap (λ (s : Shape). work_in_hand s.fields y.state) shape ∙ work; block = ap (λ (s : SeatState). s.block) later.rest ∙ block }

pub returns-clause-state : goal.returns-clause-state
returns-clause-state c =
    let sh : Shape = c.args.heap.now.shape in
    let v : View = view_of c.args.seat.now in
    let w : View = view_of c.begin.new.seat in
    let x : View = view_of c.trace_all-traced.new.seat in
    let y : View = view_of c.finish.new.seat in
    let t : Traced = c.trace_all-traced.result in
    let e = c.in-Some.ensures in
    let f = c.trace_all-traced.ensures in
    let g = c.finish.ensures in
    let later : OnlyTraced v y = traced-join v w y e.only (traced-join w x y f.only g.only) in
    keeps-record v y later c.requires.seat.1 g.seat.1 c.requires.idle (idle-end sh v y g.seat.0.1 later c.requires.idle.block g.held g.work)
    (traces-owe v y later (whole t.done t.deferred t.overflowed _ _ v w x y e.only f.only g.only (ap packet_of e.some.1) e.part f.part g.part).steps)

pub returns-clause-stopped : goal.returns-clause-stopped
returns-clause-stopped c =
    let sh : Shape = c.args.heap.now.shape in
    let v : View = view_of c.args.seat.now in
    let w : View = view_of c.begin.new.seat in
    let x : View = view_of c.trace_all-traced.new.seat in
    let y : View = view_of c.finish.new.seat in
    let t : Traced = c.trace_all-traced.result in
    let p : Packets = c.trace_all-traced.new.packets in
    let e = c.in-Some.ensures in
    let f = c.trace_all-traced.ensures in
    let g = c.finish.ensures in
    ⊎_elim
    (λ a. inl a)
    (λ b. inr (
      b.0,
      b.1,
      found-end sh p None t.done t.deferred t.overflowed v w x y c.requires.seat.0.1 e.only f.only g.only e.part
          (subst (λ z. Did z (packet_of p.deferred) t.done t.deferred t.overflowed w (events w x)) (ap packet_of e.some.1) f.part)
          b.2
          f.packets.0
          c.trace_all-traced.new.seat.possible
          (ap (λ (s : Shape). work_in_hand s.fields x.state) c.requires.seat.0.1 ∙ f.work),
    ))
    f.stopped

pub returns-in_default-clause-ends : goal.returns-in_default-clause-ends
returns-in_default-clause-ends c =
    let v : View = view_of c.args.seat.now in
    let e = c.in_default.ensures in
    all-end v (events v (view_of c.begin.new.seat)) (e.only.cells refl) e.part.steps

pub returns-clause-ends : goal.returns-clause-ends
returns-clause-ends c =
    let v : View = view_of c.args.seat.now in
    let w : View = view_of c.begin.new.seat in
    let x : View = view_of c.trace_all-traced.new.seat in
    let y : View = view_of c.finish.new.seat in
    let t : Traced = c.trace_all-traced.result in
    let e = c.in-Some.ensures in
    let f = c.trace_all-traced.ensures in
    let g = c.finish.ensures in
    let later : OnlyTraced v y = traced-join v w y e.only (traced-join w x y f.only g.only) in
    all-end v (events v y) (later.cells refl) (whole t.done t.deferred t.overflowed _ _ v w x y e.only f.only g.only (ap packet_of e.some.1) e.part f.part g.part).steps

pub returns-in_default-clause-few : goal.returns-in_default-clause-few
returns-in_default-clause-few c = let few = c.in_default.ensures.few in omega (arith, few)

pub returns-clause-few : goal.returns-clause-few
returns-clause-few c =
    let sh : Shape = c.args.heap.now.shape in
    let v : View = view_of c.args.seat.now in
    let w : View = view_of c.begin.new.seat in
    let x : View = view_of c.trace_all-traced.new.seat in
    let y : View = view_of c.finish.new.seat in
    let k = c.in-Some.packets in
    let e = c.in-Some.ensures in
    let f = c.trace_all-traced.ensures in
    let g = c.finish.ensures in
    let last = few-sum w x y f.only.ran g.only.ran in
    let all = few-sum v w y e.only.ran (traced-join w x y f.only g.only).ran in
    let begun = e.few in
    let traced = f.few in
    let given = g.few in
    let fits = filled-fits k w e.some.0 in
    let shape = ap (λ (s : Shape). s.entries) e.seat.0.1 in
    let room = room-most sh c.open.result (filled_length k) (omega (arith, fits, shape)) in
    let none = ap (deferring_left sh) e.some.1 in
    omega (arith, last, all, begun, traced, given, room, none)

pub returns-clause-undeferred : goal.returns-clause-undeferred
returns-clause-undeferred c = λ still. c.trace_all-traced.ensures.undeferred (ap (λ (s : SeatState). s.active) c.in-Some.ensures.only.rest ∙ still)

pub returns-in_default-clause-noted : goal.returns-in_default-clause-noted
returns-in_default-clause-noted c = λ some none. c.in_default.ensures.noted

pub returns-clause-noted : goal.returns-clause-noted
returns-clause-noted c = λ some none. let done = c.trace_all-traced.ensures.works c.in-Some.ensures.full some in absurd (omega (arith, done, none))

pub returns-in_default-clause-spills : goal.returns-in_default-clause-spills
returns-in_default-clause-spills c = λ alone still.
    let v : View = view_of c.args.seat.now in
    let w : View = view_of c.begin.new.seat in
    let e = c.in_default.ensures in
    trace-spills 0 0 v w e.only (tally-of c.args.heap.now.shape 0 0 0 v w c.requires.seat.0.1 e.only e.part (none-tried c.args.heap.now.shape (events v w) e.part.dirtied)) c.requires.idle alone still

pub returns-clause-spills : goal.returns-clause-spills
returns-clause-spills c = λ alone still.
    let v : View = view_of c.args.seat.now in
    let y : View = view_of c.finish.new.seat in
    let t : Traced = c.trace_all-traced.result in
    trace-spills t.done t.overflowed v y (returns-clause-only c) (subst (λ n. Tally t.done n t.overflowed v y) (returns-clause-undeferred c still) (returns-clause-tally c)) c.requires.idle alone still
