use Rattle.std.proofs.Common.{◌≡◌, Option, [], ◌∷◌, ◌++◌, sym, ap, ◌∙◌, subst, refl, arith, true, false}
use Rattle.std.specs.Prelude.{IsTrue}
use Rattle.mark_core.specs.declared.kinds.Shape.{Shape}
use Rattle.mark_core.specs.declared.seat.SeatState.{SeatState}
use Rattle.packet_pools.specs.Seeking.{NoInput, NoOutput, input_pools, only_moves, output_pools}
use Rattle.packet_pools.proofs.Doing.{if-none, if-some}
use Rattle.packet_pools.proofs.TracedSteps.{traced-join}
use Rattle.gc_table.proofs.History.Log.{events-join}
use Rattle.packet_pools.proofs.Searches.{moves-join}
use Rattle.tracer.specs.Hands.{Carries}
use Rattle.tracer.specs.Causes.{FoundNoPacket}
use Rattle.tracer.specs.Moments.{begins, finds_no_packet, finds_none_to_fill, finds_none_to_read}
use Rattle.tracer.proofs.Moments.{at-moment, input-front, moment-after, moment-state, output-front}
use Rattle.tracer.proofs.Whole.{append-none}
use Rattle.std.proofs.lemmas.Bool.{and_from, not_from_false}
use Rattle.mark_core.specs.Held.{Slots, holds_any}
use Rattle.tracer.proofs.Carried.{carries-free, carries-none, carries-take}
use Rattle.tracer.proofs.Moves.{either-way, input-moves}
use Rattle.gc_table.specs.declared.view.View.{View}
use Rattle.gc_table.specs.Seats.{view_of}
use Rattle.packet_pools.specs.declared.held.Held.{Held}
use Rattle.packet_pools.specs.OnlyTraced.{OnlyTraced}
use Rattle.gc_table.specs.Log.{events}
use Rattle.packet_pools.specs.StepBounds.{input_steps, output_steps}
use Rattle.packet_pools.proofs.Few.{few-join}
use Rattle.tracer.proofs.roots.take_either.Goals as goal

pub take_output-requires-clause-free : goal.take_output-requires-clause-free
take_output-requires-clause-free c = carries-free [] (view_of c.args.seat.now) (omega arith) (carries-none (view_of c.args.seat.now) c.requires.idle.held)

pub returns-in-Some-clause-some : goal.returns-in-Some-clause-some
returns-in-Some-clause-some c =
    let v : View = view_of c.args.seat.now in
    let w : View = view_of c.take_output.new.seat in
    let e = c.in-Some.ensures in
    let none = carries-none v c.requires.idle.held in
    carries-take v w e.only.shape output_pools c.in-Some.held [] e.some.0 (carries-free [] v (omega arith) none) none

pub take_input-requires-clause-free : goal.take_input-requires-clause-free
take_input-requires-clause-free c =
    let w : View = view_of c.take_output.new.seat in
    let e = c.in-None.ensures in
    carries-free [] w (omega arith) (carries-none w (ap (λ (s : SeatState). s.held) e.none.0 ∙ c.requires.idle.held))

pub returns-in-None-clause-only : goal.returns-in-None-clause-only
returns-in-None-clause-only c = traced-join (view_of c.args.seat.now) (view_of c.take_output.new.seat) (view_of c.take_input.new.seat) c.in-None.ensures.only c.take_input.ensures.only

both-move : (v w x : View) (r : Option Held) → OnlyTraced v w → OnlyTraced w x → only_moves output_pools (events v w) ≡ true → only_moves input_pools (events w x) ≡ true → only_moves output_pools (events v x) ≡ true
both-move v w x r a b m n = ap (only_moves output_pools) (events-join v w x a.log b.log) ∙ moves-join output_pools (events v w) (events w x) m (input-moves (events w x) n)

pub returns-in-None-clause-moves : goal.returns-in-None-clause-moves
returns-in-None-clause-moves c =
    let v : View = view_of c.args.seat.now in
    let w : View = view_of c.take_output.new.seat in
    let x : View = view_of c.take_input.new.seat in
    let r : Option Held = c.take_input.result in
    let e = c.in-None.ensures in
    let f = c.take_input.ensures in
    both-move v w x r e.only f.only e.none.2
    (either-way r (IsTrue (only_moves input_pools (events w x))) (if-some r _ (λ h. IsTrue (only_moves input_pools (events w x))) (λ h t. t.0.moves) f.some) (if-none r _ (IsTrue (only_moves input_pools (events w x))) (λ n. n.2) f.none))

pub returns-in-None-clause-some : goal.returns-in-None-clause-some
returns-in-None-clause-some c =
    let w : View = view_of c.take_output.new.seat in
    let x : View = view_of c.take_input.new.seat in
    let e = c.in-None.ensures in
    let f = c.take_input.ensures in
    let none = carries-none w (ap (λ (s : SeatState). s.held) e.none.0 ∙ c.requires.idle.held) in
    if-some c.take_input.result _ (λ h. Carries (h ∷ []) x) (λ h t. carries-take w x f.only.shape input_pools h [] t.0 (carries-free [] w (omega arith) none) none) f.some

-- both searches are told by the events of the call
found : (v w x : View) → holds_any v.state.held ≡ false → holds_any w.state.held ≡ false → OnlyTraced v w → OnlyTraced w x → NoOutput v.shape (events v w) → only_moves output_pools (events v w) ≡ true → NoInput v.shape (events w x) → only_moves input_pools (events w x) ≡ true → only_moves output_pools (events v x) ≡ true → FoundNoPacket v x
found v w x bare still a b output outward input inward moves =
    let all : events v x ≡ events v w ++ (events w x ++ []) = events-join v w x a.log b.log ∙ ap (λ es. events v w ++ es) (append-none (events w x)) in
    let fills = at-moment v.shape (finds_none_to_fill v.shape) (begins v) [] (events v w ++ (events w x ++ [])) (and_from _ _ (not_from_false _ bare) (output-front v.shape (events v w) (events w x ++ []) output outward)) in
    let later : (moment-after v.shape (begins v) (events v w)).state ≡ w.state = moment-state v [] (events v w) ∙ ap (λ (z : View). z.state) (sym a.ran.steps) in
    let reads = at-moment v.shape (finds_none_to_read v.shape) (begins v) (events v w) (events w x ++ []) (and_from _ _ (not_from_false _ (ap (λ (s : SeatState). holds_any s.held) later ∙ still)) (input-front v.shape (events w x) [] input inward)) in
    record { none = ap (finds_no_packet v.shape (begins v)) all ∙ and_from _ _ fills reads; moves = moves }

pub returns-in-None-clause-none : goal.returns-in-None-clause-none
returns-in-None-clause-none c =
    let v : View = view_of c.args.seat.now in
    let w : View = view_of c.take_output.new.seat in
    let x : View = view_of c.take_input.new.seat in
    let r : Option Held = c.take_input.result in
    let e = c.in-None.ensures in
    let f = c.take_input.ensures in
    let shape = c.requires.seat.0.1 in
    let held = ap (λ (s : SeatState). s.held) e.none.0 ∙ c.requires.idle.held in
    if-none r _ ((x.state ≡ v.state) × FoundNoPacket v x)
    (λ n. (
      n.0 ∙ e.none.0,
      found v w x (subst (λ (h : Slots). holds_any h ≡ false) (sym c.requires.idle.held) refl) (subst (λ (h : Slots). holds_any h ≡ false) (sym held) refl) e.only f.only (subst (λ (s : Shape). NoOutput s (events v w)) (sym shape) e.none.1) e.none.2 (subst (λ (s : Shape). NoInput s (events w x)) (sym shape) n.1) n.2 (both-move v w x r e.only f.only e.none.2 n.2),
    ))
    f.none

pub returns-in-Some-clause-few : goal.returns-in-Some-clause-few
returns-in-Some-clause-few c = let few = c.in-Some.ensures.few in omega (arith, few)

pub returns-in-None-clause-few : goal.returns-in-None-clause-few
returns-in-None-clause-few c =
    let sh : Shape = c.args.heap.now.shape in
    let e = c.in-None.ensures in
    let f = c.take_input.ensures in
    few-join (output_steps sh) (input_steps sh) (view_of c.args.seat.now) (view_of c.take_output.new.seat) (view_of c.take_input.new.seat) e.only.ran f.only.ran e.few f.few
