use Rattle.std.proofs.Common.{ℕ, ◌≡◌, ◌<◌, List, ap, ◌∙◌, refl, Bool, true, false, eqb, Option, Some, None, arith}
use Rattle.std.specs.Prelude.{IfSome, IfNone, IsTrue, ◌||◌}
use Rattle.std.proofs.lemmas.Bool.{false≢true, or_right}
use Rattle.gc_table.specs.declared.view.Entry.{Entry}
use Rattle.mark_core.specs.declared.kinds.Shape.{Shape}
use Rattle.packet_pools.specs.declared.held.Held.{Held}
use Rattle.packet_pools.specs.Gains.{Takes}
use Rattle.gc_table.specs.declared.view.View.{View}
use Rattle.gc_table.specs.Seats.{view_of}
use Rattle.gc_table.specs.Log.{events}
use Rattle.packet_pools.specs.Seeking.{NoInput, NoOutput, input_pools, only_moves, output_pools}
use Rattle.packet_pools.proofs.TracedSteps.{traced-join}
use Rattle.gc_table.proofs.History.Log.{events-join}
use Rattle.packet_pools.proofs.Searches.{moves-join, moves-more}
use Rattle.packet_pools.specs.OnlyTraced.{OnlyTraced}
use Rattle.card_clean.specs.Taking.{NoPacket}
use Rattle.packet_pools.specs.StepBounds.{input_steps, output_steps}
use Rattle.packet_pools.proofs.Few.{few-join}
use Rattle.std.specs.Prelude.{is_some}
use Rattle.std.proofs.Common.{subst}
use Rattle.std.proofs.Math.Logic.{∥∥₁_elim}
use Rattle.std.proofs.Props.{props}
use Rattle.mark_core.specs.Held.{holds_any}
use Rattle.mark_core.specs.declared.seat.SeatState.{SeatState}
use Rattle.gc_table.specs.Rule.{IsPossible}
use Rattle.packet_pools.specs.Outside.{AreNotedOutside, KeepsOutside}
use Rattle.packet_pools.proofs.Pooled.{alone-pooled}
use Rattle.card_clean.proofs.taking.take_some.Goals as goal

-- the pools of an input are among those of an output
widened : (es : List Entry) → only_moves input_pools es ≡ true → only_moves output_pools es ≡ true
widened es m = moves-more input_pools output_pools (λ x e. turned x (eqb 2 x) (eqb 1 x) e) es m
  where
    turned : (x : ℕ) (a b : Bool) → (a || (b || false)) ≡ true → (eqb 0 x || (b || (a || false))) ≡ true
    turned x true true e = or_right (eqb 0 x) _ refl
    turned x true false e = or_right (eqb 0 x) _ refl
    turned x false true e = or_right (eqb 0 x) _ refl
    turned x false false e = absurd (false≢true e)

-- the search moved only packets, whether it found one or not
input-moves : (sh : Shape) (o : Option Held) (v w : View) → IfSome o (λ h. Takes input_pools h v w × (0 < h.length)) → IfNone o ((w.state ≡ v.state) × NoInput sh (events v w) × IsTrue (only_moves input_pools (events v w))) → IsTrue (only_moves output_pools (events v w))
input-moves sh None v w s n = widened (events v w) n.2
input-moves sh (Some h) v w s n = widened (events v w) s.0.moves

-- both searches failed
both-none : (sh : Shape) (o : Option Held) (v w x : View) → w.state ≡ v.state → NoOutput sh (events v w) → OnlyTraced v w → OnlyTraced w x → IfNone o ((x.state ≡ w.state) × NoInput sh (events w x) × IsTrue (only_moves input_pools (events w x))) → IfNone o ((x.state ≡ v.state) × NoPacket sh (events v x))
both-none sh (Some h) v w x e out a b n = n
both-none sh None v w x e out a b n = (n.0 ∙ e, record { first = events v w; second = events w x; events_are = events-join v w x a.log b.log; no_output = out; no_input = n.1 })

pub returns-in-None-clause-none : goal.returns-in-None-clause-none
returns-in-None-clause-none c =
    both-none c.args.heap.now.shape c.take_input.result (view_of c.args.seat.now) (view_of c.take_output.new.seat) (view_of c.take_input.new.seat) c.in-None.ensures.none.0 c.in-None.ensures.none.1 c.take_output.ensures.only c.take_input.ensures.only c.take_input.ensures.none

pub returns-in-None-clause-only : goal.returns-in-None-clause-only
returns-in-None-clause-only c = traced-join (view_of c.args.seat.now) (view_of c.take_output.new.seat) (view_of c.take_input.new.seat) c.take_output.ensures.only c.take_input.ensures.only

pub returns-in-None-clause-moves : goal.returns-in-None-clause-moves
returns-in-None-clause-moves c =
    let v : View = view_of c.args.seat.now in
    let w : View = view_of c.take_output.new.seat in
    let x : View = view_of c.take_input.new.seat in
    ap (only_moves output_pools) (events-join v w x c.take_output.ensures.only.log c.take_input.ensures.only.log) ∙ moves-join output_pools (events v w) (events w x) c.in-None.ensures.none.2 (input-moves c.args.heap.now.shape c.take_input.result w x c.take_input.ensures.some c.take_input.ensures.none)

pub returns-in-Some-clause-few : goal.returns-in-Some-clause-few
returns-in-Some-clause-few c = let few = c.in-Some.ensures.few in omega (arith, few)

pub returns-in-None-clause-few : goal.returns-in-None-clause-few
returns-in-None-clause-few c =
    let sh : Shape = c.args.heap.now.shape in
    let e = c.take_output.ensures in
    let f = c.take_input.ensures in
    few-join (output_steps sh) (input_steps sh) (view_of c.args.seat.now) (view_of c.take_output.new.seat) (view_of c.take_input.new.seat) e.only.ran f.only.ran e.few f.few

-- a search that fails finds each packet outside each pool, so it doesn't
found-some : (sh : Shape) (o : Option Held) (v w x : View) → w.state ≡ v.state → v.state.alone ≡ true → holds_any v.state.held ≡ false → OnlyTraced v w → OnlyTraced w x → AreNotedOutside 3 v → KeepsOutside output_pools v w → (IsTrue v.state.alone → AreNotedOutside 0 w × AreNotedOutside 1 w) → ∥ IsPossible x ∥₁
    → IfNone o ((x.state ≡ w.state) × NoInput sh (events w x) × IsTrue (only_moves input_pools (events w x))) → IfNone o (KeepsOutside input_pools w x) → IfNone o (IsTrue w.state.alone → AreNotedOutside 2 x × AreNotedOutside 1 x) → is_some o ≡ true
found-some sh (Some h) v w x same alone none a b deferred keeps out possible e k n = refl
found-some sh None v w x same alone none a b deferred keeps out possible e k n =
    let here : w.state.alone ≡ true = ap (λ (s : SeatState). s.alone) same ∙ alone in
    let last : x.state ≡ v.state = e.0 ∙ same in
    let pools = out alone in
    let more = n here in
    let before = λ (p : ℕ) (l : p < x.shape.packets). subst (λ (s : Shape). p < s.packets) b.shape l in
    let first = λ (p : ℕ) (l : p < x.shape.packets). subst (λ (s : Shape). p < s.packets) a.shape (before p l) in
    let empty : AreNotedOutside 0 x = λ p l. k here 0 p refl (before p l) (pools.0 p (before p l)) in
    let waits : AreNotedOutside 3 x = λ p l. k here 3 p refl (before p l) (keeps alone 3 p refl (first p l) (deferred p (first p l))) in
    absurd (∥∥₁_elim possible (Prim.hlevel props) (λ (p : IsPossible x). alone-pooled p.state p.index x p.whole p.agrees (ap (λ (s : SeatState). s.alone) last ∙ alone) (ap (λ (s : SeatState). holds_any s.held) last ∙ none) empty more.1 more.0 waits))

pub returns-in-None-clause-pooled : goal.returns-in-None-clause-pooled
returns-in-None-clause-pooled c = λ alone none deferred.
    let e = c.in-None.ensures in
    let f = c.take_input.ensures in
    found-some c.args.heap.now.shape c.take_input.result (view_of c.args.seat.now) (view_of c.take_output.new.seat) (view_of c.take_input.new.seat) e.none.0 alone none e.only f.only deferred e.outside e.noted c.take_input.new.seat.possible f.none f.outside f.noted
