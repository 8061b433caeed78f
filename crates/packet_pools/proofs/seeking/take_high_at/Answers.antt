use Rattle.std.proofs.Common.{ℕ, ◌≡◌, ◌<◌, ◌≤◌, ◌+◌, ◌%◌, [], ◌∷◌, length, subst, sym, true}
use Rattle.std.specs.Prelude.{IsTrue}
use Rattle.mark_core.specs.Bits.{has_bit}
use Rattle.mark_core.specs.Numbers.{high_pool_number, word_bits}
use Rattle.mark_core.specs.declared.kinds.Shape.{Shape}
use Rattle.mark_core.specs.declared.kinds.Step.TheVariants.{ReadLength, Take}
use Rattle.gc_table.specs.declared.view.View.{View}
use Rattle.gc_table.specs.Log.{events, steps_of}
use Rattle.gc_table.specs.Seats.{view_of}
use Rattle.packet_pools.specs.Gains.{FindsNone, Gains, GainsFirst, missed}
use Rattle.packet_pools.specs.Seeking.{only_moves, was_got}
use Rattle.packet_pools.proofs.Doing.{if-none, if-some, none-had, some-both}
use Rattle.packet_pools.proofs.HighSearch.{look-gains, look-none, look-seeks, look-steps, look-traced, look-tries, look-unheld}
use Rattle.packet_pools.proofs.TracedSteps.{traced-join}
use Rattle.packet_pools.proofs.seeking.take_high_at.Goals as goal

pub take_shown-requires-clause-seat : goal.take_shown-requires-clause-seat
take_shown-requires-clause-seat c =
    let l = c.look-word.ensures in
    (l.seat, look-seeks c.args.heap.now.shape c.args.p c.look-word.result (view_of c.args.seat.now) (view_of c.look-word.new.seat) l.view c.requires.seat.1)

pub take_shown-requires-clause-shown : goal.take_shown-requires-clause-shown
take_shown-requires-clause-shown c = λ there bit.
    look-unheld c.args.heap.now.shape c.args.p c.look-word.result (view_of c.args.seat.now) (view_of c.look-word.new.seat) c.look-word.ensures.view (subst (λ (s : Shape). c.args.p < s.packets) (sym c.requires.seat.0.1) there) bit

pub returns-clause-only : goal.returns-clause-only
returns-clause-only c =
    let v : View = view_of c.args.seat.now in
    let w : View = view_of c.look-word.new.seat in
    traced-join v w (view_of c.take_shown.new.seat) (look-traced c.args.heap.now.shape c.args.p c.look-word.result v w c.look-word.ensures.view) c.take_shown.ensures.only

pub returns-clause-some : goal.returns-clause-some
returns-clause-some c =
    let sh : Shape = c.args.heap.now.shape in
    let p : ℕ = c.args.p in
    let v : View = view_of c.args.seat.now in
    let w : View = view_of c.look-word.new.seat in
    let u : View = view_of c.take_shown.new.seat in
    let e = c.take_shown.ensures in
    some-both c.take_shown.result (λ h. Gains high_pool_number true h w u) (λ h. (h.packet ≡ p) × (steps_of (events w u) ≡ Take high_pool_number p ∷ ReadLength p ∷ [])) (λ h. GainsFirst sh high_pool_number p h v u × (h.packet ≡ p))
    (λ h g t. look-gains sh p c.look-word.result v w c.look-word.ensures.view u e.only h g t.0 t.1)
    e.some e.taken

pub returns-clause-none : goal.returns-clause-none
returns-clause-none c =
    let sh : Shape = c.args.heap.now.shape in
    let p : ℕ = c.args.p in
    let n : ℕ = c.look-word.result in
    let v : View = view_of c.args.seat.now in
    let w : View = view_of c.look-word.new.seat in
    let u : View = view_of c.take_shown.new.seat in
    let e = c.take_shown.ensures in
    if-none c.take_shown.result ((u.state ≡ w.state) × ((x : ℕ) → IsTrue (was_got x (events w u)) → IsTrue true × (x < p + 1)) × (p < sh.packets → IsTrue (has_bit n (p % word_bits)) → IsTrue (missed sh.entries high_pool_number true p (events w u))) × IsTrue (only_moves (high_pool_number ∷ []) (events w u))) (FindsNone sh high_pool_number true p (p + 1) v u)
    (λ k. look-none sh p n v w c.look-word.ensures.view u e.only k)
    e.none

pub returns-clause-few : goal.returns-clause-few
returns-clause-few c =
    let sh : Shape = c.args.heap.now.shape in
    let p : ℕ = c.args.p in
    let n : ℕ = c.look-word.result in
    let v : View = view_of c.args.seat.now in
    let w : View = view_of c.look-word.new.seat in
    let u : View = view_of c.take_shown.new.seat in
    let l = c.look-word.ensures.view in
    let e = c.take_shown.ensures in (
      if-some c.take_shown.result (λ h. (h.packet ≡ p) × (steps_of (events w u) ≡ Take high_pool_number p ∷ ReadLength p ∷ [])) (λ h. length (events v u) ≤ 3) (λ h t. look-steps sh p n v w l u e.only h t.1) e.taken,
      if-none c.take_shown.result (length (events w u) ≤ 4) (length (events v u) ≤ 5) (λ few. look-tries sh p n v w l u e.only few) (none-had c.take_shown.result (length (events w u)) 4 (e.few.0 c.requires.packet)),
    )
