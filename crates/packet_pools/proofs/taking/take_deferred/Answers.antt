use Rattle.std.specs.Prelude.{IsTrue}
use Rattle.std.proofs.Common.{◌≡◌, ◌*◌, arith, false}
use Rattle.mark_core.specs.Layout.{pool_words}
use Rattle.mark_core.specs.Numbers.{deferred_pool_number, word_bits}
use Rattle.mark_core.specs.declared.kinds.Shape.{Shape}
use Rattle.gc_table.specs.declared.view.View.{View}
use Rattle.gc_table.specs.Seats.{view_of}
use Rattle.gc_table.specs.Log.{events}
use Rattle.packet_pools.specs.Seeking.{NoDeferred, deferred_pools, only_moves}
use Rattle.packet_pools.specs.Gains.{MissesPackets}
use Rattle.packet_pools.proofs.Searches.{all-missed}
use Rattle.packet_pools.proofs.Few.{had-most}
use Rattle.packet_pools.proofs.Doing.{if-none, traces-either}
use Rattle.packet_pools.proofs.taking.take_deferred.Goals as goal

pub returns-clause-seat : goal.returns-clause-seat
returns-clause-seat c =
    let e = c.take_any.ensures in
    (e.seat, traces-either deferred_pool_number false _ c.take_any.result (view_of c.args.seat.now) (view_of c.take_any.new.seat) e.only c.requires.seat.1 e.some e.none)

pub returns-clause-none : goal.returns-clause-none
returns-clause-none c =
    let sh : Shape = c.args.heap.now.shape in
    let v : View = view_of c.args.seat.now in
    let w : View = view_of c.take_any.new.seat in
    if-none c.take_any.result ((w.state ≡ v.state) × MissesPackets sh deferred_pool_number false 0 (word_bits * pool_words sh) (events v w)) ((w.state ≡ v.state) × NoDeferred sh (events v w) × IsTrue (only_moves deferred_pools (events v w)))
    (λ n. (n.0, all-missed sh deferred_pool_number (events v w) n.1, n.1.moves))
    c.take_any.ensures.none

pub returns-clause-few : goal.returns-clause-few
returns-clause-few c = let few = c.take_any.ensures.few in let most = had-most c.take_any.result in omega (arith, few, most)
