use Rattle.std.proofs.Common.{ℕ, ◌≡◌, ◌/◌, ◌%◌, sym, ap, ◌∙◌, subst, true, false, None}
use Rattle.mark_core.specs.Bits.{has_bit}
use Rattle.mark_core.specs.Cards.{block_cells}
use Rattle.mark_core.specs.Seats.{cleaning_left}
use Rattle.mark_core.specs.declared.kinds.Step.TheVariants.{ReadAlloc}
use Rattle.gc_table.specs.Seats.{Found, view_of}
use Rattle.gc_table.specs.Taking.{May, Finds, after}
use Rattle.gc_table.specs.declared.view.View.{View}
use Rattle.packet_pools.specs.OnlyTraced.{OnlyTraced}
use Rattle.packet_pools.specs.Scanning.{InHand}
use Rattle.packet_pools.specs.Tracing.{Traces}
use Rattle.packet_pools.proofs.Doing.{traces-on}
use Rattle.tracer.specs.Parts.{HasPopped}
use Rattle.tracer.proofs.Hand.{alloc-cleaning, traced-read_alloc, may-read_alloc, published}
use Rattle.test_operations.proofs.tests.scanning.begins_scan.Goals as goal

pub read_alloc-word-requires-clause-may : goal.read_alloc-word-requires-clause-may
read_alloc-word-requires-clause-may g c =
    let v : View = view_of c.args.seat.now in
    subst (λ k. May (ReadAlloc (k / block_cells)) v) (sym c.number.ensures) (may-read_alloc v c.args.cell false c.requires.seat.1.may c.requires.cell.popped)

-- the word of the cell's block was read
module _ (v w : View) (cell k n : ℕ) (p : HasPopped cell false v) (is : k ≡ cell) (f : Found (ReadAlloc (k / block_cells)) n v w) where
  read : w ≡ after (ReadAlloc (cell / block_cells)) n v
  read = f.0 ∙ ap (λ x. after (ReadAlloc (x / block_cells)) n v) is

  later : OnlyTraced v w
  later = traced-read_alloc v w cell n p read (subst (λ x. Finds (ReadAlloc (x / block_cells)) n v) is f.1)

  traces : Traces v → Traces w
  traces t = traces-on v w later t (ap (λ (z : View). z.state.reserved) read) (ap (λ (z : View). z.state.credit) read)

  hand : (m : ℕ) → m ≡ cell → has_bit n (m % block_cells) ≡ true → InHand None None w.state × (cleaning_left w.state.cleaning ≡ false)
  hand m same bit = (published v w cell n p read (ap (λ x. has_bit n (x % block_cells)) (sym same) ∙ bit), alloc-cleaning v w cell n p read)

pub returns-clause-seat : goal.returns-clause-seat
returns-clause-seat g c =
    (c.read_alloc-word.ensures.seat, traces (view_of c.args.seat.now) (view_of c.read_alloc-word.new.seat) c.args.cell c.number.result c.read_alloc-word.result c.requires.cell c.number.ensures c.read_alloc-word.ensures.view c.requires.seat.1)

pub returns-clause-hand : goal.returns-clause-hand
returns-clause-hand g c =
    let n : ℕ = c.read_alloc-word.result in
    let bit : has_bit n (c.number-2.result % block_cells) ≡ true = sym c.has_bit.ensures ∙ c.if-not-has_bit.false in
    hand (view_of c.args.seat.now) (view_of c.read_alloc-word.new.seat) c.args.cell c.number.result n c.requires.cell c.number.ensures c.read_alloc-word.ensures.view c.number-2.result c.number-2.ensures bit
