use Rattle.std.proofs.Common.{ℕ, ◌≡◌, ◌<◌, ◌≤◌, arith, sym, ap, ◌∙◌, subst, cond, Some, None, [], ◌∷◌, ◌++◌, refl, inl, inr}
use Rattle.std.proofs.lemmas.Bool.{lt-ltb, le-ltb}
use Rattle.mark_core.specs.Layout.{card_count}
use Rattle.mark_core.specs.Numbers.{card_counter}
use Rattle.mark_core.specs.declared.kinds.Shape.{Shape}
use Rattle.mark_core.specs.declared.kinds.Step.TheVariants.{NextOfCards, ReadStat}
use Rattle.gc_table.specs.declared.view.View.{View}
use Rattle.gc_table.specs.Seats.{Found, view_of}
use Rattle.gc_table.specs.Log.{events, Only, event}
use Rattle.gc_table.specs.Running.{Ran}
use Rattle.gc_table.proofs.History.Log.{events-after, only-after}
use Rattle.gc_table.proofs.Running.{ran-found, ran-join, ran-events, ran-only}
use Rattle.gc_table.specs.Taking.{May, Finds, after}
use Rattle.packet_pools.specs.Tracing.{Traces}
use Rattle.card_clean.specs.Passing.{card_floor, draws_card}
use Rattle.card_clean.proofs.Drawing.{looked-traces, drawn-traces, may-draw, rises}
use Rattle.packet_pools.proofs.Few.{few-after, few-events}
use Rattle.card_clean.proofs.card_pass.next_card.Goals as goal

both-ran : (v w x : View) (seen n : ℕ) → Found (ReadStat card_counter) seen v w → Found NextOfCards n w x → Ran v x
both-ran v w x seen n e f = ran-join v w x (ran-found v w (ReadStat card_counter) seen refl e) (ran-found w x NextOfCards n refl f)

both-only : (v w x : View) (seen n : ℕ) → Found (ReadStat card_counter) seen v w → Found NextOfCards n w x → Only draws_card v x
both-only v w x seen n e f = ran-only draws_card v w x (ran-found v w (ReadStat card_counter) seen refl e) (ran-found w x NextOfCards n refl f) (only-after draws_card v w (ReadStat card_counter) seen refl e.0) (only-after draws_card w x NextOfCards n refl f.0)

both-events : (v w x : View) (seen n : ℕ) → Found (ReadStat card_counter) seen v w → Found NextOfCards n w x → events v x ≡ event (ReadStat card_counter) seen ∷ event NextOfCards n ∷ []
both-events v w x seen n e f =
    ran-events v w x (ran-found v w (ReadStat card_counter) seen refl e) (ran-found w x NextOfCards n refl f)
    ∙ (λ i. events-after v w (ReadStat card_counter) seen e.0 i ++ events-after w x NextOfCards n f.0 i)

pub returns-then-read_stat-end-clause-ran : goal.returns-then-read_stat-end-clause-ran
returns-then-read_stat-end-clause-ran c = ran-found (view_of c.args.seat.now) (view_of c.read_stat.new.seat) (ReadStat card_counter) c.read_stat.result refl c.read_stat.ensures.view

pub returns-then-read_stat-end-clause-only : goal.returns-then-read_stat-end-clause-only
returns-then-read_stat-end-clause-only c = only-after draws_card (view_of c.args.seat.now) (view_of c.read_stat.new.seat) (ReadStat card_counter) c.read_stat.result refl c.read_stat.ensures.view.0

pub returns-then-read_stat-end-clause-draws : goal.returns-then-read_stat-end-clause-draws
returns-then-read_stat-end-clause-draws c =
    let v : View = view_of c.args.seat.now in
    let e = c.read_stat.ensures.view in
    let cells : c.shape.result.cells ≡ v.shape.cells = ap (λ (s : Shape). s.cells) (c.shape.ensures ∙ sym c.requires.seat.0.1) in
    let over : card_count v.shape ≤ c.read_stat.result = omega (arith, c.if-read_stat-end.true, c.from-end.ensures, cells) in
    inl (record { seen = c.read_stat.result; finds = e.1; over = over; view = e.0; events_are = events-after v (view_of c.read_stat.new.seat) (ReadStat card_counter) c.read_stat.result e.0 }, refl)

pub returns-then-number-end-clause-ran : goal.returns-then-number-end-clause-ran
returns-then-number-end-clause-ran c = both-ran (view_of c.args.seat.now) (view_of c.read_stat.new.seat) (view_of c.next_of_cards-number.new.seat) c.read_stat.result c.next_of_cards-number.result c.read_stat.ensures.view c.next_of_cards-number.ensures.view

pub returns-then-number-end-clause-only : goal.returns-then-number-end-clause-only
returns-then-number-end-clause-only c = both-only (view_of c.args.seat.now) (view_of c.read_stat.new.seat) (view_of c.next_of_cards-number.new.seat) c.read_stat.result c.next_of_cards-number.result c.read_stat.ensures.view c.next_of_cards-number.ensures.view

pub returns-else-number-end-clause-ran : goal.returns-else-number-end-clause-ran
returns-else-number-end-clause-ran c = both-ran (view_of c.args.seat.now) (view_of c.read_stat.new.seat) (view_of c.next_of_cards-number.new.seat) c.read_stat.result c.next_of_cards-number.result c.read_stat.ensures.view c.next_of_cards-number.ensures.view

pub returns-else-number-end-clause-only : goal.returns-else-number-end-clause-only
returns-else-number-end-clause-only c = both-only (view_of c.args.seat.now) (view_of c.read_stat.new.seat) (view_of c.next_of_cards-number.new.seat) c.read_stat.result c.next_of_cards-number.result c.read_stat.ensures.view c.next_of_cards-number.ensures.view

pub returns-then-read_stat-end-clause-seat : goal.returns-then-read_stat-end-clause-seat
returns-then-read_stat-end-clause-seat c =
    let e = c.read_stat.ensures.view in
    (c.read_stat.ensures.seat, subst Traces (sym e.0) (looked-traces (view_of c.args.seat.now) c.read_stat.result e.1 c.requires.seat.1))

pub next_of_cards-number-requires-clause-may : goal.next_of_cards-number-requires-clause-may
next_of_cards-number-requires-clause-may c =
    let v : View = view_of c.args.seat.now in
    let e = c.read_stat.ensures.view in
    let cells : c.shape.result.cells ≡ v.shape.cells = ap (λ (s : Shape). s.cells) (c.shape.ensures ∙ sym c.requires.seat.0.1) in
    let under : c.read_stat.result < card_count v.shape = omega (arith, c.if-read_stat-end.false, c.from-end.ensures, cells) in
    subst (May NextOfCards) (sym e.0) (may-draw v c.read_stat.result e.1 c.requires.seat.1 under)

pub returns-then-number-end-clause-seat : goal.returns-then-number-end-clause-seat
returns-then-number-end-clause-seat c =
    let v : View = view_of c.args.seat.now in
    let e = c.read_stat.ensures.view in
    let f = c.next_of_cards-number.ensures in
    (f.seat, subst Traces (sym (f.view.0 ∙ ap (after NextOfCards c.next_of_cards-number.result) e.0)) (drawn-traces v c.read_stat.result e.1 c.requires.seat.1 c.next_of_cards-number.result))

pub returns-then-number-end-clause-draws : goal.returns-then-number-end-clause-draws
returns-then-number-end-clause-draws c =
    let v : View = view_of c.args.seat.now in
    let n : ℕ = c.next_of_cards-number.result in
    let e = c.read_stat.ensures.view in
    let f = c.next_of_cards-number.ensures.view in
    let cells : c.shape.result.cells ≡ v.shape.cells = ap (λ (s : Shape). s.cells) (c.shape.ensures ∙ sym c.requires.seat.0.1) in
    let under : c.read_stat.result < card_count v.shape = omega (arith, c.if-read_stat-end.false, c.from-end.ensures, cells) in
    let below : n < card_count v.shape = omega (arith, c.if-number-end.true, c.from-end.ensures, cells) in
    inr (n, record { seen = c.read_stat.result; finds = e.1; under = under; draws = subst (Finds NextOfCards n) e.0 f.1; view = f.0 ∙ ap (after NextOfCards n) e.0; events_are = both-events v (view_of c.read_stat.new.seat) (view_of c.next_of_cards-number.new.seat) c.read_stat.result n e f }, sym (ap (λ b. cond b (Some n) None) (lt-ltb n (card_count v.shape) below)))

pub returns-then-number-end-clause-rises : goal.returns-then-number-end-clause-rises
returns-then-number-end-clause-rises c k =
    let v : View = view_of c.args.seat.now in
    let n : ℕ = c.next_of_cards-number.result in
    let e = c.read_stat.ensures.view in
    let f = c.next_of_cards-number.ensures.view in
    let cells : c.shape.result.cells ≡ v.shape.cells = ap (λ (s : Shape). s.cells) (c.shape.ensures ∙ sym c.requires.seat.0.1) in
    let same : v.shape.cells ≡ c.args.heap.now.shape.cells = ap (λ (s : Shape). s.cells) c.requires.seat.0.1 in
    let below : n < card_count v.shape = omega (arith, c.if-number-end.true, c.from-end.ensures, cells) in
    let few : card_count v.shape < 18446744073709551615 = omega (arith, same, c.args.heap.now.shaped.cells.1) in
    let r = rises v c.read_stat.result e.1 c.requires.seat.1 n (subst (Finds NextOfCards n) e.0 f.1) below few k in
    (r.0, ap card_floor (f.0 ∙ ap (after NextOfCards n) e.0) ∙ r.1)

pub returns-else-number-end-clause-seat : goal.returns-else-number-end-clause-seat
returns-else-number-end-clause-seat c =
    let v : View = view_of c.args.seat.now in
    let e = c.read_stat.ensures.view in
    let f = c.next_of_cards-number.ensures in
    (f.seat, subst Traces (sym (f.view.0 ∙ ap (after NextOfCards c.next_of_cards-number.result) e.0)) (drawn-traces v c.read_stat.result e.1 c.requires.seat.1 c.next_of_cards-number.result))

pub returns-else-number-end-clause-draws : goal.returns-else-number-end-clause-draws
returns-else-number-end-clause-draws c =
    let v : View = view_of c.args.seat.now in
    let n : ℕ = c.next_of_cards-number.result in
    let e = c.read_stat.ensures.view in
    let f = c.next_of_cards-number.ensures.view in
    let cells : c.shape.result.cells ≡ v.shape.cells = ap (λ (s : Shape). s.cells) (c.shape.ensures ∙ sym c.requires.seat.0.1) in
    let under : c.read_stat.result < card_count v.shape = omega (arith, c.if-read_stat-end.false, c.from-end.ensures, cells) in
    let over : card_count v.shape ≤ n = omega (arith, c.if-number-end.false, c.from-end.ensures, cells) in
    inr (n, record { seen = c.read_stat.result; finds = e.1; under = under; draws = subst (Finds NextOfCards n) e.0 f.1; view = f.0 ∙ ap (after NextOfCards n) e.0; events_are = both-events v (view_of c.read_stat.new.seat) (view_of c.next_of_cards-number.new.seat) c.read_stat.result n e f }, sym (ap (λ b. cond b (Some n) None) (le-ltb n (card_count v.shape) over)))

pub returns-then-read_stat-end-clause-few : goal.returns-then-read_stat-end-clause-few
returns-then-read_stat-end-clause-few c = let one = few-after (view_of c.args.seat.now) (view_of c.read_stat.new.seat) (ReadStat card_counter) c.read_stat.result c.read_stat.ensures.view.0 in omega (arith, one)

pub returns-then-number-end-clause-few : goal.returns-then-number-end-clause-few
returns-then-number-end-clause-few c =
    let v : View = view_of c.args.seat.now in
    let x : View = view_of c.next_of_cards-number.new.seat in
    few-events 2 v x _ (both-events v (view_of c.read_stat.new.seat) x c.read_stat.result c.next_of_cards-number.result c.read_stat.ensures.view c.next_of_cards-number.ensures.view) (omega arith)

pub returns-else-number-end-clause-few : goal.returns-else-number-end-clause-few
returns-else-number-end-clause-few c =
    let v : View = view_of c.args.seat.now in
    let x : View = view_of c.next_of_cards-number.new.seat in
    few-events 2 v x _ (both-events v (view_of c.read_stat.new.seat) x c.read_stat.result c.next_of_cards-number.result c.read_stat.ensures.view c.next_of_cards-number.ensures.view) (omega arith)
