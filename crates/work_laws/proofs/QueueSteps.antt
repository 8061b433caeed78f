-- What one step does to the lengths of packets, and to a cell that was found unpublished.
use Rattle.std.proofs.Common.{ℕ, ◌≡◌, ◌+◌, ◌/◌, ◌%◌, ◌<◌, ◌≤◌, List, get_or, arith, refl, ap, Bool, true, false, not, ◌&&◌, ◌||◌, cond, eqb, Option, Some, None}
use Rattle.std.specs.List.{sum_by, range_with_len}
use Rattle.std.proofs.lemmas.Bool.{and_parts, ltb-true, false≢true}
use Rattle.mark_core.specs.Layout.{words_of, region_sizes}
use Rattle.mark_core.specs.Bits.{has_bit}
use Rattle.mark_core.specs.Cards.{card_of}
use Rattle.mark_core.specs.Views.{hands}
use Rattle.mark_core.specs.Cells.{packet_length}
use Rattle.mark_core.specs.Seats.{is_the, is_unpublished}
use Rattle.mark_core.specs.Effects.{seat_after}
use Rattle.mark_core.specs.Steps.{Core}
use Rattle.mark_core.specs.Steps.ColourSteps.{popped_after, popped_off}
use Rattle.mark_core.specs.declared.kinds.Step.{Step}
use Rattle.mark_core.specs.declared.kinds.Step.TheVariants.{Push, Pop, ReadAlloc, DirtyCard}
use Rattle.mark_core.specs.declared.seat.SeatState.{SeatState}
use Rattle.mark_core.proofs.Known.{found, words_left, seats_left}
use Rattle.mark_core.proofs.Count.CountMoves.{bit}
use Rattle.mark_core.proofs.Writing.Places.{words-get}
use Rattle.mark_core.proofs.Marks.MarksQueues.{lengths-stay, pops-off, pushes-on}
use Rattle.mark_core.proofs.Blocks.BlocksStopped.{Taken, in-place}
use Rattle.work_laws.specs.Queueing.{pushes, pops, puts_back, defers, lacks_bit, is_deferred, has_deferred, entries_in}
use Rattle.work_laws.proofs.Ranges.{sum-same, sum-but-one}

-- the entries of all packets before and after
abbrev before : Core → ℕ
before c = entries_in c.shape (words_of c.shape c.words) (hands c.seats)

abbrev left : Core → ℕ → SeatState → Step → ℕ
left c i s step = entries_in c.shape (words_left c s step) (hands (seats_left c i s step))

abbrev EntriesPaid : Core → ℕ → SeatState → Step → Type 0
EntriesPaid c i s step = bit (pops c s step) + left c i s step ≤ before c + bit (pushes c s step)

pop_paid : (c : Core) (i : ℕ) (s : SeatState) (p : ℕ) → Taken c i s (Pop p) → EntriesPaid c i s (Pop p)
pop_paid c i s p t =
    let o = pops-off c i s p t.core t.got t.ok in
    let heads : List ℕ = (words_of c.shape c.words).heads in
    let f : ℕ → ℕ = λ q. packet_length heads (hands c.seats) q in
    let g : ℕ → ℕ = λ q. packet_length heads (hands (seats_left c i s (Pop p))) q in
    let all : sum_by g (range_with_len 0 c.shape.packets) + f p ≡ sum_by f (range_with_len 0 c.shape.packets) + g p = sum-but-one f g p 0 c.shape.packets (omega arith) (omega (arith, o.packet)) (λ x h. o.others x) in
    omega (arith, all, o.before, o.after, o.some)

push_paid : (c : Core) (i : ℕ) (s : SeatState) (p x : ℕ) → Taken c i s (Push p x) → EntriesPaid c i s (Push p x)
push_paid c i s p x t =
    let o = pushes-on c i s p x t.core t.got t.ok in
    let hp : p < c.shape.packets = ltb-true p c.shape.packets (and_parts _ _ (and_parts _ _ t.ok.0).0).0 in
    let heads : List ℕ = (words_of c.shape c.words).heads in
    let f : ℕ → ℕ = λ q. packet_length heads (hands c.seats) q in
    let g : ℕ → ℕ = λ q. packet_length heads (hands (seats_left c i s (Push p x))) q in
    let all : sum_by g (range_with_len 0 c.shape.packets) + f p ≡ sum_by f (range_with_len 0 c.shape.packets) + g p = sum-but-one f g p 0 c.shape.packets (omega arith) (omega (arith, hp)) (λ x h. o.others x) in
    omega (arith, all, o.before, o.after)

same_entries : (c : Core) (i : ℕ) (s : SeatState) (step : Step) → ((q : ℕ) → packet_length (words_left c s step).heads (hands (seats_left c i s step)) q ≡ packet_length (words_of c.shape c.words).heads (hands c.seats) q) → left c i s step ≡ before c
same_entries c i s step e =
    sum-same (λ q. packet_length (words_of c.shape c.words).heads (hands c.seats) q) (λ q. packet_length (words_left c s step).heads (hands (seats_left c i s step)) q) 0 c.shape.packets (λ q l h. e q)

-- what a step does to the entries of packets
pub entries-paid : (c : Core) (i : ℕ) (s : SeatState) (step : Step) → Taken c i s step → EntriesPaid c i s step
entries-paid c i s (Pop p) t = pop_paid c i s p t
entries-paid c i s (Push p x) t = push_paid c i s p x t
entries-paid c i s step t = omega (arith, same_entries c i s step (lengths-stay c i s step t.core t.got t.ok refl))

abbrev DeferredPaid : Core → SeatState → Step → Type 0
DeferredPaid c s step = bit (puts_back c s step) + bit (has_deferred (seat_after c.shape s step (found c s step))) ≤ bit (has_deferred s) + bit (defers c s step)

read_alloc_by : (x : ℕ × Bool) (b word : ℕ) (here there : Bool) → bit (is_deferred (cond here (cond there None (Some (x.0, true))) (Some x))) ≤ bit (is_deferred (Some x)) + bit (here && not there)
read_alloc_by x b word true true = omega arith
read_alloc_by x b word true false = omega arith
read_alloc_by x b word false there = omega arith

read_alloc : (o : Option (ℕ × Bool)) (b word : ℕ) → bit (is_deferred (popped_after o b word)) ≤ bit (is_deferred o) + bit (lacks_bit o b word)
read_alloc None b word = omega arith
read_alloc (Some x) b word = read_alloc_by x b word (eqb (x.0 / 64) b) (has_bit word (x.0 % 64))

was_deferred : (o : Option (ℕ × Bool)) (x : ℕ) → is_unpublished o x ≡ true → is_deferred o ≡ true
was_deferred None x e = absurd (false≢true e)
was_deferred (Some y) x e = (and_parts (eqb y.0 x) y.1 e).1

put_back : (o : Option (ℕ × Bool)) (x : ℕ) (fresh : Bool) → (fresh || is_unpublished o x) ≡ true → bit (not fresh) + bit (is_deferred (cond fresh o None)) ≤ bit (is_deferred o)
put_back o x true e = omega arith
put_back o x false e = omega (arith, ap bit (was_deferred o x e))

dirty_by : (x : ℕ × Bool) (b : Bool) → bit (is_deferred (cond b None (Some x))) ≤ bit (is_deferred (Some x))
dirty_by x true = omega arith
dirty_by x false = omega arith

dirty_card : (o : Option (ℕ × Bool)) (card : ℕ) → bit (is_deferred (popped_off o card)) ≤ bit (is_deferred o)
dirty_card None card = omega arith
dirty_card (Some x) card = dirty_by x (x.1 && eqb (card_of x.0) card)

-- what a step does to a popped cell that was found unpublished
pub deferred-paid : (c : Core) (i : ℕ) (s : SeatState) (step : Step) → Taken c i s step → DeferredPaid c s step
deferred-paid c i s (ReadAlloc b) t =
    let here : found c s (ReadAlloc b) ≡ get_or (words_of c.shape c.words).allocs b 0 = words-get (region_sizes c.shape) 4 c.words b 0 (in-place c i s (ReadAlloc b) t) in
    rw here (omega (arith, read_alloc s.popped b (get_or (words_of c.shape c.words).allocs b 0)))
deferred-paid c i s (Push p x) t = omega (arith, put_back s.popped x (is_the s.fresh x) t.ok.1.1.0)
deferred-paid c i s (Pop p) t = omega arith
deferred-paid c i s (DirtyCard card) t = omega (arith, dirty_card s.popped card)
deferred-paid c i s step t = omega arith
