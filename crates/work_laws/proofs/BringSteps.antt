-- What one step does to the cells that may be popped and found unpublished.
use Rattle.std.proofs.Common.{ℕ, ◌≡◌, ◌≢◌, ◌+◌, ◌*◌, ◌/◌, ◌%◌, ◌<◌, ◌≤◌, List, set, get_or, length, arith, refl, sym, ap, ◌∙◌, subst, Bool, true, false, not, ◌&&◌, ◌||◌, cond, eqb, Option, Some, None, ⊎_elim}
use Rattle.std.specs.Prelude.{nat_lt}
use Rattle.std.specs.List.{sum_by, range_with_len}
use Rattle.std.proofs.lemmas.Bool.{and_parts, cases_eq, eq-eqb, false≢true, ltb-true, ne_eqb}
use Rattle.mark_core.specs.Layout.{Words, words_of, pool_words, region_sizes}
use Rattle.mark_core.specs.Bits.{has_bit, with_bit, without_bit}
use Rattle.mark_core.specs.Cards.{card_of}
use Rattle.mark_core.specs.Held.{holds, length_in_hand}
use Rattle.mark_core.specs.Views.{hands}
use Rattle.mark_core.specs.Cells.{in_pool, packet_length}
use Rattle.mark_core.specs.Seats.{is_the}
use Rattle.mark_core.specs.Effects.{seat_after, written}
use Rattle.mark_core.specs.Steps.{Core}
use Rattle.mark_core.specs.Steps.ColourSteps.{popped_after, popped_off}
use Rattle.mark_core.specs.Steps.PacketSteps.{pool_for}
use Rattle.mark_core.specs.declared.kinds.Shape.{Shape}
use Rattle.mark_core.specs.declared.kinds.Step.{Step}
use Rattle.mark_core.specs.declared.kinds.Step.TheVariants.{DirtyCard, Give, Look, Pop, Push, ReadAlloc, Take}
use Rattle.mark_core.specs.declared.seat.SeatState.{SeatState}
use Rattle.mark_core.proofs.Known.{found, seats_left, words_left}
use Rattle.mark_core.proofs.Count.CountMoves.{bit, bit-below}
use Rattle.mark_core.proofs.Writing.Places.{region-length, words-get}
use Rattle.mark_core.proofs.Writing.RegionWrites.{pools-kept}
use Rattle.mark_core.proofs.Pool.PoolPlaces.{OneBit, in-no-pool, pool-with, pool-without}
use Rattle.mark_core.proofs.Pool.PoolMoves.{deferred-fits, held-alone}
use Rattle.mark_core.proofs.Marks.MarksQueues.{held-by, held-packet, lengths-stay, pops-off, pushes-on}
use Rattle.mark_core.proofs.Blocks.BlocksStopped.{Taken, in-place, words-read}
use Rattle.work_laws.specs.Marking.{pushes_fresh}
use Rattle.work_laws.specs.Queueing.{has_deferred, is_deferred, pops, puts_back}
use Rattle.work_laws.specs.Dirtying.{spills_deferred}
use Rattle.work_laws.specs.Bringing.{Waits, brought_by, defers_anew, has_new, is_new, lacks_anew, pops_out, ready_cells, ready_in, waits_after}
use Rattle.work_laws.proofs.DirtySteps.{deferred-spilled}
use Rattle.work_laws.proofs.Ranges.{sum-same, sum-but-one}

or_false : (b : Bool) → (b || false) ≡ b
or_false true = refl
or_false false = refl

and_true : (b : Bool) → (b && true) ≡ b
and_true true = refl
and_true false = refl

and_none : (b : Bool) → (b && false) ≡ false
and_none true = refl
and_none false = refl

-- a packet whose bits and length are as before
same_term : (a b : Bool) (m n : ℕ) → b ≡ a → n ≡ m → cond b 0 n ≡ cond a 0 m
same_term a b m n e f = rw (e, f) refl

-- what is in a packet before and after
abbrev term : Shape → List ℕ → (ℕ → ℕ) → Waits → ℕ → ℕ
term sh pools len waits x = cond (waits x || in_pool sh pools 3 x) 0 (len x)

abbrev len_of : Core → ℕ → ℕ
len_of c x = packet_length (words_of c.shape c.words).heads (hands c.seats) x

abbrev len_left : Core → ℕ → SeatState → Step → ℕ → ℕ
len_left c i s step x = packet_length (words_left c s step).heads (hands (seats_left c i s step)) x

abbrev left : Core → ℕ → SeatState → Step → Waits → ℕ
left c i s step waits = ready_in c.shape (words_left c s step) (hands (seats_left c i s step)) (waits_after s step waits)

abbrev ReadyPaid : Core → ℕ → SeatState → Step → Waits → Type 0
ReadyPaid c i s step waits = bit (pops c s step) + left c i s step waits ≤ ready_cells c waits + bit (pushes_fresh c s step) + brought_by c step + bit (pops_out step waits)

-- the sums, if one packet's term changes
moved : (f g : ℕ → ℕ) (p n : ℕ) → p < n → ((x : ℕ) → x < n → x ≢ p → g x ≡ f x) → sum_by g (range_with_len 0 n) + f p ≡ sum_by f (range_with_len 0 n) + g p
moved f g p n h s = sum-but-one f g p 0 n (omega arith) (omega (arith, h)) (λ x l d. s x (omega (arith, l)) d)

-- a cell is popped
pop_term : (w here : Bool) (n m : ℕ) → here ≡ false → 1 + m ≤ n → 1 + cond (w || here) 0 m ≤ cond (w || here) 0 n + bit w
pop_term true here n m e h = omega arith
pop_term false here n m e h = rw e (omega (arith, h))

pop_paid : (c : Core) (i : ℕ) (s : SeatState) (p : ℕ) (waits : Waits) → Taken c i s (Pop p) → ReadyPaid c i s (Pop p) waits
pop_paid c i s p waits t =
    let sh : Shape = c.shape in
    let w : Words = words_of sh c.words in
    let o = pops-off c i s p t.core t.got t.ok in
    let held = held-packet sh p (holds s.held p) t.ok.0 in
    let out : in_pool sh w.pools 3 p ≡ false = in-no-pool sh w.pools 3 p (omega arith) (held-alone sh w.heads w.pools (hands c.seats) i p s.held (held-by c i s t.core t.got) held.0 held.1).0 in
    let f : ℕ → ℕ = term sh w.pools (len_of c) waits in
    let g : ℕ → ℕ = term sh w.pools (len_left c i s (Pop p)) waits in
    let all : sum_by g (range_with_len 0 sh.packets) + f p ≡ sum_by f (range_with_len 0 sh.packets) + g p = moved f g p sh.packets held.0 (λ x h d. ap (λ m. cond (waits x || in_pool sh w.pools 3 x) 0 m) (o.others x d)) in
    let one = pop_term (waits p) (in_pool sh w.pools 3 p) (len_of c p) (len_left c i s (Pop p) p) out (omega (arith, o.before, o.after, o.some)) in
    omega (arith, all, one)

-- a cell is pushed
push_term : (w here same fresh : Bool) (n m : ℕ) → same ≡ true → m ≡ n + 1 → cond ((w || (same && not fresh)) || here) 0 m ≤ cond (w || here) 0 n + bit fresh
push_term true here same fresh n m e h = omega arith
push_term false here true false n m e h = omega arith
push_term false true true true n m e h = omega arith
push_term false false true true n m e h = omega (arith, h)
push_term false here false fresh n m e h = absurd (false≢true e)

push_paid : (c : Core) (i : ℕ) (s : SeatState) (p x : ℕ) (waits : Waits) → Taken c i s (Push p x) → ReadyPaid c i s (Push p x) waits
push_paid c i s p x waits t =
    let sh : Shape = c.shape in
    let w : Words = words_of sh c.words in
    let o = pushes-on c i s p x t.core t.got t.ok in
    let hp : p < sh.packets = ltb-true p sh.packets (and_parts _ _ (and_parts _ _ t.ok.0).0).0 in
    let old : Bool = not (is_the s.fresh x) in
    let f : ℕ → ℕ = term sh w.pools (len_of c) waits in
    let g : ℕ → ℕ = term sh w.pools (len_left c i s (Push p x)) (λ y. waits y || (eqb y p && old)) in
    let others : (y : ℕ) → y ≢ p → g y ≡ f y =
    λ y d.
    same_term (waits y || in_pool sh w.pools 3 y) ((waits y || (eqb y p && old)) || in_pool sh w.pools 3 y) (len_of c y) (len_left c i s (Push p x) y)
    (ap (λ b. (waits y || (b && old)) || in_pool sh w.pools 3 y) (ne_eqb y p d) ∙ ap (λ b. b || in_pool sh w.pools 3 y) (or_false (waits y))) (o.others y d) in
    let all : sum_by g (range_with_len 0 sh.packets) + f p ≡ sum_by f (range_with_len 0 sh.packets) + g p = moved f g p sh.packets hp (λ y h d. others y d) in
    let one = push_term (waits p) (in_pool sh w.pools 3 p) (eqb p p) (is_the s.fresh x) (len_of c p) (len_left c i s (Push p x) p) (eq-eqb p p refl) (omega (arith, o.before, o.after)) in
    omega (arith, all, one)

-- a packet is taken out of a pool
take_bit : (c : Core) (i : ℕ) (s : SeatState) (q p : ℕ) → Taken c i s (Take q p) → OneBit c.shape (words_of c.shape c.words).pools (words_left c s (Take q p)).pools q p false
take_bit c i s q p t =
    let sh : Shape = c.shape in
    let pools : List ℕ = (words_of sh c.words).pools in
    let k : ℕ = q * pool_words sh + p / 64 in
    let at = in-place c i s (Take q p) t in
    let here : found c s (Take q p) ≡ get_or pools k 0 = words-get (region_sizes sh) 12 c.words k 0 at in
    let long : length pools ≡ 4 * pool_words sh = region-length (region_sizes sh) 12 c.words (omega (arith, t.core.formed.words)) in
    let hp : p < sh.packets = ltb-true p sh.packets (and_parts (nat_lt q 4) (nat_lt p sh.packets) (and_parts _ _ t.ok.0).0).1 in
    subst (λ (old : ℕ). OneBit sh pools (set pools k (without_bit old (p % 64))) q p false) (sym here) (pool-without sh pools q p (omega (arith, at, long)) hp)

take_term : (w here now : Bool) (n m : ℕ) → now ≡ false → m ≡ n → cond (w || now) 0 m ≤ cond (w || here) 0 n + cond here n 0
take_term true here now n m e h = omega arith
take_term false true now n m e h = rw e (omega (arith, h))
take_term false false now n m e h = rw e (omega (arith, h))

take_paid : (c : Core) (i : ℕ) (s : SeatState) (q p : ℕ) (waits : Waits) → Taken c i s (Take q p) → ReadyPaid c i s (Take q p) waits
take_paid c i s q p waits t =
    let sh : Shape = c.shape in
    let w : Words = words_of sh c.words in
    let after : List ℕ = (words_left c s (Take q p)).pools in
    let o = take_bit c i s q p t in
    let long : (y : ℕ) → len_left c i s (Take q p) y ≡ len_of c y = lengths-stay c i s (Take q p) t.core t.got t.ok refl in
    let hp : p < sh.packets = ltb-true p sh.packets (and_parts (nat_lt q 4) (nat_lt p sh.packets) (and_parts _ _ t.ok.0).0).1 in
    let f : ℕ → ℕ = term sh w.pools (len_of c) waits in
    let g : ℕ → ℕ = term sh after (len_left c i s (Take q p)) waits in
    let kept : (y : ℕ) → in_pool sh after 3 y ≡ in_pool sh w.pools 3 y → g y ≡ f y =
    λ y e. same_term (waits y || in_pool sh w.pools 3 y) (waits y || in_pool sh after 3 y) (len_of c y) (len_left c i s (Take q p) y) (ap (λ b. waits y || b) e) (long y) in
    ⊎_elim
    (λ (e : q ≡ 3).
    let here : in_pool sh after 3 p ≡ false = ap (λ r. in_pool sh after r p) (sym e) ∙ o.here in
    let all : sum_by g (range_with_len 0 sh.packets) + f p ≡ sum_by f (range_with_len 0 sh.packets) + g p = moved f g p sh.packets hp (λ y h d. kept y (o.there 3 y h (λ a b. d b))) in
    let one = take_term (waits p) (in_pool sh w.pools 3 p) (in_pool sh after 3 p) (len_of c p) (len_left c i s (Take q p) p) here (long p) in
    let brought : brought_by c (Take q p) ≡ cond (in_pool sh w.pools 3 p) (len_of c p) 0 = ap (λ b. cond (b && in_pool sh w.pools 3 p) (len_of c p) 0) (eq-eqb q 3 e) in
    omega (arith, all, one, brought))
    (λ (n : q ≡ 3 → ⊥).
    let all : sum_by g (range_with_len 0 sh.packets) ≡ sum_by f (range_with_len 0 sh.packets) = sum-same f g 0 sh.packets (λ y l h. kept y (o.there 3 y (omega (arith, h)) (λ a b. n (sym a)))) in
    omega (arith, all))
    (cases_eq q 3)

-- a packet is given back
give_bit : (c : Core) (i : ℕ) (s : SeatState) (p : ℕ) (d : Bool) → Taken c i s (Give p d) → OneBit c.shape (words_of c.shape c.words).pools (words_left c s (Give p d)).pools (pool_for c.shape (length_in_hand s.held p) d) p true
give_bit c i s p d t =
    let sh : Shape = c.shape in
    let pools : List ℕ = (words_of sh c.words).pools in
    let q : ℕ = pool_for sh (length_in_hand s.held p) d in
    let k : ℕ = q * pool_words sh + p / 64 in
    let at = in-place c i s (Give p d) t in
    let here : found c s (Give p d) ≡ get_or pools k 0 = words-get (region_sizes sh) 12 c.words k 0 at in
    let long : length pools ≡ 4 * pool_words sh = region-length (region_sizes sh) 12 c.words (omega (arith, t.core.formed.words)) in
    let held = held-packet sh p (holds s.held p) t.ok.0 in
    subst (λ (old : ℕ). OneBit sh pools (set pools k (with_bit old (p % 64))) q p true) (sym here) (pool-with sh pools q p (omega (arith, at, long)) held.0)

none_ready : (w now : Bool) (m : ℕ) → now ≡ true → cond (w || now) 0 m ≡ 0
none_ready true now m e = refl
none_ready false now m e = rw e refl

give_deferred : (c : Core) (i : ℕ) (s : SeatState) (p : ℕ) (waits : Waits) → Taken c i s (Give p true) → ReadyPaid c i s (Give p true) waits
give_deferred c i s p waits t =
    let sh : Shape = c.shape in
    let w : Words = words_of sh c.words in
    let after : List ℕ = (words_left c s (Give p true)).pools in
    let o = give_bit c i s p true t in
    let held = held-packet sh p (holds s.held p) t.ok.0 in
    let long : (y : ℕ) → len_left c i s (Give p true) y ≡ len_of c y = lengths-stay c i s (Give p true) t.core t.got t.ok refl in
    let f : ℕ → ℕ = term sh w.pools (len_of c) waits in
    let g : ℕ → ℕ = term sh after (len_left c i s (Give p true)) (λ y. waits y && not (eqb y p && true)) in
    let others : (y : ℕ) → y < sh.packets → y ≢ p → g y ≡ f y =
    λ y h d.
    same_term (waits y || in_pool sh w.pools 3 y) ((waits y && not (eqb y p && true)) || in_pool sh after 3 y) (len_of c y) (len_left c i s (Give p true) y)
    (ap (λ b. (waits y && not (b && true)) || in_pool sh after 3 y) (ne_eqb y p d) ∙ (ap (λ b. b || in_pool sh after 3 y) (and_true (waits y)) ∙ ap (λ b. waits y || b) (o.there 3 y h (λ a b. d b)))) (long y) in
    let all : sum_by g (range_with_len 0 sh.packets) + f p ≡ sum_by f (range_with_len 0 sh.packets) + g p = moved f g p sh.packets held.0 others in
    let one : g p ≡ 0 = none_ready (waits p && not (eqb p p && true)) (in_pool sh after 3 p) (len_left c i s (Give p true) p) o.here in
    omega (arith, all, one)

give_other : (c : Core) (i : ℕ) (s : SeatState) (p : ℕ) (waits : Waits) → Taken c i s (Give p false) → ReadyPaid c i s (Give p false) waits
give_other c i s p waits t =
    let sh : Shape = c.shape in
    let w : Words = words_of sh c.words in
    let after : List ℕ = (words_left c s (Give p false)).pools in
    let o = give_bit c i s p false t in
    let long : (y : ℕ) → len_left c i s (Give p false) y ≡ len_of c y = lengths-stay c i s (Give p false) t.core t.got t.ok refl in
    let f : ℕ → ℕ = term sh w.pools (len_of c) waits in
    let g : ℕ → ℕ = term sh after (len_left c i s (Give p false)) (λ y. waits y && not (eqb y p && false)) in
    let others : (y : ℕ) → y < sh.packets → g y ≡ f y =
    λ y h.
    same_term (waits y || in_pool sh w.pools 3 y) ((waits y && not (eqb y p && false)) || in_pool sh after 3 y) (len_of c y) (len_left c i s (Give p false) y)
    (ap (λ b. (waits y && not b) || in_pool sh after 3 y) (and_none (eqb y p))
    ∙ (ap (λ b. b || in_pool sh after 3 y) (and_true (waits y)) ∙ ap (λ b. waits y || b) (o.there 3 y h (λ a b. false≢true (deferred-fits sh (length_in_hand s.held p) false (sym a)))))) (long y) in
    let all : sum_by g (range_with_len 0 sh.packets) ≡ sum_by f (range_with_len 0 sh.packets) = sum-same f g 0 sh.packets (λ y l h. others y (omega (arith, h))) in
    omega (arith, all)

-- a step that leaves pools and lengths
same_ready : (c : Core) (i : ℕ) (s : SeatState) (step : Step) (waits : Waits) → ((y : ℕ) → len_left c i s step y ≡ len_of c y) → (words_left c s step).pools ≡ (words_of c.shape c.words).pools
    → ready_in c.shape (words_left c s step) (hands (seats_left c i s step)) waits ≡ ready_cells c waits
same_ready c i s step waits long e =
    sum-same (term c.shape (words_of c.shape c.words).pools (len_of c) waits) (term c.shape (words_left c s step).pools (len_left c i s step) waits) 0 c.shape.packets
    (λ y l h. same_term (waits y || in_pool c.shape (words_of c.shape c.words).pools 3 y) (waits y || in_pool c.shape (words_left c s step).pools 3 y) (len_of c y) (len_left c i s step y) (ap (λ ps. waits y || in_pool c.shape ps 3 y) e) (long y))

-- what a step does to the cells that are ready
pub ready-paid : (c : Core) (i : ℕ) (s : SeatState) (step : Step) (waits : Waits) → Taken c i s step → ReadyPaid c i s step waits
ready-paid c i s (Pop p) waits t = pop_paid c i s p waits t
ready-paid c i s (Push p x) waits t = push_paid c i s p x waits t
ready-paid c i s (Take q p) waits t = take_paid c i s q p waits t
ready-paid c i s (Give p true) waits t = give_deferred c i s p waits t
ready-paid c i s (Give p false) waits t = give_other c i s p waits t
ready-paid c i s (Look q g) waits t =
    let same : ready_in c.shape (words_left c s (Look q g)) (hands (seats_left c i s (Look q g))) waits ≡ ready_cells c waits =
    same_ready c i s (Look q g) waits (lengths-stay c i s (Look q g) t.core t.got t.ok refl) (ap (λ (w : Words). w.pools) (words-read c i s (Look q g) t refl)) in
    omega (arith, same)
ready-paid c i s step waits t =
    let same : ready_in c.shape (words_left c s step) (hands (seats_left c i s step)) waits ≡ ready_cells c waits =
    same_ready c i s step waits (lengths-stay c i s step t.core t.got t.ok refl) (pools-kept c.shape s step (written c.shape s step (found c s step)) (words_of c.shape c.words) refl) in
    omega (arith, same)

abbrev NewPaid : Core → SeatState → Step → Type 0
NewPaid c s step = bit (defers_anew c s step) + bit (has_new (seat_after c.shape s step (found c s step))) ≤ bit (has_new s) + bit (pops c s step)

read_by : (x : ℕ × Bool) (new here there : Bool) → not x.1 ≡ new → bit (new && (here && not there)) + bit (is_new (cond here (cond there None (Some (x.0, true))) (Some x))) ≤ bit new
read_by x true true true e = omega arith
read_by x true true false e = omega arith
read_by x true false there e = omega (arith, bit-below (not x.1))
read_by x false true true e = omega arith
read_by x false true false e = omega arith
read_by x false false there e = omega (arith, ap bit e)

read_new : (o : Option (ℕ × Bool)) (b word : ℕ) → bit (lacks_anew o b word) + bit (is_new (popped_after o b word)) ≤ bit (is_new o)
read_new None b word = omega arith
read_new (Some x) b word = read_by x (not x.1) (eqb (x.0 / 64) b) (has_bit word (x.0 % 64)) refl

fewer_new : (o : Option (ℕ × Bool)) (b : Bool) → bit (is_new (cond b None o)) ≤ bit (is_new o)
fewer_new o true = omega arith
fewer_new o false = omega arith

pushed_new : (o : Option (ℕ × Bool)) (b : Bool) → bit (is_new (cond b o None)) ≤ bit (is_new o)
pushed_new o true = omega arith
pushed_new o false = omega arith

dirty_new : (o : Option (ℕ × Bool)) (card : ℕ) → bit (is_new (popped_off o card)) ≤ bit (is_new o)
dirty_new None card = omega arith
dirty_new (Some x) card = fewer_new (Some x) (x.1 && eqb (card_of x.0) card)

-- what a step does to a popped cell of which nothing is known
pub new-paid : (c : Core) (i : ℕ) (s : SeatState) (step : Step) → Taken c i s step → NewPaid c s step
new-paid c i s (ReadAlloc b) t =
    let here : found c s (ReadAlloc b) ≡ get_or (words_of c.shape c.words).allocs b 0 = words-get (region_sizes c.shape) 4 c.words b 0 (in-place c i s (ReadAlloc b) t) in
    rw here (omega (arith, read_new s.popped b (get_or (words_of c.shape c.words).allocs b 0)))
new-paid c i s (Push p x) t = omega (arith, pushed_new s.popped (is_the s.fresh x))
new-paid c i s (Pop p) t = omega arith
new-paid c i s (DirtyCard card) t = omega (arith, dirty_new s.popped card)
new-paid c i s step t = omega arith

abbrev BackPaid : Core → SeatState → Step → Type 0
BackPaid c s step = bit (spills_deferred c s step) + bit (puts_back c s step) + bit (has_deferred (seat_after c.shape s step (found c s step))) ≤ bit (has_deferred s) + bit (defers_anew c s step)

back_by : (x : ℕ × Bool) (old here there : Bool) → x.1 ≡ old → bit (is_deferred (cond here (cond there None (Some (x.0, true))) (Some x))) ≤ bit old + bit (not old && (here && not there))
back_by x true here there e = omega (arith, bit-below (is_deferred (cond here (cond there None (Some (x.0, true))) (Some x))))
back_by x false true true e = omega arith
back_by x false true false e = omega arith
back_by x false false there e = omega (arith, ap bit e)

read_back : (o : Option (ℕ × Bool)) (b word : ℕ) → bit (is_deferred (popped_after o b word)) ≤ bit (is_deferred o) + bit (lacks_anew o b word)
read_back None b word = omega arith
read_back (Some x) b word = back_by x x.1 (eqb (x.0 / 64) b) (has_bit word (x.0 % 64)) refl

-- a popped cell that was found unpublished is put back, or dirties its card
pub back-paid : (c : Core) (i : ℕ) (s : SeatState) (step : Step) → Taken c i s step → BackPaid c s step
back-paid c i s (ReadAlloc b) t =
    let here : found c s (ReadAlloc b) ≡ get_or (words_of c.shape c.words).allocs b 0 = words-get (region_sizes c.shape) 4 c.words b 0 (in-place c i s (ReadAlloc b) t) in
    rw here (omega (arith, read_back s.popped b (get_or (words_of c.shape c.words).allocs b 0)))
back-paid c i s step t = omega (arith, deferred-spilled c i s step t)
