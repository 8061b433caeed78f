-- What the events of a call say of the packets that it looked for.
use Rattle.std.specs.Prelude.{ℕ, ◌/◌, ◌%◌, ◌==◌, ◌&&◌, ◌||◌, not, List, [], ◌∷◌, Bool, true, false, nat_le, IsTrue}
use Rattle.std.specs.List.{list_all, range_with_len}
use Rattle.mark_core.specs.Bits.{has_bit, reference_in}
use Rattle.mark_core.specs.Numbers.{empty_pool_number, low_pool_number, high_pool_number, deferred_pool_number, word_bits}
use Rattle.mark_core.specs.declared.kinds.Shape.{Shape}
use Rattle.mark_core.specs.declared.kinds.Step.{Step}
use Rattle.mark_core.specs.declared.kinds.Step.TheVariants.{Reserve, Take, Give, Credit, Look, StoreLength, ReadLength}
use Rattle.gc_table.specs.declared.view.Entry.{Entry}

-- the pools in which a packet to read from is looked for, in this order
abbrev pub input_pools : List ℕ
input_pools = high_pool_number ∷ low_pool_number ∷ []

-- the pools in which a packet with room is looked for, in this order
abbrev pub output_pools : List ℕ
output_pools = empty_pool_number ∷ low_pool_number ∷ high_pool_number ∷ []

-- the pool in which a deferred packet is looked for
abbrev pub deferred_pools : List ℕ
deferred_pools = deferred_pool_number ∷ []

-- a look that found the bit of packet p in pool q clear
abbrev pub shows_outside : ℕ → ℕ → Step → ℕ → Bool
shows_outside q p (Look pool g) found = (pool == q) && (g == p / word_bits) && not (has_bit found (p % word_bits))
shows_outside q p step found = false

-- a take of packet p out of pool q that found its bit clear: another seat was first
abbrev pub loses : ℕ → ℕ → Step → ℕ → Bool
loses q p (Take pool packet) found = (pool == q) && (packet == p) && not (has_bit found (p % word_bits))
loses q p step found = false

-- a take of packet p out of pool q that got it
abbrev pub gets_from : ℕ → ℕ → Step → ℕ → Bool
gets_from q p (Take pool packet) found = (pool == q) && (packet == p) && has_bit found (p % word_bits)
gets_from q p step found = false

-- a take of packet p that got it
abbrev pub gets : ℕ → Step → ℕ → Bool
gets p (Take pool packet) found = (packet == p) && has_bit found (p % word_bits)
gets p step found = false

-- a length of packet p that leaves no room
abbrev pub reads_full : ℕ → ℕ → Step → ℕ → Bool
reads_full entries p (ReadLength packet) found = (packet == p) && nat_le entries (reference_in found)
reads_full entries p step found = false

-- some event is like this
abbrev pub some_event : (Step → ℕ → Bool) → List Entry → Bool
some_event f [] = false
some_event f (e ∷ es) = f e.step e.found || some_event f es

-- some event is like this, and none before it got packet p
abbrev pub before_got : ℕ → (Step → ℕ → Bool) → List Entry → Bool
before_got p f [] = false
before_got p f (e ∷ es) = f e.step e.found || (not (gets p e.step e.found) && before_got p f es)

-- packet p was seen outside pool q
abbrev pub seen_outside : ℕ → ℕ → List Entry → Bool
seen_outside q p es = before_got p (shows_outside q p) es

-- packet p was lost to another seat's step in pool q
abbrev pub was_lost : ℕ → ℕ → List Entry → Bool
was_lost q p es = before_got p (loses q p) es

-- packet p couldn't be had out of pool q: it was seen outside, or lost there
abbrev pub was_missed : ℕ → ℕ → List Entry → Bool
was_missed q p es = seen_outside q p es || was_lost q p es

-- packet p was taken out of the high pool, and read as full
abbrev pub was_full : ℕ → ℕ → List Entry → Bool
was_full entries p [] = false
was_full entries p (e ∷ es) = (gets_from high_pool_number p e.step e.found && some_event (reads_full entries p) es) || was_full entries p es

-- packet p was taken out of pool q
abbrev pub was_got_from : ℕ → ℕ → List Entry → Bool
was_got_from q p es = some_event (gets_from q p) es

-- packet p was taken
abbrev pub was_got : ℕ → List Entry → Bool
was_got p es = some_event (gets p) es

-- packet p couldn't be had out of any of these pools
abbrev pub was_missed_in : List ℕ → ℕ → List Entry → Bool
was_missed_in [] p es = true
was_missed_in (q ∷ qs) p es = was_missed q p es && was_missed_in qs p es

-- packet p couldn't be had with room: not out of the empty and the low pool, and out of the high one not at all or full
abbrev pub was_roomless : ℕ → ℕ → List Entry → Bool
was_roomless entries p es = was_missed_in (empty_pool_number ∷ low_pool_number ∷ []) p es && (was_missed high_pool_number p es || was_full entries p es)

-- no packet could be had out of any of these pools
abbrev pub all_missed : Shape → List ℕ → List Entry → Bool
all_missed sh qs es = list_all (λ p. was_missed_in qs p es) (range_with_len 0 sh.packets)

-- pool q is one of these
abbrev pub in_pools : ℕ → List ℕ → Bool
in_pools q [] = false
in_pools q (x ∷ xs) = (x == q) || in_pools q xs

-- a step that takes a packet out of one of these pools, or gives one back that isn't deferred
abbrev pub moves_packet : List ℕ → Step → Bool
moves_packet qs Reserve = true
moves_packet qs (Take pool packet) = in_pools pool qs
moves_packet qs (Give packet deferred) = not deferred
moves_packet qs Credit = true
moves_packet qs (Look pool g) = true
moves_packet qs (StoreLength packet) = true
moves_packet qs (ReadLength packet) = true
moves_packet qs step = false

-- each of these events is a step by which packets are taken out of these pools, or given back and not deferred
abbrev pub only_moves : List ℕ → List Entry → Bool
only_moves qs [] = true
only_moves qs (e ∷ es) = moves_packet qs e.step && only_moves qs es

-- each packet was missed in each pool that has packets to read from
abbrev pub no_input : Shape → List Entry → Bool
no_input sh es = all_missed sh input_pools es

-- no packet to read from could be had: each was missed, pool by pool
abbrev pub NoInput : Shape → List Entry → Type 0
NoInput sh es = IsTrue (no_input sh es)

-- no deferred packet could be had
abbrev pub NoDeferred : Shape → List Entry → Type 0
NoDeferred sh es = IsTrue (all_missed sh deferred_pools es)

-- each packet was missed in each pool, or found full
abbrev pub no_output : Shape → List Entry → Bool
no_output sh es = list_all (λ p. was_roomless sh.entries p es) (range_with_len 0 sh.packets)

-- no packet with room could be had: each was missed, pool by pool, or found full
abbrev pub NoOutput : Shape → List Entry → Type 0
NoOutput sh es = IsTrue (no_output sh es)
