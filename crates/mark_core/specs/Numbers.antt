-- The numbers that stand for the pools, and for the counters and statistics in Reset, AddStat and ReadStat; and those that all heaps have in common. Who raises
-- each of the counters and when it falls stands in src/numbers.rt.
use Rattle.std.specs.Prelude.{ℕ}

-- the pool of packets with no entry
abbrev pub empty_pool_number : ℕ
empty_pool_number = 0

-- the pool of packets with less than half of their room
abbrev pub low_pool_number : ℕ
low_pool_number = 1

-- the pool of packets with half of their room or more
abbrev pub high_pool_number : ℕ
high_pool_number = 2

-- the pool of packets that are deferred
abbrev pub deferred_pool_number : ℕ
deferred_pool_number = 3

-- how many pools there are
abbrev pub pools_in_all : ℕ
pools_in_all = 4

-- the counter of the card pass
abbrev pub card_counter : ℕ
card_counter = 0

-- the counter of the sweep, and of clearing
abbrev pub block_counter : ℕ
block_counter = 1

-- the cells that the last cycle marked: the first statistic
abbrev pub last_count : ℕ
last_count = 2

-- the objects that were scanned again in its stop
abbrev pub rescanned_count : ℕ
rescanned_count = 3

-- the objects that were traced in this cycle
abbrev pub traced_count : ℕ
traced_count = 4

-- the free cells: the last number that can be reset
abbrev pub free_count : ℕ
free_count = 5

-- the parts that the sections have played: the last statistic
abbrev pub done_count : ℕ
done_count = 6

-- the section that found the heap full
abbrev pub named_number : ℕ
named_number = 7

-- the position of section 0, with those of the others behind it
abbrev pub first_position : ℕ
first_position = 8

-- how many variables a section has
abbrev pub section_variables : ℕ
section_variables = 32

-- how many seats there can be: thirty-three sections and eight tracers
abbrev pub most_seats : ℕ
most_seats = 41

-- how many blocks a sweeper takes at a time at most
abbrev pub most_stretch : ℕ
most_stretch = 1024

-- how many bits a word has
abbrev pub word_bits : ℕ
word_bits = 64

-- what the word of empty packets holds beside their count: more than there are seats, each of which may have lowered it by one
abbrev pub empty_offset : ℕ
empty_offset = 64

-- an identity is its section times this, and the number of the object
abbrev pub section_span : ℕ
section_span = 4294967296

-- values are below this
abbrev pub value_bound : ℕ
value_bound = 4294967296

-- references are below this
abbrev pub reference_bound : ℕ
reference_bound = 4294967296
