-- Dumps that are too long, of which only a part was read.
use Rattle.std.proofs.Common.{◌≡◌, ◌≤◌, ◌<◌, ◌+◌, ◌*◌, ℕ, List, ◌∷◌, ◌++◌, length, refl, sym, ap, ap₂, ◌∙◌, subst, arith, Bool, true, false, not, cond, nat_lt, length-append, ◌⊎◌, [], drop, codes, inl, inr}
use Rattle.std.proofs.lemmas.Bool.Decides.{nat_tests}
use Rattle.std.proofs.lemmas.Nat.{mul-le}
use Rattle.std.specs.Prelude.{Option, Some, None, nat_eq, Result, Err}
use Rattle.std.specs.List.{starts_with}
use Rattle.heap_dump.specs.Final.{DumpedHeap}
use Rattle.heap_dump.specs.First.{first_of_two}
use Rattle.heap_dump.specs.Reading.{first_dump_fault, frame_fault, has_shape, heap_fault, heap_of_dump, length_fault, number_at, numbers_of_dump}
use Rattle.heap_dump.specs.Spelling.{magic, stated_length}
use Rattle.heap_dump.specs.declared.fault.DumpError.{DumpError}
use Rattle.heap_dump.specs.declared.fault.DumpError.TheVariants.{BadMagic, BadShape, TooMuch, Cut}
use Rattle.play_words.specs.DumpReading.{OfDump}
use Rattle.gc_script.specs.Faults.{Fault, TooLong}
use Rattle.gc_script.specs.Script.{Script, script}
use Rattle.gc_script.specs.ScriptText.{first_foreign}
use Rattle.gc_script.specs.Convert.{Conversion, convert, converted}
use Rattle.job_pool.specs.Batch as batches
use Rattle.job_pool.specs.Batch.{batch, begins_with, jobs_from}
use Rattle.schedule_check.specs.Faults as schedules
use Rattle.schedule_check.specs.Schedule.{Schedule, schedule, of_schedule_text as schedule_of_text}
use Rattle.schedule_check.specs.Telling.{IsToldAs, IsScheduleAnswer}
use Rattle.command_words.specs.Words.{Options}
use Rattle.gc_play.proofs.Taking.{IsOfWhole, all_taken, long_script, same_meaning}
use Rattle.play_words.specs.Converting.{IsConvertAnswer, IsConversion}
use Rattle.play_words.specs.Batching.{IsBatchAnswer, BatchesTo}
use Rattle.play_words.specs.Undumping.{IsUndumpAnswer, IsUndumpText}
use Rattle.play_words.specs.Counting.{IsCensusAnswer, IsCensusText}
use Rattle.gc_play.specs.Promise.{OfRead}

-- the head of what was taken is that of the whole
pub record HasHead (xs ys : List ℕ) : Type 0 where
  pub magic_is : starts_with nat_eq ys magic ≡ starts_with nat_eq xs magic
  pub fields_is : number_at ys 0 ≡ number_at xs 0
  pub sections_is : number_at ys 1 ≡ number_at xs 1
  pub records_is : number_at ys 2 ≡ number_at xs 2

same_head : (xs rest : List ℕ) → 20 ≤ length xs → HasHead xs (xs ++ rest)
unfolding numbers_of_dump
same_head (x0 ∷ x1 ∷ x2 ∷ x3 ∷ x4 ∷ x5 ∷ x6 ∷ x7 ∷ x8 ∷ x9 ∷ x10 ∷ x11 ∷ x12 ∷ x13 ∷ x14 ∷ x15 ∷ x16 ∷ x17 ∷ x18 ∷ x19 ∷ more) rest h = record { magic_is = refl; fields_is = refl; sections_is = refl; records_is = refl }
same_head _ rest h = absurd (omega arith)

-- the fault of so long a source, by its head
abbrev head_fault : Bool → ℕ → ℕ → ℕ → DumpError
head_fault named fields sections records = cond named (cond (has_shape fields sections records) TooMuch BadShape) BadMagic

short : (fields sections records : ℕ) → fields ≤ 16 → sections ≤ 33 → records ≤ 65536 → stated_length fields sections records ≤ 4984980
short fields sections records f s r =
    let one : 12 + 4 * fields ≤ 76 = omega (arith, f) in
    let many : records * (12 + 4 * fields) ≤ 65536 * 76 = mul-le records (12 + 4 * fields) 65536 76 r one in
    omega (arith, s, many)

too_much : (len stated : ℕ) → stated < len → length_fault len stated ≡ Some TooMuch
too_much len stated h =
    let no : nat_lt len stated ≡ false = grind (arith, nat_tests) in
    let yes : nat_lt stated len ≡ true = grind (arith, nat_tests) in
    ap₂ (λ (a b : Bool). cond a (Some (Cut stated)) (cond b (Some TooMuch) None)) no yes

shape_small : (fields sections records : ℕ) → has_shape fields sections records ≡ true → stated_length fields sections records ≤ 4984980
shape_small fields sections records e = short fields sections records (grind (arith, nat_tests)) (grind (arith, nat_tests)) (grind (arith, nat_tests))

by_head : (len fields sections records : ℕ) (named shaped : Bool) → has_shape fields sections records ≡ shaped → 4984981 ≤ len
    → cond (nat_lt len 20) (Some (Cut 20)) (cond (not named) (Some BadMagic) (cond (not shaped) (Some BadShape) (length_fault len (stated_length fields sections records))))
    ≡ Some (cond named (cond shaped TooMuch BadShape) BadMagic)
by_head len fields sections records named shaped e long =
    let no : nat_lt len 20 ≡ false = grind (arith, nat_tests) in
    ap (λ (b : Bool). cond b (Some (Cut 20)) (cond (not named) (Some BadMagic) (cond (not shaped) (Some BadShape) (length_fault len (stated_length fields sections records))))) no ∙ go named shaped e
  where
    go : (named shaped : Bool) → has_shape fields sections records ≡ shaped
        → cond (not named) (Some BadMagic) (cond (not shaped) (Some BadShape) (length_fault len (stated_length fields sections records))) ≡ Some (cond named (cond shaped TooMuch BadShape) BadMagic)
    go false s is = refl
    go true false is = refl
    go true true is = too_much len (stated_length fields sections records) (omega (arith, long, shape_small fields sections records is))

framed : (bytes : List ℕ) → 4984981 ≤ length bytes → frame_fault bytes ≡ Some (head_fault (starts_with nat_eq bytes magic) (number_at bytes 0) (number_at bytes 1) (number_at bytes 2))
unfolding frame_fault
framed bytes long = by_head (length bytes) (number_at bytes 0) (number_at bytes 1) (number_at bytes 2) (starts_with nat_eq bytes magic) (has_shape (number_at bytes 0) (number_at bytes 1) (number_at bytes 2)) refl long

faulty : (bytes : List ℕ) → 4984981 ≤ length bytes → first_dump_fault bytes ≡ Some (head_fault (starts_with nat_eq bytes magic) (number_at bytes 0) (number_at bytes 1) (number_at bytes 2))
unfolding first_dump_fault
faulty bytes long = ap (λ (o : Option DumpError). first_of_two o (heap_fault (heap_of_dump bytes))) (framed bytes long)

heads_agree : (xs ys : List ℕ) → HasHead xs ys
    → head_fault (starts_with nat_eq ys magic) (number_at ys 0) (number_at ys 1) (number_at ys 2) ≡ head_fault (starts_with nat_eq xs magic) (number_at xs 0) (number_at xs 1) (number_at xs 2)
heads_agree xs ys h =
    ap (λ (b : Bool). head_fault b (number_at ys 0) (number_at ys 1) (number_at ys 2)) h.magic_is
    ∙ ap (λ (n : ℕ). head_fault (starts_with nat_eq xs magic) n (number_at ys 1) (number_at ys 2)) h.fields_is
    ∙ ap (λ (n : ℕ). head_fault (starts_with nat_eq xs magic) (number_at xs 0) n (number_at ys 2)) h.sections_is
    ∙ ap (λ (n : ℕ). head_fault (starts_with nat_eq xs magic) (number_at xs 0) (number_at xs 1) n) h.records_is

-- an answer to so much of a dump that it is too long is one to the whole
pub long_answer : (P : DumpedHeap → List ℕ → Type 0) (taken rest : List ℕ) → 4984981 ≤ length taken → (status : ℕ) (text : List ℕ)
    → OfDump P taken (first_dump_fault taken) status text → OfDump P (taken ++ rest) (first_dump_fault (taken ++ rest)) status text
long_answer P taken rest long status text a =
    let whole : 4984981 ≤ length (taken ++ rest) = omega (arith, long, length-append taken rest) in
    let first = faulty taken long in
    let all = faulty (taken ++ rest) whole ∙ ap Some (heads_agree taken (taken ++ rest) (same_head taken rest (omega (arith, long)))) in
    subst (λ (o : Option DumpError). OfDump P (taken ++ rest) o status text) (sym all) (subst (λ (o : Option DumpError). OfDump P taken o status text) first a)

-- An answer to what was taken of a source is one to the whole, command by command.
-- what is too long has one fault
long_conversion : (bytes : List ℕ) → 1048577 ≤ length bytes → convert bytes ≡ Err TooLong
long_conversion bytes long = ap (λ (r : Result Script Fault). converted r bytes) (long_script bytes long)

long_batch : (bytes : List ℕ) → 16777217 ≤ length bytes → batch bytes ≡ Err batches.BatchTooLong
long_batch bytes long =
    let test : nat_lt 16777216 (length bytes) ≡ true = grind (arith, nat_tests) in
    ap (λ (b : Bool). cond b (Err batches.BatchTooLong) (cond (begins_with (codes "gcbatch 1\n") bytes) (jobs_from (length bytes) 64 [] (drop 10 bytes)) (Err (batches.BadBatch 0)))) test

pub conversion_of_whole : IsOfWhole 1048577 IsConvertAnswer
conversion_of_whole bytes taken rest t status text a =
    subst (λ (r : Result Conversion Fault). OfRead IsConversion r status text) (same_meaning convert 1048577 (Err TooLong) long_conversion bytes taken rest t) a

pub batch_of_whole : (o : Options) → IsOfWhole 16777217 (IsBatchAnswer o)
batch_of_whole o bytes taken rest t status text a =
    subst (λ (r : Result (List (List ℕ)) batches.FaultOfBatch). BatchesTo o r status text) (same_meaning batch 16777217 (Err batches.BatchTooLong) long_batch bytes taken rest t) a

long_schedule : (bytes : List ℕ) → 4194305 ≤ length bytes → schedule bytes ≡ Err schedules.TooLong
long_schedule bytes long =
    let test : nat_lt 4194304 (length bytes) ≡ true = grind (arith, nat_tests) in
    ap (λ (b : Bool). cond b (Err schedules.TooLong) (schedule_of_text (first_foreign bytes) bytes)) test

pub schedule_of_whole : IsOfWhole 4194305 IsScheduleAnswer
schedule_of_whole bytes taken rest t status text a =
    subst (λ (r : Result Schedule schedules.FaultOfSchedule). IsToldAs r status text) (same_meaning schedule 4194305 (Err schedules.TooLong) long_schedule bytes taken rest t) a

read_of_whole : (P : DumpedHeap → List ℕ → Type 0) → IsOfWhole 4984981 (λ bytes status text. OfDump P bytes (first_dump_fault bytes) status text)
read_of_whole P bytes taken rest t status text a = by t.enough_taken
  where
    by : (rest ≡ []) ⊎ (4984981 ≤ length taken) → OfDump P bytes (first_dump_fault bytes) status text
    by (inl none) = subst (λ (l : List ℕ). OfDump P l (first_dump_fault l) status text) (sym (all_taken bytes taken rest t.whole none)) a
    by (inr long) = subst (λ (l : List ℕ). OfDump P l (first_dump_fault l) status text) (sym t.whole) (long_answer P taken rest long status text a)

pub undump_of_whole : IsOfWhole 4984981 IsUndumpAnswer
undump_of_whole = read_of_whole IsUndumpText

pub census_of_whole : IsOfWhole 4984981 IsCensusAnswer
census_of_whole = read_of_whole IsCensusText
