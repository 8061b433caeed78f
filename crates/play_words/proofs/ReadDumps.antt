-- What is read of a dump, and what a play's end answers.
use Rattle.std.proofs.Common.{◌≡◌, ℕ, List, refl, sym, subst, inl}
use Rattle.std.specs.Prelude.{Option, Some, None}
use Rattle.gc_script.specs.Script.{Script}
use Rattle.heap_dump.specs.Final.{DumpedHeap, HasDump}
use Rattle.heap_dump.specs.Reading.{first_dump_fault, heap_of_dump}
use Rattle.heap_dump.specs.Spelling.{dump}
use Rattle.heap_dump.specs.Text.{dump_fault_text}
use Rattle.heap_dump.specs.declared.fault.DumpError.{DumpError}
use Rattle.play_words.specs.Final.{IsFinalHeap}
use Rattle.command_words.specs.Words.{Options}
use Rattle.play_words.specs.Dumping.{EndsDoneOrFull, IsEndAnswer}
use Rattle.play_words.specs.Counting.{IsCensusAnswer, IsCensusText, IsCountOf}
use Rattle.play_words.specs.DumpReading.{OfDump}

-- bytes with a fault are told so
pub read_fault : (P : DumpedHeap → List ℕ → Type 0) (bytes : List ℕ) (e : DumpError) → Some e ≡ first_dump_fault bytes → OfDump P bytes (first_dump_fault bytes) 2 (dump_fault_text e)
read_fault P bytes e is = subst (λ (o : Option DumpError). OfDump P bytes o 2 (dump_fault_text e)) is (refl, refl)

-- a text of the heap that a dump tells
pub read_done : (P : DumpedHeap → List ℕ → Type 0) (bytes d text : List ℕ) → None ≡ first_dump_fault bytes → d ≡ bytes → P (heap_of_dump d) text → OfDump P bytes (first_dump_fault bytes) 0 text
read_done P bytes d text is same p =
    subst (λ (o : Option DumpError). OfDump P bytes o 0 text) is (refl, subst (λ (l : List ℕ). P (heap_of_dump l) text) same p)

-- the census of the heap that a dump tells
pub count_answer : (bytes d : List ℕ) → None ≡ first_dump_fault bytes → d ≡ bytes → (status : ℕ) (text : List ℕ) → IsCountOf (heap_of_dump d) status text → IsCensusAnswer bytes status text
count_answer bytes d is same status text a =
    subst (λ (o : Option DumpError). OfDump IsCensusText bytes o status text) is (a.0, subst (λ (l : List ℕ). IsCensusText (heap_of_dump l) text) same a.1)

-- the dump of the heap at the end answers a play that is done
pub end_answer : (s : Script) (h : DumpedHeap) → IsFinalHeap s.sections h → HasDump h → IsEndAnswer s 0 (dump h)
end_answer s h final legal = (refl, record { heap = h; final = final; legal = legal; written = refl })

pub dump_answer : (o : Options) (s : Script) (status : ℕ) (text : List ℕ) → IsEndAnswer s status text → EndsDoneOrFull o s status text
dump_answer o s status text a = inl a
