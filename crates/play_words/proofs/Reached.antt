-- In the census of a play's dump each record is reached.
use Rattle.std.proofs.Common.{◌≡◌, inl, inr, ℕ, subst, arith, List}
use Rattle.std.specs.Prelude.{Option, Result, Ok, Err}
use Rattle.plain_heap.specs.Sections.{Sections}
use Rattle.plain_heap.specs.PlainRun.{last_heaps}
use Rattle.gc_script.specs.Faults.{Fault}
use Rattle.gc_script.specs.Script.{Script, script}
use Rattle.heap_dump.specs.Final.{DumpedHeap}
use Rattle.heap_dump.specs.Reading.{first_dump_fault, heap_of_dump}
use Rattle.heap_dump.specs.Spelling.{dump}
use Rattle.heap_dump.specs.declared.fault.DumpError.{DumpError}
use Rattle.heap_dump.proofs.ReadBack.{heap_again, no_fault_again}
use Rattle.dump_census.specs.Surviving.{TellsSurvivors}
use Rattle.dump_census.proofs.Found.{survivors_reached}
use Rattle.play_words.specs.Final.{IsFinalHeap}
use Rattle.play_words.proofs.FinalHeap.Referring.{held-there, refers-there}
use Rattle.command_words.specs.Words.{Options}
use Rattle.play_words.specs.Counting.{IsCensusAnswer, IsCensusText}
use Rattle.play_words.specs.DumpReading.{OfDump}
use Rattle.play_words.specs.Dumping.{IsDumpText, EndsDoneOrFull}
use Rattle.play_words.specs.Laws.{CountsNoneUnreached, DumpsAreReached, FinalHeapsAreReached}
use Rattle.gc_play.specs.Promise.{OfRead}

tells-survivors : (s : Sections) (h : DumpedHeap) → IsFinalHeap s h → TellsSurvivors (last_heaps s) h
tells-survivors s h f = record { survivors = f.survivors; variables = held-there s h f; fields = refers-there s h f }

pub final_reached : FinalHeapsAreReached
final_reached s h c f q = survivors_reached (last_heaps s) h c (tells-survivors s h f) q

counted-whole : (s : Sections) (dumped counted : List ℕ) (status : ℕ) → IsDumpText s dumped → IsCensusAnswer dumped status counted → (status ≡ 0) × CountsNoneUnreached counted
counted-whole s dumped counted status t a =
    let again : OfDump IsCensusText (dump t.heap) (first_dump_fault (dump t.heap)) status counted = subst (λ (l : List ℕ). OfDump IsCensusText l (first_dump_fault l) status counted) t.written a in
    let sound : (status ≡ 0) × IsCensusText (heap_of_dump (dump t.heap)) counted = subst (λ (e : Option DumpError). OfDump IsCensusText (dump t.heap) e status counted) (no_fault_again t.heap t.legal) again in
    let text : IsCensusText t.heap counted = subst (λ (h : DumpedHeap). IsCensusText h counted) (heap_again t.heap t.legal) sound.1 in
    (sound.0, (text.counts, text.written, final_reached s t.heap text.counts t.final text.right))

dumped-whole : (o : Options) (r : Result Script Fault) (dumped counted : List ℕ) (status : ℕ) → OfRead (EndsDoneOrFull o) r 0 dumped → IsCensusAnswer dumped status counted → (status ≡ 0) × CountsNoneUnreached counted
dumped-whole o (Err fault) dumped counted status d a = absurd (omega (arith, d.0))
dumped-whole o (Ok s) dumped counted status (inl d) a = counted-whole s.sections dumped counted status d.1 a
dumped-whole o (Ok s) dumped counted status (inr d) a = absurd (omega (arith, d.0))

pub dumps_reached : DumpsAreReached
dumps_reached o bytes dumped counted status d a = dumped-whole o (script bytes) dumped counted status d a
