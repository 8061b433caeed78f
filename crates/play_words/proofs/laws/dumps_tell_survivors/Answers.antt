use Rattle.std.proofs.Common.{◌≡◌, inl, inr, ℕ, ◌+◌, refl, ap, ap₂, sym, ◌∙◌, subst, arith, List, [], ◌∷◌, ◌++◌, length, map, append-nil}
use Rattle.std.specs.Prelude.{Bool, false, Option, Result, Ok, Err, fold, flat_map, cond, ◌==◌, if◌then◌else◌}
use Rattle.std.specs.List.{range_with_len}
use Rattle.std.proofs.lemmas.List.{length-map}
use Rattle.plain_heap.specs.Sections.{Sections, section_numbers}
use Rattle.plain_heap.specs.Paths.{Survivor}
use Rattle.gc_script.specs.Faults.{Fault}
use Rattle.gc_script.specs.Script.{Script, script}
use Rattle.gc_script.proofs.Meaning.{scripts-mean}
use Rattle.play_report.specs.Text.{IsReportText, outcomes, survivor_text, survivors_text, warehouses_text}
use Rattle.play_end.proofs.SectionLists.{same-survivors}
use Rattle.heap_dump.specs.Final.{DumpedHeap, Object}
use Rattle.heap_dump.specs.Reading.{first_dump_fault, heap_of_dump}
use Rattle.heap_dump.specs.Spelling.{dump}
use Rattle.heap_dump.specs.Text.{object_text, sizes_text}
use Rattle.heap_dump.specs.declared.fault.DumpError.{DumpError}
use Rattle.heap_dump.proofs.ReadBack.{heap_again, no_fault_again}
use Rattle.dump_census.specs.Counted.{section_count}
use Rattle.dump_census.specs.Values.{AreValueCounts}
use Rattle.dump_census.specs.declared.counts.SectionCount.{SectionCount}
use Rattle.play_words.specs.Final.{survivor_in}
use Rattle.command_words.specs.Words.{Options}
use Rattle.gc_play.specs.RunAnswers.{PlaysTo}
use Rattle.play_words.specs.Dumping.{IsDumpText, EndsDoneOrFull}
use Rattle.play_words.specs.DumpReading.{OfDump}
use Rattle.play_words.specs.Undumping.{IsUndumpText, IsUndumpAnswer}
use Rattle.play_words.specs.Counting.{IsCensusText, IsCensusAnswer}
use Rattle.play_words.specs.Laws.{survivor_count, TellTheSame, DumpsTellSurvivors}
use Rattle.gc_play.specs.Promise.{OfRead}
use Rattle.play_words.proofs.laws.dumps_tell_survivors.Goals as goal

-- The texts of a play and of its dump tell the same survivors.
-- what is read of a dump is of the heap that was dumped
of-dumped : (P : DumpedHeap → List ℕ → Type 0) (s : Sections) (dumped : List ℕ) (t : IsDumpText s dumped) (status : ℕ) (text : List ℕ)
    → OfDump P dumped (first_dump_fault dumped) status text → (status ≡ 0) × P t.heap text
of-dumped P s dumped t status text a =
    let again : OfDump P (dump t.heap) (first_dump_fault (dump t.heap)) status text = subst (λ (l : List ℕ). OfDump P l (first_dump_fault l) status text) t.written a in
    let sound : (status ≡ 0) × P (heap_of_dump (dump t.heap)) text = subst (λ (e : Option DumpError). OfDump P (dump t.heap) e status text) (no_fault_again t.heap t.legal) again in
    (sound.0, subst (λ (h : DumpedHeap). P h text) (heap_again t.heap t.legal) sound.1)

-- the records as survivors
listed-same : (os : List Object) → flat_map object_text os ≡ flat_map survivor_text (map survivor_in os)
listed-same [] = refl
listed-same (o ∷ os) = ap (λ (l : List ℕ). object_text o ++ l) (listed-same os)

fold-map : {X Y : Type 0} (f : ℕ → Y → ℕ) (g : X → Y) (n : ℕ) (xs : List X) → fold f n (map g xs) ≡ fold (λ a x. f a (g x)) n xs
fold-map f g n [] = refl
fold-map f g n (x ∷ xs) = fold-map f g (f n (g x)) xs

counts-same : (os : List Object) (w : ℕ) → section_count os w ≡ survivor_count (map survivor_in os) w
counts-same os w =
    ap₂ (λ (n m : ℕ). record { count = n; total = m }) (sym (fold-map (λ a (s : Survivor). a + cond (s.section == w) 1 0) survivor_in 0 os))
    (sym (fold-map (λ a (s : Survivor). a + (if s.section == w then s.value else 0)) survivor_in 0 os))

sections-same : (os : List Object) (ws : List ℕ) → map (section_count os) ws ≡ map (survivor_count (map survivor_in os)) ws
sections-same os [] = refl
sections-same os (w ∷ ws) = ap₂ (λ (c : SectionCount) (l : List SectionCount). c ∷ l) (counts-same os w) (sections-same os ws)

values-same : (os : List Object) → map (λ (o : Object). o.value) os ≡ map (λ (s : Survivor). s.value) (map survivor_in os)
values-same [] = refl
values-same (o ∷ os) = ap (λ (l : List ℕ). o.value ∷ l) (values-same os)

tell-same : (o : Options) (bytes : List ℕ) (s : Script) (run dumped undumped census : List ℕ) → script bytes ≡ Ok s → IsReportText s.sections o.cells false run
    → (t : IsDumpText s.sections dumped) → IsUndumpText t.heap undumped → IsCensusText t.heap census → TellTheSame bytes run undumped census
tell-same o bytes s run dumped undumped census is r t u c =
    let records = t.heap.records in
    let same : r.survivors ≡ map survivor_in records = same-survivors s.sections r.survivors (map survivor_in records) r.reached t.final.survivors in
    record {
      sections = s.sections;
      meant = scripts-mean bytes s is;
      survivors = map survivor_in records;
      reached = t.final.survivors;
      places = r.places;
      printed = r.written
          ∙ (append-nil (warehouses_text (outcomes s.sections r.places) ++ survivors_text r.survivors)
          ∙ ap (λ (l : List Survivor). warehouses_text (outcomes s.sections r.places) ++ survivors_text l) same);
      listed = u
          ∙ (ap₂ (λ (n m : ℕ). sizes_text n m (length records) ++ flat_map object_text records) t.final.sections t.final.fields
          ∙ ap₂ (λ (n : ℕ) (l : List ℕ). sizes_text (length (section_numbers s.sections)) s.sections.fields n ++ l) (sym (length-map records survivor_in)) (listed-same records));
      counts = c.counts;
      by_section = c.right.sections
          ∙ (ap (λ (n : ℕ). map (section_count records) (range_with_len 0 n)) t.final.sections ∙ sections-same records (range_with_len 0 (length (section_numbers s.sections))));
      by_value = subst (λ (l : List ℕ). AreValueCounts l c.counts.values) (values-same records) c.right.values;
      counted = c.written;
    }

read-told : (o : Options) (bytes : List ℕ) (s : Script) (run dumped listed counted : List ℕ) (undumped censused : ℕ) → script bytes ≡ Ok s → IsReportText s.sections o.cells false run
    → IsDumpText s.sections dumped → IsUndumpAnswer dumped undumped listed → IsCensusAnswer dumped censused counted
    → (undumped ≡ 0) × (censused ≡ 0) × TellTheSame bytes run listed counted
read-told o bytes s run dumped listed counted undumped censused is r t u c =
    let list = of-dumped IsUndumpText s.sections dumped t undumped listed u in
    let count = of-dumped IsCensusText s.sections dumped t censused counted c in
    (list.0, count.0, tell-same o bytes s run dumped listed counted is r t list.1 count.1)

told : (o p : Options) (bytes : List ℕ) (q : Result Script Fault) (run dumped listed counted : List ℕ) (undumped censused : ℕ) → script bytes ≡ q → o.place ≡ false
    → OfRead (PlaysTo o) q 0 run → OfRead (EndsDoneOrFull p) q 0 dumped → IsUndumpAnswer dumped undumped listed → IsCensusAnswer dumped censused counted
    → (undumped ≡ 0) × (censused ≡ 0) × TellTheSame bytes run listed counted
told o p bytes (Err fault) run dumped listed counted undumped censused is f x d u c = absurd (omega (arith, x.0))
told o p bytes (Ok s) run dumped listed counted undumped censused is f (inr x) d u c = absurd (omega (arith, x.0))
told o p bytes (Ok s) run dumped listed counted undumped censused is f (inl x) (inr d) u c = absurd (omega (arith, d.0))
told o p bytes (Ok s) run dumped listed counted undumped censused is f (inl x) (inl d) u c =
    read-told o bytes s run dumped listed counted undumped censused is (subst (λ (place : Bool). IsReportText s.sections o.cells place run) f x.1) d.1 u c

dumps-tell-survivors : DumpsTellSurvivors
dumps-tell-survivors o p bytes run dumped listed counted undumped censused f x d u c =
    told o p bytes (script bytes) run dumped listed counted undumped censused refl f x d u c

pub returns : goal.returns
returns c = dumps-tell-survivors
