-- If there are more cells than reachable objects, no command finds its cells too few.
use Rattle.std.proofs.Common.{◌≡◌, ◌≤◌, ◌<◌, ◌+◌, ℕ, List, [], map, length, refl, sym, ap, ◌∙◌, subst, arith, ⊎_elim, sum_by, ◌++◌, inl, inr}
use Rattle.std.proofs.lemmas.Bool.{cases_lt}
use Rattle.std.proofs.lemmas.List.{length-map}
use Rattle.std.specs.Prelude.{Option, Some, None, Result, Ok, unwrap_or, Err, slice_get, MatchOption}
use Rattle.plain_heap.specs.Sections.{Sections, Execution, executed_of, made_by, joined, counted, warehouse_numbers}
use Rattle.gc_script.specs.Faults.{Fault}
use Rattle.gc_script.specs.Script.{Script, script}
use Rattle.load_gen.specs.Generated.{generated}
use Rattle.load_gen.specs.FourWarehouses.{HasFourWarehouses}
use Rattle.load_gen.proofs.FewObjects.{generated_few}
use Rattle.load_gen.proofs.Whole.{generated_script}
use Rattle.play_report.specs.Text.{IsFullText}
use Rattle.command_words.specs.Words.{Options, Command, Run, Gen, Load, Convert, Schedule, Dump, Undump, Census, Batch}
use Rattle.gc_play.specs.RunAnswers.{IsRunAnswer, PlaysTo}
use Rattle.play_words.specs.Loading.{LoadsTo}
use Rattle.play_words.specs.Dumping.{EndsDoneOrFull}
use Rattle.play_words.specs.Answers.{IsAnswer}
use Rattle.play_words.specs.Roomy.{PlaysIn, AreFew, IsOf}
use Rattle.play_words.proofs.Bounding.{few-never-fill}
use Rattle.std.specs.Bool.{⊤}
use Rattle.std.specs.List.{flat_map}
use Rattle.job_pool.specs.Batch.{FaultOfBatch, batch, batch_fault_of}
use Rattle.job_pool.specs.Jobs.{ArePlayed}
use Rattle.job_pool.specs.declared.done.JobDone.{JobDone}
use Rattle.job_pool.specs.declared.fault.BatchError.{BatchError}
use Rattle.job_pool.specs.declared.fault.BatchError.TheVariants as errors
use Rattle.play_words.specs.Batching.{FitsJob, BatchesTo, IsBatchAnswer, IsBatchFault, batch_error_text, text_of_batch_fault, job_line_text, job_text}
use Rattle.gc_play.specs.Ending.{TextEnds, number_of_status}
use Rattle.gc_play.specs.declared.status.Status.{Status}
use Rattle.gc_play.specs.declared.status.Status.TheVariants as ends
use Rattle.gc_play.specs.Promise.{OfRead}

-- a full text tells that the cells were too few
full_few : (s : Sections) (cells : ℕ) (text : List ℕ) → IsFullText s cells text → AreFew s cells
full_few s cells text full most keeps =
    let sum : ℕ = made_by (executed_of s 0) + sum_by most (warehouse_numbers s) in
    ⊎_elim
    (λ (roomy : sum < cells). absurd (few-never-fill s cells full.section full.positions most keeps roomy full.filled))
    (λ (few : cells ≤ sum). few)
    (cases_lt sum cells)

run_full : (o : Options) (s : Sections) (text : List ℕ) (whole : Script) → whole.sections ≡ s → OfRead (PlaysTo o) (Ok whole) 3 text → AreFew s o.cells
run_full o s text whole f plays =
    ⊎_elim
    (λ a. absurd (omega (arith, a.0)))
    (λ (a : (3 ≡ 3) × IsFullText whole.sections o.cells text). subst (λ (t : Sections). AreFew t o.cells) f (full_few whole.sections o.cells text a.1))
    plays

load_full : (o : Options) (s : Sections) (text : List ℕ) (whole : Script) → whole.sections ≡ s → LoadsTo o (Ok whole) 3 text → AreFew s o.cells
load_full o s text whole f plays =
    ⊎_elim
    (λ a. absurd (omega (arith, a.0)))
    (λ (a : (3 ≡ 3) × IsFullText whole.sections o.cells text). subst (λ (t : Sections). AreFew t o.cells) f (full_few whole.sections o.cells text a.1))
    plays

-- a script that was read, and is full
pub run_few : (o : Options) (s : Sections) (text : List ℕ) (read : Result Script Fault) (whole : Script) → read ≡ Ok whole → whole.sections ≡ s → OfRead (PlaysTo o) read 3 text → AreFew s o.cells
run_few o s text read whole e f runs = run_full o s text whole f (subst (λ (r : Result Script Fault). OfRead (PlaysTo o) r 3 text) e runs)

dump_full : (o : Options) (s : Sections) (text : List ℕ) (whole : Script) → whole.sections ≡ s → OfRead (EndsDoneOrFull o) (Ok whole) 3 text → AreFew s o.cells
dump_full o s text whole f plays =
    ⊎_elim
    (λ a. absurd (omega (arith, a.0)))
    (λ (a : (3 ≡ 3) × IsFullText whole.sections o.cells text). subst (λ (t : Sections). AreFew t o.cells) f (full_few whole.sections o.cells text a.1))
    plays

dump_few : (o : Options) (s : Sections) (text : List ℕ) (read : Result Script Fault) (whole : Script) → read ≡ Ok whole → whole.sections ≡ s → OfRead (EndsDoneOrFull o) read 3 text → AreFew s o.cells
dump_few o s text read whole e f dumps = dump_full o s text whole f (subst (λ (r : Result Script Fault). OfRead (EndsDoneOrFull o) r 3 text) e dumps)

load_few : (o : Options) (s : Sections) (text : List ℕ) (read : Result Script Fault) (whole : Script) → read ≡ Ok whole → whole.sections ≡ s → LoadsTo o read 3 text → AreFew s o.cells
load_few o s text read whole e f loads = load_full o s text whole f (subst (λ (r : Result Script Fault). LoadsTo o r 3 text) e loads)

-- the status 3 comes only if the cells are few
pub full-few : (asked : Option Command) (left : Option (List ℕ)) (text : List ℕ) → IsAnswer asked left 3 text → (s : Sections) (cells : ℕ) → PlaysIn asked left s cells → AreFew s cells
full-few (Some (Run o)) (Some bytes) text answer s cells plays =
    let at : script bytes ≡ script answer.0 = ap script answer.1 in
    subst (AreFew s) plays.1 (run_few o s text (script answer.0) plays.0.0 (sym at ∙ plays.0.1) plays.0.2 answer.2)
full-few (Some (Dump o)) (Some bytes) text answer s cells plays =
    let at : script bytes ≡ script answer.0 = ap script answer.1 in
    subst (AreFew s) plays.1 (dump_few o s text (script answer.0) plays.0.0 (sym at ∙ plays.0.1) plays.0.2 answer.2)
full-few (Some (Load o number size)) left text answer s cells plays = subst (AreFew s) plays.1 (load_few o s text (script (generated number size)) plays.0.0 plays.0.1 plays.0.2 answer)
full-few None left text answer s cells plays = absurd plays
full-few (Some (Run o)) None text answer s cells plays = absurd plays
full-few (Some (Gen number size)) left text answer s cells plays = absurd plays
full-few (Some Convert) left text answer s cells plays = absurd plays
full-few (Some Schedule) left text answer s cells plays = absurd plays
full-few (Some (Dump o)) None text answer s cells plays = absurd plays
full-few (Some Undump) left text answer s cells plays = absurd plays
full-few (Some Census) left text answer s cells plays = absurd plays
full-few (Some (Batch o runners)) left text answer s cells plays = absurd plays

-- four warehouses of at most 55 reachable objects, and no catalogue
pub load-fits : (o : Options) (number size : ℕ) (left : Option (List ℕ)) (text : List ℕ) → size ≤ 20000 → 256 ≤ o.cells → IsAnswer (Some (Load o number size)) left 3 text → ⊥
load-fits o number size left text h room answer =
    let four : HasFourWarehouses size (script (generated number size)) = (generated_script number size h).four in
    let s : Sections = four.whole.sections in
    let few = full-few (Some (Load o number size)) left text answer s o.cells ((four.whole, four.no_fault, refl), refl) (λ w. 55) (λ w least most k numbers reached. generated_few number size h four.whole four.no_fault w k numbers reached) in
    let none : made_by (executed_of s 0) ≡ 0 = ap (λ (c : Option (List (List Execution))). made_by (joined (unwrap_or c []))) four.catalogue in
    let long : length (map (λ (parts : List (List Execution)). map length parts) s.warehouses) ≡ length s.warehouses = length-map s.warehouses (λ (parts : List (List Execution)). map length parts) in
    let count : length s.warehouses ≡ 4 = sym long ∙ ap (λ (xs : List (List ℕ)). length xs) four.warehouses in
    let sum : sum_by (λ (w : ℕ). 55) (warehouse_numbers s) ≡ 220 = ap (λ (n : ℕ). sum_by (λ (w : ℕ). 55) (counted 1 n)) count in
    omega (arith, few, none, sum, room)

-- What a batch answers, and its jobs.
-- a job is full only if its cells are few
job_few : (o : Options) (bytes : List ℕ) (status : ℕ) (text : List ℕ) → FitsJob o bytes status text → status ≡ 3 → (s : Sections) → IsOf bytes s → AreFew s o.cells
job_few o bytes status text (inl run) three s is =
    run_few o s text (script bytes) is.0 is.1 is.2 (subst (λ (n : ℕ). IsRunAnswer o bytes n text) three run)
job_few o bytes status text (inr none) three s is = absurd (omega (arith, none.0, three))

-- the results of the jobs answer the batch
pub jobs_answer : (o : Options) (jobs : List (List ℕ)) (done lent : List JobDone) → ArePlayed (FitsJob o) jobs done → lent ≡ done → BatchesTo o (Ok jobs) 0 (flat_map job_text lent)
jobs_answer o jobs done lent played is = (
  refl,
  record {
    done = done;
    played = played;
    roomy = λ j d bytes at asked three s of.
        let own = played.each j d at in
        job_few o bytes d.status d.text (own.1.fits bytes (ap (slice_get jobs) own.0 ∙ asked)) three s of;
    written = ap (flat_map job_text) is;
  },
)

is_fault : (e : BatchError) → (e ≡ errors.OutOfMemory → ⊥) → batch_fault_of e ≡ None → ⊥
is_fault (errors.BadBatch offset) memory e = cc
is_fault (errors.CutJob job) memory e = cc
is_fault (errors.TooManyJobs offset) memory e = cc
is_fault errors.BatchTooLong memory e = cc
is_fault errors.OutOfMemory memory e = memory refl

told : (fault : Option FaultOfBatch) → (fault ≡ None → ⊥) → IsBatchFault fault 2 (text_of_batch_fault fault)
told None some = absurd (some refl)
told (Some fault) some = (refl, refl)

-- the text of an error is that of its fault
pub fault_told : (e : BatchError) → (e ≡ errors.OutOfMemory → ⊥) → IsBatchFault (batch_fault_of e) 2 (batch_error_text e)
fault_told e memory = told (batch_fault_of e) (is_fault e memory)

-- the text of the batch's fault answers it
pub fault_answer : (o : Options) (bytes : List ℕ) (fault : Option FaultOfBatch) → MatchOption fault ⊤ (λ f. batch bytes ≡ Err f) → (status : ℕ) (text : List ℕ) → IsBatchFault fault status text
    → IsBatchAnswer o bytes status text
fault_answer o bytes None is status text a = absurd a
fault_answer o bytes (Some fault) is status text a = subst (λ (r : Result (List (List ℕ)) FaultOfBatch). BatchesTo o r status text) (sym is) a

-- a job's line and its text
pub job_pieces : (d : JobDone) (text : List ℕ) → text ≡ d.text → job_line_text d.job d.status (length text) ++ text ≡ job_text d
job_pieces d text is = ap (λ (t : List ℕ). job_line_text d.job d.status (length t) ++ t) is
