-- What was taken of a source, and what it answers.
use Rattle.std.proofs.Common.{◌≡◌, ◌≤◌, ◌<◌, ◌⊎◌, ℕ, List, [], ◌++◌, length, refl, sym, ◌∙◌, ap, subst, inl, inr, arith, length-append, Bool, true, nat_lt, cond}
use Rattle.std.proofs.lemmas.Bool.Decides.{nat_tests}
use Rattle.std.proofs.lemmas.List.{append-nil}
use Rattle.std.specs.Prelude.{Option, Some, None, IfSome, Result, Err, Ok}
use Rattle.std.specs.Io.KnownBytes.{Consumes, IsAtEnd, Appends, Keeps}
use Rattle.gc_script.specs.Faults.{Fault, TooLong}
use Rattle.gc_script.specs.Script.{Script, script, of_text}
use Rattle.gc_script.specs.ScriptText.{first_foreign}
use Rattle.gc_play.specs.Ending.{TextEnds, CommandEnds, number_of_status, status_after_write}
use Rattle.gc_play.specs.Promise.{OfRead, OfScript, OfSource}
use Rattle.gc_play.specs.Reading.{IsSpent}
use Rattle.gc_play.specs.declared.status.Status.{Status}
use Rattle.play_report.specs.Causes.{WritesText}
use Rattle.gc_play.specs.declared.status.Status.TheVariants as ends

-- How a command ends, once its text was handed to the sink.
-- a status that comes with a text of its own
abbrev pub HasText : Status → Type 0
HasText ends.Done = Unit {0}
HasText ends.Usage = Unit {0}
HasText ends.InputFault = Unit {0}
HasText ends.Full = Unit {0}
HasText ends.ReadFault = ⊥
HasText ends.WriteFault = ⊥
HasText ends.Memory = ⊥
HasText ends.Refused = Unit {0}

written : (A : ℕ → List ℕ → Type 0) (status : Status) (text : List ℕ) (old new : Option (List ℕ)) (before now : ℕ) → HasText status → A (number_of_status status) text
    → Appends old new text × (now ≡ before) → TextEnds A status old new before now
written A ends.Done text old new before now has a p = ((text, a, p.0), p.1)
written A ends.Usage text old new before now has a p = ((text, a, p.0), p.1)
written A ends.InputFault text old new before now has a p = ((text, a, p.0), p.1)
written A ends.Full text old new before now has a p = ((text, a, p.0), p.1)
written A ends.ReadFault text old new before now has a p = absurd has
written A ends.WriteFault text old new before now has a p = absurd has
written A ends.Memory text old new before now has a p = absurd has
written A ends.Refused text old new before now has a p = ((text, a, p.0), p.1)

after_text : {T E : Type 0} (A : ℕ → List ℕ → Type 0) (status : Status) (r : Result T E) (text : List ℕ) (old new : Option (List ℕ)) (before now : ℕ) → HasText status
    → A (number_of_status status) text → WritesText r old new before now text → TextEnds A (status_after_write status r) old new before now
after_text A status (Ok u) text old new before now has a p = written A status text old new before now has a p
after_text A status (Err e) text old new before now has a p = ((text, (number_of_status status, a), p.0), p.1)

-- the text of a status was handed to the sink
pub text_ends : {T E : Type 0} (A : ℕ → List ℕ → Type 0) (status result : Status) (r : Result T E) (text : List ℕ) (old new : Option (List ℕ)) (before now : ℕ)
    → result ≡ status_after_write status r → HasText status → A (number_of_status status) text → WritesText r old new before now text → TextEnds A result old new before now
text_ends A status result r text old new before now is has a p =
    subst (λ (s : Status). TextEnds A s old new before now) (sym is) (after_text A status r text old new before now has a p)

-- nothing was written
pub kept : (written : Option (List ℕ)) → Keeps written written
kept None = tt
kept (Some text) = refl

-- texts that answer one thing and another
pub other_ends : (A B : ℕ → List ℕ → Type 0) (status : Status) (old new : Option (List ℕ)) (before now : ℕ) → ((n : ℕ) (text : List ℕ) → A n text → B n text)
    → TextEnds A status old new before now → TextEnds B status old new before now
other_ends A B ends.Done old new before now f ((text, a, p), e) = ((text, f 0 text a, p), e)
other_ends A B ends.Usage old new before now f ((text, a, p), e) = ((text, f 1 text a, p), e)
other_ends A B ends.InputFault old new before now f ((text, a, p), e) = ((text, f 2 text a, p), e)
other_ends A B ends.Full old new before now f ((text, a, p), e) = ((text, f 3 text a, p), e)
other_ends A B ends.ReadFault old new before now f h = absurd h
other_ends A B ends.WriteFault old new before now f ((text, (n, a), p), rose) = ((text, (n, f n text a), p), rose)
other_ends A B ends.Memory old new before now f h = h
other_ends A B ends.Refused old new before now f ((text, a, p), e) = ((text, f 7 text a, p), e)

-- a command whose source stays as it was, or did not fail
pub command_ends : (A : ℕ → List ℕ → Type 0) (status : Status) (reads reads_now : ℕ) (old new : Option (List ℕ)) (before now : ℕ) → reads_now ≡ reads
    → TextEnds A status old new before now → CommandEnds A status reads reads_now old new before now
command_ends A ends.Done reads reads_now old new before now e h = (h, e)
command_ends A ends.Usage reads reads_now old new before now e h = (h, e)
command_ends A ends.InputFault reads reads_now old new before now e h = (h, e)
command_ends A ends.Full reads reads_now old new before now e h = (h, e)
command_ends A ends.ReadFault reads reads_now old new before now e h = absurd h
command_ends A ends.WriteFault reads reads_now old new before now e h = (h, e)
command_ends A ends.Memory reads reads_now old new before now e h = (h, e)
command_ends A ends.Refused reads reads_now old new before now e h = (h, e)

-- a script that was read ends as its source does
pub read_ends : {X E : Type 0} (A : Result X E → ℕ → List ℕ → Type 0) (r : Result X E) (s : X) (status : Status) (old new : Option (List ℕ)) (before now : ℕ) → r ≡ Ok s
    → TextEnds (A (Ok s)) status old new before now → TextEnds (A r) status old new before now
read_ends {X = X} {E = E} A r s status old new before now is h = subst (λ (x : Result X E). TextEnds (A x) status old new before now) (sym is) h

-- what was taken of some bytes: all, or as many as decide
pub record Takes (enough : ℕ) (bytes taken rest : List ℕ) : Type 0 where
  pub whole : bytes ≡ taken ++ rest
  pub enough_taken : (rest ≡ []) ⊎ (enough ≤ length taken)

-- if nothing is left, all was taken
pub all_taken : (bytes taken rest : List ℕ) → bytes ≡ taken ++ rest → rest ≡ [] → bytes ≡ taken
all_taken bytes taken rest whole none = whole ∙ ap (λ (l : List ℕ). taken ++ l) none ∙ append-nil taken

-- a meaning that is the same for all bytes that are too long is that of the whole
pub same_meaning : {X : Type 0} (meaning : List ℕ → X) (enough : ℕ) (too_long : X) → ((bytes : List ℕ) → enough ≤ length bytes → meaning bytes ≡ too_long)
    → (bytes taken rest : List ℕ) → Takes enough bytes taken rest → meaning taken ≡ meaning bytes
same_meaning {X = X} meaning enough too_long decides bytes taken rest t = by t.enough_taken
  where
    by : (rest ≡ []) ⊎ (enough ≤ length taken) → meaning taken ≡ meaning bytes
    by (inl none) = ap meaning (sym (all_taken bytes taken rest t.whole none))
    by (inr long) = decides taken long ∙ sym (decides bytes (omega (arith, long, ap length t.whole, length-append taken rest)))

-- a script that is too long has one fault
pub long_script : (bytes : List ℕ) → 1048577 ≤ length bytes → script bytes ≡ Err TooLong
long_script bytes long =
    let test : nat_lt 1048576 (length bytes) ≡ true = grind (arith, nat_tests) in
    ap (λ (b : Bool). cond b (Err TooLong) (of_text (first_foreign bytes) bytes)) test

-- an answer to what was taken is one to the whole
abbrev pub IsOfWhole : ℕ → (List ℕ → ℕ → List ℕ → Type 0) → Type 0
IsOfWhole enough A = (bytes taken rest : List ℕ) → Takes enough bytes taken rest → (status : ℕ) (text : List ℕ) → A taken status text → A bytes status text

pub script_of_whole : (Answers : Script → ℕ → List ℕ → Type 0) → IsOfWhole 1048577 (OfScript Answers)
script_of_whole Answers bytes taken rest t status text a =
    subst (λ (r : Result Script Fault). OfRead Answers r status text) (same_meaning script 1048577 (Err TooLong) long_script bytes taken rest t) a

module _ (enough : ℕ) where
  -- what was taken, if the source tells its bytes
  takes : (bytes taken : List ℕ) (left : Option (List ℕ)) → Consumes (Some bytes) left taken → IsAtEnd left ⊎ (enough ≤ length taken) → (rest : List ℕ) × (left ≡ Some rest) × Takes enough bytes taken rest
  takes bytes taken None consumed decided = absurd consumed
  takes bytes taken (Some rest) consumed decided = (rest, refl, record { whole = consumed; enough_taken = decided })

  of_source : (A : List ℕ → ℕ → List ℕ → Type 0) (left left_now : Option (List ℕ)) (taken : List ℕ) → IsOfWhole enough A → Consumes left left_now taken → IsAtEnd left_now ⊎ (enough ≤ length taken)
      → (status : ℕ) (text : List ℕ) → A taken status text → OfSource A left status text
  of_source A None left_now taken whole consumed decided status text a = (taken, tt, a)
  of_source A (Some bytes) left_now taken whole consumed decided status text a =
      let t = takes bytes taken left_now consumed decided in
      (bytes, refl, whole bytes taken t.0 t.2 status text a)

  -- a command whose source was read ends as what was taken does
  pub source_ends : (A : List ℕ → ℕ → List ℕ → Type 0) (status : Status) (left left_now : Option (List ℕ)) (taken bytes : List ℕ) (reads reads_now : ℕ) (old new : Option (List ℕ)) (before now : ℕ)
      → IsOfWhole enough A → Consumes left left_now taken × (IsAtEnd left_now ⊎ (enough ≤ length taken)) × (length taken ≤ enough) × (reads_now ≡ reads) → bytes ≡ taken
      → TextEnds (A bytes) status old new before now → CommandEnds (OfSource A left) status reads reads_now old new before now
  source_ends A status left left_now taken bytes reads reads_now old new before now whole (consumed, decided, few, same) is h =
      command_ends (OfSource A left) status reads reads_now old new before now same
      (other_ends (A taken) (OfSource A left) status old new before now (of_source A left left_now taken whole consumed decided)
      (subst (λ (l : List ℕ). TextEnds (A l) status old new before now) is h))

  is_spent : (bytes taken rest : List ℕ) → Takes enough bytes taken rest → length taken ≤ enough → IsSpent enough bytes (Some rest)
  is_spent bytes taken rest t few = record {
    short = λ short. ap Some (none short t.enough_taken);
    long = λ long. (taken, rest, t.whole, omega (arith, few, decided long t.enough_taken), refl);
  }
    where
      none : length bytes < enough → (rest ≡ []) ⊎ (enough ≤ length taken) → rest ≡ []
      none short (inl nothing) = nothing
      none short (inr many) = absurd (omega (arith, ap length t.whole, length-append taken rest))

      decided : enough ≤ length bytes → (rest ≡ []) ⊎ (enough ≤ length taken) → enough ≤ length taken
      decided long (inl nothing) = let size : length rest ≡ 0 = ap length nothing in omega (arith, ap length t.whole, length-append taken rest)
      decided long (inr many) = many

  -- a source that was read is spent
  pub source_spent : (left left_now : Option (List ℕ)) (taken : List ℕ) {reads reads_now : ℕ}
      → Consumes left left_now taken × (IsAtEnd left_now ⊎ (enough ≤ length taken)) × (length taken ≤ enough) × (reads_now ≡ reads) → IfSome left (λ bytes. IsSpent enough bytes left_now)
  source_spent None left_now taken read = tt
  source_spent (Some bytes) left_now taken (consumed, decided, few, same) =
      let t = takes bytes taken left_now consumed decided in
      subst (λ (o : Option (List ℕ)). IsSpent enough bytes o) (sym t.1) (is_spent bytes taken t.0 t.2 few)

-- how a command ends that told a text, and one that took its source
pub ruleset told = (text_ends, kept, other_ends, command_ends, read_ends)

pub ruleset taken = (source_ends, source_spent)
