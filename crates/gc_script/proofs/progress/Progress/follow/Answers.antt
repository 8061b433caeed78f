use Rattle.std.proofs.Common.{◌≡◌, ℕ, ◌<◌, zero, suc, length, refl, ap, ◌∙◌, Bool, false, arith, min, sym, subst}
use Rattle.std.proofs.lemmas.Bool.Decides.{nat_tests}
use Rattle.std.specs.Prelude.{not, nat_le, nat_lt, Option, Some, None, ◌==◌, ◌||◌, ◌&&◌, unwrap_or, is_none, Result, Ok, Err, OnOk, OnErr}
use Rattle.gc_script.specs.Statement.{Spoken, NewOf, LetOf, NilOf, SetOf, GetOf, CatOf, PutOf, SayOf, SumOf, CollectOf, Statement, Blank, Fields, Catalogue, Warehouse, Season, Repeat, End, Command, Wrong}
use Rattle.gc_script.specs.Earlier.{is_too_large, is_for_catalogue}
use Rattle.gc_script.specs.Faults.{Fault, BadLine, UnknownName, TooManyNames, NumberTooLarge, TooManySections, TooManySeasons, has_large_number, may_stand, starts_section, unless_, cuts_repeat}
use Rattle.gc_script.specs.Said.{capped, capped_command, said}
use Rattle.gc_script.specs.Context.{Context, fault_in, knows_in, names_after, warehouses_after, seasons_after, context_after, IsClear, IsSane}
use Rattle.gc_script.specs.Content.{Content, content_after, kept_shown}
use Rattle.gc_script.specs.Kept.{context_shown}
use Rattle.gc_script.specs.Shown.{fault_of}
use Rattle.gc_script.specs.Reading.{is_told, TellsFault, LineAnswers}
use Rattle.gc_script.specs.declared.progress.Progress.{Progress}
use Rattle.gc_script.specs.declared.script.ScriptError.{ScriptError}
use Rattle.gc_script.proofs.Clear.{is_clear, or_left, or_right}
use Rattle.gc_script.specs.declared.script.ScriptError.TheVariants as errors
use Rattle.gc_script.proofs.progress.Progress.follow.Goals as goal

-- A capped number is past each greatest value if the number is.
cap_above : (b n : ℕ) → b < 4294967296 → nat_lt b (min n 4294967296) ≡ nat_lt b n
cap_above b n h = grind (arith, nat_tests)

cap_from : (b n : ℕ) → b < 4294967296 → nat_le b (min n 4294967296) ≡ nat_le b n
cap_from b n h = grind (arith, nat_tests)

cap_zero : (n : ℕ) → (min n 4294967296 == 0) ≡ (n == 0)
cap_zero n = grind (arith, nat_tests)

cap_small : (b n : ℕ) → b < 4294967296 → nat_lt b n ≡ false → min n 4294967296 ≡ n
cap_small b n h e = grind (arith, nat_tests)

cap_within : (b n : ℕ) → b < 4294967296 → nat_le b n ≡ false → min n 4294967296 ≡ n
cap_within b n h e = grind (arith, nat_tests)

large_command : (fields : ℕ) (s : Spoken) → fields < 4294967296 → is_too_large fields (capped_command s) ≡ is_too_large fields s
large_command fields (NewOf v n) h = cap_above 4294967295 n (omega arith)
large_command fields (LetOf v w) h = refl
large_command fields (NilOf v) h = refl
large_command fields (SetOf v i w) h = cap_from fields i h
large_command fields (GetOf v w i) h = cap_from fields i h
large_command fields (CatOf v name) h = refl
large_command fields (PutOf v n) h = cap_above 4294967295 n (omega arith)
large_command fields (SayOf label v) h = refl
large_command fields (SumOf label v i limit) h =
    ap (λ (b : Bool). b || nat_lt 65536 (min limit 4294967296)) (cap_from fields i h) ∙ ap (λ (b : Bool). nat_le fields i || b) (cap_above 65536 limit (omega arith))
large_command fields CollectOf h = refl

exact_command : (fields : ℕ) (s : Spoken) → fields < 4294967296 → is_too_large fields s ≡ false → capped_command s ≡ s
exact_command fields (NewOf v n) h e = ap (NewOf v) (cap_small 4294967295 n (omega arith) e)
exact_command fields (LetOf v w) h e = refl
exact_command fields (NilOf v) h e = refl
exact_command fields (SetOf v i w) h e = ap (λ (k : ℕ). SetOf v k w) (cap_within fields i h e)
exact_command fields (GetOf v w i) h e = ap (GetOf v w) (cap_within fields i h e)
exact_command fields (CatOf v name) h e = refl
exact_command fields (PutOf v n) h e = ap (PutOf v) (cap_small 4294967295 n (omega arith) e)
exact_command fields (SayOf label v) h e = refl
exact_command fields (SumOf label v i limit) h e =
    ap (λ (k : ℕ). SumOf label v k (min limit 4294967296)) (cap_within fields i h (or_left (nat_le fields i) _ e))
    ∙ ap (SumOf label v i) (cap_small 65536 limit (omega arith) (or_right (nat_le fields i) _ e))
exact_command fields CollectOf h e = refl

-- a line whose numbers aren't too large is as it was capped
exact_line : (fields : ℕ) (s : Statement) → fields < 4294967296 → has_large_number fields s ≡ false → capped s ≡ s
exact_line fields Blank h e = refl
exact_line fields (Fields n) h e = ap Fields (cap_small 16 n (omega arith) e)
exact_line fields Catalogue h e = refl
exact_line fields Warehouse h e = refl
exact_line fields Season h e = refl
exact_line fields (Repeat n) h e = ap Repeat (cap_small 2000000 n (omega arith) e)
exact_line fields End h e = refl
exact_line fields (Command spoken) h e = ap Command (exact_command fields spoken h e)
exact_line fields Wrong h e = refl

-- the fault of a line that doesn't cut a `repeat`, by whether it is well placed and whether a number is too large
abbrev judged_by : Context → Statement → Bool → Bool → Option Fault
judged_by c s placed large =
    unless_ placed (BadLine c.line)
    (unless_ (not large) (NumberTooLarge c.line)
    (unless_ (knows_in c s) (UnknownName c.line)
    (unless_ (nat_le (length (names_after c s)) 32) (TooManyNames c.line)
    (unless_ (nat_le (warehouses_after c s) 32) (TooManySections c.line)
    (unless_ (nat_le (seasons_after c s) 63) (TooManySeasons c.line)
    None)))))

rejudged : (c : Context) (s : Statement) (p q l m : Bool) → p ≡ q → l ≡ m → judged_by c s p l ≡ judged_by c s q m
rejudged c s p q l m e f = ap (λ (b : Bool). judged_by c s b l) e ∙ ap (judged_by c s q) f

recut : (s t : Statement) (o : Option (ℕ × ℕ)) (x y : Option Fault) → starts_section s ≡ starts_section t → x ≡ y → cuts_repeat s o x ≡ cuts_repeat t o y
recut s t None x y e f = f
recut s t (Some opened) x y e f = cc

for_catalogue : (s : Spoken) → is_for_catalogue (capped_command s) ≡ is_for_catalogue s
for_catalogue (NewOf v n) = refl
for_catalogue (LetOf v w) = refl
for_catalogue (NilOf v) = refl
for_catalogue (SetOf v i w) = refl
for_catalogue (GetOf v w i) = refl
for_catalogue (CatOf v name) = refl
for_catalogue (PutOf v n) = refl
for_catalogue (SayOf label v) = refl
for_catalogue (SumOf label v i limit) = refl
for_catalogue CollectOf = refl

stand : (o : Option ℕ) (s : Spoken) → may_stand o (capped_command s) ≡ may_stand o s
stand None s = refl
stand (Some zero) s = for_catalogue s
stand (Some (suc n)) s = refl

capped_command_fault : (c : Context) (s : Spoken) → unwrap_or c.fields 0 < 4294967296 → fault_in c (Command (capped_command s)) ≡ fault_in c (Command s)
capped_command_fault c (NewOf v n) h = recut (Command (capped_command (NewOf v n))) (Command (NewOf v n)) c.opened _ _ refl (rejudged c (Command (NewOf v n)) _ _ _ _ (stand c.section (NewOf v n)) (large_command (unwrap_or c.fields 0) (NewOf v n) h))
capped_command_fault c (LetOf v w) h = recut (Command (capped_command (LetOf v w))) (Command (LetOf v w)) c.opened _ _ refl (rejudged c (Command (LetOf v w)) _ _ _ _ (stand c.section (LetOf v w)) (large_command (unwrap_or c.fields 0) (LetOf v w) h))
capped_command_fault c (NilOf v) h = recut (Command (capped_command (NilOf v))) (Command (NilOf v)) c.opened _ _ refl (rejudged c (Command (NilOf v)) _ _ _ _ (stand c.section (NilOf v)) (large_command (unwrap_or c.fields 0) (NilOf v) h))
capped_command_fault c (SetOf v i w) h = recut (Command (capped_command (SetOf v i w))) (Command (SetOf v i w)) c.opened _ _ refl (rejudged c (Command (SetOf v i w)) _ _ _ _ (stand c.section (SetOf v i w)) (large_command (unwrap_or c.fields 0) (SetOf v i w) h))
capped_command_fault c (GetOf v w i) h = recut (Command (capped_command (GetOf v w i))) (Command (GetOf v w i)) c.opened _ _ refl (rejudged c (Command (GetOf v w i)) _ _ _ _ (stand c.section (GetOf v w i)) (large_command (unwrap_or c.fields 0) (GetOf v w i) h))
capped_command_fault c (CatOf v name) h = recut (Command (capped_command (CatOf v name))) (Command (CatOf v name)) c.opened _ _ refl (rejudged c (Command (CatOf v name)) _ _ _ _ (stand c.section (CatOf v name)) (large_command (unwrap_or c.fields 0) (CatOf v name) h))
capped_command_fault c (PutOf v n) h = recut (Command (capped_command (PutOf v n))) (Command (PutOf v n)) c.opened _ _ refl (rejudged c (Command (PutOf v n)) _ _ _ _ (stand c.section (PutOf v n)) (large_command (unwrap_or c.fields 0) (PutOf v n) h))
capped_command_fault c (SayOf label v) h = recut (Command (capped_command (SayOf label v))) (Command (SayOf label v)) c.opened _ _ refl (rejudged c (Command (SayOf label v)) _ _ _ _ (stand c.section (SayOf label v)) (large_command (unwrap_or c.fields 0) (SayOf label v) h))
capped_command_fault c (SumOf label v i limit) h = recut (Command (capped_command (SumOf label v i limit))) (Command (SumOf label v i limit)) c.opened _ _ refl (rejudged c (Command (SumOf label v i limit)) _ _ _ _ (stand c.section (SumOf label v i limit)) (large_command (unwrap_or c.fields 0) (SumOf label v i limit) h))
capped_command_fault c CollectOf h = recut (Command (capped_command CollectOf)) (Command CollectOf) c.opened _ _ refl (rejudged c (Command CollectOf) _ _ _ _ (stand c.section CollectOf) (large_command (unwrap_or c.fields 0) CollectOf h))

-- the fault of a line is that of the line with its numbers capped
capped_fault : (c : Context) (s : Statement) → unwrap_or c.fields 0 < 4294967296 → fault_in c (capped s) ≡ fault_in c s
capped_fault c Blank h = refl
capped_fault c (Fields n) h =
    recut (capped (Fields n)) (Fields n) c.opened _ _ refl (rejudged c (Fields n) _ _ _ _ (ap (λ (b : Bool). is_none c.fields && not b) (cap_zero n)) (cap_above 16 n (omega arith)))
capped_fault c Catalogue h = refl
capped_fault c Warehouse h = refl
capped_fault c Season h = refl
capped_fault c (Repeat n) h = recut (capped (Repeat n)) (Repeat n) c.opened _ _ refl (rejudged c (Repeat n) _ _ _ _ refl (cap_above 2000000 n (omega arith)))
capped_fault c End h = refl
capped_fault c (Command spoken) h = capped_command_fault c spoken h
capped_fault c Wrong h = refl

-- The fault of a line, by what the reader says of it.
is_told_by : (told fault : Option Fault) → fault ≡ told → is_told told fault
is_told_by None fault e = tt
is_told_by (Some t) fault e = e

few : (c : Context) → IsSane c → unwrap_or c.fields 0 < 4294967296
few c h = omega (arith, h.fields)

told_line : (e : ScriptError) (c : Context) (st s : Statement) → IsSane c → fault_of e ≡ fault_in c st → st ≡ capped s → TellsFault e (fault_in c s)
told_line e c st s h f g = is_told_by (fault_of e) (fault_in c s) (sym (f ∙ ap (fault_in c) g ∙ capped_fault c s (few c h)))

clear_line : (c : Context) (st s : Statement) → IsSane c → None ≡ fault_in c st → st ≡ capped s → (st ≡ s) × IsClear c s
clear_line c st s h f g =
    let clear = is_clear c s (sym (capped_fault c s (few c h)) ∙ ap (fault_in c) (sym g) ∙ sym f) in
    (g ∙ exact_line (unwrap_or c.fields 0) s (few c h) clear.small, clear)

-- what became of a line that was taken
taken_line : (r : Result (Unit {0}) ScriptError) (c : Context) (k : Content) (st s : Statement) (p : Progress) → (st ≡ s) × IsClear c s
    → OnOk r (context_shown p.context ≡ context_after c st) → OnOk r (kept_shown p.kept ≡ content_after c k st) → OnErr r (r ≡ Err errors.OutOfMemory) → LineAnswers r c k s p
taken_line (Ok u) c k st s p h context kept err = record { clear = h.1; context = context ∙ ap (context_after c) h.0; kept = kept ∙ ap (content_after c k) h.0 }
taken_line (Err e) c k st s p h context kept err = subst (λ (r : Result (Unit {0}) ScriptError). LineAnswers r c k s p) (sym err) tt

pub returns-in-Some : goal.returns-in-Some
returns-in-Some c s e = told_line c.in-Some.e (context_shown c.args.self.now.context) (said c.args.statement.now) s c.requires.sane c.in-Some.ensures e

pub take-requires-clause-clear : goal.take-requires-clause-clear
take-requires-clause-clear c = is_clear (context_shown c.args.self.now.context) (said c.args.statement.now) (sym c.in-None.ensures)

pub returns-in-None : goal.returns-in-None
returns-in-None c s e =
    taken_line c.take.result (context_shown c.args.self.now.context) (kept_shown c.args.self.now.kept) (said c.args.statement.now) s c.take.new.self
    (clear_line (context_shown c.args.self.now.context) (said c.args.statement.now) s c.requires.sane c.in-None.ensures e) c.take.ensures.context c.take.ensures.kept c.take.ensures.err
